-- Messages, put together from their pieces.
use Rattle.std.proofs.Common.{◌≡◌, ◌++◌, List, ℕ, [], ◌∷◌, ◌∙◌, codes, append_assoc}
use Rattle.std.specs.Borrow.{Bor}
use Rattle.std.specs.List.{flat_map}
use Rattle.std.specs.Prelude.{Result, Ok, Err, IfOk}
use Rattle.hv_base.specs.declared.why.Why.{Why}
use Rattle.hv_cli.specs.Answer.{message_of, shown_cause, shown_position}
use Rattle.hv_cli.specs.declared.answer.Answer.TheVariants.{Fails}
use Rattle.hv_cli.specs.declared.position.Position.{Position}

five : (a b c d e : List ℕ) → a ++ (b ++ (c ++ (d ++ e))) ≡ a ++ b ++ c ++ d ++ e
five a b c d e = simp append_assoc

pub fails_joined : {E : Type 0} (result : Result (List ℕ) E) (a b c d e : Bor (List ℕ))
    (config : List ℕ) (position : Position) (why : Why)
    → a.now ≡ codes "hercules: fails config=" → b.now ≡ config
    → c.now ≡ shown_position position → d.now ≡ shown_cause why
    → e.now ≡ codes "\n"
    → IfOk result (λ text. text ≡ flat_map (λ piece. piece.now) (a ∷ b ∷ c ∷ d ∷ e ∷ []))
    → IfOk result (λ text. text ≡ message_of (Fails config position why))
fails_joined (Err x) a b c d e config position why p q r s t h = tt
fails_joined (Ok text) a b c d e config position why p q r s t h = h
    ∙ rw (p, q, r, s, t) (five (codes "hercules: fails config=") config (shown_position position)
    (shown_cause why) (codes "\n"))
