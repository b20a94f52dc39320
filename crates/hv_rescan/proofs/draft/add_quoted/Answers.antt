use Rattle.std.proofs.Common.{◌++◌, ◌∷◌, [], ◌<◌, sym, ap, ◌∙◌, append_assoc, arith, length, get_or, take, List, ℕ}
use Rattle.hv_plain.specs.episode.Substitution.{escaped}
use Rattle.hv_rescan.proofs.Texts.{escaped_next}
use Rattle.hv_rescan.proofs.draft.add_quoted.Goals as goal

pub loop-byte-preserved : goal.loop-byte-preserved
loop-byte-preserved c =
    let h : c.loop-byte.byte-index < length c.args.bytes.now = omega arith in
    let b : ℕ = get_or c.args.bytes.now c.loop-byte.byte-index 0 in
    let front : List ℕ = take c.loop-byte.byte-index c.args.bytes.now in
    c.in_ok-add_escaped.ensures
    ∙ ap (λ (x : List ℕ). x ++ escaped (b ∷ [])) c.loop-byte.invariant
    ∙ append_assoc c.args.text.now (escaped front) (escaped (b ∷ []))
    ∙ ap (λ (x : List ℕ). c.args.text.now ++ x)
    (sym (escaped_next c.args.bytes.now c.loop-byte.byte-index 0 h))
