-- The parts of a position.
use Rattle.std.proofs.Common.{◌≡◌, ℕ, zero, suc, ◌+◌, ◌<◌, List, [], ◌∷◌, ◌++◌, length, take, get_or, refl, sym, ◌∙◌, ap, arith, append_assoc, append-nil, add-one, decimal}
use Rattle.hv_base.specs.Ascii.{comma}
use Rattle.hv_cli.specs.Positions.{after_commas}

after_commas-more : (numbers : List ℕ) (i : ℕ) → i < length numbers
    → after_commas (take (suc i) numbers)
    ≡ after_commas (take i numbers) ++ comma ∷ decimal (get_or numbers i 0)
after_commas-more [] i h = absurd (omega arith)
after_commas-more (number ∷ numbers) zero h = ap (λ (t : List ℕ). comma ∷ t) (append-nil (decimal number))
after_commas-more (number ∷ numbers) (suc i) h =
    ap (λ (t : List ℕ). comma ∷ decimal number ++ t) (after_commas-more numbers i (omega arith))
    ∙ ap (λ (t : List ℕ). comma ∷ t)
    (sym (append_assoc (decimal number) (after_commas (take i numbers))
    (comma ∷ decimal (get_or numbers i 0))))

-- one more number after a comma
pub after_commas-add : (first numbers : List ℕ) (i : ℕ) (text with_comma now : List ℕ)
    → text ≡ first ++ after_commas (take i numbers) → i < length numbers
    → with_comma ≡ text ++ comma ∷ [] → now ≡ with_comma ++ decimal (get_or numbers i 0)
    → now ≡ first ++ after_commas (take (i + 1) numbers)
after_commas-add first numbers i text with_comma now before within comma_added added =
    added
    ∙ ap (λ (t : List ℕ). t ++ decimal (get_or numbers i 0)) comma_added
    ∙ append_assoc text (comma ∷ []) (decimal (get_or numbers i 0))
    ∙ ap (λ (t : List ℕ). t ++ comma ∷ decimal (get_or numbers i 0)) before
    ∙ append_assoc first (after_commas (take i numbers)) (comma ∷ decimal (get_or numbers i 0))
    ∙ ap (λ (t : List ℕ). first ++ t)
    (sym (after_commas-more numbers i within)
    ∙ ap (λ (k : ℕ). after_commas (take k numbers)) (sym (add-one i)))
