-- Comments, one byte on.
use Rattle.std.proofs.Common.{◌≡◌, ℕ, ◌+◌, ◌≤◌, true, false, List, [], ◌∷◌, refl, ◌∙◌, ap, arith, length}
use Rattle.std.specs.Prelude.{nat_eq, codes}
use Rattle.std.specs.List.{starts_with}
use Rattle.hv_toks.specs.Cutting.{closing_len}
use Rattle.hv_lexer.specs.working.Lengths.{one_more}
use Rattle.hv_lexer.proofs.ByteTests.{not_both}
use Rattle.hv_lexer.proofs.LongestLemmas.{shifted, shifted-more}

closing-cons : (x : ℕ) (xs : List ℕ) → starts_with nat_eq (x ∷ xs) (codes "*/") ≡ false
    → closing_len (x ∷ xs) ≡ one_more (closing_len xs)
closing-cons x xs e = rw e refl

pub closing-step : (i x : ℕ) (xs : List ℕ) → starts_with nat_eq (x ∷ xs) (codes "*/") ≡ false
    → shifted i (closing_len (x ∷ xs)) ≡ shifted (i + 1) (closing_len xs)
closing-step i x xs e = ap (shifted i) (closing-cons x xs e) ∙ shifted-more i _

pub closing-long : (text : List ℕ) → starts_with nat_eq text (codes "*/") ≡ true → 2 ≤ length text
closing-long [] e = absurd (cc)
closing-long (x ∷ []) e = absurd (not_both _ e)
closing-long (x ∷ y ∷ rest) e = omega arith
