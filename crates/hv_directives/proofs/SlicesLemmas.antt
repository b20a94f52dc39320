-- Lists that begin or end with certain elements, as a slice's pattern finds them.
use Rattle.std.proofs.Common.{◌≡◌, ◌∙◌, ◌-◌, ◌≤◌, List, [], ◌∷◌, sym, ap, arith, length, take, drop, get_or}
use Rattle.hv_base.proofs.Lists.{take-rest}

cons_of : {X : Type 0} (xs : List X) (x : X) → 1 ≤ length xs → x ≡ get_or xs 0 x
    → xs ≡ x ∷ drop 1 xs
cons_of [] x h e = absurd (omega arith)
cons_of (y ∷ ys) x h e = ap (λ z. z ∷ ys) (sym e)

cons_two_of : {X : Type 0} (xs : List X) (x y : X) → 2 ≤ length xs → x ≡ get_or xs 0 x
    → y ≡ get_or xs 1 y → xs ≡ x ∷ y ∷ drop 2 xs
cons_two_of [] x y h e f = absurd (omega arith)
cons_two_of (u ∷ []) x y h e f = absurd (omega arith)
cons_two_of (u ∷ v ∷ zs) x y h e f =
    ap (λ z. z ∷ v ∷ zs) (sym e) ∙ ap (λ z. x ∷ z ∷ zs) (sym f)

-- `[x, rest @ ..]`
pub one_first : {X : Type 0} (xs : List X) (x : X) → 1 ≤ length xs → x ≡ get_or xs 0 x
    → xs ≡ x ∷ take (length xs - 1) (drop 1 xs)
one_first xs x h e = cons_of xs x h e ∙ ap (λ ys. x ∷ ys) (sym (take-rest 1 xs))

-- `[x, y, rest @ ..]`
pub two_first : {X : Type 0} (xs : List X) (x y : X) → 2 ≤ length xs → x ≡ get_or xs 0 x
    → y ≡ get_or xs 1 y → xs ≡ x ∷ y ∷ take (length xs - 2) (drop 2 xs)
two_first xs x y h e f =
    cons_two_of xs x y h e f ∙ ap (λ zs. x ∷ y ∷ zs) (sym (take-rest 2 xs))
