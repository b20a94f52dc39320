-- Lists in general: what the lemmas of hv_base leave out.
use Rattle.std.proofs.Common.{◌≡◌, Bool, ◌&&◌, List, [], ◌∷◌, ◌++◌, refl, sym}
use Rattle.std.specs.List.{list_all}
use Rattle.hv_base.proofs.Booleans.{and_assoc}

pub list_all-append : {X : Type 0} (p : X → Bool) (xs ys : List X)
    → list_all p (xs ++ ys) ≡ (list_all p xs && list_all p ys)
list_all-append p [] ys = refl
list_all-append p (x ∷ xs) ys =
    rw (list_all-append p xs ys) (sym (and_assoc (p x) (list_all p xs) (list_all p ys)))
