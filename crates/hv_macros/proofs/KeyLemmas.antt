-- Look-ups by bytes in the entries of a map, behind an insertion.
use Rattle.std.proofs.Common.{◌≡◌, ℕ, Bool, true, false, List, [], ◌∷◌, refl, sym, ◌∙◌, ap, if◌then◌else◌}
use Rattle.std.specs.Prelude.{Option, Some, None}
use Rattle.std.specs.Bool.{Decides}
use Rattle.std.specs.Map.{lookup}
use Rattle.std.specs.Str.{bytes_eq}
use Rattle.std.proofs.lemmas.Bool.Decides.{same_from_decides}
use Rattle.std.proofs.lemmas.Slice.Eq.{bytes_eq-Decides}
use Rattle.indexmap.specs.IndexMap.{insert_entry}

bytes_eq-symm : (xs ys : List ℕ) → bytes_eq xs ys ≡ bytes_eq ys xs
bytes_eq-symm xs ys =
    same_from_decides (bytes_eq xs ys) (bytes_eq ys xs) (bytes_eq-Decides xs ys)
    (λ h. sym ((bytes_eq-Decides ys xs).0 h), λ e. (bytes_eq-Decides ys xs).1 (sym e))

pub put_entry : {K X : Type 0} (items : K → List ℕ) (es : List (K × X)) (key : K) (v : X)
    (other : List ℕ) → lookup (λ k. bytes_eq other (items k)) (insert_entry
    (λ x y. bytes_eq (items x) (items y)) es key v)
    ≡ (if bytes_eq (items key) other then Some v else lookup (λ k. bytes_eq other (items k)) es)
put_entry items [] key v other =
    ap (λ (b : Bool). if b then Some v else None) (bytes_eq-symm other (items key))
put_entry {K} {X} items (e ∷ es) key v other =
    step (bytes_eq (items key) (items e.0)) (bytes_eq-Decides (items key) (items e.0))
    (put_entry items es key v other)
  where
    twice : (p q : Bool) (x y z : Option X) → p ≡ q
        → (if q then x else z) ≡ (if p then x else (if q then y else z))
    twice true true x y z f = refl
    twice true false x y z f = cc
    twice false true x y z f = cc
    twice false false x y z f = refl

    swapped : (p q : Bool) (x y z : Option X) → Decides p (items key ≡ other)
        → Decides q (other ≡ items e.0) → (items key ≡ items e.0 → false ≡ true)
        → (if q then y else (if p then x else z)) ≡ (if p then x else (if q then y else z))
    swapped true true x y z d f apart = let h : false ≡ true = apart (d.0 refl ∙ f.0 refl) in cc
    swapped true false x y z d f apart = refl
    swapped false q x y z d f apart = refl

    step : (b : Bool) → Decides b (items key ≡ items e.0)
        → lookup (λ k. bytes_eq other (items k))
        (insert_entry (λ x y. bytes_eq (items x) (items y)) es key v)
        ≡ (if bytes_eq (items key) other then Some v else lookup (λ k. bytes_eq other (items k)) es)
        → lookup (λ k. bytes_eq other (items k))
        (if b then (e.0, v) ∷ es else e ∷ insert_entry (λ x y. bytes_eq (items x) (items y)) es key v)
        ≡ (if bytes_eq (items key) other then Some v else lookup (λ k. bytes_eq other (items k))
        (e ∷ es))
    step true same rest =
        twice (bytes_eq (items key) other) (bytes_eq other (items e.0)) (Some v) (Some e.1)
        (lookup (λ k. bytes_eq other (items k)) es)
        (ap (λ xs. bytes_eq xs other) (same.0 refl) ∙ bytes_eq-symm (items e.0) other)
    step false same rest =
        ap (λ (r : Option X). if bytes_eq other (items e.0) then Some e.1 else r) rest
        ∙ swapped (bytes_eq (items key) other) (bytes_eq other (items e.0)) (Some v) (Some e.1)
        (lookup (λ k. bytes_eq other (items k)) es) (bytes_eq-Decides (items key) other)
        (bytes_eq-Decides other (items e.0)) same.1
