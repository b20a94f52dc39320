-- The order in which places are reached.
use Rattle.std.proofs.Common.{◌≡◌, ◌<◌, ◌≤◌, ◌⊎◌, ℕ, List, [], ◌∷◌, ◌++◌, refl, sym, ◌∙◌, inl, inr, subst, ap, arith}
use Rattle.hv_base.specs.declared.place.Place.{Place}
use Rattle.hv_preproc.specs.working.Keys.{IsBefore, IsUntil, key}

------ IsBefore

pub IsBefore-trans : (a b c : List ℕ) → IsBefore a b → IsBefore b c → IsBefore a c
IsBefore-trans [] [] c p q = absurd p
IsBefore-trans [] (y ∷ ys) [] p q = absurd q
IsBefore-trans [] (y ∷ ys) (z ∷ zs) p q = tt
IsBefore-trans (x ∷ xs) [] c p q = absurd p
IsBefore-trans (x ∷ xs) (y ∷ ys) [] p q = absurd q
IsBefore-trans (x ∷ xs) (y ∷ ys) (z ∷ zs) (inl p) (inl q) = inl (omega (arith, p, q))
IsBefore-trans (x ∷ xs) (y ∷ ys) (z ∷ zs) (inl p) (inr q) = inl (omega (arith, p, q.0))
IsBefore-trans (x ∷ xs) (y ∷ ys) (z ∷ zs) (inr p) (inl q) = inl (omega (arith, p.0, q))
IsBefore-trans (x ∷ xs) (y ∷ ys) (z ∷ zs) (inr p) (inr q) =
    inr (p.0 ∙ q.0, IsBefore-trans xs ys zs p.1 q.1)

-- nothing stands before itself
pub IsBefore-irreflexive : (a : List ℕ) → ¬ IsBefore a a
IsBefore-irreflexive [] p = p
IsBefore-irreflexive (x ∷ xs) (inl p) = absurd (omega (arith, p))
IsBefore-irreflexive (x ∷ xs) (inr p) = IsBefore-irreflexive xs p.1

-- and what stands before is another
pub IsBefore-other : (a b : List ℕ) → IsBefore a b → ¬ (a ≡ b)
IsBefore-other a b p e =
    IsBefore-irreflexive b (subst (λ (xs : List ℕ). IsBefore xs b) e p)

-- what the same offsets lead to keeps its order
pub IsBefore-within : (stack a b : List ℕ) → IsBefore a b → IsBefore (stack ++ a) (stack ++ b)
IsBefore-within [] a b p = p
IsBefore-within (x ∷ stack) a b p = inr (refl, IsBefore-within stack a b p)

-- of one file what has the lower offset stands before the other, with all that it leads to
pub IsBefore-lower : (stack : List ℕ) (low high : ℕ) (more : List ℕ) → low < high
    → IsBefore (stack ++ low ∷ more) (stack ++ high ∷ [])
IsBefore-lower stack low high more p =
    IsBefore-within stack (low ∷ more) (high ∷ []) (inl p)

-- an `#include` stands before what it leads to
pub IsBefore-longer : (stack : List ℕ) (hash offset : ℕ) (more : List ℕ)
    → IsBefore (stack ++ hash ∷ []) (stack ++ hash ∷ offset ∷ more)
IsBefore-longer stack hash offset more =
    IsBefore-within stack (hash ∷ []) (hash ∷ offset ∷ more) (inr (refl, tt))

------ IsUntil

pub IsUntil-before : (a b c : List ℕ) → IsBefore a b → IsUntil b c → IsBefore a c
IsUntil-before a b c p (inl e) = subst (λ (xs : List ℕ). IsBefore a xs) e p
IsUntil-before a b c p (inr q) = IsBefore-trans a b c p q

------ places

-- places that are reached at different times are different
pub keys_differ : (p q : Place) → IsBefore (key p) (key q) → ¬ (p ≡ q)
keys_differ p q before e = IsBefore-other (key p) (key q) before (ap key e)
