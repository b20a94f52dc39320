-- Outcomes of classes, numbered in order.
use Rattle.std.proofs.Common.{ℕ, suc, ◌≡◌, ◌+◌, refl, ap, ◌∙◌, Bool, List, [], ◌∷◌, ◌++◌, length, arith}
use Rattle.std.specs.List.{All, AllByRecursion}
use Rattle.std.proofs.lemmas.List.Elements.{All-from_recursion}
use Rattle.hv_cond.specs.Diagram.{Diagram}
use Rattle.hv_cond.specs.declared.conditions.Cond.{Cond}
use Rattle.hv_faces.specs.Faces.{AllClasses, IsClassWith}
use Rattle.hv_faces.specs.Faces as faces
use Rattle.hv_faces.specs.declared.class.Class.{Class}
use Rattle.hv_faces.specs.declared.class.ClassesFault.{ClassesFault}
use Rattle.hv_faces.specs.declared.class.ClassesFault.TheVariants as classes_fault
use Rattle.hv_expand.specs.Outcomes.{AreNumbered, IfTooMany, conditions}
use Rattle.hv_expand.specs.declared.outcome.Ending.{Ending}
use Rattle.hv_expand.specs.declared.outcome.Outcome.{Outcome}
use Rattle.hv_expand.specs.working.Numbers.{fault_of, numbered, outcome_of}

pub numbered_append : (n : ℕ) (xs : List (Class Ending)) (x : Class Ending)
    → numbered n (xs ++ x ∷ []) ≡ numbered n xs ++ outcome_of (n + length xs) x ∷ []
numbered_append n [] x = ap (λ (i : ℕ). outcome_of i x ∷ []) (omega arith)
numbered_append n (y ∷ xs) x =
    ap (λ (os : List Outcome). outcome_of n y ∷ os) (numbered_append (n + 1) xs x
    ∙ ap (λ (i : ℕ). numbered (n + 1) xs ++ outcome_of i x ∷ []) (omega arith))

pub conditions_of : (n : ℕ) (classes : List (Class Ending))
    → conditions (numbered n classes) ≡ faces.conditions classes
conditions_of n [] = refl
conditions_of n (x ∷ classes) = ap (λ (cs : List Cond). x.cond ∷ cs) (conditions_of (n + 1) classes)

pub are_numbered : (n : ℕ) (classes : List (Class Ending)) → AreNumbered n (numbered n classes)
are_numbered n [] = tt
are_numbered n (x ∷ classes) = (refl, are_numbered (n + 1) classes)

pub length_of : (n : ℕ) (classes : List (Class Ending))
    → length (numbered n classes) ≡ length classes
length_of n [] = refl
length_of n (x ∷ classes) = ap suc (length_of (n + 1) classes)

------ what each class says of its outcome

-- what is so of each class is so of its outcome
each : (P : Class Ending → Type 0) (Q : Outcome → Type 0)
    → ((n : ℕ) (x : Class Ending) → P x → Q (outcome_of n x)) → (n : ℕ)
    → (classes : List (Class Ending)) → AllByRecursion P classes → AllByRecursion Q (numbered n classes)
each P Q f n [] all = tt
each P Q f n (x ∷ classes) all = (f n x all.0, each P Q f (n + 1) classes all.1)

-- what is so of an outcome of each class
pub from_classes : (d : Diagram) (of : List Bool → Bool) (same : List Bool → List Bool → Type 0)
    (is_right : Ending → List Bool → Type 0) (Q : Outcome → Type 0)
    → ((n : ℕ) (x : Class Ending) → IsClassWith d of same is_right x → Q (outcome_of n x))
    → (classes : List (Class Ending)) → AllClasses d of same is_right classes
    → All Q (numbered 0 classes)
from_classes d of same is_right Q f classes all =
    All-from_recursion Q (numbered 0 classes)
    (each (IsClassWith d of same is_right) Q f 0 classes (of_classes classes all))
  where
    of_classes : (classes : List (Class Ending)) → AllClasses d of same is_right classes
        → AllByRecursion (IsClassWith d of same is_right) classes
    of_classes [] all = tt
    of_classes (x ∷ classes) all = (all.0, of_classes classes all.1)

------ faults

pub too_many_of : (P : List Cond → Type 0) (fault : ClassesFault) → faces.IfTooMany P fault
    → IfTooMany P (fault_of fault)
too_many_of P (classes_fault.TooMany conds) p = p
too_many_of P classes_fault.Memory p = tt
