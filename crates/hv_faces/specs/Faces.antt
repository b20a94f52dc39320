-- Classes of a condition's configurations that have one face. A face is what can be seen of a
-- configuration's run; here it is known only by a relation, `same values others`: these two
-- configurations have one face. Not in here: what a run is and what is seen of it.
use Rattle.std.specs.Prelude.{◌≡◌, ◌+◌, ◌↔◌, Bool, true, List, [], ◌∷◌, length, map}
use Rattle.hv_base.specs.declared.limits.TheConstants.{MOST_FACES}
use Rattle.hv_cond.specs.Diagram.{Diagram, IsNode, IsNever, holds}
use Rattle.hv_cond.specs.Parts.{IsPartition}
use Rattle.hv_cond.specs.declared.conditions.Cond.{Cond}
use Rattle.hv_faces.specs.declared.class.Class.{Class}
use Rattle.hv_faces.specs.declared.class.ClassesFault.{ClassesFault}
use Rattle.hv_faces.specs.declared.class.ClassesFault.TheVariants.{TooMany, Memory}

------ conditions

-- a condition that can hold, and holds only where a test does
pub record IsWithin (diagram : Diagram) (of : List Bool → Bool) (c : Cond) : Type 0 where
  pub node : IsNode diagram c
  pub possible : ¬ IsNever diagram c
  pub within : (values : List Bool) → holds diagram c values ≡ true → of values ≡ true

-- of those configurations in which a test holds, a condition holds in exactly those that have one
-- face. It holds somewhere, and nowhere else
pub record IsClass (diagram : Diagram) (of : List Bool → Bool)
    (same : List Bool → List Bool → Type 0) (c : Cond) : Type 0 where
  pub lies : IsWithin diagram of c
  pub exact : (values others : List Bool) → holds diagram c values ≡ true → of others ≡ true
      → (holds diagram c others ≡ true) ↔ same values others

-- each of a list lies within a test
abbrev pub AllWithin : Diagram → (List Bool → Bool) → List Cond → Type 0
AllWithin diagram of [] = Unit {0}
AllWithin diagram of (c ∷ conds) = IsWithin diagram of c × AllWithin diagram of conds

-- no configuration of one condition has the face of one of the other
abbrev pub DifferInFace : Diagram → (List Bool → List Bool → Type 0) → Cond → Cond → Type 0
DifferInFace diagram same c d = (values others : List Bool)
    → holds diagram c values ≡ true → holds diagram d others ≡ true → ¬ same values others

-- the same of a condition and each of a list
abbrev pub DiffersFromAll : Diagram → (List Bool → List Bool → Type 0) → Cond → List Cond → Type 0
DiffersFromAll diagram same c [] = Unit {0}
DiffersFromAll diagram same c (d ∷ conds) =
    DifferInFace diagram same c d × DiffersFromAll diagram same c conds

-- the same of any two of a list
abbrev pub AllDiffer : Diagram → (List Bool → List Bool → Type 0) → List Cond → Type 0
AllDiffer diagram same [] = Unit {0}
AllDiffer diagram same (c ∷ conds) =
    DiffersFromAll diagram same c conds × AllDiffer diagram same conds

------ classes

-- a class with its value: that of each of its configurations
pub record IsClassWith {V : Type 0} (diagram : Diagram) (of : List Bool → Bool)
    (same : List Bool → List Bool → Type 0) (is_right : V → List Bool → Type 0)
    (found : Class V) : Type 0 where
  pub class : IsClass diagram of same found.cond
  pub right : (values : List Bool) → holds diagram found.cond values ≡ true
      → is_right found.value values

-- the same of each of a list
abbrev pub AllClasses : {V : Type 0} → Diagram → (List Bool → Bool)
    → (List Bool → List Bool → Type 0) → (V → List Bool → Type 0) → List (Class V) → Type 0
AllClasses diagram of same is_right [] = Unit {0}
AllClasses diagram of same is_right (found ∷ classes) =
    IsClassWith diagram of same is_right found × AllClasses diagram of same is_right classes

-- the conditions of classes, in order
abbrev pub conditions : {V : Type 0} → List (Class V) → List Cond
conditions {V} classes = map (λ (found : Class V). found.cond) classes

-- the classes of the configurations of a condition: none has a false condition, and each
-- configuration of the condition, and no other, is in exactly one
pub record AreClasses {V : Type 0} (diagram : Diagram) (c : Cond)
    (same : List Bool → List Bool → Type 0) (is_right : V → List Bool → Type 0)
    (classes : List (Class V)) : Type 0 where
  pub each : AllClasses diagram (λ values. holds diagram c values) same is_right classes
  pub parts : IsPartition diagram c (conditions classes)

------ too many

-- the configurations of a condition have more faces than are allowed: so many conditions and one
-- more hold within it, and no configurations of two of them have one face
pub record AreTooMany (diagram : Diagram) (c : Cond) (same : List Bool → List Bool → Type 0)
    (conds : List Cond) : Type 0 where
  pub count : length conds ≡ MOST_FACES + 1
  pub within : AllWithin diagram (λ values. holds diagram c values) conds
  pub differ : AllDiffer diagram same conds

-- what is said of the conditions of `TooMany`; nothing where memory ran out
abbrev pub IfTooMany : (List Cond → Type 0) → ClassesFault → Type 0
IfTooMany P (TooMany conds) = P conds
IfTooMany P Memory = Unit {0}
