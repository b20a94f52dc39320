-- The parts of a condition: what the alternatives of a name, outcomes, parts and slots have in
-- common.
use Rattle.std.specs.Prelude.{◌≡◌, ℕ, Bool, List, [], ◌∷◌, count_by, if◌then◌else◌}
use Rattle.hv_cond.specs.declared.conditions.Cond.{Cond}
use Rattle.hv_cond.specs.Diagram.{Diagram, AllNodes, IsNever, holds}

-- none of these conditions is false
abbrev pub NoneFalse : Diagram → List Cond → Type 0
NoneFalse diagram [] = Unit {0}
NoneFalse diagram (c ∷ conds) = (¬ IsNever diagram c) × NoneFalse diagram conds

-- how many of these conditions an assignment satisfies
abbrev pub count_satisfied : Diagram → List Cond → List Bool → ℕ
count_satisfied diagram conds values = count_by (λ c. holds diagram c values) conds

-- these conditions are the parts of c: none is false, and an assignment satisfies exactly one of
-- them where it satisfies c, and none where it doesn't; so no two parts hold together, and all
-- together are c
pub record IsPartition (diagram : Diagram) (c : Cond) (parts : List Cond) : Type 0 where
  pub nodes : AllNodes diagram parts
  pub none_false : NoneFalse diagram parts
  pub one : (values : List Bool)
      → count_satisfied diagram parts values ≡ (if holds diagram c values then 1 else 0)
