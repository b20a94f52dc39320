-- Outcomes of classes, numbered in order, and the fault of finding none.
use Rattle.std.specs.Prelude.{ℕ, ◌+◌, List, [], ◌∷◌}
use Rattle.hv_faces.specs.declared.class.Class.{Class}
use Rattle.hv_faces.specs.declared.class.ClassesFault.{ClassesFault}
use Rattle.hv_faces.specs.declared.class.ClassesFault.TheVariants as classes_fault
use Rattle.hv_expand.specs.declared.outcome.Ending.{Ending}
use Rattle.hv_expand.specs.declared.outcome.ExpandFault.{ExpandFault}
use Rattle.hv_expand.specs.declared.outcome.ExpandFault.TheVariants as expand_fault
use Rattle.hv_expand.specs.declared.outcome.Outcome.{Outcome}

-- the outcome of a class, with this number
abbrev pub outcome_of : ℕ → Class Ending → Outcome
outcome_of n found = record {
  cond = found.cond;
  face = n;
  result = found.value.result;
  end = found.value.end;
}

-- outcomes of classes, numbered from this one on
abbrev pub numbered : ℕ → List (Class Ending) → List Outcome
numbered n [] = []
numbered n (found ∷ classes) = outcome_of n found ∷ numbered (n + 1) classes

-- the fault of finding no classes
abbrev pub fault_of : ClassesFault → ExpandFault
fault_of (classes_fault.TooMany conds) = expand_fault.TooMany conds
fault_of classes_fault.Memory = expand_fault.Memory
