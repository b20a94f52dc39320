use Rattle.std.proofs.Common.{◌≤◌, ◌-◌}
use Rattle.hv_cond.specs.Diagram.{Keeps, holds}
use Rattle.hv_faces.specs.Faces.{IsClass}
use Rattle.hv_faces.proofs.Showing.{Agree}
use Rattle.hv_faces.proofs.tests.ShowsOptionsRuns.run.Given as goal

abbrev pub invariant-loop-option : goal.invariant-loop-option
invariant-loop-option l = record {
  keeps : Keeps l.fn.store l.store;
  few : l.option ≤ l.self.count;
  class : IsClass l.store (λ values. holds l.fn.store l.fn.cond values) (Agree l.option) l.found;
}

abbrev pub decreases-loop-option : goal.decreases-loop-option
decreases-loop-option l = l.self.count - l.option
