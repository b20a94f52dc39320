use Rattle.std.proofs.Common.{◌≤◌, ◌-◌, ◌+◌, length}
use Rattle.hv_base.specs.declared.limits.TheConstants.{MOST_FACES}
use Rattle.hv_faces.proofs.Gathering.{IsGathered}
use Rattle.hv_faces.proofs.classes.collect.Given as goal

abbrev pub invariant-gather : goal.invariant-gather
invariant-gather g l = record {
  good : g.R.Runs.is_good l.store l.runs;
  gathered : IsGathered l.fn.store l.store l.fn.cond l.rest (g.R.Runs.same_face l.fn.store l.runs)
      (g.R.Runs.is_right l.fn.store l.runs) l.classes;
  few : length l.classes ≤ MOST_FACES;
}

abbrev pub decreases-gather : goal.decreases-gather
decreases-gather g l = MOST_FACES + 1 - length l.classes
