use Rattle.hv_preproc.proofs.Taken.{IsAnyOf}
use Rattle.hv_preproc.proofs.unit.any.Given as goal

abbrev pub invariant-loop-entry : goal.invariant-loop-entry
invariant-loop-entry l = IsAnyOf l.fn.store l.store l.failing l.entry-index l.cond
