use Rattle.hv_preproc.proofs.Taken.{IsRefusing}
use Rattle.hv_preproc.proofs.unit.refuse_all.Given as goal

abbrev pub invariant-loop-entry : goal.invariant-loop-entry
invariant-loop-entry l =
    IsRefusing l.fn.store l.store l.fn.refusals l.refusals l.failing l.entry-index
