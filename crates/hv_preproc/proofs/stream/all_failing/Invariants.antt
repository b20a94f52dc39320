use Rattle.std.proofs.Common.{take}
use Rattle.hv_cond.specs.Diagram.{Keeps}
use Rattle.hv_given.specs.Refusals.{AreRefusals}
use Rattle.hv_preproc.specs.working.Wholes.{CountsBoth, RefusesBoth}
use Rattle.hv_preproc.proofs.stream.all_failing.Given as goal

abbrev pub invariant-loop-entry : goal.invariant-loop-entry
invariant-loop-entry l = record {
  keeps : Keeps l.fn.store l.store;
  entries : AreRefusals l.store l.refusals;
  refused : RefusesBoth l.fn.store l.store l.fn.refusals (take l.entry-index l.failing) l.refusals;
  counted : CountsBoth l.fn.store l.store l.fn.refusals (take l.entry-index l.failing) l.refusals;
}
