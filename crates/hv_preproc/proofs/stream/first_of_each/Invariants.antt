use Rattle.std.proofs.Common.{take}
use Rattle.hv_preproc.specs.working.Firsts.{AreFirst}
use Rattle.hv_preproc.proofs.stream.first_of_each.Given as goal

abbrev pub invariant-loop-cond : goal.invariant-loop-cond
invariant-loop-cond l = AreFirst l.store (take l.cond-index l.conds) l.configs
