use Rattle.std.proofs.Common.{length}
use Rattle.hv_rescan.specs.Values.{open_names}
use Rattle.hv_expand.proofs.Settling.{IsSettling}
use Rattle.hv_expand.proofs.episodes.Episodes.settle.Given as goal

abbrev pub invariant-loop-machine : goal.invariant-loop-machine
invariant-loop-machine l =
    IsSettling l.fn.store l.store l.self l.fn.machine l.fn.cond l.machine l.cond

abbrev pub decreases-loop-machine : goal.decreases-loop-machine
decreases-loop-machine l = length (open_names l.machine)
