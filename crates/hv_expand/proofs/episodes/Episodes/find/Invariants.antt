use Rattle.hv_expand.proofs.Running.{IsRunning}
use Rattle.hv_expand.proofs.episodes.Episodes.find.Given as goal

abbrev pub invariant-loop-part : goal.invariant-loop-part
invariant-loop-part l =
    IsRunning l.fn.store l.store l.self l.fn.cond l.machine l.cond l.left

abbrev pub decreases-loop-part : goal.decreases-loop-part
decreases-loop-part l = l.left
