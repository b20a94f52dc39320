use Rattle.hv_expand.specs.Plain.{meanings}
use Rattle.hv_expand.proofs.PlainRuns.{IsPlainRun}
use Rattle.hv_expand.proofs.plain.plain_episode.Given as goal

abbrev pub invariant-loop-settled : goal.invariant-loop-settled
invariant-loop-settled l =
    IsPlainRun l.fn.ends l.fn.run l.fn.at (meanings l.fn.entries) l.machine l.left

abbrev pub decreases-loop-settled : goal.decreases-loop-settled
decreases-loop-settled l = l.left
