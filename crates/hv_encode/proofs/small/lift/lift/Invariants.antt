use Rattle.hv_encode.proofs.LiftingLemmas.{IsLiftedTo}
use Rattle.hv_encode.proofs.small.lift.lift.Given as goal

-- the lines so far are lifted
abbrev pub invariant-loop-line : goal.invariant-loop-line
invariant-loop-line l = IsLiftedTo l.fn.diagram l.diagram l.lines l.line-index l.lifting
