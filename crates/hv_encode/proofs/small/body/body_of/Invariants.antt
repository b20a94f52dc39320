use Rattle.std.proofs.Common.{length}
use Rattle.hv_encode.proofs.Bodies.{IsRead}
use Rattle.hv_encode.proofs.small.body.body_of.Given as goal

abbrev pub invariant-loop-line : goal.invariant-loop-line
invariant-loop-line l = IsRead l.model.names l.fn.text l.rest l.lines.items

abbrev pub decreases-loop-line : goal.decreases-loop-line
decreases-loop-line l = length l.rest
