use Rattle.std.proofs.Common.{◌≡◌, ◌<◌}
use Rattle.hv_cond.specs.Diagram.{holds_in, top}
use Rattle.hv_cond.specs.working.Nodes.{newest_first}
use Rattle.hv_cond.specs.working.Orders.{by_position}
use Rattle.hv_cond.proofs.paths.eval.Given as goal

abbrev pub invariant-loop-decision : goal.invariant-loop-decision
invariant-loop-decision l =
    (l.at.index < top (newest_first l.nodes))
    × (holds_in (newest_first l.nodes) l.at (by_position l.order.variables.items l.values)
    ≡ holds_in (newest_first l.nodes) l.fn.c (by_position l.order.variables.items l.values))

abbrev pub decreases-loop-decision : goal.decreases-loop-decision
decreases-loop-decision l = l.at.index
