use Rattle.std.proofs.Common.{◌∙◌, sym}
use Rattle.hv_cond.specs.working.Nodes.{newest_first}
use Rattle.hv_cond.specs.working.Orders.{by_position}
use Rattle.hv_cond.proofs.Branches.{holds_in-terminal}
use Rattle.hv_cond.proofs.paths.eval.Goals as goal

pub returns : goal.returns
returns c =
    c.eq.ensures
    ∙ sym (holds_in-terminal (newest_first c.args.nodes.now) c.loop-decision.at (by_position c.args.order.now.variables.items c.args.values.now) c.in_default.ensures.terminal)
    ∙ c.loop-decision.invariant.1
