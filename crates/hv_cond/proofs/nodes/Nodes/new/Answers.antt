use Rattle.hv_cond.proofs.Tables.{IsReduced-empty}
use Rattle.hv_cond.proofs.nodes.Nodes.new.Goals as goal

pub returns-clause-reduced : goal.returns-clause-reduced
returns-clause-reduced c = IsReduced-empty _ c.new.ensures.items c.new-2.ensures
