use Rattle.std.proofs.Common.{arith}
use Rattle.hv_cond.proofs.Tables.{branch_at_place}
use Rattle.hv_cond.proofs.nodes.Nodes.decision.Goals as goal

pub returns-clause-branch : goal.returns-clause-branch
returns-clause-branch c =
    let s = c.args.self.now in
    branch_at_place s.variables s.decisions.items c.requires.reduced.ordered c.args.c c.requires.node (omega arith) c.index.result.now c.index.ensures
