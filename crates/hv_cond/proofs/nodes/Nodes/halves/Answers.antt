use Rattle.std.proofs.Common.{arith}
use Rattle.hv_cond.specs.working.Nodes.{newest_first}
use Rattle.hv_cond.proofs.Branches.{level-terminal}
use Rattle.hv_cond.proofs.Tables.{IsHalves-whole}
use Rattle.hv_cond.proofs.nodes.Nodes.halves.Goals as goal

pub returns-in_default : goal.returns-in_default
returns-in_default c =
    let s = c.args.self.now in
    let e = level-terminal s.variables (newest_first s) c.args.c c.in_default.ensures.terminal in
    IsHalves-whole _ _ c.args.c c.args.variable (omega (arith, c.requires.in_range))
