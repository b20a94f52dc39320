use Rattle.std.proofs.Common.{sym}
use Rattle.hv_cond.proofs.Branches.{level-terminal}
use Rattle.hv_cond.proofs.nodes.Nodes.level.Goals as goal

pub returns-in-None : goal.returns-in-None
returns-in-None c = sym (level-terminal _ _ c.args.c c.in-None.ensures.terminal)
