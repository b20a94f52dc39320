use Rattle.std.proofs.Common.{sym, ◌∙◌}
use Rattle.hv_cond.proofs.Branches.{node_in-terminal}
use Rattle.std.proofs.lemmas.Bool.{cond-true, cond-false}
use Rattle.hv_cond.proofs.nodes.Nodes.node.Goals as goal

pub returns-in-None : goal.returns-in-None
returns-in-None c = sym (node_in-terminal _ c.args.c c.in-None.ensures.terminal ∙ cond-true _ _ _ (sym c.if-eq.ensures))

pub returns-in-None-2 : goal.returns-in-None-2
returns-in-None-2 c = sym (node_in-terminal _ c.args.c c.in-None.ensures.terminal ∙ cond-false _ _ _ (sym c.if-eq.ensures))
