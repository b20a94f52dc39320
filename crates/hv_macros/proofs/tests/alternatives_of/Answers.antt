use Rattle.hv_macros.specs.Laws.{IsTableOf-kept}
use Rattle.hv_macros.proofs.tests.alternatives_of.Goals as goal

pub returns-clause-nodes : goal.returns-clause-nodes
returns-clause-nodes c = IsTableOf-kept c.alternatives.ensures.keeps c.args.table.now c.requires.nodes
