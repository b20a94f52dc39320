use Rattle.hv_cond.specs.Laws.{Keeps-trans}
use Rattle.hv_macros.specs.Laws.{IsTableOf-kept}
use Rattle.hv_macros.proofs.tests.alternatives_in.Goals as goal

pub returns-in_err-cond-clause-nodes : goal.returns-in_err-cond-clause-nodes
returns-in_err-cond-clause-nodes c =
    IsTableOf-kept c.configuration.ensures.keeps c.args.table.now c.requires.nodes

pub alternatives-requires-clause-nodes : goal.alternatives-requires-clause-nodes
alternatives-requires-clause-nodes c =
    IsTableOf-kept c.configuration.ensures.keeps c.args.table.now c.requires.nodes

pub returns-clause-nodes : goal.returns-clause-nodes
returns-clause-nodes c =
    IsTableOf-kept (Keeps-trans c.configuration.ensures.keeps c.alternatives.ensures.keeps)
    c.args.table.now c.requires.nodes
