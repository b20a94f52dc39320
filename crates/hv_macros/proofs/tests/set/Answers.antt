use Rattle.hv_macros.specs.Laws.{IsTableOf-kept}
use Rattle.hv_macros.proofs.tests.set.Goals as goal

pub returns-in_err-cond-clause-nodes : goal.returns-in_err-cond-clause-nodes
returns-in_err-cond-clause-nodes c = IsTableOf-kept c.var.ensures.keeps c.args.table.now c.requires.nodes

pub undef-requires-clause-nodes : goal.undef-requires-clause-nodes
undef-requires-clause-nodes c = IsTableOf-kept c.var.ensures.keeps c.args.table.now c.requires.nodes

pub define-requires-clause-nodes : goal.define-requires-clause-nodes
define-requires-clause-nodes c = IsTableOf-kept c.var.ensures.keeps c.args.table.now c.requires.nodes

pub returns-in_err-body-clause-nodes : goal.returns-in_err-body-clause-nodes
returns-in_err-body-clause-nodes c = IsTableOf-kept c.var.ensures.keeps c.args.table.now c.requires.nodes
