use Rattle.hv_cond.specs.Diagram.{value_of}
use Rattle.hv_model.proofs.CondLemmas.{pushed_nodes, pushed_meaning}
use Rattle.hv_model.proofs.conds.Conds.option.Goals as goal

pub returns-clause-nodes : goal.returns-clause-nodes
returns-clause-nodes c =
    pushed_nodes c.push.result c.args.store.now c.var.new.self c.in_ok-cond.cond c.args.self.now
    c.push.new.self c.in_ok-cond.ensures.keeps c.requires.nodes c.in_ok-cond.ensures.node
    c.push.ensures

pub returns-clause-meaning : goal.returns-clause-meaning
returns-clause-meaning c =
    pushed_meaning c.push.result c.args.store.now c.var.new.self c.in_ok-cond.cond c.args.self.now
    c.push.new.self (λ values. value_of values c.args.i)
    c.in_ok-cond.ensures.keeps c.requires.nodes c.in_ok-cond.ensures.meaning c.push.ensures
