use Rattle.std.proofs.Common.{not}
use Rattle.hv_cond.specs.Diagram.{holds}
use Rattle.hv_model.proofs.CondLemmas.{pushed_nodes, pushed_meaning}
use Rattle.hv_model.proofs.conds.Conds.negate.Goals as goal

pub returns-clause-nodes : goal.returns-clause-nodes
returns-clause-nodes c =
    pushed_nodes c.push.result c.args.store.now c.not.new.self c.in_ok-opposite.opposite
    c.pop.new.self c.push.new.self c.in_ok-opposite.ensures.keeps
    (rw c.in-Some.ensures at c.requires).1 c.in_ok-opposite.ensures.node c.push.ensures

pub returns-clause-meaning : goal.returns-clause-meaning
returns-clause-meaning c =
    rw c.in-Some.ensures
    (pushed_meaning c.push.result c.args.store.now c.not.new.self c.in_ok-opposite.opposite
    c.pop.new.self c.push.new.self (λ values. not (holds c.args.store.now c.in-Some.cond values))
    c.in_ok-opposite.ensures.keeps (rw c.in-Some.ensures at c.requires).1
    c.in_ok-opposite.ensures.meaning c.push.ensures)
