use Rattle.std.proofs.Common.{◌||◌}
use Rattle.hv_cond.specs.Diagram.{holds}
use Rattle.hv_model.proofs.CondLemmas.{pushed_nodes, pushed_meaning}
use Rattle.hv_model.proofs.conds.Conds.either.Goals as goal

pub or-requires-clause-first : goal.or-requires-clause-first
or-requires-clause-first c = (rw c.in-Some.ensures at c.requires).1.0

pub returns-clause-nodes : goal.returns-clause-nodes
returns-clause-nodes c =
    pushed_nodes c.push.result c.args.store.now c.or.new.self c.in_ok-either.either
    c.pop_two.new.self c.push.new.self c.in_ok-either.ensures.keeps
    (rw c.in-Some.ensures at c.requires).1.1 c.in_ok-either.ensures.node c.push.ensures

pub returns-clause-meaning : goal.returns-clause-meaning
returns-clause-meaning c =
    rw c.in-Some.ensures
    (pushed_meaning c.push.result c.args.store.now c.or.new.self c.in_ok-either.either
    c.pop_two.new.self c.push.new.self
    (λ values. holds c.args.store.now c.in-Some.left values ||
    holds c.args.store.now c.in-Some.right values)
    c.in_ok-either.ensures.keeps (rw c.in-Some.ensures at c.requires).1.1
    c.in_ok-either.ensures.meaning c.push.ensures)
