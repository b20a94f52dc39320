use Rattle.std.proofs.Common.{◌||◌, not}
use Rattle.hv_cond.specs.Diagram.{holds}
use Rattle.hv_cond.specs.Laws.{Keeps-trans}
use Rattle.hv_model.proofs.CondLemmas.{pushed_nodes, pushed_meaning, implied_meaning}
use Rattle.hv_model.proofs.conds.Conds.implied.Goals as goal

pub not-requires : goal.not-requires
not-requires c = (rw c.in-Some.ensures at c.requires).1.0

pub returns-in_err-implied-clause-keeps : goal.returns-in_err-implied-clause-keeps
returns-in_err-implied-clause-keeps c =
    Keeps-trans c.in_ok-opposite.ensures.keeps c.or.ensures.keeps

pub returns-clause-keeps : goal.returns-clause-keeps
returns-clause-keeps c = Keeps-trans c.in_ok-opposite.ensures.keeps c.in_ok-implied.ensures.keeps

pub returns-clause-nodes : goal.returns-clause-nodes
returns-clause-nodes c =
    pushed_nodes c.push.result c.args.store.now c.or.new.self c.in_ok-implied.implied
    c.pop_two.new.self c.push.new.self
    (Keeps-trans c.in_ok-opposite.ensures.keeps c.in_ok-implied.ensures.keeps)
    (rw c.in-Some.ensures at c.requires).1.1 c.in_ok-implied.ensures.node c.push.ensures

pub returns-clause-meaning : goal.returns-clause-meaning
returns-clause-meaning c =
    rw c.in-Some.ensures
    (pushed_meaning c.push.result c.args.store.now c.or.new.self c.in_ok-implied.implied
    c.pop_two.new.self c.push.new.self
    (λ values. not (holds c.args.store.now c.in-Some.left values) ||
    holds c.args.store.now c.in-Some.right values)
    (Keeps-trans c.in_ok-opposite.ensures.keeps c.in_ok-implied.ensures.keeps)
    (rw c.in-Some.ensures at c.requires).1.1
    (implied_meaning c.args.store.now c.not.new.self c.or.new.self c.in-Some.left c.in-Some.right
    c.in_ok-opposite.opposite c.in_ok-implied.implied c.in_ok-opposite.ensures.keeps
    (rw c.in-Some.ensures at c.requires).0 c.in_ok-opposite.ensures.meaning
    c.in_ok-implied.ensures.meaning)
    c.push.ensures)
