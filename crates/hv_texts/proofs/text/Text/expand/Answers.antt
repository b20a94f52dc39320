use Rattle.std.proofs.Common.{length, refl}
use Rattle.hv_macros.specs.Laws.{HasOneBody-kept, IsTableOf-kept}
use Rattle.hv_texts.proofs.Passing.{expanding_end, expanding_fails, expanding_more, expanding_start, walk_now}
use Rattle.hv_texts.proofs.text.Text.expand.Goals as goal

pub loop-at-init : goal.loop-at-init
loop-at-init c =
    expanding_start c.args.store.now c.args.self.now.cond c.args.self.now.origin.now
    c.args.self.now.ends c.args.self.now.table.now c.args.self.now.run.now
    (length c.args.self.now.run.now) c.in_ok-walk.walk.given c.in_ok-walk.walk.reached.items
    c.in_ok-walk.walk.refusals c.requires.cond c.in_ok-walk.ensures.reached refl
    c.in_ok-walk.ensures.given c.in_ok-walk.ensures.refusals

pub pass-requires-clause-table : goal.pass-requires-clause-table
pass-requires-clause-table c =
    IsTableOf-kept c.loop-at.invariant.keeps c.args.self.now.table.now c.requires.table

pub pass-requires-clause-one_body : goal.pass-requires-clause-one_body
pass-requires-clause-one_body c =
    HasOneBody-kept c.loop-at.invariant.keeps c.args.self.now.table.now c.requires.table
    c.requires.one_body

pub pass-requires-clause-walk : goal.pass-requires-clause-walk
pass-requires-clause-walk c =
    walk_now c.args.store.now c.loop-at.store c.args.self.now.cond c.args.self.now.origin.now
    c.args.self.now.ends c.args.self.now.table.now c.args.self.now.run.now
    c.loop-at.at c.loop-at.walk.given c.loop-at.walk.reached.items c.loop-at.walk.refusals
    c.requires.table c.loop-at.invariant

pub loop-at-preserved : goal.loop-at-preserved
loop-at-preserved c =
    expanding_more c.args.store.now c.loop-at.store c.pass.new.store c.args.self.now.cond c.args.self.now.origin.now
    c.args.self.now.ends c.args.self.now.table.now c.args.self.now.run.now
    c.loop-at.at c.loop-at.walk.given c.pass.new.walk.given c.loop-at.walk.reached.items
    c.pass.new.walk.reached.items c.loop-at.walk.refusals c.pass.new.walk.refusals
    c.requires.table c.loop-at.invariant c.loop-at-test.true c.pass.ensures.keeps
    (rw c.in_default.is at c.in_ok-too_many.ensures.walk)

pub returns-in-Some-clause-found : goal.returns-in-Some-clause-found
returns-in-Some-clause-found c =
    expanding_fails c.args.store.now c.loop-at.store c.pass.new.store c.args.self.now.cond c.args.self.now.origin.now
    c.args.self.now.ends c.args.self.now.table.now c.args.self.now.run.now
    c.in-Some.too_many.place c.in-Some.too_many.conds c.loop-at.invariant.keeps c.requires.table
    (rw c.in-Some.is at c.in_ok-too_many.ensures.walk)

pub returns-clause-found : goal.returns-clause-found
returns-clause-found c =
    expanding_end c.args.store.now c.loop-at.store c.args.self.now.cond c.args.self.now.origin.now
    c.args.self.now.ends c.args.self.now.table.now c.args.self.now.run.now
    c.loop-at.at c.in_ok-finish.field-0 c.loop-at.walk.given c.loop-at.walk.reached.items
    c.loop-at.walk.refusals c.loop-at.invariant c.loop-at-test.false
    c.in_ok-finish.ensures.given c.in_ok-finish.ensures.failing c.in_ok-finish.ensures.good
