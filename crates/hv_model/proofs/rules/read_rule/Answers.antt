use Rattle.std.proofs.lemmas.Result.{IfOk-weaker}
use Rattle.hv_model.specs.working.Said.{said}
use Rattle.hv_model.proofs.ReadRule.{reading_room, reading_step, reading_stuck, reading_none, reading_some, reading_about, IfOk-both, taken_stuck, taken_went}
use Rattle.hv_model.proofs.rules.read_rule.Goals as goal

pub take-requires : goal.take-requires
take-requires c =
    reading_room c.args.names.now c.args.text.now c.loop-token.rest.now c.loop-token.parser
    c.loop-token.invariant

pub returns-then-not-branch-clause-none : goal.returns-then-not-branch-clause-none
returns-then-not-branch-clause-none c =
    reading_stuck c.args.names.now c.args.text.now c.loop-token.rest.now c.in-Some.more.now
    c.loop-token.parser (said c.in-Some.token) c.loop-token.invariant c.in-Some.ensures.some
    (taken_stuck _ _ _ c.in_ok-take.ensures c.if-not-branch.true)

pub loop-token-preserved : goal.loop-token-preserved
loop-token-preserved c =
    reading_step c.args.names.now c.args.text.now c.loop-token.rest.now c.in-Some.more.now
    c.loop-token.parser c.take.new.self (said c.in-Some.token) c.loop-token.invariant
    c.in-Some.ensures.some
    (taken_went _ _ _ c.in_ok-take.ensures c.if-not-branch.false)

pub returns-clause-rule : goal.returns-clause-rule
returns-clause-rule c =
    IfOk-weaker _ _ _ (λ code s. reading_some c.args.names.now c.args.text.now c.loop-token.rest.now
    c.loop-token.parser code c.loop-token.invariant c.in_default.ensures.none s)
    c.finish.ensures.said

pub returns-clause-none : goal.returns-clause-none
returns-clause-none c =
    IfOk-weaker _ _ _ (λ code s. reading_none c.args.names.now c.args.text.now c.loop-token.rest.now
    c.loop-token.parser code c.loop-token.invariant c.in_default.ensures.none s)
    c.finish.ensures.said

pub returns-clause-about : goal.returns-clause-about
returns-clause-about c =
    IfOk-both c.finish.result _ _ _
    (λ code s t. reading_about c.args.names.now c.args.text.now c.loop-token.rest.now
    c.loop-token.parser code c.loop-token.invariant c.in_default.ensures.none s t)
    c.finish.ensures.said c.finish.ensures.items
