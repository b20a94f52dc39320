use Rattle.std.proofs.Common.{◌∙◌, ap}
use Rattle.hv_model.specs.Rule.{meets}
use Rattle.hv_model.specs.working.Steps.{rule_of}
use Rattle.hv_model.proofs.CondLemmas.{making_step, made_meaning, made_none}
use Rattle.hv_model.proofs.code.Code.cond.Goals as goal

pub loop-step-preserved : goal.loop-step-preserved
loop-step-preserved c =
    making_step c.args.store.now c.loop-step.store c.apply.new.store c.loop-step.stack
    c.apply.new.self c.deref-step-items.result.now c.loop-step.step-index _ c.loop-step.invariant
    c.loop-step-test.true
    c.in_ok-apply.ensures.keeps c.in_ok-apply.ensures.nodes c.in_ok-apply.ensures.meaning

pub returns-in-Some-clause-meaning : goal.returns-in-Some-clause-meaning
returns-in-Some-clause-meaning c = λ values.
    made_meaning c.args.store.now c.loop-step.store c.loop-step.stack c.pop.new.self c.in-Some.cond
    c.deref-step-items.result.now c.loop-step.step-index c.loop-step.invariant
    c.loop-step-test.false c.in-Some.ensures values
    ∙ ap (λ s. meets values (rule_of s)) (c.deref-step-items.ensures.value ∙ c.self.view_is)

pub returns-clause-meaning : goal.returns-clause-meaning
returns-clause-meaning c = λ values.
    made_none c.args.store.now c.loop-step.store c.loop-step.stack c.falsity.result
    c.deref-step-items.result.now c.loop-step.step-index c.loop-step.invariant
    c.loop-step-test.false c.in-None.ensures.0 c.falsity.ensures.meaning values
    ∙ ap (λ s. meets values (rule_of s)) (c.deref-step-items.ensures.value ∙ c.self.view_is)
