use Rattle.std.proofs.Common.{◌∙◌, ap}
use Rattle.hv_model.specs.Rule.{meets}
use Rattle.hv_model.specs.working.Steps.{rule_of}
use Rattle.hv_model.proofs.StepLemmas.{values-all, values-low, values-more}
use Rattle.hv_model.proofs.code.Code.meets.Goals as goal

pub apply-requires : goal.apply-requires
apply-requires c =
    values-low c.args.values.now c.loop-step.stack c.deref-step-items.result.now
    c.loop-step.step-index _ c.loop-step-test.true c.loop-step.invariant
    (rw c.deref-step-items.ensures.value c.self.invariant)

pub loop-step-preserved : goal.loop-step-preserved
loop-step-preserved c =
    c.apply.ensures ∙ values-more c.args.values.now c.loop-step.stack c.deref-step-items.result.now
    c.loop-step.step-index _ c.loop-step-test.true c.loop-step.invariant

pub returns : goal.returns
returns c =
    c.top.ensures
    ∙ (values-all c.args.values.now c.loop-step.stack c.deref-step-items.result.now
    c.loop-step.step-index c.loop-step-test.false c.loop-step.invariant
    ∙ ap (λ s. meets c.args.values.now (rule_of s))
    (c.deref-step-items.ensures.value ∙ c.self.view_is))
