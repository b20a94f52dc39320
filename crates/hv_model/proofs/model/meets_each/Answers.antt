use Rattle.std.proofs.Common.{sym, ◌∙◌, ap}
use Rattle.hv_model.specs.Rule.{meets}
use Rattle.hv_model.specs.working.Steps.{rule_of}
use Rattle.hv_model.proofs.CondLemmas.{meets_all-false}
use Rattle.hv_model.proofs.model.meets_each.Goals as goal

pub returns-then-not-meets : goal.returns-then-not-meets
returns-then-not-meets c =
    meets_all-false c.args.values.now c.args.rules.now c.loop-rule.rule-index c.rule-item.result
    c.loop-rule-test.true
    (sym (ap (λ s. meets c.args.values.now (rule_of s)) c.rule-item.is)
    ∙ (sym c.meets.ensures ∙ c.if-not-meets.true))
