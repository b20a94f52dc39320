use Rattle.std.proofs.Common.{List, ◌∙◌, ap}
use Rattle.hv_model.specs.Rule.{meets}
use Rattle.hv_model.specs.declared.code.Step.{Step}
use Rattle.hv_model.specs.working.Steps.{rule_of}
use Rattle.hv_model.proofs.CondLemmas.{gathering_step}
use Rattle.hv_model.proofs.join.conditions.Goals as goal

pub loop-rule-preserved : goal.loop-rule-preserved
loop-rule-preserved c =
    rw c.in_ok-push.ensures.items
    (gathering_step c.args.store.now c.loop-rule.store c.cond.new.store c.loop-rule.found.items
    c.in_ok-met.met c.args.rules.now c.loop-rule.rule-index c.rule-item.result
    c.loop-rule.invariant c.loop-rule-test.true c.in_ok-met.ensures.keeps
    c.in_ok-met.ensures.node (λ values. c.in_ok-met.ensures.meaning values
    ∙ ap (λ (r : List Step). meets values (rule_of r)) c.rule-item.is))
