use Rattle.std.proofs.Common.{◌∙◌, ap}
use Rattle.hv_model.specs.declared.code.Step.TheVariants.{Not}
use Rattle.hv_model.specs.working.Steps.{items_of, negated}
use Rattle.hv_model.proofs.StepLemmas.{items_of-push, negated_times-after}
use Rattle.hv_model.proofs.code.Code.negate.Goals as goal

pub loop-preserved : goal.loop-preserved
loop-preserved c =
    ap items_of c.in_ok-operate.ensures
    ∙ (items_of-push c.loop.self Not
    ∙ (ap negated c.loop.invariant ∙ negated_times-after c.loop.counter (items_of c.args.self.now)))
