use Rattle.std.proofs.Common.{◌∙◌, subst, Bool, Option}
use Rattle.hv_expand.specs.Plain.{meanings}
use Rattle.hv_expand.specs.working.PlainSteps.{IsPlainDigit}
use Rattle.hv_expand.proofs.plain.settle.Goals as goal

pub loop-machine-preserved : goal.loop-machine-preserved
loop-machine-preserved c =
    let told = subst (λ (x : Option Bool). IsPlainDigit (meanings c.args.entries.now)
    c.loop-machine.machine x) c.in-Some.is c.in_ok-is_defined.ensures in (
      c.in_ok-machine.ensures.settles told.0 told.1 told.2 (meanings c.args.entries.now) told.3
          ∙ c.loop-machine.invariant.0,
      c.in_ok-machine.ensures.run ∙ c.loop-machine.invariant.1,
    )
