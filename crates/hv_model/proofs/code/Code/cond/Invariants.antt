use Rattle.hv_model.proofs.CondLemmas.{IsMaking}
use Rattle.hv_model.proofs.code.Code.cond.Given as goal

abbrev pub invariant-loop-step : goal.invariant-loop-step
invariant-loop-step l = IsMaking l.initial.store l.store l.stack l.step-items l.step-index
