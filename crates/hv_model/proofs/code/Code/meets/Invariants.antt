use Rattle.std.proofs.Common.{◌≡◌, take}
use Rattle.hv_model.specs.working.Steps.{items_of}
use Rattle.hv_model.proofs.StepLemmas.{truths}
use Rattle.hv_model.proofs.code.Code.meets.Given as goal

-- the stack says which rules of the code so far are met
abbrev pub invariant-loop-step : goal.invariant-loop-step
invariant-loop-step l = l.stack ≡ truths l.values (items_of (take l.step-index l.step-items))
