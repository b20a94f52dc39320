use Rattle.std.proofs.Common.{◌≡◌}
use Rattle.hv_model.specs.working.Machine.{negated_times}
use Rattle.hv_model.specs.working.Steps.{items_of}
use Rattle.hv_model.proofs.code.Code.negate.Given as goal

abbrev pub invariant-loop : goal.invariant-loop
invariant-loop l = items_of l.self ≡ negated_times l.counter (items_of l.initial.self)
