use Rattle.std.proofs.Common.{◌≡◌, true, map, take}
use Rattle.hv_model.specs.Rule.{meets_all}
use Rattle.hv_model.specs.working.Steps.{rule_of}
use Rattle.hv_model.proofs.model.meets_each.Given as goal

abbrev pub invariant-loop-rule : goal.invariant-loop-rule
invariant-loop-rule l = meets_all l.values (map rule_of (take l.rule-index l.rules)) ≡ true
