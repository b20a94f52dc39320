use Rattle.std.proofs.Common.{length}
use Rattle.hv_model.proofs.ReadRule.{IsReading}
use Rattle.hv_model.proofs.rules.read_rule.Given as goal

abbrev pub invariant-loop-token : goal.invariant-loop-token
invariant-loop-token l = IsReading l.names l.text l.parser l.rest

abbrev pub decreases-loop-token : goal.decreases-loop-token
decreases-loop-token l = length l.rest
