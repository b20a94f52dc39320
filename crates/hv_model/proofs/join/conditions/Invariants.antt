use Rattle.hv_model.proofs.CondLemmas.{IsGathering}
use Rattle.hv_model.proofs.join.conditions.Given as goal

abbrev pub invariant-loop-rule : goal.invariant-loop-rule
invariant-loop-rule l = IsGathering l.initial.store l.store l.found.items l.rules l.rule-index
