use Rattle.hv_expand_bench.specs.Families.{IsFamily}
use Rattle.hv_expand_bench.proofs.tests.family_of.Given as goal

abbrev pub invariant-loop-definition : goal.invariant-loop-definition
invariant-loop-definition l = IsFamily l.family
