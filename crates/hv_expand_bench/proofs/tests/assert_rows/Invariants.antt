use Rattle.hv_expand_bench.specs.Families.{IsFamily}
use Rattle.hv_expand_bench.proofs.tests.assert_rows.Given as goal

abbrev pub invariant-loop-row : goal.invariant-loop-row
invariant-loop-row g l = IsFamily l.family
