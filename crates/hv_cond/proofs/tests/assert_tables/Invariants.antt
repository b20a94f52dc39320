use Rattle.std.proofs.Common.{◌≡◌}
use Rattle.hv_cond.proofs.tests.assert_tables.Given as goal

abbrev pub invariant-loop-table : goal.invariant-loop-table
invariant-loop-table g l = l.store.variables ≡ 3
