use Rattle.std.proofs.Common.{◌≡◌}
use Rattle.hv_macros.specs.Table.{IsTableOf}
use Rattle.hv_macros.proofs.tests.assert_counts.Given as goal

abbrev pub invariant-loop-k : goal.invariant-loop-k
invariant-loop-k g l = (l.store.variables ≡ 3) × IsTableOf l.store l.table
