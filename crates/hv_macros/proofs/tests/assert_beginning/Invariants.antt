use Rattle.std.proofs.Common.{◌≡◌}
use Rattle.hv_macros.specs.Table.{IsTableOf}
use Rattle.hv_macros.proofs.tests.assert_beginning.Given as goal

abbrev pub invariant-loop-name : goal.invariant-loop-name
invariant-loop-name g l = (l.store.variables ≡ 3) × IsTableOf l.store l.table
