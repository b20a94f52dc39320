use Rattle.std.proofs.Common.{◌≡◌}
use Rattle.hv_cond.proofs.tests.a_condition_without_another.Given as goal

abbrev pub invariant-loop-table : goal.invariant-loop-table
invariant-loop-table g l = l.store.variables ≡ 3
