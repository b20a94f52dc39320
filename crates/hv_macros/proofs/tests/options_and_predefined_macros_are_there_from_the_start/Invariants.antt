use Rattle.std.proofs.Common.{◌≡◌}
use Rattle.hv_macros.specs.Table.{IsTableOf}
use Rattle.hv_macros.proofs.tests.options_and_predefined_macros_are_there_from_the_start.Given as goal

abbrev pub invariant-loop-k : goal.invariant-loop-k
invariant-loop-k g l = (l.store.variables ≡ 3) × IsTableOf l.store l.table
