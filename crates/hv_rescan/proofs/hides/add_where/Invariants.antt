use Rattle.std.proofs.Common.{◌≡◌, ◌++◌, take}
use Rattle.hv_rescan.specs.Values.{hides_of, names_in}
use Rattle.hv_rescan.specs.working.Steps.{chosen}
use Rattle.hv_rescan.proofs.hides.add_where.Given as goal

abbrev pub invariant-loop-name : goal.invariant-loop-name
invariant-loop-name l = names_in l.names ≡ names_in l.fn.names ++ chosen l.among (hides_of l.others) (names_in (take l.name-index l.own))
