use Rattle.std.proofs.Common.{◌≡◌, ◌++◌, take}
use Rattle.hv_rescan.specs.Values.{names_in}
use Rattle.hv_rescan.proofs.hides.add_all.Given as goal

abbrev pub invariant-loop-other : goal.invariant-loop-other
invariant-loop-other l = names_in l.names ≡ names_in l.fn.names ++ names_in (take l.other-index l.others)
