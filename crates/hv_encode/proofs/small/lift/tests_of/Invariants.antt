use Rattle.std.proofs.Common.{◌≡◌, take}
use Rattle.std.specs.List.{flat_map}
use Rattle.hv_encode.specs.working.Lift.{own_tests}
use Rattle.hv_encode.proofs.small.lift.tests_of.Given as goal

-- the tests of the groups so far
abbrev pub invariant-loop-one : goal.invariant-loop-one
invariant-loop-one l =
    l.tests ≡ flat_map (λ one. own_tests one.group) (take l.one-index l.open_groups)
