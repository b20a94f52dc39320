use Rattle.std.proofs.Common.{map, take}
use Rattle.hv_encode.specs.working.Lift.{IsBegun, literal_of}
use Rattle.hv_encode.proofs.small.print.write_test.Given as goal

-- the tests so far are written
abbrev pub invariant-loop-test : goal.invariant-loop-test
invariant-loop-test l =
    IsBegun l.fn.text (map (literal_of l.model.names) (take l.test-index l.tests)) l.text l.tested
