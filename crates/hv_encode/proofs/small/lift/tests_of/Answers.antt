use Rattle.hv_encode.proofs.LiftingLemmas.{tests_all}
use Rattle.hv_encode.proofs.small.lift.tests_of.Goals as goal

pub returns : goal.returns
returns c =
    tests_all c.args.open_groups.now c.loop-one.one-index c.loop-one.tests c.loop-one-test.false
    c.loop-one.invariant
