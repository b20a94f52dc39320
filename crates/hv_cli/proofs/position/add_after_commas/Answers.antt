use Rattle.std.proofs.Common.{arith, get_or}
use Rattle.hv_cli.proofs.PositionsLemmas.{after_commas-add}
use Rattle.hv_cli.proofs.position.add_after_commas.Goals as goal

pub loop-number-preserved : goal.loop-number-preserved
loop-number-preserved c =
    after_commas-add c.args.text.now c.args.numbers.now c.loop-number.number-index
    c.loop-number.text c.add.new.self c.add_number.new.text c.loop-number.invariant
    c.loop-number-test.true c.in_ok-add.ensures.ok c.in_ok-add_number.ensures
