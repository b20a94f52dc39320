use Rattle.std.proofs.Common.{◌++◌, ap, ◌∙◌}
use Rattle.hv_encode.proofs.Printed.{begun_next, test_all}
use Rattle.hv_encode.proofs.small.print.write_test.Goals as goal

pub loop-test-preserved : goal.loop-test-preserved
loop-test-preserved c =
    begun_next c.args.model.now.names c.args.text.now c.args.tests.now c.loop-test.test-index _
    c.loop-test.text c.extend_from_slice.new.self c.write_literal.new.text
    c.loop-test.tested c.loop-test-test.true c.loop-test.invariant
    (c.in_ok-extend_from_slice.ensures.ok ∙ ap (λ t. c.loop-test.text ++ t) c.opening.ensures)
    c.in_ok-write_literal.ensures

pub returns : goal.returns
returns c =
    test_all c.args.model.now.names c.extend_from_slice-2.result c.args.text.now c.args.tests.now
    c.loop-test.test-index c.loop-test.text c.extend_from_slice-2.new.self
    c.closing.result.now c.loop-test.tested c.loop-test-test.false c.loop-test.invariant
    c.closing.ensures c.extend_from_slice-2.ensures.ok
