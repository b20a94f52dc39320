use Rattle.std.proofs.Common.{map, ◌∙◌, ap, ◌++◌, [], List, ◌≡◌}
use Rattle.hv_encode.specs.declared.small.program.OptionTest.{OptionTest}
use Rattle.hv_encode.specs.working.Lift.{literal_of, test_text}
use Rattle.hv_encode.proofs.Printed.{statement_next}
use Rattle.hv_encode.proofs.small.print.write_block.Goals as goal

pub loop-byte-preserved : goal.loop-byte-preserved
loop-byte-preserved c =
    let names = c.args.model.now.names in
    let test = map (literal_of names) c.args.block.now.test in
    let own : c.write_test.new.text ≡ [] ++ test_text test =
    c.in_ok-write_test.ensures ∙ ap (λ t. t ++
    test_text (map (literal_of names) c.as_slice.result.now)) c.new-test.ensures
    ∙ ap (λ (tests : List OptionTest). [] ++ test_text (map (literal_of names) tests))
    c.as_slice.ensures in
    statement_next test c.as_slice-bytes.result.now c.loop-byte.byte-index c.args.text.now
    c.loop-byte.text c.extend_from_slice.new.self c.write_call.new.text
    c.write_test.new.text c.loop-byte-test.true own c.loop-byte.invariant
    (c.in_ok-extend_from_slice.ensures.ok
    ∙ ap (λ t. c.loop-byte.text ++ t) c.as_slice-in-loop-byte.ensures) c.in_ok-write_call.ensures
