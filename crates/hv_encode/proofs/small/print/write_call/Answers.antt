use Rattle.std.proofs.Common.{ap, ◌∙◌, ◌++◌, arith, codes, decimal}
use Rattle.hv_encode.proofs.Printed.{wrote_three, call_text}
use Rattle.hv_encode.proofs.small.print.write_call.Goals as goal

pub returns : goal.returns
returns c =
    let one = c.extend_from_slice.new.self in
    wrote_three c.extend_from_slice-3.result c.args.text.now one c.extend_from_slice-2.new.self
    c.extend_from_slice-3.new.self
    (codes "putchar ( ") (decimal c.args.byte) (codes " ) ;\n") _
    c.in_ok-extend_from_slice.ensures.ok
    (c.in_ok-extend_from_slice-2.ensures.ok
    ∙ ap (λ t. one ++ t) (c.as_bytes.ensures.value ∙ c.format.ensures.text))
    c.extend_from_slice-3.ensures.ok (call_text c.args.byte (omega arith))
