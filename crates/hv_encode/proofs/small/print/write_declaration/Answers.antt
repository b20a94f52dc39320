use Rattle.std.proofs.Common.{ap, ◌∙◌, ◌++◌, codes}
use Rattle.hv_encode.proofs.Printed.{wrote_three, declaration_text}
use Rattle.hv_encode.proofs.small.print.write_declaration.Goals as goal

pub returns : goal.returns
returns c =
    let start = c.args.text.now in
    let one = c.extend_from_slice.new.self in
    wrote_three c.extend_from_slice-3.result start one c.extend_from_slice-2.new.self
    c.extend_from_slice-3.new.self
    (codes "extern int hv_opt_") c.args.name.now (codes " ;\n") _
    c.in_ok-extend_from_slice.ensures.ok
    (c.in_ok-extend_from_slice-2.ensures.ok ∙ ap (λ t. one ++ t) c.as_bytes.ensures.value)
    c.extend_from_slice-3.ensures.ok (declaration_text c.args.name.now)
