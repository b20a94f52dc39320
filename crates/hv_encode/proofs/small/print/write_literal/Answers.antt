use Rattle.std.proofs.Common.{ap, ◌∙◌, ◌++◌, cond, codes}
use Rattle.hv_encode.specs.working.Lines.{name_at}
use Rattle.hv_encode.proofs.Printed.{wrote_three, literal_text, name_is}
use Rattle.hv_encode.proofs.small.print.write_literal.Goals as goal

pub returns : goal.returns
returns c =
    let start = c.args.text.now in
    let one = c.extend_from_slice.new.self in
    let negated = c.args.test.negated in
    let names = c.args.model.now.names in
    let name = name_at names c.args.test.option in
    wrote_three c.extend_from_slice-3.result start one c.extend_from_slice-2.new.self
    c.extend_from_slice-3.new.self
    (cond negated (codes "! hv_opt_") (codes "hv_opt_")) name (codes " ") _
    (c.in_ok-extend_from_slice.ensures.ok ∙ ap (λ t. start ++ t) c.sign.ensures)
    (c.in_ok-extend_from_slice-2.ensures.ok
    ∙ ap (λ t. one ++ t) (c.as_bytes.ensures.value
    ∙ name_is names c.args.test.option c.name.result.now c.name.ensures))
    c.extend_from_slice-3.ensures.ok (literal_text name negated)
