use Rattle.hv_encode.proofs.Printed.{declared_next, name_is}
use Rattle.std.proofs.Common.{◌<◌, length, arith}
use Rattle.hv_encode.proofs.small.print.write_declarations.Goals as goal

pub loop-option-preserved : goal.loop-option-preserved
loop-option-preserved c =
    let names = c.args.model.now.names in
    let within : c.loop-option.option < length names = omega arith in
    declared_next names c.loop-option.option c.name.result.now c.args.text.now c.loop-option.text
    c.write_declaration.new.text within
    (name_is names c.loop-option.option c.name.result.now c.name.ensures) c.loop-option.invariant
    c.in_ok-write_declaration.ensures
