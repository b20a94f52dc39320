use Rattle.std.proofs.Common.{codes}
use Rattle.hv_encode.proofs.Reading.{front_is, back_is, some_put}
use Rattle.hv_encode.proofs.small.line.put_of.Goals as goal

pub returns-clause-some : goal.returns-clause-some
returns-clause-some c =
    some_put c.args.text.now c.in_ok-strip_prefix.field-0.now c.in_ok-strip_suffix.field-0.now
    c.byte_of.result
    (front_is c.args.text.now (codes "putchar(") c.in_ok-strip_prefix.field-0
    c.in_ok-strip_prefix.ensures.cases)
    (back_is c.in_ok-strip_prefix.field-0.now (codes ");") c.in_ok-strip_suffix.field-0
    c.in_ok-strip_suffix.ensures.cases)
    c.byte_of.ensures.some
