use Rattle.std.proofs.Common.{None}
use Rattle.std.proofs.lemmas.Bool.Decides.{Decides-eqb}
use Rattle.std.proofs.lemmas.Slice.Eq.{strip_prefix_is}
use Rattle.hv_encode.proofs.Reading.{no_directive, front_is, some_option, no_option}
use Rattle.hv_encode.proofs.small.line.option_after.Goals as goal

pub returns-in_err-strip_prefix-clause-none : goal.returns-in_err-strip_prefix-clause-none
returns-in_err-strip_prefix-clause-none c =
    no_directive c.args.model.now.names c.args.directive.now c.args.text.now c.from_residual.result
    (strip_prefix_is Decides-eqb c.args.text.now c.args.directive.now None
    c.in_err-strip_prefix.ensures.cases)

pub returns-clause-some : goal.returns-clause-some
returns-clause-some c =
    some_option c.args.model.now.names c.args.directive.now c.args.text.now
    c.in_ok-strip_prefix.field-0.now c.position.result c.position.ensures
    (front_is c.args.text.now c.args.directive.now c.in_ok-strip_prefix.field-0
    c.in_ok-strip_prefix.ensures.cases)

pub returns-clause-none : goal.returns-clause-none
returns-clause-none c =
    no_option c.args.model.now.names c.args.directive.now c.args.text.now
    c.in_ok-strip_prefix.field-0.now c.position.result c.position.ensures
    (front_is c.args.text.now c.args.directive.now c.in_ok-strip_prefix.field-0
    c.in_ok-strip_prefix.ensures.cases)
