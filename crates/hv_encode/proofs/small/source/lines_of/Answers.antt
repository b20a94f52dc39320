use Rattle.std.proofs.Common.{◌++◌, map}
use Rattle.hv_plain.specs.Source.{spelled}
use Rattle.hv_encode.specs.working.Lines.{IsCutInto, plain}
use Rattle.hv_encode.proofs.Bodies.{closing}
use Rattle.hv_encode.proofs.SmallSources.{small_cut, some_at}
use Rattle.hv_encode.proofs.small.source.lines_of.Goals as goal

pub returns-in_default-clause-none : goal.returns-in_default-clause-none
returns-in_default-clause-none c = λ body is.
    c.in_default.ensures.none (map spelled body ++ closing)
    (small_cut c.args.model.now.names c.args.source.now body is)

pub returns-clause-some : goal.returns-clause-some
returns-clause-some c =
    let names = c.args.model.now.names in
    let rest = c.in-Some.rest.now in
    let lines = c.in-Some-2.lines.items in
    let cut = some_at c.in_ok-lines.field-0 c.in-Some-2.lines
    (λ lines. IsCutInto rest (map spelled (map (plain names) lines.items) ++ closing))
    c.in-Some-2.is c.in_ok-lines.ensures.some in
    c.in-Some.ensures.onto (map spelled (map (plain names) lines) ++ closing) cut
