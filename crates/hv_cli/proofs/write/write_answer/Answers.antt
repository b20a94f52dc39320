use Rattle.std.proofs.Common.{◌∙◌}
use Rattle.hv_cli.specs.Given.{writes}
use Rattle.hv_cli.proofs.Writing.{IsGiven-unwritten, IsGiven-starved}
use Rattle.hv_cli.proofs.write.write_answer.Goals as goal

pub returns-in-Err-Failed-write_all-clause-given : goal.returns-in-Err-Failed-write_all-clause-given
returns-in-Err-Failed-write_all-clause-given g c =
    IsGiven-unwritten (writes (g.O.Sink.state c.args.out.now) (g.O.Sink.state c.write_all.new.sink)
    (g.E.Sink.state c.args.err.now) (g.E.Sink.state c.write_all-2.new.sink))
    c.args.answer.now c.output.result.now c.as_slice.result.now c.output.ensures
    (c.as_slice.ensures ∙ c.in-Ok.ensures)
    c.in-Ok-write_all.ensures.whole
    (rw c.in-Err-Failed-write_all.field-0-is at c.in-Err-Failed-write_all.ensures.faults)
    c.in-Err-Failed-write_all.ensures.prefix

pub returns-clause-given : goal.returns-clause-given
returns-clause-given g c =
    IsGiven-starved (writes (g.O.Sink.state c.args.out.now) (g.O.Sink.state c.write_all.new.sink)
    (g.E.Sink.state c.args.err.now) (g.E.Sink.state c.write_all-2.new.sink))
    c.args.answer.now c.output.result.now c.as_slice.result.now c.output.ensures
    (c.as_slice.ensures ∙ c.in-Ok.ensures)
    c.in-Ok-write_all.ensures.whole c.in-Err-Memory-write_all.ensures.prefix
