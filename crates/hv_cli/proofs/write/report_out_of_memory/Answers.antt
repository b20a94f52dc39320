use Rattle.hv_cli.specs.Answer.{want_of_memory}
use Rattle.hv_cli.proofs.Writing.{AddsPrefix-written}
use Rattle.hv_cli.proofs.write.report_out_of_memory.Goals as goal

pub returns-clause-prefix : goal.returns-clause-prefix
returns-clause-prefix g c =
    AddsPrefix-written c.write_all.result (g.E.Sink.state c.args.err.now).written
    (g.E.Sink.state c.write_all.new.sink).written
    want_of_memory c.write_all.ensures.whole c.write_all.ensures.prefix
