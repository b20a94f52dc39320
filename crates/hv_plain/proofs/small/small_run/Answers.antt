use Rattle.std.proofs.lemmas.Result.{IfOk-weaker}
use Rattle.hv_plain.proofs.SmallAnswer.{answer_only, answer_runs, answer_refused}
use Rattle.hv_plain.proofs.small.small_run.Goals as goal

pub returns : goal.returns
returns c = record {
  runs = IfOk-weaker _ _ _ (answer_runs c.args.model.now.names c.args.config.now.on c.args.text.now
      c.requires) c.read.ensures;
  only = IfOk-weaker _ _ _ (answer_only c.args.model.now.names c.args.config.now.on c.args.text.now
      c.requires) c.read.ensures;
  refused =
      IfOk-weaker _ _ _ (answer_refused c.args.model.now.names c.args.config.now.on c.args.text.now
      c.requires) c.read.ensures;
}
