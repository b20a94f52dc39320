use Rattle.std.proofs.Common.{◌∙◌}
use Rattle.hv_cli.proofs.Messages.{fails_joined}
use Rattle.hv_cli.proofs.answer.fails_message.Goals as goal

pub returns : goal.returns
returns c =
    fails_joined c.joined.result c.as_slice.result c.as_slice-2.result c.as_slice-3.result
    c.as_slice-4.result c.as_slice-5.result c.args.config.now c.args.position.now c.args.why
    c.as_slice.ensures c.as_slice-2.ensures (c.as_slice-3.ensures ∙ c.in_ok-position.ensures)
    (c.as_slice-4.ensures ∙ c.in_ok-cause.ensures) c.as_slice-5.ensures c.joined.ensures
