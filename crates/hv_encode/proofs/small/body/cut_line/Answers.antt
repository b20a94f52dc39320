use Rattle.hv_encode.proofs.Bodies.{if_none, no_newline, cut_at}
use Rattle.hv_encode.proofs.small.body.cut_line.Goals as goal

pub returns-in_err-end-clause-none : goal.returns-in_err-end-clause-none
returns-in_err-end-clause-none c =
    if_none c.from_residual.result _ (no_newline c.args.text.now c.in_err-end.ensures)

pub returns-clause-some : goal.returns-clause-some
returns-clause-some c = cut_at c.args.text.now c.in_ok-end.end c.in_ok-end.ensures
