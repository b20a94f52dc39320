use Rattle.hv_encode.proofs.SmallSources.{first_none, second_none}
use Rattle.hv_encode.proofs.small.source.rest_after_head.Goals as goal

pub returns-in_err-rest_after_line-clause-none : goal.returns-in_err-rest_after_line-clause-none
returns-in_err-rest_after_line-clause-none c =
    first_none c.from_residual.result c.args.source.now c.in_err-rest_after_line.ensures.none

pub returns-clause-none : goal.returns-clause-none
returns-clause-none c =
    second_none c.rest_after_line-2.result c.args.source.now c.in_ok-rest_after_line.field-0.now
    c.in_ok-rest_after_line.ensures.kept c.rest_after_line-2.ensures.none
