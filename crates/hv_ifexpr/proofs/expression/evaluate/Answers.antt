use Rattle.hv_ifexpr.proofs.Truth.{truth_ok, truth_only, truth_bad}
use Rattle.hv_ifexpr.proofs.expression.evaluate.Goals as goal

pub returns-in-Ok-clause-ok : goal.returns-in-Ok-clause-ok
returns-in-Ok-clause-ok c =
    truth_ok c.args.tokens.now c.in-Ok.value c.decide.result c.in-Ok.ensures c.decide.ensures

pub returns-in-Ok-clause-only : goal.returns-in-Ok-clause-only
returns-in-Ok-clause-only c =
    truth_only c.args.tokens.now c.in-Ok.value c.decide.result c.in-Ok.ensures c.decide.ensures

pub returns-in-Ok-clause-bad : goal.returns-in-Ok-clause-bad
returns-in-Ok-clause-bad c =
    truth_bad c.args.tokens.now c.in-Ok.value c.decide.result c.in-Ok.ensures c.decide.ensures
