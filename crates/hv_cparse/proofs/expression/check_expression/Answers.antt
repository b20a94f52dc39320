use Rattle.hv_cparse.specs.Control.{limits_of, tokens_of}
use Rattle.hv_cparse.proofs.Saying.{derived_so, refused_so}
use Rattle.hv_cparse.proofs.expression.check_expression.Goals as goal

pub returns-clause-derived : goal.returns-clause-derived
returns-clause-derived c =
    derived_so c.answers_rightly.ensures.exact c.answered.result (limits_of c.args.limits)
    (tokens_of c.args.tokens.now) c.answered.ensures

pub returns-clause-refused : goal.returns-clause-refused
returns-clause-refused c =
    refused_so c.answers_rightly.ensures.exact c.answered.result (limits_of c.args.limits)
    (tokens_of c.args.tokens.now) c.answered.ensures
