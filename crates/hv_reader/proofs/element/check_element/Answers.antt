use Rattle.hv_cparse.specs.Control.{limits_of}
use Rattle.hv_reader.specs.Pieces.{standing_in, tokens_of}
use Rattle.hv_reader.proofs.Saying.{derived_so, refused_so}
use Rattle.hv_reader.proofs.element.check_element.Goals as goal

pub returns-clause-derived : goal.returns-clause-derived
returns-clause-derived c =
    derived_so c.answers_elements_rightly.ensures.exact c.answered.result (limits_of c.args.limits)
    (standing_in c.args.standing) (tokens_of c.args.pieces.now) c.answered.ensures

pub returns-clause-refused : goal.returns-clause-refused
returns-clause-refused c =
    refused_so c.answers_elements_rightly.ensures.exact c.answered.result (limits_of c.args.limits)
    (standing_in c.args.standing) (tokens_of c.args.pieces.now) c.answered.ensures
