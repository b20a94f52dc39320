use Rattle.hv_cond.specs.working.Complements.{complement_of}
use Rattle.hv_cond.proofs.complements.Complements.record.Goals as goal

pub returns-clause-answer : goal.returns-clause-answer
unfolding complement_of
returns-clause-answer c = λ x. c.in-Ok.ensures.updates.0 x
