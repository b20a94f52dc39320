use Rattle.hv_cond.specs.working.Complements.{complement_of}
use Rattle.hv_cond.proofs.complements.Complements.make_room.Goals as goal

pub returns-clause-same : goal.returns-clause-same
unfolding complement_of
returns-clause-same c = λ x. c.reserve.ensures.entries.2 x
