use Rattle.hv_cond.specs.working.Results.{known, ordered_pair}
use Rattle.hv_cond.proofs.results.Results.make_room.Goals as goal

pub returns-clause-same : goal.returns-clause-same
unfolding known
returns-clause-same c = λ x y. c.reserve.ensures.entries.2 (ordered_pair x y)
