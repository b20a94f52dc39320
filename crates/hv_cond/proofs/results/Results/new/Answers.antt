use Rattle.std.proofs.Common.{refl}
use Rattle.hv_cond.specs.working.Results.{known}
use Rattle.hv_cond.proofs.results.Results.new.Goals as goal

pub returns : goal.returns
unfolding known
returns c = λ x y. rw c.new.ensures.empty refl
