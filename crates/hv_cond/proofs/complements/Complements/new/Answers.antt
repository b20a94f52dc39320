use Rattle.std.proofs.Common.{refl}
use Rattle.hv_cond.specs.working.Complements.{complement_of}
use Rattle.hv_cond.proofs.complements.Complements.new.Goals as goal

pub returns : goal.returns
unfolding complement_of
returns c = λ x. rw c.new.ensures.empty refl
