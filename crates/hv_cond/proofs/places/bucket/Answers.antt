use Rattle.std.proofs.Common.{refl}
use Rattle.hv_cond.specs.working.Places.{bucket}
use Rattle.hv_cond.proofs.places.bucket.Goals as goal

pub returns-clause-is : goal.returns-clause-is
unfolding bucket
returns-clause-is c = refl
