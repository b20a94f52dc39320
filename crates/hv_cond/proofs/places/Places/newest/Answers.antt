use Rattle.std.proofs.Common.{sym, arith}
use Rattle.hv_cond.specs.working.Places.{bucket, buckets}
use Rattle.hv_cond.proofs.Chains.{newest_of_none}
use Rattle.hv_cond.proofs.places.Places.newest.Goals as goal

pub returns-then-buckets-eq0 : goal.returns-then-buckets-eq0
returns-then-buckets-eq0 c =
    λ ds placed. sym (newest_of_none c.args.self.now ds (bucket (buckets c.args.self.now) c.args.decision) placed (omega arith))
