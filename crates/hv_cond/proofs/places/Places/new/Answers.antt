use Rattle.std.proofs.Common.{◌≡◌, ◌<◌, ℕ, length, ap, arith}
use Rattle.hv_cond.specs.declared.places.Places.{Places}
use Rattle.hv_cond.specs.working.Places.{buckets}
use Rattle.hv_cond.proofs.Chains.{IsPlaced-none}
use Rattle.hv_cond.proofs.places.Places.new.Goals as goal

pub returns : goal.returns
returns c =
    let places : Places = record { heads = c.new.result; before = c.new-2.result } in
    let none : buckets places ≡ 0 = ap length c.new.ensures.items in
    IsPlaced-none places (ap length c.new-2.ensures.items)
    (λ (b : ℕ) (below : b < buckets places). absurd (omega arith))
