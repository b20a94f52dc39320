use Rattle.std.proofs.Common.{◌≡◌, ◌<◌, ap, arith, length}
use Rattle.std.proofs.lemmas.Grind.{common_steps}
use Rattle.hv_cond.proofs.Chains.{IsPlaced-none}
use Rattle.hv_cond.proofs.places.Places.rebuilt.Goals as goal

pub loop-i-init : goal.loop-i-init
loop-i-init c =
    let len : length c.in_ok-vec.field-0.items ≡ c.args.count = grind (arith, common_steps, c.in_ok-vec.ensures.items_if_clones_equal) in
    record {
      buckets = len;
      placed = IsPlaced-none _ (ap length c.in_ok-with_capacity.ensures.items) (λ b below.
          let within : b < c.args.count = omega arith in
          grind (arith, common_steps, c.in_ok-vec.ensures.items_if_clones_equal));
    }
