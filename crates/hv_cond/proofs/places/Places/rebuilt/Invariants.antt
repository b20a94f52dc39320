use Rattle.std.proofs.Common.{◌≡◌, reverse, take}
use Rattle.hv_cond.specs.working.Places.{buckets, IsPlaced}
use Rattle.hv_cond.proofs.places.Places.rebuilt.Given as goal

abbrev pub invariant-loop-i : goal.invariant-loop-i
invariant-loop-i l =
    record {
      buckets : buckets l.places ≡ l.count;
      placed : IsPlaced l.places (reverse (take l.i l.decisions));
    }
