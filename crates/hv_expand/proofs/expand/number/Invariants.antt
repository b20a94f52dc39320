use Rattle.std.proofs.Common.{◌≡◌, length}
use Rattle.hv_expand.specs.working.Numbers.{numbered}
use Rattle.hv_expand.proofs.expand.number.Given as goal

abbrev pub invariant-loop-class : goal.invariant-loop-class
invariant-loop-class l = record {
  can_next : (goal.iterator-loop-class).can_next l.class-iterator;
  is_finite : (goal.iterator-loop-class).is_finite l.class-iterator;
  numbered : l.outcomes ≡ numbered 0 l.yielded;
  count : l.face ≡ length l.yielded;
}
