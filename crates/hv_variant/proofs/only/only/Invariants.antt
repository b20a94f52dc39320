use Rattle.std.proofs.Common.{◌≡◌, ◌≤◌, Bool, List, drop, length}
use Rattle.hv_cond.specs.Diagram.{IsNode, Keeps, holds}
use Rattle.hv_variant.specs.working.Agreement.{agree}
use Rattle.hv_variant.proofs.only.only.Given as goal

abbrev pub invariant-loop-next : goal.invariant-loop-next
invariant-loop-next l = record {
  kept : Keeps l.fn.store l.store;
  node : IsNode l.store l.cond;
  within : l.next ≤ length l.config.on;
  meaning : (values : List Bool) → length values ≡ length l.config.on
      → holds l.store l.cond values ≡ agree (drop l.next l.config.on) (drop l.next values);
}

abbrev pub decreases-loop-next : goal.decreases-loop-next
decreases-loop-next l = l.next
