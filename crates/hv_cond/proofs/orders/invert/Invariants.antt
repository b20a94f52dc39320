use Rattle.std.proofs.Common.{◌≡◌, ◌<◌, ℕ, get_or, length}
use Rattle.hv_cond.proofs.orders.invert.Given as goal

abbrev pub invariant-loop-position : goal.invariant-loop-position
invariant-loop-position l =
    record {
      all : length l.positions.items ≡ l.vars;
      inverse : (k : ℕ) → k < l.position → get_or l.positions.items (get_or l.variables k 0) 0 ≡ k;
    }
