use Rattle.std.proofs.Common.{◌≡◌, ◌++◌}
use Rattle.hv_preproc.proofs.unit.add_all.Given as goal

abbrev pub invariant-loop-entry : goal.invariant-loop-entry
invariant-loop-entry l = record {
  can_next : (goal.iterator-loop-entry).can_next l.entry-iterator;
  is_finite : (goal.iterator-loop-entry).is_finite l.entry-iterator;
  added : l.given ≡ l.fn.given ++ l.yielded;
}
