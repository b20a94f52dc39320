use Rattle.hv_preproc.specs.working.Leasts.{IsLeastOf}
use Rattle.hv_preproc.proofs.refusal.least.Given as goal

abbrev pub invariant-loop-entry : goal.invariant-loop-entry
invariant-loop-entry l = record {
  can_next : (goal.iterator-loop-entry).can_next l.entry-iterator;
  finite : (goal.iterator-loop-entry).is_finite l.entry-iterator;
  least : IsLeastOf l.store l.yielded l.least;
}
