use Rattle.hv_macros.proofs.BeginningLemmas.{IsOpening}
use Rattle.hv_macros.proofs.beginnings.define_options.Given as goal

abbrev pub invariant-loop-i : goal.invariant-loop-i
invariant-loop-i l = IsOpening l.initial.store l.store l.initial.table l.table l.model.names l.i
