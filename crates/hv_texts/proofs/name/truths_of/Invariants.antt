use Rattle.hv_texts.proofs.Naming.{IsTelling}
use Rattle.hv_texts.proofs.name.truths_of.Given as goal

abbrev pub invariant-loop-part : goal.invariant-loop-part
invariant-loop-part l = IsTelling l.fn.store l.store l.parts l.part-index l.truths
