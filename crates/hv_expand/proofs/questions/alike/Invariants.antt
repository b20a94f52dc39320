use Rattle.hv_expand.specs.working.Questions.{seen_of}
use Rattle.hv_expand.proofs.Answering.{IsGathering}
use Rattle.hv_expand.proofs.questions.alike.Given as goal

abbrev pub invariant-loop-part : goal.invariant-loop-part
invariant-loop-part l =
    IsGathering l.fn.store l.store l.question (seen_of l.wanted) l.parts l.part-index l.whole
