use Rattle.hv_texts.proofs.Lines.{IsJudgingOn}
use Rattle.hv_texts.proofs.line.Controlling.judge_all.Given as goal

abbrev pub invariant-loop-outcome : goal.invariant-loop-outcome
invariant-loop-outcome l =
    IsJudgingOn l.fn.store l.store l.fn.cond l.self.hash.now l.self.place.now l.self.table.now
    l.self.line.now l.fn.outcomes l.judging.given l.pending.items l.judging.truths
    l.judging.refusals

abbrev pub decreases-loop-outcome : goal.decreases-loop-outcome
decreases-loop-outcome l = l.pending.len
