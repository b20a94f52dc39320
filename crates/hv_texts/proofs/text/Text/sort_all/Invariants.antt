use Rattle.hv_texts.proofs.Walking.{IsSortingOn}
use Rattle.hv_texts.proofs.text.Text.sort_all.Given as goal

abbrev pub invariant-loop-outcome : goal.invariant-loop-outcome
invariant-loop-outcome l =
    IsSortingOn l.fn.store l.store l.self.cond l.self.origin.now l.self.ends l.self.table.now
    l.self.run.now l.at l.place l.fn.outcomes l.walk.given l.pending.items
    l.walk.reached.items l.walk.refusals

abbrev pub decreases-loop-outcome : goal.decreases-loop-outcome
decreases-loop-outcome l = l.pending.len
