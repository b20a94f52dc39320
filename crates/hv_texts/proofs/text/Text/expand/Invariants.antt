use Rattle.std.proofs.Common.{◌-◌}
use Rattle.hv_texts.proofs.Passing.{IsExpanding}
use Rattle.hv_texts.proofs.text.Text.expand.Given as goal

abbrev pub invariant-loop-at : goal.invariant-loop-at
invariant-loop-at l =
    IsExpanding l.fn.store l.store l.self.cond l.self.origin.now l.self.ends l.self.table.now
    l.self.run.now l.at l.walk.given l.walk.reached.items l.walk.refusals

abbrev pub decreases-loop-at : goal.decreases-loop-at
decreases-loop-at l = l.len - l.at
