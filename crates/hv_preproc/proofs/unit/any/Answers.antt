use Rattle.hv_preproc.proofs.Taken.{any_end, any_more, any_start, entry_node}
use Rattle.hv_preproc.proofs.unit.any.Goals as goal

pub loop-entry-init : goal.loop-entry-init
loop-entry-init c = any_start _ _ _ c.falsity-cond.ensures.node c.falsity-cond.ensures.meaning

pub or-requires-clause-first : goal.or-requires-clause-first
or-requires-clause-first c = c.loop-entry.invariant.node

pub or-requires-clause-second : goal.or-requires-clause-second
or-requires-clause-second c = c.loop-entry.invariant.keeps.stays c.entry-item.result.cond
    (entry_node c.args.store.now c.args.failing.now c.loop-entry.entry-index c.entry-item.result
    c.requires c.loop-entry-test.true c.entry-item.is)

pub loop-entry-preserved : goal.loop-entry-preserved
loop-entry-preserved c = any_more _ _ _ _ _ c.entry-item.result _ _ c.loop-entry.invariant
    c.requires c.loop-entry-test.true c.entry-item.is c.or.ensures.keeps c.in_ok-cond.ensures.node
    c.in_ok-cond.ensures.meaning

pub returns-clause-meaning : goal.returns-clause-meaning
returns-clause-meaning c = any_end _ _ _ _ _ c.loop-entry.invariant c.loop-entry-test.false
