use Rattle.hv_preproc.proofs.Taken.{entry_node, refusing_end, refusing_more, refusing_start}
use Rattle.hv_preproc.proofs.unit.refuse_all.Goals as goal

pub loop-entry-init : goal.loop-entry-init
loop-entry-init c = refusing_start _ _ _ c.requires.entries

pub add-requires-clause-cond : goal.add-requires-clause-cond
add-requires-clause-cond c = c.loop-entry.invariant.keeps.stays c.entry-item.result.cond
    (entry_node c.args.store.now c.args.failing.now c.loop-entry.entry-index c.entry-item.result
    c.requires.failing c.loop-entry-test.true c.entry-item.is)

pub add-requires-clause-entries : goal.add-requires-clause-entries
add-requires-clause-entries c = c.loop-entry.invariant.entries

pub loop-entry-preserved : goal.loop-entry-preserved
loop-entry-preserved c = refusing_more _ _ _ _ _ _ _ _ c.entry-item.result
    c.loop-entry.invariant c.requires.failing c.loop-entry-test.true c.entry-item.is
    c.add.ensures.keeps c.add.ensures.entries c.in_ok-add.ensures.refused
    c.in_ok-add.ensures.counted

pub returns-clause-refused : goal.returns-clause-refused
returns-clause-refused c =
    refusing_end _ _ _ _ _ _ c.loop-entry.invariant c.loop-entry-test.false
