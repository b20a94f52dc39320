use Rattle.hv_cond.specs.Laws.{Keeps-trans}
use Rattle.hv_preproc.proofs.RefusalsTogether.{counts_all, counts_next, entry_node, refuses_next}
use Rattle.hv_preproc.proofs.stream.all_failing.Goals as goal

pub add-requires-clause-cond : goal.add-requires-clause-cond
add-requires-clause-cond c =
    c.loop-entry.invariant.keeps.stays c.entry-item.result.cond
    (entry_node c.args.store.now c.args.failing.now c.requires.failing c.loop-entry.entry-index
    c.entry-item.result c.loop-entry-test.true c.entry-item.is)

pub loop-entry-preserved : goal.loop-entry-preserved
loop-entry-preserved c =
    record {
      keeps = Keeps-trans c.loop-entry.invariant.keeps c.add.ensures.keeps;
      entries = c.add.ensures.entries;
      refused = refuses_next c.args.store.now c.args.failing.now c.requires.failing
          c.loop-entry.entry-index c.entry-item.result c.loop-entry-test.true c.entry-item.is
          c.loop-entry.store c.add.new.store c.loop-entry.invariant.keeps c.args.refusals
          c.loop-entry.refusals c.add.new.self c.loop-entry.invariant.refused
          c.in_ok-add.ensures.refused;
      counted = counts_next c.args.store.now c.args.failing.now c.requires.failing
          c.loop-entry.entry-index c.entry-item.result c.loop-entry-test.true c.entry-item.is
          c.loop-entry.store c.add.new.store c.loop-entry.invariant.keeps c.args.refusals
          c.loop-entry.refusals c.add.new.self c.loop-entry.invariant.counted
          c.in_ok-add.ensures.counted;
    }

pub returns-clause-counted : goal.returns-clause-counted
returns-clause-counted c =
    counts_all c.args.store.now c.loop-entry.store c.args.refusals c.args.failing.now
    c.loop-entry.refusals c.loop-entry.entry-index c.into_failing.result c.loop-entry-test.false
    c.into_failing.ensures c.loop-entry.invariant.counted
