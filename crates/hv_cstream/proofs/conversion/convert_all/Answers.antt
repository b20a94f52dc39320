use Rattle.std.proofs.Common.{◌∙◌, subst, sym}
use Rattle.hv_cond.specs.Diagram.{IsNode}
use Rattle.hv_cond.specs.Laws.{Keeps-trans}
use Rattle.hv_cstream.proofs.Converting.{converting_same}
use Rattle.hv_cstream.proofs.Entries.{entries_more, sorts_if_ok}
use Rattle.hv_given.specs.declared.given.Given.{Given}
use Rattle.hv_cstream.proofs.conversion.convert_all.Goals as goal

pub entry-requires-clause-given : goal.entry-requires-clause-given
entry-requires-clause-given c =
    c.loop-entry.invariant.keeps.stays c.entry-item.result.cond
    (subst (λ (g : Given). IsNode c.args.store.now g.cond) (sym c.entry-item.is)
    (c.requires.given c.loop-entry.entry-index c.entry-item.result c.loop-entry-test.true))

pub entry-requires-clause-live : goal.entry-requires-clause-live
entry-requires-clause-live c = c.loop-entry.invariant.converted.live_node

pub entry-requires-clause-refusals : goal.entry-requires-clause-refusals
entry-requires-clause-refusals c = c.loop-entry.invariant.converted.refusals

pub loop-entry-preserved : goal.loop-entry-preserved
loop-entry-preserved c =
    record {
      keeps = Keeps-trans c.loop-entry.invariant.keeps c.entry.ensures.keeps;
      reserved = c.in_ok-entry.ensures.reserved ∙ c.loop-entry.invariant.reserved;
      converted = converting_same _ _ _ _ _
          (entries_more _ _ c.loop-entry.invariant.keeps c.args.given.now c.loop-entry.entry-index
          c.entry-item.result c.loop-entry-test.true c.entry-item.is
          (subst (λ (g : Given). IsNode c.args.store.now g.cond) (sym c.entry-item.is)
          (c.requires.given c.loop-entry.entry-index c.entry-item.result c.loop-entry-test.true)))
          (c.in_ok-entry.ensures.converted _ _ c.loop-entry.invariant.converted);
    }

pub returns-clause-sorted : goal.returns-clause-sorted
returns-clause-sorted c =
    sorts_if_ok c.finish.result c.loop-entry.invariant.keeps c.args.live c.args.given.now
    c.args.reserved c.loop-entry.conversion c.requires.given c.loop-entry.entry-index
    c.loop-entry-test.false c.loop-entry.invariant.converted c.loop-entry.invariant.reserved
    c.finish.ensures.good c.finish.ensures.value c.finish.ensures.failing
