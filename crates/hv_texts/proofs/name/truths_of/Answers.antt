use Rattle.hv_texts.proofs.Naming.{part_node, telling_all, telling_more, telling_start}
use Rattle.hv_texts.proofs.name.truths_of.Goals as goal

pub loop-part-init : goal.loop-part-init
loop-part-init c =
    telling_start _ _ _ c.falsity-never.ensures.node c.falsity-never.ensures.node
    c.falsity-never.ensures.meaning c.falsity-never.ensures.meaning

pub with_part-requires-clause-cond : goal.with_part-requires-clause-cond
with_part-requires-clause-cond c =
    c.loop-part.invariant.keeps.stays c.part-item.result.cond
    (part_node c.args.store.now c.args.parts.now c.loop-part.part-index c.part-item.result
    c.requires c.loop-part-test.true c.part-item.is)

pub loop-part-preserved : goal.loop-part-preserved
loop-part-preserved c =
    telling_more c.args.store.now c.loop-part.store c.with_part.new.store c.args.parts.now
    c.loop-part.part-index c.part-item.result c.loop-part.truths c.in_ok-truths.truths
    c.loop-part.invariant c.requires c.loop-part-test.true c.part-item.is
    c.in_ok-truths.ensures.keeps c.in_ok-truths.ensures.more

pub returns-clause-truths : goal.returns-clause-truths
returns-clause-truths c =
    telling_all _ _ c.args.parts.now c.loop-part.part-index _ c.loop-part.invariant
    c.loop-part-test.false
