use Rattle.hv_cond.proofs.Joining.{joining_step, ranked_node}
use Rattle.hv_cond.proofs.joins.joined.Goals as goal

pub and-requires-clause-second : goal.and-requires-clause-second
and-requires-clause-second c =
    c.loop-part.invariant.keeps.stays _
    (ranked_node c.args.store.now c.args.parts.now c.loop-part.part-index
    (record { rank = 0; cond = record { index = 0 } }) c.requires c.loop-part-test.true)

pub loop-part-preserved : goal.loop-part-preserved
loop-part-preserved c =
    joining_step c.args.store.now c.loop-part.store c.and.new.self c.loop-part.all c.in_ok-all.all
    c.args.parts.now c.loop-part.part-index (record { rank = 0; cond = record { index = 0 } })
    c.requires c.loop-part.invariant c.loop-part-test.true c.in_ok-all.ensures.keeps
    c.in_ok-all.ensures.node c.in_ok-all.ensures.meaning
