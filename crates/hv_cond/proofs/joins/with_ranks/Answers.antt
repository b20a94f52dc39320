use Rattle.hv_cond.proofs.Joining.{AllNodes-at}
use Rattle.hv_cond.proofs.joins.with_ranks.Goals as goal

pub level-rank-requires : goal.level-rank-requires
level-rank-requires c =
    AllNodes-at c.args.store.now c.args.parts.now c.loop-cond.cond-index (record { index = 0 })
    c.requires c.loop-cond-test.true
