use Rattle.std.proofs.Common.{[], ◌∷◌}
use Rattle.hv_cond.specs.Laws.{AllNodes-append, AllNodes-kept, Keeps-trans}
use Rattle.hv_cond_bench.proofs.pairs_and_chains.pairs.Goals as goal

pub loop-pair-preserved : goal.loop-pair-preserved
loop-pair-preserved c =
    let kept = c.loop-pair.invariant.kept in
    rw c.in_ok-push.ensures.items
    (record {
      kept = Keeps-trans kept c.in_ok-one_true.ensures.keeps;
      nodes = AllNodes-append c.either.new.store c.loop-pair.parts.items (c.in_ok-one_true.one_true ∷ [])
          (AllNodes-kept c.in_ok-one_true.ensures.keeps c.loop-pair.parts.items c.loop-pair.invariant.nodes)
          (c.in_ok-one_true.ensures.node, tt);
    })
