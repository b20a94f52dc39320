use Rattle.std.proofs.Common.{[], ◌∷◌}
use Rattle.hv_cond.specs.Laws.{AllNodes-append, AllNodes-kept, Keeps-trans}
use Rattle.hv_cond_bench.proofs.pairs_and_chains.chain.Goals as goal

pub loop-i-preserved : goal.loop-i-preserved
loop-i-preserved c =
    let kept = c.loop-i.invariant.kept in
    rw c.in_ok-push.ensures.items
    (record {
      kept = Keeps-trans kept c.in_ok-link.ensures.keeps;
      nodes = AllNodes-append c.implication.new.store c.loop-i.links.items (c.in_ok-link.link ∷ [])
          (AllNodes-kept c.in_ok-link.ensures.keeps c.loop-i.links.items c.loop-i.invariant.nodes)
          (c.in_ok-link.ensures.node, tt);
    })
