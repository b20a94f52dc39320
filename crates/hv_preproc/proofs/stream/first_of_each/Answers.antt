use Rattle.hv_preproc.proofs.TooMany.{AreFirst-more, cond_node, cond_possible}
use Rattle.hv_preproc.proofs.stream.first_of_each.Goals as goal

pub first_of-requires-clause-node : goal.first_of-requires-clause-node
first_of-requires-clause-node c = cond_node _ _ _ _ c.requires.nodes c.loop-cond-test.true

pub first_of-requires-clause-possible : goal.first_of-requires-clause-possible
first_of-requires-clause-possible c =
    cond_possible _ _ _ _ c.requires.possible c.loop-cond-test.true

pub loop-cond-preserved : goal.loop-cond-preserved
loop-cond-preserved c =
    AreFirst-more _ _ _ _ c.loop-cond-test.true _ _ c.in_ok-config.config c.loop-cond.invariant
    c.in_ok-config.ensures c.in_ok-add.ensures.ok
