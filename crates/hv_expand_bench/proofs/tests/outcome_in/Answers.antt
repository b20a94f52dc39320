use Rattle.hv_expand_bench.proofs.OutcomeLemmas.{node_of}
use Rattle.hv_expand_bench.proofs.tests.outcome_in.Goals as goal

pub eval-requires-clause-node : goal.eval-requires-clause-node
eval-requires-clause-node c =
    node_of c.args.store.now c.args.outcomes.now c.loop-outcome.outcome-index
    c.outcome-item.result c.requires.nodes c.loop-outcome-test.true c.outcome-item.is
