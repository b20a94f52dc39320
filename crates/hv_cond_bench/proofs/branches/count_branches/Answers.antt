use Rattle.std.proofs.Common.{Some}
use Rattle.std.proofs.lemmas.List.Elements.{All-pop}
use Rattle.hv_cond.specs.Diagram.{IsNode}
use Rattle.hv_cond_bench.proofs.branches.count_branches.Goals as goal

pub visit-requires-clause-node : goal.visit-requires-clause-node
visit-requires-clause-node c = (All-pop (IsNode c.args.store.now) _ _ (Some c.in-Some.next) c.in-Some.ensures.items c.loop.invariant).1

pub visit-requires-clause-nodes : goal.visit-requires-clause-nodes
visit-requires-clause-nodes c = (All-pop (IsNode c.args.store.now) _ _ (Some c.in-Some.next) c.in-Some.ensures.items c.loop.invariant).0
