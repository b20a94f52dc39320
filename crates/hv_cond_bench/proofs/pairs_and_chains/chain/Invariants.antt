use Rattle.hv_cond.specs.Diagram.{AllNodes, Keeps}
use Rattle.hv_cond_bench.proofs.pairs_and_chains.chain.Given as goal

abbrev pub invariant-loop-i : goal.invariant-loop-i
invariant-loop-i l = record { kept : Keeps l.fn.store l.store; nodes : AllNodes l.store l.links.items }
