use Rattle.hv_cond.specs.Diagram.{AllNodes, Keeps}
use Rattle.hv_cond_bench.proofs.pairs_and_chains.pairs.Given as goal

abbrev pub invariant-loop-pair : goal.invariant-loop-pair
invariant-loop-pair l = record { kept : Keeps l.fn.store l.store; nodes : AllNodes l.store l.parts.items }
