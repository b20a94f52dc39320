use Rattle.hv_cond.specs.Diagram.{IsNode, Keeps}
use Rattle.hv_cond_bench.proofs.pairs_and_chains.chain_by_and.Given as goal

abbrev pub invariant-loop-i : goal.invariant-loop-i
invariant-loop-i l = record { kept : Keeps l.fn.store l.store; node : IsNode l.store l.all }
