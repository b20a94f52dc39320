use Rattle.hv_cond.specs.Diagram.{IsNode, Keeps}
use Rattle.hv_cond_bench.proofs.queens.none_attacked.Given as goal

abbrev pub invariant-loop-j : goal.invariant-loop-j
invariant-loop-j l = record { kept : Keeps l.fn.store l.store; node : IsNode l.store l.none }
