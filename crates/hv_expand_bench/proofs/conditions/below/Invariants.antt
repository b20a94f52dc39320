use Rattle.hv_cond.specs.Diagram.{IsNode, Keeps}
use Rattle.hv_expand_bench.proofs.conditions.below.Given as goal

abbrev pub invariant-loop-bit : goal.invariant-loop-bit
invariant-loop-bit l = record { kept : Keeps l.fn.store l.store; node : IsNode l.store l.less }
