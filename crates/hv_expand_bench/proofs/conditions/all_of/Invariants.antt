use Rattle.hv_cond.specs.Diagram.{IsNode, Keeps}
use Rattle.hv_expand_bench.proofs.conditions.all_of.Given as goal

abbrev pub invariant-loop-one : goal.invariant-loop-one
invariant-loop-one l = record { kept : Keeps l.fn.store l.store; node : IsNode l.store l.all }
