use Rattle.hv_cond.specs.Diagram.{IsNode, Keeps}
use Rattle.hv_cond_bench.proofs.queens.rows.Given as goal

abbrev pub invariant-loop-row : goal.invariant-loop-row
invariant-loop-row l = record { kept : Keeps l.fn.store l.store; node : IsNode l.store l.all }
