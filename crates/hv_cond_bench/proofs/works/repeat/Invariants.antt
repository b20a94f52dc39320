use Rattle.hv_cond.specs.Diagram.{IsNode, Keeps}
use Rattle.hv_cond_bench.proofs.works.repeat.Given as goal

abbrev pub invariant-loop : goal.invariant-loop
invariant-loop l = record {
  kept : Keeps l.fn.store l.store;
  first : IsNode l.store l.a;
  second : IsNode l.store l.b;
  node : IsNode l.store l.both;
}
