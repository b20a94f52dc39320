use Rattle.std.proofs.Common.{All}
use Rattle.hv_cond.specs.Diagram.{IsNode}
use Rattle.hv_cond_bench.proofs.branches.count_branches.Given as goal

abbrev pub invariant-loop : goal.invariant-loop
invariant-loop l = All (IsNode l.store) l.waiting.items
