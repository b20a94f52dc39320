use Rattle.std.proofs.Common.{◌≡◌, ◌≤◌, Bool, true, List, length}
use Rattle.hv_cond.specs.Diagram.{IsBefore, holds_in}
use Rattle.hv_cond.specs.working.Nodes.{newest_first}
use Rattle.hv_cond.specs.working.Orders.{by_position}
use Rattle.hv_cond.proofs.paths.pick.Given as goal

abbrev pub invariant-loop-variable : goal.invariant-loop-variable
invariant-loop-variable l =
    record {
      all_variables : length l.values.items ≡ l.nodes.variables;
      satisfies : holds_in (newest_first l.nodes) l.fn.c (by_position l.order.variables.items l.values.items) ≡ true;
      first : (others : List Bool) → holds_in (newest_first l.nodes) l.fn.c (by_position l.order.variables.items others) ≡ true
          → (before : IsBefore others l.values.items) → l.variable ≤ before.place;
    }
