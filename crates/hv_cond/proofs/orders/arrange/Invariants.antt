use Rattle.std.proofs.Common.{◌≡◌, take, []}
use Rattle.std.specs.List.{range_with_len}
use Rattle.hv_cond.specs.Order.{with_all}
use Rattle.hv_cond.specs.working.Orders.{IsPlacing}
use Rattle.hv_cond.proofs.orders.arrange.Given as goal

abbrev pub invariant-loop-variable : goal.invariant-loop-variable
invariant-loop-variable l =
    record {
      placing : IsPlacing l.vars l.variables.items l.placed.items;
      order : l.variables.items ≡ with_all l.vars [] (take l.variable-index l.first);
    }

abbrev pub invariant-loop-variable-2 : goal.invariant-loop-variable-2
invariant-loop-variable-2 l =
    record {
      placing : IsPlacing l.vars l.variables.items l.placed.items;
      order : l.variables.items ≡ with_all l.vars (with_all l.vars [] l.first) (range_with_len 0 l.variable);
    }
