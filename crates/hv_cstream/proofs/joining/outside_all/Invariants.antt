use Rattle.std.proofs.Common.{◌≡◌, ◌&&◌, Bool, List, take}
use Rattle.hv_cond.specs.Diagram.{IsNode, Keeps, holds}
use Rattle.hv_cstream.specs.working.Joining.{is_none, open_in}
use Rattle.hv_cstream.proofs.joining.outside_all.Given as goal

abbrev pub invariant-loop-literal : goal.invariant-loop-literal
invariant-loop-literal l = record {
  keeps : Keeps l.fn.store l.store;
  node : IsNode l.store l.rest;
  outside : (values : List Bool) → holds l.store l.rest values
      ≡ (holds l.fn.store l.fn.cond values
      && is_none (open_in l.fn.store (take l.literal-index l.literals) values));
}
