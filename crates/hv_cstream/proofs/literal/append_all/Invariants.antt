use Rattle.std.proofs.Common.{[]}
use Rattle.hv_cond.specs.Diagram.{Keeps}
use Rattle.hv_cstream.specs.working.Joining.{Appends, AreNodes}
use Rattle.hv_cstream.proofs.literal.append_all.Given as goal

abbrev pub invariant-loop-literal : goal.invariant-loop-literal
invariant-loop-literal l = record {
  can_next : (goal.iterator-loop-literal).can_next l.literal-iterator;
  finite : (goal.iterator-loop-literal).is_finite l.literal-iterator;
  keeps : Keeps l.fn.store l.store;
  done : AreNodes l.fn.store l.yielded;
  appended : Appends l.fn.store l.store l.fn.cond l.more l.yielded [] l.after;
}
