use Rattle.hv_cond.specs.Diagram.{Keeps}
use Rattle.hv_cstream.specs.Streams.{stream_in}
use Rattle.hv_cstream.specs.working.Joining.{IsJoining}
use Rattle.hv_cstream.proofs.joining.join_strings.Given as goal

abbrev pub invariant-loop-token : goal.invariant-loop-token
invariant-loop-token l = record {
  can_next : (goal.iterator-loop-token).can_next l.token-iterator;
  finite : (goal.iterator-loop-token).is_finite l.token-iterator;
  keeps : Keeps l.fn.store l.store;
  joining : IsJoining l.store l.fn.good (λ values. stream_in l.fn.store l.yielded values) l.out
      l.literals;
}
