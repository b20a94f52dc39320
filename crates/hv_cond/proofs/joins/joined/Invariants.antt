use Rattle.hv_cond.proofs.Joining.{IsJoining}
use Rattle.hv_cond.proofs.joins.joined.Given as goal

abbrev pub invariant-loop-part : goal.invariant-loop-part
invariant-loop-part l = IsJoining l.initial.store l.store l.all l.parts l.part-index
