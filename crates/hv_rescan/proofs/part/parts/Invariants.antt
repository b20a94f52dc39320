use Rattle.std.proofs.Common.{◌≡◌, ◌++◌, vec_len}
use Rattle.hv_rescan.proofs.part.parts.Given as goal

abbrev pub invariant-loop-part : goal.invariant-loop-part
invariant-loop-part l = l.cut.items ++ l.parts ≡ l.initial.cut.items

abbrev pub decreases-loop-part : goal.decreases-loop-part
decreases-loop-part l = vec_len l.cut
