use Rattle.std.proofs.Common.{◌≡◌, ◌++◌, vec_len}
use Rattle.hv_rescan.proofs.draft.Draft.finish.Given as goal

abbrev pub invariant-loop-digit : goal.invariant-loop-digit
invariant-loop-digit l = l.digits.items ++ l.more ≡ l.fn.self.digits

abbrev pub decreases-loop-digit : goal.decreases-loop-digit
decreases-loop-digit l = vec_len l.digits
