use Rattle.std.proofs.Common.{◌≡◌, ◌++◌, vec_len}
use Rattle.hv_rescan.proofs.start.start_line.Given as goal

abbrev pub invariant-loop-token : goal.invariant-loop-token
invariant-loop-token l = l.tokens.items ++ l.front ≡ l.initial.tokens.items

abbrev pub decreases-loop-token : goal.decreases-loop-token
decreases-loop-token l = vec_len l.tokens
