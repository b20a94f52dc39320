use Rattle.std.proofs.Common.{◌≡◌, length, take}
use Rattle.hv_toks.proofs.macros.same_params.Given as goal

abbrev pub invariant-loop-i : goal.invariant-loop-i
invariant-loop-i l = (length l.params ≡ length l.others) × (take l.i l.params ≡ take l.i l.others)
