use Rattle.std.proofs.Common.{◌≡◌, length, take}
use Rattle.hv_toks.proofs.macros.same_tokens.Given as goal

abbrev pub invariant-loop-i : goal.invariant-loop-i
invariant-loop-i l = (length l.tokens ≡ length l.others) × (take l.i l.tokens ≡ take l.i l.others)
