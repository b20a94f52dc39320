use Rattle.std.proofs.Common.{◌≡◌, ℕ, List}
use Rattle.hv_toks.specs.Macro.{Macro}
use Rattle.hv_rescan.specs.Values.{givens_of, tokens_of}
use Rattle.hv_rescan.proofs.token.regained.Given as goal

abbrev pub invariant-loop-token : goal.invariant-loop-token
invariant-loop-token l = (macros : List ℕ → Macro) → tokens_of macros l.tokens.items ≡ givens_of l.yielded
