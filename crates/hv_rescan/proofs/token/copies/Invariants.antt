use Rattle.std.proofs.Common.{◌≡◌, ℕ, List, take}
use Rattle.hv_toks.specs.Macro.{Macro}
use Rattle.hv_rescan.specs.Values.{tokens_of}
use Rattle.hv_rescan.proofs.token.copies.Given as goal

abbrev pub invariant-loop-token : goal.invariant-loop-token
invariant-loop-token l = (macros : List ℕ → Macro) → tokens_of macros l.copies.items ≡ tokens_of macros (take l.token-index l.tokens)
