use Rattle.std.proofs.Common.{◌≡◌, ◌++◌, ℕ, List, vec_len}
use Rattle.hv_toks.specs.Macro.{Macro}
use Rattle.hv_plain.specs.episode.Tokens.{hiding}
use Rattle.hv_rescan.specs.Values.{hides_of, tokens_of}
use Rattle.hv_rescan.proofs.token.put_front.Given as goal

abbrev pub invariant-loop-token : goal.invariant-loop-token
invariant-loop-token l = (macros : List ℕ → Macro) → hiding (hides_of l.hides) (tokens_of macros l.tokens.items) ++ tokens_of macros l.front
    ≡ hiding (hides_of l.hides) (tokens_of macros l.fn.tokens.items) ++ tokens_of macros l.fn.front

abbrev pub decreases-loop-token : goal.decreases-loop-token
decreases-loop-token l = vec_len l.tokens
