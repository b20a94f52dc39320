use Rattle.std.proofs.Common.{◌≡◌, ◌++◌, ℕ, List, length}
use Rattle.hv_toks.specs.Macro.{Macro}
use Rattle.hv_plain.specs.episode.Episode.{answered}
use Rattle.hv_rescan.specs.Values.{tokens_of}
use Rattle.hv_rescan.proofs.start.answered.Given as goal

abbrev pub invariant-loop-rest : goal.invariant-loop-rest
invariant-loop-rest l = (macros : List ℕ → Macro) → tokens_of macros l.tokens.items ++ answered macros l.skipped l.rest
    ≡ answered macros 0 l.run

abbrev pub decreases-loop-rest : goal.decreases-loop-rest
decreases-loop-rest l = length l.rest
