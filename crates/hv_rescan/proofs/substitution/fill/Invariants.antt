use Rattle.std.proofs.Common.{◌≡◌, ℕ, List, map, length}
use Rattle.hv_toks.specs.Macro.{Macro}
use Rattle.hv_toks.specs.declared.token.PpTok.{PpTok}
use Rattle.hv_plain.specs.episode.Substitution.{fill}
use Rattle.hv_rescan.specs.Values.{frame_of, part_of, tokens_of}
use Rattle.hv_rescan.proofs.substitution.fill.Given as goal

abbrev pub invariant-loop-part : goal.invariant-loop-part
invariant-loop-part l = (macros : List ℕ → Macro) (run : List PpTok)
    → fill (frame_of macros run l.fn.frame) (map part_of l.rest) l.owed (tokens_of macros l.built.items)
    (tokens_of macros l.last.items)
    ≡ fill (frame_of macros run l.fn.frame) (map part_of l.fn.frame.rest) l.fn.frame.owed
    (tokens_of macros l.fn.frame.built.items) (tokens_of macros l.fn.last.items)

abbrev pub decreases-loop-part : goal.decreases-loop-part
decreases-loop-part l = length l.rest
