use Rattle.std.proofs.Common.{◌≡◌, ℕ, List, length}
use Rattle.hv_toks.specs.Macro.{Macro}
use Rattle.hv_toks.specs.declared.token.PpTok.{PpTok}
use Rattle.hv_plain.specs.episode.Expansion.{settle}
use Rattle.hv_rescan.specs.Values.{frames_of, scan_of}
use Rattle.hv_rescan.proofs.states.settle.Given as goal

abbrev pub invariant-loop-frames : goal.invariant-loop-frames
invariant-loop-frames l = (macros : List ℕ → Macro) (run : List PpTok)
    → settle (frames_of macros run l.frames) (scan_of macros run l.text)
    ≡ settle (frames_of macros run l.fn.frames) (scan_of macros run l.fn.text)

abbrev pub decreases-loop-frames : goal.decreases-loop-frames
decreases-loop-frames l = length l.frames
