use Rattle.std.proofs.Common.{◌≡◌, ◌≤◌, ◌++◌, ℕ, List, take, reverse, length}
use Rattle.hv_toks.specs.Macro.{Macro}
use Rattle.hv_rescan.specs.working.Drafts.{digits_within, draft_of}
use Rattle.hv_rescan.proofs.draft.Draft.add_digits.Given as goal

abbrev pub invariant-loop-left : goal.invariant-loop-left
invariant-loop-left l = record {
  bound : l.left ≤ length l.digits;
  rest : (macros : List ℕ → Macro) → draft_of macros l.self ++ digits_within l.is_quoted macros (reverse (take l.left l.digits))
      ≡ draft_of macros l.fn.self ++ digits_within l.is_quoted macros (reverse l.digits);
}

abbrev pub decreases-loop-left : goal.decreases-loop-left
decreases-loop-left l = l.left
