use Rattle.std.proofs.Common.{◌≡◌, ◌≤◌, ℕ, List, []}
use Rattle.hv_toks.specs.Macro.{Macro}
use Rattle.hv_plain.specs.episode.Tokens.{Token}
use Rattle.hv_rescan.specs.Values.{arguments_of}
use Rattle.hv_rescan.proofs.Sharing.{going}
use Rattle.hv_rescan.proofs.arguments.find_arguments.Given as goal

abbrev pub invariant-loop-at : goal.invariant-loop-at
invariant-loop-at l = record {
  begun : l.begin ≤ l.at;
  bound : l.depth ≤ l.at;
  same : (macros : List ℕ → Macro) (rest : List Token)
      → going macros l.body l.tokens rest l.depth l.begin l.at
      (arguments_of macros l.arguments.items)
      ≡ going macros l.body l.tokens rest 0 0 0 [];
}
