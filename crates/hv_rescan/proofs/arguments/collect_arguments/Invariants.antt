use Rattle.std.proofs.Common.{◌≡◌, ◌≤◌, ◌+◌, ℕ, List, [], length, vec_len}
use Rattle.std.specs.Prelude.{min}
use Rattle.hv_toks.specs.Macro.{Macro}
use Rattle.hv_plain.specs.episode.Invocation.{take_arguments}
use Rattle.hv_rescan.specs.Values.{arguments_of, tokens_of, unread_of}
use Rattle.hv_rescan.specs.working.Steps.{ahead_of}
use Rattle.hv_rescan.proofs.arguments.collect_arguments.Given as goal

abbrev pub invariant-loop-arguments : goal.invariant-loop-arguments
invariant-loop-arguments l = record {
  same : (macros : List ℕ → Macro) → take_arguments l.body l.depth (tokens_of macros l.argument.items)
      (arguments_of macros l.arguments.items) (ahead_of macros l.run l.front l.unread)
      ≡ take_arguments l.body 0 [] [] (ahead_of macros l.run l.fn.front l.fn.unread);
  bound : l.depth ≤ vec_len l.argument;
  left : length (unread_of l.run l.unread) ≡ min (length (unread_of l.run l.fn.unread))
      (length l.front + length (unread_of l.run l.unread));
  no_more : length l.front + length (unread_of l.run l.unread)
      ≤ length l.fn.front + length (unread_of l.run l.fn.unread);
}

abbrev pub decreases-loop-arguments : goal.decreases-loop-arguments
decreases-loop-arguments l = length l.front + length (unread_of l.run l.unread)
