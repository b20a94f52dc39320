use Rattle.std.proofs.Common.{◌≡◌, ◌+◌, length}
use Rattle.hv_toks.specs.Cutting.{closing_len}
use Rattle.hv_lexer.specs.working.Cursors.{text_of}
use Rattle.hv_lexer.proofs.LongestLemmas.{shifted}
use Rattle.hv_lexer.proofs.gap.closing_len.Given as goal

abbrev pub invariant-loop-next : goal.invariant-loop-next
invariant-loop-next l = record {
  value : closing_len (text_of l.text) ≡ shifted l.len (closing_len (text_of l.rest));
  within : length (text_of l.text) ≡ l.len + length (text_of l.rest);
}

abbrev pub decreases-loop-next : goal.decreases-loop-next
decreases-loop-next l = length (text_of l.rest)
