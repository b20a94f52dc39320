use Rattle.std.proofs.Common.{◌≡◌, ◌+◌, false, length}
use Rattle.hv_lexer.specs.working.Cursors.{text_of}
use Rattle.hv_lexer.proofs.LongestLemmas.{closes_len, shifted}
use Rattle.hv_lexer.proofs.category.closing_len.Given as goal

abbrev pub invariant-loop-next : goal.invariant-loop-next
invariant-loop-next l = record {
  value : closes_len l.escapes l.quote false (text_of l.text)
      ≡ shifted l.len (closes_len l.escapes l.quote l.escaped (text_of l.rest));
  within : length (text_of l.text) ≡ l.len + length (text_of l.rest);
}

abbrev pub decreases-loop-next : goal.decreases-loop-next
decreases-loop-next l = length (text_of l.rest)
