use Rattle.std.proofs.Common.{◌≡◌, ◌+◌, false, length}
use Rattle.hv_lexer.specs.working.Cursors.{text_of}
use Rattle.hv_lexer.proofs.LongestLemmas.{number_rest_len}
use Rattle.hv_lexer.proofs.category.number_rest_len.Given as goal

abbrev pub invariant-loop-next : goal.invariant-loop-next
invariant-loop-next l = record {
  value : number_rest_len false (text_of l.text)
      ≡ l.len + number_rest_len l.exponent (text_of l.rest);
  within : length (text_of l.text) ≡ l.len + length (text_of l.rest);
}

abbrev pub decreases-loop-next : goal.decreases-loop-next
decreases-loop-next l = length (text_of l.rest)
