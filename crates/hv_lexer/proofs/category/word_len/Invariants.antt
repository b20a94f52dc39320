use Rattle.std.proofs.Common.{◌≡◌, ◌+◌, length}
use Rattle.std.specs.List.{prefix_len}
use Rattle.hv_base.specs.Ascii.{is_identifier_byte}
use Rattle.hv_lexer.specs.working.Cursors.{text_of}
use Rattle.hv_lexer.proofs.category.word_len.Given as goal

abbrev pub invariant-loop-next : goal.invariant-loop-next
invariant-loop-next l = record {
  value : prefix_len is_identifier_byte (text_of l.text)
      ≡ l.len + prefix_len is_identifier_byte (text_of l.rest);
  within : length (text_of l.text) ≡ l.len + length (text_of l.rest);
}

abbrev pub decreases-loop-next : goal.decreases-loop-next
decreases-loop-next l = length (text_of l.rest)
