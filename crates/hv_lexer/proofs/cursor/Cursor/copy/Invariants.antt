use Rattle.std.proofs.Common.{◌≡◌, drop, take}
use Rattle.hv_lexer.specs.working.Cursors.{text_of}
use Rattle.hv_lexer.proofs.cursor.Cursor.copy.Given as goal

abbrev pub invariant-loop : goal.invariant-loop
invariant-loop l = record {
  rest : text_of l.rest ≡ drop l.counter (text_of l.self);
  text : l.text.items ≡ take l.counter (text_of l.self);
}
