use Rattle.std.proofs.Common.{◌≡◌, ◌+◌, ◌-◌, ◌<◌, ◌≤◌, drop, take, get_or, length}
use Rattle.hv_lexer.specs.working.Cursors.{marks_of, text_of, places_of}
use Rattle.hv_lexer.proofs.cursor.Cursor.skip.Given as goal

abbrev pub invariant-loop : goal.invariant-loop
invariant-loop l = record {
  rest : marks_of l.rest ≡ drop l.counter (marks_of l.self);
  text : text_of l.rest ≡ drop l.counter (text_of l.self);
  last : 0 < l.counter → l.rest.at ≡ get_or (places_of l.self) (l.counter - 1) 0 + 1;
  same : l.rest.bytes ≡ l.self.bytes;
  from : l.self.at + l.counter ≤ l.rest.at;
  within : 0 < l.counter → l.rest.at ≤ length l.self.bytes.now;
  as_read : l.rest.at ≡ l.self.at + l.counter
      → take l.counter (text_of l.self) ≡ take l.counter (drop l.self.at l.self.bytes.now);
}
