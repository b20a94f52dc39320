use Rattle.std.proofs.Common.{◌≡◌, ◌-◌, ◌≤◌, length}
use Rattle.hv_lexer.specs.working.Cursors.{marks_of}
use Rattle.hv_lexer.proofs.cursor.Cursor.next.Given as goal

abbrev pub invariant-loop-at : goal.invariant-loop-at
invariant-loop-at l = record {
  marks : marks_of l.self ≡ marks_of (record { bytes = l.self.bytes; at = l.at });
  from : l.self.at ≤ l.at;
}

abbrev pub decreases-loop-at : goal.decreases-loop-at
decreases-loop-at l = length l.self.bytes.now - l.at
