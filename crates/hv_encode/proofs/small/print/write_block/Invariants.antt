use Rattle.std.proofs.Common.{◌≡◌, ◌++◌, map, take}
use Rattle.hv_encode.specs.working.Lift.{literal_of}
use Rattle.hv_encode.proofs.Printed.{statement_with, statements_text}
use Rattle.hv_encode.proofs.small.print.write_block.Given as goal

-- the statements of the bytes so far are written
abbrev pub invariant-loop-byte : goal.invariant-loop-byte
invariant-loop-byte l =
    l.text ≡ l.fn.text ++ statements_text (map
    (statement_with (map (literal_of l.model.names) l.block.test)) (take l.byte-index l.bytes))
