use Rattle.std.proofs.Common.{◌≡◌, ◌++◌, take}
use Rattle.hv_ctoks.specs.Spelling.{printed_bytes}
use Rattle.hv_ctoks.proofs.spelling.spell_bytes.Given as goal

abbrev pub invariant-loop-byte : goal.invariant-loop-byte
invariant-loop-byte l = l.out ≡ l.fn.out ++ printed_bytes l.quote (take l.byte-index l.bytes)
