use Rattle.std.proofs.Common.{◌≡◌, ◌++◌, take}
use Rattle.hv_plain.specs.episode.Substitution.{escaped}
use Rattle.hv_rescan.proofs.draft.add_quoted.Given as goal

abbrev pub invariant-loop-byte : goal.invariant-loop-byte
invariant-loop-byte l = l.text ≡ l.fn.text ++ escaped (take l.byte-index l.bytes)
