use Rattle.std.proofs.Common.{◌≡◌, ◌++◌, map}
use Rattle.std.specs.String.{string_bytes}
use Rattle.hv_words.specs.Folders.{names_in}
use Rattle.hv_words.specs.working.Cut.{names_left, bytes_left}
use Rattle.hv_words.proofs.folders.names.Given as goal

abbrev pub invariant-loop-rest : goal.invariant-loop-rest
invariant-loop-rest l = map string_bytes l.names.items ++ names_left l.rest ≡ names_in l.text

abbrev pub decreases-loop-rest : goal.decreases-loop-rest
decreases-loop-rest l = bytes_left l.rest
