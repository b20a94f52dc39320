use Rattle.std.proofs.Common.{◌+◌, ◌≤◌, length}
use Rattle.hv_model.specs.Bytes.{lines_of}
use Rattle.hv_model.specs.Lines.{Reading, Reads, Says}
use Rattle.hv_model.proofs.model.read_lines.Given as goal

-- what is left is read after what was read so far; no more lines were read than bytes
abbrev pub invariant-loop-line : goal.invariant-loop-line
invariant-loop-line l =
    ((o : Reading) → Reads l.model l.number (lines_of l.rest) o → Says l.bytes o)
    × (l.number + length l.rest ≤ length l.bytes + 1)

abbrev pub decreases-loop-line : goal.decreases-loop-line
decreases-loop-line l = length l.rest
