use Rattle.std.proofs.Common.{◌≤◌, List, length, ◌≡◌, ◌++◌}
use Rattle.hv_outside.specs.Sink.{Adds}
use Rattle.hv_outside.proofs.sink.write_all.Given as goal

-- what was added so far and the rest make the bytes, and no write failed
abbrev pub invariant-loop-rest : goal.invariant-loop-rest
invariant-loop-rest g l =
    ((so_far : List _)
    × (so_far ++ l.rest ≡ l.bytes)
    × Adds (g.S.Sink.state l.initial.sink).written (g.S.Sink.state l.sink).written so_far)
    × ((g.S.Sink.state l.sink).faults ≡ (g.S.Sink.state l.initial.sink).faults)

abbrev pub decreases-loop-rest : goal.decreases-loop-rest
decreases-loop-rest g l = length l.rest
