use Rattle.std.proofs.Common.{◌≡◌, length}
use Rattle.hv_cparse.specs.working.Tables.{reduce}
use Rattle.hv_cparse.proofs.frames.Frames.reduce.Given as goal

abbrev pub invariant-loop-frame : goal.invariant-loop-frame
invariant-loop-frame l =
    reduce l.level l.self l.reached ≡ reduce l.level l.initial.self l.fn.of

abbrev pub decreases-loop-frame : goal.decreases-loop-frame
decreases-loop-frame l = length l.self
