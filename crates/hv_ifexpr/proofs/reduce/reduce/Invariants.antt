use Rattle.std.proofs.Common.{◌≡◌, length}
use Rattle.hv_ifexpr.specs.working.Machine.{reduce}
use Rattle.hv_ifexpr.proofs.reduce.reduce.Given as goal

abbrev pub invariant-loop-frame : goal.invariant-loop-frame
invariant-loop-frame l =
    reduce l.level l.stack l.operand ≡ reduce l.level l.initial.stack l.fn.operand

abbrev pub decreases-loop-frame : goal.decreases-loop-frame
decreases-loop-frame l = length l.stack
