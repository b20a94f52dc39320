use Rattle.std.proofs.Common.{◌≡◌, length}
use Rattle.hv_rescan.specs.Values.{open_names, state_of}
use Rattle.hv_expand.specs.Plain.{meanings}
use Rattle.hv_expand.proofs.plain.settle.Given as goal

abbrev pub invariant-loop-machine : goal.invariant-loop-machine
invariant-loop-machine l =
    (state_of (meanings l.fn.entries) l.machine
    ≡ state_of (meanings l.fn.entries) l.fn.machine)
    × (l.machine.run ≡ l.fn.machine.run)

abbrev pub decreases-loop-machine : goal.decreases-loop-machine
decreases-loop-machine l = length (open_names l.machine)
