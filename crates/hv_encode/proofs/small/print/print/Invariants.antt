use Rattle.std.proofs.Common.{◌≡◌, ◌++◌, take}
use Rattle.std.specs.List.{flat_map}
use Rattle.hv_encode.specs.working.Lift.{statements_of}
use Rattle.hv_encode.proofs.Printed.{statements_text}
use Rattle.hv_encode.proofs.small.print.print.Given as goal

-- the statements of the blocks so far are written
abbrev pub invariant-loop-block : goal.invariant-loop-block
invariant-loop-block l =
    l.text ≡ l.initial.text ++ statements_text (flat_map (statements_of l.model.names)
    (take l.block-index l.blocks))
