use Rattle.std.proofs.Common.{◌≡◌, List, ◌++◌, drop}
use Rattle.hv_ctree.specs.declared.types.CType.{CType}
use Rattle.hv_ctree.specs.types.Erasure.{parameters_of}
use Rattle.hv_ctree.specs.types.Composite as types
use Rattle.hv_ctypes.proofs.merging.+merged.Given as goal

-- what is merged already, before the rest
abbrev pub invariant-merged_parameters-loop-i : goal.invariant-merged_parameters-loop-i
invariant-merged_parameters-loop-i l =
    (rest : List CType) →
    parameters_of rest ≡ types.composite_parameters (parameters_of (drop l.i l.a)) (parameters_of (drop l.i l.b)) →
    parameters_of (l.params ++ rest) ≡ types.composite_parameters (parameters_of l.fn.a) (parameters_of l.fn.b)
