use Rattle.std.proofs.Common.{◌≡◌, List, ◌++◌, drop}
use Rattle.hv_ctree.specs.declared.types.CType.{CType}
use Rattle.hv_ctree.specs.types.Erasure.{parameters_of}
use Rattle.hv_ctypes.proofs.merging.+copied.Given as goal

-- what is copied already, before the rest
abbrev pub invariant-copied_parameters-loop-t : goal.invariant-copied_parameters-loop-t
invariant-copied_parameters-loop-t l =
    (rest : List CType) → parameters_of rest ≡ parameters_of (drop l.t-index l.params) →
    parameters_of (l.copy ++ rest) ≡ parameters_of l.params
