use Rattle.std.proofs.Common.{◌≡◌, drop}
use Rattle.hv_ctree.specs.types.Erasure.{parameters_of}
use Rattle.hv_ctree.specs.types.Compatible as types
use Rattle.hv_ctypes.proofs.compatibility.+alike.Given as goal

abbrev pub invariant-parameters_alike-loop-i : goal.invariant-parameters_alike-loop-i
invariant-parameters_alike-loop-i l =
    types.parameters_alike (parameters_of (drop l.i l.a)) (parameters_of (drop l.i l.others))
    ≡ types.parameters_alike (parameters_of l.a) (parameters_of l.b)
