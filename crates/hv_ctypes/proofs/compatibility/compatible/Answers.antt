use Rattle.std.proofs.Common.{sym, ap, ◌∙◌}
use Rattle.hv_ctree.specs.types.Erasure.{type_of}
use Rattle.hv_ctree.specs.types.Compatible as types
use Rattle.hv_ctypes.proofs.CompatibleLaws.{compatible_itself, compatible_swap}
use Rattle.hv_ctypes.proofs.compatibility.compatible.Goals as goal

pub returns-clause-symmetric : goal.returns-clause-symmetric
returns-clause-symmetric c =
    c.types_compatible-compatible.ensures ∙ compatible_swap (type_of c.args.a.now) (type_of c.args.b.now)

pub returns-clause-itself : goal.returns-clause-itself
returns-clause-itself c = λ same.
    let a = type_of c.args.a.now in
    c.types_compatible-compatible.ensures
    ∙ (ap (λ t. types.compatible a t) (sym same) ∙ compatible_itself a)
