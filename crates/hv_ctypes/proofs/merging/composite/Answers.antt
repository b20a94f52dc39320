use Rattle.std.proofs.Common.{ap, ◌∙◌}
use Rattle.hv_ctree.specs.types.Erasure.{type_of}
use Rattle.hv_ctree.specs.types.Compatible as compatibility
use Rattle.hv_ctree.specs.types.Knowledge.{keeps}
use Rattle.hv_ctypes.specs.Written.{written}
use Rattle.hv_ctypes.proofs.CompositeLaws.{compatible_first, compatible_second, keeps_first, keeps_second, written_composite}
use Rattle.hv_ctypes.proofs.merging.composite.Goals as goal

pub returns-clause-with_first : goal.returns-clause-with_first
returns-clause-with_first c =
    ap (λ t. compatibility.compatible t (type_of c.args.a.now)) c.in_ok-merged.ensures
    ∙ compatible_first (type_of c.args.a.now) (type_of c.args.b.now) c.requires

pub returns-clause-with_second : goal.returns-clause-with_second
returns-clause-with_second c =
    ap (λ t. compatibility.compatible t (type_of c.args.b.now)) c.in_ok-merged.ensures
    ∙ compatible_second (type_of c.args.a.now) (type_of c.args.b.now) c.requires

pub returns-clause-keeps_first : goal.returns-clause-keeps_first
returns-clause-keeps_first c =
    ap (λ t. keeps t (type_of c.args.a.now)) c.in_ok-merged.ensures
    ∙ keeps_first (type_of c.args.a.now) (type_of c.args.b.now)

pub returns-clause-keeps_second : goal.returns-clause-keeps_second
returns-clause-keeps_second c =
    ap (λ t. keeps t (type_of c.args.b.now)) c.in_ok-merged.ensures
    ∙ keeps_second (type_of c.args.a.now) (type_of c.args.b.now) c.requires

pub returns-clause-as_large : goal.returns-clause-as_large
returns-clause-as_large c =
    ap written c.in_ok-merged.ensures ∙ written_composite (type_of c.args.a.now) (type_of c.args.b.now) c.requires
