use Rattle.std.proofs.Common.{◌≡◌, ◌-◌, min, ap, ◌∙◌, arith, rules}
use Rattle.hv_ctree.specs.types.Plain.{function}
use Rattle.hv_ctree.specs.types.Erasure.{type_of, shape_of, parameters_of}
use Rattle.hv_ctree.proofs.TypesErasureLemmas.{row_hidden}
use Rattle.hv_ctypes.specs.Written.{written, written_all}
use Rattle.hv_ctypes.proofs.derived.+parts.Goals as goal

pub parts_within-returns-in-Function : goal.parts_within-returns-in-Function
parts_within-returns-in-Function t c =
    let f = c.in-Function in
    let left : shape_of c.args.shape.now ≡ function (type_of f.of.value) (parameters_of f.params) f.variadic =
    ap shape_of f.is ∙ ap (λ ps. function (type_of f.of.value) ps f.variadic) (row_hidden f.params) in
    let first : c.parts-first.result ≡ min (written (type_of f.of.value)) c.args.most = search rules in
    let rest : c.parts_of_all.result ≡ min (written_all (parameters_of f.params)) (c.args.most - c.parts-first.result) =
    search rules in
    rw left (omega arith)
