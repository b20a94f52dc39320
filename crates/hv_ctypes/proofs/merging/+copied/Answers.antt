use Rattle.std.proofs.Common.{◌≡◌, ap, sym, ◌∙◌, rules}
use Rattle.hv_ctree.specs.types.Plain.{function}
use Rattle.hv_ctree.specs.types.Erasure.{type_of, shape_of, parameters_of}
use Rattle.hv_ctree.proofs.TypesErasureLemmas.{row_hidden}
use Rattle.hv_ctypes.proofs.merging.+copied.Goals as goal

pub copied_shape-returns-in_ok-params-in-Function : goal.copied_shape-returns-in_ok-params-in-Function
copied_shape-returns-in_ok-params-in-Function t c =
    let f = c.in-Function in
    let of = c.in_ok-of-in-Function.of.value in
    let params = c.in_ok-params-in-Function.params in
    let left : shape_of c.args.shape.now ≡ function (type_of f.of.value) (parameters_of f.params) f.variadic =
    ap shape_of f.is ∙ ap (λ ps. function (type_of f.of.value) ps f.variadic) (row_hidden f.params) in
    let of_is : of ≡ f.of.value = search rules in
    let params_are : parameters_of params ≡ parameters_of f.params = search rules in
    ap (λ ps. function (type_of of) ps f.variadic) (row_hidden params ∙ params_are)
    ∙ (ap (λ o. function (type_of o) (parameters_of f.params) f.variadic) of_is ∙ sym left)
