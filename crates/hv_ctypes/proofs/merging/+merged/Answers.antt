use Rattle.std.proofs.Common.{◌≡◌, [], ap, sym, ◌∙◌, rules}
use Rattle.std.proofs.lemmas.List.{append-nil}
use Rattle.hv_ctree.specs.types.Plain.{function}
use Rattle.hv_ctree.specs.types.Erasure.{type_of, shape_of, parameters_of}
use Rattle.hv_ctree.specs.types.Composite as types
use Rattle.hv_ctree.proofs.TypesErasureLemmas.{row_hidden}
use Rattle.hv_ctypes.proofs.ParameterLemmas.{merged_ends}
use Rattle.hv_ctypes.proofs.merging.+merged.Goals as goal

pub merged_parameters-returns : goal.merged_parameters-returns
merged_parameters-returns t c =
    let past = rw c.min-count.ensures at c.loop-i-test.false in
    let ends = merged_ends c.as_slice-a.result.now c.as_slice-b.result.now c.loop-i.i past in
    ap parameters_of (sym (append-nil c.loop-i.params)) ∙ c.loop-i.invariant [] ends

pub merged_shape-returns-in_ok-both-in-Function-b : goal.merged_shape-returns-in_ok-both-in-Function-b
merged_shape-returns-in_ok-both-in-Function-b t c =
    let f = c.in-Function in
    let g = c.in-Function-b in
    let of = c.in_ok-of-in-Function-b.of.value in
    let both = c.in_ok-both-in-Function-b.both in
    let left : shape_of c.args.a.now ≡ function (type_of f.of.value) (parameters_of f.params) f.variadic =
    ap shape_of f.is ∙ ap (λ ps. function (type_of f.of.value) ps f.variadic) (row_hidden f.params) in
    let right : shape_of c.args.b.now ≡ function (type_of g.of_b.value) (parameters_of g.params_b) g.variadic =
    ap shape_of g.is ∙ ap (λ ps. function (type_of g.of_b.value) ps g.variadic) (row_hidden g.params_b) in
    let of_is : type_of of ≡ types.composite (type_of f.of.value) (type_of g.of_b.value) = search rules in
    let both_are : parameters_of both ≡ types.composite_parameters (parameters_of f.params) (parameters_of g.params_b) =
    search rules in
    rw (left, right)
    (ap (λ ps. function (type_of of) ps f.variadic) (row_hidden both ∙ both_are)
    ∙ ap (λ o. function o (types.composite_parameters (parameters_of f.params) (parameters_of g.params_b)) f.variadic) of_is)
