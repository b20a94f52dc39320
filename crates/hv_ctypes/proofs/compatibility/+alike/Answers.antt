use Rattle.std.proofs.Common.{◌≡◌, true, length, sym, ◌∙◌, ap, rules}
use Rattle.hv_ctree.specs.types.Plain.{function}
use Rattle.hv_ctree.specs.types.Erasure.{type_of, shape_of, parameters_of}
use Rattle.hv_ctree.specs.types.Compatible as types
use Rattle.hv_ctree.proofs.TypesErasureLemmas.{row_hidden}
use Rattle.hv_ctypes.proofs.ParameterLemmas.{unequal_alike}
use Rattle.hv_ctypes.proofs.compatibility.+alike.Goals as goal

pub parameters_alike-returns-then-len-others : goal.parameters_alike-returns-then-len-others
parameters_alike-returns-then-len-others t c =
    let unequal : length c.args.a.now ≡ length c.args.b.now → ⊥ =
    λ e. c.if-len-others.true (c.len.ensures ∙ (e ∙ sym (ap length c.as_slice-others.ensures))) in
    sym (unequal_alike c.args.a.now c.args.b.now unequal)

pub shapes_alike-returns-then-variadic-variadic_b : goal.shapes_alike-returns-then-variadic-variadic_b
shapes_alike-returns-then-variadic-variadic_b t c =
    let a = c.in-Function in
    let b = c.in-Function-b in
    let left : shape_of c.args.a.now ≡ function (type_of a.of.value) (parameters_of a.params) a.variadic =
    ap shape_of a.is ∙ ap (λ ps. function (type_of a.of.value) ps a.variadic) (row_hidden a.params) in
    let right : shape_of c.args.b.now ≡ function (type_of b.of_b.value) (parameters_of b.params_b) b.variadic_b =
    ap shape_of b.is ∙ ap (λ ps. function (type_of b.of_b.value) ps b.variadic_b) (row_hidden b.params_b) in
    let results : types.alike (type_of a.of.value) (type_of b.of_b.value) ≡ true = search rules in
    let same : types.same_truth a.variadic b.variadic_b ≡ true = search rules in
    let both : c.parameters_alike.result ≡ types.parameters_alike (parameters_of a.params) (parameters_of b.params_b) =
    search rules in
    rw (left, right, results, same) both
