use Rattle.std.proofs.Common.{◌≡◌, false, ap, ◌∙◌, rules}
use Rattle.hv_ctree.specs.types.Plain.{plain, function}
use Rattle.hv_ctree.specs.types.Erasure.{type_of, parameters_of}
use Rattle.hv_ctree.proofs.TypesErasureLemmas.{row_hidden}
use Rattle.hv_ctypes.proofs.derived.function_of.Goals as goal

pub returns-clause-value : goal.returns-clause-value
returns-clause-value c =
    let of_is : type_of c.in_ok-of.of.value ≡ type_of c.args.t = search rules in
    c.in_ok-made.ensures.value
    ∙ (ap (λ ps. plain false (function (type_of c.in_ok-of.of.value) ps c.args.variadic)) (row_hidden c.args.params)
    ∙ ap (λ o. plain false (function o (parameters_of c.args.params) c.args.variadic)) of_is)
