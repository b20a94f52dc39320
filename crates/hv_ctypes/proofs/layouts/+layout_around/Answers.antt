use Rattle.std.proofs.Common.{◌≡◌, ap, sym, ◌∙◌, rules}
use Rattle.hv_ctree.specs.types.Erasure.{shape_of}
use Rattle.hv_ctree.specs.types.Layouts.{within_limit, shape_layout_by, repeated}
use Rattle.hv_ctypes.proofs.LayoutsLemmas.{repeated_within}
use Rattle.hv_ctypes.proofs.layouts.+layout_around.Goals as goal

pub returns-in-Array-clause-value : goal.returns-in-Array-clause-value
returns-in-Array-clause-value t c =
    let a = c.in-Array in
    let whole = ap (λ s. within_limit (shape_layout_by (λ _. c.args.of.now) (shape_of s))) a.is in
    let element = shape_layout_by (λ _. c.args.of.now) (shape_of a.element.value.shape) in
    let inner : c.layout_around.result ≡ within_limit element = search rules in
    c.repeated.ensures.value
    ∙ (ap (λ e. within_limit (repeated a.length e)) inner
    ∙ (repeated_within a.length element ∙ sym whole))
