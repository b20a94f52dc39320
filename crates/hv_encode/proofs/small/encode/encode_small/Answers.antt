use Rattle.std.proofs.Common.{◌≡◌, List, true, [], ◌∷◌, ◌++◌, sym, ◌∙◌, ap, map, subst}
use Rattle.std.specs.Prelude.{is_some}
use Rattle.std.specs.List.{All, flat_map}
use Rattle.std.proofs.lemmas.List.Elements.{recursion_from_All}
use Rattle.hv_model.specs.Name.{AllOptionNames}
use Rattle.hv_model.specs.Rule.{Features}
use Rattle.hv_plain.specs.Source.{spelled, is_nested}
use Rattle.hv_encode.specs.declared.small.line.BodyLine.{BodyLine}
use Rattle.hv_encode.specs.working.Lift.{statements_of}
use Rattle.hv_encode.specs.working.Lines.{IsKnown, IsFree, IsCutInto, plain}
use Rattle.hv_encode.specs.working.Presence.{IsLifted}
use Rattle.hv_encode.proofs.Bodies.{closing}
use Rattle.hv_encode.proofs.Encoded.{encodes-product, product_is}
use Rattle.hv_encode.proofs.SmallSources.{head_line, main_line, small_is, not_some, small_none, some_at}
use Rattle.hv_encode.proofs.small.encode.encode_small.Goals as goal

pub returns-clause-encodes : goal.returns-clause-encodes
returns-clause-encodes c =
    let m : Features = c.args.diagram.now.model in
    let names = m.names in
    let source = c.args.source.now in
    let slice = c.as_slice.result.now in
    let same = sym c.as_slice.ensures.value in
    let Known : List BodyLine → Type 0 = λ lines. All (IsKnown names) lines in
    let Cut : List BodyLine → Type 0 =
    λ lines. IsCutInto source (head_line ∷ main_line ∷
    (map spelled (map (plain names) lines) ++ closing)) in
    let known =
    subst Known same (some_at c.in_ok-lines.field-0 c.in-Some.lines (λ lines. Known lines.items)
    c.in-Some.is c.in_ok-lines.ensures.known) in
    let free =
    some_at c.in_ok-lines.field-0 c.in-Some.lines (λ _. IsFree names) c.in-Some.is
    c.in_ok-lines.ensures.free in
    let cut =
    subst Cut same (some_at c.in_ok-lines.field-0 c.in-Some.lines (λ lines. Cut lines.items)
    c.in-Some.is c.in_ok-lines.ensures.some) in
    let pruned =
    some_at c.in_ok-product.field-0 c.in-Some-2.product (IsLifted m slice) c.in-Some-2.is
    c.in_ok-product.ensures.lifted in
    let nested : is_nested [] (map (plain names) slice) ≡ true = sym c.in_ok-product.ensures.nested
    ∙ ap is_some c.in-Some-2.is in
    let named : AllOptionNames names =
    rw c.in_ok-product.ensures.model at c.in_ok-text.ensures.names in
    let printed = rw c.in_ok-product.ensures.model at c.in_ok-text.ensures.text in
    let kept = flat_map (statements_of names) c.in-Some-2.product.blocks in
    encodes-product m slice known source c.in_ok-text.text
    (small_is names source slice free known cut nested)
    (product_is m named slice (recursion_from_All (IsKnown names) slice known) kept pruned
    c.in_ok-text.text printed)

pub returns-clause-small : goal.returns-clause-small
returns-clause-small c =
    let names = c.args.diagram.now.model.names in
    let source = c.args.source.now in
    let slice = c.as_slice.result.now in
    let same = sym c.as_slice.ensures.value in
    let Known : List BodyLine → Type 0 = λ lines. All (IsKnown names) lines in
    let Cut : List BodyLine → Type 0 =
    λ lines. IsCutInto source (head_line ∷ main_line ∷
    (map spelled (map (plain names) lines) ++ closing)) in
    let known =
    subst Known same (some_at c.in_ok-lines.field-0 c.in-Some.lines (λ lines. Known lines.items)
    c.in-Some.is c.in_ok-lines.ensures.known) in
    let free =
    some_at c.in_ok-lines.field-0 c.in-Some.lines (λ _. IsFree names) c.in-Some.is
    c.in_ok-lines.ensures.free in
    let cut =
    subst Cut same (some_at c.in_ok-lines.field-0 c.in-Some.lines (λ lines. Cut lines.items)
    c.in-Some.is c.in_ok-lines.ensures.some) in
    let nested : is_nested [] (map (plain names) slice) ≡ true = sym c.in_ok-product.ensures.nested
    ∙ ap is_some c.in-Some-2.is in
    (map (plain names) slice, small_is names source slice free known cut nested)

pub returns-in_default-2-clause-refused : goal.returns-in_default-2-clause-refused
returns-in_default-2-clause-refused c =
    let names = c.args.diagram.now.model.names in
    let source = c.args.source.now in
    let slice = c.as_slice.result.now in
    let same = sym c.as_slice.ensures.value in
    let Known : List BodyLine → Type 0 = λ lines. All (IsKnown names) lines in
    let Cut : List BodyLine → Type 0 =
    λ lines. IsCutInto source (head_line ∷ main_line ∷
    (map spelled (map (plain names) lines) ++ closing)) in
    let known =
    subst Known same (some_at c.in_ok-lines.field-0 c.in-Some.lines (λ lines. Known lines.items)
    c.in-Some.is c.in_ok-lines.ensures.known) in
    let cut =
    subst Cut same (some_at c.in_ok-lines.field-0 c.in-Some.lines (λ lines. Cut lines.items)
    c.in-Some.is c.in_ok-lines.ensures.some) in
    small_none names source slice known cut
    (sym c.in_ok-product.ensures.nested ∙ not_some c.in_ok-product.field-0 c.in_default-2.not-Some)
