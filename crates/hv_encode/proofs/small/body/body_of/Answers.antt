use Rattle.std.proofs.Common.{◌≡◌, ◌∙◌, ◌≢◌, subst, List, sym, true, false, codes}
use Rattle.std.proofs.lemmas.Bool.Decides.{Decides-eqb}
use Rattle.std.proofs.lemmas.Slice.Eq.{slice_eq-Decides}
use Rattle.hv_plain.specs.Bytes.{trimmed}
use Rattle.hv_encode.specs.declared.small.line.BodyLine.{BodyLine}
use Rattle.hv_encode.proofs.Bodies.{IsRead, empty_is, some_is, read_next, read_end, refuse_end, refuse_line}
use Rattle.hv_encode.proofs.small.body.body_of.Goals as goal

pub returns-in_default-line_of-clause-none : goal.returns-in_default-line_of-clause-none
returns-in_default-line_of-clause-none c =
    let part = c.in-Some.line.now in
    let different : trimmed part ≢ codes "}" = λ e.
    let yes =
    (slice_eq-Decides Decides-eqb c.trimmed-line.result.now c.as_slice.result.now c.eq.result
    c.eq.ensures).1 (c.trimmed-line.ensures ∙ e ∙ sym c.as_slice.ensures) in
    let wrong : true ≡ false = sym yes ∙ c.if-eq.false in cc in
    refuse_line c.args.model.now.names c.args.text.now c.loop-line.rest.now part c.in-Some.after.now
    c.loop-line.lines.items c.loop-line.invariant c.in-Some.ensures.some.0
    different (λ line is e. c.in_default-line_of.ensures.none line is (c.trimmed-line.ensures ∙ e))

pub loop-line-preserved : goal.loop-line-preserved
loop-line-preserved c =
    let behind = c.in-Some.after.now in
    let lines = c.loop-line.lines.items in
    let line = c.in-Some-line_of.line in
    let next =
    read_next c.args.model.now.names c.args.text.now c.loop-line.rest.now c.in-Some.line.now
    behind lines line c.loop-line.invariant c.in-Some.ensures.some.0
    c.in-Some-line_of.ensures.some.0 (sym c.trimmed-line.ensures ∙ c.in-Some-line_of.ensures.some.1)
    in
    let P : List BodyLine → Type 0 = λ all. IsRead c.args.model.now.names c.args.text.now behind all
    in
    subst P (sym c.in_ok-push.ensures.items) next

pub returns-then-is_empty-clause-some : goal.returns-then-is_empty-clause-some
returns-then-is_empty-clause-some c =
    let same =
    (slice_eq-Decides Decides-eqb c.trimmed-line.result.now c.as_slice.result.now c.eq.result
    c.eq.ensures).0 c.if-eq.true in
    read_end c.args.model.now.names c.args.text.now c.loop-line.rest.now c.in-Some.line.now
    c.in-Some.after.now c.loop-line.lines.items c.loop-line.invariant c.in-Some.ensures.some.0
    (sym c.trimmed-line.ensures ∙ same ∙ c.as_slice.ensures)
    (empty_is c.in-Some.after.now c.is_empty.result c.is_empty.ensures c.if-is_empty.true)

pub returns-then-eq-clause-none : goal.returns-then-eq-clause-none
returns-then-eq-clause-none c =
    let same =
    (slice_eq-Decides Decides-eqb c.trimmed-line.result.now c.as_slice.result.now c.eq.result
    c.eq.ensures).0 c.if-eq.true in
    refuse_end c.args.model.now.names c.args.text.now c.loop-line.rest.now c.in-Some.line.now
    c.in-Some.after.now c.loop-line.lines.items c.loop-line.invariant c.in-Some.ensures.some.0
    (sym c.trimmed-line.ensures ∙ same ∙ c.as_slice.ensures)
    (some_is c.in-Some.after.now c.is_empty.result c.is_empty.ensures c.if-is_empty.false)
