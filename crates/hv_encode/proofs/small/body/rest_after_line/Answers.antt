use Rattle.std.proofs.Common.{◌≡◌, ◌∙◌, sym, true, false}
use Rattle.std.proofs.lemmas.Bool.Decides.{Decides-eqb}
use Rattle.std.proofs.lemmas.Slice.Eq.{slice_eq-Decides}
use Rattle.hv_encode.proofs.Bodies.{behind_onto, cut_kept}
use Rattle.hv_encode.proofs.small.body.rest_after_line.Goals as goal

pub returns-then-eq-clause-onto : goal.returns-then-eq-clause-onto
returns-then-eq-clause-onto c = λ lines h.
    let same =
    (slice_eq-Decides Decides-eqb c.trimmed.result.now c.args.line.now c.eq.result
    c.eq.ensures).0 c.if-eq.true in
    behind_onto c.args.text.now c.in_ok-first.first.now c.in_ok-first.rest.now c.args.line.now lines
    c.in_ok-first.ensures.some.0 (sym c.trimmed.ensures ∙ same) h

pub returns-then-eq-clause-kept : goal.returns-then-eq-clause-kept
returns-then-eq-clause-kept c = λ lines h.
    (cut_kept c.args.text.now c.in_ok-first.first.now c.in_ok-first.rest.now c.args.line.now lines
    c.in_ok-first.ensures.some.0 h).1

pub returns-else-eq-clause-none : goal.returns-else-eq-clause-none
returns-else-eq-clause-none c = λ lines h.
    let same =
    (cut_kept c.args.text.now c.in_ok-first.first.now c.in_ok-first.rest.now c.args.line.now
    lines c.in_ok-first.ensures.some.0 h).0 in
    let yes =
    (slice_eq-Decides Decides-eqb c.trimmed.result.now c.args.line.now c.eq.result
    c.eq.ensures).1 (c.trimmed.ensures ∙ same) in
    let wrong : true ≡ false = sym yes ∙ c.if-eq.false in cc
