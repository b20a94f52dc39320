use Rattle.std.proofs.Common.{List, [], refl, subst, sym}
use Rattle.hv_cond.specs.Diagram.{AllNodes}
use Rattle.hv_cond.specs.Laws.{Keeps-trans, holds-falsity}
use Rattle.hv_macros.specs.Table.{meaning_in}
use Rattle.hv_plainpp.specs.Files.{Entered}
use Rattle.hv_plainpp.specs.Text.{episodes}
use Rattle.hv_macros.specs.Laws.{HasOneBody-kept, IsTableOf-kept}
use Rattle.hv_preproc.proofs.FaultsLemmas.{exit_of_text}
use Rattle.hv_preproc.proofs.Kept.{IsUnit-kept}
use Rattle.hv_preproc.proofs.Pieces.{Rises-apart}
use Rattle.hv_preproc.proofs.Texts.{text_reads, text_skipped, text_stops}
use Rattle.hv_texts.specs.Readings.{Ends, IsOriginOf}
use Rattle.hv_toks.specs.Division.{conditions}
use Rattle.hv_toks.specs.declared.parted.Failing.{Failing}
use Rattle.hv_preproc.proofs.walk.read_text.Goals as goal

pub returns-then-is_false-clause-unit : goal.returns-then-is_false-clause-unit
returns-then-is_false-clause-unit c =
    IsUnit-kept c.in_ok-cond.ensures.keeps c.args.unit.now c.requires.unit

pub returns-then-is_false-clause-read : goal.returns-then-is_false-clause-read
returns-then-is_false-clause-read c = λ at low high o r s.
    text_skipped c.args.store.now c.processed.new.store c.args.unit.now c.args.file.now.groups
    c.in_ok-cond.cond at low high c.args.run.now c.args.ends c.in_ok-cond.ensures.keeps r
    c.in_ok-cond.ensures.meaning s
    (holds-falsity c.processed.new.store c.in_ok-cond.cond (c.if-is_false.ensures.falsity.0 refl))

pub expand_text-requires-clause-table : goal.expand_text-requires-clause-table
expand_text-requires-clause-table c =
    IsTableOf-kept c.in_ok-cond.ensures.keeps c.args.unit.now.table c.requires.unit.table

pub expand_text-requires-clause-one_body : goal.expand_text-requires-clause-one_body
expand_text-requires-clause-one_body c =
    HasOneBody-kept c.in_ok-cond.ensures.keeps c.args.unit.now.table c.requires.unit.table
    c.requires.unit.one_body

pub returns-in_err-came-clause-stops : goal.returns-in_err-came-clause-stops
returns-in_err-came-clause-stops c =
    exit_of_text c.from_residual-in_err-came.result _ _ c.in_err-came.field-0.0
    c.from_residual-in_err-came.ensures.1 c.in_err-came.ensures.too_many
    (λ place conds many at low high o r.
    text_stops c.args.store.now c.processed.new.store c.args.unit.now c.args.file.now.groups
    c.in_ok-cond.cond at low high c.args.run.now c.args.ends c.in_ok-cond.ensures.keeps r
    c.in_ok-cond.ensures.meaning c.expand_text.new.store place conds c.expand_text.ensures.keeps
    c.requires.unit c.in_ok-cond.ensures.node (many at o (Rises-apart low high c.args.run.now r)))

pub take_in-requires-clause-failing : goal.take_in-requires-clause-failing
take_in-requires-clause-failing c =
    let at : Entered = record {
      file = record { number = c.args.file.now.origin.file; name = []; bytes = [] };
      stack = c.args.file.now.origin.stack;
    } in
    let origin : IsOriginOf c.args.file.now.origin at = record { file = refl; stack = refl } in
    subst (λ (fs : List Failing). AllNodes c.expand_text.new.store (conditions fs))
    (sym c.as_slice.ensures) (c.in_ok-came.ensures.ends at origin).divides.nodes.1

pub take_in-requires-clause-unit : goal.take_in-requires-clause-unit
take_in-requires-clause-unit c =
    IsUnit-kept (Keeps-trans c.in_ok-cond.ensures.keeps c.in_ok-came.ensures.keeps)
    c.args.unit.now c.requires.unit

pub returns-clause-read : goal.returns-clause-read
returns-clause-read c = λ at low high o r s.
    text_reads c.args.store.now c.processed.new.store c.args.unit.now c.args.file.now.groups
    c.in_ok-cond.cond at low high c.args.run.now c.args.ends c.in_ok-cond.ensures.keeps r
    c.in_ok-cond.ensures.meaning c.expand_text.new.store c.take_in.new.store c.take_in.new.self
    c.in_ok-came.came.good c.in_ok-came.came.given c.as_slice.result.now
    c.in_ok-came.ensures.keeps c.in_ok-take_in.ensures.keeps s c.in_ok-cond.ensures.node
    (c.in_ok-came.ensures.met at o)
    (c.in_ok-came.ensures.faces at o (Rises-apart low high c.args.run.now r))
    c.in_ok-came.ensures.few
    (subst (λ (fs : List Failing). Ends c.expand_text.new.store c.in_ok-cond.cond
    c.in_ok-came.came.good fs (λ values value. Unit {0})
    (λ values. episodes at c.args.ends (meaning_in c.processed.new.store c.args.unit.now.table values)
    0 c.args.run.now)) (sym c.as_slice.ensures) (c.in_ok-came.ensures.ends at o))
    c.in_ok-take_in.ensures.taken c.in_ok-take_in.ensures.unit
