use Rattle.std.proofs.Common.{◌∙◌, ℕ, refl, sym}
use Rattle.std.proofs.lemmas.Bool.{not-false, not-true}
use Rattle.std.proofs.lemmas.Result.{err_from_is_err_and}
use Rattle.hv_cond.specs.Laws.{Keeps-trans}
use Rattle.hv_directives.specs.Values.{question_of}
use Rattle.hv_macros.specs.Table.{meaning_in}
use Rattle.hv_plainpp.specs.Directives.{if_}
use Rattle.hv_plainpp.specs.Files.{Entered, place_of}
use Rattle.hv_plainpp.specs.Groups.{answer, regrouped}
use Rattle.hv_preproc.proofs.Asking.{entered}
use Rattle.hv_preproc.proofs.Beginning.{asked_stops, full_step, has_room, if_groups, if_regrouped, room_step}
use Rattle.hv_preproc.proofs.Faulting.{stops_weaker}
use Rattle.hv_preproc.proofs.GoingOn.{regrouped_nowhere}
use Rattle.hv_preproc.proofs.GroupsKept.{AreGroups-kept}
use Rattle.hv_preproc.specs.working.Keys.{Rises, reached}
use Rattle.hv_preproc.specs.working.Parts.{keeping, tokens_asked}
use Rattle.hv_preproc.specs.working.Walk.{Stops}
use Rattle.hv_texts.specs.Readings.{IsOriginOf}
use Rattle.hv_toks.specs.MacroState.{meaning_of}
use Rattle.hv_preproc.proofs.open_file.OpenFile.begin_group.Goals as goal

pub returns-in_err-truths-clause-stops : goal.returns-in_err-truths-clause-stops
returns-in_err-truths-clause-stops c =
    let p = err_from_is_err_and c.from_residual-in_err-truths.result
    c.from_residual-in_err-truths.ensures.1 in
    rw (p.1, p.2)
    (stops_weaker (λ place conds. (at : Entered) (low high : ℕ)
    → IsOriginOf c.args.self.now.origin at
    → Rises low high (tokens_asked (question_of c.args.question))
    → Stops c.args.store.now c.answer.new.store c.args.unit.now (reached at low) c.processed.result
    (λ values macros. keeping (answer at (meaning_of macros) c.in_ok-place.place
    (question_of c.args.question)) macros) place conds) _ c.in_err-truths.field-0.0
    (λ place conds stops. asked_stops c.args.store.now c.answer.new.store c.args.unit.now
    c.args.self.now.origin c.processed.result c.args.self.now.groups c.in_ok-place.place
    c.args.hash.now (question_of c.args.question) c.answer.ensures.keeps c.requires.unit
    c.in_ok-place.ensures (c.processed.ensures.meaning c.args.store.now c.requires.groups) place
    conds
    stops) c.in_err-truths.ensures.stops)

pub returns-then-is_full-clause-groups : goal.returns-then-is_full-clause-groups
returns-then-is_full-clause-groups c =
    AreGroups-kept (Keeps-trans c.answer.ensures.keeps c.refuse.ensures.keeps)
    c.args.self.now.groups c.requires.groups

pub returns-then-is_full-clause-read : goal.returns-then-is_full-clause-read
returns-then-is_full-clause-read c =
    full_step c.args.store.now c.answer.new.store c.refuse.new.store c.args.unit.now
    c.answer.new.unit c.refuse.new.unit c.args.self.now.origin c.processed.result
    c.args.self.now.groups c.in_ok-place.place c.args.hash.now (question_of c.args.question)
    c.answer.ensures.keeps c.refuse.ensures.keeps c.requires.unit c.requires.groups.file
    (not-true (has_room c.args.self.now.groups.groups) (sym c.is_full.ensures ∙ c.if-is_full.true))
    c.in_ok-place.ensures (c.processed.ensures.meaning c.args.store.now c.requires.groups)
    c.in_ok-truths.ensures.read c.in_ok-refuse.ensures.read

pub returns-then-is_full-clause-regrouped : goal.returns-then-is_full-clause-regrouped
returns-then-is_full-clause-regrouped c = λ at is.
    regrouped_nowhere c.args.store.now c.answer.new.store c.refuse.new.store c.args.self.now.groups
    c.args.self.now.groups c.answer.new.unit.live c.refuse.new.unit.live
    (λ values. regrouped at (meaning_in c.args.store.now c.args.unit.now.table values)
    (place_of at c.args.hash.now) (if_ (question_of c.args.question))) c.answer.ensures.keeps
    c.requires.groups.file c.in_ok-refuse.ensures.lives

pub returns-clause-groups : goal.returns-clause-groups
returns-clause-groups c =
    if_groups c.args.store.now c.answer.new.store c.processed.result c.answer.new.unit.live
    c.args.self.now.groups c.begin.new.self c.in_ok-place.place c.in_ok-truths.truths _
    c.answer.ensures.keeps c.requires.groups
    (c.processed.ensures.node c.args.store.now c.requires.groups)
    (c.processed.ensures.meaning c.args.store.now c.requires.groups)
    (c.in_ok-truths.ensures.truths (entered c.args.self.now.origin)
    (record { file = refl; stack = refl })) c.in_ok-begin.ensures

pub returns-clause-read : goal.returns-clause-read
returns-clause-read c =
    room_step c.args.store.now c.answer.new.store c.args.unit.now c.answer.new.unit
    c.args.self.now.origin c.processed.result c.args.self.now.groups c.in_ok-place.place
    c.args.hash.now (question_of c.args.question) c.answer.ensures.keeps c.requires.unit
    (not-false (has_room c.args.self.now.groups.groups) (sym c.is_full.ensures ∙
    c.if-is_full.false))
    c.in_ok-place.ensures (c.processed.ensures.meaning c.args.store.now c.requires.groups)
    c.in_ok-truths.ensures.read

pub returns-clause-regrouped : goal.returns-clause-regrouped
returns-clause-regrouped c = λ at is.
    if_regrouped c.args.store.now c.answer.new.store c.processed.result c.answer.new.unit.live at
    c.args.self.now.groups c.begin.new.self c.in_ok-place.place c.args.hash.now
    (question_of c.args.question) c.in_ok-truths.truths c.args.unit.now.table
    c.answer.ensures.keeps c.requires.groups
    (c.processed.ensures.node c.args.store.now c.requires.groups)
    (not-false (has_room c.args.self.now.groups.groups) (sym c.is_full.ensures ∙
    c.if-is_full.false))
    (c.in_ok-place.ensures at is) (c.processed.ensures.meaning c.args.store.now c.requires.groups)
    (c.in_ok-truths.ensures.truths at is) c.in_ok-begin.ensures
