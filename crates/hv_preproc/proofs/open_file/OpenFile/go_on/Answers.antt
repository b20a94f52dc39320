use Rattle.std.proofs.Common.{◌∙◌, ℕ, refl, sym}
use Rattle.std.proofs.lemmas.Result.{err_from_is_err_and}
use Rattle.hv_cond.specs.Laws.{Keeps-refl}
use Rattle.hv_macros.specs.Table.{meaning_in}
use Rattle.hv_plainpp.specs.Directives.{elif}
use Rattle.hv_plainpp.specs.Files.{Entered, place_of}
use Rattle.hv_plainpp.specs.Groups.{expression_truth, regrouped}
use Rattle.hv_preproc.proofs.Asking.{entered}
use Rattle.hv_preproc.proofs.Faulting.{stops_weaker}
use Rattle.hv_preproc.proofs.GoingOn.{asked_node, elif_groups, elif_regrouped, elif_step, elif_stopped, elif_unbalanced, on_top, refused_step, regrouped_nowhere}
use Rattle.hv_preproc.proofs.GroupsKept.{AreGroups-kept}
use Rattle.hv_preproc.specs.working.Keys.{Rises, reached}
use Rattle.hv_preproc.specs.working.Parts.{keeping}
use Rattle.hv_preproc.specs.working.Walk.{Stops}
use Rattle.hv_texts.specs.Readings.{IsOriginOf}
use Rattle.hv_toks.specs.MacroState.{meaning_of}
use Rattle.hv_preproc.proofs.open_file.OpenFile.go_on.Goals as goal

pub expression-requires-clause-cond : goal.expression-requires-clause-cond
expression-requires-clause-cond c =
    asked_node c.args.store.now c.args.self.now.groups c.in-Some.searching c.requires.groups
    (on_top c.args.self.now.groups.groups c.in-Some.searching
    (sym c.searching.ensures ∙ c.in-Some.is))

pub returns-in_err-truths-in-Some-clause-stops : goal.returns-in_err-truths-in-Some-clause-stops
returns-in_err-truths-in-Some-clause-stops c =
    let p = err_from_is_err_and c.from_residual-in_err-truths-in-Some.result
    c.from_residual-in_err-truths-in-Some.ensures.1 in
    rw (p.1, p.2)
    (stops_weaker (λ place conds. (at : Entered) (low high : ℕ)
    → IsOriginOf c.args.self.now.origin at → Rises low high c.args.line.now
    → Stops c.args.store.now c.expression.new.store c.args.unit.now (reached at low)
    c.in-Some.searching (λ values macros. keeping (expression_truth at (meaning_of macros)
    c.in_ok-place.place c.args.line.now) macros) place conds) _ c.in_err-truths-in-Some.field-0.0
    (λ place conds stops. elif_stopped c.args.store.now c.expression.new.store c.args.unit.now
    c.args.self.now.origin c.in-Some.searching c.args.self.now.groups c.in_ok-place.place
    c.args.hash.now c.args.line.now c.expression.ensures.keeps c.requires.unit c.requires.groups
    (on_top c.args.self.now.groups.groups c.in-Some.searching
    (sym c.searching.ensures ∙ c.in-Some.is)) c.in_ok-place.ensures place conds stops)
    c.in_err-truths-in-Some.ensures.stops)

pub returns-in-Some-clause-groups : goal.returns-in-Some-clause-groups
returns-in-Some-clause-groups c =
    elif_groups c.args.store.now c.expression.new.store c.in-Some.searching
    c.expression.new.unit.live c.args.self.now.groups c.go_on.new.self
    c.in_ok-truths-in-Some.truths _ c.expression.ensures.keeps c.requires.groups
    (on_top c.args.self.now.groups.groups c.in-Some.searching
    (sym c.searching.ensures ∙ c.in-Some.is))
    (c.in_ok-truths-in-Some.ensures.truths (entered c.args.self.now.origin)
    (record { file = refl; stack = refl })) c.in_ok-go_on-in-Some.ensures

pub returns-in-Some-clause-read : goal.returns-in-Some-clause-read
returns-in-Some-clause-read c =
    elif_step c.args.store.now c.expression.new.store c.args.unit.now c.expression.new.unit
    c.args.self.now.origin c.in-Some.searching c.args.self.now.groups c.in_ok-place.place
    c.args.hash.now c.args.line.now c.expression.ensures.keeps c.requires.unit c.requires.groups
    (on_top c.args.self.now.groups.groups c.in-Some.searching
    (sym c.searching.ensures ∙ c.in-Some.is)) c.in_ok-place.ensures
    c.in_ok-truths-in-Some.ensures.read

pub returns-in-Some-clause-regrouped : goal.returns-in-Some-clause-regrouped
returns-in-Some-clause-regrouped c = λ at is.
    elif_regrouped c.args.store.now c.expression.new.store c.in-Some.searching
    c.expression.new.unit.live at c.args.self.now.groups c.go_on.new.self c.in_ok-place.place
    c.args.hash.now c.args.line.now c.in_ok-truths-in-Some.truths c.args.unit.now.table
    c.expression.ensures.keeps c.requires.groups
    (on_top c.args.self.now.groups.groups c.in-Some.searching
    (sym c.searching.ensures ∙ c.in-Some.is)) (c.in_ok-place.ensures at is)
    (c.in_ok-truths-in-Some.ensures.truths at is) c.in_ok-go_on-in-Some.ensures

pub returns-clause-groups : goal.returns-clause-groups
returns-clause-groups c =
    AreGroups-kept c.refuse.ensures.keeps c.args.self.now.groups c.requires.groups

pub returns-clause-read : goal.returns-clause-read
returns-clause-read c =
    refused_step c.args.store.now c.refuse.new.store c.args.unit.now c.refuse.new.unit
    c.args.self.now.origin c.args.self.now.groups c.in_ok-place.place c.args.hash.now
    (elif c.args.line.now) c.refuse.ensures.keeps
    (elif_unbalanced c.args.store.now c.args.self.now.groups.groups c.args.line.now
    (sym c.searching.ensures ∙ c.in-None.is)) c.in_ok-place.ensures
    c.in_ok-refuse-in-None.ensures.read

pub returns-clause-regrouped : goal.returns-clause-regrouped
returns-clause-regrouped c = λ at is.
    regrouped_nowhere c.args.store.now c.args.store.now c.refuse.new.store c.args.self.now.groups
    c.args.self.now.groups c.args.unit.now.live c.refuse.new.unit.live
    (λ values. regrouped at (meaning_in c.args.store.now c.args.unit.now.table values)
    (place_of at c.args.hash.now) (elif c.args.line.now)) (Keeps-refl c.args.store.now)
    c.requires.groups.file c.in_ok-refuse-in-None.ensures.lives
