use Rattle.std.proofs.Common.{arith, ap, subst, sym}
use Rattle.hv_base.specs.declared.place.Place.{Place}
use Rattle.hv_cond.specs.Laws.{Keeps-refl}
use Rattle.hv_directives.specs.Values.{action_of}
use Rattle.hv_plainpp.specs.Directives.{define, error, ignored, include, undef, unknown}
use Rattle.hv_plainpp.specs.Preprocessing.{obeyed}
use Rattle.hv_preproc.proofs.ActionLemmas.{define_acts, error_acts, ignored_acts, none-weaker, of_token, same_action, still_reads, undef_acts, unknown_acts}
use Rattle.hv_preproc.specs.working.Keys.{IsInitial, key, reached}
use Rattle.hv_preproc.specs.working.Parts.{reader_at}
use Rattle.hv_preproc.specs.working.Walk.{IsSound}
use Rattle.hv_preproc.proofs.open_file.OpenFile.act.Goals as goal

pub returns-in-Include-clause-none : goal.returns-in-Include-clause-none
returns-in-Include-clause-none c =
    let bundle = c.args.pages.now.bundle.now in
    none-weaker c.include.result
    (λ read at low high is first second sound. same_action c.args.store.now c.include.new.store
    c.args.unit.now c.include.new.unit (reached at low) (reached at high) c.args.cond bundle
    (reader_at c.args.left bundle) at c.args.hash.now (include c.in-Include.line.now)
    (action_of c.args.action) (ap action_of c.in-Include.is)
    (still_reads c.args.store.now c.include.new.store c.args.unit.now c.include.new.unit at low
    high c.args.cond (λ values. obeyed bundle (reader_at c.args.left bundle) at c.args.hash.now
    (include c.in-Include.line.now)) (omega (arith, first, second))
    (λ here ready. read at here is ready) sound)) c.include.ensures.none

pub define-requires-clause-sound : goal.define-requires-clause-sound
define-requires-clause-sound c =
    subst (λ (p : Place). IsSound c.args.store.now c.args.unit.now (key p))
    (sym (of_token c.in_ok-place.place c.args.self.now.origin c.args.hash.now
    c.in_ok-place.ensures)) c.requires.sound

pub define-requires-clause-file : goal.define-requires-clause-file
define-requires-clause-file c =
    subst (λ (p : Place). ¬ IsInitial p)
    (sym (of_token c.in_ok-place.place c.args.self.now.origin c.args.hash.now
    c.in_ok-place.ensures)) c.requires.file

pub returns-in-Define-clause-none : goal.returns-in-Define-clause-none
returns-in-Define-clause-none c = λ at low high is first second sound.
    let bundle = c.args.pages.now.bundle.now in
    same_action c.args.store.now c.define.new.store c.args.unit.now c.define.new.unit
    (reached at low) (reached at high) c.args.cond bundle (reader_at c.args.left bundle) at
    c.args.hash.now (define c.in-Define.line.now) (action_of c.args.action) (ap action_of c.in-Define.is)
    (define_acts c.args.store.now c.define.new.store c.args.unit.now c.define.new.unit
    at low high c.args.cond bundle (reader_at c.args.left bundle) c.args.hash.now c.in-Define.line.now
    c.in_ok-place.place (c.in_ok-place.ensures at is.same_origin) first second
    c.in_ok-define-in-Define.ensures.read sound)

pub returns-in-Undef-clause-none : goal.returns-in-Undef-clause-none
returns-in-Undef-clause-none c = λ at low high is first second sound.
    let bundle = c.args.pages.now.bundle.now in
    same_action c.args.store.now c.undef.new.store c.args.unit.now c.undef.new.unit
    (reached at low) (reached at high) c.args.cond bundle (reader_at c.args.left bundle) at
    c.args.hash.now (undef c.in-Undef.line.now) (action_of c.args.action) (ap action_of c.in-Undef.is)
    (undef_acts c.args.store.now c.undef.new.store c.args.unit.now c.undef.new.unit
    at low high c.args.cond bundle (reader_at c.args.left bundle) c.args.hash.now c.in-Undef.line.now
    c.in_ok-place.place (c.in_ok-place.ensures at is.same_origin) first second
    c.in_ok-undef-in-Undef.ensures.read sound)

pub returns-in-Error-clause-none : goal.returns-in-Error-clause-none
returns-in-Error-clause-none c = λ at low high is first second sound.
    let bundle = c.args.pages.now.bundle.now in
    same_action c.args.store.now c.refuse.new.store c.args.unit.now c.refuse.new.self
    (reached at low) (reached at high) c.args.cond bundle (reader_at c.args.left bundle) at
    c.args.hash.now error (action_of c.args.action) (ap action_of c.in-Error.is)
    (error_acts c.args.store.now c.refuse.new.store c.args.unit.now c.refuse.new.self
    at low high c.args.cond bundle (reader_at c.args.left bundle) c.args.hash.now
    c.in_ok-place.place (c.in_ok-place.ensures at is.same_origin) first second
    c.in_ok-refuse-in-Error.ensures.read sound)

pub returns-in-Ignored-clause-none : goal.returns-in-Ignored-clause-none
returns-in-Ignored-clause-none c = λ at low high is first second sound.
    let bundle = c.args.pages.now.bundle.now in
    same_action c.args.store.now c.args.store.now c.args.unit.now c.args.unit.now
    (reached at low) (reached at high) c.args.cond bundle (reader_at c.args.left bundle) at
    c.args.hash.now ignored (action_of c.args.action) (ap action_of c.in-Ignored.is)
    (ignored_acts c.args.store.now c.args.unit.now at low high c.args.cond bundle
    (reader_at c.args.left bundle) c.args.hash.now (Keeps-refl c.args.store.now) first second sound)

pub returns-clause-none : goal.returns-clause-none
returns-clause-none c = λ at low high is first second sound.
    let bundle = c.args.pages.now.bundle.now in
    same_action c.args.store.now c.refuse-in-Unknown.new.store c.args.unit.now c.refuse-in-Unknown.new.self
    (reached at low) (reached at high) c.args.cond bundle (reader_at c.args.left bundle) at
    c.args.hash.now unknown (action_of c.args.action) (ap action_of c.in-Unknown.is)
    (unknown_acts c.args.store.now c.refuse-in-Unknown.new.store c.args.unit.now c.refuse-in-Unknown.new.self
    at low high c.args.cond bundle (reader_at c.args.left bundle) c.args.hash.now
    c.in_ok-place.place (c.in_ok-place.ensures at is.same_origin) first second
    c.in_ok-refuse-in-Unknown.ensures.read sound)
