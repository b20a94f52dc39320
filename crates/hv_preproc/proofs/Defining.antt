-- A step that only sets a name.
use Rattle.std.proofs.Common.{◌≡◌, ◌⊎◌, ◌&&◌, Bool, true, false, ℕ, List, [], ◌∷◌, ◌++◌, append-nil, refl, sym, ap, ap₂, inl, inr, ◌∙◌, subst, true≢false}
use Rattle.std.proofs.Math.Path.{fun_ext}
use Rattle.std.specs.Prelude.{if◌then◌else◌}
use Rattle.std.specs.Str.{bytes_eq}
use Rattle.std.proofs.lemmas.List.Elements.{All-nil}
use Rattle.hv_base.specs.declared.place.Place.{Place}
use Rattle.hv_cond.specs.Diagram.{Diagram, Keeps, holds}
use Rattle.hv_cond.specs.Laws.{count_satisfied-kept}
use Rattle.hv_cond.specs.Parts.{count_satisfied}
use Rattle.hv_cond.specs.declared.conditions.Cond.{Cond}
use Rattle.hv_given.specs.Laws.{IsRefusedAt-kept}
use Rattle.hv_given.specs.Refusals.{IsRefusedAt}
use Rattle.hv_macros.specs.Table.{SetsUnder, meaning_in}
use Rattle.hv_plainpp.specs.Preprocessing.{with_entry}
use Rattle.hv_plainpp.specs.Reading.{Ending, reaches, reading, refused}
use Rattle.hv_preproc.proofs.Moving.{IsSound-later}
use Rattle.hv_preproc.proofs.Stepping.{Step, reads_by_step}
use Rattle.hv_preproc.specs.declared.unit.Unit.{Unit as UnitSoFar}
use Rattle.hv_preproc.specs.working.Keys.{IsBefore, IsInitial, IsUntil, key}
use Rattle.hv_preproc.specs.working.Walk.{DefinesBefore, IsAt, IsSound, IsUnit, Reads}
use Rattle.hv_toks.specs.Division.{conditions}
use Rattle.hv_toks.specs.Macro.{Macro, defined, undefined}
use Rattle.hv_toks.specs.MacroState.{Entry, meaning_after, meaning_of}
use Rattle.hv_toks.specs.declared.macros.Body.{Body}
use Rattle.hv_toks.specs.declared.parted.Failing.{Failing}

-- what a name means after one more entry
after_one : (before : Macro) (entries : List Entry) (e : Entry) (name : List ℕ)
    → meaning_after before (entries ++ e ∷ []) name
    ≡ (if bytes_eq e.name name then e.macro else meaning_after before entries name)
after_one before [] e name = refl
after_one before (x ∷ entries) e name =
    after_one (if bytes_eq x.name name then x.macro else before) entries e name

pub meaning_of-with_entry : (macros : List Entry) (e : Entry) (name : List ℕ)
    → meaning_of (with_entry macros e) name
    ≡ (if bytes_eq e.name name then e.macro else meaning_of macros name)
meaning_of-with_entry macros e name = after_one undefined macros e name

always : (b : Bool) (macro old : Macro)
    → (if b && true then macro else old) ≡ (if b then macro else old)
always true macro old = refl
always false macro old = refl

never : (b : Bool) (macro old : Macro) → (if b && false then macro else old) ≡ old
never true macro old = refl
never false macro old = refl

set_or : (b : Bool) (macro old now m : Macro) → now ≡ (if b then macro else old) → now ≡ m
    → (macro ≡ m) ⊎ (old ≡ m)
set_or true macro old now m is e = inl (sym is ∙ e)
set_or false macro old now m is e = inr (sym is ∙ e)

module _ (old new : Diagram) (before now : UnitSoFar) (here there : List ℕ) (within own : Cond)
    (name : List ℕ) (macro : Macro) (keeps : Keeps old new) (sound : IsSound old before here)
    (until : IsUntil here there) (unit : IsUnit new now) (same_given : now.given ≡ before.given)
    (same_live : now.live ≡ before.live) (same_refusals : now.refusals ≡ before.refusals)
    (sets : SetsUnder old new before.table now.table name own macro)
    (placed : (place : Place) (body : Body) → macro ≡ defined place body
    → IsInitial place ⊎ IsBefore (key place) there)
    (agrees : (values : List Bool) → holds old before.live values ≡ true
    → holds old own values ≡ holds old within values) where
  still_live : (values : List Bool) → holds new now.live values ≡ holds old before.live values
  still_live values = ap (λ (c : Cond). holds new c values) same_live
      ∙ keeps.meaning before.live sound.unit.live values

  set_where : (values : List Bool) (b : Bool) → holds old own values ≡ b → (other : List ℕ)
      → meaning_in new now.table values other
      ≡ (if bytes_eq name other && b then macro else meaning_in old before.table values other)
  set_where values b e other = sets values other
      ∙ ap (λ (h : Bool). if bytes_eq name other && h then macro
      else meaning_in old before.table values other) e

  defines : DefinesBefore new now there
  defines values other place body e =
      split (set_or (bytes_eq name other && holds old own values) macro
      (meaning_in old before.table values other) (meaning_in new now.table values other)
      (defined place body) (sets values other) e)
    where
      split : (macro ≡ defined place body)
          ⊎ (meaning_in old before.table values other ≡ defined place body)
          → IsInitial place ⊎ IsBefore (key place) there
      split (inl m) = placed place body m
      split (inr m) =
          (IsSound-later old before here there until sound).defines_before values other place body m

  -- a configuration stays at what it has come to where nothing is set
  stay : (values : List Bool)
      → (holds old within values ≡ false) ⊎ (holds old before.live values ≡ false)
      → (o : Ending (List Entry)) → IsAt old before values o → IsAt new now values o
  stay values (inr l) (reaches macros) at = absurd (true≢false (sym at.0 ∙ l))
  stay values (inl w) (reaches macros) at = (
    still_live values ∙ at.0,
    fun_ext (λ other. set_where values false (agrees values at.0 ∙ w) other
        ∙ never (bytes_eq name other) macro (meaning_in old before.table values other))
        ∙ at.1,
  )
  stay values s (refused why place) at = (
    still_live values ∙ at.0,
    subst (λ (rs : List Failing). IsRefusedAt new rs values place why) (sym same_refusals)
        (IsRefusedAt-kept keeps before.refusals sound.unit.refusals.nodes values place why at.1),
  )

  sets_there : (values : List Bool) (macros : List Entry) → holds old within values ≡ true
      → holds old before.live values ≡ true
      → meaning_in old before.table values ≡ meaning_of macros
      → meaning_in new now.table values
      ≡ meaning_of (with_entry macros (record { name = name; macro = macro }))
  sets_there values macros w l m = fun_ext (λ other.
      set_where values true (agrees values l ∙ w) other
      ∙ always (bytes_eq name other) macro (meaning_in old before.table values other)
      ∙ ap (λ (f : List ℕ → Macro). if bytes_eq name other then macro else f other) m
      ∙ sym (meaning_of-with_entry macros (record { name = name; macro = macro }) other))

  counts : (values : List Bool) → count_satisfied new (now.live ∷ conditions now.refusals) values
      ≡ count_satisfied old (before.live ∷ conditions before.refusals) values
  counts values = ap₂ (λ (c : Cond) (rs : List Failing).
      count_satisfied new (c ∷ conditions rs) values) same_live same_refusals
      ∙ count_satisfied-kept keeps (before.live ∷ conditions before.refusals)
      (sound.unit.live, sound.unit.refusals.nodes) values

  step : Step old new before now here there within
      (λ values macros. reading (with_entry macros (record { name = name; macro = macro }))) []
      (λ values. [])
  step = record {
    unit = unit;
    defines_before = defines;
    gives = same_given ∙ sym (append-nil before.given);
    nodes = tt;
    few = All-nil _;
    are_met = λ values. tt;
    faces = λ values others. All-nil _;
    between = λ values. All-nil _;
    counted = λ values most. counts values;
    stays = λ values s. (refl, stay values s);
    goes = λ values macros w l m.
        (refl, (still_live values ∙ l, sets_there values macros w l m));
  }

-- a step that only sets a name under a condition; where the unit lives, that is `within`
pub defining_reads : (old new : Diagram) (before now : UnitSoFar) (here there : List ℕ)
    (within own : Cond) (name : List ℕ) (macro : Macro) → Keeps old new
    → IsSound old before here → IsUntil here there → IsUnit new now
    → now.given ≡ before.given → now.live ≡ before.live → now.refusals ≡ before.refusals
    → SetsUnder old new before.table now.table name own macro
    → ((place : Place) (body : Body) → macro ≡ defined place body
    → IsInitial place ⊎ IsBefore (key place) there)
    → ((values : List Bool) → holds old before.live values ≡ true
    → holds old own values ≡ holds old within values)
    → Reads old new before now here there within
    (λ values macros. reading (with_entry macros (record { name = name; macro = macro })))
defining_reads old new before now here there within own name macro keeps sound until unit same_given
    same_live same_refusals sets placed agrees =
    reads_by_step old new before now here there within
    (λ values macros. reading (with_entry macros (record { name = name; macro = macro }))) []
    (λ values. []) keeps until
    (step old new before now here there within own name macro keeps sound until unit same_given
    same_live same_refusals sets placed agrees)
