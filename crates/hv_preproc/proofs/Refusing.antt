-- A step that refuses the live configurations of a condition.
use Rattle.std.proofs.Common.{◌≡◌, ◌≤◌, ◌⊎◌, ◌+◌, ◌&&◌, Bool, true, false, not, cond, ℕ, List, [], ◌∷◌, append-nil, refl, sym, ap, ap₂, inl, inr, ◌∙◌, arith, true≢false, subst}
use Rattle.std.proofs.lemmas.List.Elements.{All-nil}
use Rattle.std.proofs.lemmas.List.Sums.{sum_by-cons}
use Rattle.hv_base.specs.declared.place.Place.{Place}
use Rattle.hv_base.specs.declared.why.Why.{Why}
use Rattle.hv_cond.specs.Diagram.{Diagram, Keeps, holds}
use Rattle.hv_cond.specs.Laws.{Keeps-trans, count_satisfied-kept}
use Rattle.hv_cond.specs.Parts.{count_satisfied}
use Rattle.hv_cond.specs.declared.conditions.Cond.{Cond}
use Rattle.hv_given.specs.Laws.{IsRefusedAt-kept}
use Rattle.hv_given.specs.Refusals.{CountsMore, RefusesMore}
use Rattle.hv_macros.specs.Table.{meaning_in}
use Rattle.hv_macros.specs.declared.tables.MacroTable.{MacroTable}
use Rattle.hv_plainpp.specs.Reading.{Ending, reaches, refusal, refused}
use Rattle.hv_preproc.proofs.Kept.{meanings_kept}
use Rattle.hv_preproc.proofs.Stepping.{Step, reads_by_step}
use Rattle.hv_preproc.specs.declared.unit.Unit.{Unit as UnitSoFar}
use Rattle.hv_preproc.specs.working.Walk.{DefinesBefore, IsAt, IsSound, IsUnit, Reads}
use Rattle.hv_toks.specs.Division.{conditions}
use Rattle.hv_toks.specs.Macro.{Macro}
use Rattle.hv_toks.specs.MacroState.{Entry}

without_none : (b : Bool) → (b && not false) ≡ b
without_none true = refl
without_none false = refl

without_all : (b : Bool) → (b && not true) ≡ false
without_all true = refl
without_all false = refl

unless_both : (within live : Bool) → (within ≡ false) ⊎ (live ≡ false) → (within && live) ≡ false
unless_both true live (inl e) = absurd (true≢false e)
unless_both false live (inl e) = refl
unless_both true live (inr e) = e
unless_both false live (inr e) = refl

-- a configuration is refused in place of living
moved : (within live now refuses : Bool) (before came after : ℕ)
    → refuses ≡ (within && live) → now ≡ (live && not refuses) → came ≡ before
    → ((refuses ≡ true → came ≡ 0) → after ≡ came + cond refuses 1 0)
    → cond live 1 0 + before ≤ 1 → cond now 1 0 + after ≡ cond live 1 0 + before
moved within live now true before came after both is same counted most =
    by_live live both is most
  where
    by_live : (live : Bool) → true ≡ (within && live) → now ≡ (live && false)
        → cond live 1 0 + before ≤ 1 → cond now 1 0 + after ≡ cond live 1 0 + before
    by_live true both is most =
        let none : before ≡ 0 = omega (arith, most) in
        let counts = counted (λ e. same ∙ none) in
        let one : after ≡ 1 = omega (arith, counts, same, none) in
        ap₂ (λ (b : Bool) (n : ℕ). cond b 1 0 + n) is one
        ∙ sym (ap (λ (n : ℕ). 1 + n) none)
    by_live false both is most = absurd (true≢false (both ∙ nowhere within))
      where
        nowhere : (b : Bool) → (b && false) ≡ false
        nowhere true = refl
        nowhere false = refl
moved within live now false before came after both is same counted most =
    let counts = counted (λ e. absurd (true≢false (sym e))) in
    let kept : after ≡ before = omega (arith, counts, same) in
    ap₂ (λ (b : Bool) (n : ℕ). cond b 1 0 + n) (is ∙ without_none live) kept

module _ (old mid new : Diagram) (before now : UnitSoFar) (here : List ℕ) (within own : Cond)
    (place : Place) (why : Why) (to_mid : Keeps old mid) (to_new : Keeps mid new)
    (sound : IsSound old before here) (unit : IsUnit new now) (same_table : now.table ≡ before.table)
    (same_given : now.given ≡ before.given)
    (refuses : (values : List Bool) → holds mid own values
    ≡ (holds old within values && holds old before.live values))
    (lives : (values : List Bool) → holds new now.live values
    ≡ (holds old before.live values && not (holds mid own values)))
    (more : RefusesMore mid new before.refusals now.refusals place why own)
    (counted : CountsMore mid new before.refusals now.refusals own) where
  keeps : Keeps old new
  keeps = Keeps-trans to_mid to_new

  same_macros : (values : List Bool)
      → meaning_in new now.table values ≡ meaning_in old before.table values
  same_macros values = ap (λ (t : MacroTable). meaning_in new t values) same_table
      ∙ meanings_kept keeps before.table sound.unit.table values

  defines : DefinesBefore new now here
  defines values name at body e = sound.defines_before values name at body
      (sym (ap (λ (f : List ℕ → Macro). f name) (same_macros values)) ∙ e)

  still_live : (values : List Bool) → holds mid own values ≡ false
      → holds new now.live values ≡ holds old before.live values
  still_live values e = lives values
      ∙ ap (λ (b : Bool). holds old before.live values && not b) e
      ∙ without_none (holds old before.live values)

  -- a configuration stays at what it has come to where nothing is refused
  stay : (values : List Bool) → holds mid own values ≡ false → (o : Ending (List Entry))
      → IsAt old before values o → IsAt new now values o
  stay values e (reaches macros) at = (still_live values e ∙ at.0, same_macros values ∙ at.1)
  stay values e (refused cause spot) at = (
    still_live values e ∙ at.0,
    (more values spot cause).1 (inl (IsRefusedAt-kept to_mid before.refusals
        sound.unit.refusals.nodes values spot cause at.1)),
  )

  -- and else it is refused
  fail : (values : List Bool) → holds mid own values ≡ true → IsAt new now values (refused why place)
  fail values e = (
    lives values ∙ ap (λ (b : Bool). holds old before.live values && not b) e
        ∙ without_all (holds old before.live values),
    (more values place why).1 (inr (refl, refl, e)),
  )

  counts : (values : List Bool)
      → count_satisfied old (before.live ∷ conditions before.refusals) values ≤ 1
      → count_satisfied new (now.live ∷ conditions now.refusals) values
      ≡ count_satisfied old (before.live ∷ conditions before.refusals) values
  counts values most = sum_by-cons _ now.live (conditions now.refusals)
      ∙ moved (holds old within values) (holds old before.live values) (holds new now.live values)
      (holds mid own values) (count_satisfied old (conditions before.refusals) values)
      (count_satisfied mid (conditions before.refusals) values)
      (count_satisfied new (conditions now.refusals) values) (refuses values) (lives values)
      (count_satisfied-kept to_mid (conditions before.refusals) sound.unit.refusals.nodes values)
      (counted values)
      (subst (λ (n : ℕ). n ≤ 1) (sum_by-cons _ before.live (conditions before.refusals)) most)
      ∙ sym (sum_by-cons _ before.live (conditions before.refusals))

  step : Step old new before now here here within (λ values macros. refusal why place) []
      (λ values. [])
  step = record {
    unit = unit;
    defines_before = defines;
    gives = same_given ∙ sym (append-nil before.given);
    nodes = tt;
    few = All-nil _;
    are_met = λ values. tt;
    faces = λ values others. All-nil _;
    between = λ values. All-nil _;
    counted = counts;
    stays = λ values s. (
      refl,
      stay values (refuses values
          ∙ unless_both (holds old within values) (holds old before.live values) s),
    );
    goes = λ values macros w l m. (
      refl,
      fail values (refuses values
          ∙ ap₂ (λ (a b : Bool). a && b) w l),
    );
  }

-- the live configurations of a condition are refused
pub refusal_reads : (old mid new : Diagram) (before now : UnitSoFar) (here : List ℕ)
    (within own : Cond) (place : Place) (why : Why) → Keeps old mid → Keeps mid new
    → IsSound old before here → IsUnit new now → now.table ≡ before.table
    → now.given ≡ before.given
    → ((values : List Bool) → holds mid own values
    ≡ (holds old within values && holds old before.live values))
    → ((values : List Bool) → holds new now.live values
    ≡ (holds old before.live values && not (holds mid own values)))
    → RefusesMore mid new before.refusals now.refusals place why own
    → CountsMore mid new before.refusals now.refusals own
    → Reads old new before now here here within (λ values macros. refusal why place)
refusal_reads old mid new before now here within own place why to_mid to_new sound unit same_table
    same_given refuses lives more counted =
    reads_by_step old new before now here here within (λ values macros. refusal why place) []
    (λ values. []) (Keeps-trans to_mid to_new) (inl refl)
    (step old mid new before now here within own place why to_mid to_new sound unit same_table
    same_given refuses lives more counted)
