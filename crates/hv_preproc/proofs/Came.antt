-- The laws on steps: what a unit is after a part that was read, and where too many faces are found.
use Rattle.std.proofs.Common.{◌≡◌, ◌+◌, ◌≤◌, ◌⊎◌, ◌&&◌, ◌||◌, not, Bool, true, false, cond, ℕ, List, [], ◌∷◌, refl, sym, ap, ap₂, inl, inr, ◌∙◌, subst, subst₂, arith, true≢false}
use Rattle.std.specs.Prelude.{All, zip}
use Rattle.std.proofs.lemmas.Bool.{false_from_ne_true}
use Rattle.std.proofs.lemmas.List.Elements.{All-head, All-nil, All-tail}
use Rattle.std.proofs.lemmas.List.Sums.{sum_by-cons}
use Rattle.hv_base.specs.declared.place.Place.{Place}
use Rattle.hv_base.specs.declared.why.Why.{Why}
use Rattle.hv_cond.specs.Diagram.{Diagram, IsNode, Keeps, holds}
use Rattle.hv_cond.specs.Laws.{AllNodes-kept, Keeps-trans, count_satisfied-kept}
use Rattle.hv_cond.specs.Parts.{count_satisfied}
use Rattle.hv_cond.specs.declared.conditions.Cond.{Cond}
use Rattle.hv_given.specs.Given.{AllAgree, AreEpisodes, given_in}
use Rattle.hv_given.specs.Laws.{IsRefusedAt-kept}
use Rattle.hv_given.specs.Refusals.{IsRefusedAt}
use Rattle.hv_given.specs.declared.given.Given.{Given}
use Rattle.hv_macros.specs.Table.{meaning_in}
use Rattle.hv_macros.specs.declared.tables.MacroTable.{MacroTable}
use Rattle.hv_plainpp.specs.Reading.{Ending, Met, Reading, reaches, reading, refused}
use Rattle.hv_preproc.proofs.Ending.{keeping-met, keeping-reaches, keeping-refused}
use Rattle.hv_preproc.proofs.Kept.{given_in-kept, meanings_kept}
use Rattle.hv_preproc.proofs.Moving.{IsSound-later}
use Rattle.hv_preproc.proofs.Stepping.{Step, reads_by_step}
use Rattle.hv_preproc.specs.declared.unit.Unit.{Unit as UnitSoFar}
use Rattle.hv_preproc.specs.working.Coming.{Comes, IsPartIn}
use Rattle.hv_preproc.specs.working.Keys.{IsBefore, IsUntil, key}
use Rattle.hv_preproc.specs.working.Parts.{keeping}
use Rattle.hv_preproc.specs.working.Taking.{TakesIn, any_holds}
use Rattle.hv_preproc.specs.working.Walk.{DefinesBefore, IsAt, IsSound, IsUnit, Part, Reads}
use Rattle.hv_texts.specs.Readings.{conditions_of}
use Rattle.hv_toks.specs.Division.{conditions}
use Rattle.hv_toks.specs.Macro.{Macro}
use Rattle.hv_toks.specs.MacroState.{Entry, meaning_of}
use Rattle.hv_toks.specs.declared.parted.Failing.{Failing}

------ entries that hold

none_holds : (d : Diagram) (failing : List Failing) (values : List Bool)
    → count_satisfied d (conditions failing) values ≡ 0 → any_holds d failing values ≡ false
none_holds d [] values e = refl
none_holds d (f ∷ failing) values e =
    split (holds d f.cond values) (count_satisfied d (conditions failing) values)
    (any_holds d failing values) (sym (sum_by-cons _ f.cond (conditions failing)) ∙ e)
    (none_holds d failing values)
  where
    split : (h : Bool) (n : ℕ) (any : Bool) → cond h 1 0 + n ≡ 0 → (n ≡ 0 → any ≡ false)
        → (h || any) ≡ false
    split true n any e rest = absurd (omega (arith, e))
    split false n any e rest = rest (omega (arith, e))

some_holds : (d : Diagram) (failing : List Failing) (values : List Bool)
    → 1 ≤ count_satisfied d (conditions failing) values → any_holds d failing values ≡ true
some_holds d [] values l = absurd (omega (arith, l))
some_holds d (f ∷ failing) values l =
    split (holds d f.cond values) (count_satisfied d (conditions failing) values)
    (any_holds d failing values)
    (subst (λ (n : ℕ). 1 ≤ n) (sum_by-cons _ f.cond (conditions failing)) l)
    (some_holds d failing values)
  where
    split : (h : Bool) (n : ℕ) (any : Bool) → 1 ≤ cond h 1 0 + n → (1 ≤ n → any ≡ true)
        → (h || any) ≡ true
    split true n any l rest = refl
    split false n any l rest = rest (omega (arith, l))

-- a refusal of some entry that holds
refused_by : {A : Type 0} (d : Diagram) (failing : List Failing) (read : List Bool → Reading A)
    (values : List Bool) → any_holds d failing values ≡ true
    → All (λ (f : Failing). (others : List Bool) → holds d f.cond others ≡ true
    → (read others).ending ≡ refused f.why f.place) failing
    → (why : Why) × (place : Place) × ((read values).ending ≡ refused why place)
    × IsRefusedAt d failing values place why
refused_by d [] read values e all = absurd (true≢false (sym e))
refused_by {A} d (f ∷ failing) read values e all =
    split (holds d f.cond values) refl
    (λ some. refused_by d failing read values some
    (All-tail (λ (f : Failing). (others : List Bool) → holds d f.cond others ≡ true
    → (read others).ending ≡ refused f.why f.place) f failing all))
  where
    split : (h : Bool) → holds d f.cond values ≡ h
        → (any_holds d failing values ≡ true → (why : Why) × (place : Place)
        × ((read values).ending ≡ refused why place) × IsRefusedAt d failing values place why)
        → (why : Why) × (place : Place) × ((read values).ending ≡ refused why place)
        × IsRefusedAt d (f ∷ failing) values place why
    split true h behind = (
      f.why,
      f.place,
      All-head (λ (f : Failing). (others : List Bool) → holds d f.cond others ≡ true
          → (read others).ending ≡ refused f.why f.place) f failing all values h,
      inl (record { same_place = refl; same_cause = refl; here = h }),
    )
    split false h behind =
        let rest = behind (sym (ap (λ (b : Bool). b || any_holds d failing values) h) ∙ e) in
        (rest.0, rest.1, rest.2, inr rest.3)

------ counting

and_true : (b : Bool) → (b && true) ≡ b
and_true true = refl
and_true false = refl

and_false : (b : Bool) → (b && false) ≡ false
and_false true = refl
and_false false = refl

one_live : (live : Bool) (n : ℕ) → live ≡ true → cond live 1 0 + n ≤ 1 → n ≡ 0
one_live true n e most = omega (arith, most)
one_live false n e most = absurd (true≢false (sym e))

-- of the configurations of a condition none fails, and each is good that is in it, or exactly one
-- entry holds
abbrev Sorted : (within good any : Bool) → (failing : ℕ) → Type 0
Sorted within good any failing = ((failing ≡ 0) × (any ≡ false) × (good ≡ within))
    ⊎ ((failing ≡ 1) × (any ≡ true) × (within ≡ true))

sorted : (within good any : Bool) (failing : ℕ) → cond good 1 0 + failing ≡ cond within 1 0
    → (failing ≡ 0 → any ≡ false) → (1 ≤ failing → any ≡ true) → Sorted within good any failing
sorted true true any failing e none some =
    let z : failing ≡ 0 = omega (arith, e) in inl (z, none z, refl)
sorted false true any failing e none some = absurd (omega (arith, e))
sorted true false any failing e none some =
    let o : failing ≡ 1 = omega (arith, e) in inr (o, some (omega (arith, o)), refl)
sorted false false any failing e none some =
    let z : failing ≡ 0 = omega (arith, e) in inl (z, none z, refl)

-- a configuration stays live or refused once, where what fails of it was live
balanced : (live now within good any : Bool) (before came failing after : ℕ)
    → Sorted within good any failing → (within ≡ true → live ≡ true) → now ≡ (live && not any)
    → came ≡ before → (came + failing ≤ 1 → after ≡ came + failing) → cond live 1 0 + before ≤ 1
    → cond now 1 0 + after ≡ cond live 1 0 + before
balanced live now within good any before came failing after (inl z) inside is same counted most =
    let counts = counted (omega (arith, z.0, same, most)) in
    let now_is : now ≡ live = is ∙ ap (λ (b : Bool). live && not b) z.1 ∙ and_true live in
    let after_is : after ≡ before = omega (arith, counts, z.0, same) in
    ap₂ (λ (b : Bool) (n : ℕ). cond b 1 0 + n) now_is after_is
balanced live now within good any before came failing after (inr o) inside is same counted most =
    let was_live : live ≡ true = inside o.2 in
    let none : before ≡ 0 = one_live live before was_live most in
    let counts = counted (omega (arith, o.0, same, none)) in
    let now_is : now ≡ false = is ∙ ap (λ (b : Bool). live && not b) o.1 ∙ and_false live in
    let after_is : after ≡ 1 = omega (arith, counts, o.0, same, none) in
    ap₂ (λ (b : Bool) (n : ℕ). cond b 1 0 + n) now_is after_is
    ∙ sym (ap₂ (λ (b : Bool) (n : ℕ). cond b 1 0 + n) was_live none)

------ a part that came

module _ {A : Type 0} (old mid came new : Diagram) (before now : UnitSoFar) (here there : List ℕ)
    (within own good : Cond) (part : Part) (given : List Given) (failing : List Failing)
    (IsRight : List Bool → A → Type 0) (read : (List ℕ → Macro) → Reading A)
    (to_mid : Keeps old mid) (from_mid : Keeps mid came) (to_new : Keeps came new)
    (sound : IsSound old before here) (until : IsUntil here there) (node : IsNode mid own)
    (is_part : IsPartIn old mid before.live within own read part)
    (comes : Comes mid came before.table own good given failing IsRight read here there)
    (taken : TakesIn came new before now given failing) (unit : IsUnit new now) where
  abbrev reads_at : List Bool → Reading A
  reads_at values = read (meaning_in mid before.table values)

  abbrev met_in : List Bool → List Met
  met_in values = cond (holds came own values) (reads_at values).met []

  to_came : Keeps old came
  to_came = Keeps-trans to_mid from_mid

  keeps : Keeps old new
  keeps = Keeps-trans to_came to_new

  at_mid : (values : List Bool) (b : Bool) → holds came own values ≡ b → holds mid own values ≡ b
  at_mid values b e = sym (from_mid.meaning own node values) ∙ e

  sorts : (values : List Bool) → Sorted (holds came own values) (holds came good values)
      (any_holds came failing values) (count_satisfied came (conditions failing) values)
  sorts values = sorted (holds came own values) (holds came good values)
      (any_holds came failing values) (count_satisfied came (conditions failing) values)
      (sym (sum_by-cons _ good (conditions failing)) ∙ comes.ends.divides.one values)
      (none_holds came failing values) (some_holds came failing values)

  -- nothing fails outside the condition
  silent : (values : List Bool) → holds came own values ≡ false
      → any_holds came failing values ≡ false
  silent values e = elim (sorts values) [
    | inl z ↦ z.1
    | inr o ↦ absurd (true≢false (sym o.2 ∙ e))
  ]

  -- the condition doesn't hold where nothing is read, or the unit doesn't live
  quiet : (values : List Bool)
      → (holds old within values ≡ false) ⊎ (holds old before.live values ≡ false)
      → holds came own values ≡ false
  quiet values (inl w) = false_from_ne_true (holds came own values)
      (λ e. true≢false (sym (is_part.inside values (at_mid values true e)).0 ∙ w))
  quiet values (inr l) = false_from_ne_true (holds came own values)
      (λ e. true≢false (sym (is_part.inside values (at_mid values true e)).1 ∙ l))

  lives : (values : List Bool) → holds new now.live values
      ≡ (holds old before.live values && not (any_holds came failing values))
  lives values = taken.lives values
      ∙ ap (λ (b : Bool). b && not (any_holds came failing values))
      (to_came.meaning before.live sound.unit.live values)

  same_macros : (values : List Bool)
      → meaning_in new now.table values ≡ meaning_in old before.table values
  same_macros values = ap (λ (t : MacroTable). meaning_in new t values) taken.table
      ∙ meanings_kept keeps before.table sound.unit.table values

  -- where nothing fails a configuration stays at what it has come to
  stay : (values : List Bool) → any_holds came failing values ≡ false
      → (o : Ending (List Entry)) → IsAt old before values o → IsAt new now values o
  stay values none (reaches macros) at = (
    lives values ∙ ap (λ (b : Bool). holds old before.live values && not b) none
        ∙ and_true (holds old before.live values) ∙ at.0,
    same_macros values ∙ at.1,
  )
  stay values none (refused why place) at = (
    lives values ∙ ap (λ (b : Bool). holds old before.live values && not b) none
        ∙ and_true (holds old before.live values) ∙ at.0,
    (taken.refused values place why).1 (inl (IsRefusedAt-kept to_came before.refusals
        sound.unit.refusals.nodes values place why at.1)),
  )

  -- and where it does it is refused
  fail : (values : List Bool) → any_holds came failing values ≡ true → (why : Why) (place : Place)
      → IsRefusedAt came failing values place why → IsAt new now values (refused why place)
  fail values some why place at = (
    lives values ∙ ap (λ (b : Bool). holds old before.live values && not b) some
        ∙ and_false (holds old before.live values),
    (taken.refused values place why).1 (inr at),
  )

  ends_at : (values : List Bool) (macros : List Entry) → holds came own values ≡ true
      → holds old before.live values ≡ true
      → meaning_in old before.table values ≡ meaning_of macros
      → IsAt new now values (keeping (reads_at values) macros).ending
  ends_at values macros e l m = elim (sorts values) [
    | inl z ↦
        let right = comes.ends.right values (z.2 ∙ e) in
        subst (λ (o : Ending (List Entry)). IsAt new now values o)
        (sym (keeping-reaches (reads_at values).met (reads_at values).ending macros right.0 right.1))
        (stay values z.1 (reaches macros) (l, m))
    | inr o ↦
        let by = refused_by came failing (λ (others : List Bool). reads_at others) values o.1
        comes.ends.refused_there in
        subst (λ (o : Ending (List Entry)). IsAt new now values o)
        (sym (keeping-refused (reads_at values).met (reads_at values).ending macros by.0 by.1 by.2))
        (fail values o.1 by.0 by.1 by.3)
  ]

  goes_by : (values : List Bool) (macros : List Entry) → holds old within values ≡ true
      → holds old before.live values ≡ true
      → meaning_in old before.table values ≡ meaning_of macros
      → (b : Bool) → holds came own values ≡ b
      → ((part values macros).met ≡ cond b (reads_at values).met [])
      × IsAt new now values (part values macros).ending
  goes_by values macros w l m true e =
      let is : part values macros ≡ keeping (reads_at values) macros =
      is_part.read_there values macros (at_mid values true e)
      ∙ ap (λ (f : List ℕ → Macro). keeping (read f) macros)
      (sym (meanings_kept to_mid before.table sound.unit.table values ∙ m)) in (
        ap (λ (r : Reading (List Entry)). r.met) is
            ∙ keeping-met (reads_at values).met (reads_at values).ending macros,
        subst (λ (r : Reading (List Entry)). IsAt new now values r.ending) (sym is)
            (ends_at values macros e l m),
      )
  goes_by values macros w l m false e =
      let is : part values macros ≡ reading macros =
      is_part.nothing_else values macros (at_mid values false e) w l in (
        ap (λ (r : Reading (List Entry)). r.met) is,
        subst (λ (r : Reading (List Entry)). IsAt new now values r.ending) (sym is)
            (stay values (silent values e) (reaches macros) (l, m)),
      )

  are_met_by : (values : List Bool) (b : Bool) → holds came own values ≡ b
      → AreEpisodes (given_in came given values) (cond b (reads_at values).met [])
  are_met_by values true e = comes.met.there values e
  are_met_by values false e = subst (λ (gs : List Given). AreEpisodes gs [])
      (sym (comes.met.elsewhere values e)) tt

  faces_by : (values others : List Bool) (b c : Bool) → holds came own values ≡ b
      → holds came own others ≡ c
      → AllAgree (zip (given_in came given values) (cond b (reads_at values).met []))
      (zip (given_in came given others) (cond c (reads_at others).met []))
  faces_by values others true true e f = comes.faces values others e f
  faces_by values others true false e f =
      subst (λ (gs : List Given). AllAgree (zip (given_in came given values) (reads_at values).met)
      (zip gs [])) (sym (comes.met.elsewhere others f)) (λ k d l. All-nil _)
  faces_by values others false c e f =
      subst (λ (gs : List Given). AllAgree (zip gs [])
      (zip (given_in came given others) (cond c (reads_at others).met [])))
      (sym (comes.met.elsewhere values e)) (All-nil _)

  between_by : (values : List Bool) (b : Bool)
      → All (λ (m : Met). IsUntil here (key m.place) × IsBefore (key m.place) there)
      (cond b (reads_at values).met [])
  between_by values true = comes.between (meaning_in mid before.table values)
  between_by values false = All-nil _

  counts : (values : List Bool)
      → count_satisfied old (before.live ∷ conditions before.refusals) values ≤ 1
      → count_satisfied new (now.live ∷ conditions now.refusals) values
      ≡ count_satisfied old (before.live ∷ conditions before.refusals) values
  counts values most = sum_by-cons _ now.live (conditions now.refusals)
      ∙ balanced (holds old before.live values) (holds new now.live values)
      (holds came own values) (holds came good values) (any_holds came failing values)
      (count_satisfied old (conditions before.refusals) values)
      (count_satisfied came (conditions before.refusals) values)
      (count_satisfied came (conditions failing) values)
      (count_satisfied new (conditions now.refusals) values) (sorts values)
      (λ e. (is_part.inside values (at_mid values true e)).1) (lives values)
      (count_satisfied-kept to_came (conditions before.refusals) sound.unit.refusals.nodes values)
      (taken.counted values)
      (subst (λ (n : ℕ). n ≤ 1) (sum_by-cons _ before.live (conditions before.refusals)) most)
      ∙ sym (sum_by-cons _ before.live (conditions before.refusals))

  defines : DefinesBefore new now there
  defines values name place body e =
      (IsSound-later old before here there until sound).defines_before values name place body
      (sym (ap (λ (f : List ℕ → Macro). f name) (same_macros values)) ∙ e)

  step : Step old new before now here there within part given met_in
  step = record {
    unit = unit;
    defines_before = defines;
    gives = taken.gives;
    nodes = AllNodes-kept to_new (conditions_of given) comes.met.nodes;
    few = comes.few;
    are_met = λ values. subst (λ (gs : List Given). AreEpisodes gs (met_in values))
        (sym (given_in-kept to_new given comes.met.nodes values))
        (are_met_by values (holds came own values) refl);
    faces = λ values others. subst₂ (λ (gs hs : List Given).
        AllAgree (zip gs (met_in values)) (zip hs (met_in others)))
        (sym (given_in-kept to_new given comes.met.nodes values))
        (sym (given_in-kept to_new given comes.met.nodes others))
        (faces_by values others (holds came own values) (holds came own others) refl refl);
    between = λ values. between_by values (holds came own values);
    counted = counts;
    stays = λ values s. (
      ap (λ (b : Bool). cond b (reads_at values).met []) (quiet values s),
      stay values (silent values (quiet values s)),
    );
    goes = λ values macros w l m. goes_by values macros w l m (holds came own values) refl;
  }

-- a part that came takes a unit from one place to another
pub came_reads : {A : Type 0} (old mid came new : Diagram) (before now : UnitSoFar)
    (here there : List ℕ) (within own good : Cond) (part : Part) (given : List Given)
    (failing : List Failing) (IsRight : List Bool → A → Type 0)
    (read : (List ℕ → Macro) → Reading A)
    → Keeps old mid → Keeps mid came → Keeps came new
    → IsSound old before here → IsUntil here there → IsNode mid own
    → IsPartIn old mid before.live within own read part
    → Comes mid came before.table own good given failing IsRight read here there
    → TakesIn came new before now given failing → IsUnit new now
    → Reads old new before now here there within part
came_reads old mid came new before now here there within own good part given failing IsRight read
    to_mid from_mid to_new sound until node is_part comes taken unit =
    reads_by_step old new before now here there within part given
    (λ values. cond (holds came own values) (read (meaning_in mid before.table values)).met [])
    (Keeps-trans (Keeps-trans to_mid from_mid) to_new) until
    (step old mid came new before now here there within own good part given failing IsRight read
    to_mid from_mid to_new sound until node is_part comes taken unit)
