-- A step, said by what it changes in each configuration, takes a unit from one place to another.
use Rattle.std.proofs.Common.{◌≡◌, ◌<◌, ◌≤◌, ◌⊎◌, Bool, true, false, cond, ℕ, List, [], ◌∷◌, ◌++◌, append-nil, refl, sym, ap, ap₂, inl, inr, ◌∙◌, subst, subst₂, arith}
use Rattle.std.specs.Prelude.{All, zip}
use Rattle.std.proofs.lemmas.List.{map-append}
use Rattle.std.proofs.lemmas.List.Elements.{All-append, All-same, All-weaker, filter-append}
use Rattle.hv_base.specs.declared.place.Place.{Place}
use Rattle.hv_base.specs.declared.limits.TheConstants.{MOST_FACES}
use Rattle.hv_cond.specs.Diagram.{AllNodes, Diagram, Keeps, holds}
use Rattle.hv_cond.specs.Laws.{AllNodes-append, AllNodes-kept}
use Rattle.hv_cond.specs.Parts.{count_satisfied}
use Rattle.hv_cond.specs.declared.conditions.Cond.{Cond}
use Rattle.hv_given.specs.Given.{AllAgree, AreEpisodes, given_in}
use Rattle.hv_given.specs.declared.given.Given.{Given}
use Rattle.hv_macros.specs.Table.{meaning_in}
use Rattle.hv_plainpp.specs.Reading.{Ending, Met, Reading, and_then, reaches, refused}
use Rattle.hv_preproc.proofs.Joining.{AllAgree-append, AllAgree-apart, AllAgree-apart_back, AreEpisodes-append, places_of, zip-append}
use Rattle.hv_preproc.proofs.Kept.{given_in-kept}
use Rattle.hv_preproc.proofs.KeyOrder.{IsUntil-before}
use Rattle.hv_preproc.specs.declared.unit.Unit.{Unit as UnitSoFar}
use Rattle.hv_preproc.specs.working.Keys.{IsBefore, IsUntil, key}
use Rattle.hv_preproc.specs.working.Walk.{DefinesBefore, IsAt, IsUnit, IsUpTo, Part, Reads, SoFar, after}
use Rattle.hv_texts.specs.Readings.{AreFew, conditions_of}
use Rattle.hv_toks.specs.Division.{conditions}
use Rattle.hv_toks.specs.MacroState.{Entry, meaning_of}

-- what a step changes: it adds entries, which are in each configuration these episodes; where it
-- reads nothing the configuration stays at what it has come to, and elsewhere it is at what the part
-- comes to
pub record Step (old new : Diagram) (before now : UnitSoFar) (here there : List ℕ) (within : Cond)
    (part : Part) (given : List Given) (met : List Bool → List Met) : Type 0 where
  pub unit : IsUnit new now
  pub defines_before : DefinesBefore new now there
  pub gives : now.given ≡ before.given ++ given
  pub nodes : AllNodes new (conditions_of given)
  pub few : AreFew given
  pub are_met : (values : List Bool) → AreEpisodes (given_in new given values) (met values)
  pub faces : (values others : List Bool)
      → AllAgree (zip (given_in new given values) (met values))
      (zip (given_in new given others) (met others))
  pub between : (values : List Bool)
      → All (λ (m : Met). IsUntil here (key m.place) × IsBefore (key m.place) there) (met values)
  pub counted : (values : List Bool)
      → count_satisfied old (before.live ∷ conditions before.refusals) values ≤ 1
      → count_satisfied new (now.live ∷ conditions now.refusals) values
      ≡ count_satisfied old (before.live ∷ conditions before.refusals) values
  pub stays : (values : List Bool)
      → (holds old within values ≡ false) ⊎ (holds old before.live values ≡ false)
      → (met values ≡ [])
      × ((o : Ending (List Entry)) → IsAt old before values o → IsAt new now values o)
  pub goes : (values : List Bool) (macros : List Entry)
      → holds old within values ≡ true → holds old before.live values ≡ true
      → meaning_in old before.table values ≡ meaning_of macros
      → ((part values macros).met ≡ met values) × IsAt new now values (part values macros).ending

------ in one configuration

-- a reading has these episodes, and more, and the configuration is at its end
abbrev Turned : Diagram → UnitSoFar → List Bool → (met more : List Met) → Reading (List Entry)
    → Type 0
Turned new now values met more whole =
    (whole.met ≡ met ++ more) × IsAt new now values whole.ending

turned : (old new : Diagram) (before now : UnitSoFar) (values : List Bool) (reads : Bool)
    (met more : List Met) (o : Ending (List Entry)) (p : List Entry → Reading (List Entry))
    → IsAt old before values o
    → ((reads ≡ false) ⊎ (holds old before.live values ≡ false) → (more ≡ [])
    × ((e : Ending (List Entry)) → IsAt old before values e → IsAt new now values e))
    → ((macros : List Entry) → reads ≡ true → holds old before.live values ≡ true
    → meaning_in old before.table values ≡ meaning_of macros
    → ((p macros).met ≡ more) × IsAt new now values (p macros).ending)
    → Turned new now values met more (cond reads
    (and_then (record { met = met; ending = o }) p) (record { met = met; ending = o }))
turned old new before now values false met more o p at stays goes =
    let s = stays (inl refl) in
    (sym (append-nil met) ∙ ap (λ (ms : List Met). met ++ ms) (sym s.0), s.1 o at)
turned old new before now values true met more (refused why place) p at stays goes =
    let s = stays (inr at.0) in
    (sym (append-nil met) ∙ ap (λ (ms : List Met). met ++ ms) (sym s.0), s.1 (refused why place) at)
turned old new before now values true met more (reaches macros) p at stays goes =
    let g = goes macros refl at.0 at.1 in (ap (λ (ms : List Met). met ++ ms) g.0, g.1)

at_most_one : (b : Bool) (n : ℕ) → n ≡ cond b 1 0 → n ≤ 1
at_most_one true n e = omega (arith, e)
at_most_one false n e = omega (arith, e)

------ in all configurations

module _ (old new : Diagram) (before now : UnitSoFar) (here there : List ℕ) (within : Cond)
    (part : Part) (given : List Given) (met : List Bool → List Met) (keeps : Keeps old new)
    (until : IsUntil here there)
    (step : Step old new before now here there within part given met) (valid : Cond)
    (so_far : SoFar) (u : IsUpTo old valid before here so_far) where
  -- a configuration of `valid`, as the store grew
  back : (values : List Bool) → holds new valid values ≡ true → holds old valid values ≡ true
  back values v = sym (keeps.meaning valid u.valid_node values) ∙ v

  turn : (values : List Bool) → holds new valid values ≡ true
      → Turned new now values (so_far values).met (met values) (after old within so_far part values)
  turn values v = turned old new before now values (holds old within values) (so_far values).met
      (met values) (so_far values).ending (part values) (u.stands values (back values v))
      (step.stays values) (step.goes values)

  entries : (values : List Bool) → given_in new now.given values
      ≡ given_in old before.given values ++ given_in new given values
  entries values = ap (λ (gs : List Given). given_in new gs values) step.gives
      ∙ filter-append (λ (g : Given). holds new g.cond values) before.given given
      ∙ ap (λ (gs : List Given). gs ++ given_in new given values)
      (given_in-kept keeps before.given u.nodes values)

  there_met : (values : List Bool) → holds new valid values ≡ true
      → AreEpisodes (given_in new now.given values) (after old within so_far part values).met
  there_met values v = subst₂ AreEpisodes (sym (entries values)) (sym (turn values v).0)
      (AreEpisodes-append (given_in old before.given values) (given_in new given values)
      (so_far values).met (met values) (u.there values (back values v)) (step.are_met values))

  pairs : (values : List Bool) → holds new valid values ≡ true
      → zip (given_in new now.given values) (after old within so_far part values).met
      ≡ zip (given_in old before.given values) (so_far values).met
      ++ zip (given_in new given values) (met values)
  pairs values v = ap₂ (λ (gs : List Given) (ms : List Met). zip gs ms) (entries values)
      (turn values v).0
      ∙ zip-append (given_in old before.given values) (given_in new given values)
      (so_far values).met (met values) (u.there values (back values v))

  old_places : (values : List Bool) → holds new valid values ≡ true
      → All (λ (p : Given × Met). IsBefore (key p.0.place) here)
      (zip (given_in old before.given values) (so_far values).met)
  old_places values v = places_of (λ (p : Place). IsBefore (key p) here)
      (given_in old before.given values) (so_far values).met (u.there values (back values v))
      (u.met_before values (back values v))

  new_places : (values : List Bool) → All (λ (p : Given × Met). IsUntil here (key p.0.place))
      (zip (given_in new given values) (met values))
  new_places values = places_of (λ (p : Place). IsUntil here (key p)) (given_in new given values)
      (met values) (step.are_met values)
      (All-weaker (λ (m : Met). IsUntil here (key m.place) × IsBefore (key m.place) there)
      (λ (m : Met). IsUntil here (key m.place)) (λ m b. b.0) (met values) (step.between values))

  faces : (values others : List Bool)
      → holds new valid values ≡ true → holds new valid others ≡ true
      → AllAgree (zip (given_in new now.given values) (after old within so_far part values).met)
      (zip (given_in new now.given others) (after old within so_far part others).met)
  faces values others v w = subst₂ AllAgree (sym (pairs values v)) (sym (pairs others w))
      (AllAgree-append (zip (given_in old before.given values) (so_far values).met)
      (zip (given_in old before.given others) (so_far others).met)
      (zip (given_in new given values) (met values)) (zip (given_in new given others) (met others))
      (u.faces values others (back values v) (back others w))
      (AllAgree-apart here (zip (given_in old before.given values) (so_far values).met)
      (zip (given_in new given others) (met others)) (old_places values v) (new_places others))
      (AllAgree-apart_back here (zip (given_in old before.given others) (so_far others).met)
      (zip (given_in new given values) (met values)) (old_places others w) (new_places values))
      (step.faces values others))

  met_before : (values : List Bool) → holds new valid values ≡ true
      → All (λ (m : Met). IsBefore (key m.place) there) (after old within so_far part values).met
  met_before values v = All-same (λ (m : Met). IsBefore (key m.place) there)
      (after old within so_far part values).met ((so_far values).met ++ met values)
      (turn values v).0
      (All-append (λ (m : Met). IsBefore (key m.place) there) (so_far values).met (met values)
      (All-weaker (λ (m : Met). IsBefore (key m.place) here)
      (λ (m : Met). IsBefore (key m.place) there)
      (λ m b. IsUntil-before (key m.place) here there b until) (so_far values).met
      (u.met_before values (back values v)))
      (All-weaker (λ (m : Met). IsUntil here (key m.place) × IsBefore (key m.place) there)
      (λ (m : Met). IsBefore (key m.place) there) (λ m b. b.1) (met values) (step.between values)))

  all_nodes : AllNodes new (conditions_of now.given)
  all_nodes = subst (λ (gs : List Given). AllNodes new (conditions_of gs)) (sym step.gives)
      (subst (AllNodes new) (sym (map-append (λ (g : Given). g.cond) before.given given))
      (AllNodes-append new (conditions_of before.given) (conditions_of given)
      (AllNodes-kept keeps (conditions_of before.given) u.nodes) step.nodes))

  one : (values : List Bool) → count_satisfied new (now.live ∷ conditions now.refusals) values
      ≡ cond (holds new valid values) 1 0
  one values = step.counted values
      (at_most_one (holds old valid values)
      (count_satisfied old (before.live ∷ conditions before.refusals) values)
      (u.divides.one values))
      ∙ u.divides.one values
      ∙ ap (λ (b : Bool). cond b 1 0) (sym (keeps.meaning valid u.valid_node values))

  stepped : IsUpTo new valid now there (after old within so_far part)
  stepped = record {
    valid_node = keeps.stays valid u.valid_node;
    divides = record {
      nodes = (step.unit.live, step.unit.refusals.nodes);
      none_false = step.unit.refusals.none_false;
      one = one;
      distinct = step.unit.refusals.distinct;
    };
    nodes = all_nodes;
    there = there_met;
    stands = λ values v. (turn values v).1;
    faces = faces;
    few = subst AreFew (sym step.gives)
        (All-append (λ (g : Given). g.face < MOST_FACES) before.given given u.few step.few);
    met_before = met_before;
  }

-- a step takes a unit from one place to another
pub reads_by_step : (old new : Diagram) (before now : UnitSoFar) (here there : List ℕ)
    (within : Cond) (part : Part) (given : List Given) (met : List Bool → List Met)
    → Keeps old new → IsUntil here there
    → Step old new before now here there within part given met
    → Reads old new before now here there within part
reads_by_step old new before now here there within part given met keeps until step = record {
  sound = record { unit = step.unit; defines_before = step.defines_before };
  reads = λ valid so_far u. stepped old new before now here there within part given met keeps until
      step valid so_far u;
}
