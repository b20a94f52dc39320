-- Where the walk through a bundle stands: in each valid configuration, what its reading has come
-- to.
use Rattle.std.specs.Prelude.{ℕ, ◌≡◌, ◌⊎◌, Bool, true, false, cond, List, ◌++◌, All, zip}
use Rattle.hv_base.specs.declared.place.Place.{Place}
use Rattle.hv_cond.specs.Diagram.{AllNodes, Diagram, IsNode, holds}
use Rattle.hv_cond.specs.declared.conditions.Cond.{Cond}
use Rattle.hv_given.specs.Given.{AllAgree, AreEpisodes, given_in}
use Rattle.hv_given.specs.Refusals.{AreRefusals, IsRefusedAt}
use Rattle.hv_macros.specs.Table.{HasOneBody, IsTableOf, meaning_in}
use Rattle.hv_plainpp.specs.Laws.{DifferInPlace}
use Rattle.hv_plainpp.specs.Reading.{Ending, Met, Reading, and_then, reaches, refused}
use Rattle.hv_preproc.specs.declared.unit.Unit.{Unit as UnitSoFar}
use Rattle.hv_preproc.specs.working.Keys.{IsBefore, IsInitial, key}
use Rattle.hv_texts.specs.Faces.{HasTooMany}
use Rattle.hv_texts.specs.Readings.{AreFew, conditions_of}
use Rattle.hv_toks.specs.Division.{Divides}
use Rattle.hv_toks.specs.Macro.{defined}
use Rattle.hv_toks.specs.MacroState.{Entry, meaning_of}
use Rattle.hv_toks.specs.declared.macros.Body.{Body}

------ a unit by itself

-- each macro is an initial one, or was defined before this place is reached
abbrev pub DefinesBefore : Diagram → UnitSoFar → (here : List ℕ) → Type 0
DefinesBefore diagram u here = (values : List Bool) (name : List ℕ) (place : Place) (body : Body)
    → meaning_in diagram u.table values name ≡ defined place body
    → IsInitial place ⊎ IsBefore (key place) here

-- a unit over a diagram, in which definitions of one place have one name and one body
pub record IsUnit (diagram : Diagram) (u : UnitSoFar) : Type 0 where
  pub table : IsTableOf diagram u.table
  pub one_body : HasOneBody diagram u.table
  pub live : IsNode diagram u.live
  pub refusals : AreRefusals diagram u.refusals

-- one before this place is reached: what is defined there is new
pub record IsSound (diagram : Diagram) (u : UnitSoFar) (here : List ℕ) : Type 0 where
  pub unit : IsUnit diagram u
  pub defines_before : DefinesBefore diagram u here

------ a unit and the readings of all configurations

-- what the reading of each configuration has come to
abbrev pub SoFar : Type 0
SoFar = List Bool → Reading (List Entry)

-- a configuration whose reading has come to this: it is live with this macro state, or is refused
-- so
abbrev pub IsAt : Diagram → UnitSoFar → List Bool → Ending (List Entry) → Type 0
IsAt diagram u values (reaches macros) = (holds diagram u.live values ≡ true)
    × (meaning_in diagram u.table values ≡ meaning_of macros)
IsAt diagram u values (refused why place) = (holds diagram u.live values ≡ false)
    × IsRefusedAt diagram u.refusals values place why

-- the walk has come to these readings in the configurations of `valid`, before this place is
-- reached
pub record IsUpTo (diagram : Diagram) (valid : Cond) (u : UnitSoFar) (here : List ℕ)
    (so_far : SoFar) : Type 0 where
  pub valid_node : IsNode diagram valid
  pub divides : Divides diagram valid u.live u.refusals
  pub nodes : AllNodes diagram (conditions_of u.given)
  pub there : (values : List Bool) → holds diagram valid values ≡ true
      → AreEpisodes (given_in diagram u.given values) (so_far values).met
  pub stands : (values : List Bool) → holds diagram valid values ≡ true
      → IsAt diagram u values (so_far values).ending
  pub faces : (values others : List Bool)
      → holds diagram valid values ≡ true → holds diagram valid others ≡ true
      → AllAgree (zip (given_in diagram u.given values) (so_far values).met)
      (zip (given_in diagram u.given others) (so_far others).met)
  pub few : AreFew u.given
  pub met_before : (values : List Bool) → holds diagram valid values ≡ true
      → All (λ (m : Met). IsBefore (key m.place) here) (so_far values).met

------ steps

-- a part that is read in each configuration, by the macro state there
abbrev pub Part : Type 0
Part = List Bool → List Entry → Reading (List Entry)

-- the readings after a part is read in the configurations of a condition
abbrev pub after : Diagram → (within : Cond) → SoFar → Part → SoFar
after diagram within so_far part values =
    cond (holds diagram within values) (and_then (so_far values) (part values)) (so_far values)

-- a step that reads a part in the configurations of a condition takes a unit from one place to
-- another
pub record Reads (old new : Diagram) (before now : UnitSoFar) (here there : List ℕ) (within : Cond)
    (part : Part) : Type 0 where
  pub sound : IsSound new now there
  pub reads : (valid : Cond) (so_far : SoFar) → IsUpTo old valid before here so_far
      → IsUpTo new valid now there (after old within so_far part)

------ too many faces

-- a reading begins with this one: it meets its episodes first
abbrev pub BeginsWith : {A B : Type 0} → Reading A → (whole : Reading B) → Type 0
BeginsWith r whole = (more : List Met) × (whole.met ≡ r.met ++ more)

-- whatever follows these readings, as long as no place is met twice, there are too many faces at
-- this place
abbrev pub ShowsTooMany : Diagram → (valid : Cond) → SoFar → Place → List Cond → Type 0
ShowsTooMany diagram valid so_far place conds = (whole : SoFar)
    → ((values : List Bool) → holds diagram valid values ≡ true
    → BeginsWith (so_far values) (whole values) × DifferInPlace (whole values).met)
    → HasTooMany diagram valid whole place conds

-- a step that reads a part finds too many faces at a place
abbrev pub Stops : (old new : Diagram) → UnitSoFar → (here : List ℕ) → (within : Cond) → Part
    → Place → List Cond → Type 0
Stops old new before here within part place conds = (valid : Cond) (so_far : SoFar)
    → IsUpTo old valid before here so_far
    → ShowsTooMany new valid (after old within so_far part) place conds
