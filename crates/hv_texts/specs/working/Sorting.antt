-- How the configurations of a condition are sorted while a part of a file is read: by what is left
-- to read in them.
use Rattle.std.specs.Prelude.{ℕ, ◌≡◌, ◌+◌, ◌<◌, ◌||◌, Bool, true, false, List, [], ◌∷◌, All, length, slice_index_or, slice_set, zip, if◌then◌else◌}
use Rattle.hv_base.specs.declared.place.Place.{Place}
use Rattle.hv_base.specs.declared.why.Why.{Why}
use Rattle.hv_cond.specs.Diagram.{AllNodes, Diagram, IsNode, holds}
use Rattle.hv_cond.specs.Parts.{count_satisfied}
use Rattle.hv_cond.specs.declared.conditions.Cond.{Cond}
use Rattle.hv_given.specs.Given.{AllAgree, IsEpisode, given_in}
use Rattle.hv_given.specs.Refusals.{AreRefusals, CountsMore, IsRefusedAt, RefusesMore}
use Rattle.hv_given.specs.declared.given.Given.{Given}
use Rattle.hv_plain.specs.episode.Expansion.{Event}
use Rattle.hv_plainpp.specs.Reading.{Met, Reading, refusal}
use Rattle.hv_texts.specs.Readings.{conditions_of}
use Rattle.hv_toks.specs.Division.{conditions}
use Rattle.hv_toks.specs.declared.parted.Failing.{Failing}

------ in one configuration

-- these entries are the first of these episodes, which `rest` follow
abbrev pub IsBegun : List Given → (met rest : List Met) → Type 0
IsBegun [] met rest = met ≡ rest
IsBegun (g ∷ given) [] rest = ⊥
IsBegun (g ∷ given) (m ∷ met) rest = IsEpisode g m × IsBegun given met rest

-- of a reading these entries are read, and this is left
pub record IsGoing {A : Type 0} (given : List Given) (whole rest : Reading A) : Type 0 where
  pub begun : IsBegun given whole.met rest.met
  pub ends : whole.ending ≡ rest.ending

------ in all

-- where configurations go after an episode: to others of which the same is left, by a number, or to
-- the refused ones
pub data Way : Type 0 where
  to_slot : ℕ → Way
  to_refusal : Why → Place → Way

-- what is left after an episode
abbrev pub left : {A : Type 0} → (ℕ → List Bool → Reading A) → Way → List Bool → Reading A
left rests (to_slot k) values = rests k values
left rests (to_refusal why place) values = refusal why place

-- the configurations of a condition, by what is left of their readings: `pending` all have the same
-- left, those of a slot what its number says, and the refused ones their refusal
pub record IsSorted {A : Type 0} (diagram : Diagram) (cond : Cond) (read : List Bool → Reading A)
    (given : List Given) (pending : List Cond) (next : List Bool → Reading A)
    (slots : List Cond) (rests : ℕ → List Bool → Reading A) (refused : List Failing)
    : Type 0 where
  pub node : IsNode diagram cond
  pub given_nodes : AllNodes diagram (conditions_of given)
  pub pending_nodes : AllNodes diagram pending
  pub slot_nodes : AllNodes diagram slots
  pub refusals : AreRefusals diagram refused
  pub one : (values : List Bool)
      → count_satisfied diagram pending values + count_satisfied diagram slots values
      + count_satisfied diagram (conditions refused) values
      ≡ (if holds diagram cond values then 1 else 0)
  pub waiting : All (λ (c : Cond). (values : List Bool) → holds diagram c values ≡ true
      → IsGoing (given_in diagram given values) (read values) (next values)) pending
  pub going : (k : ℕ) (x : Cond) → k < length slots → (values : List Bool)
      → holds diagram (slice_index_or slots k x) values ≡ true
      → IsGoing (given_in diagram given values) (read values) (rests k values)
  pub refused_there : (values : List Bool) (place : Place) (why : Why)
      → IsRefusedAt diagram refused values place why
      → IsGoing (given_in diagram given values) (read values) (refusal why place)
  pub elsewhere : (values : List Bool) → holds diagram cond values ≡ false
      → given_in diagram given values ≡ []

-- the configurations of a condition are put with those of a slot
pub record IsInSlot (old new : Diagram) (before after : List Cond) (refused now : List Failing)
    (cond : Cond) (k : ℕ) : Type 0 where
  pub within : k < length before
  pub slot : Cond
  pub put : after ≡ slice_set before k slot
  pub node : IsNode new slot
  pub meaning : (values : List Bool) → holds new slot values
      ≡ (holds old (slice_index_or before k cond) values || holds old cond values)
  pub unchanged : now ≡ refused

-- or with those that are refused
pub record IsRefusedMore (old new : Diagram) (before after : List Cond)
    (refused now : List Failing) (cond : Cond) (why : Why) (place : Place) : Type 0 where
  pub unchanged : after ≡ before
  pub refusals : AreRefusals new now
  pub more : RefusesMore old new refused now place why cond
  pub counted : CountsMore old new refused now cond

-- one of the two
abbrev pub IsMoved : (old new : Diagram) → (before after : List Cond)
    → (refused now : List Failing) → Cond → Way → Type 0
IsMoved old new before after refused now cond (to_slot k) =
    IsInSlot old new before after refused now cond k
IsMoved old new before after refused now cond (to_refusal why place) =
    IsRefusedMore old new before after refused now cond why place

------ faces

-- the entries of a configuration with their episodes
abbrev pub pairs : {A : Type 0} → Diagram → List Given → (read : List Bool → Reading A)
    → (values : List Bool) → List (Given × Met)
pairs diagram given read values = zip (given_in diagram given values) (read values).met

-- of the episode at this place, where a configuration has this face there, and these numbers
pub record IsFaced (place : Place) (Number : ℕ → Type 0) (face : List Event) (p : Given × Met)
    : Type 0 where
  pub number : p.0.place ≡ place → Number p.0.face
  pub same : p.0.place ≡ place → p.1.face ≡ face

-- entries agree in face, and those of one place are numbered so
pub record AreFaced {A : Type 0} (diagram : Diagram) (given : List Given)
    (read : List Bool → Reading A) (place : Place) (Number : List Bool → ℕ → Type 0)
    (face : List Bool → List Event) : Type 0 where
  pub agree : (values others : List Bool)
      → AllAgree (pairs diagram given read values) (pairs diagram given read others)
  pub here : (values : List Bool) → All (IsFaced place (Number values) (face values))
      (pairs diagram given read values)
