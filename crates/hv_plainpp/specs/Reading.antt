-- What reading a part of a translation unit in one configuration comes to: the episodes that were
-- met, and an end.
use Rattle.std.specs.Prelude.{List, [], ◌++◌}
use Rattle.hv_base.specs.declared.place.Place.{Place}
use Rattle.hv_base.specs.declared.why.Why.{Why}
use Rattle.hv_toks.specs.Spelled.{Spelled}
use Rattle.hv_plain.specs.episode.Expansion.{Event}

-- an episode that was met: the place of its first token, its expansion face, and the tokens that it
-- gives to the translation unit. One of a controlling line gives none, and so does one that is
-- refused
pub record Met : Type 0 where
  pub place : Place
  pub face : List Event
  pub gives : List Spelled

-- how a reading ends: with a value, or refused
pub data Ending (A : Type 0) : Type 0 where
  reaches : A → Ending A
  refused : Why → Place → Ending A

-- the episodes in the order in which they were met, also those before a refusal, and the end
pub record Reading (A : Type 0) : Type 0 where
  pub met : List Met
  pub ending : Ending A

-- a reading that meets no episode and ends with a value
abbrev pub reading : {A : Type 0} → A → Reading A
reading value = record { met = []; ending = reaches value }

-- a reading that is refused before it meets an episode
abbrev pub refusal : {A : Type 0} → Why → Place → Reading A
refusal why place = record { met = []; ending = refused why place }

-- a reading whose end this reading takes the place of
abbrev pub continued : {B : Type 0} → List Met → Reading B → Reading B
continued before rest = record { met = before ++ rest.met; ending = rest.ending }

-- a reading, and what is read behind it from its value on; a refusal ends all
abbrev pub and_then : {A B : Type 0} → Reading A → (A → Reading B) → Reading B
and_then r next = elim r.ending [
  | reaches value ↦ continued r.met (next value)
  | refused why place ↦ record { met = r.met; ending = refused why place }
]
