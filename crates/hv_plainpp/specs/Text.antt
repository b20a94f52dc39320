-- The expansion of a text: its episodes, one behind another (6.10.3).
use Rattle.std.specs.Prelude.{ℕ, zero, suc, ◌-◌, List, [], ◌∷◌, length}
use Rattle.hv_base.specs.declared.place.Place.{Place}
use Rattle.hv_toks.specs.Macro.{Macro}
use Rattle.hv_toks.specs.Spelled.{Spelled}
use Rattle.hv_toks.specs.declared.token.PpTok.{PpTok}
use Rattle.hv_plain.specs.declared.episode.RunEnd.{RunEnd}
use Rattle.hv_plain.specs.episode.Episode.{episode}
use Rattle.hv_plain.specs.episode.Expansion.{Result, expands, fails, Episode, Event}
use Rattle.hv_plainpp.specs.Files.{Entered, place_of}
use Rattle.hv_plainpp.specs.Reading.{Met, Reading, reading, refusal, continued}

-- an episode at this place is met, and gives these tokens
abbrev pub met : Place → List Event → List Spelled → List Met
met place face given = record { place = place; face = face; gives = given } ∷ []

-- an episode is met at the place of its first token, which `more` tokens of the text follow. A
-- refusal stands there; else what is read behind it follows, the first tokens being its own
abbrev pub with_episode : (first : Place) → (more : ℕ) → List Event → Result
    → (behind : (own : ℕ) → Reading (Unit {0})) → Reading (Unit {0})
with_episode first more face (fails why) behind = continued (met first face []) (refusal why first)
with_episode first more face (expands given unread) behind =
    continued (met first face given) (behind (more - unread))

-- the episodes of a text from here on, where each name means this; the first `own` tokens are those
-- of an episode before
abbrev pub episodes : (at : Entered) → RunEnd → (macros : List ℕ → Macro) → (own : ℕ) → List PpTok
    → Reading (Unit {0})
episodes at ends macros own [] = reading tt
episodes at ends macros (suc own) (t ∷ tokens) = episodes at ends macros own tokens
episodes at ends macros zero (t ∷ tokens) =
    let e : Episode = episode ends (t ∷ tokens) 0 macros in
    with_episode (place_of at t) (length tokens) e.face e.result
    (λ own. episodes at ends macros own tokens)
