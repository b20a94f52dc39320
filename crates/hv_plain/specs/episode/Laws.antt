-- What the events of an episode decide.
use Rattle.std.specs.Prelude.{ℕ, ◌≡◌, List}
use Rattle.hv_base.specs.declared.place.Place.{Place}
use Rattle.hv_toks.specs.Macro.{Macro, defined}
use Rattle.hv_toks.specs.declared.macros.Body.{Body}
use Rattle.hv_toks.specs.declared.token.PpTok.{PpTok}
use Rattle.hv_plain.specs.declared.episode.RunEnd.{RunEnd}
use Rattle.hv_plain.specs.episode.Episode.{episode}

-- definitions that are made at one place are of one name and have one body
abbrev pub AreConsistent : (macros others : List ℕ → Macro) → Type 0
AreConsistent macros others =
    (name other_name : List ℕ) (place : Place) (body other_body : Body)
    → macros name ≡ defined place body → others other_name ≡ defined place other_body
    → (name ≡ other_name) × (body ≡ other_body)

-- two macro states that give an episode equal events give it equal tokens or one refusal, and let
-- it go on at one position
abbrev pub FaceDecides : Type 0
FaceDecides = (ends : RunEnd) (run : List PpTok) (position : ℕ) (macros others : List ℕ → Macro)
    → AreConsistent macros others
    → (episode ends run position macros).face ≡ (episode ends run position others).face
    → episode ends run position macros ≡ episode ends run position others
