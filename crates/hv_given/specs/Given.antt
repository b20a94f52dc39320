-- What the episodes of a translation unit give under all configurations, and what that is in one
-- of them.
-- Not in here: what an episode is, and which are met.
use Rattle.std.specs.Prelude.{ℕ, ◌≡◌, ◌↔◌, ◌+◌, Bool, List, [], ◌∷◌, filter, flat_map, All}
use Rattle.hv_base.specs.declared.place.Start.{Start}
use Rattle.hv_cond.specs.Diagram.{Diagram, holds}
use Rattle.hv_given.specs.declared.given.Given.{Given}
use Rattle.hv_plainpp.specs.Reading.{Met}
use Rattle.hv_toks.specs.Spelled.{Spelled, all_spelled}

------ in one configuration

-- the entries that there are where the options have these values, in order
abbrev pub given_in : Diagram → List Given → List Bool → List Given
given_in diagram given values = filter (λ (g : Given). holds diagram g.cond values) given

-- an entry is this episode: at its place, with its tokens by kind, spelling and white space
pub record IsEpisode (g : Given) (m : Met) : Type 0 where
  pub place : g.place ≡ m.place
  pub tokens : all_spelled g.tokens ≡ m.gives

-- entries are these episodes, in order
abbrev pub AreEpisodes : List Given → List Met → Type 0
AreEpisodes [] [] = Unit {0}
AreEpisodes [] (m ∷ met) = ⊥
AreEpisodes (g ∷ given) [] = ⊥
AreEpisodes (g ∷ given) (m ∷ met) = IsEpisode g m × AreEpisodes given met

-- tokens of an episode with where they come from, the first of which has this index
abbrev pub with_starts : Given → (index : ℕ) → List Spelled → List (Spelled × Start)
with_starts g index [] = []
with_starts g index (s ∷ tokens) =
    (s, record { place = g.place; face = g.face; index = index }) ∷ with_starts g (index + 1) tokens

-- the tokens of entries, in order, with where they come from
abbrev pub tokens_of : List Given → List (Spelled × Start)
tokens_of given = flat_map (λ (g : Given). with_starts g 0 (all_spelled g.tokens)) given

------ in two configurations

-- of two entries with their episodes: at one place they have one number exactly where they have one
-- face
abbrev pub AgreeInFace : Given × Met → Given × Met → Type 0
AgreeInFace p q = p.0.place ≡ q.0.place → (p.0.face ≡ q.0.face) ↔ (p.1.face ≡ q.1.face)

-- each of these with each of those
abbrev pub AllAgree : List (Given × Met) → List (Given × Met) → Type 0
AllAgree ps qs = All (λ p. All (AgreeInFace p) qs) ps
