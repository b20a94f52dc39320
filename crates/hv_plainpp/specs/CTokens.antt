-- The tokens of a translation unit: what identifies each preprocessing token that is left, and the
-- tokens of C that they become (5.1.1.2, phases 6 and 7).
use Rattle.std.specs.Prelude.{ℕ, ◌+◌, List, [], ◌∷◌, flat_map, Result, Ok, Err}
use Rattle.hv_base.specs.declared.place.Place.{Place}
use Rattle.hv_base.specs.declared.token.CTok.{CTok}
use Rattle.hv_base.specs.declared.why.Why.{Why}
use Rattle.hv_ctoks.specs.Conversion.{converted}
use Rattle.hv_ctoks.specs.Joining.{joined}
use Rattle.hv_ctoks.specs.declared.reserved.ReservedNames.{ReservedNames}
use Rattle.hv_toks.specs.Spelled.{Spelled}
use Rattle.hv_plain.specs.episode.Expansion.{Event}
use Rattle.hv_plainpp.specs.Reading.{Met, Ending, reaches, refused, Reading}

-- what identifies a token: the place of the episode that gave it, the episode's expansion face, and
-- the token's index among those that it gave
pub record Identity : Type 0 where
  pub place : Place
  pub face : List Event
  pub index : ℕ

-- the tokens that an episode gives, the first of which has this index
abbrev pub identified : Place → List Event → (index : ℕ) → List Spelled → List (Spelled × Identity)
identified place face index [] = []
identified place face index (s ∷ tokens) =
    (s, record { place = place; face = face; index = index })
    ∷ identified place face (index + 1) tokens

-- the tokens that the episodes give, in order
abbrev pub given : List Met → List (Spelled × Identity)
given episodes = flat_map (λ (m : Met). identified m.place m.face 0 m.gives) episodes

-- the tokens of C with one more before them, or its refusal, which stands at its place. What
-- identifies a token may be anything that has a place
abbrev pub with_token : {I : Type 0} → (I → Place) → Result CTok Why → I → Ending (List (CTok × I))
    → Ending (List (CTok × I))
with_token place (Err why) identity rest = refused why (place identity)
with_token place (Ok tok) identity (refused why at) = refused why at
with_token place (Ok tok) identity (reaches tokens) = reaches ((tok, identity) ∷ tokens)

-- the tokens of C that preprocessing tokens become one by one, or the first refusal
abbrev pub c_tokens : {I : Type 0} → (I → Place) → ReservedNames → List (Spelled × I)
    → Ending (List (CTok × I))
c_tokens place reserved [] = reaches []
c_tokens place reserved (t ∷ tokens) = with_token place (converted reserved t.0.kind t.0.text) t.1
    (c_tokens place reserved tokens)

-- the same with adjacent string literals joined; the first part identifies the joined one
abbrev pub with_strings_joined : Ending (List (CTok × Identity)) → Ending (List (CTok × Identity))
with_strings_joined (reaches tokens) = reaches (joined tokens)
with_strings_joined (refused why place) = refused why place

-- how a translation unit ends: a refusal of preprocessing comes before those of tokens of C
abbrev pub ending_of : {A : Type 0} → ReservedNames → Reading A → Ending (List (CTok × Identity))
ending_of reserved unit = elim unit.ending [
  | reaches value ↦
      with_strings_joined (c_tokens (λ (i : Identity). i.place) reserved (given unit.met))
  | refused why place ↦ refused why place
]
