-- What is proved of preprocessing in one configuration.
use Rattle.std.specs.Prelude.{ℕ, ◌≡◌, ◌||◌, Bool, false, List, [], ◌∷◌, map, Option, Some}
use Rattle.hv_base.specs.Bundles.{NamedFiles}
use Rattle.hv_base.specs.declared.place.Place.{Place}
use Rattle.hv_base.specs.declared.token.CTok.{CTok}
use Rattle.hv_ctoks.specs.declared.reserved.ReservedNames.{ReservedNames}
use Rattle.hv_toks.specs.Cutting.{tokens}
use Rattle.hv_toks.specs.Macro.{undefined}
use Rattle.hv_toks.specs.MacroState.{Entry, meaning_of}
use Rattle.hv_toks.specs.Spelled.{all_spelled}
use Rattle.hv_toks.specs.declared.token.PpTok.{PpTok}
use Rattle.hv_plain.specs.controlling.Grammar.{IsTruth}
use Rattle.hv_plain.specs.episode.Expansion.{gives}
use Rattle.hv_plain.specs.gathering.Mentions.{cut}
use Rattle.hv_plainpp.specs.CTokens.{Identity}
use Rattle.hv_plainpp.specs.Expressions.{truth_of}
use Rattle.hv_plainpp.specs.Files.{Entered, place_of}
use Rattle.hv_plainpp.specs.Lines.{begins_directive}
use Rattle.hv_plainpp.specs.Plainpp.{plainpp}
use Rattle.hv_plainpp.specs.Preprocessing.{Reader, file, unit}
use Rattle.hv_plainpp.specs.Reading.{Met, reaches}

-- the truth that is computed of a controlling expression is one by its grammar, and where there is
-- one by the grammar, one is computed
abbrev pub TruthIsDerived : Type 0
TruthIsDerived = (tokens : List PpTok) (b : Bool)
    → (truth_of (all_spelled tokens) ≡ Some b → IsTruth tokens b)
    × (IsTruth tokens b → (c : Bool) × (truth_of (all_spelled tokens) ≡ Some c))

-- a token that begins no directive and isn't the name of a macro
abbrev pub IsOrdinary : List Entry → PpTok → Type 0
IsOrdinary macros t = (begins_directive t ≡ false) × (meaning_of macros t.text ≡ undefined)

-- each of these tokens is so
abbrev pub AreOrdinary : List Entry → List PpTok → Type 0
AreOrdinary macros [] = Unit {0}
AreOrdinary macros (t ∷ toks) = IsOrdinary macros t × AreOrdinary macros toks

-- the episode of a token that stands for itself
abbrev pub own_episode : Entered → PpTok → Met
own_episode at t = record {
  place = place_of at t;
  face = gives t.kind t.text ∷ [];
  gives = record { kind = t.kind; text = t.text; space = t.space || t.first } ∷ [];
}

-- none of these episodes is met at this place
abbrev pub IsFree : Place → List Met → Type 0
IsFree place [] = Unit {0}
IsFree place (m ∷ met) = ¬ (place ≡ m.place) × IsFree place met

-- no two of these episodes are met at one place
abbrev pub DifferInPlace : List Met → Type 0
DifferInPlace [] = Unit {0}
DifferInPlace (m ∷ met) = IsFree m.place met × DifferInPlace met

-- in one configuration no two episodes are met at one place, so a place has one expansion face at
-- most
abbrev pub PlacesDiffer : Type 0
PlacesDiffer = (bundle : NamedFiles) (macros : List Entry)
    → DifferInPlace (unit bundle macros).met

-- none of these tokens begins where this identity is
abbrev pub IsNew : Identity → List (CTok × Identity) → Type 0
IsNew identity [] = Unit {0}
IsNew identity (t ∷ toks) =
    ¬ ((identity.place ≡ t.1.place) × (identity.index ≡ t.1.index)) × IsNew identity toks

-- no two of these tokens have one place and one index
abbrev pub DifferInStart : List (CTok × Identity) → Type 0
DifferInStart [] = Unit {0}
DifferInStart (t ∷ toks) = IsNew t.1 toks × DifferInStart toks

-- in one configuration no two tokens of C come from one episode's place with one index, so none is
-- there twice
abbrev pub StartsDiffer : Type 0
StartsDiffer = (bundle : NamedFiles) (names : List (List ℕ)) (values : List Bool)
    (reserved : ReservedNames) (toks : List (CTok × Identity))
    → (plainpp bundle names values reserved).ending ≡ reaches toks → DifferInStart toks

-- an entered file without directives and names of macros gives its own tokens, each by itself at
-- its own place, and changes no macro
abbrev pub OrdinaryText : Type 0
OrdinaryText = (bundle : NamedFiles) (reader : Option Reader) (at : Entered) (toks : List PpTok)
    (macros : List Entry)
    → cut at.file.number at.file.bytes ≡ tokens toks → AreOrdinary macros toks
    → file bundle reader at macros
    ≡ record { met = map (own_episode at) toks; ending = reaches macros }
