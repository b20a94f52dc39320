-- What preprocessing under all configurations promises, by what it comes to in one of them.
use Rattle.std.specs.Prelude.{ℕ, ◌≡◌, ◌↔◌, ◌+◌, Bool, true, List, [], ◌∷◌, All, AllPairs, length, map, zip, None}
use Rattle.hv_base.specs.declared.config.Config.{Config}
use Rattle.hv_base.specs.declared.limits.TheConstants.{MOST_FACES}
use Rattle.hv_base.specs.declared.place.Place.{Place}
use Rattle.hv_base.specs.declared.place.Start.{Start}
use Rattle.hv_base.specs.declared.refusal.Refusal.{Refusal}
use Rattle.hv_base.specs.declared.refusal.Refusal.TheVariants.{Fails}
use Rattle.hv_base.specs.declared.refusal.Refusal.TheVariants as refusal
use Rattle.hv_base.specs.declared.token.CTok.{CTok}
use Rattle.hv_base.specs.declared.why.Why.{Why}
use Rattle.hv_cond.specs.Diagram.{Diagram, IsBefore, holds}
use Rattle.hv_cond.specs.declared.conditions.Cond.{Cond}
use Rattle.hv_cstream.specs.Streams.{stream_in}
use Rattle.hv_ctoks.specs.declared.reserved.ReservedNames.{ReservedNames}
use Rattle.hv_plainpp.specs.CTokens.{Identity}
use Rattle.hv_plainpp.specs.Reading.{reaches, refused}
use Rattle.hv_preproc.specs.Plain.{Plain}
use Rattle.hv_preproc.specs.declared.fault.PreFault.{PreFault}
use Rattle.hv_preproc.specs.declared.fault.PreFault.TheVariants.{TooMany, Memory}
use Rattle.hv_texts.specs.Faces.{HaveOneFaceAt, Meets}
use Rattle.hv_toks.specs.declared.stream.StreamTok.{StreamTok}

------ one configuration

-- the tokens of C are these, and each comes from the place and has the index of its identity
abbrev pub AreTokens : List (CTok × Start) → List (CTok × Identity) → Type 0
AreTokens ts us = map {B = CTok × Place × ℕ} (λ t. (t.0, t.1.place, t.1.index)) ts
    ≡ map {B = CTok × Place × ℕ} (λ u. (u.0, u.1.place, u.1.index)) us

-- a stream is what plain preprocessing leaves where the options have these values
abbrev pub IsLeft : Plain → Diagram → List Bool → List StreamTok → Type 0
IsLeft plain diagram values stream = (tokens : List (CTok × Identity))
    × ((plain values).ending ≡ reaches tokens)
    × AreTokens (stream_in diagram stream values) tokens

-- plain preprocessing is refused so where the options have these values
abbrev pub IsRefusedBy : Plain → List Bool → Place → Why → Type 0
IsRefusedBy plain values place why = (plain values).ending ≡ refused why place

-- it is the first of the configurations of a condition that are refused, and is refused so
pub record IsFirstRefused (plain : Plain) (diagram : Diagram) (valid : Cond) (values : List Bool)
    (place : Place) (why : Why) : Type 0 where
  pub all_options : length values ≡ diagram.variables
  pub is_valid : holds diagram valid values ≡ true
  pub is_refused : IsRefusedBy plain values place why
  pub first : (others : List Bool) (at : Place) (cause : Why)
      → length others ≡ diagram.variables → holds diagram valid others ≡ true
      → IsRefusedBy plain others at cause → ¬ IsBefore others values

------ two configurations

-- two tokens of two configurations come from one start exactly where they have one identity
abbrev pub AgreeInStart : (CTok × Start) × (CTok × Identity) → (CTok × Start) × (CTok × Identity)
    → Type 0
AgreeInStart p q = (p.0.1 ≡ q.0.1) ↔ (p.1.1 ≡ q.1.1)

-- the same of each token of the one with each of the other
abbrev pub StartsAgree : Plain → Diagram → List StreamTok → (values others : List Bool) → Type 0
StartsAgree plain diagram stream values others = (tokens more : List (CTok × Identity))
    → (plain values).ending ≡ reaches tokens → (plain others).ending ≡ reaches more
    → All (λ p. All (AgreeInStart p) (zip (stream_in diagram stream others) more))
    (zip (stream_in diagram stream values) tokens)

------ too many faces

-- a valid configuration that meets an episode at a place
pub record IsMetIn (plain : Plain) (diagram : Diagram) (valid : Cond) (place : Place) (c : Config)
    : Type 0 where
  pub all_options : length c.on ≡ diagram.variables
  pub is_valid : holds diagram valid c.on ≡ true
  pub meets : Meets plain place c.on

-- valid configurations, each of which has another face at a place
pub record HaveFaces (plain : Plain) (diagram : Diagram) (valid : Cond) (place : Place)
    (configs : List Config) : Type 0 where
  pub each : All (IsMetIn plain diagram valid place) configs
  pub differ : AllPairs (λ (c d : Config). ¬ HaveOneFaceAt plain place c.on d.on) configs

-- what is said of the place and the configurations of `TooMany`; nothing where memory ran out
abbrev pub IfTooMany : (Place → List Config → Type 0) → PreFault → Type 0
IfTooMany P (TooMany place configs) = P place configs
IfTooMany P Memory = Unit {0}

-- more faces than are allowed
abbrev pub AreTooManyAt : Plain → Diagram → Cond → Place → List Config → Type 0
AreTooManyAt plain diagram valid place configs =
    (length configs ≡ MOST_FACES + 1) × HaveFaces plain diagram valid place configs

-- no place has more faces than are allowed
abbrev pub HasFewFaces : Plain → Diagram → Cond → Type 0
HasFewFaces plain diagram valid = (place : Place) (configs : List Config)
    → ¬ AreTooManyAt plain diagram valid place configs

-- what is said where a call refuses all
abbrev pub IsRefusal : Plain → Diagram → Cond → Refusal → Type 0
IsRefusal plain diagram valid (Fails config place why) =
    IsFirstRefused plain diagram valid config.on place why × HasFewFaces plain diagram valid
IsRefusal plain diagram valid (refusal.TooMany place index configs) =
    (index ≡ None) × AreTooManyAt plain diagram valid place configs
IsRefusal plain diagram valid refusal.Memory = Unit {0}
