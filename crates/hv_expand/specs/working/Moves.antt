-- What is done with a token in some of a condition's configurations, and what an episode ends with.
use Rattle.std.specs.Prelude.{ℕ, ◌≡◌, Bool, List, map}
use Rattle.hv_base.specs.declared.place.Place.{Place}
use Rattle.hv_cond.specs.Diagram.{Diagram, IsNever, IsNode, holds}
use Rattle.hv_toks.specs.Macro.{Macro}
use Rattle.hv_toks.specs.declared.token.PpTok.{PpTok}
use Rattle.hv_plain.specs.declared.episode.RunEnd.{RunEnd}
use Rattle.hv_plain.specs.episode.Episode.{goes_on}
use Rattle.hv_plain.specs.episode.Expansion.{State, at, done, refused, Deed, give, use_macro, stop, Result, expands, fails}
use Rattle.hv_plain.specs.episode.Tokens.{given_token}
use Rattle.hv_expand.specs.declared.moves.Deed.{Deed as Deed'}
use Rattle.hv_expand.specs.declared.moves.Deed.TheVariants as deed'
use Rattle.hv_expand.specs.declared.moves.Move.{Move}
use Rattle.hv_expand.specs.declared.outcome.Ending.{Ending}
use Rattle.hv_expand.specs.Outcomes.{IsResult}
use Rattle.hv_expand.specs.working.Going.{IsAsked}
use Rattle.hv_expand.specs.working.Questions.{Test}

-- the code's value is this deed, but for the place of a definition
abbrev pub Says : Deed' → Deed → Type 0
Says deed'.Give d = d ≡ give
Says (deed'.Use body) d = (place : Place) × (d ≡ use_macro place body.value)
Says deed'.Stop d = d ≡ stop

-- the configurations of the move's condition stay
pub record IsMove (diagram : Diagram) (ends : RunEnd) (macros : List Bool → List ℕ → Macro)
    (before : Test) (state : List Bool → State) (found : Move) : Type 0 where
  pub node : IsNode diagram found.cond
  pub possible : ¬ IsNever diagram found.cond
  pub deed : Deed
  pub says : Says found.deed deed
  pub asked : IsAsked ends macros before (λ v. holds diagram found.cond v) state deed

-- an ending is that of an episode with this result
pub record IsEnding (run : List PpTok) (position : ℕ) (ending : Ending) (result : Result)
    : Type 0 where
  pub right : IsResult ending.result result
  pub goes : goes_on run position result ≡ ending.end

-- an ending is that of an episode of which nothing is left but this
abbrev pub EndsSo : (run : List PpTok) → (position : ℕ) → Ending → State → Type 0
EndsSo run position ending (at t s fs) = ⊥
EndsSo run position ending (done s) =
    IsEnding run position ending (expands (map given_token s.given) s.unread)
EndsSo run position ending (refused why) = IsEnding run position ending (fails why)
