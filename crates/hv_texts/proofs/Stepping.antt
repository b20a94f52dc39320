-- The configurations of one condition get their entry and go on.
use Rattle.std.proofs.Common.{◌≡◌, ◌↔◌, ℕ, Bool, true, List, [], ◌∷◌, ◌++◌}
use Rattle.hv_base.specs.declared.place.Place.{Place}
use Rattle.hv_cond.specs.Diagram.{Diagram, Keeps, holds}
use Rattle.hv_cond.specs.declared.conditions.Cond.{Cond}
use Rattle.hv_given.specs.Given.{IsEpisode}
use Rattle.hv_given.specs.declared.given.Given.{Given}
use Rattle.hv_plain.specs.episode.Expansion.{Event}
use Rattle.hv_plainpp.specs.Reading.{Met, Reading, continued}
use Rattle.hv_texts.proofs.Facing.{faced_kept, faced_more, next_pairs}
use Rattle.hv_texts.proofs.Sorting.{moved, sorted_kept}
use Rattle.hv_texts.specs.working.Sorting.{AreFaced, IsMoved, IsSorted, Way, left}
use Rattle.hv_toks.specs.declared.parted.Failing.{Failing}

-- the next episode of a configuration is that of an entry, with this face
pub record IsComing {A : Type 0} (g : Given) (next rest : Reading A) (face : List Event)
    : Type 0 where
  pub met : Met
  pub is_episode : IsEpisode g met
  pub reads : next ≡ continued (met ∷ []) rest
  pub same : met.face ≡ face

module _ {A : Type 0} {old new : Diagram} (keeps : Keeps old new) (whole : Cond)
    (read : List Bool → Reading A) (given : List Given) (c : Cond) (pending : List Cond)
    (next : List Bool → Reading A) (slots after : List Cond)
    (rests : ℕ → List Bool → Reading A) (refused now : List Failing) (way : Way) (g : Given)
    (face : List Bool → List Event)
    (s : IsSorted old whole read given (c ∷ pending) next slots rests refused)
    (own : g.cond ≡ c)
    (comes : (values : List Bool) → holds new c values ≡ true
    → IsComing g (next values) (left rests way values) (face values)) where
  pub sorted_step : IsMoved old new slots after refused now c way
      → IsSorted new whole read (given ++ g ∷ []) pending next after rests now
  sorted_step move =
      moved keeps whole read given c pending next slots after rests refused now way g s move own
      (λ values h. let e = comes values h in (e.met, e.is_episode, e.reads))

  pub faced_step : (place : Place) (Number : List Bool → ℕ → Type 0)
      → g.place ≡ place
      → ((values others : List Bool) (i j : ℕ) → Number values i → Number others j
      → ((i ≡ j) ↔ (face values ≡ face others)))
      → ((values : List Bool) → holds new c values ≡ true → Number values g.face)
      → AreFaced old given read place Number face
      → AreFaced new (given ++ g ∷ []) read place Number face
  faced_step place Number stands once number f =
      faced_more new given (given ++ g ∷ []) read place Number face g stands once
      (faced_kept given read place Number face keeps s.given_nodes f)
      (λ values. next_pairs new whole read given c pending next slots rests refused
      (left rests way) Number face g
      (sorted_kept keeps whole read given (c ∷ pending) next slots rests refused s) own values
      (λ h. let e = comes values h in (e.met, e.reads, e.same, number values h)))
