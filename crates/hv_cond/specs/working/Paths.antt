-- Walks down the branches of a condition, in search of values that satisfy it.
use Rattle.std.specs.Prelude.{◌≡◌, ◌<◌, ℕ, Bool, true, false, List, slice_index, if◌then◌else◌}
use Rattle.std.specs.List.{slice_index_or}
use Rattle.hv_cond.specs.declared.conditions.Cond.{Cond}
use Rattle.hv_cond.specs.declared.nodes.Decision.{Decision}
use Rattle.hv_cond.specs.Diagram.{holds_in, value_of}
use Rattle.hv_cond.specs.working.Orders.{by_position}

-- the child of a branch for a value of its variable
abbrev pub half : Decision → Bool → Cond
half d value = if value then d.high else d.low

-- two assignments give the variables below this number the same values
abbrev pub Agrees : ℕ → List Bool → List Bool → Type 0
Agrees fixed values others = (i : ℕ) → i < fixed → value_of values i ≡ value_of others i

-- no assignment that gives the variables below this number these values satisfies the condition
abbrev pub IsHopeless : List ℕ → List Decision → ℕ → List Bool → Cond → Type 0
IsHopeless order ds fixed values c =
    (others : List Bool) → Agrees fixed others values
    → holds_in ds c (by_position order others) ≡ false

-- each condition that is marked is hopeless
abbrev pub AreHopeless : List ℕ → List Decision → ℕ → List Bool → List Bool → Type 0
AreHopeless order ds fixed values marks =
    (c : Cond) → slice_index_or marks c.index false ≡ true → IsHopeless order ds fixed values c

-- a search has changed no variable below this number, and none that stands before this place of the
-- order
pub record Leaves (order : List ℕ) (fixed place : ℕ) (before after : List Bool) : Type 0 where
  pub fixed_ones : Agrees fixed after before
  pub above : (k : ℕ) → k < place
      → value_of after (slice_index order k) ≡ value_of before (slice_index order k)
