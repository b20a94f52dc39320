-- The connectives of two conditions, and what computing one does to the tables.
use Rattle.std.specs.Prelude.{◌≡◌, ◌+◌, ◌<◌, ◌≤◌, ℕ, Bool, ◌||◌, ◌&&◌, List, [], ◌∷◌, length, Option, Some, is_some, if◌then◌else◌}
use Rattle.hv_cond.specs.declared.conditions.Cond.{Cond}
use Rattle.hv_cond.specs.declared.connectives.Connective.{Connective}
use Rattle.hv_cond.specs.declared.connectives.Connective.TheVariants.{And, Or}
use Rattle.hv_cond.specs.declared.nodes.Decision.{Decision}
use Rattle.hv_cond.specs.declared.nodes.Nodes.{Nodes}
use Rattle.hv_cond.specs.declared.results.Results.{Results}
use Rattle.hv_cond.specs.Diagram.{top, holds_in}
use Rattle.hv_cond.specs.working.Nodes.{newest_first, Extends, IsClosed, IsReduced, Within}
use Rattle.hv_cond.specs.working.Results.{known}

-- what a connective means
abbrev pub apply : Connective → Bool → Bool → Bool
apply And x y = x && y
apply Or x y = x || y

-- the condition that decides the answer by itself
abbrev pub absorbing : Connective → Cond
absorbing And = record { index = 0 }
absorbing Or = record { index = 1 }

-- the condition that leaves the other as the answer
abbrev pub neutral : Connective → Cond
neutral And = record { index = 1 }
neutral Or = record { index = 0 }

-- c is the connective of a and b
pub record IsAnswer (connective : Connective) (ds : List Decision) (a b c : Cond) : Type 0 where
  pub first : a.index < top ds
  pub second : b.index < top ds
  pub node : c.index < top ds
  pub meaning : (v : List Bool)
      → holds_in ds c v ≡ apply connective (holds_in ds a v) (holds_in ds b v)

-- each answer that was kept is right
pub record AreAnswers (connective : Connective) (ds : List Decision) (results : Results) : Type 0
  where
    pub each : (a b c : Cond) → known results a b ≡ Some c → IsAnswer connective ds a b c

-- how many of these have no answer
abbrev pub open_among : (Cond → Option Cond) → List Cond → ℕ
open_among answer [] = 0
open_among answer (y ∷ ys) = (if is_some (answer y) then 0 else 1) + open_among answer ys

-- how many pairs of these have no answer
abbrev pub open_pairs : (Cond → Cond → Option Cond) → List Cond → List Cond → ℕ
open_pairs answer [] ys = 0
open_pairs answer (x ∷ xs) ys = open_among (answer x) ys + open_pairs answer xs ys

-- what computing the connective of a and b does: each branch that is added uses up a pair of those
-- reached from a and b
pub record Grows (connective : Connective) (old new : Nodes) (before after : Results) (a b : Cond)
    : Type 0 where
  pub reduced : IsReduced new
  pub extends : Extends old new
  pub answers : AreAnswers connective (newest_first new) after
  pub later : (x y : Cond) → a.index + b.index < x.index + y.index
      → known after x y ≡ known before x y
  pub bound : (xs ys : List Cond) → IsClosed (newest_first old) xs
      → IsClosed (newest_first old) ys → Within xs a → Within ys b
      → length (newest_first new) + open_pairs (known after) xs ys
      ≤ length (newest_first old) + open_pairs (known before) xs ys
