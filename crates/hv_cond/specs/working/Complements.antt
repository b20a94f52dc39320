-- The complement of a condition, and what computing one does to the tables.
use Rattle.std.specs.Prelude.{◌≡◌, ◌==◌, ◌+◌, ◌<◌, ◌≤◌, ℕ, Bool, not, List, length, Option, Some}
use Rattle.std.specs.HashMap.{get, spare}
use Rattle.hv_cond.specs.declared.complements.Complements.{Complements}
use Rattle.hv_cond.specs.declared.conditions.Cond.{Cond}
use Rattle.hv_cond.specs.declared.nodes.Decision.{Decision}
use Rattle.hv_cond.specs.declared.nodes.Nodes.{Nodes}
use Rattle.hv_cond.specs.working.Connectives.{open_among}
use Rattle.hv_cond.specs.Diagram.{top, holds_in}
use Rattle.hv_cond.specs.working.Nodes.{level, newest_first, Extends, IsClosed, IsReduced, Within}

-- whether two conditions are the same
abbrev pub same_cond : Cond → Cond → Bool
same_cond a b = a.index == b.index

-- the complement that was kept for a condition
unfoldable pub complement_of : Complements → Cond → Option Cond
complement_of complements c = get same_cond complements.answers c

-- how many complements there is room for
abbrev pub room : Complements → ℕ
room complements = spare complements.answers

-- c is the complement of a
pub record IsComplement (ds : List Decision) (a c : Cond) : Type 0 where
  pub first : a.index < top ds
  pub node : c.index < top ds
  pub meaning : (v : List Bool) → holds_in ds c v ≡ not (holds_in ds a v)

-- each complement that was kept is right
pub record AreComplements (ds : List Decision) (complements : Complements) : Type 0 where
  pub each : (a c : Cond) → complement_of complements a ≡ Some c → IsComplement ds a c

-- what computing the complement of a does: each branch that is added uses up a branch reached from
-- a
pub record GrowsBy (old new : Nodes) (before after : Complements) (a : Cond) : Type 0 where
  pub reduced : IsReduced new
  pub extends : Extends old new
  pub answers : AreComplements (newest_first new) after
  pub earlier : (x : Cond) → x.index < top (newest_first old)
      → level old.variables (newest_first old) x < level old.variables (newest_first old) a
      → complement_of after x ≡ complement_of before x
  pub bound : (xs : List Cond) → IsClosed (newest_first old) xs → Within xs a
      → length (newest_first new) + open_among (complement_of after) xs
      ≤ length (newest_first old) + open_among (complement_of before) xs
