-- What holds of the table of nodes: no branch is superfluous, none stands twice, and variables come
-- in order. In the table a variable is named by its position in the store's order, so here the
-- order is that of the numbers.
use Rattle.std.specs.Prelude.{◌≡◌, ◌≢◌, ◌==◌, ◌<◌, ◌≤◌, ℕ, Bool, ◌&&◌, ◌⊎◌, if◌then◌else◌, List, [], ◌∷◌, ◌++◌, reverse, Option, Some, None}
use Rattle.hv_cond.specs.declared.conditions.Cond.{Cond}
use Rattle.hv_cond.specs.declared.nodes.Decision.{Decision}
use Rattle.hv_cond.specs.declared.nodes.Nodes.{Nodes}
use Rattle.hv_cond.specs.declared.conditions.Node.TheVariants.{Branch}
use Rattle.hv_cond.specs.Diagram.{top, value_of, node_in, holds_in}
use Rattle.hv_cond.specs.working.Places.{IsPlaced}

-- the branches of the table, the newest first
abbrev pub newest_first : Nodes → List Decision
newest_first nodes = reverse nodes.decisions.items

-- what a branch means: `high` where its variable is true, and `low` where it is not
abbrev pub choice : List Decision → Decision → List Bool → Bool
choice ds d v = if value_of v d.variable then holds_in ds d.high v else holds_in ds d.low v

-- the first variable that a condition depends on, or the number of variables
unfoldable pub level : ℕ → List Decision → Cond → ℕ
level variables [] c = variables
level variables (d ∷ older) c = if c.index == top older then d.variable else level variables older c

-- whether two branches are the same
abbrev pub same_decision : Decision → Decision → Bool
same_decision d e =
    d.variable == e.variable && (d.low.index == e.low.index && d.high.index == e.high.index)

-- where a branch stands
unfoldable pub place_of : List Decision → Decision → Option Cond
place_of [] e = None
place_of (d ∷ older) e = if same_decision d e then Some (record {
  index =
      top older;
}) else place_of older e

-- a branch may stand before these
pub record IsDecision (variables : ℕ) (older : List Decision) (d : Decision) : Type 0 where
  pub in_range : d.variable < variables
  pub low_older : d.low.index < top older
  pub high_older : d.high.index < top older
  pub different : d.low ≢ d.high
  pub low_later : d.variable < level variables older d.low
  pub high_later : d.variable < level variables older d.high
  pub fresh : place_of older d ≡ None

-- a branch may stand in the table, unless it is superfluous or stands there already
pub record MayBranch (nodes : Nodes) (d : Decision) : Type 0 where
  pub in_range : d.variable < nodes.variables
  pub low_node : d.low.index < top (newest_first nodes)
  pub high_node : d.high.index < top (newest_first nodes)
  pub low_later : d.variable < level nodes.variables (newest_first nodes) d.low
  pub high_later : d.variable < level nodes.variables (newest_first nodes) d.high

-- each branch may stand before the older ones
abbrev pub IsOrdered : ℕ → List Decision → Type 0
IsOrdered variables [] = Unit {0}
IsOrdered variables (d ∷ older) = IsDecision variables older d × IsOrdered variables older

-- what is known of a branch of the list
pub record IsBranch (variables : ℕ) (ds : List Decision) (c : Cond) (d : Decision) : Type 0 where
  pub is : node_in ds c ≡ Branch d.variable d.low d.high
  pub in_range : d.variable < variables
  pub low_older : d.low.index < c.index
  pub high_older : d.high.index < c.index
  pub different : d.low ≢ d.high
  pub level_is : level variables ds c ≡ d.variable
  pub low_later : d.variable < level variables ds d.low
  pub high_later : d.variable < level variables ds d.high
  pub meaning : (v : List Bool) → holds_in ds c v ≡ choice ds d v
  pub placed : place_of ds d ≡ Some c

-- a list of branches has this condition
abbrev pub Among : List Cond → Cond → Type 0
Among [] c = ⊥
Among (x ∷ xs) c = (x ≡ c) ⊎ Among xs c

-- a terminal, or among these branches
abbrev pub Within : List Cond → Cond → Type 0
Within xs c = 2 ≤ c.index → Among xs c

-- a list of branches has their children, unless they are terminals
pub record IsClosed (ds : List Decision) (xs : List Cond) : Type 0 where
  pub nodes : (c : Cond) → Among xs c → c.index < top ds
  pub children : (c : Cond) (i : ℕ) (low high : Cond) → Among xs c
      → node_in ds c ≡ Branch i low high → Within xs low × Within xs high

-- what a condition means where a variable is false, and where it is true
pub record IsHalves (variables : ℕ) (ds : List Decision) (c : Cond) (i : ℕ) (low high : Cond)
    : Type 0 where
  pub low_older : low.index ≤ c.index
  pub high_older : high.index ≤ c.index
  pub smaller : level variables ds c ≡ i → (low.index < c.index) × (high.index < c.index)
  pub low_later : i < level variables ds low
  pub high_later : i < level variables ds high
  pub meaning : (v : List Bool)
      → holds_in ds c v ≡ (if value_of v i then holds_in ds high v else holds_in ds low v)
  pub within : (xs : List Cond) → IsClosed ds xs → Within xs c → Within xs low × Within xs high

-- the new table has the old one's branches behind those that were added
pub record Extends (old new : Nodes) : Type 0 where
  pub variables : new.variables ≡ old.variables
  pub added : List Decision
  pub decisions : newest_first new ≡ added ++ newest_first old

-- the table is in order, and its buckets have each branch
pub record IsReduced (nodes : Nodes) : Type 0 where
  pub ordered : IsOrdered nodes.variables (newest_first nodes)
  pub placed : IsPlaced nodes.places (newest_first nodes)
