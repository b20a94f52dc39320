-- How an order is made, and a table's branches seen under it.
use Rattle.std.specs.Prelude.{◌≡◌, ◌==◌, ◌<◌, ℕ, Bool, false, List, length, map, slice_index, nat_eq}
use Rattle.std.specs.List.{All, IsDistinct, list_any, slice_index_or}
use Rattle.hv_cond.specs.declared.nodes.Decision.{Decision}
use Rattle.hv_cond.specs.declared.nodes.Nodes.{Nodes}
use Rattle.hv_cond.specs.declared.orders.Order.{Order}
use Rattle.hv_cond.specs.Diagram.{Diagram, value_of}
use Rattle.hv_cond.specs.working.Nodes.{newest_first}

-- the order so far has each of these variables once, and the marks say which it has
pub record IsPlacing (vars : ℕ) (variables : List ℕ) (placed : List Bool) : Type 0 where
  pub all : length placed ≡ vars
  pub marks : (i : ℕ) → i < vars → slice_index_or placed i false ≡ list_any (λ j. i == j) variables
  pub distinct : IsDistinct nat_eq variables
  pub below : All (λ i. i < vars) variables

-- the order has each variable, and each variable's position in it
pub record IsOrder (vars : ℕ) (order : Order) : Type 0 where
  pub all : length order.variables.items ≡ vars
  pub all_positions : length order.positions.items ≡ vars
  pub variable : (k : ℕ) → k < vars → slice_index order.variables.items k < vars
  pub position : (i : ℕ) → i < vars → slice_index order.positions.items i < vars
  pub position_of : (k : ℕ) → k < vars
      → slice_index order.positions.items (slice_index order.variables.items k) ≡ k
  pub variable_at : (i : ℕ) → i < vars
      → slice_index order.variables.items (slice_index order.positions.items i) ≡ i

-- a branch of the table, its variable by its number
abbrev pub numbered : List ℕ → Decision → Decision
numbered order d = record { variable = slice_index order d.variable; low = d.low; high = d.high }

-- the values of the variables by their positions in the order
abbrev pub by_position : List ℕ → List Bool → List Bool
by_position order values = map (value_of values) order

-- the table as contracts see it
abbrev pub seen : Order → Nodes → Diagram
seen order nodes =
    record {
      variables = nodes.variables;
      order = order.variables.items;
      decisions = map (numbered order.variables.items) (newest_first nodes);
    }
