-- What conditions mean. A store is seen as a diagram: how many variables there are, in which order
-- branches test them, and its branches. What a condition means goes by the variables' numbers, and
-- the order is no part of it. Nothing here makes a branch: how conditions are combined, and that a
-- diagram is reduced, is no part of a meaning.
use Rattle.std.specs.Prelude.{◌≡◌, ◌≢◌, ◌==◌, ◌+◌, ◌<◌, ◌≤◌, ℕ, Bool, true, false, ◌||◌, if◌then◌else◌, List, [], ◌∷◌, length, count_by, slice_index}
use Rattle.std.specs.List.{list_all, slice_index_or, range_with_len}
use Rattle.hv_cond.specs.declared.conditions.Cond.{Cond}
use Rattle.hv_cond.specs.declared.conditions.Node.{Node}
use Rattle.hv_cond.specs.declared.conditions.Node.TheVariants.{Truth, Falsity, Branch}
use Rattle.hv_cond.specs.declared.nodes.Decision.{Decision}

-- Variables are the numbers below `variables`, and `order` lists them in the order in which
-- branches test them. The branches stand newest first, so a branch's children are among those after
-- it.
pub record Diagram : Type 0 where
  pub variables : ℕ
  pub order : List ℕ
  pub decisions : List Decision

-- the value of a variable
abbrev pub value_of : List Bool → ℕ → Bool
value_of values i = slice_index_or values i false

-- the index of the branch that stands before these: 0 is falsity and 1 truth
abbrev pub top : List Decision → ℕ
top older = length older + 2

-- what a condition is, among these branches
unfoldable pub node_in : List Decision → Cond → Node
node_in [] c = if c.index == 1 then Truth else Falsity
node_in (d ∷ older) c =
    if c.index == top older then Branch d.variable d.low d.high else node_in older c

-- what a condition is
unfoldable pub node : Diagram → Cond → Node
node diagram c = node_in diagram.decisions c

-- whether a condition holds where the variables have these values, among these branches
unfoldable pub holds_in : List Decision → Cond → List Bool → Bool
holds_in [] c values = c.index == 1
holds_in (d ∷ older) c values =
    if c.index == top older
    then
    (if value_of values d.variable
    then holds_in older d.high values
    else holds_in older d.low values)
    else holds_in older c values

-- whether a condition holds where the variables have these values
unfoldable pub holds : Diagram → Cond → List Bool → Bool
holds diagram c values = holds_in diagram.decisions c values

-- the condition is a node of the diagram
unfoldable pub IsNode : Diagram → Cond → Type 0
IsNode diagram c = c.index < top diagram.decisions

-- how many branches the diagram has
unfoldable pub size : Diagram → ℕ
size diagram = length diagram.decisions

-- the branches reached from a condition: itself, if it is one, and those reached from its children
unfoldable pub reaches_in : List Decision → Cond → ℕ → Bool
reaches_in [] c i = false
reaches_in (d ∷ older) c i =
    if c.index == top older
    then (i == c.index || (reaches_in older d.low i || reaches_in older d.high i))
    else reaches_in older c i

-- how many branches are reached from a condition
unfoldable pub nodes : Diagram → Cond → ℕ
nodes diagram c = count_by (reaches_in diagram.decisions c) (range_with_len 2 (size diagram))

-- the new diagram has each node of the old one, with what it means and what it is
pub record Keeps (old new : Diagram) : Type 0 where
  pub variables : new.variables ≡ old.variables
  pub order : new.order ≡ old.order
  pub stays : (c : Cond) → IsNode old c → IsNode new c
  pub meaning : (c : Cond) → IsNode old c → (values : List Bool)
      → holds new c values ≡ holds old c values
  pub same_node : (c : Cond) → IsNode old c → node new c ≡ node old c
  pub same_reach : (c : Cond) → IsNode old c → nodes new c ≡ nodes old c
  pub grows : size old ≤ size new

-- each condition of the list is a node of the diagram
abbrev pub AllNodes : Diagram → List Cond → Type 0
AllNodes diagram [] = Unit {0}
AllNodes diagram (c ∷ conds) = IsNode diagram c × AllNodes diagram conds

-- whether each condition of the list holds where the variables have these values
abbrev pub all_hold : Diagram → List Cond → List Bool → Bool
all_hold diagram conds values = list_all (λ c. holds diagram c values) conds

-- no assignment satisfies the condition
abbrev pub IsNever : Diagram → Cond → Type 0
IsNever diagram c = (values : List Bool) → length values ≡ diagram.variables
    → holds diagram c values ≡ false

-- two conditions hold under the same assignments
abbrev pub SameMeaning : Diagram → Cond → Cond → Type 0
SameMeaning diagram a b = (values : List Bool) → length values ≡ diagram.variables
    → holds diagram a values ≡ holds diagram b values

-- where an assignment satisfies the first it satisfies the second
abbrev pub Implies : Diagram → Cond → Cond → Type 0
Implies diagram a b = (values : List Bool) → length values ≡ diagram.variables
    → holds diagram a values ≡ true → holds diagram b values ≡ true

-- no assignment satisfies both
abbrev pub AreDisjoint : Diagram → Cond → Cond → Type 0
AreDisjoint diagram a b = (values : List Bool) → length values ≡ diagram.variables
    → holds diagram a values ≡ true → holds diagram b values ≡ false

-- some assignment satisfies both
abbrev pub Meet : Diagram → Cond → Cond → Type 0
Meet diagram a b = (values : List Bool) × (length values ≡ diagram.variables)
    × (holds diagram a values ≡ true) × (holds diagram b values ≡ true)

-- one variable stands before another in an order
pub record IsEarlier (order : List ℕ) (i j : ℕ) : Type 0 where
  pub place : ℕ
  pub later_place : ℕ
  pub before : place < later_place
  pub within : later_place < length order
  pub here : slice_index order place ≡ i
  pub there : slice_index order later_place ≡ j

-- a node that is a branch tests a variable that stands after this one in the order
abbrev pub TestsLater : List ℕ → ℕ → Node → Type 0
TestsLater order i (Branch j low high) = IsEarlier order i j
TestsLater order i Truth = Unit {0}
TestsLater order i Falsity = Unit {0}

-- a branch means `high` where its variable is true and `low` where it is not; the two differ, and
-- test variables that stand later in the order
pub record IsChoice (diagram : Diagram) (c : Cond) (i : ℕ) (low high : Cond) : Type 0 where
  pub in_range : i < diagram.variables
  pub low_node : IsNode diagram low
  pub high_node : IsNode diagram high
  pub different : low ≢ high
  pub low_later : TestsLater diagram.order i (node diagram low)
  pub high_later : TestsLater diagram.order i (node diagram high)
  pub meaning : (values : List Bool) → holds diagram c values
      ≡ (if value_of values i then holds diagram high values else holds diagram low values)

-- what a node says of the condition
abbrev pub Describes : Diagram → Cond → Node → Type 0
Describes diagram c Truth = (values : List Bool) → holds diagram c values ≡ true
Describes diagram c Falsity = (values : List Bool) → holds diagram c values ≡ false
Describes diagram c (Branch i low high) = IsChoice diagram c i low high

-- an assignment comes before another: they first differ where it is false and the other true
pub record IsBefore (left right : List Bool) : Type 0 where
  pub place : ℕ
  pub same_until : (i : ℕ) → i < place → value_of left i ≡ value_of right i
  pub left_false : value_of left place ≡ false
  pub right_true : value_of right place ≡ true

-- the first of the assignments that satisfy the condition
pub record IsLeast (diagram : Diagram) (c : Cond) (values : List Bool) : Type 0 where
  pub all_variables : length values ≡ diagram.variables
  pub satisfies : holds diagram c values ≡ true
  pub first : (others : List Bool) → length others ≡ diagram.variables
      → holds diagram c others ≡ true → ¬ IsBefore others values
