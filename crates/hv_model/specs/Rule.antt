-- Rules of a feature model, and valid configurations.
use Rattle.std.specs.Prelude.{◌≡◌, ℕ, Bool, false, ◌&&◌, ◌||◌, not, nat_lt, List, length, IsTrue}
use Rattle.std.specs.List.{list_all, slice_index_or}
use Rattle.hv_cond.specs.Diagram.{IsBefore}

-- a rule; an option goes by its number
pub data Rule : Type 0 where
  option : ℕ → Rule
  negation : Rule → Rule
  conjunction : Rule → Rule → Rule
  disjunction : Rule → Rule → Rule
  implication : Rule → Rule → Rule

-- a model: the names of its options in order, and its rules
pub record Features : Type 0 where
  pub names : List (List ℕ)
  pub rules : List Rule

-- whether the options' values meet a rule
abbrev pub meets : List Bool → Rule → Bool
meets values (option i) = slice_index_or values i false
meets values (negation r) = not (meets values r)
meets values (conjunction r s) = meets values r && meets values s
meets values (disjunction r s) = meets values r || meets values s
meets values (implication r s) = not (meets values r) || meets values s

-- whether a rule speaks of the first so many options only
abbrev pub is_about : ℕ → Rule → Bool
is_about n (option i) = nat_lt i n
is_about n (negation r) = is_about n r
is_about n (conjunction r s) = is_about n r && is_about n s
is_about n (disjunction r s) = is_about n r && is_about n s
is_about n (implication r s) = is_about n r && is_about n s

-- whether the options' values meet every rule
abbrev pub meets_all : List Bool → List Rule → Bool
meets_all values rules = list_all (meets values) rules

-- a configuration gives each option a value; it is valid where it meets every rule
abbrev pub IsValid : Features → List Bool → Type 0
IsValid model values = (length values ≡ length model.names) × IsTrue (meets_all values model.rules)

-- the least valid configuration: no valid one has, at the first option where they differ, that
-- option off and this one on
pub record IsLeastValid (model : Features) (values : List Bool) : Type 0 where
  pub valid : IsValid model values
  pub first : (others : List Bool) → IsValid model others → ¬ IsBefore others values
