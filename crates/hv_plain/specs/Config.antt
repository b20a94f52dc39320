-- The values that a configuration gives to names.
use Rattle.std.specs.Prelude.{ℕ, Bool, false, cond, List, [], ◌∷◌}
use Rattle.std.specs.Str.{bytes_eq}

-- whether the option of this name is on; a name that no option has is off
abbrev pub is_on : List (List ℕ) → List Bool → List ℕ → Bool
is_on [] _ name = false
is_on (option ∷ names) [] name = false
is_on (option ∷ names) (value ∷ values) name =
    cond (bytes_eq name option) value (is_on names values name)
