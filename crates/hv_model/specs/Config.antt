-- The text of a configuration.
use Rattle.std.specs.Prelude.{ℕ, ◌≡◌, Bool, true, false, cond, ◌+◌, ◌==◌, List, [], ◌∷◌, map, Some, None, slice_set, position}
use Rattle.std.specs.List.{slice_split, slice_index_or, join_with_byte}
use Rattle.std.specs.Str.{bytes_eq}
use Rattle.hv_base.specs.Ascii.{comma}
use Rattle.hv_model.specs.declared.faults.ConfigFault.{ConfigFault}
use Rattle.hv_model.specs.declared.faults.ConfigFault.TheVariants.{Unknown, Repeated, Memory}

-- what sets two pieces apart
abbrev pub is_comma : ℕ → Bool
is_comma byte = byte == comma

-- the pieces that commas set apart; the empty text has none
abbrev pub pieces_of : List ℕ → List (List ℕ)
pieces_of [] = []
pieces_of (byte ∷ bytes) = slice_split is_comma (byte ∷ bytes)

-- what a configuration's text is: a value for each option, or its first fault with the number of
-- the piece
pub data ConfigReading : Type 0 where
  config : List Bool → ConfigReading
  unknown : ℕ → ConfigReading
  repeated : ℕ → ConfigReading

-- what the pieces from number n on make, where these options were named before
abbrev pub config_from : List (List ℕ) → List Bool → ℕ → List (List ℕ) → ConfigReading
config_from names on n [] = config on
config_from names on n (piece ∷ more) = elim (position (bytes_eq piece) names) [
  | None ↦ unknown n
  | Some i ↦ cond (slice_index_or on i false) (repeated n) (config_from names
      (slice_set on i true) (n + 1) more)
]

-- what a text is, where the options have these names
abbrev pub config_of : List (List ℕ) → List ℕ → ConfigReading
config_of names text = config_from names (map (λ _. false) names) 0 (pieces_of text)

-- the fault is that of the text; out of memory says nothing
abbrev pub IsConfigFault : ConfigReading → ConfigFault → Type 0
IsConfigFault reading (Unknown piece) = reading ≡ unknown piece
IsConfigFault reading (Repeated piece) = reading ≡ repeated piece
IsConfigFault reading Memory = Unit {0}

-- the names of the options that are on, in order
abbrev pub names_on : List (List ℕ) → List Bool → List (List ℕ)
names_on [] on = []
names_on (name ∷ names) [] = []
names_on (name ∷ names) (value ∷ on) = cond value (name ∷ names_on names on) (names_on names on)

-- the names of the options that are on, joined by commas
abbrev pub text_of : List (List ℕ) → List Bool → List ℕ
text_of names on = join_with_byte comma (names_on names on)
