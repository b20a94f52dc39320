-- The value of `-I`: folders.
use Rattle.std.specs.Prelude.{ℕ, ◌==◌, ◌&&◌, not, Bool, cond, List, length, nat_le, Option, Some, None}
use Rattle.std.specs.List.{list_all, slice_split}
use Rattle.hv_base.specs.Ascii as ascii
use Rattle.hv_base.specs.Ascii.{is_empty}
use Rattle.hv_base.specs.declared.limits.TheConstants.{MOST_FOLDERS}

-- what sets two folders apart
abbrev pub is_colon : ℕ → Bool
is_colon byte = byte == ascii.colon

-- the names that colons set apart; at least one, which may be empty
abbrev pub names_in : List ℕ → List (List ℕ)
names_in text = slice_split is_colon text

-- whether each of these names has a byte
abbrev pub have_bytes : List (List ℕ) → Bool
have_bytes names = list_all (λ name. not (is_empty name)) names

-- the folders of a text; `None` where one has no name, or there are more than may be
abbrev pub folders : List ℕ → Option (List (List ℕ))
folders text = cond (have_bytes (names_in text) && nat_le (length (names_in text)) MOST_FOLDERS)
    (Some (names_in text)) None
