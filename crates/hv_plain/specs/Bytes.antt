-- What stands between the tokens of small programs, and around the lines of small sources.
use Rattle.std.specs.Prelude.{ℕ, Bool, ◌||◌, List, reverse}
use Rattle.hv_base.specs.Ascii.{is_blank, is_newline}
use Rattle.hv_model.specs.Bytes.{without_leading_blanks}

-- what may stand between two tokens of a small program
abbrev pub is_gap : ℕ → Bool
is_gap byte = is_blank byte || is_newline byte

-- the text without the blanks at both ends
abbrev pub trimmed : List ℕ → List ℕ
trimmed text = reverse (without_leading_blanks (reverse (without_leading_blanks text)))
