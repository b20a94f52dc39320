-- The lines of a text, and its leading blanks.
use Rattle.std.specs.Prelude.{ℕ, cond, ◌==◌, ◌-◌, List, [], ◌∷◌, length, take, slice_index}
use Rattle.std.specs.List.{slice_split}
use Rattle.hv_base.specs.Ascii.{carriage_return, is_blank, is_empty, is_newline}

-- the text after its first blanks
abbrev pub without_leading_blanks : List ℕ → List ℕ
without_leading_blanks [] = []
without_leading_blanks (byte ∷ bytes) =
    cond (is_blank byte) (without_leading_blanks bytes) (byte ∷ bytes)

-- one carriage return at a line's end is no part of it
abbrev pub without_return : List ℕ → List ℕ
without_return line = cond
    (slice_index line (length line - 1) == carriage_return) (take (length line - 1) line) line

-- the lines, where a last part that is empty is none
abbrev pub counted_lines : List (List ℕ) → List (List ℕ)
counted_lines [] = []
counted_lines (last ∷ []) = cond (is_empty last) [] (without_return last ∷ [])
counted_lines (line ∷ next ∷ more) = without_return line ∷ counted_lines (next ∷ more)

-- the lines of a text, each without its newline and one carriage return before it
abbrev pub lines_of : List ℕ → List (List ℕ)
lines_of bytes = counted_lines (slice_split is_newline bytes)
