-- Lines and words, taken off the beginning of a text one by one.
use Rattle.std.proofs.Common.{◌≡◌, ℕ, ◌+◌, ◌<◌, ◌≤◌, List, [], ◌∷◌, refl, ◌∙◌, ap, arith, length, take, drop}
use Rattle.std.specs.List.{slice_split, position_or_len}
use Rattle.hv_base.specs.Ascii.{is_newline}
use Rattle.hv_model.specs.Bytes.{counted_lines, without_return}
use Rattle.hv_base.proofs.Lists.{slice_split_front, slice_split_whole, slice_split-some}

counted_lines-cons : (line : List ℕ) (parts : List (List ℕ)) → 0 < length parts
    → counted_lines (line ∷ parts) ≡ without_return line ∷ counted_lines parts
counted_lines-cons line [] h = absurd (omega arith)
counted_lines-cons line (part ∷ parts) h = refl

pub counted_lines-front : (bytes : List ℕ) → position_or_len is_newline bytes < length bytes
    → counted_lines (slice_split is_newline bytes)
    ≡ without_return (take (position_or_len is_newline bytes) bytes) ∷
    counted_lines (slice_split is_newline (drop (position_or_len is_newline bytes + 1) bytes))
counted_lines-front bytes found =
    ap counted_lines (slice_split_front is_newline bytes found)
    ∙ counted_lines-cons _ _ (slice_split-some is_newline
    (drop (position_or_len is_newline bytes + 1) bytes))

counted_lines-one : (bytes : List ℕ) → 0 < length bytes
    → counted_lines (bytes ∷ []) ≡ without_return bytes ∷ []
counted_lines-one [] h = absurd (omega arith)
counted_lines-one (byte ∷ bytes) h = refl

pub counted_lines-last : (bytes : List ℕ) → 0 < length bytes
    → length bytes ≤ position_or_len is_newline bytes
    → counted_lines (slice_split is_newline bytes) ≡ without_return bytes ∷ []
counted_lines-last bytes some none = ap counted_lines (slice_split_whole is_newline bytes none)
    ∙ counted_lines-one bytes some
