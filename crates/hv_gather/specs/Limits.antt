-- Which file of a bundle is larger than a file may be, or makes all files larger than they may be
-- together.
use Rattle.std.specs.Prelude.{ℕ, ◌+◌, Bool, ◌||◌, nat_lt, cond, List, [], ◌∷◌, length, Option, Some, None}
use Rattle.hv_base.specs.declared.held.Held.{Held}
use Rattle.hv_base.specs.declared.held.Held.TheVariants.{Bytes, Absent}
use Rattle.hv_base.specs.declared.limits.TheConstants.{MOST_FILE_BYTES, MOST_BUNDLE_BYTES}

-- how many bytes are held; none where there is no file
abbrev pub size_of : Held → ℕ
size_of (Bytes bytes) = length bytes
size_of Absent = 0

-- how many bytes the files of these entries have together
abbrev pub total_of : List (List ℕ × Held) → ℕ
total_of [] = 0
total_of (entry ∷ more) = size_of entry.1 + total_of more

-- a file of `size` bytes is too big, or all files up to it are, which have `total` bytes
abbrev pub is_beyond : (size total : ℕ) → Bool
is_beyond size total = nat_lt MOST_FILE_BYTES size || nat_lt MOST_BUNDLE_BYTES total

-- a file with which a limit is passed: its name, its length, and the length of all files up to it
pub record Beyond : Type 0 where
  pub name : List ℕ
  pub size : ℕ
  pub total : ℕ

-- this file where a limit is passed with it, after files of `so_far` bytes; else what `later` finds
-- after it
abbrev pub beyond_at : (name : List ℕ) → Held → (so_far : ℕ) → (later : ℕ → Option Beyond)
    → Option Beyond
beyond_at name Absent so_far later = later so_far
beyond_at name (Bytes bytes) so_far later =
    cond (is_beyond (length bytes) (so_far + length bytes))
    (Some (record { name = name; size = length bytes; total = so_far + length bytes }))
    (later (so_far + length bytes))

-- the first file of these entries with which a limit is passed, after files of `so_far` bytes;
-- `None` where each file and all of them together are within the limits
abbrev pub first_beyond : List (List ℕ × Held) → (so_far : ℕ) → Option Beyond
first_beyond [] so_far = None
first_beyond (entry ∷ more) so_far = beyond_at entry.0 entry.1 so_far (first_beyond more)
