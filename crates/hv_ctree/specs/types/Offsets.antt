-- Where the members of a structure or union stand, and the law that they don't overlap.
use Rattle.std.specs.Prelude.{ℕ, ◌≡◌, ◌<◌, ◌≤◌, ◌+◌, ◌%◌, Bool, false, if◌then◌else◌, List, map, length, slice_get, Some}
use Rattle.hv_ctree.specs.declared.types.Layout.{Layout}
use Rattle.hv_ctree.specs.types.Layouts.{offsets_from}

-- the offsets of the members of a structure or union with these layouts, in order: those of a
-- union all stand at its beginning (6.7.2.1 paragraphs 13 and 14)
abbrev pub offsets : Bool → List Layout → List ℕ
offsets is_union members =
    if is_union then map (λ member. 0) members else offsets_from 0 members

-- Whether members with these layouts and offsets lie in an object of this size as they have to:
-- each has an offset (`each`), which is a multiple of its alignment (`aligned`), and ends within
-- the object (`inside`); of two members of a structure the later begins at or after the end of the
-- earlier (`apart`).
pub record LieApart (is_union : Bool) (members : List Layout) (offsets : List ℕ) (size : ℕ) :
    Type 0 where
  pub each : length offsets ≡ length members
  pub aligned : (i : ℕ) (m : Layout) (at : ℕ) →
      slice_get members i ≡ Some m → slice_get offsets i ≡ Some at → at % m.align ≡ 0
  pub inside : (i : ℕ) (m : Layout) (at : ℕ) →
      slice_get members i ≡ Some m → slice_get offsets i ≡ Some at → at + m.size ≤ size
  pub apart : is_union ≡ false → (i j : ℕ) (m : Layout) (at later : ℕ) → i < j →
      slice_get members i ≡ Some m → slice_get offsets i ≡ Some at →
      slice_get offsets j ≡ Some later →
      at + m.size ≤ later
