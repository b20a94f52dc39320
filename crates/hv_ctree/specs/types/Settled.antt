-- What `Types` promises of the layouts that it keeps with its structures and unions. It holds of
-- every table that a program has, so no contract repeats it.
use Rattle.std.specs.Prelude.{ℕ, ◌≡◌, ◌≤◌, ◌+◌, List, [], ◌∷◌, map, slice_get, Option, None, Some}
use Rattle.std.specs.Option.{option_and_then}
use Rattle.hv_base.specs.declared.limits.TheConstants.{MOST_OBJECT_BYTES}
use Rattle.hv_ctree.specs.declared.types.Layout.{Layout}
use Rattle.hv_ctree.specs.declared.types.CompoundType.{CompoundType}
use Rattle.hv_ctree.specs.types.Plain.{PlainMember, PlainCompound}
use Rattle.hv_ctree.specs.types.Erasure.{compound_of}
use Rattle.hv_ctree.specs.types.Layouts.{compound_layout}

-- the layout that is kept with a number; `None` where none is, or nothing has the number
abbrev pub kept_layout : List CompoundType → ℕ → Option Layout
kept_layout compounds number = option_and_then (λ c. c.layout) (slice_get compounds number)

-- the members of the structure or union with a number; `None` where it is incomplete, or nothing
-- has the number
abbrev pub members_at : List PlainCompound → ℕ → Option (List PlainMember)
members_at compounds number = option_and_then (λ c. c.members) (slice_get compounds number)

-- 1 for a structure or union that is complete, 0 for another
abbrev pub counted : Option (List PlainMember) → ℕ
counted None = 0
counted (Some members) = 1

-- how many structures and unions are complete
abbrev pub complete_count : List PlainCompound → ℕ
complete_count [] = 0
complete_count (c ∷ cs) = counted c.members + complete_count cs

-- Each layout that is kept is the one of the definition, with no more structures and unions within
-- one another than are complete (`right`), and is within the limit (`small`); and each complete one
-- has one (`every`): so a member's type is always completed before what holds it (6.7.2.1
-- paragraph 2).
pub record IsSettled (compounds : List CompoundType) : Type 0 where
  pub right : (number : ℕ) (l : Layout) → kept_layout compounds number ≡ Some l →
      compound_layout (map compound_of compounds) (complete_count (map compound_of compounds))
      number
      ≡ Some l
  pub small : (number : ℕ) (l : Layout) →
      kept_layout compounds number ≡ Some l → l.size ≤ MOST_OBJECT_BYTES
  pub every : (number : ℕ) → kept_layout compounds number ≡ None →
      members_at (map compound_of compounds) number ≡ None
