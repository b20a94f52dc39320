-- What becomes of a table of structures and unions while a program is read: each is added without
-- members, and gets them later, once (6.7.2.3).
use Rattle.std.specs.Prelude.{ℕ, zero, suc, Bool, Option, None, Some, List, [], ◌∷◌, length, slice_get}
use Rattle.std.specs.Option.{option_and_then}
use Rattle.hv_ctree.specs.declared.types.Layout.{Layout}
use Rattle.hv_ctree.specs.types.Plain.{PlainMember, PlainCompound}
use Rattle.hv_ctree.specs.types.Layouts.{within_limit, laid_out, member_layouts, compound_layout}

-- the layouts of the structures and unions of a program, by their numbers
abbrev pub layouts_in : List PlainCompound → ℕ → Option Layout
layouts_in compounds = compound_layout compounds (length compounds)

-- a structure or union that has no members yet
abbrev pub incomplete : Bool → Option (List ℕ) → PlainCompound
incomplete is_union tag = record { is_union = is_union; tag = tag; members = None }

-- whether something is a union; `None` where it is complete
abbrev pub unless_complete : Bool → Option (List PlainMember) → Option Bool
unless_complete is_union None = Some is_union
unless_complete is_union (Some members) = None

-- whether the incomplete structure or union with a number is a union; `None` where it is complete,
-- or nothing has the number
abbrev pub incomplete_kind : List PlainCompound → ℕ → Option Bool
incomplete_kind compounds number =
    option_and_then (λ c. unless_complete c.is_union c.members) (slice_get compounds number)

-- the structures and unions after the one with a number got these members
abbrev pub with_members : List PlainCompound → ℕ → List PlainMember → List PlainCompound
with_members [] number members = []
with_members (c ∷ cs) zero members =
    record { is_union = c.is_union; tag = c.tag; members = Some members } ∷ cs
with_members (c ∷ cs) (suc number) members = c ∷ with_members cs number members

-- the layout that these members give a structure or union, where it is within the limit
abbrev pub layout_of_members : List PlainCompound → Bool → List PlainMember → Option Layout
layout_of_members compounds is_union members =
    within_limit
    (option_and_then (laid_out is_union) (member_layouts (layouts_in compounds) members))

-- the layout that the incomplete structure or union with a number gets from these members; `None`
-- where nothing incomplete has the number, there is no member, one of them has no layout (6.7.2.1
-- paragraph 2), or all together are larger than the limit
abbrev pub layout_with : List PlainCompound → ℕ → List PlainMember → Option Layout
layout_with compounds number members =
    option_and_then (λ is_union. layout_of_members compounds is_union members)
    (incomplete_kind compounds number)
