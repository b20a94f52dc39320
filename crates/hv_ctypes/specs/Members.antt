-- Where the members of a program's structures and unions stand.
use Rattle.std.specs.Prelude.{ℕ, ◌≡◌, Option, Some, List, slice_get}
use Rattle.std.specs.Option.{option_and_then, option_map}
use Rattle.hv_ctree.specs.declared.types.Layout.{Layout}
use Rattle.hv_ctree.specs.types.Plain.{PlainMember, PlainCompound}
use Rattle.hv_ctree.specs.types.Layouts.{within_limit, member_layouts}
use Rattle.hv_ctree.specs.types.Offsets.{offsets, LieApart}
use Rattle.hv_ctypes.specs.Compounds.{layouts_in}

-- the offsets of these members, where each has a layout
abbrev pub offsets_of : List PlainCompound → PlainCompound → Option (List ℕ)
offsets_of compounds c =
    option_and_then
    (λ ms. option_map (offsets c.is_union) (member_layouts (layouts_in compounds) ms))
    c.members

-- the offsets of the members of the structure or union with a number; `None` where it has no layout
-- within the limit
abbrev pub offsets_at : List PlainCompound → ℕ → Option (List ℕ)
offsets_at compounds number =
    option_and_then (λ whole. option_and_then (offsets_of compounds) (slice_get compounds number))
    (within_limit (layouts_in compounds number))

-- That these are offsets of the members of the structure or union with a number at which they lie
-- as they have to: with their layouts, and in an object of its size.
abbrev pub LieApartAt : List PlainCompound → ℕ → List ℕ → Type 0
LieApartAt compounds number offsets =
    (c : PlainCompound) (ms : List PlainMember) (members : List Layout) (whole : Layout) →
    slice_get compounds number ≡ Some c → c.members ≡ Some ms →
    member_layouts (layouts_in compounds) ms ≡ Some members →
    layouts_in compounds number ≡ Some whole →
    LieApart c.is_union members offsets whole.size
