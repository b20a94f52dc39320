-- Sizes, alignments and offsets (6.2.6.1, 6.5.3.4, 6.7.2.1). A type has a layout where it is an
-- object type that is complete (6.2.5): no array is empty, no structure or union is, and none holds
-- itself.
use Rattle.std.specs.Prelude.{ℕ, nat_le, ◌||◌, ◌+◌, ◌*◌, ◌-◌, ◌%◌, max, zero, suc, Bool, ◌==◌, if◌then◌else◌, Option, None, Some, List, [], ◌∷◌, length, slice_get}
use Rattle.std.specs.Option.{option_map, option_and_then}
use Rattle.hv_ctree.specs.declared.types.Layout.{Layout}
use Rattle.hv_base.specs.declared.limits.TheConstants.{MOST_OBJECT_BYTES}
use Rattle.hv_ctree.specs.types.Kinds.{kind_size}
use Rattle.hv_ctree.specs.types.Plain.{PlainType, plain, PlainShape, void, integer, enumeration, compound, pointer, array, function, PlainMember, PlainCompound}

-- a scalar is aligned to its size
abbrev pub scalar : ℕ → Layout
scalar bytes = record { size = bytes; align = bytes }

-- an array of known length is its elements in a row (6.2.5 paragraph 20)
abbrev pub repeated : Option ℕ → Option Layout → Option Layout
repeated None element = None
repeated (Some count) None = None
repeated (Some count) (Some element) =
    if count == 0
    then None
    else Some (record { size = count * element.size; align = element.align })

-- the layout of a type, where structures and unions have the layouts given by their numbers
abbrev mutual
  -- of a type, whose qualifier tells nothing
  pub layout_by : (ℕ → Option Layout) → PlainType → Option Layout
  layout_by compounds (plain constant shape) = shape_layout_by compounds shape

  -- of a shape; `None` where it is incomplete or a function
  pub shape_layout_by : (ℕ → Option Layout) → PlainShape → Option Layout
  shape_layout_by compounds void = None
  shape_layout_by compounds (integer kind) = Some (scalar (kind_size kind))
  shape_layout_by compounds (enumeration number) = Some (scalar 4)
  shape_layout_by compounds (compound number) = compounds number
  shape_layout_by compounds (pointer t) = Some (scalar 8)
  shape_layout_by compounds (array t count) = repeated count (layout_by compounds t)
  shape_layout_by compounds (function result parameters variadic) = None

-- the least multiple of an alignment that is at least the position
abbrev pub rounded_up : ℕ → ℕ → ℕ
rounded_up position align = position + (align - position % align) % align

-- the offsets of members with these layouts, one after another, the first at the position or after
-- it (6.7.2.1 paragraph 13)
abbrev pub offsets_from : ℕ → List Layout → List ℕ
offsets_from position [] = []
offsets_from position (member ∷ members) =
    let offset = rounded_up position member.align in
    offset ∷ offsets_from (offset + member.size) members

-- where the last of such members ends
abbrev pub end_from : ℕ → List Layout → ℕ
end_from position [] = position
end_from position (member ∷ members) =
    end_from (rounded_up position member.align + member.size) members

-- the largest alignment of members, which is that of the structure or union
abbrev pub largest_align : List Layout → ℕ
largest_align [] = 1
largest_align (member ∷ members) = max member.align (largest_align members)

-- the largest size of members
abbrev pub largest_size : List Layout → ℕ
largest_size [] = 0
largest_size (member ∷ members) = max member.size (largest_size members)

-- the bytes that members take, without padding after them: those of a union lie over one another
-- (6.7.2.1 paragraph 14)
abbrev pub taken : Bool → List Layout → ℕ
taken is_union members = if is_union then largest_size members else end_from 0 members

-- the layout of a structure or union with such members: padding after the last makes its size a
-- multiple of its alignment (6.7.2.1 paragraph 15)
abbrev pub laid_out : Bool → List Layout → Option Layout
laid_out is_union [] = None
laid_out is_union (member ∷ members) =
    let align = largest_align (member ∷ members) in
    Some (record { size = rounded_up (taken is_union (member ∷ members)) align; align = align })

-- the layouts of all members, where each has one
abbrev pub member_layouts : (ℕ → Option Layout) → List PlainMember → Option (List Layout)
member_layouts compounds [] = Some []
member_layouts compounds (m ∷ ms) =
    option_and_then (λ first. option_map (λ others. first ∷ others) (member_layouts compounds ms))
    (layout_by compounds m.type)

-- the layout of a structure or union by those of the ones within it
abbrev pub compound_layout_by : (ℕ → Option Layout) → PlainCompound → Option Layout
compound_layout_by compounds c =
    option_and_then (λ ms. option_and_then (laid_out c.is_union) (member_layouts compounds ms))
    c.members

-- the layout of the structure or union with a number, where at most `depth` of them stand within
-- one another. Without a cycle no more can than there are
abbrev pub compound_layout : List PlainCompound → ℕ → ℕ → Option Layout
compound_layout compounds zero number = None
compound_layout compounds (suc depth) number =
    option_and_then (compound_layout_by (compound_layout compounds depth))
    (slice_get compounds number)

-- the layout of a type; `None` where it is incomplete or a function
abbrev pub layout : List PlainCompound → PlainType → Option Layout
layout compounds t = layout_by (compound_layout compounds (length compounds)) t

-- a layout where its size is within the limit on objects and types
abbrev pub within_limit : Option Layout → Option Layout
within_limit None = None
within_limit (Some l) = if nat_le l.size MOST_OBJECT_BYTES then Some l else None

-- the alignments that types have
abbrev pub is_alignment : ℕ → Bool
is_alignment n = n == 1 || n == 2 || n == 4 || n == 8
