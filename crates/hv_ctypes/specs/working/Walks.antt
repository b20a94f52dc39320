-- Layouts as the walk over types gathers them.
use Rattle.std.specs.Prelude.{ℕ, ◌+◌, max, Bool, if◌then◌else◌, Option, None, Some, List, [], ◌∷◌}
use Rattle.std.specs.Option.{option_and_then, option_map}
use Rattle.hv_ctree.specs.declared.types.Layout.{Layout}
use Rattle.hv_ctree.specs.types.Plain.{PlainType, plain, PlainShape, void, integer, enumeration, compound, pointer, array, function, PlainMember}
use Rattle.hv_ctree.specs.types.Layouts.{rounded_up, layout_by}

-- the number of the structure or union that a type is, or that the elements of an array are,
-- through all its dimensions
abbrev mutual
  -- of a type
  pub innermost : PlainType → Option ℕ
  innermost (plain constant shape) = innermost_shape shape

  -- of a shape
  pub innermost_shape : PlainShape → Option ℕ
  innermost_shape void = None
  innermost_shape (integer kind) = None
  innermost_shape (enumeration number) = None
  innermost_shape (compound number) = Some number
  innermost_shape (pointer t) = None
  innermost_shape (array t count) = innermost t
  innermost_shape (function result parameters variadic) = None

-- the bytes that members take once one more stands after them, or over them in a union
abbrev pub taken_after : Bool → ℕ → Layout → ℕ
taken_after is_union taken member =
    if is_union then max taken member.size else rounded_up taken member.align + member.size

-- the layout of a structure or union of which the members so far take these bytes and have this
-- alignment
abbrev pub laid_from : (ℕ → Option Layout) → Bool → ℕ → ℕ → List PlainMember → Option Layout
laid_from compounds is_union taken align [] =
    Some (record { size = rounded_up taken align; align = align })
laid_from compounds is_union taken align (m ∷ ms) =
    option_and_then
    (λ l. laid_from compounds is_union (taken_after is_union taken l) (max align l.align) ms)
    (layout_by compounds m.type)

-- the bytes that members take with what stands before them, where each has a layout
abbrev pub bytes_from : (ℕ → Option Layout) → Bool → ℕ → List PlainMember → Option ℕ
bytes_from compounds is_union taken [] = Some taken
bytes_from compounds is_union taken (m ∷ ms) =
    option_and_then (λ l. bytes_from compounds is_union (taken_after is_union taken l) ms)
    (layout_by compounds m.type)

-- where a member stands after members that take these bytes: in a union over them
abbrev pub offset_after : Bool → ℕ → Layout → ℕ
offset_after is_union taken member = if is_union then 0 else rounded_up taken member.align

-- the offsets of members that stand after others that take these bytes, where each has a layout
abbrev pub placed_from : (ℕ → Option Layout) → Bool → ℕ → List PlainMember → Option (List ℕ)
placed_from compounds is_union taken [] = Some []
placed_from compounds is_union taken (m ∷ ms) =
    option_and_then
    (λ l.
    option_map (λ others. offset_after is_union taken l ∷ others)
    (placed_from compounds is_union (taken_after is_union taken l) ms))
    (layout_by compounds m.type)
