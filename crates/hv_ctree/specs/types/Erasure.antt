-- The plain type of a declared one.
use Rattle.std.specs.Prelude.{List, [], ◌∷◌, map}
use Rattle.std.specs.Option.{option_map}
use Rattle.hv_ctree.specs.types.Plain.{PlainType, plain, PlainShape, void, integer, enumeration, compound, pointer, array, function, Parameters, no_parameter, parameter, PlainMember, PlainCompound}
use Rattle.hv_ctree.specs.declared.types.CType.{CType}
use Rattle.hv_ctree.specs.declared.types.Shape.{Shape}
use Rattle.hv_ctree.specs.declared.types.Shape.TheVariants.{Void, Integer, Enumeration, Compound, Pointer', Array', Function'}
use Rattle.hv_ctree.specs.declared.types.Shape.TheBlock.{Row_of-CType, end_of-CType, more_of-CType}
use Rattle.hv_ctree.specs.declared.types.Member.{Member}
use Rattle.hv_ctree.specs.declared.types.CompoundType.{CompoundType}

-- the plain shape of a declared one, and the plain parameters
abbrev mutual
  -- the plain shape of a declared one; each pointer of the program stands before the type that it
  -- leads to
  pub shape_of : Shape → PlainShape
  shape_of Void = void
  shape_of (Integer kind) = integer kind
  shape_of (Enumeration number) = enumeration number
  shape_of (Compound number) = compound number
  shape_of (Pointer' p constant shape) = pointer (plain constant (shape_of shape))
  shape_of (Array' p constant shape length) = array (plain constant (shape_of shape)) length
  shape_of (Function' p constant shape count row variadic) =
      function (plain constant (shape_of shape)) (row_of row) variadic

  -- the types of a function's parameters, as the program holds them
  pub row_of : {m : _} → Row_of-CType m → Parameters
  row_of end_of-CType = no_parameter
  row_of (more_of-CType constant shape rest) =
      parameter (plain constant (shape_of shape)) (row_of rest)

-- the plain type of a declared one
abbrev pub type_of : CType → PlainType
type_of t = plain t.constant (shape_of t.shape)

-- the plain types of a list of declared ones
abbrev pub parameters_of : List CType → Parameters
parameters_of [] = no_parameter
parameters_of (t ∷ ts) = parameter (type_of t) (parameters_of ts)

-- the plain member of a declared one
abbrev pub member_of : Member → PlainMember
member_of m = record { name = m.name; type = type_of m.of }

-- the plain structure or union of a declared one
abbrev pub compound_of : CompoundType → PlainCompound
compound_of c =
    record { is_union = c.is_union; tag = c.tag; members = option_map (map member_of) c.members }
