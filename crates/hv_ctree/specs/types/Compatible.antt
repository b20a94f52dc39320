-- Which types are compatible (6.2.7, 6.7.2.2, 6.7.3, 6.7.5). Structures and unions are by their
-- numbers. Not in here: old-style declarators (6.7.5.3 paragraph 15), since `()` means `(void)` in
-- this profile and no identifier list is in it.
use Rattle.std.specs.Prelude.{ℕ, Bool, true, false, ◌&&◌, not, ◌==◌, Option, None, Some}
use Rattle.hv_ctree.specs.declared.types.IntKind.TheVariants.{Int}
use Rattle.hv_ctree.specs.types.Kinds.{same_kind}
use Rattle.hv_ctree.specs.types.Plain.{PlainType, plain, PlainShape, void, integer, enumeration, compound, pointer, array, function, Parameters, no_parameter, parameter}

-- whether two truth values are one
abbrev pub same_truth : Bool → Bool → Bool
same_truth true b = b
same_truth false b = not b

-- whether two lengths of arrays are both unknown, or both known and equal
abbrev pub same_length : Option ℕ → Option ℕ → Bool
same_length None None = true
same_length (Some m) (Some n) = m == n
same_length _ _ = false

-- whether two lengths of arrays are equal where both are known (6.7.5.2 paragraph 6)
abbrev pub lengths_agree : Option ℕ → Option ℕ → Bool
lengths_agree (Some m) (Some n) = m == n
lengths_agree _ _ = true

-- whether two types are compatible where they stand within others: there an array's length is known
-- in both or in neither
abbrev mutual
  -- the types with their qualifiers
  pub alike : PlainType → PlainType → Bool
  alike (plain constant shape) (plain constant' shape') =
      same_truth constant constant' && shapes_alike shape shape'

  -- the same without the qualifiers
  pub shapes_alike : PlainShape → PlainShape → Bool
  shapes_alike void void = true
  shapes_alike (integer kind) (integer kind') = same_kind kind kind'
  shapes_alike (integer kind) (enumeration number) = same_kind kind Int
  shapes_alike (enumeration number) (integer kind) = same_kind Int kind
  shapes_alike (enumeration number) (enumeration number') = number == number'
  shapes_alike (compound number) (compound number') = number == number'
  shapes_alike (pointer t) (pointer u) = alike t u
  shapes_alike (array t m) (array u n) = same_length m n && alike t u
  shapes_alike (function r ps variadic) (function q us variadic') =
      alike r q && same_truth variadic variadic' && parameters_alike ps us
  shapes_alike _ _ = false

  -- whether parameters are compatible one by one, each without its qualifier (6.7.5.3 paragraph 15)
  pub parameters_alike : Parameters → Parameters → Bool
  parameters_alike no_parameter no_parameter = true
  parameters_alike (parameter (plain constant shape) ts) (parameter (plain constant' shape') us) =
      shapes_alike shape shape' && parameters_alike ts us
  parameters_alike _ _ = false

-- whether two types are compatible without their qualifiers
abbrev pub shapes_compatible : PlainShape → PlainShape → Bool
shapes_compatible (array t m) (array u n) = lengths_agree m n && alike t u
shapes_compatible s u = shapes_alike s u

-- whether two types are compatible; of arrays one length may be unknown
abbrev pub compatible : PlainType → PlainType → Bool
compatible (plain constant shape) (plain constant' shape') =
    same_truth constant constant' && shapes_compatible shape shape'
