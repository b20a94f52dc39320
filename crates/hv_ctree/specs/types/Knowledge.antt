-- What a type knows: the lengths of its arrays.
use Rattle.std.specs.Prelude.{ℕ, Bool, true, false, ◌&&◌, ◌==◌, Option, None, Some}
use Rattle.hv_ctree.specs.types.Plain.{PlainType, plain, PlainShape, pointer, array, function, Parameters, parameter}

-- whether the first length is the second where that is known
abbrev pub keeps_length : Option ℕ → Option ℕ → Bool
keeps_length (Some m) (Some n) = m == n
keeps_length None (Some n) = false
keeps_length m None = true

-- whether each array within the first type has the length that the array at the same position of
-- the second has
abbrev mutual
  -- of the types
  pub keeps : PlainType → PlainType → Bool
  keeps (plain constant shape) (plain constant' shape') = keeps_shape shape shape'

  -- of their shapes
  pub keeps_shape : PlainShape → PlainShape → Bool
  keeps_shape (pointer t) (pointer u) = keeps t u
  keeps_shape (array t m) (array u n) = keeps_length m n && keeps t u
  keeps_shape (function r ps variadic) (function q us variadic') =
      keeps r q && keeps_parameters ps us
  keeps_shape _ _ = true

  -- of the types of parameters, one by one
  pub keeps_parameters : Parameters → Parameters → Bool
  keeps_parameters (parameter t ts) (parameter u us) = keeps t u && keeps_parameters ts us
  keeps_parameters _ _ = true
