-- The composite type of two compatible types (6.2.7 paragraph 3). Of an enumeration and `int` it is
-- the first.
use Rattle.std.specs.Prelude.{ℕ, false, Option, None, Some}
use Rattle.hv_ctree.specs.types.Plain.{PlainType, plain, PlainShape, pointer, array, function, Parameters, no_parameter, parameter}

-- the length that is known of two
abbrev pub known_length : Option ℕ → Option ℕ → Option ℕ
known_length (Some m) n = Some m
known_length None n = n

-- the composite of two types, of their shapes, and of their parameters
abbrev mutual
  -- of two types; the qualifier is the first's
  pub composite : PlainType → PlainType → PlainType
  composite (plain constant shape) (plain constant' shape') =
      plain constant (composite_shape shape shape')

  -- of their shapes
  pub composite_shape : PlainShape → PlainShape → PlainShape
  composite_shape (pointer t) (pointer u) = pointer (composite t u)
  composite_shape (array t m) (array u n) = array (composite t u) (known_length m n)
  composite_shape (function r ps variadic) (function q us variadic') =
      function (composite r q) (composite_parameters ps us) variadic
  composite_shape s u = s

  -- parameters one by one, each without its qualifier; compatible functions have as many
  pub composite_parameters : Parameters → Parameters → Parameters
  composite_parameters (parameter (plain constant shape) ts)
      (parameter (plain constant' shape') us) =
      parameter (plain false (composite_shape shape shape'))
      (composite_parameters ts us)
  composite_parameters ps us = no_parameter
