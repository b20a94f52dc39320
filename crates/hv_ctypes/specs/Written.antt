-- How large a type is as it is written out: each type that it is made of counts wherever it stands,
-- though the program may hold it once.
use Rattle.std.specs.Prelude.{ℕ, ◌+◌}
use Rattle.hv_ctree.specs.types.Plain.{PlainType, plain, PlainShape, void, integer, enumeration, compound, pointer, array, function, Parameters, no_parameter, parameter}

-- how many types there are in a type
abbrev mutual
  -- the types that a type is made of, itself among them; a structure or union is one
  pub written : PlainType → ℕ
  written (plain constant shape) = 1 + written_within shape

  -- the same without itself
  pub written_within : PlainShape → ℕ
  written_within void = 0
  written_within (integer kind) = 0
  written_within (enumeration number) = 0
  written_within (compound number) = 0
  written_within (pointer t) = written t
  written_within (array t count) = written t
  written_within (function result parameters variadic) = written result + written_all parameters

  -- the types that parameters are made of
  pub written_all : Parameters → ℕ
  written_all no_parameter = 0
  written_all (parameter t ts) = written t + written_all ts
