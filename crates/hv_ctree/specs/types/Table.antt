-- The plain structures and unions of a table of types.
use Rattle.std.specs.Prelude.{List, map}
use Rattle.hv_ctree.specs.declared.type_table.Types.{Types}
use Rattle.hv_ctree.specs.types.Plain.{PlainCompound}
use Rattle.hv_ctree.specs.types.Erasure.{compound_of}

-- the structures and unions of a program, by their numbers
abbrev pub compounds_of : Types → List PlainCompound
compounds_of types = map compound_of types.compounds
