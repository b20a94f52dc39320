-- SAME: faults of a model file
-- The table of faults of a model file: each kind has a number and a name.
use Rattle.std.specs.Prelude.{ℕ, List, codes}
use Rattle.hv_model.specs.declared.faults.ModelKind.{ModelKind}
use Rattle.hv_model.specs.declared.faults.ModelKind.TheVariants.{BadLine, Repeated, Unknown, TooMany, NoConfiguration}

-- the number of a kind of fault
abbrev pub kind_number : ModelKind → ℕ
kind_number BadLine = 1
kind_number Repeated = 2
kind_number Unknown = 3
kind_number TooMany = 4
kind_number NoConfiguration = 5

-- the name of a kind of fault
abbrev pub kind_name : ModelKind → List ℕ
kind_name BadLine = codes "BadLine"
kind_name Repeated = codes "Repeated"
kind_name Unknown = codes "Unknown"
kind_name TooMany = codes "TooMany"
kind_name NoConfiguration = codes "NoConfiguration"
