-- The built-in headers by their file numbers.
use Rattle.std.specs.Prelude.{ℕ, ◌-◌, Bool, true, false, nat_lt, List, Option, None, slice_get}
use Rattle.hv_base.specs.declared.limits.TheConstants.{FIRST_HEADER_FILE}
use Rattle.hv_plainpp.specs.Files.{header_names}

-- the name of the built-in header with this file number; `None` where it is no built-in header's
abbrev pub header_name_of : (number : ℕ) → Option (List ℕ)
header_name_of number = elim (nat_lt number FIRST_HEADER_FILE) [
  | true ↦ None
  | false ↦ slice_get header_names (number - FIRST_HEADER_FILE)
]
