-- How a block's bytes are kept: a cell for each byte that was written or lies before one, and
-- beside the cells the numbers and offsets of pointers, as far as there are any. What lies beyond
-- is indeterminate.
use Rattle.std.specs.Prelude.{ℕ, ℤ, pos, List, map, None, Some}
use Rattle.std.specs.List.{range_with_len, slice_index_or}
use Rattle.hv_mem.specs.declared.cells.Cell.{Cell}
use Rattle.hv_mem.specs.declared.cells.Cell.TheVariants as forms
use Rattle.hv_mem.specs.declared.value.Byte.{Byte}
use Rattle.hv_mem.specs.declared.value.Byte.TheVariants as bytes
use Rattle.hv_mem.specs.declared.value.Pointer.TheVariants.{ToObject, ToFunction}

-- the byte that a cell is, with the number and the offset beside it
abbrev pub byte_of : Cell → ℕ → ℤ → Byte
byte_of forms.Unset number offset = bytes.Indeterminate
byte_of (forms.Number n) number offset = bytes.Number n
byte_of (forms.NullPart index) number offset =
    bytes.Part (ToObject (record { block = None; offset = offset })) index
byte_of (forms.ObjectPart index) number offset =
    bytes.Part
    (ToObject (record { block = Some (record { index = number }); offset = offset })) index
byte_of (forms.FunctionPart index) number offset = bytes.Part (ToFunction number) index

-- the byte at an index
abbrev pub byte_at : List Cell → List ℕ → List ℤ → ℕ → Byte
byte_at cells numbers offsets k =
    byte_of (slice_index_or cells k forms.Unset) (slice_index_or numbers k 0)
    (slice_index_or offsets k (pos 0))

-- so many bytes
abbrev pub seen : ℕ → List Cell → List ℕ → List ℤ → List Byte
seen size cells numbers offsets = map (byte_at cells numbers offsets) (range_with_len 0 size)
