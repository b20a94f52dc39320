-- The bytes that a block's cells are.
use Rattle.std.proofs.Common.{◌≡◌, ◌≢◌, ℕ, ◌<◌, List, length, get_or, sym, ap, ◌∙◌, arith, zero-add}
use Rattle.std.specs.Prelude.{ℤ, slice_set}
use Rattle.std.proofs.lemmas.List.FromFn.{length-map-range_with_len, get_or-map-range_with_len}
use Rattle.hv_mem.specs.declared.cells.Cell.{Cell}
use Rattle.hv_mem.specs.declared.value.Byte.{Byte}
use Rattle.hv_mem.specs.declared.value.Byte.TheVariants.{Indeterminate}
use Rattle.hv_mem.specs.working.Cells.{byte_at, seen}
use Rattle.hv_mem.proofs.ListsLemmas.{listed-set}

pub seen-length : (size : ℕ) (cells : List Cell) (numbers : List ℕ) (offsets : List ℤ) (value : List Byte)
    → seen size cells numbers offsets ≡ value → length value ≡ size
seen-length size cells numbers offsets value e =
    sym (ap length e) ∙ length-map-range_with_len (byte_at cells numbers offsets) 0 size

pub seen-at : (size : ℕ) (cells : List Cell) (numbers : List ℕ) (offsets : List ℤ) (k : ℕ) (value : List Byte)
    → seen size cells numbers offsets ≡ value → k < length value
    → byte_at cells numbers offsets k ≡ get_or value k Indeterminate
seen-at size cells numbers offsets k value e h =
    let lt : k < size = omega (arith, seen-length size cells numbers offsets value e) in
    sym (get_or-map-range_with_len (byte_at cells numbers offsets) 0 size k k Indeterminate lt (zero-add k))
    ∙ ap (λ v. get_or v k Indeterminate) e

pub seen-put : (size : ℕ) (cells cells' : List Cell) (numbers numbers' : List ℕ) (offsets offsets' : List ℤ) (k : ℕ) (byte : Byte) (value : List Byte)
    → seen size cells numbers offsets ≡ value → k < length value
    → byte_at cells' numbers' offsets' k ≡ byte
    → ((j : ℕ) → j ≢ k → byte_at cells' numbers' offsets' j ≡ byte_at cells numbers offsets j)
    → seen size cells' numbers' offsets' ≡ slice_set value k byte
seen-put size cells cells' numbers numbers' offsets offsets' k byte value e h here there =
    let lt : k < size = omega (arith, seen-length size cells numbers offsets value e) in
    listed-set (byte_at cells numbers offsets) (byte_at cells' numbers' offsets') size k byte lt here there
    ∙ ap (λ v. slice_set v k byte) e
