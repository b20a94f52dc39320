-- What bytes mean as a scalar, and the bytes of a value (6.2.6). Numbers are little-endian, in
-- two's complement. Which bits are the value of an integer type is said by `converted` of
-- `hv_ctree`: a `_Bool` is 1 unless all its bits are 0.
use Rattle.std.specs.Prelude.{ℕ, zero, suc, ◌+◌, ◌*◌, ◌/◌, ◌%◌, Bool, true, false, ◌&&◌, ◌==◌, if◌then◌else◌, List, [], ◌∷◌, Option, None, Some, Result, Ok, Err}
use Rattle.std.specs.Ordering.{int_eq}
use Rattle.std.specs.List.{list_any}
use Rattle.hv_ctree.specs.declared.types.IntKind.{IntKind}
use Rattle.hv_ctree.specs.types.Kinds.{kind_size}
use Rattle.hv_ctree.specs.types.Conversions.{converted}
use Rattle.hv_mem.specs.declared.address.BlockId.{BlockId}
use Rattle.hv_mem.specs.declared.kind.Kind.{Kind}
use Rattle.hv_mem.specs.declared.kind.Kind.TheVariants.{Mixed, Indeterminate}
use Rattle.hv_mem.specs.declared.value.Byte.{Byte}
use Rattle.hv_mem.specs.declared.value.Byte.TheVariants as bytes
use Rattle.hv_mem.specs.declared.value.Pointer.{Pointer}
use Rattle.hv_mem.specs.declared.value.Pointer.TheVariants.{ToObject, ToFunction}
use Rattle.hv_mem.specs.declared.value.Scalar.{Scalar}
use Rattle.hv_mem.specs.declared.value.Scalar.TheVariants as scalars
use Rattle.hv_mem.specs.declared.value.Value.{Value}
use Rattle.hv_mem.specs.declared.value.Value.TheVariants as values

-- the bytes of a scalar, which are its alignment too
abbrev pub scalar_size : Scalar → ℕ
scalar_size (scalars.Integer kind) = kind_size kind
scalar_size scalars.Pointer = 8

-- what a value is stored as
abbrev pub scalar_of : Value → Scalar
scalar_of (values.Number bits kind) = scalars.Integer kind
scalar_of (values.Pointer at) = scalars.Pointer
scalar_of (values.Function number) = scalars.Pointer

-- whether a byte is a part of a pointer
abbrev pub is_part : Byte → Bool
is_part (bytes.Number n) = false
is_part (bytes.Part pointer index) = true
is_part bytes.Indeterminate = false

-- whether a byte is indeterminate (3.17.2)
abbrev pub is_indeterminate : Byte → Bool
is_indeterminate (bytes.Number n) = false
is_indeterminate (bytes.Part pointer index) = false
is_indeterminate bytes.Indeterminate = true

-- the number that a byte is; 0 of any other byte
abbrev pub byte_number : Byte → ℕ
byte_number (bytes.Number n) = n
byte_number (bytes.Part pointer index) = 0
byte_number bytes.Indeterminate = 0

-- the number that bytes make up, the lowest first
abbrev pub little_endian : List Byte → ℕ
little_endian [] = 0
little_endian (b ∷ bs) = byte_number b + 256 * little_endian bs

-- the lowest bytes of a number, the lowest first
abbrev pub low_bytes : ℕ → ℕ → List Byte
low_bytes zero n = []
low_bytes (suc count) n = bytes.Number (n % 256) ∷ low_bytes count (n / 256)

-- the number that bytes make up, or the event that reading them meets: `Mixed` before
-- `Indeterminate`, since one part of a pointer is enough for the first
abbrev pub number_in : List Byte → Result ℕ Kind
number_in bs =
    if list_any is_part bs
    then Err Mixed
    else (if list_any is_indeterminate bs then Err Indeterminate else Ok (little_endian bs))

-- the value of an integer type whose bits make up a number
abbrev pub integer_of : IntKind → Result ℕ Kind → Result Value Kind
integer_of kind (Ok n) = Ok (values.Number (converted kind n) kind)
integer_of kind (Err event) = Err event

-- bytes read as an integer
abbrev pub integer_read : IntKind → List Byte → Result Value Kind
integer_read kind bs = integer_of kind (number_in bs)

-- whether two block numbers, or null pointers, are the same
abbrev pub same_block : Option BlockId → Option BlockId → Bool
same_block None None = true
same_block (Some a) (Some b) = a.index == b.index
same_block _ _ = false

-- whether two pointers are the same: they have one block and one offset (6.5.9 paragraph 6), or are
-- of one function
abbrev pub same_pointer : Pointer → Pointer → Bool
same_pointer (ToObject a) (ToObject b) = same_block a.block b.block && int_eq a.offset b.offset
same_pointer (ToFunction m) (ToFunction n) = m == n
same_pointer _ _ = false

-- the parts of a pointer in order, from an index on
abbrev pub parts_from : Pointer → ℕ → ℕ → List Byte
parts_from pointer index zero = []
parts_from pointer index (suc count) =
    bytes.Part pointer index ∷ parts_from pointer (index + 1) count

-- the eight parts of a pointer
abbrev pub parts : Pointer → List Byte
parts pointer = parts_from pointer 0 8

-- whether a byte is this part of a pointer
abbrev pub is_part_of : Pointer → ℕ → Byte → Bool
is_part_of pointer index (bytes.Part q j) = j == index && same_pointer pointer q
is_part_of pointer index (bytes.Number n) = false
is_part_of pointer index bytes.Indeterminate = false

-- whether bytes are the parts of a pointer from an index on, in order
abbrev pub are_parts : Pointer → ℕ → List Byte → Bool
are_parts pointer index [] = true
are_parts pointer index (b ∷ bs) = is_part_of pointer index b && are_parts pointer (index + 1) bs

-- the pointer that a first byte is the first part of; `None` where it is none
abbrev pub begun_by : Byte → Option Pointer
begun_by (bytes.Part pointer index) = if index == 0 then Some pointer else None
begun_by (bytes.Number n) = None
begun_by bytes.Indeterminate = None

-- the pointer that a first byte begins, where the others go on with its parts; else `None`
abbrev pub whole_from : Option Pointer → List Byte → Option Pointer
whole_from None bs = None
whole_from (Some pointer) bs = if are_parts pointer 1 bs then Some pointer else None

-- the pointer that eight bytes are the parts of; `None` where they are those of no one pointer
abbrev pub whole_pointer : List Byte → Option Pointer
whole_pointer [] = None
whole_pointer (b ∷ bs) = whole_from (begun_by b) bs

-- the value that a pointer is
abbrev pub pointer_value : Pointer → Value
pointer_value (ToObject at) = values.Pointer at
pointer_value (ToFunction number) = values.Function number

-- bytes read as a pointer: `Mixed` unless they are one whole pointer's
abbrev pub pointer_read : Option Pointer → Result Value Kind
pointer_read None = Err Mixed
pointer_read (Some pointer) = Ok (pointer_value pointer)

-- bytes read as a scalar
abbrev pub read : Scalar → List Byte → Result Value Kind
read (scalars.Integer kind) bs = integer_read kind bs
read scalars.Pointer bs = pointer_read (whole_pointer bs)

-- the bytes that a value is stored as
abbrev pub bytes_of : Value → List Byte
bytes_of (values.Number bits kind) = low_bytes (kind_size kind) bits
bytes_of (values.Pointer at) = parts (ToObject at)
bytes_of (values.Function number) = parts (ToFunction number)
