-- Which accesses are allowed, and the event that another one meets. Of several the first counts in
-- the order null pointer, ended block, outside of the block, offset no multiple of the alignment,
-- read-only, and then what the bytes are read as (Scalars).
use Rattle.std.specs.Prelude.{ℕ, ◌+◌, ◌<◌, ◌%◌, Bool, true, false, not, ◌&&◌, ◌==◌, nat_le, if◌then◌else◌, ℤ, pos, negsuc, length, Option, None, Some, Result, Err, slice_get}
use Rattle.hv_mem.specs.declared.access.Way.{Way}
use Rattle.hv_mem.specs.declared.access.Way.TheVariants.{Read, Write}
use Rattle.hv_mem.specs.declared.address.Address.{Address}
use Rattle.hv_mem.specs.declared.address.BlockId.{BlockId}
use Rattle.hv_mem.specs.declared.block.Block.{Block}
use Rattle.hv_mem.specs.declared.block.Contents.{Contents}
use Rattle.hv_mem.specs.declared.block.Contents.TheVariants.{Live, Ended}
use Rattle.hv_mem.specs.declared.kind.Kind.{Kind}
use Rattle.hv_mem.specs.declared.kind.Kind.TheVariants.{OutsideObject, DeadObject, NullAccess, ReadOnly, Misaligned}
use Rattle.hv_mem.specs.declared.value.Scalar.{Scalar}
use Rattle.hv_mem.specs.declared.value.Value.{Value}
use Rattle.hv_mem.specs.Memory.{Blocks, bytes_at, with_bytes}
use Rattle.hv_mem.specs.Scalars.{scalar_size, scalar_of, read, bytes_of}

-- whether an access writes
abbrev pub is_write : Way → Bool
is_write Read = false
is_write Write = true

-- the event that an access to so many bytes of a live block meets, which has these many bytes;
-- `None` where it meets none
abbrev pub live_event : ℤ → (count align : ℕ) → (size : ℕ) → (forbidden : Bool) → Option Kind
live_event (negsuc n) count align size forbidden = Some OutsideObject
live_event (pos offset) count align size forbidden =
    if not (nat_le (offset + count) size) then Some OutsideObject
    else (if not (offset % align == 0) then Some Misaligned
    else (if forbidden then Some ReadOnly else None))

-- the event that an access to a block meets
abbrev pub contents_event : Contents → ℤ → (count align : ℕ) → (forbidden : Bool) → Option Kind
contents_event (Ended size) offset count align forbidden = Some DeadObject
contents_event (Live bytes) offset count align forbidden =
    live_event offset count align (length bytes) forbidden

-- the event that an access to the block of a number meets; a number that no block has counts as
-- outside of all of them, and no caller comes there
abbrev pub block_event : Option Block → ℤ → (count align : ℕ) → Way → Option Kind
block_event None offset count align way = Some OutsideObject
block_event (Some block) offset count align way =
    contents_event block.contents offset count align (is_write way && block.sealed)

-- the event that an access meets at an offset of a block, or of null
abbrev pub event_in : Option BlockId → ℤ → (count align : ℕ) → Way → Blocks → Option Kind
event_in None offset count align way blocks = Some NullAccess
event_in (Some id) offset count align way blocks =
    block_event (slice_get blocks id.index) offset count align way

-- the event that an access at an address meets
abbrev pub event : Blocks → Address → (count align : ℕ) → Way → Option Kind
event blocks at count align way = event_in at.block at.offset count align way blocks

-- whether a number is one of a block of this memory, or there is none, for null
abbrev pub IsBlockOrNull : Blocks → Option BlockId → Type 0
IsBlockOrNull blocks None = Unit {0}
IsBlockOrNull blocks (Some id) = id.index < length blocks

-- whether an address is null or has a block of this memory
abbrev pub IsAddress : Blocks → Address → Type 0
IsAddress blocks at = IsBlockOrNull blocks at.block

-- an answer, unless there is an event
abbrev pub unless : {A : Type 0} → Option Kind → Result A Kind → Result A Kind
unless None answer = answer
unless (Some kind) answer = Err kind

-- what a load answers
abbrev pub loaded : Blocks → Address → Scalar → Result Value Kind
loaded blocks at scalar =
    unless (event blocks at (scalar_size scalar) (scalar_size scalar) Read)
    (read scalar (bytes_at blocks at (scalar_size scalar)))

-- the event that a store meets; `None` where it meets none
abbrev pub store_event : Blocks → Address → Value → Option Kind
store_event blocks at value =
    event blocks at (scalar_size (scalar_of value)) (scalar_size (scalar_of value)) Write

-- the memory after a store that meets no event
abbrev pub stored : Blocks → Address → Value → Blocks
stored blocks at value = with_bytes blocks at (bytes_of value)

-- the first of two events; `None` where there is neither
abbrev pub either : Option Kind → Option Kind → Option Kind
either (Some kind) other = Some kind
either None other = other

-- the event that a copy meets: first what is read, then what is written
abbrev pub copy_event : Blocks → (from to : Address) → (count align : ℕ) → Option Kind
copy_event blocks from to count align =
    either (event blocks from count align Read) (event blocks to count align Write)

-- the memory after a copy that meets no event: bytes are moved as they are, and the ranges may
-- overlap
abbrev pub copied : Blocks → (from to : Address) → (count : ℕ) → Blocks
copied blocks from to count = with_bytes blocks to (bytes_at blocks from count)
