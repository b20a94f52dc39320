-- Memory: blocks, numbered in the order of adding, each with its abstract bytes. So it is a finite
-- map from block and offset to a byte, two blocks have no byte in common, and a block's number is
-- never used again. A block that has ended has no bytes. Not in here: what bytes mean (Scalars),
-- and which accesses are allowed (Access).
use Rattle.std.specs.Prelude.{ℕ, ◌+◌, ◌++◌, Bool, true, false, ◌&&◌, if◌then◌else◌, List, [], ◌∷◌, length, take, drop, replicate, Option, None, Some, ℤ, pos, negsuc, slice_get, slice_set}
use Rattle.std.specs.Ordering.{int_eq}
use Rattle.hv_mem.specs.declared.address.Address.{Address}
use Rattle.hv_mem.specs.declared.address.BlockId.{BlockId}
use Rattle.hv_mem.specs.declared.address.BlockName.{BlockName}
use Rattle.hv_mem.specs.declared.address.BlockName.TheVariants.{Declared, Local, Allocated, Literal, Temporary}
use Rattle.hv_mem.specs.declared.value.Byte.{Byte}
use Rattle.hv_mem.specs.declared.value.Byte.TheVariants.{Indeterminate}
use Rattle.hv_mem.specs.declared.block.Block.{Block}
use Rattle.hv_mem.specs.declared.block.Contents.{Contents}
use Rattle.hv_mem.specs.declared.block.Contents.TheVariants.{Live, Ended}

-- the blocks, each at its number
abbrev pub Blocks : Type 0
Blocks = List Block

-- a new block: live, of indeterminate bytes, and not read-only
abbrev pub fresh : BlockName → ℕ → Block
fresh name size =
    record { name = name; sealed = false; contents = Live (replicate size Indeterminate) }

-- the bytes of a live block; an ended one has none
abbrev pub bytes_in : Contents → List Byte
bytes_in (Live bytes) = bytes
bytes_in (Ended size) = []

-- the size of a block, which it keeps when it has ended
abbrev pub size_in : Contents → ℕ
size_in (Live bytes) = length bytes
size_in (Ended size) = size

-- whether a block is live
abbrev pub is_live : Contents → Bool
is_live (Live bytes) = true
is_live (Ended size) = false

-- what is left of what a block held when it ends: its size
abbrev pub ended : Contents → Contents
ended contents = Ended (size_in contents)

-- whether a name is that of an allocation
abbrev pub is_allocation : BlockName → Bool
is_allocation (Declared number) = false
is_allocation (Local activation number) = false
is_allocation (Allocated number) = true
is_allocation (Literal number) = false
is_allocation (Temporary number) = false

-- whether a block is named as an allocation
abbrev pub has_allocation_name : Block → Bool
has_allocation_name block = is_allocation block.name

-- how many blocks are named as allocations
abbrev pub allocation_count : Blocks → ℕ
allocation_count [] = 0
allocation_count (block ∷ blocks) =
    if has_allocation_name block then 1 + allocation_count blocks else allocation_count blocks

-- whether a block is live and was allocated; none is not
abbrev pub is_live_allocation : Option Block → Bool
is_live_allocation None = false
is_live_allocation (Some block) = is_allocation block.name && is_live block.contents

-- whether an offset in a block is the start of a live block that was allocated; null is not
abbrev pub starts_allocation : Option BlockId → ℤ → Blocks → Bool
starts_allocation None offset blocks = false
starts_allocation (Some id) offset blocks =
    int_eq offset (pos 0) && is_live_allocation (slice_get blocks id.index)

-- whether an address is the start of a live block that was allocated
abbrev pub is_allocation_start : Blocks → Address → Bool
is_allocation_start blocks at = starts_allocation at.block at.offset blocks

-- the blocks with a found one changed at its number; the same where none was found
abbrev pub changed_in : Option Block → (Block → Block) → ℕ → Blocks → Blocks
changed_in None f number blocks = blocks
changed_in (Some block) f number blocks = slice_set blocks number (f block)

-- the blocks with the one of a number changed; the same where no block has it
abbrev pub changed : (Block → Block) → ℕ → Blocks → Blocks
changed f number blocks = changed_in (slice_get blocks number) f number blocks

-- whether there is a block, and it is live
abbrev pub live_in : Option Block → Bool
live_in None = false
live_in (Some block) = is_live block.contents

-- the bytes of the block of a number; none where there is no such block, or it has ended
abbrev pub block_bytes : Option Block → List Byte
block_bytes None = []
block_bytes (Some block) = bytes_in block.contents

-- so many bytes from an offset on
abbrev pub part_at : ℤ → ℕ → List Byte → List Byte
part_at (pos offset) count bytes = take count (drop offset bytes)
part_at (negsuc n) count bytes = []

-- the bytes with these ones from an offset on
abbrev pub spliced : ℤ → List Byte → List Byte → List Byte
spliced (pos offset) new bytes = take offset bytes ++ new ++ drop (offset + length new) bytes
spliced (negsuc n) new bytes = bytes

-- so many bytes of a block from an offset on; none of null
abbrev pub bytes_from : Option BlockId → ℤ → ℕ → Blocks → List Byte
bytes_from None offset count blocks = []
bytes_from (Some id) offset count blocks =
    part_at offset count (block_bytes (slice_get blocks id.index))

-- so many bytes from an address on; none at a null pointer
abbrev pub bytes_at : Blocks → Address → ℕ → List Byte
bytes_at blocks at count = bytes_from at.block at.offset count blocks

-- a block with these bytes from an offset on
abbrev pub rewritten : ℤ → List Byte → Block → Block
rewritten offset new block =
    record block { contents = Live (spliced offset new (bytes_in block.contents)) }

-- the memory with these bytes in a block from an offset on; the same for null
abbrev pub with_bytes_in : Option BlockId → ℤ → List Byte → Blocks → Blocks
with_bytes_in None offset new blocks = blocks
with_bytes_in (Some id) offset new blocks = changed (rewritten offset new) id.index blocks

-- the memory with these bytes from an address on, and no other change; the same at a null pointer
abbrev pub with_bytes : Blocks → Address → List Byte → Blocks
with_bytes blocks at new = with_bytes_in at.block at.offset new blocks
