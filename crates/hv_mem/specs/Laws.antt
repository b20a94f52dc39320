-- Laws of memory, on the contracts of the calls that change it.
use Rattle.std.specs.Prelude.{◌≡◌, ◌≢◌, ◌⊎◌, ℕ, ◌<ℤ◌, ◌≤ℤ◌, ◌+ℤ◌, true, false, IsTrue, pos, Option, None, Some, Ok, slice_get, slice_index_or}
use Rattle.hv_ctree.specs.types.Conversions.{has}
use Rattle.hv_mem.specs.declared.address.Address.{Address}
use Rattle.hv_mem.specs.declared.block.Block.{Block}
use Rattle.hv_mem.specs.declared.value.Byte.{Byte}
use Rattle.hv_mem.specs.declared.value.Byte.TheVariants.{Indeterminate}
use Rattle.hv_mem.specs.declared.value.Value.{Value}
use Rattle.hv_mem.specs.declared.value.Value.TheVariants as values
use Rattle.hv_mem.specs.Memory.{Blocks, block_bytes, is_live, size_in}
use Rattle.hv_mem.specs.Scalars.{scalar_of}
use Rattle.hv_mem.specs.Access.{loaded}

-- what a block keeps for ever: its name, its size, that it is read-only, and that it has ended
pub record BlockKeeps (old new : Block) : Type 0 where
  pub name : new.name ≡ old.name
  pub size : size_in new.contents ≡ size_in old.contents
  pub stays_sealed : old.sealed ≡ true → new.sealed ≡ true
  pub stays_ended : is_live old.contents ≡ false → is_live new.contents ≡ false

-- the same where there is a block at first: it is there still
abbrev pub StillKeeps : Option Block → Option Block → Type 0
StillKeeps None new = Unit {0}
StillKeeps (Some old) None = ⊥
StillKeeps (Some old) (Some new) = BlockKeeps old new

-- that a memory is what an earlier one became: each of its blocks is there still, under its number
abbrev pub Becomes : Blocks → Blocks → Type 0
Becomes old new = (number : ℕ) → StillKeeps (slice_get old number) (slice_get new number)

-- the byte of a block at an index; indeterminate where there is none
abbrev pub byte_at : Blocks → ℕ → ℕ → Byte
byte_at blocks number k = slice_index_or (block_bytes (slice_get blocks number)) k Indeterminate

-- whether an index of a block lies outside of so many bytes at an address
abbrev pub IsOutside : Address → ℕ → ℕ → ℕ → Type 0
IsOutside at count number k =
    (at.block ≢ Some (record { index = number }))
    ⊎ ((pos k <ℤ at.offset) ⊎ ((at.offset +ℤ pos count) ≤ℤ pos k))

-- that no byte but so many at an address differs
abbrev pub SameOutside : Blocks → Blocks → Address → ℕ → Type 0
SameOutside old new at count =
    (number k : ℕ) → IsOutside at count number k → byte_at new number k ≡ byte_at old number k

-- that a value is one of its type: pointers are
abbrev pub IsValue : Value → Type 0
IsValue (values.Number bits kind) = IsTrue (has kind bits)
IsValue (values.Pointer at) = Unit {0}
IsValue (values.Function number) = Unit {0}

-- that a load gives the value that was stored, of the same type
abbrev pub GivesBack : Blocks → Address → Value → Type 0
GivesBack blocks at value = IsValue value → loaded blocks at (scalar_of value) ≡ Ok value
