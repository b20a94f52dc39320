-- Where an allowed access takes place.
use Rattle.std.specs.Prelude.{◌≡◌, ℕ, ◌+◌, ◌≤◌, ℤ, pos, true, length, Some, slice_get}
use Rattle.hv_mem.specs.declared.access.Spot.{Spot}
use Rattle.hv_mem.specs.declared.address.Address.{Address}
use Rattle.hv_mem.specs.declared.block.Contents.{Contents}
use Rattle.hv_mem.specs.Memory.{Blocks, block_bytes, bytes_in, is_live, live_in}

-- that an index is the offset of an access to so many bytes of a live block
pub record IsOffset (contents : Contents) (offset : ℤ) (count : ℕ) (index : ℕ) : Type 0 where
  pub live : is_live contents ≡ true
  pub same : offset ≡ pos index
  pub within : index + count ≤ length (bytes_in contents)

-- that the block of an index is live and has so many bytes from an offset on
pub record HasRoom (blocks : Blocks) (count : ℕ) (spot : Spot) : Type 0 where
  pub live : live_in (slice_get blocks spot.block) ≡ true
  pub within : spot.offset + count ≤ length (block_bytes (slice_get blocks spot.block))

-- that an access at an address takes place there
pub record IsSpot (blocks : Blocks) (at : Address) (count : ℕ) (spot : Spot) : Type 0 where
  pub block : at.block ≡ Some (record { index = spot.block })
  pub same : at.offset ≡ pos spot.offset
  pub live : live_in (slice_get blocks spot.block) ≡ true
  pub within : spot.offset + count ≤ length (block_bytes (slice_get blocks spot.block))
