-- How a number is read, one byte after another.
use Rattle.std.specs.Prelude.{ℕ, ◌+◌, ◌*◌, Result, Ok, Err}
use Rattle.hv_mem.specs.declared.kind.Kind.{Kind}
use Rattle.hv_mem.specs.declared.kind.Kind.TheVariants.{Mixed, Indeterminate}
use Rattle.hv_mem.specs.declared.value.Byte.{Byte}
use Rattle.hv_mem.specs.declared.value.Byte.TheVariants as bytes

-- the number that a byte makes up with those above it, of which the number, or event, is given
abbrev pub with_lower : Byte → Result ℕ Kind → Result ℕ Kind
with_lower (bytes.Number n) (Ok number) = Ok (number * 256 + n)
with_lower (bytes.Number n) (Err event) = Err event
with_lower (bytes.Part pointer index) above = Err Mixed
with_lower bytes.Indeterminate (Ok number) = Err Indeterminate
with_lower bytes.Indeterminate (Err event) = Err event
