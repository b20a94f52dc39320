-- The bytes of a value are read as the value again.
use Rattle.std.proofs.Common.{◌≡◌, ℕ, zero, suc, ◌+◌, ◌*◌, ◌/◌, ◌%◌, ◌^◌, ◌<◌, true, false, length, Option, None, Some, refl, sym, ap, arith, eq-eqb}
use Rattle.std.specs.Prelude.{ℤ, Ok}
use Rattle.std.specs.List.{list_any}
use Rattle.std.specs.Ordering.{int_eq}
use Rattle.std.proofs.Math.Arith.{mod-mul}
use Rattle.std.proofs.Math.Nat.{mod-one, one-le-pow, pow-suc}
use Rattle.std.proofs.lemmas.Bool.Decides.{Decides-int_eq, nat_tests}
use Rattle.hv_ctree.specs.declared.types.IntKind.{IntKind}
use Rattle.hv_ctree.specs.declared.types.IntKind.TheVariants.{Boolean, Char, SignedChar, UnsignedChar, Short, UnsignedShort, Int, UnsignedInt, Long, UnsignedLong, LongLong, UnsignedLongLong}
use Rattle.hv_ctree.specs.types.Kinds.{kind_size}
use Rattle.hv_ctree.specs.types.Conversions.{converted, has}
use Rattle.hv_mem.specs.declared.address.BlockId.{BlockId}
use Rattle.hv_mem.specs.declared.value.Pointer.{Pointer}
use Rattle.hv_mem.specs.declared.value.Pointer.TheVariants.{ToObject, ToFunction}
use Rattle.hv_mem.specs.declared.value.Value.{Value}
use Rattle.hv_mem.specs.declared.value.Value.TheVariants as values
use Rattle.hv_mem.specs.Scalars.{bytes_of, integer_of, is_indeterminate, is_part, little_endian, low_bytes, number_in, parts, read, same_block, same_pointer, scalar_of, scalar_size, whole_pointer}
use Rattle.hv_mem.specs.Laws.{IsValue}

------ numbers

no_parts : (n b : ℕ) → list_any is_part (low_bytes n b) ≡ false
no_parts zero b = refl
no_parts (suc n) b = no_parts n (b / 256)

all_set : (n b : ℕ) → list_any is_indeterminate (low_bytes n b) ≡ false
all_set zero b = refl
all_set (suc n) b = all_set n (b / 256)

pub little_low : (n b : ℕ) → little_endian (low_bytes n b) ≡ b % (256 ^ n)
little_low zero b = sym (mod-one b)
little_low (suc n) b =
    let some : 0 < 256 ^ n = one-le-pow n 256 (omega arith) in
    let digits : b % (256 ^ n * 256) ≡ (b / 256 % 256 ^ n) * 256 + b % 256 = mod-mul b {m = 256 ^ n} {c = 256} some (omega arith) in
    let rest : little_endian (low_bytes n (b / 256)) ≡ b / 256 % (256 ^ n) = little_low n (b / 256) in
    rw (pow-suc 256 n, digits, rest) (omega arith)

pub length-low_bytes : (n b : ℕ) → length (low_bytes n b) ≡ n
length-low_bytes zero b = refl
length-low_bytes (suc n) b = ap suc (length-low_bytes n (b / 256))

-- a value of a type is told by the bytes that the type has
kept : (kind : IntKind) (b : ℕ) → has kind b ≡ true → converted kind (b % (256 ^ kind_size kind)) ≡ b
kept Boolean b h = grind (arith, nat_tests)
kept Char b h = grind (arith, nat_tests)
kept SignedChar b h = grind (arith, nat_tests)
kept UnsignedChar b h = grind (arith, nat_tests)
kept Short b h = grind (arith, nat_tests)
kept UnsignedShort b h = grind (arith, nat_tests)
kept Int b h = grind (arith, nat_tests)
kept UnsignedInt b h = grind (arith, nat_tests)
kept Long b h = grind (arith, nat_tests)
kept UnsignedLong b h = grind (arith, nat_tests)
kept LongLong b h = grind (arith, nat_tests)
kept UnsignedLongLong b h = grind (arith, nat_tests)

number-back : (kind : IntKind) (b : ℕ) → has kind b ≡ true → integer_of kind (number_in (low_bytes (kind_size kind) b)) ≡ Ok (values.Number b kind)
number-back kind b h =
    rw (no_parts (kind_size kind) b, all_set (kind_size kind) b, little_low (kind_size kind) b, kept kind b h) refl

------ pointers

block-itself : (block : Option BlockId) → same_block block block ≡ true
block-itself None = refl
block-itself (Some id) = eq-eqb id.index id.index refl

offset-itself : (z : ℤ) → int_eq z z ≡ true
offset-itself z = grind (arith, Decides-int_eq)

pointer-itself : (p : Pointer) → same_pointer p p ≡ true
pointer-itself (ToObject at) = rw (block-itself at.block) (offset-itself at.offset)
pointer-itself (ToFunction n) = eq-eqb n n refl

pointer-back : (p : Pointer) → whole_pointer (parts p) ≡ Some p
pointer-back p = let e = pointer-itself p in rw e refl

------ values

pub value-back : (v : Value) → IsValue v → read (scalar_of v) (bytes_of v) ≡ Ok v
value-back (values.Number bits kind) h = number-back kind bits h
value-back (values.Pointer at) h = rw (pointer-back (ToObject at)) refl
value-back (values.Function n) h = rw (pointer-back (ToFunction n)) refl

pub length-bytes_of : (v : Value) → length (bytes_of v) ≡ scalar_size (scalar_of v)
length-bytes_of (values.Number bits kind) = length-low_bytes (kind_size kind) bits
length-bytes_of (values.Pointer at) = refl
length-bytes_of (values.Function n) = refl
