-- Conversions between integer types (6.3.1). A value is told by its 64 bits in two's complement, so
-- a negative one by what it is above -(2 ^ 64), and one of an unsigned type by itself.
use Rattle.std.specs.Prelude.{ℕ, ◌+◌, ◌-◌, ◌%◌, ◌^◌, Bool, ◌&&◌, ◌||◌, nat_le, nat_lt, ◌==◌, if◌then◌else◌, Option, None, Some}
use Rattle.hv_ctree.specs.declared.types.IntKind.{IntKind}
use Rattle.hv_ctree.specs.declared.types.IntKind.TheVariants.{Boolean, Int}
use Rattle.hv_ctree.specs.types.Kinds.{rank, is_signed, value_count, above_values, represents, unsigned_of, promoted}
use Rattle.hv_ctree.specs.types.Plain.{PlainType, plain, integer, enumeration}

-- the integer type that a type is or is represented by: an enumeration is `int`; `None` where it is
-- no integer type
abbrev pub kind_in : PlainType → Option IntKind
kind_in (plain constant (integer kind)) = Some kind
kind_in (plain constant (enumeration number)) = Some Int
kind_in (plain constant _) = None

-- the common type of an unsigned and a signed type (6.3.1.8 paragraph 1, its last three rules)
abbrev pub usual_mixed : IntKind → IntKind → IntKind
usual_mixed unsigned signed =
    if nat_le (rank signed) (rank unsigned)
    then unsigned
    else (if represents signed unsigned then signed else unsigned_of signed)

-- the common type of two promoted types (6.3.1.8 paragraph 1)
abbrev pub usual_promoted : IntKind → IntKind → IntKind
usual_promoted a b =
    if is_signed a
    then (if is_signed b then (if nat_le (rank b) (rank a) then a else b) else usual_mixed b a)
    else (if is_signed b then usual_mixed a b else (if nat_le (rank b) (rank a) then a else b))

-- the common type of two integer types: the usual arithmetic conversions (6.3.1.8)
abbrev pub usual : IntKind → IntKind → IntKind
usual a b = usual_promoted (promoted a) (promoted b)

-- whether an integer type has the value that these bits tell
abbrev pub has : IntKind → ℕ → Bool
has kind bits =
    nat_lt bits (above_values kind)
    || (is_signed kind && nat_le (2 ^ 64 - above_values kind) bits && nat_lt bits (2 ^ 64))

-- the bits of a value of a type, by the remainder of the value modulo the number of the type's
-- values
abbrev pub extended : IntKind → ℕ → ℕ
extended kind remainder =
    if nat_lt remainder (above_values kind)
    then remainder
    else remainder + (2 ^ 64 - value_count kind)

-- a value converted to an integer type (6.3.1.2, 6.3.1.3): to `_Bool` by comparison with 0, else by
-- wrapping
abbrev pub converted : IntKind → ℕ → ℕ
converted Boolean bits = if bits == 0 then 0 else 1
converted kind bits = extended kind (bits % value_count kind)
