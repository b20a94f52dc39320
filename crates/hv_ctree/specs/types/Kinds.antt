-- The integer types: sizes, signs, ranks, and what each can represent (6.2.5, 6.2.6.2, 6.3.1.1).
-- SAME: integer kinds
use Rattle.std.specs.Prelude.{ℕ, ◌/◌, ◌^◌, Bool, true, false, ◌&&◌, ◌||◌, nat_le, ◌==◌, if◌then◌else◌, not}
use Rattle.hv_base.specs.declared.token.IntType.{IntType}
use Rattle.hv_base.specs.declared.token.IntType.TheVariants as constants
use Rattle.hv_ctree.specs.declared.types.IntKind.{IntKind}
use Rattle.hv_ctree.specs.declared.types.IntKind.TheVariants.{Boolean, Char, SignedChar, UnsignedChar, Short, UnsignedShort, Int, UnsignedInt, Long, UnsignedLong, LongLong, UnsignedLongLong}

-- the place of an integer type in the list of them, which tells it from the others
abbrev pub kind_number : IntKind → ℕ
kind_number Boolean = 0
kind_number Char = 1
kind_number SignedChar = 2
kind_number UnsignedChar = 3
kind_number Short = 4
kind_number UnsignedShort = 5
kind_number Int = 6
kind_number UnsignedInt = 7
kind_number Long = 8
kind_number UnsignedLong = 9
kind_number LongLong = 10
kind_number UnsignedLongLong = 11

-- whether two integer types are one
abbrev pub same_kind : IntKind → IntKind → Bool
same_kind a b = kind_number a == kind_number b

-- the bytes of an integer type, which are its alignment too
abbrev pub kind_size : IntKind → ℕ
kind_size Boolean = 1
kind_size Char = 1
kind_size SignedChar = 1
kind_size UnsignedChar = 1
kind_size Short = 2
kind_size UnsignedShort = 2
kind_size Int = 4
kind_size UnsignedInt = 4
kind_size Long = 8
kind_size UnsignedLong = 8
kind_size LongLong = 8
kind_size UnsignedLongLong = 8

-- whether an integer type is signed; `char` is (6.2.5 paragraph 15)
abbrev pub is_signed : IntKind → Bool
is_signed Boolean = false
is_signed Char = true
is_signed SignedChar = true
is_signed UnsignedChar = false
is_signed Short = true
is_signed UnsignedShort = false
is_signed Int = true
is_signed UnsignedInt = false
is_signed Long = true
is_signed UnsignedLong = false
is_signed LongLong = true
is_signed UnsignedLongLong = false

-- the rank of an integer type (6.3.1.1 paragraph 1)
abbrev pub rank : IntKind → ℕ
rank Boolean = 0
rank Char = 1
rank SignedChar = 1
rank UnsignedChar = 1
rank Short = 2
rank UnsignedShort = 2
rank Int = 3
rank UnsignedInt = 3
rank Long = 4
rank UnsignedLong = 4
rank LongLong = 5
rank UnsignedLongLong = 5

-- the number of values of an integer type (6.2.6.2); `_Bool` has 0 and 1
abbrev pub value_count : IntKind → ℕ
value_count Boolean = 2
value_count Char = 2 ^ 8
value_count SignedChar = 2 ^ 8
value_count UnsignedChar = 2 ^ 8
value_count Short = 2 ^ 16
value_count UnsignedShort = 2 ^ 16
value_count Int = 2 ^ 32
value_count UnsignedInt = 2 ^ 32
value_count Long = 2 ^ 64
value_count UnsignedLong = 2 ^ 64
value_count LongLong = 2 ^ 64
value_count UnsignedLongLong = 2 ^ 64

-- the unsigned type that corresponds to a signed one (6.2.5 paragraph 6)
abbrev pub unsigned_of : IntKind → IntKind
unsigned_of Boolean = Boolean
unsigned_of Char = UnsignedChar
unsigned_of SignedChar = UnsignedChar
unsigned_of UnsignedChar = UnsignedChar
unsigned_of Short = UnsignedShort
unsigned_of UnsignedShort = UnsignedShort
unsigned_of Int = UnsignedInt
unsigned_of UnsignedInt = UnsignedInt
unsigned_of Long = UnsignedLong
unsigned_of UnsignedLong = UnsignedLong
unsigned_of LongLong = UnsignedLongLong
unsigned_of UnsignedLongLong = UnsignedLongLong

-- one more than the largest value of an integer type: half of the values of a signed one are
-- negative
abbrev pub above_values : IntKind → ℕ
above_values kind = if is_signed kind then value_count kind / 2 else value_count kind

-- whether the first type can represent all values of the second
abbrev pub represents : IntKind → IntKind → Bool
represents wide narrow =
    nat_le (above_values narrow) (above_values wide) && (is_signed wide || not (is_signed narrow))

-- what an integer type is promoted to (6.3.1.1 paragraph 2)
abbrev pub promoted : IntKind → IntKind
promoted kind =
    if nat_le (rank kind) (rank Int)
    then (if represents Int kind then Int else UnsignedInt)
    else kind

-- the integer type of a constant
abbrev pub kind_of_constant : IntType → IntKind
kind_of_constant constants.Int = Int
kind_of_constant constants.UInt = UnsignedInt
kind_of_constant constants.Long = Long
kind_of_constant constants.ULong = UnsignedLong
kind_of_constant constants.LongLong = LongLong
kind_of_constant constants.ULongLong = UnsignedLongLong
