-- What constants mean: integer constants (6.4.4.1), character constants (6.4.4.4) and string
-- literals (6.4.5).
-- Read `integer` and `type_of`, then `char_constant`, then `string_literal`, each with what stands
-- before it.
-- Not in here: floating constants, wide ones, and character constants of several characters.
use Rattle.std.specs.Prelude.{ℕ, zero, suc, ◌+◌, ◌-◌, ◌*◌, ◌^◌, Bool, true, false, cond, ◌&&◌, ◌||◌, ◌==◌, nat_le, nat_lt, min, List, [], ◌∷◌, ◌++◌, codes, Option, Some, None, option_and_then, take, drop, length, slice_index, find}
use Rattle.std.specs.List.{list_any, position_or_len, prefix_len}
use Rattle.std.specs.Fmt.{decimal}
use Rattle.std.specs.Str.{bytes_eq}
use Rattle.hv_base.specs.Ascii as ascii
use Rattle.hv_base.specs.declared.token.IntType.{IntType}
use Rattle.hv_base.specs.declared.token.IntType.TheVariants.{Int as IntKind, UInt, Long as LongKind, ULong, LongLong as LongLongKind, ULongLong}
use Rattle.hv_toks.specs.declared.constants.Integer.{Integer}
use Rattle.hv_toks.specs.declared.constants.Numeral.{Numeral}
use Rattle.hv_toks.specs.declared.constants.Rank.{Rank}
use Rattle.hv_toks.specs.declared.constants.Rank.TheVariants.{Int, Long, LongLong}
use Rattle.hv_toks.specs.declared.constants.Suffix.{Suffix}

------ integer constants

-- the value of a digit; 16 where the byte is none
abbrev pub digit : ℕ → ℕ
digit byte =
    cond (nat_le 48 byte && nat_le byte 57) (byte - 48)
    (cond (nat_le 97 byte && nat_le byte 102) (byte - 87)
    (cond (nat_le 65 byte && nat_le byte 70) (byte - 55) 16))

-- the number that these digits continue; none where one is no digit of the base, or the number
-- needs more than 64 bits
abbrev pub continued : (base number : ℕ) → List ℕ → Option ℕ
continued base number [] = Some number
continued base number (byte ∷ bytes) =
    cond (nat_lt (digit byte) base && nat_lt (number * base + digit byte) (2 ^ 64))
    (continued base (number * base + digit byte) bytes) None

-- the number of one or more digits; none where there is no digit, or as above
abbrev pub number : (base : ℕ) → List ℕ → Option ℕ
number base [] = None
number base (byte ∷ bytes) = continued base 0 (byte ∷ bytes)

-- `x` or `X`
abbrev pub is_x : ℕ → Bool
is_x byte = byte == 120 || byte == 88

-- the number that a leading zero and these bytes write, octal or hexadecimal; the zero itself is an
-- octal digit
abbrev pub after_zero : List ℕ → Option ℕ
after_zero [] = Some 0
after_zero (byte ∷ bytes) = cond (is_x byte) (number 16 bytes) (number 8 (byte ∷ bytes))

-- a number, where there is one, as the digits of a constant
abbrev pub as_numeral : (is_decimal : Bool) → Option ℕ → Option Numeral
as_numeral is_decimal None = None
as_numeral is_decimal (Some n) = Some (record { is_decimal = is_decimal; value = n })

-- a constant without its suffix; none where the text is none, or the number needs more than 64 bits
abbrev pub numeral : List ℕ → Option Numeral
numeral [] = None
numeral (byte ∷ bytes) = cond (byte == ascii.zero_digit) (as_numeral false (after_zero bytes))
    (as_numeral true (number 10 (byte ∷ bytes)))

-- the suffixes without `u`, by their rank
abbrev pub signed_suffixes : Rank → List (List ℕ)
signed_suffixes Int = codes "" ∷ []
signed_suffixes Long = codes "l" ∷ codes "L" ∷ []
signed_suffixes LongLong = codes "ll" ∷ codes "LL" ∷ []

-- the suffixes with `u`, by their rank
abbrev pub unsigned_suffixes : Rank → List (List ℕ)
unsigned_suffixes Int = codes "u" ∷ codes "U" ∷ []
unsigned_suffixes Long = codes "ul" ∷ codes "uL" ∷ codes "Ul" ∷ codes "UL" ∷ codes "lu"
    ∷ codes "lU" ∷ codes "Lu" ∷ codes "LU" ∷ []
unsigned_suffixes LongLong =
    codes "ull" ∷ codes "uLL" ∷ codes "Ull" ∷ codes "ULL" ∷ codes "llu" ∷ codes "llU"
    ∷ codes "LLu" ∷ codes "LLU" ∷ []

-- the rank whose suffixes have this text; none where no rank's do
abbrev pub rank_among : (Rank → List (List ℕ)) → List ℕ → Option Rank
rank_among suffixes text =
    find (λ rank. list_any (bytes_eq text) (suffixes rank)) (Int ∷ Long ∷ LongLong ∷ [])

-- a suffix without `u` of this rank, where there is one
abbrev pub signed_suffix : Option Rank → Option Suffix
signed_suffix None = None
signed_suffix (Some rank) = Some (record { is_unsigned = false; rank = rank })

-- a suffix with `u` of this rank, where there is one, or else this one
abbrev pub unsigned_suffix_or : Option Rank → Option Suffix → Option Suffix
unsigned_suffix_or None otherwise = otherwise
unsigned_suffix_or (Some rank) otherwise = Some (record { is_unsigned = true; rank = rank })

-- what a suffix says; none where the text is none
abbrev pub suffix : List ℕ → Option Suffix
suffix text = unsigned_suffix_or (rank_among unsigned_suffixes text)
    (signed_suffix (rank_among signed_suffixes text))

-- a letter that suffixes are made of
abbrev pub is_suffix_letter : ℕ → Bool
is_suffix_letter byte = byte == 117 || byte == 85 || byte == 108 || byte == 76

-- how many bytes stand before the suffix
abbrev pub unsuffixed_len : List ℕ → ℕ
unsuffixed_len text = position_or_len is_suffix_letter text

-- digits with a suffix
abbrev pub joined : Suffix → Numeral → Option Integer
joined s n = Some (record {
  is_decimal = n.is_decimal;
  value = n.value;
  is_unsigned =
      s.is_unsigned;
  rank = s.rank;
})

-- what an integer constant says; none where the text is none, or needs more than 64 bits
abbrev pub integer : List ℕ → Option Integer
integer text =
    option_and_then (λ letters. option_and_then (joined letters)
    (numeral (take (unsuffixed_len text) text))) (suffix (drop (unsuffixed_len text) text))

-- how many values from 0 on a type has: its greatest value and one more (`int` of 32 bits, `long`
-- and `long long` of 64)
abbrev pub limit : IntType → ℕ
limit IntKind = 2 ^ 31
limit UInt = 2 ^ 32
limit LongKind = 2 ^ 63
limit ULong = 2 ^ 64
limit LongLongKind = 2 ^ 63
limit ULongLong = 2 ^ 64

-- the types of the table of 6.4.4.1, paragraph 5, for constants without `u`
abbrev pub signed_types : (is_decimal : Bool) → Rank → List IntType
signed_types true Int = IntKind ∷ LongKind ∷ LongLongKind ∷ []
signed_types true Long = LongKind ∷ LongLongKind ∷ []
signed_types true LongLong = LongLongKind ∷ []
signed_types false Int = IntKind ∷ UInt ∷ LongKind ∷ ULong ∷ LongLongKind ∷ ULongLong ∷ []
signed_types false Long = LongKind ∷ ULong ∷ LongLongKind ∷ ULongLong ∷ []
signed_types false LongLong = LongLongKind ∷ ULongLong ∷ []

-- and for those with `u`
abbrev pub unsigned_types : Rank → List IntType
unsigned_types Int = UInt ∷ ULong ∷ ULongLong ∷ []
unsigned_types Long = ULong ∷ ULongLong ∷ []
unsigned_types LongLong = ULongLong ∷ []

-- both
abbrev pub types : Integer → List IntType
types c = cond c.is_unsigned (unsigned_types c.rank) (signed_types c.is_decimal c.rank)

-- the type of an integer constant: the first of the table's that can represent its value; none
-- where none can
abbrev pub type_of : Integer → Option IntType
type_of c = find (λ kind. nat_lt c.value (limit kind)) (types c)

-- its value and its type, where it has one
abbrev pub typed : Integer → Option (ℕ × IntType)
typed c = option_and_then (λ kind. Some (c.value, kind)) (type_of c)

-- the value and the type of an integer constant; none where the text is none, or no type can
-- represent it
abbrev pub int_constant : List ℕ → Option (ℕ × IntType)
int_constant text = option_and_then typed (integer text)

-- the suffix of a constant that is printed with a type
abbrev pub printed_suffix : IntType → List ℕ
printed_suffix IntKind = codes ""
printed_suffix UInt = codes "U"
printed_suffix LongKind = codes "L"
printed_suffix ULong = codes "UL"
printed_suffix LongLongKind = codes "LL"
printed_suffix ULongLong = codes "ULL"

-- a constant of this value and type as it is printed: in decimal, without leading zeros
abbrev pub printed_int : ℕ → IntType → List ℕ
printed_int n kind = decimal n ++ printed_suffix kind

------ character constants

-- simple escape sequences: `'`, `"`, `?`, `\`, and `a`, `b`, `f`, `n`, `r`, `t`, `v`; none where
-- the byte is no such letter
abbrev pub simple_escape : ℕ → Option ℕ
simple_escape byte =
    cond (byte == ascii.apostrophe || byte == ascii.quote || byte == 63
    || byte == ascii.backslash) (Some byte)
    (cond (byte == 97) (Some 7)
    (cond (byte == 98) (Some 8)
    (cond (byte == 102) (Some 12)
    (cond (byte == 110) (Some 10)
    (cond (byte == 114) (Some 13)
    (cond (byte == 116) (Some 9)
    (cond (byte == 118) (Some 11) None)))))))

-- a simple escape, or one to three octal digits; none where the text is neither
abbrev pub simple_or_octal : List ℕ → Option ℕ
simple_or_octal (byte ∷ []) = cond (nat_lt (digit byte) 8) (Some (digit byte)) (simple_escape byte)
simple_or_octal text = cond (nat_le (length text) 3) (number 8 text) None

-- the value of an escape sequence, without its backslash; none where the text is none
abbrev pub escape : List ℕ → Option ℕ
escape [] = None
escape (byte ∷ bytes) = cond (byte == 120) (number 16 bytes) (simple_or_octal (byte ∷ bytes))

-- a value up to 255; none where it is greater
abbrev pub as_byte : ℕ → Option ℕ
as_byte n = cond (nat_lt n 256) (Some n) None

-- the byte that one character between quotes means: any but the quote, a backslash and a newline,
-- or an escape sequence; none where the text is no such character
abbrev pub character : (quote : ℕ) → List ℕ → Option ℕ
character quote [] = None
character quote (byte ∷ bytes) =
    cond (byte == ascii.backslash) (option_and_then as_byte (escape bytes))
    (cond (byte == quote || byte == ascii.newline || nat_lt 0 (length bytes)) None (Some byte))

-- the byte of a character constant, whose value is that of a `char` with this byte; none where the
-- text is none of one character
abbrev pub char_constant : List ℕ → Option ℕ
char_constant [] = None
char_constant (byte ∷ bytes) =
    cond (byte == ascii.apostrophe && nat_lt 0 (length bytes) && slice_index bytes
    (length bytes - 1) == ascii.apostrophe)
    (character ascii.apostrophe (take (length bytes - 1) bytes)) None

------ string literals

-- an octal digit
abbrev pub is_octal : ℕ → Bool
is_octal byte = nat_lt (digit byte) 8

-- a hexadecimal digit
abbrev pub is_hexadecimal : ℕ → Bool
is_hexadecimal byte = nat_lt (digit byte) 16

-- how many bytes go with a backslash that stands before this text: `x` and all hexadecimal digits
-- after it, or up to three octal digits, or one byte (6.4.4.4, paragraph 7)
abbrev pub escape_len : List ℕ → ℕ
escape_len [] = 0
escape_len (byte ∷ bytes) =
    cond (byte == 120) (1 + prefix_len is_hexadecimal bytes)
    (cond (is_octal byte) (min 3 (prefix_len is_octal (byte ∷ bytes))) 1)

-- how many bytes the first character of a literal has after its first byte
abbrev pub more_len : List ℕ → ℕ
more_len [] = 0
more_len (byte ∷ bytes) = cond (byte == ascii.backslash) (escape_len bytes) 0

-- a byte before others, where both are there
abbrev pub before_all : Option ℕ → Option (List ℕ) → Option (List ℕ)
before_all byte bytes = option_and_then (λ b. option_and_then (λ bs. Some (b ∷ bs)) bytes) byte

-- the bytes that the characters of a literal mean, of which the first `taken` bytes belong to a
-- character before; none where one is no character
abbrev pub characters : (quote taken : ℕ) → List ℕ → Option (List ℕ)
characters quote taken [] = Some []
characters quote (suc taken) (byte ∷ bytes) = characters quote taken bytes
characters quote zero (byte ∷ bytes) =
    before_all (character quote (take (1 + more_len (byte ∷ bytes)) (byte ∷ bytes)))
    (characters quote (more_len (byte ∷ bytes)) bytes)

-- the bytes of a string literal, without the zero at its end; none where the text is none, or a
-- wide one
abbrev pub string_literal : List ℕ → Option (List ℕ)
string_literal [] = None
string_literal (byte ∷ bytes) =
    cond (byte == ascii.quote && nat_lt 0 (length bytes) && slice_index bytes
    (length bytes - 1) == ascii.quote)
    (characters ascii.quote 0 (take (length bytes - 1) bytes)) None
