-- Floating constants (6.4.4.2), which the profile leaves out: whether a text is one.
-- Not in here: their values.
use Rattle.std.specs.Prelude.{ℕ, Bool, false, ◌&&◌, ◌||◌, ◌==◌, List, [], ◌∷◌}
use Rattle.std.specs.List.{list_all}
use Rattle.hv_base.specs.Ascii as ascii
use Rattle.hv_base.specs.Ascii.{is_digit, is_empty}
use Rattle.hv_toks.specs.Constants.{is_hexadecimal as is_hexadecimal_digit, is_x}
use Rattle.hv_toks.specs.Lexical.{is_sign}
use Rattle.hv_ctoks.specs.declared.floating.Base.{Base}
use Rattle.hv_ctoks.specs.declared.floating.Base.TheVariants.{Decimal, Hexadecimal}

------ parts of a text

-- a text that passes the first test, and directly after it one that passes the second
abbrev pub sequence : (first second : List ℕ → Bool) → List ℕ → Bool
sequence first second [] = first [] && second []
sequence first second (byte ∷ bytes) =
    (first [] && second (byte ∷ bytes))
    || sequence (λ prefix. first (byte ∷ prefix)) second bytes

-- nothing, or a text that passes the test
abbrev pub maybe : (List ℕ → Bool) → List ℕ → Bool
maybe part text = is_empty text || part text

-- one byte that passes the test
abbrev pub one : (ℕ → Bool) → List ℕ → Bool
one test [] = false
one test (byte ∷ bytes) = test byte && is_empty bytes

-- one or more bytes that pass the test
abbrev pub some : (ℕ → Bool) → List ℕ → Bool
some test [] = false
some test (byte ∷ bytes) = list_all test (byte ∷ bytes)

------ parts of a floating constant

-- a digit of a significand
abbrev pub is_digit_of : Base → ℕ → Bool
is_digit_of Decimal byte = is_digit byte
is_digit_of Hexadecimal byte = is_hexadecimal_digit byte

-- `.`
abbrev pub is_point : ℕ → Bool
is_point byte = byte == ascii.dot

-- the letter of an exponent part: `e` or `E`, of a hexadecimal constant `p` or `P`
abbrev pub is_exponent_letter : Base → ℕ → Bool
is_exponent_letter Decimal byte = byte == 101 || byte == 69
is_exponent_letter Hexadecimal byte = byte == 112 || byte == 80

-- a floating suffix: `f`, `l`, `F` or `L`
abbrev pub is_suffix : ℕ → Bool
is_suffix byte = byte == 102 || byte == 108 || byte == 70 || byte == 76

-- decimal digits, and perhaps a floating suffix
abbrev pub power : List ℕ → Bool
power text = sequence (some is_digit) (maybe (one is_suffix)) text

-- the same after a sign, if there is one
abbrev pub signed_power : List ℕ → Bool
signed_power text = sequence (maybe (one is_sign)) power text

-- an exponent part, and perhaps a floating suffix
abbrev pub exponent : Base → List ℕ → Bool
exponent base text = sequence (one (is_exponent_letter base)) signed_power text

-- what may stand after a fractional constant: a hexadecimal constant always has an exponent part
abbrev pub ending : Base → List ℕ → Bool
ending Decimal text = maybe (one is_suffix) text || exponent Decimal text
ending Hexadecimal text = exponent Hexadecimal text

------ floating constants

-- digits on both sides of a point or only behind it, and what may stand after them
abbrev pub with_fraction : Base → List ℕ → Bool
with_fraction base text =
    sequence (maybe (some (is_digit_of base)))
    (sequence (one is_point) (sequence (some (is_digit_of base)) (ending base))) text

-- digits only before a point, and what may stand after it
abbrev pub with_point : Base → List ℕ → Bool
with_point base text =
    sequence (some (is_digit_of base)) (sequence (one is_point) (ending base)) text

-- digits without a point: then there is an exponent part
abbrev pub without_point : Base → List ℕ → Bool
without_point base text = sequence (some (is_digit_of base)) (exponent base) text

-- a floating constant, of a hexadecimal one what stands after its `0x`
abbrev pub is_floating_of : Base → List ℕ → Bool
is_floating_of base text =
    with_fraction base text || with_point base text || without_point base text

-- `0`
abbrev pub is_zero : ℕ → Bool
is_zero byte = byte == ascii.zero_digit

-- a hexadecimal floating constant
abbrev pub is_hexadecimal : List ℕ → Bool
is_hexadecimal text =
    sequence (one is_zero) (sequence (one is_x) (is_floating_of Hexadecimal)) text

-- a floating constant
abbrev pub is_floating : List ℕ → Bool
is_floating text = is_floating_of Decimal text || is_hexadecimal text
