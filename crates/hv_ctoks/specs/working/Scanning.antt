-- Floating constants as the code reads them: from the left, byte by byte.
use Rattle.std.specs.Prelude.{ℕ, Bool, false, cond, ◌&&◌, ◌||◌, nat_lt, List, [], ◌∷◌, drop}
use Rattle.std.specs.List.{prefix_len}
use Rattle.hv_base.specs.Ascii.{is_digit}
use Rattle.hv_toks.specs.Constants.{is_x}
use Rattle.hv_toks.specs.Lexical.{is_sign}
use Rattle.hv_ctoks.specs.declared.floating.Base.{Base}
use Rattle.hv_ctoks.specs.declared.floating.Base.TheVariants.{Decimal, Hexadecimal}
use Rattle.hv_ctoks.specs.Floating.{is_digit_of, is_exponent_letter, is_point, is_suffix, is_zero, maybe, one}

-- whether the text begins with a byte of the class
abbrev pub begins : (ℕ → Bool) → List ℕ → Bool
begins class text = nat_lt 0 (prefix_len class text)

-- the bytes after those of the class with which the text begins
abbrev pub after : (ℕ → Bool) → List ℕ → List ℕ
after class text = drop (prefix_len class text) text

-- decimal digits, and perhaps a floating suffix
abbrev pub scan_power : List ℕ → Bool
scan_power text = begins is_digit text && maybe (one is_suffix) (after is_digit text)

-- the same after a sign, if there is one
abbrev pub scan_signed_power : List ℕ → Bool
scan_signed_power [] = false
scan_signed_power (byte ∷ bytes) =
    cond (is_sign byte) (scan_power bytes) (scan_power (byte ∷ bytes))

-- an exponent part, and perhaps a floating suffix
abbrev pub scan_exponent : Base → List ℕ → Bool
scan_exponent base [] = false
scan_exponent base (byte ∷ bytes) = is_exponent_letter base byte && scan_signed_power bytes

-- what may stand after a fractional constant
abbrev pub scan_ending : Base → List ℕ → Bool
scan_ending Decimal text = maybe (one is_suffix) text || scan_exponent Decimal text
scan_ending Hexadecimal text = scan_exponent Hexadecimal text

-- what stands after a point, where `before` says whether digits stand before it
abbrev pub scan_fraction : Base → (before : Bool) → List ℕ → Bool
scan_fraction base before text =
    (before || begins (is_digit_of base) text) && scan_ending base (after (is_digit_of base) text)

-- what stands after the first digits, where `before` says whether there are some
abbrev pub scan_rest : Base → (before : Bool) → List ℕ → Bool
scan_rest base before [] = false
scan_rest base before (byte ∷ bytes) =
    cond (is_point byte) (scan_fraction base before bytes)
    (before && scan_exponent base (byte ∷ bytes))

-- a floating constant, of a hexadecimal one what stands after its `0x`
abbrev pub scan_floating : Base → List ℕ → Bool
scan_floating base text =
    scan_rest base (begins (is_digit_of base) text) (after (is_digit_of base) text)

-- the same after `x`
abbrev pub scan_x : List ℕ → Bool
scan_x [] = false
scan_x (byte ∷ bytes) = is_x byte && scan_floating Hexadecimal bytes

-- a hexadecimal floating constant
abbrev pub scan_hexadecimal : List ℕ → Bool
scan_hexadecimal [] = false
scan_hexadecimal (byte ∷ bytes) = is_zero byte && scan_x bytes
