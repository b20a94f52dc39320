-- How a C token is printed, by its value, so that it is read as this token (6.4).
use Rattle.std.specs.Prelude.{ℕ, ◌+◌, ◌-◌, ◌/◌, ◌%◌, ◌==◌, ◌&&◌, not, ◌≡◌, Bool, cond, List, [], ◌∷◌, ◌++◌, ℤ, pos, negsuc}
use Rattle.hv_base.specs.Ascii as ascii
use Rattle.hv_base.specs.Ascii.{is_printable}
use Rattle.hv_base.specs.Keywords as keywords
use Rattle.hv_base.specs.Puncts as puncts
use Rattle.hv_base.specs.declared.token.CTok.{CTok}
use Rattle.hv_base.specs.declared.token.CTok.TheVariants.{Keyword, Name, Int, Char, Str, Punct}
use Rattle.hv_toks.specs.Constants.{printed_int}

-- a byte as a backslash and three octal digits (6.4.4.4)
abbrev pub octal : ℕ → List ℕ
octal byte =
    ascii.backslash ∷ (ascii.zero_digit + byte / 64) ∷ (ascii.zero_digit + byte / 8 % 8)
    ∷ (ascii.zero_digit + byte % 8) ∷ []

-- whether a byte between such quotes is printed as itself: it prints, and is neither the quote
-- nor a backslash
abbrev pub is_plain : (quote : ℕ) → ℕ → Bool
is_plain quote byte =
    is_printable byte && not (byte == quote) && not (byte == ascii.backslash)

-- a byte between such quotes
abbrev pub printed_byte : (quote : ℕ) → ℕ → List ℕ
printed_byte quote byte = cond (is_plain quote byte) (byte ∷ []) (octal byte)

-- bytes between such quotes
abbrev pub printed_bytes : (quote : ℕ) → List ℕ → List ℕ
printed_bytes quote [] = []
printed_bytes quote (byte ∷ bytes) = printed_byte quote byte ++ printed_bytes quote bytes

-- bytes with quotes around them
abbrev pub quoted : (quote : ℕ) → List ℕ → List ℕ
quoted quote bytes = quote ∷ (printed_bytes quote bytes ++ quote ∷ [])

-- the byte of a `char` of this value: the value modulo 256
abbrev pub byte_of : ℤ → ℕ
byte_of (pos n) = n % 256
byte_of (negsuc n) = 255 - n % 256

-- the spelling of a C token
abbrev pub spelling : CTok → List ℕ
spelling (Keyword word) = keywords.spelling_of word
spelling (Name text) = text
spelling (Int value kind) = printed_int value kind
spelling (Char value) = quoted ascii.apostrophe (byte_of value ∷ [])
spelling (Str bytes) = quoted ascii.quote bytes
spelling (Punct sign) = puncts.spelling_of sign

-- a text was to go behind `before`, and a part of it from its beginning did
pub record IsCutOff (before text now : List ℕ) : Type 0 where
  pub part : List ℕ
  pub rest : List ℕ
  pub whole : text ≡ part ++ rest
  pub there : now ≡ before ++ part
