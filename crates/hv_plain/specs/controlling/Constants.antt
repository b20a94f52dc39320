-- What constants come to in a controlling expression, as 6.10.1 has them: all of 64 bits. What
-- their spellings say is in `hv_toks`.
-- Not in here: wide character constants and those of several characters, which are no constants.
use Rattle.std.specs.Prelude.{ℕ, ◌+◌, ◌-◌, ◌^◌, false, true, cond, nat_le, nat_lt, List, Option, Some, None, option_and_then}
use Rattle.hv_toks.specs.Constants as constants
use Rattle.hv_toks.specs.declared.constants.Integer.{Integer}
use Rattle.hv_plain.specs.declared.controlling.Operand.{Operand}
use Rattle.hv_plain.specs.controlling.Values.{operand}

-- what a decimal integer without `u` comes to, which is signed; `None` where it is too large for
-- that (6.4.4.1)
abbrev pub signed_decimal : ℕ → Option Operand
signed_decimal n = cond (nat_lt n (2 ^ 63)) (Some (operand false (Some n))) None

-- what an octal or hexadecimal integer without `u` comes to, which is of the first type that can
-- represent it (6.4.4.1)
abbrev pub signed_or_not : ℕ → Option Operand
signed_or_not n = Some (operand (nat_le (2 ^ 63) n) (Some n))

-- what an integer comes to; `None` where no type can represent it
abbrev pub operand_of : Integer → Option Operand
operand_of c =
    cond c.is_unsigned (Some (operand true (Some c.value)))
    (cond c.is_decimal (signed_decimal c.value) (signed_or_not c.value))

-- what an integer constant comes to; `None` where the text is no constant, or one that no type can
-- represent
abbrev pub integer_constant : List ℕ → Option Operand
integer_constant text = option_and_then operand_of (constants.integer text)

-- the value of a byte of type `char`, which is signed
abbrev pub char_value : ℕ → Operand
char_value byte = operand false (Some (cond (nat_lt byte 128) byte (2 ^ 64 - 256 + byte)))

-- what a character constant comes to; `None` where the text isn't one of a single character
abbrev pub char_constant : List ℕ → Option Operand
char_constant text = option_and_then (λ byte. Some (char_value byte)) (constants.char_constant text)
