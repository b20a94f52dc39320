-- Constants, values and a derivation.
use Rattle.std.proofs.Common.{◌≡◌, ℕ, ◌-◌, ◌^◌, true, false, [], ◌∷◌, refl, Some, None}
use Rattle.std.specs.Prelude.{codes}
use Rattle.hv_plain.specs.controlling.Constants.{integer_constant, char_constant}
use Rattle.hv_plain.specs.controlling.Grammar.{number, binary, conditional, Derives, a_number, a_binary, a_higher, truth, value}
use Rattle.hv_plain.specs.controlling.Symbols.{punctuator}
use Rattle.hv_plain.specs.controlling.Values.{operand}
use Rattle.hv_plain.specs.declared.controlling.Operand.{Operand}
use Rattle.hv_base.specs.declared.operator.BinaryOperator.TheVariants.{Divide, Subtract, ShiftLeft, ShiftRight, Greater, LessEqual, LogicalOr}
use Rattle.hv_plain.specs.declared.controlling.Symbol.TheVariants.{Number, Operator, Other}

abbrev int : ℕ → Operand
int n = operand false (Some n)

abbrev minus : ℕ → Operand
minus n = operand false (Some (2 ^ 64 - n))

abbrev unsigned : ℕ → Operand
unsigned n = operand true (Some n)

signed_hexadecimal : integer_constant (codes "0xffffffff") ≡ Some (int 4294967295)
signed_hexadecimal = refl

unsigned_hexadecimal : integer_constant (codes "0X8000000000000000LL") ≡ Some (unsigned (2 ^ 63))
unsigned_hexadecimal = refl

large_decimal : integer_constant (codes "9223372036854775808") ≡ None
large_decimal = refl

large_unsigned : integer_constant (codes "18446744073709551615uLL") ≡ Some (unsigned (2 ^ 64 - 1))
large_unsigned = refl

too_large : integer_constant (codes "18446744073709551616u") ≡ None
too_large = refl

octal : integer_constant (codes "017L") ≡ Some (int 15)
octal = refl

zero_ : integer_constant (codes "0u") ≡ Some (unsigned 0)
zero_ = refl

no_octal : integer_constant (codes "08") ≡ None
no_octal = refl

mixed_case : integer_constant (codes "1lL") ≡ None
mixed_case = refl

floating : integer_constant (codes "1.0") ≡ None
floating = refl

-- 'a', '\377', '\x80', '\0' and ''
letter : char_constant (39 ∷ 97 ∷ 39 ∷ []) ≡ Some (int 97)
letter = refl

octal_escape : char_constant (39 ∷ 92 ∷ 51 ∷ 55 ∷ 55 ∷ 39 ∷ []) ≡ Some (minus 1)
octal_escape = refl

hexadecimal_escape : char_constant (39 ∷ 92 ∷ 120 ∷ 56 ∷ 48 ∷ 39 ∷ []) ≡ Some (minus 128)
hexadecimal_escape = refl

null_escape : char_constant (39 ∷ 92 ∷ 48 ∷ 39 ∷ []) ≡ Some (int 0)
null_escape = refl

empty : char_constant (39 ∷ 39 ∷ []) ≡ None
empty = refl

less_equal : punctuator (codes "<=") ≡ Operator LessEqual
less_equal = refl

assignment : punctuator (codes "<<=") ≡ Other
assignment = refl

-- 1 || 1 / 0
short : truth (binary LogicalOr (number (int 1)) (binary Divide (number (int 1)) (number (int 0))))
    ≡ Some true
short = refl

by_zero : truth (binary Divide (number (int 1)) (number (int 0))) ≡ None
by_zero = refl

too_far : truth (binary ShiftLeft (number (int 1)) (number (int 64))) ≡ None
too_far = refl

-- -1 > 0u
converted : truth (binary Greater (number (minus 1)) (number (unsigned 0))) ≡ Some true
converted = refl

towards_zero : value (binary Divide (number (minus 7)) (number (int 2))) ≡ minus 3
towards_zero = refl

wraps : value (binary Divide (number (minus (2 ^ 63))) (number (minus 1))) ≡ minus (2 ^ 63)
wraps = refl

sign_copied : value (binary ShiftRight (number (minus 5)) (number (int 1))) ≡ minus 3
sign_copied = refl

-- 1 ? -1 : 1 / 0u has the type of both arms
both_arms : value (conditional (number (int 1)) (number (minus 1))
    (binary Divide (number (int 1)) (number (unsigned 0)))) ≡ unsigned (2 ^ 64 - 1)
both_arms = refl

-- 3 - 2 - 1 groups to the left
grouped : Derives 9 (Number (int 3) ∷ Operator Subtract ∷ Number (int 2) ∷ Operator Subtract ∷
    Number (int 1) ∷ [])
    (binary Subtract (binary Subtract (number (int 3)) (number (int 2))) (number (int 1)))
grouped =
    a_binary {ts = Number (int 3) ∷ Operator Subtract ∷ Number (int 2) ∷ []} Subtract
    (a_binary {ts = Number (int 3) ∷ []} Subtract (a_higher (a_higher (a_number (int 3))))
    (a_higher (a_number (int 2)))) (a_higher (a_number (int 1)))
