-- The values of expressions (6.5.3 to 6.5.15), as 6.10.1 has them: of 64 bits, signed or unsigned.
-- The value of a signed operand is that of its bits in two's complement; signed results wrap.
use Rattle.std.specs.Prelude.{ℕ, ◌+◌, ◌-◌, ◌*◌, ◌/◌, ◌%◌, ◌^◌, Bool, true, false, cond, not, ◌||◌, nat_eq, nat_lt, Option, Some, None, option_and_then, ℤ, int_lt, int_div, int_rem, bit_and, bit_or, bit_xor}
use Rattle.std.specs.Int.{cast_signed, cast_unsigned, int_shr, bit_not, w64}
use Rattle.hv_plain.specs.declared.controlling.Operand.{Operand}
use Rattle.hv_base.specs.declared.operator.BinaryOperator.{BinaryOperator}
use Rattle.hv_base.specs.declared.operator.BinaryOperator.TheVariants.{Multiply, Divide, Remainder, Add, Subtract, ShiftLeft, ShiftRight, Less, Greater, LessEqual, GreaterEqual, Equal, NotEqual, And, ExclusiveOr, Or, LogicalAnd, LogicalOr}
use Rattle.hv_plain.specs.declared.controlling.Unary.{Unary}
use Rattle.hv_plain.specs.declared.controlling.Unary.TheVariants.{Plus, Minus, Complement, Not}

-- what an expression comes to: its bits, or `None` where evaluating it has no value, and its
-- signedness, which it has in either case
abbrev pub operand : Bool → Option ℕ → Operand
operand is_unsigned bits = record { is_unsigned = is_unsigned; bits = bits }

-- 1 for what is true, 0 for what isn't (6.5.8)
abbrev pub bit_of : Bool → ℕ
bit_of truth = cond truth 1 0

-- whether a number is true (6.5.3.3)
abbrev pub is_nonzero : ℕ → Bool
is_nonzero bits = not (nat_eq bits 0)

-- the signed number that these bits mean
abbrev pub signed : ℕ → ℤ
signed bits = cast_signed w64 bits

-- whether a number is less than another, as unsigned or as signed ones (6.5.8)
abbrev pub less : Bool → ℕ → ℕ → Bool
less is_unsigned x y = cond is_unsigned (nat_lt x y) (int_lt (signed x) (signed y))

-- `/`; `None` where the divisor is zero. The least signed value divided by -1 wraps (6.5.5)
abbrev pub quotient : Bool → ℕ → ℕ → Option ℕ
quotient is_unsigned x y =
    cond (nat_eq y 0) None
    (Some (cond is_unsigned (x / y) (cast_unsigned w64 (int_div (signed x) (signed y)))))

-- `%`; `None` where the divisor is zero (6.5.5)
abbrev pub remainder : Bool → ℕ → ℕ → Option ℕ
remainder is_unsigned x y =
    cond (nat_eq y 0) None
    (Some (cond is_unsigned (x % y) (cast_unsigned w64 (int_rem (signed x) (signed y)))))

-- `<<`; `None` where the amount is at least 64 or negative: the bits of a negative one, as a
-- number, are above 63 too (6.5.7)
abbrev pub left_shifted : ℕ → ℕ → Option ℕ
left_shifted x y = cond (nat_lt y 64) (Some ((x * 2 ^ y) % 2 ^ 64)) None

-- `>>`, likewise; that of a negative number copies the sign
abbrev pub right_shifted : Bool → ℕ → ℕ → Option ℕ
right_shifted is_unsigned x y =
    cond (nat_lt y 64)
    (Some (cond is_unsigned (x / 2 ^ y) (cast_unsigned w64 (int_shr (signed x) y)))) None

-- the bits that an operator gives, whose operands were converted to a common type that is unsigned
-- or not; of a shift, to its left operand's type. `&&` and `||` come below
abbrev pub bits_of : BinaryOperator → Bool → ℕ → ℕ → Option ℕ
bits_of Multiply u x y = Some ((x * y) % 2 ^ 64)
bits_of Divide u x y = quotient u x y
bits_of Remainder u x y = remainder u x y
bits_of Add u x y = Some ((x + y) % 2 ^ 64)
bits_of Subtract u x y = Some ((x + (2 ^ 64 - y)) % 2 ^ 64)
bits_of ShiftLeft u x y = left_shifted x y
bits_of ShiftRight u x y = right_shifted u x y
bits_of Less u x y = Some (bit_of (less u x y))
bits_of Greater u x y = Some (bit_of (less u y x))
bits_of LessEqual u x y = Some (bit_of (not (less u y x)))
bits_of GreaterEqual u x y = Some (bit_of (not (less u x y)))
bits_of Equal u x y = Some (bit_of (nat_eq x y))
bits_of NotEqual u x y = Some (bit_of (not (nat_eq x y)))
bits_of And u x y = Some (bit_and x y)
bits_of ExclusiveOr u x y = Some (bit_xor x y)
bits_of Or u x y = Some (bit_or x y)
bits_of LogicalAnd u x y = None
bits_of LogicalOr u x y = None

-- the common type of two operands is unsigned if one of them is (6.3.1.8)
abbrev pub common : Operand → Operand → Bool
common a b = a.is_unsigned || b.is_unsigned

-- whether the operator's operands are converted to an unsigned type
abbrev pub is_unsigned_at : BinaryOperator → Operand → Operand → Bool
is_unsigned_at ShiftLeft a b = a.is_unsigned
is_unsigned_at ShiftRight a b = a.is_unsigned
is_unsigned_at _ a b = common a b

-- whether the operator is a comparison, `&&` or `||`, which give signed results
abbrev pub is_truth : BinaryOperator → Bool
is_truth Less = true
is_truth Greater = true
is_truth LessEqual = true
is_truth GreaterEqual = true
is_truth Equal = true
is_truth NotEqual = true
is_truth LogicalAnd = true
is_truth LogicalOr = true
is_truth _ = false

-- the bits of an operator that evaluates both operands; `None` where one of them has no value
abbrev pub both : BinaryOperator → Operand → Operand → Option ℕ
both op a b =
    option_and_then
    (λ x. option_and_then (λ y. bits_of op (is_unsigned_at op a b) x y) b.bits) a.bits

-- the bits of `c ? a : b` by those of each: only one of a and b is evaluated
abbrev pub chosen : Option ℕ → Option ℕ → Option ℕ → Option ℕ
chosen c a b = option_and_then (λ x. cond (nat_eq x 0) b a) c

-- 1 for bits of a number that is true, 0 for those of zero
abbrev pub truth : Option ℕ → Option ℕ
truth bits = option_and_then (λ x. Some (bit_of (is_nonzero x))) bits

-- the bits of a binary operator: the right operand of `&&` is evaluated only where the left one is
-- not zero (6.5.13), that of `||` only where it is (6.5.14)
abbrev pub binary_bits : BinaryOperator → Operand → Operand → Option ℕ
binary_bits LogicalAnd a b = chosen a.bits (truth b.bits) (Some 0)
binary_bits LogicalOr a b = chosen a.bits (Some 1) (truth b.bits)
binary_bits op a b = both op a b

-- the value of a binary operator
abbrev pub binary_value : BinaryOperator → Operand → Operand → Operand
binary_value op a b =
    operand (cond (is_truth op) false (is_unsigned_at op a b)) (binary_bits op a b)

-- the bits that a unary operator gives
abbrev pub unary_bits : Unary → ℕ → ℕ
unary_bits Plus x = x
unary_bits Minus x = (2 ^ 64 - x) % 2 ^ 64
unary_bits Complement x = bit_not w64 x
unary_bits Not x = bit_of (nat_eq x 0)

-- whether the operator is `!`, which gives a signed result
abbrev pub is_not : Unary → Bool
is_not Not = true
is_not _ = false

-- the value of a unary operator
abbrev pub unary_value : Unary → Operand → Operand
unary_value op a =
    operand (cond (is_not op) false a.is_unsigned)
    (option_and_then (λ x. Some (unary_bits op x)) a.bits)

-- the value of `c ? a : b`, which has the common type of a and b, evaluated or not (6.5.15)
abbrev pub conditional_value : Operand → Operand → Operand → Operand
conditional_value c a b = operand (common a b) (chosen c.bits a.bits b.bits)
