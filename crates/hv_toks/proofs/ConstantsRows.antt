-- Small constants and what they mean.
use Rattle.std.proofs.Common.{◌≡◌, ℕ, List, [], ◌∷◌, ◌++◌, refl, Some, None}
use Rattle.std.specs.Prelude.{codes}
use Rattle.hv_base.specs.declared.token.IntType.TheVariants.{Int, UInt, Long, ULong, LongLong}
use Rattle.hv_toks.specs.Constants.{char_constant, int_constant, string_literal}

-- between double quotes
abbrev literal : List ℕ → List ℕ
literal inner = 34 ∷ (inner ++ 34 ∷ [])

-- between single quotes
abbrev constant : List ℕ → List ℕ
constant inner = 39 ∷ (inner ++ 39 ∷ [])

-- 6.4.4.1

decimal_int : int_constant (codes "2147483647") ≡ Some (2147483647, Int)
decimal_int = refl

decimal_long : int_constant (codes "2147483648") ≡ Some (2147483648, Long)
decimal_long = refl

hexadecimal : int_constant (codes "0x80000000") ≡ Some (2147483648, UInt)
hexadecimal = refl

octal : int_constant (codes "010ul") ≡ Some (8, ULong)
octal = refl

long_long : int_constant (codes "1LL") ≡ Some (1, LongLong)
long_long = refl

mixed_case : int_constant (codes "1lL") ≡ None
mixed_case = refl

-- 6.4.4.4, the examples of paragraphs 12 to 14

null : char_constant (constant (92 ∷ codes "0")) ≡ Some 0
null = refl

hexadecimal_escape : char_constant (constant (92 ∷ codes "xFF")) ≡ Some 255
hexadecimal_escape = refl

octal_escape : char_constant (constant (92 ∷ codes "23")) ≡ Some 19
octal_escape = refl

two_characters : char_constant (constant (92 ∷ codes "0223")) ≡ None
two_characters = refl

-- 6.4.5

empty : string_literal (literal []) ≡ Some []
empty = refl

hexadecimal_goes_on : string_literal (literal (92 ∷ codes "x41g")) ≡ Some (codes "Ag")
hexadecimal_goes_on = refl

octal_of_three : string_literal (literal (92 ∷ codes "1014")) ≡ Some (codes "A4")
octal_of_three = refl

other_quote : string_literal (literal (codes "'" ++ 92 ∷ 34 ∷ [])) ≡ Some (39 ∷ 34 ∷ [])
other_quote = refl

too_large : string_literal (literal (92 ∷ codes "x100")) ≡ None
too_large = refl

unknown_escape : string_literal (literal (92 ∷ codes "q")) ≡ None
unknown_escape = refl

wide : string_literal (76 ∷ literal (codes "a")) ≡ None
wide = refl

backslash_last : string_literal (literal (92 ∷ [])) ≡ None
backslash_last = refl
