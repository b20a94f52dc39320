-- An integer constant that is printed is read back with its value and its type.
use Rattle.std.proofs.Common.{◌≡◌, ℕ, zero, suc, ◌+◌, ◌-◌, ◌*◌, ◌^◌, ◌<◌, ◌≤◌, ◌&&◌, Bool, true, false, cond, List, [], ◌∷◌, ◌++◌, refl, sym, ◌∙◌, ap, length, take, drop, get_or, Option, Some, None, arith}
use Rattle.std.specs.Prelude.{nat_lt, nat_le, ◌==◌, not, option_and_then}
use Rattle.std.specs.Fmt.{decimal}
use Rattle.std.specs.List.{prefix_len}
use Rattle.std.specs.Str.Parse.{AllDigits, digits_value_after}
use Rattle.std.specs.Char.{digit_value}
use Rattle.std.proofs.Math.Seq.{take-append_seam, drop-append_seam}
use Rattle.std.proofs.lemmas.Bool.Decides.{nat_tests}
use Rattle.std.proofs.lemmas.Fmt.{decimal_digit, decimal_is_IsNumeral, first_decimal}
use Rattle.std.proofs.lemmas.Str.{digit_value_digit}
use Rattle.std.proofs.lemmas.Str.Parse.{digit_from_value}
use Rattle.hv_base.specs.declared.token.IntType.{IntType}
use Rattle.hv_base.specs.declared.token.IntType.TheVariants.{Int as IntKind, UInt, Long as LongKind, ULong, LongLong as LongLongKind, ULongLong}
use Rattle.hv_toks.specs.declared.constants.Integer.{Integer}
use Rattle.hv_toks.specs.declared.constants.Numeral.{Numeral}
use Rattle.hv_toks.specs.declared.constants.Rank.{Rank}
use Rattle.hv_toks.specs.declared.constants.Rank.TheVariants.{Int, Long, LongLong}
use Rattle.hv_toks.specs.declared.constants.Suffix.{Suffix}
use Rattle.hv_toks.specs.Constants.{continued, digit, int_constant, integer, is_suffix_letter, joined, limit, number, numeral, printed_int, printed_suffix, suffix, typed, unsuffixed_len}

------ digits

digit_in : (c : ℕ) → 48 ≤ c → c ≤ 57 → digit c ≡ c - 48
digit_in c low high = grind (arith, nat_tests)

no_letter : (c : ℕ) → 48 ≤ c → c ≤ 57 → is_suffix_letter c ≡ false
no_letter c low high = grind (arith, nat_tests)

less : (a b : ℕ) → a < b → nat_lt a b ≡ true
less a b h = grind (arith, nat_tests)

grows : (n : ℕ) (ds : List ℕ) → n ≤ digits_value_after 10 n ds
grows n [] = omega arith
grows n (c ∷ cs) = omega (arith, grows (n * 10 + digit_value c) cs)

digits_continue : (n : ℕ) (ds : List ℕ) → AllDigits 10 ds → digits_value_after 10 n ds < 2 ^ 64
    → continued 10 n ds ≡ Some (digits_value_after 10 n ds)
digits_continue n [] d small = refl
digits_continue n (c ∷ cs) d small =
    let k = digit_from_value c d.0 in
    let v : digit c ≡ digit_value c = omega (arith, digit_in c k.0 k.1, digit_value_digit c k) in
    let fits : nat_lt (n * 10 + digit_value c) (2 ^ 64) ≡ true =
    less _ _ (omega (arith, grows (n * 10 + digit_value c) cs)) in
    let one : nat_lt (digit_value c) 10 ≡ true = less _ _ d.0 in
    rw (v, one, fits) (digits_continue (n * 10 + digit_value c) cs d.1 small)

------ where the suffix begins

digits_len : (ds rest : List ℕ) → AllDigits 10 ds → unsuffixed_len rest ≡ 0
    → unsuffixed_len (ds ++ rest) ≡ length ds
digits_len [] rest d e = e
digits_len (c ∷ cs) rest d e =
    let k = digit_from_value c d.0 in
    rw (no_letter c k.0 k.1) (let more = digits_len cs rest d.1 e in omega arith)

------ the digits of a printed number

-- whether a printed number is decimal: `0` is octal
abbrev pub is_decimal : ℕ → Bool
is_decimal zero = false
is_decimal (suc n) = true

numeral_of : (n : ℕ) (ds : List ℕ) → AllDigits 10 ds → 48 < get_or ds 0 0
    → digits_value_after 10 0 ds ≡ n → n < 2 ^ 64
    → numeral ds ≡ Some (record { is_decimal = true; value = n })
numeral_of n [] d lead e small = absurd (omega arith)
numeral_of n (c ∷ cs) d lead e small =
    let no : (c == 48) ≡ false = grind (arith, nat_tests) in
    let read : continued 10 0 (c ∷ cs) ≡ Some n = digits_continue 0 (c ∷ cs) d (omega (arith, e))
    ∙ ap Some e in
    rw (no, read) refl

numeral_printed : (n : ℕ) → n < 2 ^ 64
    → numeral (decimal n) ≡ Some (record { is_decimal = is_decimal n; value = n })
numeral_printed zero h =
    let e : decimal 0 ≡ 48 ∷ [] = decimal_digit 0 (omega arith) in
    rw e refl
numeral_printed (suc n) h =
    let k = decimal_is_IsNumeral (suc n) h in
    numeral_of (suc n) (decimal (suc n)) k.0.1 (first_decimal (suc n) (omega arith) h) k.1 h

------ types

abbrev is_unsigned : IntType → Bool
is_unsigned IntKind = false
is_unsigned UInt = true
is_unsigned LongKind = false
is_unsigned ULong = true
is_unsigned LongLongKind = false
is_unsigned ULongLong = true

abbrev rank : IntType → Rank
rank IntKind = Int
rank UInt = Int
rank LongKind = Long
rank ULong = Long
rank LongLongKind = LongLong
rank ULongLong = LongLong

abbrev said : Bool → ℕ → IntType → Integer
said decimal n kind =
    record { is_decimal = decimal; value = n; is_unsigned = is_unsigned kind; rank = rank kind }

has_type : (decimal : Bool) (n : ℕ) (kind : IntType) → nat_lt n (limit kind) ≡ true
    → typed (said decimal n kind) ≡ Some (n, kind)
has_type true n IntKind e = rw e refl
has_type false n IntKind e = rw e refl
has_type decimal n UInt e = rw e refl
has_type true n LongKind e = rw e refl
has_type false n LongKind e = rw e refl
has_type decimal n ULong e = rw e refl
has_type true n LongLongKind e = rw e refl
has_type false n LongLongKind e = rw e refl
has_type decimal n ULongLong e = rw e refl

suffix_said : (kind : IntType)
    → suffix (printed_suffix kind)
    ≡ Some (record { is_unsigned = is_unsigned kind; rank = rank kind })
suffix_said IntKind = refl
suffix_said UInt = refl
suffix_said LongKind = refl
suffix_said ULong = refl
suffix_said LongLongKind = refl
suffix_said ULongLong = refl

no_digits : (kind : IntType) → unsuffixed_len (printed_suffix kind) ≡ 0
no_digits IntKind = refl
no_digits UInt = refl
no_digits LongKind = refl
no_digits ULong = refl
no_digits LongLongKind = refl
no_digits ULongLong = refl

in_64_bits : (kind : IntType) (n : ℕ) → n < limit kind → n < 2 ^ 64
in_64_bits IntKind n h = omega arith
in_64_bits UInt n h = omega arith
in_64_bits LongKind n h = omega arith
in_64_bits ULong n h = omega arith
in_64_bits LongLongKind n h = omega arith
in_64_bits ULongLong n h = omega arith

------ the law

said_by : (ds letters : List ℕ) (len : ℕ) (text : List ℕ) (n : Option Numeral) (s : Option Suffix)
    → text ≡ ds ++ letters → len ≡ length ds → numeral ds ≡ n → suffix letters ≡ s
    → option_and_then (λ l. option_and_then (joined l) (numeral (take len text)))
    (suffix (drop len text)) ≡ option_and_then (λ l. option_and_then (joined l) n) s
said_by ds letters len text n s t e f g =
    rw (t, e, take-append_seam ds letters, drop-append_seam ds letters, f, g) refl

pub reads_back : (n : ℕ) (kind : IntType) → n < limit kind
    → int_constant (printed_int n kind) ≡ Some (n, kind)
reads_back n kind h =
    let small = in_64_bits kind n h in
    let len =
    digits_len (decimal n) (printed_suffix kind) (decimal_is_IsNumeral n small).0.1
    (no_digits kind) in
    let read : integer (printed_int n kind) ≡ Some (said (is_decimal n) n kind) =
    said_by (decimal n) (printed_suffix kind) (unsuffixed_len (printed_int n kind))
    (printed_int n kind) _ _ refl len (numeral_printed n small) (suffix_said kind) in
    ap (option_and_then typed) read ∙ has_type (is_decimal n) n kind (less _ _ h)
