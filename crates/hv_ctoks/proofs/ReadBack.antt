-- What a C token is printed as becomes this token again.
use Rattle.std.proofs.Common.{◌≡◌, ℕ, ◌+◌, ◌-◌, ◌%◌, ◌^◌, ◌<◌, ◌≤◌, Bool, true, false, not, List, [], ◌∷◌, ◌++◌, refl, ◌∙◌, ap, length, take, Option, Some, None, arith}
use Rattle.std.specs.Prelude.{nat_le, nat_lt, ℤ, pos, negsuc, is_some, Ok, slice_index}
use Rattle.std.specs.Fmt.{decimal}
use Rattle.std.specs.List.{list_all}
use Rattle.std.specs.Str.Parse.{AllDigits}
use Rattle.std.proofs.lemmas.Bool.Decides.{nat_tests}
use Rattle.std.proofs.lemmas.Fmt.{decimal_is_IsNumeral}
use Rattle.std.proofs.lemmas.List.{append-nil, get_or_push, length_push, take_at}
use Rattle.std.proofs.lemmas.Str.Parse.{digit_from_value}
use Rattle.hv_base.proofs.Booleans.{and_left, and_right, not_true}
use Rattle.hv_base.proofs.KeywordsLemmas as keywords_lemmas
use Rattle.hv_base.proofs.PunctsLemmas as puncts_lemmas
use Rattle.hv_base.specs.Ascii.{is_identifier_byte}
use Rattle.hv_base.specs.Keywords as keywords
use Rattle.hv_base.specs.Keywords.{keyword_of}
use Rattle.hv_base.specs.Puncts as puncts
use Rattle.hv_base.specs.declared.keyword.Keyword.{Keyword as KeywordOf}
use Rattle.hv_base.specs.declared.keyword.Keyword.TheVariants.{Auto, Break, Case, Char as CharWord, Const, Continue, Default, Do, Else, Enum, Extern, For, If, Inline, Int as IntWord, Long as LongWord, Register, Restrict, Return, Short, Signed, Sizeof, Static, Struct, Switch, Typedef, Union, Unsigned, Void, While, Bool as BoolWord}
use Rattle.hv_base.specs.declared.punct.Punct.{Punct as PunctOf}
use Rattle.hv_base.specs.declared.token.CTok.{CTok}
use Rattle.hv_base.specs.declared.token.CTok.TheVariants.{Keyword, Name, Int, Char, Str, Punct}
use Rattle.hv_base.specs.declared.token.IntType.{IntType}
use Rattle.hv_base.specs.declared.token.IntType.TheVariants.{Int as IntKind, UInt, Long as LongKind, ULong, LongLong as LongLongKind, ULongLong}
use Rattle.hv_toks.specs.Constants.{char_constant, character, characters, limit, printed_int, printed_suffix, string_literal}
use Rattle.hv_toks.specs.Lexical.{continues_number, is_char_constant, is_exponent, is_identifier, is_number, is_punctuator, is_string_literal}
use Rattle.hv_toks.proofs.ReadsBack.{reads_back}
use Rattle.hv_lexer.specs.Printed.{is_spelling}
use Rattle.hv_lexer.proofs.PunctuatorTable.{one_token}
use Rattle.hv_lexer.proofs.WholeToken.{whole-longest}
use Rattle.hv_ctoks.specs.Conversion.{char_value, character_from, converted, is_character, is_left_out, is_refused, is_string, keyword_or, name, number_from, string_from, wide}
use Rattle.hv_ctoks.specs.Floating.{is_floating}
use Rattle.hv_ctoks.specs.Spelling.{byte_of, printed_byte, printed_bytes, quoted, spelling}
use Rattle.hv_ctoks.specs.Tokens.{is_byte, is_char, is_name, is_token, kind_of}
use Rattle.hv_ctoks.specs.declared.reserved.ReservedNames.{ReservedNames}
use Rattle.hv_ctoks.proofs.PrintedBytes.{bytes_close, bytes_read, byte_character, double, single}

------ between quotes

positive : (n : ℕ) → nat_lt 0 (n + 1) ≡ true
positive n = grind (arith, nat_tests)

module _ (inner : List ℕ) (quote : ℕ) where
  bytes : List ℕ
  bytes = inner ++ quote ∷ []

  some_bytes : nat_lt 0 (length (inner ++ quote ∷ [])) ≡ true
  some_bytes = rw (length_push inner quote) (positive (length inner))

  last_at : length (inner ++ quote ∷ []) - 1 ≡ length inner
  last_at = rw (length_push inner quote) (omega arith)

  last_byte : slice_index (inner ++ quote ∷ []) (length (inner ++ quote ∷ []) - 1) ≡ quote
  last_byte = rw last_at (get_or_push inner quote 0 (length inner) refl)

  inner_bytes : take (length (inner ++ quote ∷ []) - 1) (inner ++ quote ∷ []) ≡ inner
  inner_bytes = rw last_at (take_at inner (quote ∷ []) (length inner) refl)

char_between : (inner : List ℕ) → char_constant (39 ∷ (inner ++ 39 ∷ [])) ≡ character 39 inner
char_between inner = rw (some_bytes inner 39, last_byte inner 39, inner_bytes inner 39) refl

string_between : (inner : List ℕ)
    → string_literal (34 ∷ (inner ++ 34 ∷ [])) ≡ characters 34 0 inner
string_between inner = rw (some_bytes inner 34, last_byte inner 34, inner_bytes inner 34) refl

string_is_literal : (bs : List ℕ) → list_all is_byte bs ≡ true
    → is_string_literal (quoted 34 bs) ≡ true
string_is_literal bs e = rw (bytes_close 34 double bs e) refl

char_is_constant : (bs : List ℕ) → list_all is_byte bs ≡ true
    → is_char_constant (quoted 39 bs) ≡ true
char_is_constant bs e = rw (bytes_close 39 single bs e) refl

------ characters

byte_small : (z : ℤ) → byte_of z < 256
byte_small (pos n) = omega arith
byte_small (negsuc n) = omega arith

is_small : (n : ℕ) → n < 256 → is_byte n ≡ true
is_small n h = grind (arith, nat_tests)

one_byte : (z : ℤ) → list_all is_byte (byte_of z ∷ []) ≡ true
one_byte z = rw (is_small (byte_of z) (byte_small z)) refl

low : (n : ℕ) → nat_le n 127 ≡ true → n ≤ 127
low n e = grind (arith, nat_tests)

is_below : (a b : ℕ) → a < b → nat_lt a b ≡ true
is_below a b h = grind (arith, nat_tests)

not_below : (a b : ℕ) → b ≤ a → nat_lt a b ≡ false
not_below a b h = grind (arith, nat_tests)

value_read : (z : ℤ) → is_char z ≡ true → char_value (byte_of z) ≡ z
value_read (pos n) e =
    let h = low n e in
    let same : n % 256 ≡ n = omega arith in
    rw (same, is_below n 128 (omega arith)) refl
value_read (negsuc n) e =
    let h = low n e in
    let same : n % 256 ≡ n = omega arith in
    let back : 255 - (255 - n) ≡ n = omega arith in
    rw (same, not_below (255 - n) 128 (omega arith), back) refl

char_read : (z : ℤ) → char_constant (quoted 39 (byte_of z ∷ [])) ≡ Some (byte_of z)
char_read z =
    char_between (printed_byte 39 (byte_of z) ++ [])
    ∙ (ap (character 39) (append-nil (printed_byte 39 (byte_of z)))
    ∙ byte_character 39 (byte_of z) (byte_small z))

------ numbers

digit_byte : (c : ℕ) → 48 ≤ c → c ≤ 57 → is_identifier_byte c ≡ true
digit_byte c h i = grind (arith, nat_tests)

digit_digit : (c : ℕ) → 48 ≤ c → c ≤ 57 → Rattle.hv_base.specs.Ascii.is_digit c ≡ true
digit_digit c h i = grind (arith, nat_tests)

suffix_continues : (exponent : Bool) (kind : IntType)
    → continues_number exponent (printed_suffix kind) ≡ true
suffix_continues exponent IntKind = refl
suffix_continues exponent UInt = refl
suffix_continues exponent LongKind = refl
suffix_continues exponent ULong = refl
suffix_continues exponent LongLongKind = refl
suffix_continues exponent ULongLong = refl

digits_continue : (exponent : Bool) (ds : List ℕ) (kind : IntType) → AllDigits 10 ds
    → continues_number exponent (ds ++ printed_suffix kind) ≡ true
digits_continue exponent [] kind d = suffix_continues exponent kind
digits_continue exponent (c ∷ cs) kind d =
    let k = digit_from_value c d.0 in
    rw (digit_byte c k.0 k.1) (digits_continue (is_exponent c) cs kind d.1)

digits_number : (ds : List ℕ) (kind : IntType) → 0 < length ds → AllDigits 10 ds
    → is_number (ds ++ printed_suffix kind) ≡ true
digits_number [] kind some d = absurd (omega arith)
digits_number (c ∷ cs) kind some d =
    let k = digit_from_value c d.0 in
    rw (digit_digit c k.0 k.1, digits_continue false cs kind d.1) refl

in_64_bits : (kind : IntType) (n : ℕ) → n < limit kind → n < 2 ^ 64
in_64_bits IntKind n h = omega arith
in_64_bits UInt n h = omega arith
in_64_bits LongKind n h = omega arith
in_64_bits ULong n h = omega arith
in_64_bits LongLongKind n h = omega arith
in_64_bits ULongLong n h = omega arith

int_number : (n : ℕ) (kind : IntType) → n < limit kind → is_number (printed_int n kind) ≡ true
int_number n kind h =
    let k = decimal_is_IsNumeral n (in_64_bits kind n h) in
    digits_number (decimal n) kind k.0.0 k.0.1

in_limit : (n : ℕ) (kind : IntType) → nat_lt n (limit kind) ≡ true → n < limit kind
in_limit n kind e = grind (arith, nat_tests)

------ words

word_identifier : (word : KeywordOf) → is_identifier (keywords.spelling_of word) ≡ true
word_identifier Auto = refl
word_identifier Break = refl
word_identifier Case = refl
word_identifier CharWord = refl
word_identifier Const = refl
word_identifier Continue = refl
word_identifier Default = refl
word_identifier Do = refl
word_identifier Else = refl
word_identifier Enum = refl
word_identifier Extern = refl
word_identifier For = refl
word_identifier If = refl
word_identifier Inline = refl
word_identifier IntWord = refl
word_identifier LongWord = refl
word_identifier Register = refl
word_identifier Restrict = refl
word_identifier Return = refl
word_identifier Short = refl
word_identifier Signed = refl
word_identifier Sizeof = refl
word_identifier Static = refl
word_identifier Struct = refl
word_identifier Switch = refl
word_identifier Typedef = refl
word_identifier Union = refl
word_identifier Unsigned = refl
word_identifier Void = refl
word_identifier While = refl
word_identifier BoolWord = refl

sign_punctuator : (sign : PunctOf) → is_punctuator (puncts.spelling_of sign) ≡ true
sign_punctuator sign =
    let longest = whole-longest (puncts.spelling_of sign) in (rw (one_token sign) at longest).0

none_is : (word : Option KeywordOf) → not (is_some word) ≡ true → word ≡ None
none_is None e = refl
none_is (Some word) e = absurd (cc)

-- a name is read as one
name_read : (reserved : ReservedNames) (text : List ℕ) → is_name reserved text ≡ true
    → keyword_or (name reserved text) (keyword_of text) ≡ Ok (Name text)
name_read reserved text e =
    let no_word : keyword_of text ≡ None =
    none_is (keyword_of text) (and_right _ _ (and_left _ _ (and_left _ _ e))) in
    let stays : is_left_out text ≡ false =
    not_true _ (and_right _ _ (and_left _ _ e)) in
    let free : is_refused reserved text ≡ false = not_true _ (and_right _ _ e) in
    rw (no_word, stays, free) refl

------ the laws

-- it is a spelling of its kind
pub is_spelled : (reserved : ReservedNames) (tok : CTok) → is_token reserved tok ≡ true
    → is_spelling (kind_of tok) (spelling tok) ≡ true
is_spelled reserved (Keyword word) e = word_identifier word
is_spelled reserved (Name text) e = and_left _ _ (and_left _ _ (and_left _ _ e))
is_spelled reserved (Int value kind) e = int_number value kind (in_limit value kind e)
is_spelled reserved (Char value) e = char_is_constant (byte_of value ∷ []) (one_byte value)
is_spelled reserved (Str bs) e = string_is_literal bs e
is_spelled reserved (Punct sign) e = sign_punctuator sign

-- it becomes the token again
pub read_back : (reserved : ReservedNames) (tok : CTok) → is_token reserved tok ≡ true
    → converted reserved (kind_of tok) (spelling tok) ≡ Ok tok
read_back reserved (Keyword word) e =
    ap (keyword_or (name reserved (keywords.spelling_of word))) (keywords_lemmas.read_back word)
read_back reserved (Name text) e = name_read reserved text e
read_back reserved (Int value kind) e =
    ap (number_from (is_floating (printed_int value kind)))
    (reads_back value kind (in_limit value kind e))
read_back reserved (Char value) e =
    ap (character_from (wide is_character (quoted 39 (byte_of value ∷ [])))) (char_read value)
    ∙ ap (λ (z : ℤ). Ok (Char z)) (value_read value e)
read_back reserved (Str bs) e =
    let text : List ℕ = quoted 34 bs in
    let read : string_literal text ≡ Some bs =
    string_between (printed_bytes 34 bs) ∙ bytes_read 34 bs e in
    rw (string_is_literal bs e) (ap (string_from (wide is_string text)) read)
read_back reserved (Punct sign) e =
    ap Rattle.hv_ctoks.specs.Conversion.punctuator_from (puncts_lemmas.read_back sign)
