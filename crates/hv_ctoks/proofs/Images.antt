-- What a preprocessing token becomes is a C token of its kind, whose value is in its type's range.
use Rattle.std.proofs.Common.{◌≡◌, ℕ, zero, suc, ◌+◌, ◌-◌, ◌&&◌, ◌||◌, Bool, true, false, cond, List, [], ◌∷◌, refl, length, take, Option, Some, None, arith}
use Rattle.std.specs.Prelude.{nat_lt, nat_le, ◌==◌, pos, negsuc, option_and_then, IfSome, Ok, Err, slice_index}
use Rattle.std.specs.List.{list_all}
use Rattle.std.proofs.lemmas.Bool.Decides.{nat_tests}
use Rattle.hv_base.proofs.Booleans.{and_both, and_left, and_right}
use Rattle.hv_base.proofs.Lists.{find-passes}
use Rattle.hv_base.specs.Keywords.{keyword_of}
use Rattle.hv_base.specs.Puncts.{punct_of}
use Rattle.hv_base.specs.declared.keyword.Keyword.{Keyword as KeywordOf}
use Rattle.hv_base.specs.declared.punct.Punct.{Punct as PunctOf}
use Rattle.hv_base.specs.declared.token.CTok.{CTok}
use Rattle.hv_base.specs.declared.token.CTok.TheVariants.{Keyword, Name, Int, Char, Str, Punct}
use Rattle.hv_base.specs.declared.token.IntType.{IntType}
use Rattle.hv_base.specs.declared.why.Why.TheVariants.{LeftOut, Syntax, Reserved}
use Rattle.hv_toks.specs.Constants.{as_byte, before_all, char_constant, character, characters, escape, int_constant, integer, limit, more_len, string_literal, type_of, typed, types}
use Rattle.hv_toks.specs.Lexical.{is_identifier, is_string_literal}
use Rattle.hv_toks.specs.declared.constants.Integer.{Integer}
use Rattle.hv_toks.specs.declared.token.PpKind.{PpKind}
use Rattle.hv_toks.specs.declared.token.PpKind.TheVariants.{Identifier, Number, CharConstant, StringLiteral, HeaderName, Punctuator, Other}
use Rattle.hv_lexer.specs.Printed.{is_spelling}
use Rattle.hv_ctoks.specs.Conversion.{char_value, character_from, converted, is_character, is_left_out, is_refused, is_string, keyword_or, name, number_from, punctuator_from, string_from, wide}
use Rattle.hv_ctoks.specs.Floating.{is_floating}
use Rattle.hv_ctoks.specs.Tokens.{is_byte, is_char, is_token, kind_of}
use Rattle.hv_ctoks.specs.declared.reserved.ReservedNames.{ReservedNames}

------ integer constants

abbrev InLimit : Option (ℕ × IntType) → Type 0
InLimit constant = IfSome constant (λ c. nat_lt c.0 (limit c.1) ≡ true)

typed_in : (c : Integer) → InLimit (typed c)
typed_in c = go (type_of c) (find-passes (λ kind. nat_lt c.value (limit kind)) (types c))
  where
    go : (kind : Option IntType) → IfSome kind (λ k. nat_lt c.value (limit k) ≡ true)
        → InLimit (option_and_then (λ k. Some (c.value, k)) kind)
    go None h = tt
    go (Some kind) h = h

all_typed_in : (c : Option Integer) → InLimit (option_and_then typed c)
all_typed_in None = tt
all_typed_in (Some c) = typed_in c

int_in : (text : List ℕ) → InLimit (int_constant text)
int_in text = all_typed_in (integer text)

------ characters

char_in : (byte : ℕ) → is_char (char_value byte) ≡ true
char_in byte =
    elim (nat_lt byte 128) as (λ b. nat_lt byte 128 ≡ b
    → is_char (cond b (pos byte) (negsuc (255 - byte))) ≡ true) [
      | true ↦ λ e. let most : nat_le byte 127 ≡ true = grind (arith, nat_tests) in most
      | false ↦ λ e. let most : nat_le (255 - byte) 127 ≡ true = grind (arith, nat_tests) in most
    ] refl

------ strings

abbrev AreBytes : List ℕ → Type 0
AreBytes text = list_all is_byte text ≡ true

abbrev IsByte : Option ℕ → Type 0
IsByte byte = IfSome byte (λ b. is_byte b ≡ true)

byte_in : (n : Option ℕ) → IsByte (option_and_then as_byte n)
byte_in None = tt
byte_in (Some n) = elim (nat_lt n 256) as (λ b. nat_lt n 256 ≡ b → IsByte (cond b (Some n) None)) [
  | true ↦ λ e. e
  | false ↦ λ e. tt
] refl

character_in : (quote : ℕ) (text : List ℕ) → AreBytes text → IsByte (character quote text)
character_in quote [] h = tt
character_in quote (byte ∷ bytes) h =
    elim (byte == 92) as (λ b. IsByte (cond b (option_and_then as_byte (escape bytes))
    (cond (byte == quote || byte == 10 || nat_lt 0 (length bytes)) None (Some byte)))) [
      | true ↦ byte_in (escape bytes)
      | false ↦ elim (byte == quote || byte == 10 || nat_lt 0 (length bytes)) as
          (λ b. IsByte (cond b None (Some byte))) [
            | true ↦ tt
            | false ↦ and_left (is_byte byte) (list_all is_byte bytes) h
          ]
    ]

take_in : (n : ℕ) (text : List ℕ) → AreBytes text → AreBytes (take n text)
take_in zero text h = refl
take_in (suc n) [] h = refl
take_in (suc n) (x ∷ xs) h =
    and_both _ _ (and_left (is_byte x) (list_all is_byte xs) h)
    (take_in n xs (and_right (is_byte x) (list_all is_byte xs) h))

abbrev InBytes : Option (List ℕ) → Type 0
InBytes bytes = IfSome bytes AreBytes

before_in : (byte : Option ℕ) (bytes : Option (List ℕ)) → IsByte byte → InBytes bytes
    → InBytes (before_all byte bytes)
before_in None bytes h i = tt
before_in (Some byte) None h i = tt
before_in (Some byte) (Some bytes) h i = and_both _ _ h i

characters_in : (quote taken : ℕ) (text : List ℕ) → AreBytes text
    → InBytes (characters quote taken text)
characters_in quote taken [] h = refl
characters_in quote (suc taken) (x ∷ xs) h =
    characters_in quote taken xs (and_right (is_byte x) (list_all is_byte xs) h)
characters_in quote zero (x ∷ xs) h =
    before_in _ _
    (character_in quote (take (1 + more_len (x ∷ xs)) (x ∷ xs))
    (take_in (1 + more_len (x ∷ xs)) (x ∷ xs) h))
    (characters_in quote (more_len (x ∷ xs)) xs (and_right (is_byte x) (list_all is_byte xs) h))

string_in : (text : List ℕ) → AreBytes text → InBytes (string_literal text)
string_in [] h = tt
string_in (x ∷ xs) h =
    elim (x == 34 && nat_lt 0 (length xs) && slice_index xs (length xs - 1) == 34) as
    (λ b. InBytes (cond b (characters 34 0 (take (length xs - 1) xs)) None)) [
      | true ↦ characters_in 34 0 (take (length xs - 1) xs)
          (take_in (length xs - 1) xs (and_right (is_byte x) (list_all is_byte xs) h))
      | false ↦ tt
    ]

------ by kind

module _ (reserved : ReservedNames) (tok : CTok) where
  abbrev Image : PpKind → Type 0
  Image kind = (kind_of tok ≡ kind) × (is_token reserved tok ≡ true)

  name_image : (text : List ℕ) (left refused : Bool) → keyword_of text ≡ None
      → is_identifier text ≡ true → is_left_out text ≡ left → is_refused reserved text ≡ refused
      → cond left (Err LeftOut) (cond refused (Err Reserved) (Ok (Name text))) ≡ Ok tok
      → Image Identifier
  name_image text true refused w i l r e = absurd (cc)
  name_image text false true w i l r e = absurd (cc)
  name_image text false false w i l r e =
      let s : tok ≡ Name text = cc in rw s (refl, rw (i, w, l, r) refl)

  identifier_image : (text : List ℕ) (word : Option KeywordOf) → keyword_of text ≡ word
      → is_identifier text ≡ true → keyword_or (name reserved text) word ≡ Ok tok
      → Image Identifier
  identifier_image text (Some word) w i e =
      let s : tok ≡ Keyword word = cc in rw s (refl, refl)
  identifier_image text None w i e = name_image text _ _ w i refl refl e

  number_image : (floating : Bool) (constant : Option (ℕ × IntType)) → InLimit constant
      → number_from floating constant ≡ Ok tok → Image Number
  number_image floating None h e = absurd (cc)
  number_image floating (Some (value, kind)) h e =
      let s : tok ≡ Int value kind = cc in rw s (refl, h)

  character_image : (wide : Bool) (byte : Option ℕ) → character_from wide byte ≡ Ok tok
      → Image CharConstant
  character_image wide None e = absurd (cc)
  character_image wide (Some byte) e =
      let s : tok ≡ Char (char_value byte) = cc in rw s (refl, char_in byte)

  string_image : (literal wide : Bool) (bytes : Option (List ℕ)) → InBytes bytes
      → cond literal (string_from wide bytes) (Err Syntax) ≡ Ok tok → Image StringLiteral
  string_image false wide bytes h e = absurd (cc)
  string_image true wide None h e = absurd (cc)
  string_image true wide (Some bytes) h e = let s : tok ≡ Str bytes = cc in rw s (refl, h)

  punctuator_image : (sign : Option PunctOf) → punctuator_from sign ≡ Ok tok → Image Punctuator
  punctuator_image None e = absurd (cc)
  punctuator_image (Some sign) e = let s : tok ≡ Punct sign = cc in rw s (refl, refl)

  pub image : (kind : PpKind) (text : List ℕ) → is_spelling kind text ≡ true
      → list_all is_byte text ≡ true → converted reserved kind text ≡ Ok tok → Image kind
  image Identifier text i h e = identifier_image text (keyword_of text) refl i e
  image Number text i h e = number_image (is_floating text) (int_constant text) (int_in text) e
  image CharConstant text i h e =
      character_image (wide is_character text) (char_constant text) e
  image StringLiteral text i h e =
      string_image (is_string_literal text) (wide is_string text) (string_literal text)
      (string_in text h) e
  image HeaderName text i h e = absurd (cc)
  image Punctuator text i h e = punctuator_image (punct_of text) e
  image Other text i h e = absurd (cc)
