-- A byte that is printed between quotes is read back, and closes no quote.
use Rattle.std.proofs.Common.{◌≡◌, ℕ, ◌+◌, ◌*◌, ◌/◌, ◌%◌, ◌^◌, ◌<◌, true, false, cond, List, [], ◌∷◌, ◌++◌, refl, ◌∙◌, ap, append_assoc, Some, arith}
use Rattle.std.specs.Prelude.{nat_lt, ◌==◌}
use Rattle.std.specs.List.{list_all}
use Rattle.std.proofs.lemmas.Bool.Decides.{nat_tests}
use Rattle.hv_base.proofs.Booleans.{and_left, and_right}
use Rattle.hv_toks.specs.Constants.{before_all, character, characters, digit, is_octal, more_len, number}
use Rattle.hv_toks.specs.Lexical.{closes}
use Rattle.hv_ctoks.specs.Spelling.{is_plain, octal, printed_byte, printed_bytes}
use Rattle.hv_ctoks.specs.Tokens.{is_byte}
use Rattle.hv_ctoks.proofs.CharactersLemmas.{characters-first}

------ octal digits

module _ (k : ℕ) (small : k < 8) where
  octal_value : digit (48 + k) ≡ k
  octal_value = grind (arith, nat_tests)

  octal_digit : is_octal (48 + k) ≡ true
  octal_digit = rw octal_value (grind (arith, nat_tests))

  octal_no_x : ((48 + k) == 120) ≡ false
  octal_no_x = grind (arith, nat_tests)

  octal_no_newline : ((48 + k) == 10) ≡ false
  octal_no_newline = grind (arith, nat_tests)

  octal_no_backslash : ((48 + k) == 92) ≡ false
  octal_no_backslash = grind (arith, nat_tests)

  octal_below : nat_lt k 8 ≡ true
  octal_below = grind (arith, nat_tests)

fits : (n : ℕ) → n < 512 → nat_lt n (2 ^ 64) ≡ true
fits n h = let less : n < 2 ^ 64 = omega arith in grind (arith, nat_tests)

fits_byte : (n : ℕ) → n < 256 → nat_lt n 256 ≡ true
fits_byte n h = grind (arith, nat_tests)

number_octal : (a b c : ℕ) → a < 8 → b < 8 → c < 8
    → number 8 ((48 + a) ∷ (48 + b) ∷ (48 + c) ∷ []) ≡ Some ((a * 8 + b) * 8 + c)
number_octal a b c h i j =
    let u : nat_lt (0 * 8 + a) (2 ^ 64) ≡ true = fits _ (omega arith) in
    let v : nat_lt ((0 * 8 + a) * 8 + b) (2 ^ 64) ≡ true = fits _ (omega arith) in
    let w : nat_lt (((0 * 8 + a) * 8 + b) * 8 + c) (2 ^ 64) ≡ true = fits _ (omega arith) in
    let same : ((0 * 8 + a) * 8 + b) * 8 + c ≡ (a * 8 + b) * 8 + c = omega arith in
    rw (
      octal_value a h,
      octal_value b i,
      octal_value c j,
      octal_below a h,
      octal_below b i,
      octal_below c j,
      u,
      v,
      w,
    ) (ap Some same)

------ the digits of a byte

module _ (byte : ℕ) (small : byte < 256) where
  first : byte / 64 < 8
  first = omega arith

  second : byte / 8 % 8 < 8
  second = omega arith

  third : byte % 8 < 8
  third = omega arith

  digits_of : ((byte / 64) * 8 + byte / 8 % 8) * 8 + byte % 8 ≡ byte
  digits_of = omega arith

  octal_character : (quote : ℕ) → character quote (octal byte) ≡ Some byte
  octal_character quote =
      let n : number 8 ((48 + byte / 64) ∷ (48 + byte / 8 % 8) ∷ (48 + byte % 8) ∷ []) ≡ Some byte =
      number_octal _ _ _ first second third ∙ ap Some digits_of in
      rw (octal_no_x (byte / 64) first, n, fits_byte byte small) refl

  octal_len : (rest : List ℕ) → more_len (octal byte ++ rest) ≡ 3
  octal_len rest =
      rw (
        octal_no_x (byte / 64) first,
        octal_digit (byte / 64) first,
        octal_digit (byte / 8 % 8) second,
        octal_digit (byte % 8) third,
      ) (omega arith)

  octal_read : (quote : ℕ) (rest : List ℕ)
      → characters quote 0 (octal byte ++ rest)
      ≡ before_all (Some byte) (characters quote 0 rest)
  octal_read quote rest =
      characters-first quote (octal byte ++ rest) (omega arith)
      ∙ rw (octal_len rest, octal_character quote) refl

------ a byte as itself

module _ (quote byte : ℕ) (plain : is_plain quote byte ≡ true) where
  no_quote : (byte == quote) ≡ false
  no_quote = grind (arith, nat_tests)

  no_backslash : (byte == 92) ≡ false
  no_backslash = grind (arith, nat_tests)

  no_newline : (byte == 10) ≡ false
  no_newline = grind (arith, nat_tests)

  plain_character : character quote (byte ∷ []) ≡ Some byte
  plain_character = rw (no_backslash, no_quote, no_newline) refl

  plain_read : (rest : List ℕ)
      → characters quote 0 (byte ∷ rest) ≡ before_all (Some byte) (characters quote 0 rest)
  plain_read rest =
      let len : more_len (byte ∷ rest) ≡ 0 = rw no_backslash refl in
      characters-first quote (byte ∷ rest) (omega arith) ∙ rw (len, plain_character) refl

------ a byte either way

pub byte_character : (quote byte : ℕ) → byte < 256
    → character quote (printed_byte quote byte) ≡ Some byte
byte_character quote byte small =
    elim (is_plain quote byte) as (λ b. is_plain quote byte ≡ b
    → character quote (cond b (byte ∷ []) (octal byte)) ≡ Some byte) [
      | true ↦ λ e. plain_character quote byte e
      | false ↦ λ e. octal_character byte small quote
    ] refl

byte_read : (quote byte : ℕ) (rest : List ℕ) → byte < 256
    → characters quote 0 (printed_byte quote byte ++ rest)
    ≡ before_all (Some byte) (characters quote 0 rest)
byte_read quote byte rest small =
    elim (is_plain quote byte) as (λ b. is_plain quote byte ≡ b
    → characters quote 0 (cond b (byte ∷ []) (octal byte) ++ rest)
    ≡ before_all (Some byte) (characters quote 0 rest)) [
      | true ↦ λ e. plain_read quote byte e rest
      | false ↦ λ e. octal_read byte small quote rest
    ] refl

pub below : (byte : ℕ) → is_byte byte ≡ true → byte < 256
below byte e = grind (arith, nat_tests)

-- bytes that are printed are read back
pub bytes_read : (quote : ℕ) (bytes : List ℕ) → list_all is_byte bytes ≡ true
    → characters quote 0 (printed_bytes quote bytes) ≡ Some bytes
bytes_read quote [] e = refl
bytes_read quote (byte ∷ bytes) e =
    byte_read quote byte (printed_bytes quote bytes) (below byte (and_left _ _ e))
    ∙ ap (before_all (Some byte)) (bytes_read quote bytes (and_right (is_byte byte) _ e))

------ quotes

-- a quote that may stand around them
pub record IsQuote (quote : ℕ) : Type 0 where
  pub newline : (quote == 10) ≡ false
  pub itself : (quote == quote) ≡ true
  pub backslash : (92 == quote) ≡ false
  pub digits : (k : ℕ) → k < 8 → ((48 + k) == quote) ≡ false

single_digits : (k : ℕ) → k < 8 → ((48 + k) == 39) ≡ false
single_digits k h = grind (arith, nat_tests)

double_digits : (k : ℕ) → k < 8 → ((48 + k) == 34) ≡ false
double_digits k h = grind (arith, nat_tests)

pub single : IsQuote 39
single = record { newline = refl; itself = refl; backslash = refl; digits = single_digits }

pub double : IsQuote 34
double = record { newline = refl; itself = refl; backslash = refl; digits = double_digits }

module _ (quote : ℕ) (q : IsQuote quote) where
  octal_closes : (byte : ℕ) (rest : List ℕ) → byte < 256
      → closes true quote false (octal byte ++ rest) ≡ closes true quote false rest
  octal_closes byte rest small =
      let a = first byte small in
      let b = second byte small in
      let c = third byte small in
      rw (
        q.backslash,
        octal_no_newline _ a,
        octal_no_newline _ b,
        q.digits _ b,
        octal_no_backslash _ b,
        octal_no_newline _ c,
        q.digits _ c,
        octal_no_backslash _ c,
      ) refl

  plain_closes : (byte : ℕ) (rest : List ℕ) → is_plain quote byte ≡ true
      → closes true quote false (byte ∷ rest) ≡ closes true quote false rest
  plain_closes byte rest e =
      rw (no_newline quote byte e, no_quote quote byte e, no_backslash quote byte e) refl

  byte_closes : (byte : ℕ) (rest : List ℕ) → byte < 256
      → closes true quote false (printed_byte quote byte ++ rest) ≡ closes true quote false rest
  byte_closes byte rest small =
      elim (is_plain quote byte) as (λ b. is_plain quote byte ≡ b
      → closes true quote false (cond b (byte ∷ []) (octal byte) ++ rest)
      ≡ closes true quote false rest) [
        | true ↦ λ e. plain_closes byte rest e
        | false ↦ λ e. octal_closes byte rest small
      ] refl

  pub bytes_close : (bytes : List ℕ) → list_all is_byte bytes ≡ true
      → closes true quote false (printed_bytes quote bytes ++ quote ∷ []) ≡ true
  bytes_close [] e = rw (q.newline, q.itself) refl
  bytes_close (byte ∷ bytes) e =
      ap (closes true quote false)
      (append_assoc (printed_byte quote byte) (printed_bytes quote bytes) (quote ∷ []))
      ∙ (byte_closes byte (printed_bytes quote bytes ++ quote ∷ [])
      (below byte (and_left _ _ e)) ∙ bytes_close bytes (and_right (is_byte byte) _ e))
