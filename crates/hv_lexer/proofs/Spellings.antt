-- Spellings of the categories, and what stands in them.
use Rattle.std.proofs.Common.{◌≡◌, ℕ, ◌<◌, ◌⊎◌, inl, inr, Bool, true, false, cond, not, List, [], ◌∷◌, ◌++◌, refl, arith, length, codes}
use Rattle.std.specs.Prelude.{◌&&◌, ◌||◌, ◌==◌}
use Rattle.std.specs.List.{list_all, list_any}
use Rattle.std.specs.Str.{bytes_eq}
use Rattle.std.proofs.lemmas.Bool.Decides.{nat_tests}
use Rattle.std.proofs.lemmas.Slice.Eq.{bytes_eq-Decides}
use Rattle.hv_toks.specs.Lexical.{optional, is_identifier, is_exponent, continues_number, begins_with_digit, is_number, closes, is_quoted, is_punctuator, pairs, triples}
use Rattle.hv_base.specs.Ascii.{is_digit, is_empty, is_identifier_byte, is_line_space, is_nondigit}
use Rattle.hv_lexer.proofs.ByteTests.{never_both}
use Rattle.hv_lexer.proofs.LongestLemmas.{may_continue}
use Rattle.hv_lexer.proofs.LongestStops.{Stops}

-- a byte that is no white space, no newline, no backslash and no quote
abbrev pub is_plain : ℕ → Bool
is_plain byte = not (is_line_space byte || byte == 10 || byte == 92 || byte == 34 || byte == 39)

abbrev pub IsPlain : List ℕ → Type 0
IsPlain text = list_all is_plain text ≡ true

pub left : (a b : Bool) → (a && b) ≡ true → a ≡ true
left true b e = refl
left false b e = absurd (cc)

pub right : (a b : Bool) → (a && b) ≡ true → b ≡ true
right true b e = e
right false b e = absurd (cc)

pub first_of : (t : ℕ → Bool) (x : ℕ) (xs : List ℕ) → list_all t (x ∷ xs) ≡ true → t x ≡ true
first_of t x xs h = left (t x) (list_all t xs) h

pub second_of : (t : ℕ → Bool) (x y : ℕ) (xs : List ℕ) → list_all t (x ∷ y ∷ xs) ≡ true → t y ≡ true
second_of t x y xs h = first_of t y xs (right (t x) (list_all t (y ∷ xs)) h)

pub either : (a b : Bool) → (a || b) ≡ true → (a ≡ true) ⊎ (b ≡ true)
either true b e = inl refl
either false b e = inr e

pub both : (a b : Bool) → a ≡ true → b ≡ true → (a && b) ≡ true
both a b e f = rw (e, f) refl

pub refuted : (t : Bool) → (t ≡ true → ⊥) → t ≡ false
refuted true h = absurd (h refl)
refuted false h = refl

same_byte : (a b : ℕ) → (a == b) ≡ true → a ≡ b
same_byte a b e = grind (arith, nat_tests)

plain_word : (byte : ℕ) → is_identifier_byte byte ≡ true → is_plain byte ≡ true
plain_word byte e = grind (arith, nat_tests)

word_first : (byte : ℕ) → is_nondigit byte ≡ true → is_identifier_byte byte ≡ true
word_first byte e = rw e refl

plain_number : (exponent : Bool) (byte : ℕ) → may_continue exponent byte ≡ true
    → is_plain byte ≡ true
plain_number true byte e = grind (arith, nat_tests)
plain_number false byte e = grind (arith, nat_tests)

plain_words : (text : List ℕ) → list_all is_identifier_byte text ≡ true → IsPlain text
plain_words [] e = refl
plain_words (x ∷ xs) e = both _ _ (plain_word x (left _ _ e)) (plain_words xs (right _ _ e))

pub plain_identifier : (text : List ℕ) → is_identifier text ≡ true → IsPlain text
plain_identifier [] e = refl
plain_identifier (x ∷ xs) e =
    both _ _ (plain_word x (word_first x (left _ _ e))) (plain_words xs (right _ _ e))

plain_rest : (exponent : Bool) (text : List ℕ) → continues_number exponent text ≡ true
    → IsPlain text
plain_rest exponent [] e = refl
plain_rest exponent (x ∷ xs) e =
    both _ _ (plain_number exponent x (left _ _ e)) (plain_rest (is_exponent x) xs (right _ _ e))

plain_digit : (byte : ℕ) → is_digit byte ≡ true → is_plain byte ≡ true
plain_digit byte e = grind (arith, nat_tests)

plain_digits : (text : List ℕ) → begins_with_digit text ≡ true → IsPlain text
plain_digits [] e = refl
plain_digits (x ∷ xs) e = both _ _ (plain_digit x (left _ _ e)) (plain_rest false xs (right _ _ e))

plain_dot : (byte : ℕ) → (byte == 46) ≡ true → is_plain byte ≡ true
plain_dot byte e = rw (same_byte byte 46 e) refl

pub plain_number_text : (text : List ℕ) → is_number text ≡ true → IsPlain text
plain_number_text [] e = refl
plain_number_text (x ∷ xs) e = elim (either _ _ e) [
  | inl f ↦ plain_digits (x ∷ xs) f
  | inr f ↦ both _ _ (plain_dot x (left _ _ f)) (plain_digits xs (right _ _ f))
]

-- punctuators have the bytes of the tables

module _ (t : ℕ → Bool) where
  among_bytes : (a : ℕ) (table : List ℕ) → list_any (λ byte. a == byte) table ≡ true
      → list_all t table ≡ true → t a ≡ true
  among_bytes a [] e f = absurd (cc)
  among_bytes a (y ∷ table) e f = elim (either _ _ e) [
    | inl g ↦ rw (same_byte a y g) (left _ _ f)
    | inr g ↦ among_bytes a table g (right _ _ f)
  ]

  same_text : (a b : List ℕ) → bytes_eq a b ≡ true → a ≡ b
  same_text a b e = grind (arith, bytes_eq-Decides)

  among_texts : (a : List ℕ) (table : List (List ℕ)) → list_any (bytes_eq a) table ≡ true
      → list_all (list_all t) table ≡ true → list_all t a ≡ true
  among_texts a [] e f = absurd (cc)
  among_texts a (y ∷ table) e f = elim (either _ _ e) [
    | inl g ↦ rw (same_text a y g) (left _ _ f)
    | inr g ↦ among_texts a table g (right _ _ f)
  ]

  abbrev singles : List ℕ
  singles = codes "[](){}.&*+-~!/%<>^|?:;=,#"

  abbrev Tables : Type 0
  Tables = (list_all t singles ≡ true) × (list_all (list_all t) pairs ≡ true)
      × (list_all (list_all t) triples ≡ true)

  punctuator_bytes : (text : List ℕ) → Tables → is_punctuator text ≡ true → list_all t text ≡ true
  punctuator_bytes [] h e = refl
  punctuator_bytes (a ∷ []) h e = both _ _ (among_bytes a singles e h.0) refl
  punctuator_bytes (a ∷ b ∷ []) h e = among_texts (a ∷ b ∷ []) pairs e h.1
  punctuator_bytes (a ∷ b ∷ c ∷ []) h e = among_texts (a ∷ b ∷ c ∷ []) triples e h.2
  punctuator_bytes (_ ∷ _ ∷ _ ∷ _ ∷ _) h e = absurd (cc)

pub plain_punctuator : (text : List ℕ) → is_punctuator text ≡ true → IsPlain text
plain_punctuator text e = punctuator_bytes is_plain text (refl, refl, refl) e

-- a byte that is not plain ends a spelling of plain bytes

not_within : (text : List ℕ) (byte : ℕ) (f : List ℕ) → is_plain byte ≡ false
    → IsPlain (text ++ byte ∷ f) → ⊥
not_within [] byte f e h = let g : is_plain byte ≡ true =
    left (is_plain byte) (list_all is_plain f) h in absurd (cc)
not_within (x ∷ text) byte f e h = not_within text byte f e (right _ _ h)

pub stops_plain : (p : List ℕ → Bool) (text : List ℕ) (byte : ℕ)
    → ((s : List ℕ) → p s ≡ true → IsPlain s) → is_plain byte ≡ false → Stops p text byte
stops_plain p text byte h e = λ f. refuted _ (λ g. not_within text byte f e (h _ g))

plain_differs : (x q : ℕ) → is_plain x ≡ true → is_plain q ≡ false → (x == q) ≡ false
plain_differs x q e f =
    refuted _ (λ g. let s = same_byte x q g in let h : is_plain q ≡ true = rw s at e in cc)

abbrev is_wide : ℕ → List ℕ → Bool
is_wide q text = optional 76 (is_quoted q) text

pub stops_unquoted : (q : ℕ) (text : List ℕ) (byte : ℕ) → IsPlain text → is_plain q ≡ false
    → 0 < length text → (byte == q) ≡ false → Stops (is_wide q) text byte
stops_unquoted q [] byte h e some b = absurd (omega arith)
stops_unquoted q (x ∷ []) byte h e some b =
    λ f. rw (plain_differs x q (first_of is_plain x [] h) e, b) (never_both (x == 76))
stops_unquoted q (x ∷ y ∷ text) byte h e some b =
    λ f. rw (
      plain_differs x q (first_of is_plain x (y ∷ text) h) e,
      plain_differs y q
          (second_of is_plain x y text h) e,
    ) (never_both (x == 76))

pub unquoted : (q : ℕ) (text : List ℕ) → IsPlain text → is_plain q ≡ false → is_wide q text ≡ false
unquoted q [] h e = refl
unquoted q (x ∷ []) h e = rw (plain_differs x q (first_of is_plain x [] h) e) (never_both (x == 76))
unquoted q (x ∷ y ∷ text) h e =
    rw (
      plain_differs x q (first_of is_plain x (y ∷ text) h) e,
      plain_differs y q
          (second_of is_plain x y text h) e,
    ) (never_both (x == 76))

-- a number and a punctuator are no identifier, and a punctuator is no number

digit_alone : (x : ℕ) → is_digit x ≡ true → is_nondigit x ≡ false
digit_alone x e = grind (arith, nat_tests)

dot_alone : (x : ℕ) → (x == 46) ≡ true → is_nondigit x ≡ false
dot_alone x e = rw (same_byte x 46 e) refl

pub number_alone : (text : List ℕ) → is_number text ≡ true → is_identifier text ≡ false
number_alone [] e = refl
number_alone (x ∷ xs) e = elim (either _ _ e) [
  | inl f ↦ rw (digit_alone x (left (is_digit x) (continues_number false xs) f)) refl
  | inr f ↦ rw (dot_alone x (left (x == 46) (begins_with_digit xs) f)) refl
]

abbrev is_wordless : ℕ → Bool
is_wordless byte = not (is_identifier_byte byte)

wordless_nondigit : (x : ℕ) → is_wordless x ≡ true → is_nondigit x ≡ false
wordless_nondigit x e = grind (arith, nat_tests)

wordless_digit : (x : ℕ) → is_wordless x ≡ true → is_digit x ≡ false
wordless_digit x e = grind (arith, nat_tests)

wordless_identifier : (text : List ℕ) → list_all is_wordless text ≡ true
    → is_identifier text ≡ false
wordless_identifier [] h = refl
wordless_identifier (x ∷ xs) h = rw (wordless_nondigit x (first_of is_wordless x xs h)) refl

wordless_number : (text : List ℕ) → list_all is_wordless text ≡ true → is_number text ≡ false
wordless_number [] h = refl
wordless_number (x ∷ []) h =
    rw (wordless_digit x (first_of is_wordless x [] h)) (never_both (x == 46))
wordless_number (x ∷ y ∷ text) h =
    rw (
      wordless_digit x (first_of is_wordless x (y ∷ text) h),
      wordless_digit y
          (second_of is_wordless x y text h),
    ) (never_both (x == 46))

pub punctuator_no_identifier : (text : List ℕ) → is_punctuator text ≡ true
    → is_identifier text ≡ false
punctuator_no_identifier text e =
    wordless_identifier text (punctuator_bytes is_wordless text (refl, refl, refl) e)

pub punctuator_no_number : (text : List ℕ) → is_punctuator text ≡ true → is_number text ≡ false
punctuator_no_number text e =
    wordless_number text (punctuator_bytes is_wordless text (refl, refl, refl) e)

-- character constants and string literals

pub data Quoted (q : ℕ) : List ℕ → Type 0 where
  short : (inner : List ℕ) → closes true q false inner ≡ true → Quoted q (q ∷ inner)
  wide : (inner : List ℕ) → closes true q false inner ≡ true → Quoted q (76 ∷ q ∷ inner)

wide_of : (q x : ℕ) (xs : List ℕ) → x ≡ 76 → is_quoted q xs ≡ true → Quoted q (x ∷ xs)
wide_of q x [] e f = absurd (cc)
wide_of q x (y ∷ ys) e f =
    rw (e, same_byte y q (left (y == q) (closes true q false ys) f))
    (wide ys (right (y == q) (closes true q false ys) f))

pub quoted : (q : ℕ) (text : List ℕ) → is_wide q text ≡ true → Quoted q text
quoted q [] e = absurd (cc)
quoted q (x ∷ xs) e = elim (either _ _ e) [
  | inl f ↦ rw (same_byte x q (left (x == q) (closes true q false xs) f))
      (short xs (right (x == q) (closes true q false xs) f))
  | inr f ↦ wide_of q x xs (same_byte x 76 (left _ _ f)) (right _ _ f)
]

closed_here : (t : Bool) (text : List ℕ) (c d : Bool) (byte : ℕ) (f : List ℕ)
    → cond t (is_empty text) c ≡ true → (c ≡ true → d ≡ false)
    → cond t (is_empty (text ++ byte ∷ f)) d ≡ false
closed_here true [] c d byte f e h = refl
closed_here true (x ∷ text) c d byte f e h = refl
closed_here false text c d byte f e h = h e

neither : (a b : Bool) → b ≡ false → (a && b) ≡ false
neither a b e = rw e (never_both a)

pub closed : (q : ℕ) (escaped : Bool) (text : List ℕ) (byte : ℕ) (f : List ℕ)
    → closes true q escaped text ≡ true → closes true q escaped (text ++ byte ∷ f) ≡ false
closed q escaped [] byte f e = absurd (cc)
closed q true (x ∷ text) byte f e =
    neither (not (x == 10)) _ (closed q false text byte f (right _ _ e))
closed q false (x ∷ text) byte f e =
    neither (not (x == 10)) _ (closed_here (x == q) text _ _ byte f (right _ _ e)
    (λ g. closed q (x == 92) text byte f g))
