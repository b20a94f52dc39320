-- A spelling of a category is one token: all of it is the longest token that it begins with.
use Rattle.std.proofs.Common.{◌≡◌, ℕ, zero, suc, ◌<◌, ◌≤◌, ◌&&◌, inl, inr, Bool, true, false, cond, not, List, [], ◌∷◌, refl, sym, ◌∙◌, ap, length, take, codes, Some, arith}
use Rattle.std.specs.Prelude.{nat_lt, nat_eq, ◌==◌}
use Rattle.std.specs.List.{list_any, starts_with}
use Rattle.std.proofs.Math.Seq.{take-length}
use Rattle.std.proofs.lemmas.Bool.{cases_lt}
use Rattle.std.proofs.lemmas.Bool.Decides.{nat_tests}
use Rattle.hv_base.specs.Ascii.{is_empty, is_line_space}
use Rattle.hv_toks.specs.declared.prefix.LinePrefix.TheVariants.{Rest}
use Rattle.hv_toks.specs.declared.prefix.Prefix.TheVariants.{Token}
use Rattle.hv_toks.specs.declared.token.PpKind.{PpKind}
use Rattle.hv_toks.specs.declared.token.PpKind.TheVariants.{Identifier, Number, CharConstant, StringLiteral, HeaderName, Punctuator, Other}
use Rattle.hv_toks.specs.Cutting.{found, longest_token, prefix, token_at, whole_token}
use Rattle.hv_toks.specs.Lexical.{closes, longest, is_identifier, is_number, is_char_constant, is_string_literal, is_punctuator}
use Rattle.hv_lexer.specs.Printed.{is_spelling}
use Rattle.hv_lexer.proofs.ByteTests.{never_both, two}
use Rattle.hv_lexer.proofs.LongerLemmas.{choose-identifier, choose-number, choose-char, choose-string, choose-punctuator}
use Rattle.hv_lexer.proofs.LongestLemmas.{longest-is, shift}
use Rattle.hv_lexer.proofs.Spellings.{IsPlain, is_plain, left, right, refuted, plain_identifier, plain_number_text, plain_punctuator, unquoted, number_alone, punctuator_no_identifier, punctuator_no_number, Quoted, short, wide, quoted}

------ the longest prefix of a text that passes or fails as a whole

within : (alone : Bool) (n k : ℕ) → n ≤ k → shift alone n ≤ suc k
within true zero k h = omega arith
within false zero k h = omega arith
within alone (suc n) k h = omega arith

most : (p : List ℕ → Bool) (xs : List ℕ) → longest p xs ≤ length xs
most p [] = omega arith
most p (x ∷ xs) =
    within (p (x ∷ [])) (longest (λ f. p (x ∷ f)) xs) (length xs) (most (λ f. p (x ∷ f)) xs)

at_whole : (p : List ℕ → Bool) (text : List ℕ) (n : ℕ) → n ≡ length text → p (take n text) ≡ p text
at_whole p text n e = rw e (ap p (take-length text))

same : (p : List ℕ → Bool) (text : List ℕ) → p text ≡ true → longest p text ≡ length text
same p text e =
    let h = longest-is p text in
    let bound = most p text in
    elim (cases_lt (longest p text) (length text)) [
      | inl less ↦
          let no : p text ≡ false = sym (at_whole p text (length text) refl)
          ∙ h.1 (length text) less (omega arith) in absurd (cc)
      | inr more ↦ omega arith
    ]

less : (p : List ℕ → Bool) (text : List ℕ) → p text ≡ false → 0 < length text
    → longest p text < length text
less p text e some =
    let h = longest-is p text in
    let bound = most p text in
    elim (cases_lt (longest p text) (length text)) [
      | inl here ↦ here
      | inr more ↦
          let all : longest p text ≡ length text = omega arith in
          let yes : p text ≡ true = sym (at_whole p text (longest p text) all)
          ∙ h.0 (omega arith) in absurd (cc)
    ]

------ what a text begins with

prefix_token : (x : ℕ) (xs : List ℕ) → (x == 10) ≡ false → is_line_space x ≡ false
    → starts_with nat_eq (x ∷ xs) (codes "//") ≡ false
    → starts_with nat_eq (x ∷ xs) (codes "/*") ≡ false
    → prefix Rest (x ∷ xs) ≡ Token (token_at Rest (x ∷ xs))
prefix_token x xs a b c d = rw (a, b, c, d) refl

plain_newline : (x : ℕ) → is_plain x ≡ true → (x == 10) ≡ false
plain_newline x e = grind (arith, nat_tests)

plain_white : (x : ℕ) → is_plain x ≡ true → is_line_space x ≡ false
plain_white x e = grind (arith, nat_tests)

no_comment : (p : List ℕ → Bool) (text : List ℕ) (c : ℕ)
    → ((f : List ℕ) → p (47 ∷ c ∷ f) ≡ false) → p text ≡ true
    → starts_with nat_eq text (47 ∷ c ∷ []) ≡ false
no_comment p [] c h e = refl
no_comment p (x ∷ []) c h e = never_both (47 == x)
no_comment p (x ∷ y ∷ text) c h e =
    refuted _ (λ g. let t = two 47 c x y g in let f : p (47 ∷ c ∷ text) ≡ true = rw (t.0, t.1) at e
    in let n = h text in absurd (cc))

begins_plain : (p : List ℕ → Bool) (text : List ℕ) → IsPlain text
    → ((f : List ℕ) → p (47 ∷ 47 ∷ f) ≡ false) → ((f : List ℕ) → p (47 ∷ 42 ∷ f) ≡ false)
    → p text ≡ true → 0 < length text → prefix Rest text ≡ Token (token_at Rest text)
begins_plain p [] h a b e some = absurd (omega arith)
begins_plain p (x ∷ text) h a b e some =
    prefix_token x text (plain_newline x (left _ _ h)) (plain_white x (left _ _ h))
    (no_comment p (x ∷ text) 47 a e) (no_comment p (x ∷ text) 42 b e)

begins_quoted : (q : ℕ) (text : List ℕ) → (q == 10) ≡ false → is_line_space q ≡ false
    → (47 == q) ≡ false → Quoted q text → prefix Rest text ≡ Token (token_at Rest text)
begins_quoted q text a b c (short inner e) =
    prefix_token q inner a b (rw c refl) (rw c refl)
begins_quoted q text a b c (wide inner e) = refl

------ no newline

abbrev no_newline : List ℕ → Type 0
no_newline text = list_any (λ byte. byte == 10) text ≡ false

plain_line : (text : List ℕ) → IsPlain text → no_newline text
plain_line [] h = refl
plain_line (x ∷ xs) h =
    rw (plain_newline x (left _ _ h)) (plain_line xs (right (is_plain x) _ h))

empty_line : (xs : List ℕ) → is_empty xs ≡ true → no_newline xs
empty_line [] e = refl
empty_line (x ∷ xs) e = absurd (cc)

not_newline : (a : Bool) → not a ≡ true → a ≡ false
not_newline true e = absurd (cc)
not_newline false e = refl

closed_line : (q : ℕ) (escaped : Bool) (xs : List ℕ) → closes true q escaped xs ≡ true
    → no_newline xs
closed_line q escaped [] e = absurd (cc)
closed_line q true (x ∷ xs) e =
    rw (not_newline _ (left (not (x == 10)) _ e)) (closed_line q false xs (right _ _ e))
closed_line q false (x ∷ xs) e =
    let f = right (not (x == 10)) _ e in
    rw (not_newline _ (left (not (x == 10)) _ e)) (elim (x == q) as
    (λ b. cond b (is_empty xs) (closes true q (true && x == 92) xs) ≡ true → no_newline xs) [
      | true ↦ λ g. empty_line xs g
      | false ↦ λ g. closed_line q (true && x == 92) xs g
    ] f)

quoted_line : (q : ℕ) (text : List ℕ) → (q == 10) ≡ false → Quoted q text → no_newline text
quoted_line q text a (short inner e) = rw a (closed_line q false inner e)
quoted_line q text a (wide inner e) = rw a (closed_line q false inner e)

------ one token

positive : (n : ℕ) → 0 < n → nat_lt 0 n ≡ true
positive n h = grind (arith, nat_tests)

itself : (n : ℕ) → (n == n) ≡ true
itself n = grind (arith, nat_tests)

whole : (kind : PpKind) (text : List ℕ) → no_newline text → 0 < length text
    → prefix Rest text ≡ Token (token_at Rest text)
    → longest_token text ≡ found kind (length text) → whole_token text ≡ Some kind
whole kind text line some p e =
    let there : token_at Rest text ≡ found kind (length text) =
    rw (e, positive (length text) some) refl in
    rw (line, p, there, itself (length text)) refl

not_empty : (p : List ℕ → Bool) (text : List ℕ) → p [] ≡ false → p text ≡ true → 0 < length text
not_empty p [] e h = absurd (cc)
not_empty p (x ∷ text) e h = omega arith

no_slashes : (f : List ℕ) → is_punctuator (47 ∷ 47 ∷ f) ≡ false
no_slashes [] = refl
no_slashes (x ∷ []) = refl
no_slashes (x ∷ y ∷ f) = refl

no_star : (f : List ℕ) → is_punctuator (47 ∷ 42 ∷ f) ≡ false
no_star [] = refl
no_star (x ∷ []) = refl
no_star (x ∷ y ∷ f) = refl

whole_identifier : (text : List ℕ) → is_identifier text ≡ true → whole_token text ≡ Some Identifier
whole_identifier text e =
    let h = plain_identifier text e in
    let n = not_empty is_identifier text refl e in
    whole Identifier text (plain_line text h) n
    (begins_plain is_identifier text h (λ f. refl) (λ f. refl) e n)
    (choose-identifier _ _ _ _ _ (length text) (same is_identifier text e)
    (most is_number text) (most is_char_constant text) (most is_string_literal text)
    (most is_punctuator text))

whole_number : (text : List ℕ) → is_number text ≡ true → whole_token text ≡ Some Number
whole_number text e =
    let h = plain_number_text text e in
    let n = not_empty is_number text refl e in
    whole Number text (plain_line text h) n
    (begins_plain is_number text h (λ f. refl) (λ f. refl) e n)
    (choose-number _ _ _ _ _ (length text) (less is_identifier text (number_alone text e) n)
    (same is_number text e) (most is_char_constant text) (most is_string_literal text)
    (most is_punctuator text))

whole_punctuator : (text : List ℕ) → is_punctuator text ≡ true → whole_token text ≡ Some Punctuator
whole_punctuator text e =
    let h = plain_punctuator text e in
    let n = not_empty is_punctuator text refl e in
    whole Punctuator text (plain_line text h) n
    (begins_plain is_punctuator text h no_slashes no_star e n)
    (choose-punctuator _ _ _ _ _ (length text)
    (less is_identifier text (punctuator_no_identifier text e) n)
    (less is_number text (punctuator_no_number text e) n)
    (less is_char_constant text (unquoted 39 text h refl) n)
    (less is_string_literal text (unquoted 34 text h refl) n) (same is_punctuator text e))

some_quoted : (q : ℕ) (text : List ℕ) → Quoted q text → 0 < length text
some_quoted q text (short inner e) = omega arith
some_quoted q text (wide inner e) = omega arith

char_no_identifier : (text : List ℕ) → Quoted 39 text → is_identifier text ≡ false
char_no_identifier text (short inner e) = refl
char_no_identifier text (wide inner e) = refl

char_no_number : (text : List ℕ) → Quoted 39 text → is_number text ≡ false
char_no_number text (short inner e) = refl
char_no_number text (wide inner e) = refl

string_no_identifier : (text : List ℕ) → Quoted 34 text → is_identifier text ≡ false
string_no_identifier text (short inner e) = refl
string_no_identifier text (wide inner e) = refl

string_no_number : (text : List ℕ) → Quoted 34 text → is_number text ≡ false
string_no_number text (short inner e) = refl
string_no_number text (wide inner e) = refl

string_no_char : (text : List ℕ) → Quoted 34 text → is_char_constant text ≡ false
string_no_char text (short inner e) = refl
string_no_char text (wide inner e) = refl

whole_char : (text : List ℕ) → is_char_constant text ≡ true → whole_token text ≡ Some CharConstant
whole_char text e =
    let q = quoted 39 text e in
    let n = some_quoted 39 text q in
    whole CharConstant text (quoted_line 39 text refl q) n
    (begins_quoted 39 text refl refl refl q)
    (choose-char _ _ _ _ _ (length text) (less is_identifier text (char_no_identifier text q) n)
    (less is_number text (char_no_number text q) n) (same is_char_constant text e)
    (most is_string_literal text) (most is_punctuator text))

whole_string : (text : List ℕ) → is_string_literal text ≡ true
    → whole_token text ≡ Some StringLiteral
whole_string text e =
    let q = quoted 34 text e in
    let n = some_quoted 34 text q in
    whole StringLiteral text (quoted_line 34 text refl q) n
    (begins_quoted 34 text refl refl refl q)
    (choose-string _ _ _ _ _ (length text)
    (less is_identifier text (string_no_identifier text q) n)
    (less is_number text (string_no_number text q) n)
    (less is_char_constant text (string_no_char text q) n) (same is_string_literal text e)
    (most is_punctuator text))

pub whole_spelling : (kind : PpKind) (text : List ℕ) → is_spelling kind text ≡ true
    → whole_token text ≡ Some kind
whole_spelling Identifier text e = whole_identifier text e
whole_spelling Number text e = whole_number text e
whole_spelling CharConstant text e = whole_char text e
whole_spelling StringLiteral text e = whole_string text e
whole_spelling HeaderName text e = absurd (cc)
whole_spelling Punctuator text e = whole_punctuator text e
whole_spelling Other text e = absurd (cc)
