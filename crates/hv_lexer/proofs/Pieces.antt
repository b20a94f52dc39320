-- A spelling with a gap after it: the longest token is the spelling, and there is no splice in it.
use Rattle.std.proofs.Common.{◌≡◌, ℕ, ◌<◌, Bool, true, false, List, [], ◌∷◌, ◌++◌, refl, arith, length, codes}
use Rattle.std.specs.Prelude.{◌==◌, nat_eq}
use Rattle.std.specs.List.{starts_with}
use Rattle.std.proofs.lemmas.Bool.Decides.{nat_tests}
use Rattle.hv_base.specs.Ascii.{is_line_space}
use Rattle.hv_toks.specs.declared.prefix.Prefix.TheVariants.{Token}
use Rattle.hv_toks.specs.declared.prefix.LinePrefix.{LinePrefix}
use Rattle.hv_toks.specs.declared.token.PpKind.{PpKind}
use Rattle.hv_toks.specs.declared.token.PpKind.TheVariants.{Identifier, Number, CharConstant, StringLiteral, HeaderName, Punctuator, Other}
use Rattle.hv_toks.specs.Lexical.{is_identifier, is_number, is_char_constant, is_string_literal, is_punctuator}
use Rattle.hv_toks.specs.Cutting.{found, longest_token, token_at, prefix}
use Rattle.hv_lexer.specs.Printed.{is_spelling}
use Rattle.hv_lexer.proofs.ByteTests.{never_both, two}
use Rattle.hv_lexer.proofs.LongerLemmas.{choose-identifier, choose-number, choose-char, choose-string, choose-punctuator}
use Rattle.hv_lexer.proofs.Spellings.{is_plain, IsPlain, left, refuted, plain_identifier, plain_number_text, plain_punctuator, stops_plain, stops_unquoted, unquoted, number_alone, punctuator_no_identifier, punctuator_no_number, Quoted, short, wide, quoted, closed}
use Rattle.hv_lexer.proofs.LongestStops.{Stops, stopped-most, stopped-less, stopped-whole}
use Rattle.hv_lexer.proofs.Unspliced.{IsUnspliced, plain_unspliced, closes_unspliced}

-- what a spelling with a gap after it is cut into
pub record Parts (kind : PpKind) (text : List ℕ) (byte : ℕ) : Type 0 where
  pub some : 0 < length text
  pub longest_here : (rest : List ℕ)
      → longest_token (text ++ byte ∷ rest) ≡ found kind (length text)
  pub begins : (line : LinePrefix) (rest : List ℕ)
      → prefix line (text ++ byte ∷ rest) ≡ Token (token_at line (text ++ byte ∷ rest))
  pub joins : (rest : List ℕ) → IsUnspliced (byte ∷ rest) → IsUnspliced (text ++ byte ∷ rest)

-- a byte that ends each spelling
pub record Gap (byte : ℕ) : Type 0 where
  pub plain : is_plain byte ≡ false
  pub single : (byte == 39) ≡ false
  pub double : (byte == 34) ≡ false
  pub slash : (47 == byte) ≡ false
  pub star : (42 == byte) ≡ false

prefix_token : (line : LinePrefix) (x : ℕ) (xs : List ℕ) → (x == 10) ≡ false
    → is_line_space x ≡ false → starts_with nat_eq (x ∷ xs) (codes "//") ≡ false
    → starts_with nat_eq (x ∷ xs) (codes "/*") ≡ false
    → prefix line (x ∷ xs) ≡ Token (token_at line (x ∷ xs))
prefix_token line x xs a b c d = rw (a, b, c, d) refl

plain_newline : (x : ℕ) → is_plain x ≡ true → (x == 10) ≡ false
plain_newline x e = grind (arith, nat_tests)

plain_white : (x : ℕ) → is_plain x ≡ true → is_line_space x ≡ false
plain_white x e = grind (arith, nat_tests)

no_comment : (p : List ℕ → Bool) (text : List ℕ) (byte c : ℕ) (rest : List ℕ)
    → ((f : List ℕ) → p (47 ∷ c ∷ f) ≡ false) → p text ≡ true → 0 < length text
    → (c == byte) ≡ false → starts_with nat_eq (text ++ byte ∷ rest) (47 ∷ c ∷ []) ≡ false
no_comment p [] byte c rest h e some b = absurd (omega arith)
no_comment p (x ∷ []) byte c rest h e some b = rw b (never_both (47 == x))
no_comment p (x ∷ y ∷ text) byte c rest h e some b =
    refuted _ (λ g. let t = two 47 c x y g in let f : p (47 ∷ c ∷ text) ≡ true = rw (t.0, t.1) at e
    in let n = h text in absurd (cc))

begins_plain : (p : List ℕ → Bool) (text : List ℕ) (byte : ℕ) (line : LinePrefix) (rest : List ℕ)
    → Gap byte → IsPlain text
    → ((f : List ℕ) → p (47 ∷ 47 ∷ f) ≡ false) → ((f : List ℕ) → p (47 ∷ 42 ∷ f) ≡ false)
    → p text ≡ true → 0 < length text
    → prefix line (text ++ byte ∷ rest) ≡ Token (token_at line (text ++ byte ∷ rest))
begins_plain p [] byte line rest g h a b e some = absurd (omega arith)
begins_plain p (x ∷ text) byte line rest g h a b e some =
    prefix_token line x (text ++ byte ∷ rest) (plain_newline x (left _ _ h))
    (plain_white x (left _ _ h))
    (no_comment p (x ∷ text) byte 47 rest a e some g.slash)
    (no_comment p (x ∷ text) byte 42 rest b e some g.star)

not_empty : (p : List ℕ → Bool) (text : List ℕ) → p [] ≡ false → p text ≡ true → 0 < length text
not_empty p [] e h = absurd (cc)
not_empty p (x ∷ text) e h = omega arith

module _ (byte : ℕ) (g : Gap byte) where
  identifier_stops : (text : List ℕ) → Stops is_identifier text byte
  identifier_stops text = stops_plain is_identifier text byte plain_identifier g.plain

  number_stops : (text : List ℕ) → Stops is_number text byte
  number_stops text = stops_plain is_number text byte plain_number_text g.plain

  punctuator_stops : (text : List ℕ) → Stops is_punctuator text byte
  punctuator_stops text = stops_plain is_punctuator text byte plain_punctuator g.plain

  char_stops : (text : List ℕ) → IsPlain text → 0 < length text → Stops is_char_constant text byte
  char_stops text h some = stops_unquoted 39 text byte h refl some g.single

  string_stops : (text : List ℕ) → IsPlain text → 0 < length text
      → Stops is_string_literal text byte
  string_stops text h some = stops_unquoted 34 text byte h refl some g.double

  identifier_parts : (text : List ℕ) → is_identifier text ≡ true → Parts Identifier text byte
  identifier_parts text e =
      let h = plain_identifier text e in
      let n = not_empty is_identifier text refl e in
      record {
        some = n;
        longest_here = λ rest. choose-identifier _ _ _ _ _ (length text)
            (stopped-whole is_identifier text byte rest (identifier_stops text) e n)
            (stopped-most is_number text byte rest (number_stops text))
            (stopped-most is_char_constant text byte rest (char_stops text h n))
            (stopped-most is_string_literal text byte rest (string_stops text h n))
            (stopped-most is_punctuator text byte rest (punctuator_stops text));
        begins =
            λ line rest. begins_plain is_identifier text byte line rest g h (λ f. refl) (λ f. refl)
            e n;
        joins = λ rest u. plain_unspliced text byte rest h u;
      }

  number_parts : (text : List ℕ) → is_number text ≡ true → Parts Number text byte
  number_parts text e =
      let h = plain_number_text text e in
      let n = not_empty is_number text refl e in
      record {
        some = n;
        longest_here = λ rest. choose-number _ _ _ _ _ (length text)
            (stopped-less is_identifier text byte rest (identifier_stops text) (number_alone text e)
            n)
            (stopped-whole is_number text byte rest (number_stops text) e n)
            (stopped-most is_char_constant text byte rest (char_stops text h n))
            (stopped-most is_string_literal text byte rest (string_stops text h n))
            (stopped-most is_punctuator text byte rest (punctuator_stops text));
        begins =
            λ line rest. begins_plain is_number text byte line rest g h (λ f. refl) (λ f. refl) e n;
        joins = λ rest u. plain_unspliced text byte rest h u;
      }

  no_slashes : (f : List ℕ) → is_punctuator (47 ∷ 47 ∷ f) ≡ false
  no_slashes [] = refl
  no_slashes (x ∷ []) = refl
  no_slashes (x ∷ y ∷ f) = refl

  no_star : (f : List ℕ) → is_punctuator (47 ∷ 42 ∷ f) ≡ false
  no_star [] = refl
  no_star (x ∷ []) = refl
  no_star (x ∷ y ∷ f) = refl

  punctuator_parts : (text : List ℕ) → is_punctuator text ≡ true → Parts Punctuator text byte
  punctuator_parts text e =
      let h = plain_punctuator text e in
      let n = not_empty is_punctuator text refl e in
      record {
        some = n;
        longest_here = λ rest. choose-punctuator _ _ _ _ _ (length text)
            (stopped-less is_identifier text byte rest (identifier_stops text)
            (punctuator_no_identifier text e) n)
            (stopped-less is_number text byte rest (number_stops text) (punctuator_no_number text e)
            n)
            (stopped-less is_char_constant text byte rest (char_stops text h n)
            (unquoted 39 text h refl) n)
            (stopped-less is_string_literal text byte rest (string_stops text h n)
            (unquoted 34 text h refl) n)
            (stopped-whole is_punctuator text byte rest (punctuator_stops text) e n);
        begins =
            λ line rest. begins_plain is_punctuator text byte line rest g h no_slashes no_star e n;
        joins = λ rest u. plain_unspliced text byte rest h u;
      }

  quoted_some : (q : ℕ) (text : List ℕ) → Quoted q text → 0 < length text
  quoted_some q text (short inner e) = omega arith
  quoted_some q text (wide inner e) = omega arith

  char_closed : (text : List ℕ) → Quoted 39 text → Stops is_char_constant text byte
  char_closed text (short inner e) = λ f. rw (closed 39 false inner byte f e) refl
  char_closed text (wide inner e) = λ f. rw (closed 39 false inner byte f e) refl

  string_closed : (text : List ℕ) → Quoted 34 text → Stops is_string_literal text byte
  string_closed text (short inner e) = λ f. rw (closed 34 false inner byte f e) refl
  string_closed text (wide inner e) = λ f. rw (closed 34 false inner byte f e) refl

  char_no_string : (text : List ℕ) → Quoted 39 text → Stops is_string_literal text byte
  char_no_string text (short inner e) = λ f. refl
  char_no_string text (wide inner e) = λ f. refl

  string_no_char : (text : List ℕ) → Quoted 34 text → Stops is_char_constant text byte
  string_no_char text (short inner e) = λ f. refl
  string_no_char text (wide inner e) = λ f. refl

  char_no_identifier : (text : List ℕ) → Quoted 39 text → is_identifier text ≡ false
  char_no_identifier text (short inner e) = refl
  char_no_identifier text (wide inner e) = refl

  char_no_number : (text : List ℕ) → Quoted 39 text → is_number text ≡ false
  char_no_number text (short inner e) = refl
  char_no_number text (wide inner e) = refl

  string_no_identifier : (text : List ℕ) → Quoted 34 text → is_identifier text ≡ false
  string_no_identifier text (short inner e) = refl
  string_no_identifier text (wide inner e) = refl

  string_no_number : (text : List ℕ) → Quoted 34 text → is_number text ≡ false
  string_no_number text (short inner e) = refl
  string_no_number text (wide inner e) = refl

  string_is_no_char : (text : List ℕ) → Quoted 34 text → is_char_constant text ≡ false
  string_is_no_char text (short inner e) = refl
  string_is_no_char text (wide inner e) = refl

  char_begins : (text : List ℕ) (line : LinePrefix) (rest : List ℕ) → Quoted 39 text
      → prefix line (text ++ byte ∷ rest) ≡ Token (token_at line (text ++ byte ∷ rest))
  char_begins text line rest (short inner e) = refl
  char_begins text line rest (wide inner e) = refl

  string_begins : (text : List ℕ) (line : LinePrefix) (rest : List ℕ) → Quoted 34 text
      → prefix line (text ++ byte ∷ rest) ≡ Token (token_at line (text ++ byte ∷ rest))
  string_begins text line rest (short inner e) = refl
  string_begins text line rest (wide inner e) = refl

  char_joins : (text rest : List ℕ) → Quoted 39 text → IsUnspliced (byte ∷ rest)
      → IsUnspliced (text ++ byte ∷ rest)
  char_joins text rest (short inner e) u = (refl, closes_unspliced 39 inner byte rest refl e u)
  char_joins text rest (wide inner e) u =
      (refl, (refl, closes_unspliced 39 inner byte rest refl e u))

  string_joins : (text rest : List ℕ) → Quoted 34 text → IsUnspliced (byte ∷ rest)
      → IsUnspliced (text ++ byte ∷ rest)
  string_joins text rest (short inner e) u = (refl, closes_unspliced 34 inner byte rest refl e u)
  string_joins text rest (wide inner e) u =
      (refl, (refl, closes_unspliced 34 inner byte rest refl e u))

  char_parts : (text : List ℕ) → is_char_constant text ≡ true → Parts CharConstant text byte
  char_parts text e =
      let q = quoted 39 text e in
      let n = quoted_some 39 text q in
      record {
        some = n;
        longest_here = λ rest. choose-char _ _ _ _ _ (length text)
            (stopped-less is_identifier text byte rest (identifier_stops text)
            (char_no_identifier text q) n)
            (stopped-less is_number text byte rest (number_stops text) (char_no_number text q) n)
            (stopped-whole is_char_constant text byte rest (char_closed text q) e n)
            (stopped-most is_string_literal text byte rest (char_no_string text q))
            (stopped-most is_punctuator text byte rest (punctuator_stops text));
        begins = λ line rest. char_begins text line rest q;
        joins = λ rest u. char_joins text rest q u;
      }

  string_parts : (text : List ℕ) → is_string_literal text ≡ true → Parts StringLiteral text byte
  string_parts text e =
      let q = quoted 34 text e in
      let n = quoted_some 34 text q in
      record {
        some = n;
        longest_here = λ rest. choose-string _ _ _ _ _ (length text)
            (stopped-less is_identifier text byte rest (identifier_stops text)
            (string_no_identifier text q) n)
            (stopped-less is_number text byte rest (number_stops text) (string_no_number text q) n)
            (stopped-less is_char_constant text byte rest (string_no_char text q)
            (string_is_no_char text q) n)
            (stopped-whole is_string_literal text byte rest (string_closed text q) e n)
            (stopped-most is_punctuator text byte rest (punctuator_stops text));
        begins = λ line rest. string_begins text line rest q;
        joins = λ rest u. string_joins text rest q u;
      }

  pub parts : (kind : PpKind) (text : List ℕ) → is_spelling kind text ≡ true → Parts kind text byte
  parts Identifier text e = identifier_parts text e
  parts Number text e = number_parts text e
  parts CharConstant text e = char_parts text e
  parts StringLiteral text e = string_parts text e
  parts HeaderName text e = absurd (cc)
  parts Punctuator text e = punctuator_parts text e
  parts Other text e = absurd (cc)
