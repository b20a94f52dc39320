-- Texts without splices, which the splicing of lines leaves as they are.
use Rattle.std.proofs.Common.{◌≡◌, ℕ, ◌+◌, Bool, true, false, cond, not, List, [], ◌∷◌, ◌++◌, refl, ap, arith, map}
use Rattle.std.specs.Prelude.{◌&&◌, ◌||◌, ◌==◌}
use Rattle.std.proofs.lemmas.Bool.Decides.{nat_tests}
use Rattle.hv_toks.specs.Lexical.{closes}
use Rattle.hv_toks.specs.Splices.{marks_from, splice_len, spliced}
use Rattle.hv_lexer.proofs.ByteTests.{never_both}
use Rattle.hv_lexer.proofs.Spellings.{is_plain, IsPlain, left, right, both}

abbrev pub IsUnspliced : List ℕ → Type 0
IsUnspliced [] = Unit {0}
IsUnspliced (byte ∷ bytes) = (splice_len (byte ∷ bytes) ≡ 0) × IsUnspliced bytes

stays : (offset : ℕ) (bytes : List ℕ) → IsUnspliced bytes
    → map (λ mark. mark.byte) (marks_from 0 offset bytes) ≡ bytes
stays offset [] h = refl
stays offset (byte ∷ bytes) h =
    rw (h.0, marks_from) (ap (λ t. byte ∷ t) (stays (offset + 1) bytes h.1))

pub spliced_same : (bytes : List ℕ) → IsUnspliced bytes → spliced bytes ≡ bytes
spliced_same bytes h = stays 0 bytes h

pub one_not : (b : ℕ) (bytes : List ℕ) → (92 == b) ≡ false → splice_len (b ∷ bytes) ≡ 0
one_not b bytes e = rw e refl

two_not : (b c : ℕ) (bytes : List ℕ) → (10 == c) ≡ false → (13 == c) ≡ false
    → splice_len (b ∷ c ∷ bytes) ≡ 0
two_not b c bytes e f = rw (e, f, never_both (92 == b)) refl

three_not : (b c d : ℕ) (bytes : List ℕ) → (10 == c) ≡ false → (10 == d) ≡ false
    → splice_len (b ∷ c ∷ d ∷ bytes) ≡ 0
three_not b c d bytes e f = rw (e, f, never_both (13 == c), never_both (92 == b)) refl

plain_backslash : (b : ℕ) → is_plain b ≡ true → (92 == b) ≡ false
plain_backslash b e = grind (arith, nat_tests)

pub plain_unspliced : (text : List ℕ) (byte : ℕ) (rest : List ℕ) → IsPlain text
    → IsUnspliced (byte ∷ rest) → IsUnspliced (text ++ byte ∷ rest)
plain_unspliced [] byte rest h u = u
plain_unspliced (x ∷ text) byte rest h u = (
  one_not x (text ++ byte ∷ rest) (plain_backslash x (left _ _ h)),
  plain_unspliced text byte
      rest (right _ _ h) u,
)

-- what is quoted has no newline and ends in a quote

abbrev is_quote : ℕ → Bool
is_quote byte = byte == 34 || byte == 39

abbrev ends_quoted : List ℕ → Bool
ends_quoted [] = false
ends_quoted (b ∷ []) = is_quote b
ends_quoted (b ∷ c ∷ rest) = not (b == 10) && ends_quoted (c ∷ rest)

whether : (t : Bool) → cond t true false ≡ true → t ≡ true
whether true e = refl
whether false e = absurd (cc)

goes_on : (t c : Bool) → cond t false c ≡ true → c ≡ true
goes_on true c e = absurd (cc)
goes_on false c e = e

this_quote : (q b : ℕ) → is_quote q ≡ true → (b == q) ≡ true → is_quote b ≡ true
this_quote q b h e = let s : b ≡ q = grind (arith, nat_tests) in rw s h

closes_quoted : (q : ℕ) (escaped : Bool) (text : List ℕ) → is_quote q ≡ true
    → closes true q escaped text ≡ true → ends_quoted text ≡ true
closes_quoted q escaped [] h e = absurd (cc)
closes_quoted q true (b ∷ []) h e = let g : false ≡ true = right (not (b == 10)) false e in
    absurd (cc)
closes_quoted q true (b ∷ c ∷ rest) h e =
    both _ _ (left _ _ e) (closes_quoted q false (c ∷ rest) h (right _ _ e))
closes_quoted q false (b ∷ []) h e = this_quote q b h (whether (b == q) (right _ _ e))
closes_quoted q false (b ∷ c ∷ rest) h e =
    both _ _ (left _ _ e) (closes_quoted q (b == 92) (c ∷ rest) h
    (goes_on (b == q) _ (right _ _ e)))

quote_newline : (b : ℕ) → is_quote b ≡ true → (10 == b) ≡ false
quote_newline b e = grind (arith, nat_tests)

quote_return : (b : ℕ) → is_quote b ≡ true → (13 == b) ≡ false
quote_return b e = grind (arith, nat_tests)

quote_backslash : (b : ℕ) → is_quote b ≡ true → (92 == b) ≡ false
quote_backslash b e = grind (arith, nat_tests)

no_newline : (b : ℕ) → not (b == 10) ≡ true → (10 == b) ≡ false
no_newline b e = grind (arith, nat_tests)

first_newline : (b : ℕ) (rest : List ℕ) → ends_quoted (b ∷ rest) ≡ true → (10 == b) ≡ false
first_newline b [] e = quote_newline b e
first_newline b (c ∷ rest) e = no_newline b (left _ _ e)

quoted_unspliced : (text : List ℕ) (byte : ℕ) (rest : List ℕ) → ends_quoted text ≡ true
    → IsUnspliced (byte ∷ rest) → IsUnspliced (text ++ byte ∷ rest)
quoted_unspliced [] byte rest h u = absurd (cc)
quoted_unspliced (b ∷ []) byte rest h u = (one_not b (byte ∷ rest) (quote_backslash b h), u)
quoted_unspliced (b ∷ c ∷ []) byte rest h u =
    let e : is_quote c ≡ true = right _ _ h in (
      two_not b c (byte ∷ rest) (quote_newline c e) (quote_return c e),
      quoted_unspliced (c ∷ [])
          byte rest e u,
    )
quoted_unspliced (b ∷ c ∷ d ∷ text) byte rest h u =
    let e : ends_quoted (c ∷ d ∷ text) ≡ true = right _ _ h in (
      three_not b c d (text ++ byte ∷ rest) (first_newline c (d ∷ text) e)
          (first_newline d text (right _ _ e)),
      quoted_unspliced (c ∷ d ∷ text) byte rest e u,
    )

pub closes_unspliced : (q : ℕ) (text : List ℕ) (byte : ℕ) (rest : List ℕ)
    → (q == 34 || q == 39) ≡ true → closes true q false text ≡ true
    → IsUnspliced (byte ∷ rest) → IsUnspliced (text ++ byte ∷ rest)
closes_unspliced q text byte rest h e u =
    quoted_unspliced text byte rest (closes_quoted q false text h e) u
