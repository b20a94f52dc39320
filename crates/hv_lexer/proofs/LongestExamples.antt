-- Tokens that are the longest where they start, and others that are not.
use Rattle.std.proofs.Common.{◌≡◌, ℕ, ◌+◌, Bool, true, false, List, [], ◌∷◌, ◌++◌, length, take, refl, sym, ◌∙◌, ap, arith, codes}
use Rattle.std.specs.Prelude.{◌==◌, slice_index}
use Rattle.std.proofs.lemmas.Bool.Decides.{nat_tests}
use Rattle.std.proofs.lemmas.List.Elements.{All-nil, All-cons}
use Rattle.hv_toks.specs.declared.token.PpKind.{PpKind}
use Rattle.hv_toks.specs.declared.token.PpKind.TheVariants.{Identifier, Number, CharConstant, StringLiteral, HeaderName, Punctuator, Other}
use Rattle.hv_toks.specs.declared.token.PpTok.{PpTok}
use Rattle.hv_toks.specs.Lexical.{longest, is_identifier, is_number, is_char_constant, is_string_literal, is_header_name, is_punctuator}
use Rattle.hv_toks.specs.Splices.{IsSpliced, all, splice, long_splice, keep}
use Rattle.hv_lexer.specs.Laws.{NoneLonger, IsLongestToken, IsLongestAtItsPlace, AreLongest}
use Rattle.hv_lexer.specs.Printed.{is_spelling}
use Rattle.hv_lexer.proofs.LongestLemmas.{longest-is}
use Rattle.hv_lexer.proofs.Unspliced.{IsUnspliced}

none_longer : (test : List ℕ → Bool) (start rest : List ℕ)
    → longest (λ more. test (start ++ more)) rest ≡ 0 → NoneLonger test start rest
none_longer test start rest e =
    λ n some within. (longest-is (λ more. test (start ++ more)) rest).1 n (rw e some) within

differ : (a b : ℕ) → (a == b) ≡ false → a ≡ b → ⊥
differ a b t e = grind (arith, nat_tests)

-- how far a token of this category goes after `start`
abbrev more : (start rest : List ℕ) → PpKind → ℕ
more start rest kind = longest (λ prefix. is_spelling kind (start ++ prefix)) rest

no_more : (start rest : List ℕ)
    → more start rest Identifier + more start rest Number + more start rest CharConstant + more
    start rest StringLiteral + more start rest Punctuator ≡ 0
    → (kind : PpKind) → NoneLonger (is_spelling kind) start rest
no_more start rest e Identifier = none_longer is_identifier start rest (omega arith)
no_more start rest e Number = none_longer is_number start rest (omega arith)
no_more start rest e CharConstant = none_longer is_char_constant start rest (omega arith)
no_more start rest e StringLiteral = none_longer is_string_literal start rest (omega arith)
no_more start rest e HeaderName = λ k some within. refl
no_more start rest e Punctuator = none_longer is_punctuator start rest (omega arith)
no_more start rest e Other = λ k some within. refl

-- 6.4 gives these two: one number, and `x ++ ++ + y`
number : IsLongestToken Number (codes "1Ex") []
number = (refl, no_more (codes "1Ex") [] refl)

not_the_digit : IsLongestToken Number (codes "1") (codes "Ex") → ⊥
not_the_digit h = let e : true ≡ false = h.1 Number 2 (omega arith) (omega arith) in cc

x : IsLongestToken Identifier (codes "x") (codes "+++++y")
x = (refl, no_more (codes "x") (codes "+++++y") refl)

plus_plus : IsLongestToken Punctuator (codes "++") (codes "+++y")
plus_plus = (refl, no_more (codes "++") (codes "+++y") refl)

next_plus_plus : IsLongestToken Punctuator (codes "++") (codes "+y")
next_plus_plus = (refl, no_more (codes "++") (codes "+y") refl)

plus : IsLongestToken Punctuator (codes "+") (codes "y")
plus = (refl, no_more (codes "+") (codes "y") refl)

not_plus : IsLongestToken Punctuator (codes "+") (codes "++y") → ⊥
not_plus h = let e : true ≡ false = h.1 Punctuator 1 (omega arith) (omega arith) in cc

not_three : IsLongestToken Punctuator (codes "+++") (codes "++y") → ⊥
not_three h = let e : false ≡ true = h.0 in cc

-- 6.4.7 gives these: a `<` that begins no header name, one that does, and a byte that fits nothing
less : IsLongestToken Punctuator (codes "<") (codes "1/a.h>1e2")
less = (refl, no_more (codes "<") (codes "1/a.h>1e2") refl)

header : IsLongestToken HeaderName (codes "<1/a.h>") (10 ∷ [])
header = (refl, none_longer is_header_name (codes "<1/a.h>") (10 ∷ []) refl)

at_sign : IsLongestToken Other (codes "@") (codes "$")
at_sign = (no_more [] (codes "@$") refl, refl)

not_both : IsLongestToken Other (codes "@$") [] → ⊥
not_both h = differ 2 1 refl h.1

-- a sign within a number (6.4.8), and no token within another
signed : IsLongestToken Number (codes "0xe+1") (codes "-1")
signed = (refl, no_more (codes "0xe+1") (codes "-1") refl)

wide : IsLongestToken CharConstant (codes "L'a'") (codes "'")
wide = (refl, no_more (codes "L'a'") (codes "'") refl)

not_its_letter : IsLongestToken Identifier (codes "L") (codes "'a'") → ⊥
not_its_letter h = let e : true ≡ false = h.1 CharConstant 3 (omega arith) (omega arith) in cc

-- a quote that is not closed on its line goes with all the line; one that is closed does not
unclosed : IsLongestToken Other (codes "'ab") (13 ∷ 10 ∷ codes "'")
unclosed = (no_more [] (codes "'ab" ++ 13 ∷ 10 ∷ codes "'") refl, refl)

not_the_quote : IsLongestToken Other (codes "'") (codes "ab") → ⊥
not_the_quote h = differ 1 3 refl h.1

not_closed : IsLongestToken Other (codes "'ab'") [] → ⊥
not_closed h = let e : true ≡ false = h.0 CharConstant 4 (omega arith) (omega arith) in cc

-- whole files: a token over two lines, and one that is cut apart
abbrev plus_at : (start end : ℕ) → List ℕ → PpTok
plus_at start end text =
    record {
      kind = Punctuator;
      span = record { file = 0; start = start; end = end };
      text = text;
      space = false;
      first = false;
    }

over_lines : AreLongest (plus_at 0 4 (codes "++") ∷ []) (43 ∷ 92 ∷ 10 ∷ 43 ∷ [])
over_lines =
    let longest_here : IsLongestToken Punctuator (codes "++") [] =
    (refl, no_more (codes "++") [] refl) in
    let here : IsLongestAtItsPlace (plus_at 0 4 (codes "++")) (codes "++") (0 ∷ 3 ∷ []) =
    record { before = []; rest = []; stands = refl; starts = refl; longest = longest_here } in
    let P : PpTok → Type 0 = λ tok. IsLongestAtItsPlace tok (codes "++") (0 ∷ 3 ∷ []) in (
      codes "++",
      (
        0 ∷ 3 ∷
            [],
        (
          keep 43 refl (splice (keep 43 refl all)),
          All-cons P (plus_at 0 4 (codes "++")) [] here
              (All-nil P),
        ),
      ),
    )

abbrev counted : ℕ → List ℕ → List ℕ
counted offset [] = []
counted offset (byte ∷ bytes) = offset ∷ counted (offset + 1) bytes

same_text : {offset : ℕ} {bytes text places : List ℕ} → IsSpliced offset bytes text places
    → IsUnspliced bytes → text ≡ bytes
same_text all u = refl
same_text (splice s) u = absurd (differ 2 0 refl u.0)
same_text (long_splice s) u = absurd (differ 3 0 refl u.0)
same_text (keep b e s) u = ap (λ t. b ∷ t) (same_text s u.1)

same_places : {offset : ℕ} {bytes text places : List ℕ} → IsSpliced offset bytes text places
    → IsUnspliced bytes → places ≡ counted offset bytes
same_places all u = refl
same_places (splice s) u = absurd (differ 2 0 refl u.0)
same_places (long_splice s) u = absurd (differ 3 0 refl u.0)
same_places {offset = offset} (keep b e s) u = ap (λ t. offset ∷ t) (same_places s u.1)

not_there : (before rest : List ℕ) → codes "x++" ≡ before ++ (codes "+" ++ rest)
    → 1 ≡ slice_index (0 ∷ 1 ∷ 2 ∷ []) (length before)
    → IsLongestToken Punctuator (codes "+") rest → ⊥
not_there [] rest e place h = differ 1 0 refl place
not_there (a ∷ []) rest e place h =
    let p : codes "+" ≡ rest = cc in
    let none : is_spelling Punctuator (codes "+" ++ take 1 rest) ≡ false =
    h.1 Punctuator 1 (omega arith) (omega (arith, ap length p)) in
    let q : true ≡ false = rw (← p) at none in cc
not_there (a ∷ b ∷ []) rest e place h = differ 1 2 refl place
not_there (a ∷ b ∷ c ∷ before) rest e place h = differ 1 0 refl place

not_cut_apart : AreLongest (plus_at 1 2 (codes "+") ∷ []) (codes "x++") → ⊥
not_cut_apart h =
    let unspliced : IsUnspliced (codes "x++") = (refl, (refl, (refl, tt))) in
    let first : IsLongestAtItsPlace (plus_at 1 2 (codes "+")) h.0 h.1.0 =
    h.1.1.1 0 (plus_at 1 2 (codes "+")) (omega arith) in
    not_there first.before first.rest (sym (same_text h.1.1.0 unspliced) ∙ first.stands)
    (first.starts ∙ ap (λ places. slice_index places (length first.before)) (same_places h.1.1.0
    unspliced)) first.longest
