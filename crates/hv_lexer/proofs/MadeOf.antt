-- Between the tokens of a cutting there is nothing but white space and comments; when a token has `space` and `first`.
use Rattle.std.proofs.Common.{◌≡◌, ℕ, zero, suc, ◌+◌, Bool, true, false, List, [], ◌∷◌, ◌++◌, cond, refl, ◌∙◌, ◌-◌, ap, arith, length, take, drop, append_assoc, one-add, ◌⊎◌, inl, inr}
use Rattle.std.specs.Prelude.{nat_eq, ◌==◌, ◌&&◌, not, codes, slice_index}
use Rattle.std.specs.List.{starts_with, list_all}
use Rattle.std.proofs.lemmas.Bool.Decides.{nat_tests}
use Rattle.std.proofs.lemmas.List.{take-append-drop, length-append}
use Rattle.hv_base.specs.Ascii.{is_line_space}
use Rattle.hv_toks.specs.declared.prefix.Prefix.{Prefix}
use Rattle.hv_toks.specs.declared.prefix.Prefix.TheVariants.{End, WhiteSpace, Newline, Comment}
use Rattle.hv_toks.specs.declared.prefix.LinePrefix.{LinePrefix}
use Rattle.hv_toks.specs.declared.token.PpTok.{PpTok}
use Rattle.hv_toks.specs.Splices.{spliced, offsets}
use Rattle.hv_toks.specs.Cutting.{Cutting, Cuts, IsCut, tokens, open_comment, prepend, at_end, at_white, at_newline, at_comment, at_open_comment, at_token, prefix, token, is_start, is_include, ends_line, line_len, closing_len}
use Rattle.hv_lexer.specs.Laws.{GapItem, blank, line_end, comment, IsLineComment, IsBlockComment, IsGap, nothing, white, newline, line_comment, block_comment, is_spaced, is_line_begun, follows_include, IsHeaderRight, IsMadeOf, MadeOf, last, next}
use Rattle.hv_lexer.proofs.Rises.{dropped, same_lengths, same_take}
use Rattle.hv_lexer.proofs.Spliced.{is_spliced}
use Rattle.hv_lexer.proofs.HeaderNames.{Agrees, agrees-after, header-right, may-be, no_start}
use Rattle.hv_lexer.proofs.ByteTests.{not_both, never_both, two, or-left, or-right, first_fails, other_way}
use Rattle.hv_lexer.proofs.PrefixCases.{View, view, view_newline, view_white, view_line, view_open, view_block, view_token}

------ a gap with more before it

spaced-on : (item : GapItem) (spaced : Bool) (items : List GapItem)
    → is_spaced (is_spaced spaced (item ∷ [])) items ≡ is_spaced spaced (item ∷ items)
spaced-on blank spaced items = refl
spaced-on line_end spaced items = refl
spaced-on comment spaced items = refl

begun-on : (item : GapItem) (begins : Bool) (items : List GapItem)
    → is_line_begun (is_line_begun begins (item ∷ [])) items ≡ is_line_begun begins (item ∷ items)
begun-on blank begins items = refl
begun-on line_end begins items = refl
begun-on comment begins items = refl

abbrev Extends : GapItem → List ℕ → Type 0
Extends item prefix = (items : List GapItem) (gap : List ℕ) → IsGap items gap
    → IsGap (item ∷ items) (prefix ++ gap)

extended : (item : GapItem) (prefix prefixes : List ℕ) (before : List PpTok) (begins spaced : Bool)
    (toks : List PpTok) (rest more : List ℕ)
    → length prefix ≡ length prefixes → Extends item prefix
    → MadeOf before (is_line_begun begins (item ∷ [])) (is_spaced spaced (item ∷ [])) toks rest more
    → MadeOf before begins spaced toks (prefix ++ rest) (prefixes ++ more)
extended item prefix prefixes before begins spaced [] rest more same extend
    (last {items = items} g) = last (extend items _ g)
extended item prefix prefixes before begins spaced (_ ∷ toks) _ _ same extend
    (next tok items gap rest earlier here more g len a b c s f h p) =
    let both : length (prefix ++ gap) ≡ length (prefixes ++ earlier) =
    simp length-append (omega arith) in
    rw (
      ← append_assoc prefix gap (tok.text ++ rest),
      ← append_assoc prefixes earlier
          (here ++ more),
    )
    (next tok (item ∷ items) (prefix ++ gap) rest (prefixes ++ earlier) here more
    (extend items gap g) both a b c
    (s ∙ spaced-on item spaced items) (f ∙ begun-on item begins items) h p)

gapped : (item : GapItem) (n : ℕ) (text places : List ℕ) (before : List PpTok)
    (begins spaced : Bool) (toks : List PpTok) → length text ≡ length places
    → Extends item (take n text)
    → MadeOf before (is_line_begun begins (item ∷ [])) (is_spaced spaced (item ∷ [])) toks
    (drop n text) (drop n places) → MadeOf before begins spaced toks text places
gapped item n text places before begins spaced toks same extend p =
    let whole =
    extended item (take n text) (take n places) before begins spaced toks (drop n text)
    (drop n places) (same_take n text places same) extend p in
    rw take-append-drop at (rw take-append-drop at whole)

no_line_end : (byte : ℕ) (bytes : List ℕ) → ends_line (byte ∷ bytes) ≡ false → (byte == 10) ≡ false
no_line_end byte bytes e = other_way 10 byte (first_fails _ _ e)

-- cases

no_end : (line : LinePrefix) (byte : ℕ) (bytes : List ℕ) (f : Prefix) → View line byte bytes f
    → f ≡ End → byte ∷ bytes ≡ []
no_end line byte bytes f (view_newline a) e = cc
no_end line byte bytes f (view_white a) e = cc
no_end line byte bytes f (view_line a) e = cc
no_end line byte bytes f view_open e = cc
no_end line byte bytes f (view_block k a b) e = cc
no_end line byte bytes f view_token e = cc

of_white : (line : LinePrefix) (byte : ℕ) (bytes : List ℕ) (f : Prefix) → View line byte bytes f
    → f ≡ WhiteSpace → is_line_space byte ≡ true
of_white line byte bytes f (view_newline a) e = cc
of_white line byte bytes f (view_white a) e = a
of_white line byte bytes f (view_line a) e = cc
of_white line byte bytes f view_open e = cc
of_white line byte bytes f (view_block k a b) e = cc
of_white line byte bytes f view_token e = cc

of_newline : (line : LinePrefix) (byte : ℕ) (bytes : List ℕ) (f : Prefix) → View line byte bytes f
    → f ≡ Newline → (byte == 10) ≡ true
of_newline line byte bytes f (view_newline a) e = a
of_newline line byte bytes f (view_white a) e = cc
of_newline line byte bytes f (view_line a) e = cc
of_newline line byte bytes f view_open e = cc
of_newline line byte bytes f (view_block k a b) e = cc
of_newline line byte bytes f view_token e = cc

-- line comments

no_newline : (text : List ℕ) → list_all (λ byte. not (byte == 10)) (take (line_len text) text)
    ≡ true
no_newline [] = refl
no_newline (byte ∷ bytes) =
    elim (ends_line (byte ∷ bytes)) as (λ t. ends_line (byte ∷ bytes) ≡ t
    → list_all (λ b. not (b == 10)) (take (cond t 0 (1 + line_len bytes)) (byte ∷ bytes)) ≡ true) [
      | true ↦ λ e. refl
      | false ↦ λ e. rw one-add (rw (no_line_end byte bytes e, no_newline bytes) refl)
    ] refl

pub line_comment-shape : (byte : ℕ) (bytes : List ℕ)
    → starts_with nat_eq (byte ∷ bytes) (codes "//") ≡ true → (rest : List ℕ)
    × (byte ∷ bytes ≡ 47 ∷ 47 ∷ rest)
line_comment-shape byte [] e = absurd (not_both _ e)
line_comment-shape byte (c ∷ bytes) e = let p = two 47 47 byte c e in (bytes, rw (p.0, p.1) refl)

block_comment-shape : (byte : ℕ) (bytes : List ℕ)
    → starts_with nat_eq (byte ∷ bytes) (codes "/*") ≡ true → (rest : List ℕ)
    × (byte ∷ bytes ≡ 47 ∷ 42 ∷ rest)
block_comment-shape byte [] e = absurd (not_both _ e)
block_comment-shape byte (c ∷ bytes) e = let p = two 47 42 byte c e in (bytes, rw (p.0, p.1) refl)

closing-shape : (byte : ℕ) (bytes : List ℕ) → starts_with nat_eq (byte ∷ bytes) (codes "*/") ≡ true
    → (rest : List ℕ) × (byte ∷ bytes ≡ 42 ∷ 47 ∷ rest)
closing-shape byte [] e = absurd (not_both _ e)
closing-shape byte (c ∷ bytes) e = let p = two 42 47 byte c e in (bytes, rw (p.0, p.1) refl)

to_line_comment : (rest : List ℕ)
    → IsLineComment (take (line_len (47 ∷ 47 ∷ rest)) (47 ∷ 47 ∷ rest))
to_line_comment rest =
    let e : line_len (47 ∷ 47 ∷ rest) ≡ suc (suc (line_len rest)) = omega arith in
    rw e (take (line_len rest) rest, refl, no_newline rest)

line_comment-of : (text rest : List ℕ) → text ≡ 47 ∷ 47 ∷ rest
    → IsLineComment (take (line_len text) text)
line_comment-of text rest e = rw e (to_line_comment rest)

is_line_comment : (byte : ℕ) (bytes : List ℕ)
    → starts_with nat_eq (byte ∷ bytes) (codes "//") ≡ true
    → IsLineComment (take (line_len (byte ∷ bytes)) (byte ∷ bytes))
is_line_comment byte bytes e = let p = line_comment-shape byte bytes e in
    line_comment-of (byte ∷ bytes) p.0 p.1

-- block comments

abbrev Closed : List ℕ → ℕ → Type 0
Closed rest n = (inner : List ℕ) × (take (suc n) rest ≡ inner ++ 42 ∷ 47 ∷ [])
    × (closing_len inner ≡ 0)

same_start : (byte : ℕ) (bytes inner : List ℕ) (n : ℕ) → take (suc n) bytes ≡ inner ++ 42 ∷ 47 ∷ []
    → starts_with nat_eq (byte ∷ bytes) (codes "*/") ≡ false
    → starts_with nat_eq (byte ∷ inner) (codes "*/") ≡ false
same_start byte bytes [] n e f = never_both _
same_start byte [] (c ∷ inner) n e f = absurd (cc)
same_start byte (d ∷ bytes) (c ∷ inner) n e f = let p : d ≡ c = cc in rw p at f

longer-inner : (byte : ℕ) (inner : List ℕ) → starts_with nat_eq (byte ∷ inner) (codes "*/") ≡ false
    → closing_len inner ≡ 0 → closing_len (byte ∷ inner) ≡ 0
longer-inner byte inner e f = rw (e, f) refl

closed-of : (text rest : List ℕ) (n : ℕ) → text ≡ 42 ∷ 47 ∷ rest → n ≡ 1 → Closed text n
closed-of text rest n e q = rw (e, q) ([], refl, refl)

closed-here : (byte : ℕ) (bytes : List ℕ) (n : ℕ)
    → starts_with nat_eq (byte ∷ bytes) (codes "*/") ≡ true → 2 ≡ suc n → Closed (byte ∷ bytes) n
closed-here byte bytes n e f =
    let p = closing-shape byte bytes e in
    closed-of (byte ∷ bytes) p.0 n p.1 (omega arith)

closed-later : (byte : ℕ) (bytes : List ℕ) (n m : ℕ)
    → starts_with nat_eq (byte ∷ bytes) (codes "*/") ≡ false → suc (suc m) ≡ suc n → Closed bytes m
    → Closed (byte ∷ bytes) n
closed-later byte bytes n m e f h =
    let q : n ≡ suc m = omega arith in
    rw q (
      byte ∷ h.0,
      ap (λ xs. byte ∷
          xs) h.1,
      longer-inner byte h.0 (same_start byte bytes h.0 m h.1 e) h.2,
    )

closed : (rest : List ℕ) (n : ℕ) → closing_len rest ≡ suc n → Closed rest n
closed [] n e = absurd (cc)
closed (byte ∷ bytes) n e =
    elim (starts_with nat_eq (byte ∷ bytes) (codes "*/")) as (λ t. starts_with nat_eq (byte ∷ bytes)
    (codes "*/") ≡ t → cond t 2 (elim (closing_len bytes) [ zero ↦ 0 | suc k ↦ suc (suc k) ])
    ≡ suc n → Closed (byte ∷ bytes) n) [
      | true ↦ λ f g. closed-here byte bytes n f g
      | false ↦ λ f g. elim (closing_len bytes) as (λ len. closing_len bytes ≡ len
          → elim len [ zero ↦ 0 | suc k ↦ suc (suc k) ] ≡ suc n → Closed (byte ∷ bytes) n) [
            | zero ↦ λ i j. absurd (cc)
            | suc m ↦ λ i j. closed-later byte bytes n m f j (closed bytes m i)
          ] refl g
    ] refl e

to_block_comment : (rest : List ℕ) (n : ℕ) → closing_len rest ≡ suc n
    → IsBlockComment (take (2 + suc n) (47 ∷ 42 ∷ rest))
to_block_comment rest n e =
    let k : 2 + suc n ≡ suc (suc (suc n)) = omega arith in
    let h = closed rest n e in
    rw k (h.0, ap (λ xs. 47 ∷ 42 ∷ xs) h.1, h.2)

block_comment-of : (text rest : List ℕ) (n : ℕ) → text ≡ 47 ∷ 42 ∷ rest
    → closing_len (drop 2 text) ≡ suc n → IsBlockComment (take (2 + suc n) text)
block_comment-of text rest n e f = rw e (to_block_comment rest n (rw e at f))

is_block_comment : (byte : ℕ) (bytes : List ℕ) (n : ℕ)
    → starts_with nat_eq (byte ∷ bytes) (codes "/*") ≡ true
    → closing_len (drop 2 (byte ∷ bytes)) ≡ suc n
    → IsBlockComment (take (2 + suc n) (byte ∷ bytes))
is_block_comment byte bytes n e f = let p = block_comment-shape byte bytes e in
    block_comment-of (byte ∷ bytes) p.0 n p.1 f

of_comment : (line : LinePrefix) (byte : ℕ) (bytes : List ℕ) (f : Prefix) (n : ℕ)
    → View line byte bytes f → f ≡ Comment n → IsLineComment (take n (byte ∷ bytes))
    ⊎ IsBlockComment (take n (byte ∷ bytes))
of_comment line byte bytes f n (view_newline a) e = absurd (cc)
of_comment line byte bytes f n (view_white a) e = absurd (cc)
of_comment line byte bytes f n (view_line a) e = let p : line_len (byte ∷ bytes) ≡ n = cc in
    inl (rw p at (is_line_comment byte bytes a))
of_comment line byte bytes f n view_open e = absurd (cc)
of_comment line byte bytes f n (view_block k a b) e = let p : 2 + suc k ≡ n = cc in
    inr (rw p at (is_block_comment byte bytes k a b))
of_comment line byte bytes f n view_token e = absurd (cc)

-- the prefixes of a text

is_newline : (byte : ℕ) → (byte == 10) ≡ true → byte ≡ 10
is_newline byte e = grind (arith, nat_tests)

prefix-end : (line : LinePrefix) (text : List ℕ) → prefix line text ≡ End → text ≡ []
prefix-end line [] e = refl
prefix-end line (byte ∷ bytes) e = no_end line byte bytes _ (view line byte bytes) e

prefix-white : (line : LinePrefix) (text : List ℕ) → prefix line text ≡ WhiteSpace
    → Extends blank (take 1 text)
prefix-white line [] e = absurd (cc)
prefix-white line (byte ∷ bytes) e =
    λ items gap g. white (of_white line byte bytes _ (view line byte bytes) e) g

prefix-newline : (line : LinePrefix) (text : List ℕ) → prefix line text ≡ Newline
    → Extends line_end (take 1 text)
prefix-newline line [] e = absurd (cc)
prefix-newline line (byte ∷ bytes) e =
    λ items gap g. rw (is_newline byte (of_newline line byte bytes _ (view line byte bytes) e))
    (newline g)

prefix-comment : (line : LinePrefix) (text : List ℕ) (n : ℕ) → prefix line text ≡ Comment n
    → Extends comment (take n text)
prefix-comment line [] n e = absurd (cc)
prefix-comment line (byte ∷ bytes) n e =
    elim (of_comment line byte bytes _ n (view line byte bytes) e) [
      | inl is_line ↦ λ items gap g. line_comment (take n (byte ∷ bytes)) gap is_line g
      | inr is_block ↦ λ items gap g. block_comment (take n (byte ∷ bytes)) gap is_block g
    ]

-- the tokens of a cutting, if it has some
abbrev Parts : (before : List PpTok) (begins spaced : Bool) (text places : List ℕ) → Cutting
    → Type 0
Parts before begins spaced text places (tokens toks) = MadeOf before begins spaced toks text places
Parts before begins spaced text places (open_comment offset) = Unit {0}

grown : (item : GapItem) (n : ℕ) (text places : List ℕ) (before : List PpTok) (begins spaced : Bool)
    (out : Cutting) → length text ≡ length places → Extends item (take n text)
    → Parts before (is_line_begun begins (item ∷ [])) (is_spaced spaced (item ∷ [])) (drop n text)
    (drop n places) out → Parts before begins spaced text places out
grown item n text places before begins spaced (tokens toks) same extend p =
    gapped item n text places before begins spaced toks same extend p
grown item n text places before begins spaced (open_comment offset) same extend p = tt

with_token : (n : ℕ) (text places : List ℕ) (tok : PpTok) (before : List PpTok)
    (begins spaced : Bool) (out : Cutting) → length text ≡ length places → tok.text ≡ take n text
    → tok.span.start ≡ slice_index (take n places) 0
    → tok.span.end ≡ slice_index (take n places) (length (take n places) - 1) + 1
    → tok.space ≡ spaced → tok.first ≡ begins
    → IsHeaderRight (not tok.first && follows_include before) tok.kind text
    → Parts (tok ∷ before) false false (drop n text) (drop n places) out
    → Parts before begins spaced text places (prepend tok out)
with_token n text places tok before begins spaced (tokens toks) same e a b s f h p =
    let len : length tok.text ≡ length (take n places) = ap length e ∙ same_take n text places same
    in
    let t : tok.text ++ drop n text ≡ text = rw e (take-append-drop n text) in
    let right : IsHeaderRight (not tok.first && follows_include before) tok.kind
    (tok.text ++ drop n text) = rw t h in
    let whole =
    next {before = before} {begins = begins} {spaced = spaced} tok [] [] (drop n text) []
    (take n places) (drop n places) nothing refl len a b s f right p in
    rw (t, take-append-drop n places) at whole
with_token n text places tok before begins spaced (open_comment offset) same e a b s f h p = tt

parts : {file : ℕ} {line : LinePrefix} {spaced : Bool} {text places : List ℕ} {out : Cutting}
    (before : List PpTok) → Agrees line before → length text ≡ length places
    → Cuts file line spaced text places out → Parts before (is_start line) spaced text places out
parts {line = line} {text = text} before h same (at_end e) =
    rw (prefix-end line text e) (last nothing)
parts {line = line} {spaced = spaced} {text = text} {places = places} before h same (at_white e c) =
    grown blank 1 text places before (is_start line) spaced _ same (prefix-white line text e)
    (parts before h (dropped 1 text places same) c)
parts {line = line} {spaced = spaced} {text = text} {places = places} before h same
    (at_newline e c) =
    grown line_end 1 text places before (is_start line) spaced _ same (prefix-newline line text e)
    (parts before tt (dropped 1 text places same) c)
parts {line = line} {spaced = spaced} {text = text} {places = places} before h same
    (at_comment n e c) =
    grown comment n text places before (is_start line) spaced _ same (prefix-comment line text n e)
    (parts before h (dropped n text places same) c)
parts before h same (at_open_comment e) = tt
parts {file = file} {line = line} {spaced = spaced} {text = text} {places = places} before h same
    (at_token {out = out} m e c) =
    let tok : PpTok = token file line spaced m.kind (take m.len text) (take m.len places) in
    let may : (not (is_start line) && follows_include before) ≡ is_include line =
    may-be line before h in
    let right : IsHeaderRight (not (is_start line) && follows_include before) m.kind text =
    rw may (header-right line text m e) in
    let more =
    parts (tok ∷ before) (agrees-after line tok before refl h) (dropped m.len text places same)
    c in
    with_token m.len text places tok before (is_start line) spaced out same refl refl refl refl refl
    right (rw (no_start line (take m.len text)) at more)

pub lex-made : (file : ℕ) (bytes : List ℕ) (toks : List PpTok) → IsCut file bytes (tokens toks)
    → IsMadeOf toks bytes
lex-made file bytes toks c =
    (spliced bytes, (offsets bytes, (is_spliced bytes, parts [] tt (same_lengths bytes) c)))
