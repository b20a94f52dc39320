-- The tokens of a file begin at offsets that rise.
use Rattle.std.proofs.lemmas.List.{length-map}
use Rattle.std.proofs.Common.{◌≡◌, ℕ, zero, suc, ◌+◌, ◌<◌, ◌≤◌, Bool, true, false, cond, List, [], ◌∷◌, map, length, take, drop, refl, sym, ◌∙◌, subst, arith, ◌==◌, ◌||◌, ◌&&◌, nat_lt}
use Rattle.std.specs.Prelude.{codes, nat_eq, slice_index}
use Rattle.std.specs.List.{starts_with}
use Rattle.std.proofs.lemmas.Bool.{false≢true}
use Rattle.hv_toks.specs.declared.token.PpKind.TheVariants.{HeaderName}
use Rattle.std.proofs.lemmas.Bool.Decides.{nat_tests}
use Rattle.hv_base.specs.Ascii as ascii
use Rattle.hv_toks.specs.Cutting.{Cutting, tokens, open_comment, prefix, prepend, token, token_at, longest_token, other, is_include, line_len, block_comment, closing_len, found, line_after}
use Rattle.hv_toks.specs.Lexical.{longest, is_header_name}
use Rattle.hv_toks.specs.Splices.{Mark, marks_from, splice_len, spliced, offsets}
use Rattle.hv_toks.specs.declared.prefix.LinePrefix.{LinePrefix}
use Rattle.hv_toks.specs.declared.prefix.LinePrefix.TheVariants.{Start}
use Rattle.hv_toks.specs.declared.prefix.Match.{Match}
use Rattle.hv_toks.specs.declared.prefix.Prefix.{Prefix}
use Rattle.hv_toks.specs.declared.prefix.Prefix.TheVariants.{End, WhiteSpace, Newline, Comment, OpenComment, Token}
use Rattle.hv_toks.specs.declared.token.PpTok.{PpTok}
use Rattle.hv_plain.specs.gathering.Mentions.{cut, cut_step, cut_text}

------ numbers that rise

-- the numbers rise from this one on
abbrev Rising : ℕ → List ℕ → Type 0
Rising lo [] = Unit {0}
Rising lo (n ∷ ns) = (lo ≤ n) × Rising (suc n) ns

rising_from : (lo hi : ℕ) → lo ≤ hi → (ns : List ℕ) → Rising hi ns → Rising lo ns
rising_from lo hi h [] p = tt
rising_from lo hi h (n ∷ ns) p = (omega (arith, h, p.0), p.1)

rising_drop : (lo k : ℕ) (ns : List ℕ) → Rising lo ns → Rising lo (drop k ns)
rising_drop lo zero ns p = p
rising_drop lo (suc k) [] p = tt
rising_drop lo (suc k) (n ∷ ns) p =
    rising_drop lo k ns (rising_from lo (suc n) (omega (arith, p.0)) ns p.1)

------ tokens that begin at rising offsets

-- each token begins behind the beginning of the one before, the first one not before `lo`
abbrev pub Increasing : ℕ → List PpTok → Type 0
Increasing lo [] = Unit {0}
Increasing lo (t ∷ toks) = (lo ≤ t.span.start) × Increasing (suc t.span.start) toks

abbrev IncreasingCut : ℕ → Cutting → Type 0
IncreasingCut lo (tokens toks) = Increasing lo toks
IncreasingCut lo (open_comment offset) = Unit {0}

prepend_increasing : (lo : ℕ) (t : PpTok) (c : Cutting) → lo ≤ t.span.start
    → IncreasingCut (suc t.span.start) c → IncreasingCut lo (prepend t c)
prepend_increasing lo t (tokens toks) h p = (h, p)
prepend_increasing lo t (open_comment offset) h p = tt

------ offsets

-- the marks from a byte on, where so many bytes of a splice are deleted there
spliced_rise : (n offset byte : ℕ) (bytes : List ℕ)
    → ((deleted : ℕ)
    → Rising (offset + 1) (map (λ (m : Mark). m.offset) (marks_from deleted (offset + 1) bytes)))
    → Rising offset (map (λ (m : Mark). m.offset) (elim n [
      | zero ↦ record { byte = byte; offset = offset } ∷ marks_from 0 (offset + 1) bytes
      | suc deleted ↦ marks_from deleted (offset + 1) bytes
    ]))
spliced_rise zero offset byte bytes h = (
  omega arith,
  rising_from (suc offset) (offset + 1) (omega arith)
      (map (λ (m : Mark). m.offset) (marks_from 0 (offset + 1) bytes)) (h 0),
)
spliced_rise (suc deleted) offset byte bytes h =
    rising_from offset (offset + 1) (omega arith)
    (map (λ (m : Mark). m.offset) (marks_from deleted (offset + 1) bytes)) (h deleted)

marks_rise : (deleted offset : ℕ) (bytes : List ℕ)
    → Rising offset (map (λ (m : Mark). m.offset) (marks_from deleted offset bytes))
marks_rise deleted offset [] = tt
marks_rise (suc deleted) offset (byte ∷ bytes) =
    rising_from offset (offset + 1) (omega arith)
    (map (λ (m : Mark). m.offset) (marks_from deleted (offset + 1) bytes))
    (marks_rise deleted (offset + 1) bytes)
marks_rise zero offset (byte ∷ bytes) =
    spliced_rise (splice_len (byte ∷ bytes)) offset byte bytes
    (λ deleted. marks_rise deleted (offset + 1) bytes)

as_long : (bytes : List ℕ) → length (spliced bytes) ≡ length (offsets bytes)
as_long bytes =
    length-map (marks_from 0 0 bytes) (λ (m : Mark). m.byte)
    ∙ sym (length-map (marks_from 0 0 bytes) (λ (m : Mark). m.offset))

long_drop : (k : ℕ) (xs ys : List ℕ) → length xs ≡ length ys
    → length (drop k xs) ≡ length (drop k ys)
long_drop zero xs ys e = e
long_drop (suc k) [] [] e = refl
long_drop (suc k) [] (y ∷ ys) e = absurd (omega (arith, e))
long_drop (suc k) (x ∷ xs) [] e = absurd (omega (arith, e))
long_drop (suc k) (x ∷ xs) (y ∷ ys) e = long_drop k xs ys (omega (arith, e))

------ a token has a byte

-- a prefix that is a token has a byte, and so has the text
abbrev HasByte : List ℕ → Prefix → Type 0
HasByte text (Token m) = (0 < m.len) × (0 < length text)
HasByte text End = Unit {0}
HasByte text WhiteSpace = Unit {0}
HasByte text Newline = Unit {0}
HasByte text (Comment n) = Unit {0}
HasByte text OpenComment = Unit {0}

cond_has : (text : List ℕ) (b : Bool) (p q : Prefix) → HasByte text p → HasByte text q
    → HasByte text (cond b p q)
cond_has text true p q h k = h
cond_has text false p q h k = k

comment_has : (text : List ℕ) (n : ℕ)
    → HasByte text (elim n [ zero ↦ OpenComment | suc m ↦ Comment (2 + suc m) ])
comment_has text zero = tt
comment_has text (suc n) = tt

tests_lt : (n : ℕ) → nat_lt 0 n ≡ true → 0 < n
tests_lt n e = grind (arith, nat_tests)

and_right : (a b : Bool) → (a && b) ≡ true → b ≡ true
and_right true b e = e
and_right false b e = absurd (false≢true e)

cond_len : (b : Bool) (m n : Match) → (b ≡ true → 0 < m.len) → (b ≡ false → 0 < n.len)
    → 0 < (cond b m n).len
cond_len true m n h k = h refl
cond_len false m n h k = k refl

cond_one : (b : Bool) (n : ℕ) → 0 < cond b (1 + n) 1
cond_one true n = omega arith
cond_one false n = omega arith

token_has : (line : LinePrefix) (byte : ℕ) (bytes : List ℕ)
    → 0 < (token_at line (byte ∷ bytes)).len
token_has line byte bytes =
    let text : List ℕ = byte ∷ bytes in
    cond_len (is_include line && nat_lt 0 (longest is_header_name text))
    (found HeaderName (longest is_header_name text)) (cond (nat_lt 0 (longest_token text).len) (longest_token text) (other text))
    (λ e. tests_lt (longest is_header_name text)
    (and_right (is_include line) (nat_lt 0 (longest is_header_name text)) e))
    (λ e. cond_len (nat_lt 0 (longest_token text).len) (longest_token text) (other text)
    (tests_lt (longest_token text).len)
    (λ f. cond_one (byte == ascii.apostrophe || byte == ascii.quote) (line_len bytes)))

prefix_has : (line : LinePrefix) (text : List ℕ) → HasByte text (prefix line text)
prefix_has line [] = tt
prefix_has line (byte ∷ bytes) =
    let text : List ℕ = byte ∷ bytes in
    cond_has text (byte == ascii.newline) Newline _ tt
    (cond_has text (ascii.is_line_space byte) WhiteSpace _ tt
    (cond_has text (starts_with nat_eq text (codes "//")) (Comment (line_len text)) _ tt
    (cond_has text (starts_with nat_eq text (codes "/*")) (block_comment text)
    (Token (token_at line text)) (comment_has text (closing_len (drop 2 text)))
    (token_has line byte bytes, omega arith))))

------ cutting

-- the offset of a token's first byte, and those of the bytes behind it
token_start : (len : ℕ) (places : List ℕ) → 0 < len → 0 < length places → (lo : ℕ)
    → Rising lo places
    → (lo ≤ slice_index (take len places) 0)
    × Rising (suc (slice_index (take len places) 0)) (drop len places)
token_start zero places h k lo p = absurd (omega (arith, h))
token_start (suc len) [] h k lo p = absurd (omega (arith, k))
token_start (suc len) (q ∷ places) h k lo p = (p.0, rising_drop (suc q) len places p.1)

-- what cuts a text gives tokens at rising offsets
abbrev Cuts : (LinePrefix → Bool → List ℕ → List ℕ → Cutting) → Type 0
Cuts cut_rest = (line : LinePrefix) (space : Bool) (text places : List ℕ) (lo : ℕ)
    → length text ≡ length places → Rising lo places
    → IncreasingCut lo (cut_rest line space text places)

step_increasing : (cut_rest : LinePrefix → Bool → List ℕ → List ℕ → Cutting) → Cuts cut_rest
    → (file : ℕ) (line : LinePrefix) (space : Bool) (text places : List ℕ) (lo : ℕ)
    → length text ≡ length places → Rising lo places → (p : Prefix) → HasByte text p
    → IncreasingCut lo (cut_step cut_rest file line space text places p)
step_increasing cut_rest h file line space text places lo e p End b = tt
step_increasing cut_rest h file line space text places lo e p WhiteSpace b =
    h line true (drop 1 text) (drop 1 places) lo (long_drop 1 text places e)
    (rising_drop lo 1 places p)
step_increasing cut_rest h file line space text places lo e p Newline b =
    h Start false (drop 1 text) (drop 1 places) lo (long_drop 1 text places e)
    (rising_drop lo 1 places p)
step_increasing cut_rest h file line space text places lo e p (Comment n) b =
    h line true (drop n text) (drop n places) lo (long_drop n text places e)
    (rising_drop lo n places p)
step_increasing cut_rest h file line space text places lo e p OpenComment b = tt
step_increasing cut_rest h file line space text places lo e p (Token m) b =
    let start : (lo ≤ slice_index (take m.len places) 0)
    × Rising (suc (slice_index (take m.len places) 0)) (drop m.len places) =
    token_start m.len places b.0 (omega (arith, e, b.1)) lo p in
    prepend_increasing lo
    (token file line space m.kind (take m.len text) (take m.len places))
    (cut_rest (line_after line (take m.len text)) false (drop m.len text) (drop m.len places))
    start.0
    (h (line_after line (take m.len text)) false (drop m.len text) (drop m.len places)
    (suc (slice_index (take m.len places) 0)) (long_drop m.len text places e) start.1)

text_increasing : (file n : ℕ) → Cuts (cut_text file n)
unfolding cut_text
text_increasing file zero line space text places lo e p = tt
text_increasing file (suc n) line space text places lo e p =
    step_increasing (cut_text file n) (text_increasing file n) file line space text places lo e p
    (prefix line text) (prefix_has line text)

pub cut_increasing : (file : ℕ) (bytes : List ℕ) (toks : List PpTok)
    → cut file bytes ≡ tokens toks → Increasing 0 toks
cut_increasing file bytes toks e =
    subst (IncreasingCut 0) e
    (text_increasing file (length (spliced bytes)) Start false (spliced bytes) (offsets bytes) 0
    (as_long bytes) (marks_rise 0 0 bytes))
