-- What any cutting keeps. Read Rise (spans), MadeOf (what lies between tokens, `space`, `first` and
-- header names), and IsLongestToken (each token is the longest that starts at its place).
use Rattle.std.specs.Prelude.{ℕ, ◌+◌, ◌-◌, ◌≡◌, ◌≤◌, ◌<◌, ◌⊎◌, Bool, true, false, cond, ◌&&◌, ◌||◌, ◌==◌, not, codes, List, [], ◌∷◌, ◌++◌, length, take, slice_index, IsTrue}
use Rattle.std.specs.List.{All, list_all}
use Rattle.std.specs.Str.{bytes_eq}
use Rattle.hv_base.specs.Ascii as ascii
use Rattle.hv_base.specs.Ascii.{is_line_space}
use Rattle.hv_toks.specs.declared.token.PpKind.{PpKind}
use Rattle.hv_toks.specs.declared.token.PpKind.TheVariants.{HeaderName, Other}
use Rattle.hv_toks.specs.declared.token.PpTok.{PpTok}
use Rattle.hv_toks.specs.Cutting.{closing_len, line_len}
use Rattle.hv_toks.specs.Lexical.{is_header_name}
use Rattle.hv_toks.specs.Splices.{IsSpliced}
use Rattle.hv_lexer.specs.Printed.{is_spelling}

-- the spans are of this file, rise from `low` to `high`, and do not overlap
abbrev pub Rise : (file low high : ℕ) → List PpTok → Type 0
Rise file low high [] = low ≤ high
Rise file low high (tok ∷ toks) =
    (tok.span.file ≡ file) × (low ≤ tok.span.start) × (tok.span.start < tok.span.end)
    × Rise file tok.span.end high toks

-- `//` and bytes that are no newlines (6.4.9)
abbrev pub IsLineComment : List ℕ → Type 0
IsLineComment comment = (rest : List ℕ) × (comment ≡ 47 ∷ 47 ∷ rest)
    × IsTrue (list_all (λ byte. not (byte == 10)) rest)

-- `/*`, bytes among which there is no `*/`, and `*/` (6.4.9)
abbrev pub IsBlockComment : List ℕ → Type 0
IsBlockComment comment = (inner : List ℕ) × (comment ≡ 47 ∷ 42 ∷ (inner ++ 42 ∷ 47 ∷ []))
    × (closing_len inner ≡ 0)

-- what lies between tokens is made of white space within a line, ends of lines, and comments
pub data GapItem : Type 0 where
  blank : GapItem
  line_end : GapItem
  comment : GapItem

-- a text that is made of these, in order
pub data IsGap : List GapItem → List ℕ → Type 0 where
  nothing : IsGap [] []
  white : {byte : ℕ} {items : List GapItem} {rest : List ℕ} → IsTrue (is_line_space byte)
      → IsGap items rest → IsGap (blank ∷ items) (byte ∷ rest)
  newline : {items : List GapItem} {rest : List ℕ} → IsGap items rest
      → IsGap (line_end ∷ items) (ascii.newline ∷ rest)
  line_comment : (text : List ℕ) {items : List GapItem} (rest : List ℕ) → IsLineComment text
      → IsGap items rest → IsGap (comment ∷ items) (text ++ rest)
  block_comment : (text : List ℕ) {items : List GapItem} (rest : List ℕ) → IsBlockComment text
      → IsGap items rest → IsGap (comment ∷ items) (text ++ rest)

-- whether the last of these is white space within a line or a comment; where there is none, it is
-- as `before` says
abbrev pub is_spaced : (before : Bool) → List GapItem → Bool
is_spaced before [] = before
is_spaced before (blank ∷ items) = is_spaced true items
is_spaced before (line_end ∷ items) = is_spaced false items
is_spaced before (comment ∷ items) = is_spaced true items

-- whether one of these is the end of a line, or else `before` holds. A newline in a comment is none
abbrev pub is_line_begun : (before : Bool) → List GapItem → Bool
is_line_begun before [] = before
is_line_begun before (blank ∷ items) = is_line_begun before items
is_line_begun before (line_end ∷ items) = is_line_begun true items
is_line_begun before (comment ∷ items) = is_line_begun before items

-- whether the last of the tokens before, which stand last first, is `#` at the beginning of a line
abbrev pub follows_hash : List PpTok → Bool
follows_hash [] = false
follows_hash (tok ∷ before) = tok.first && bytes_eq tok.text (codes "#")

-- whether the last two are `#` at the beginning of a line and `include` on the same line
abbrev pub follows_include : List PpTok → Bool
follows_include [] = false
follows_include (tok ∷ before) =
    not tok.first && (bytes_eq tok.text (codes "include") && follows_hash before)

-- a text is `start` with `rest` after it: none of its prefixes that are longer than `start` passes
-- the test
abbrev pub NoneLonger : (List ℕ → Bool) → (start rest : List ℕ) → Type 0
NoneLonger test start rest = (n : ℕ) → 0 < n → n ≤ length rest → test (start ++ take n rest) ≡ false

-- directly after `#` and `include`, where `may` holds, a token is a header name wherever the text
-- from there on begins with one; elsewhere no token is one (6.4, paragraph 4)
abbrev pub IsHeaderRight : (may : Bool) → PpKind → (text : List ℕ) → Type 0
IsHeaderRight true kind text = (kind ≡ HeaderName) ⊎ NoneLonger is_header_name [] text
IsHeaderRight false kind text = kind ≡ HeaderName → ⊥

-- a text that is made of these tokens, in order, with gaps before, between and after them; `places`
-- are the offsets of its bytes. Each token has `space` where white space within its line or a
-- comment stands directly before it, and `first` where no token stands before it on its line.
-- `before` are the tokens before, last first; `begins` says whether a line begins with the text,
-- and `spaced` whether white space or a comment stands directly before the text
pub data MadeOf : (before : List PpTok) → (begins spaced : Bool) → List PpTok
    → (text places : List ℕ) → Type 0 where
  last : {before : List PpTok} {begins spaced : Bool} {items : List GapItem} {gap places : List ℕ}
      → IsGap items gap → MadeOf before begins spaced [] gap places
  next : {before : List PpTok} {begins spaced : Bool} {toks : List PpTok} (tok : PpTok)
      (items : List GapItem) (gap rest earlier here more : List ℕ)
      → IsGap items gap → length gap ≡ length earlier
      → length tok.text ≡ length here → tok.span.start ≡ slice_index here 0
      → tok.span.end ≡ slice_index here (length here - 1) + 1
      → tok.space ≡ is_spaced spaced items → tok.first ≡ is_line_begun begins items
      → IsHeaderRight (not tok.first && follows_include before) tok.kind (tok.text ++ rest)
      → MadeOf (tok ∷ before) false false toks rest more
      → MadeOf before begins spaced (tok ∷ toks) (gap ++ (tok.text ++ rest))
      (earlier ++ (here ++ more))

-- so is a file, after its splices
abbrev pub IsMadeOf : List PpTok → (bytes : List ℕ) → Type 0
IsMadeOf toks bytes = (text : List ℕ)
    × ((places : List ℕ) × (IsSpliced 0 bytes text places × MadeOf [] true false toks text places))

-- whether the first byte is a quote
abbrev pub begins_with_quote : List ℕ → Bool
begins_with_quote [] = false
begins_with_quote (byte ∷ _) = byte == 39 || byte == 34

-- with `rest` after it, this is the longest token there (6.4, paragraph 4): a spelling of its kind,
-- and no longer prefix is a spelling of any kind. A header name is the longest of its own category:
-- it is a token only after `#` and `include`, and `is_spelling` has none. Where no prefix is a
-- spelling, the token is one byte, or a quote with the rest of its line
abbrev pub IsLongestToken : PpKind → (spelling rest : List ℕ) → Type 0
IsLongestToken HeaderName spelling rest = IsTrue (is_header_name spelling)
    × NoneLonger is_header_name spelling rest
IsLongestToken Other spelling rest =
    ((kind : PpKind) → NoneLonger (is_spelling kind) [] (spelling ++ rest))
    × (length spelling ≡ cond (begins_with_quote spelling) (line_len (spelling ++ rest)) 1)
IsLongestToken kind spelling rest = IsTrue (is_spelling kind spelling)
    × ((other : PpKind) → NoneLonger (is_spelling other) spelling rest)

-- the token stands in the text where its span begins, and is the longest that starts there;
-- `places` are the offsets of the text's bytes
pub record IsLongestAtItsPlace (tok : PpTok) (text places : List ℕ) : Type 0 where
  pub before : List ℕ
  pub rest : List ℕ
  pub stands : text ≡ before ++ (tok.text ++ rest)
  pub starts : tok.span.start ≡ slice_index places (length before)
  pub longest : IsLongestToken tok.kind tok.text rest

-- each token of a file, after its splices, is the longest that starts at its place. Not in here:
-- what lies between the tokens, and where a header name may stand (`IsMadeOf`); that no token
-- starts where a comment does (`IsCut`)
abbrev pub AreLongest : List PpTok → (bytes : List ℕ) → Type 0
AreLongest toks bytes =
    (text : List ℕ) × ((places : List ℕ) × (IsSpliced 0 bytes text places × All
    (λ tok. IsLongestAtItsPlace tok text places) toks))
