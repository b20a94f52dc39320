-- A file as lines (6.10): a directive is a line that begins with `#`, and all others are text
-- lines.
-- Not in here: what a directive means, and which lines a configuration skips.
use Rattle.std.specs.Prelude.{Bool, true, false, ◌&&◌, List, [], ◌∷◌, ◌++◌, codes}
use Rattle.std.specs.Str.{bytes_eq}
use Rattle.hv_toks.specs.declared.token.PpTok.{PpTok}
use Rattle.hv_plain.specs.declared.episode.RunEnd.{RunEnd}
use Rattle.hv_plain.specs.declared.episode.RunEnd.TheVariants.{Directive, FileEnd}

-- lines with a token before them, which is a line by itself where the next one is the first of its
-- line
abbrev pub with_token : PpTok → List (List PpTok) → List (List PpTok)
with_token t [] = (t ∷ []) ∷ []
with_token t ([] ∷ lines) = (t ∷ []) ∷ lines
with_token t ((next ∷ line) ∷ lines) = elim next.first [
  | true ↦ (t ∷ []) ∷ (next ∷ line) ∷ lines
  | false ↦ (t ∷ next ∷ line) ∷ lines
]

-- the tokens of a file, line by line; lines without tokens are left out
abbrev pub lines_of : List PpTok → List (List PpTok)
lines_of [] = []
lines_of (t ∷ tokens) = with_token t (lines_of tokens)

-- whether a line that begins with this token is a directive (6.10, paragraph 2)
abbrev pub begins_directive : PpTok → Bool
begins_directive t = t.first && bytes_eq t.text (codes "#")

-- a directive, or the text between two directives that are neighbours in the file, or before the
-- first or behind the last one
pub data Piece : Type 0 where
  -- the tokens of text lines, of which there is one at least, and what stands behind them
  text : (run : List PpTok) → RunEnd → Piece
  -- the `#` of a directive, and what stands behind it on its line
  directive : (hash : PpTok) → (line : List PpTok) → Piece

-- pieces with a text line before them
abbrev pub with_line : (line : List PpTok) → List Piece → List Piece
with_line line [] = text line FileEnd ∷ []
with_line line (text run ends ∷ pieces) = text (line ++ run) ends ∷ pieces
with_line line (directive hash more ∷ pieces) = text line Directive ∷ directive hash more ∷ pieces

-- the pieces that lines are
abbrev pub pieces_of : List (List PpTok) → List Piece
pieces_of [] = []
pieces_of ([] ∷ lines) = pieces_of lines
pieces_of ((t ∷ line) ∷ lines) = elim (begins_directive t) [
  | true ↦ directive t line ∷ pieces_of lines
  | false ↦ with_line (t ∷ line) (pieces_of lines)
]
