-- Text that is printed so that it is cut into what was printed: spellings, and a blank or a newline
-- after each.
use Rattle.std.specs.Prelude.{◌≡◌, ℕ, Bool, false, cond, not, List, [], ◌∷◌, ◌++◌, map, codes, Result, Ok, Err, IsTrue}
use Rattle.std.specs.Str.{bytes_eq}
use Rattle.hv_toks.specs.declared.token.PpKind.{PpKind}
use Rattle.hv_toks.specs.declared.token.PpKind.TheVariants.{Identifier, Number, CharConstant, StringLiteral, HeaderName, Punctuator, Other}
use Rattle.hv_toks.specs.declared.token.PpTok.{PpTok}
use Rattle.hv_toks.specs.Lexical.{is_identifier, is_number, is_char_constant, is_string_literal, is_punctuator}
use Rattle.hv_lexer.specs.declared.refusal.LexRefusal.{LexRefusal}
use Rattle.hv_lexer.specs.declared.refusal.LexRefusal.TheVariants.{OpenComment, Memory}

-- a token to print, and whether a newline is printed after it, or else a blank
pub record Piece : Type 0 where
  pub kind : PpKind
  pub spelling : List ℕ
  pub newline : Bool

-- a newline or a blank
abbrev pub gap : Bool → ℕ
gap newline = cond newline 10 32

-- the printed text
abbrev pub spaced : List Piece → List ℕ
spaced [] = []
spaced (piece ∷ pieces) = piece.spelling ++ gap piece.newline ∷ spaced pieces

-- whether this is a spelling of the category (6.4). Header names, and bytes that are no token, are
-- never printed
abbrev pub is_spelling : PpKind → List ℕ → Bool
is_spelling Identifier text = is_identifier text
is_spelling Number text = is_number text
is_spelling CharConstant text = is_char_constant text
is_spelling StringLiteral text = is_string_literal text
is_spelling HeaderName text = false
is_spelling Punctuator text = is_punctuator text
is_spelling Other text = false

-- It may be any spelling of its category but `#`: after that and `include`, a `<` or a quote could
-- begin a header name. None needs a premise on splices: no spelling has a newline, or ends in a
-- backslash or a carriage return
abbrev pub IsPrintable : Piece → Type 0
IsPrintable piece = IsTrue (is_spelling piece.kind piece.spelling)
    × IsTrue (not (bytes_eq piece.spelling (codes "#")))

-- each piece is printable
abbrev pub ArePrintable : List Piece → Type 0
ArePrintable [] = Unit {0}
ArePrintable (piece ∷ pieces) = IsPrintable piece × ArePrintable pieces

-- the tokens have the kinds and the spellings of the pieces, in order
abbrev pub Shows : List PpTok → List Piece → Type 0
Shows toks pieces =
    (map (λ tok. tok.kind) toks ≡ map (λ piece. piece.kind) pieces)
    × (map (λ tok. tok.text) toks ≡ map (λ piece. piece.spelling) pieces)

-- the answer shows the pieces, or memory was wanted
abbrev pub Restores : Result (List PpTok) LexRefusal → List Piece → Type 0
Restores (Ok toks) pieces = Shows toks pieces
Restores (Err (OpenComment offset)) pieces = ⊥
Restores (Err Memory) pieces = Unit {0}
