-- What it means that a printed C token is read back, alone and among others.
use Rattle.std.specs.Prelude.{◌≡◌, ℕ, Bool, ◌||◌, not, List, map, codes, IsTrue, Some, Result, Ok}
use Rattle.std.specs.List.{All}
use Rattle.std.specs.Str.{bytes_eq}
use Rattle.hv_base.specs.declared.token.CTok.{CTok}
use Rattle.hv_base.specs.declared.why.Why.{Why}
use Rattle.hv_toks.specs.declared.token.PpKind.{PpKind}
use Rattle.hv_toks.specs.declared.token.PpTok.{PpTok}
use Rattle.hv_toks.specs.Cutting.{IsCut, tokens, whole_token}
use Rattle.hv_lexer.specs.Printed.{Piece, spaced}
use Rattle.hv_ctoks.specs.Conversion.{converted}
use Rattle.hv_ctoks.specs.Spelling.{spelling}
use Rattle.hv_ctoks.specs.Tokens.{is_token, kind_of}
use Rattle.hv_ctoks.specs.declared.reserved.ReservedNames.{ReservedNames}

-- a preprocessing token of this kind and spelling becomes nothing but C tokens of its kind, with
-- values in their types' ranges
abbrev pub BecomesToken : ReservedNames → PpKind → List ℕ → Type 0
BecomesToken reserved kind text =
    (tok : CTok) → converted reserved kind text ≡ Ok tok
    → (kind_of tok ≡ kind) × IsTrue (is_token reserved tok)

-- its spelling is one preprocessing token, which becomes this C token
abbrev pub IsReadBack : ReservedNames → CTok → Type 0
IsReadBack reserved tok = (whole_token (spelling tok) ≡ Some (kind_of tok))
    × (converted reserved (kind_of tok) (spelling tok) ≡ Ok tok)

-- a C token to print, and whether a newline is printed after it, or else a blank
pub record Printed : Type 0 where
  pub tok : CTok
  pub newline : Bool

-- its spelling, with what is printed after it
abbrev pub piece_of : Printed → Piece
piece_of printed =
    record {
      kind = kind_of printed.tok;
      spelling = spelling printed.tok;
      newline = printed.newline;
    }

-- the printed text
abbrev pub text_of : List Printed → List ℕ
text_of printed = spaced (map piece_of printed)

-- a C token that may stand anywhere in such a text: any but `#`, which could begin a directive
abbrev pub IsPrintable : ReservedNames → Printed → Type 0
IsPrintable reserved printed = IsTrue (is_token reserved printed.tok)
    × IsTrue (not (bytes_eq (spelling printed.tok) (codes "#")))

-- what a preprocessing token becomes
abbrev pub becomes : ReservedNames → PpTok → Result CTok Why
becomes reserved tok = converted reserved tok.kind tok.text

-- white space stands before the token, or it begins a line
abbrev pub is_apart : PpTok → Bool
is_apart tok = tok.space || tok.first

-- a file that holds the printed text is cut into tokens that are apart, and become the printed
-- tokens, in order
pub record AreReadBack (reserved : ReservedNames) (file : ℕ) (printed : List Printed) : Type 0
  where
    pub toks : List PpTok
    pub cut : IsCut file (text_of printed) (tokens toks)
    pub same : map (becomes reserved) toks ≡ map (λ p. Ok p.tok) printed
    pub apart : All (λ tok. IsTrue (is_apart tok)) toks
