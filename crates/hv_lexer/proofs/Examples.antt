-- Pieces and their printed text.
use Rattle.std.proofs.Common.{◌≡◌, ℕ, Bool, true, false, List, [], ◌∷◌, ◌++◌, refl, codes}
use Rattle.hv_toks.specs.declared.token.PpKind.{PpKind}
use Rattle.hv_toks.specs.declared.token.PpKind.TheVariants.{Identifier, Number, CharConstant, StringLiteral, Punctuator}
use Rattle.hv_lexer.specs.Printed.{Piece, spaced, ArePrintable}

piece : PpKind → List ℕ → Bool → Piece
piece kind spelling newline = record { kind = kind; spelling = spelling; newline = newline }

-- a gap keeps apart what would be one token: `L` and a constant, an exponent's letter and a sign, two slashes.
-- The string is a backslash that is escaped, before a newline
apart : List Piece
unfolding piece
apart =
    piece Identifier (codes "L") false ∷ piece CharConstant (codes "'a'") false ∷
    piece Number (codes "1e") false ∷ piece Punctuator (codes "+") false
    ∷ piece Punctuator (codes "/") false ∷ piece Punctuator (codes "/") false ∷
    piece StringLiteral (34 ∷ 92 ∷ 92 ∷ 34 ∷ []) true ∷ []

printable : ArePrintable apart
unfolding apart
printable = (
  (refl, refl),
  (
    (refl, refl),
    ((refl, refl), ((refl, refl), ((refl, refl), ((refl, refl), ((refl, refl), tt))))),
  ),
)

text : spaced apart ≡ codes "L 'a' 1e + / / " ++ 34 ∷ 92 ∷ 92 ∷ 34 ∷ 10 ∷ []
unfolding apart
text = refl
