-- The punctuators and their spellings (6.4.6).
-- Not in here: digraphs.
use Rattle.std.specs.Prelude.{ℕ, List, [], ◌∷◌, codes, Option, find}
use Rattle.std.specs.Str.{bytes_eq}
use Rattle.hv_base.specs.declared.punct.Punct.{Punct}
use Rattle.hv_base.specs.declared.punct.Punct.TheVariants.{LeftBracket, RightBracket, LeftParenthesis, RightParenthesis, LeftBrace, RightBrace, Dot, Arrow, PlusPlus, MinusMinus, And, Star, Plus, Minus, Tilde, Not, Slash, Percent, LeftShift, RightShift, Less, Greater, LessEqual, GreaterEqual, EqualEqual, NotEqual, Caret, Or, AndAnd, OrOr, Question, Colon, Semicolon, Ellipsis, Equal, StarEqual, SlashEqual, PercentEqual, PlusEqual, MinusEqual, LeftShiftEqual, RightShiftEqual, AndEqual, CaretEqual, OrEqual, Comma, Hash, HashHash}

-- how a punctuator is spelt
-- SAME: puncts
abbrev pub spelling_of : Punct → List ℕ
spelling_of LeftBracket = codes "["
spelling_of RightBracket = codes "]"
spelling_of LeftParenthesis = codes "("
spelling_of RightParenthesis = codes ")"
spelling_of LeftBrace = codes "{"
spelling_of RightBrace = codes "}"
spelling_of Dot = codes "."
spelling_of Arrow = codes "->"
spelling_of PlusPlus = codes "++"
spelling_of MinusMinus = codes "--"
spelling_of And = codes "&"
spelling_of Star = codes "*"
spelling_of Plus = codes "+"
spelling_of Minus = codes "-"
spelling_of Tilde = codes "~"
spelling_of Not = codes "!"
spelling_of Slash = codes "/"
spelling_of Percent = codes "%"
spelling_of LeftShift = codes "<<"
spelling_of RightShift = codes ">>"
spelling_of Less = codes "<"
spelling_of Greater = codes ">"
spelling_of LessEqual = codes "<="
spelling_of GreaterEqual = codes ">="
spelling_of EqualEqual = codes "=="
spelling_of NotEqual = codes "!="
spelling_of Caret = codes "^"
spelling_of Or = codes "|"
spelling_of AndAnd = codes "&&"
spelling_of OrOr = codes "||"
spelling_of Question = codes "?"
spelling_of Colon = codes ":"
spelling_of Semicolon = codes ";"
spelling_of Ellipsis = codes "..."
spelling_of Equal = codes "="
spelling_of StarEqual = codes "*="
spelling_of SlashEqual = codes "/="
spelling_of PercentEqual = codes "%="
spelling_of PlusEqual = codes "+="
spelling_of MinusEqual = codes "-="
spelling_of LeftShiftEqual = codes "<<="
spelling_of RightShiftEqual = codes ">>="
spelling_of AndEqual = codes "&="
spelling_of CaretEqual = codes "^="
spelling_of OrEqual = codes "|="
spelling_of Comma = codes ","
spelling_of Hash = codes "#"
spelling_of HashHash = codes "##"

-- all of them
-- SAME: puncts
abbrev pub puncts : List Punct
puncts = LeftBracket ∷ RightBracket ∷ LeftParenthesis ∷ RightParenthesis ∷ LeftBrace ∷
    RightBrace ∷ Dot ∷ Arrow ∷ PlusPlus ∷ MinusMinus ∷ And ∷ Star ∷ Plus ∷ Minus ∷ Tilde ∷
    Not ∷ Slash ∷ Percent ∷ LeftShift ∷ RightShift ∷ Less ∷ Greater ∷ LessEqual ∷
    GreaterEqual ∷ EqualEqual ∷ NotEqual ∷ Caret ∷ Or ∷ AndAnd ∷ OrOr ∷ Question ∷ Colon ∷
    Semicolon ∷ Ellipsis ∷ Equal ∷ StarEqual ∷ SlashEqual ∷ PercentEqual ∷ PlusEqual ∷
    MinusEqual ∷ LeftShiftEqual ∷ RightShiftEqual ∷ AndEqual ∷ CaretEqual ∷ OrEqual ∷ Comma ∷
    Hash ∷ HashHash ∷ []

-- the punctuator with this spelling; `None` where there is none
abbrev pub punct_of : List ℕ → Option Punct
punct_of text = find (λ sign. bytes_eq text (spelling_of sign)) puncts
