-- The printed form of C tokens, and which C tokens the terminals of a tree are.
use Rattle.std.specs.Prelude.{ℕ, Bool, true, false, cond, List, [], ◌∷◌, ◌++◌}
use Rattle.hv_base.specs.Ascii.{newline, space}
use Rattle.hv_base.specs.declared.token.CTok.{CTok}
use Rattle.hv_base.specs.declared.token.CTok.TheVariants.{Keyword, Name, Int, Char, Str, Punct}
use Rattle.hv_base.specs.declared.punct.Punct.{Punct as Sign}
use Rattle.hv_base.specs.declared.punct.Punct.TheVariants.{Semicolon, LeftBrace, RightBrace}
use Rattle.hv_ctree.specs.declared.tree.words.Constant.{Constant}
use Rattle.hv_ctree.specs.declared.tree.words.Constant.TheVariants.{Integer, Character}
use Rattle.hv_ctoks.specs.Spelling.{spelling}
use Rattle.hv_grammar.specs.Symbols.{Symbol, keyword, name, marked, number, text, sign, hole, foreign}

-- `;`, `{` or `}`
abbrev pub is_line_end : Sign → Bool
is_line_end Semicolon = true
is_line_end LeftBrace = true
is_line_end RightBrace = true
is_line_end _ = false

-- whether a line ends after the token in the printed form
abbrev pub ends_line : CTok → Bool
ends_line (Punct p) = is_line_end p
ends_line _ = false

-- a token as it is printed: its spelling, and a newline after `;`, `{` and `}`, else one space
abbrev pub shown_token : CTok → List ℕ
shown_token token = spelling token ++ cond (ends_line token) newline space ∷ []

-- the printed form of tokens
abbrev pub shown : List CTok → List ℕ
shown [] = []
shown (token ∷ tokens) = shown_token token ++ shown tokens

-- a constant as a token (6.4.4)
abbrev pub constant_token : Constant → CTok
constant_token (Integer v k) = Int v k
constant_token (Character v) = Char v

-- the C token that a terminal is, without the mark of a typedef name; a hole is none, and neither
-- is a name that the grammar doesn't know
abbrev pub token_of : Symbol → List CTok
token_of (keyword k) = Keyword k ∷ []
token_of (name n) = Name n ∷ []
token_of (marked n) = Name n ∷ []
token_of (number v) = constant_token v ∷ []
token_of (text bytes) = Str bytes ∷ []
token_of (sign p) = Punct p ∷ []
token_of hole = []
token_of foreign = []

-- the C tokens that terminals are
abbrev pub c_tokens : List Symbol → List CTok
c_tokens [] = []
c_tokens (s ∷ ss) = token_of s ++ c_tokens ss
