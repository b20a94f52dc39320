-- The grammar as a whole: which tokens derive which element, which derive which program, and their
-- first refusal.
use Rattle.std.specs.Prelude.{◌≡◌, ℕ, Bool, true, false, List, [], ◌∷◌, codes, cond, map}
use Rattle.hv_base.specs.Ascii.{is_among}
use Rattle.hv_base.specs.declared.token.CTok.{CTok}
use Rattle.hv_base.specs.declared.token.CTok.TheVariants.{Keyword, Name, Int, Char, Str, Punct}
use Rattle.hv_base.specs.declared.why.Why.{Why}
use Rattle.hv_ctree.specs.declared.tree.words.Constant.TheVariants.{Integer, Character}
use Rattle.hv_ctree.specs.tree.Expressions.{Expr}
use Rattle.hv_ctree.specs.tree.Statements.{Skeleton, Program}
use Rattle.hv_grammar.specs.Symbols.{Symbol, keyword, name, marked, number, text, sign, foreign, Token, token_at, Marked}
use Rattle.hv_grammar.specs.Expressions.{Reads}
use Rattle.hv_grammar.specs.Elements.{Standing, ReadsElement}
use Rattle.hv_grammar.specs.Programs.{ReadsExternals}
use Rattle.hv_grammar.specs.Scopes.{IsMarked}
use Rattle.hv_grammar.specs.Refusal.{Limits, KeepsLimits, Refuses}

-- the names that are no identifiers of the profile: those of the predefined macros, which
-- preprocessing always replaces, and those that it leaves out
abbrev pub foreign_names : List (List ℕ)
foreign_names =
    codes "__STDC__" ∷ codes "__STDC_HOSTED__" ∷ codes "__STDC_VERSION__" ∷ codes "__func__"
    ∷ codes "asm"
    ∷ codes "__FILE__" ∷ codes "__LINE__" ∷ codes "__DATE__" ∷ codes "__TIME__" ∷ codes "_Pragma"
    ∷ codes "goto"
    ∷ codes "float" ∷ codes "double" ∷ codes "volatile" ∷ codes "_Complex" ∷ codes "_Imaginary" ∷ []

-- a name, with or without the mark of a typedef name
abbrev pub name_symbol : List ℕ → Bool → Symbol
name_symbol n false = name n
name_symbol n true = marked n

-- the terminal that a C token is, with the mark of a typedef name or without
abbrev pub symbol_of : CTok → Bool → Symbol
symbol_of (Keyword k) b = keyword k
symbol_of (Name n) b = cond (is_among n foreign_names) foreign (name_symbol n b)
symbol_of (Int v k) b = number (Integer v k)
symbol_of (Char v) b = number (Character v)
symbol_of (Str bytes) b = text bytes
symbol_of (Punct p) b = sign p

-- the own tokens of an element, with a hole for each element within it, are read whole
pub record WholeElement (s : Standing) (ts : List Marked) : Type 0 where
  pub tree : Skeleton
  pub reads : ReadsElement s ts [] tree

-- an element's own tokens derive this tree
pub record DerivesElement (l : Limits) (s : Standing) (ts : List Token) (k : Skeleton) : Type 0
  where
    pub first : List Marked
    pub tokens : map (λ t. t.token) first ≡ ts
    pub reads : ReadsElement s first [] k
    pub limits : KeepsLimits l 0 first

-- the first refusal of an element's own tokens
abbrev pub RefusesElement : Limits → Standing → List Token → ℕ → Why → Type 0
RefusesElement l s ts i why = Refuses l (λ t. t.token) (WholeElement s) ts i why

-- the tokens are read whole as an expression (6.5)
pub record WholeExpression (ts : List Marked) : Type 0 where
  pub tree : Expr
  pub reads : Reads 0 0 ts [] tree

-- tokens derive this expression
pub record DerivesExpression (l : Limits) (ts : List Token) (a : Expr) : Type 0 where
  pub first : List Marked
  pub tokens : map (λ t. t.token) first ≡ ts
  pub reads : Reads 0 0 first [] a
  pub limits : KeepsLimits l 0 first

-- the first refusal of an expression's tokens
abbrev pub RefusesExpression : Limits → List Token → ℕ → Why → Type 0
RefusesExpression l ts i why = Refuses l (λ t. t.token) WholeExpression ts i why

-- a token without the mark of a typedef name, as preprocessing gives it
abbrev pub plain_symbol : Symbol → Symbol
plain_symbol (marked n) = name n
plain_symbol s = s

-- a token of a program as preprocessing gives it
abbrev pub given : Marked → Token
given t = token_at t.token.place (plain_symbol t.token.symbol)

-- a program's tokens are read whole, and its marks of typedef names are those of the declarations
-- in scope
pub record WholeProgram (ts : List Marked) : Type 0 where
  pub tree : Program
  pub reads : ReadsExternals ts tree.externals
  pub marks : IsMarked tree

-- a program's tokens derive this tree
pub record DerivesProgram (l : Limits) (ts : List Token) (program : Program) : Type 0 where
  pub first : List Marked
  pub tokens : map given first ≡ ts
  pub reads : ReadsExternals first program.externals
  pub marks : IsMarked program
  pub limits : KeepsLimits l 0 first

-- the first refusal of a program's tokens
abbrev pub RefusesProgram : Limits → List Token → ℕ → Why → Type 0
RefusesProgram l ts i why = Refuses l given WholeProgram ts i why
