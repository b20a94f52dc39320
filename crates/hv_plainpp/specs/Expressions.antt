-- Controlling expressions (6.6, 6.10.1), computed: the trees that symbols derive, by the
-- productions of `hv_plain/specs/controlling`, with each way to part the symbols.
use Rattle.std.specs.Prelude.{ℕ, zero, suc, ◌*◌, Bool, true, false, ◌==◌, List, [], ◌∷◌, ◌++◌, flat_map, length, map, Option, None, Some}
use Rattle.hv_base.specs.declared.operator.BinaryOperator.{BinaryOperator}
use Rattle.hv_base.specs.declared.operator.BinaryOperator.TheVariants.{Multiply, Divide, Remainder, Add, Subtract, ShiftLeft, ShiftRight, Less, Greater, LessEqual, GreaterEqual, Equal, NotEqual, And, ExclusiveOr, Or, LogicalAnd, LogicalOr}
use Rattle.hv_plain.specs.controlling.Grammar.{Tree, number, unary, binary, conditional, level, truth}
use Rattle.hv_plain.specs.controlling.Symbols.{symbol}
use Rattle.hv_plain.specs.declared.controlling.Symbol.{Symbol}
use Rattle.hv_plain.specs.declared.controlling.Symbol.TheVariants.{Number, Operator, Complement, Not, Open, Close, Question, Colon, Other}
use Rattle.hv_plain.specs.declared.controlling.Unary.{Unary}
use Rattle.hv_plain.specs.declared.controlling.Unary.TheVariants.{Plus, Minus, Complement as ComplementOf, Not as NotOf}
use Rattle.hv_toks.specs.Spelled.{Spelled}

------ parting symbols

-- symbols that are parted at one of them, which is known by what a test says of it
pub record Parting (X : Type 0) : Type 0 where
  pub before : List Symbol
  pub at : X
  pub behind : List Symbol

-- the parting at the first symbol, where the test says something of it
abbrev pub at_first : {X : Type 0} → Option X → (behind : List Symbol) → List (Parting X)
at_first None behind = []
at_first (Some x) behind = record { before = []; at = x; behind = behind } ∷ []

-- a parting with one more symbol before it
abbrev pub with_symbol : {X : Type 0} → Symbol → Parting X → Parting X
with_symbol s p = record { before = s ∷ p.before; at = p.at; behind = p.behind }

-- each way to part the symbols at one of which the test says something
abbrev pub partings : {X : Type 0} → (Symbol → Option X) → List Symbol → List (Parting X)
partings test [] = []
partings test (s ∷ ts) = at_first (test s) ts ++ map (with_symbol s) (partings test ts)

------ signs

-- whether a symbol is `)`
abbrev pub close : Symbol → Option (Unit {0})
close Close = Some tt
close (Number v) = None
close (Operator op) = None
close Complement = None
close Not = None
close Open = None
close Question = None
close Colon = None
close Other = None

-- whether a symbol is `?`
abbrev pub question : Symbol → Option (Unit {0})
question Question = Some tt
question (Number v) = None
question (Operator op) = None
question Complement = None
question Not = None
question Open = None
question Close = None
question Colon = None
question Other = None

-- whether a symbol is `:`
abbrev pub colon : Symbol → Option (Unit {0})
colon Colon = Some tt
colon (Number v) = None
colon (Operator op) = None
colon Complement = None
colon Not = None
colon Open = None
colon Close = None
colon Question = None
colon Other = None

-- the binary operator that a symbol is, where it makes expressions of this level
abbrev pub operator : ℕ → Symbol → Option BinaryOperator
operator k (Operator op) = elim (level op == k) [ true ↦ Some op | false ↦ None ]
operator k (Number v) = None
operator k Complement = None
operator k Not = None
operator k Open = None
operator k Close = None
operator k Question = None
operator k Colon = None
operator k Other = None

-- the unary operator that a binary operator's sign is, too
abbrev pub unary_of : BinaryOperator → Option Unary
unary_of Add = Some Plus
unary_of Subtract = Some Minus
unary_of Multiply = None
unary_of Divide = None
unary_of Remainder = None
unary_of ShiftLeft = None
unary_of ShiftRight = None
unary_of Less = None
unary_of Greater = None
unary_of LessEqual = None
unary_of GreaterEqual = None
unary_of Equal = None
unary_of NotEqual = None
unary_of And = None
unary_of ExclusiveOr = None
unary_of Or = None
unary_of LogicalAnd = None
unary_of LogicalOr = None

-- the unary operator that a symbol is
abbrev pub prefix : Symbol → Option Unary
prefix (Operator op) = unary_of op
prefix Complement = Some ComplementOf
prefix Not = Some NotOf
prefix (Number v) = None
prefix Open = None
prefix Close = None
prefix Question = None
prefix Colon = None
prefix Other = None

------ productions, where `below` gives the trees of the parts at each level

-- the tree of a constant or an identifier, at the end of the symbols
abbrev pub single : Symbol → List Tree
single (Number v) = number v ∷ []
single (Operator op) = []
single Complement = []
single Not = []
single Open = []
single Close = []
single Question = []
single Colon = []
single Other = []

-- the trees of symbols up to a `)` that is the last one
abbrev pub closed : (below : ℕ → List Symbol → List Tree) → Parting (Unit {0}) → List Tree
closed below p = elim p.behind [ [] ↦ below 0 p.before | s ∷ ts ↦ [] ]

-- the trees of these symbols after `(`
abbrev pub parenthesized : (below : ℕ → List Symbol → List Tree) → Symbol → List Symbol → List Tree
parenthesized below Open ts = flat_map (closed below) (partings close ts)
parenthesized below (Number v) ts = []
parenthesized below (Operator op) ts = []
parenthesized below Complement ts = []
parenthesized below Not ts = []
parenthesized below Close ts = []
parenthesized below Question ts = []
parenthesized below Colon ts = []
parenthesized below Other ts = []

-- the trees of these symbols after a unary operator
abbrev pub prefixed : (below : ℕ → List Symbol → List Tree) → Option Unary → List Symbol
    → List Tree
prefixed below None ts = []
prefixed below (Some op) ts = map (unary op) (below 11 ts)

-- the trees of unary expressions, which have the level 11 (6.5.1, 6.5.3)
abbrev pub unary_trees : (below : ℕ → List Symbol → List Tree) → List Symbol → List Tree
unary_trees below [] = []
unary_trees below (s ∷ []) = single s
unary_trees below (s ∷ next ∷ ts) =
    parenthesized below s (next ∷ ts) ++ prefixed below (prefix s) (next ∷ ts)

-- the trees of two parts with an operator between them (6.5.5 to 6.5.14)
abbrev pub around : (below : ℕ → List Symbol → List Tree) → Parting BinaryOperator → List Tree
around below p = flat_map
    (λ a. map (binary p.at a) (below (suc (level p.at)) p.behind)) (below (level p.at) p.before)

-- the trees of `c ? a : b`, by the symbols of c and the other ones, parted at `:` (6.5.15)
abbrev pub chosen : (below : ℕ → List Symbol → List Tree) → List Symbol → Parting (Unit {0})
    → List Tree
chosen below condition p = flat_map
    (λ c. flat_map (λ a. map (conditional c a) (below 0 p.behind)) (below 0 p.before))
    (below 1 condition)

-- the trees of conditional expressions, which have the level 0
abbrev pub conditional_trees : (below : ℕ → List Symbol → List Tree) → ℕ → List Symbol → List Tree
conditional_trees below zero ts = flat_map
    (λ p. flat_map (chosen below p.before) (partings colon p.behind)) (partings question ts)
conditional_trees below (suc k) ts = []

-- the trees of expressions of this level
abbrev pub trees_of : (below : ℕ → List Symbol → List Tree) → ℕ → List Symbol → List Tree
trees_of below k ts = elim (k == 11) [
  | true ↦ unary_trees below ts
  | false ↦ below (suc k) ts
      ++ (flat_map (around below) (partings (operator k) ts) ++ conditional_trees below k ts)
]

-- the trees that symbols derive at a level in at most `n` steps, one within the other
unfoldable pub trees : (n : ℕ) → (level : ℕ) → List Symbol → List Tree
trees zero k ts = []
trees (suc n) k ts = trees_of (trees n) k ts

------ the truth of a line

-- the truth of the first tree that has one
abbrev pub first_truth : List Tree → Option Bool
first_truth [] = None
first_truth (t ∷ ts) = elim (truth t) [ Some b ↦ Some b | None ↦ first_truth ts ]

-- what tokens are to the grammar
abbrev pub symbols_of : List Spelled → List Symbol
symbols_of tokens = map (λ s. symbol s.kind s.text) tokens

-- the truth of the expression that tokens are; `None` where they are none, or one without a value.
-- A derivation has at most twelve steps for each symbol
abbrev pub truth_of : List Spelled → Option Bool
truth_of tokens = first_truth (trees (12 * length (symbols_of tokens)) 0 (symbols_of tokens))
