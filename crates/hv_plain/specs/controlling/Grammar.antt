-- The grammar of controlling expressions (6.6, 6.10.1), and the value of what it derives.
-- Not in here: assignment, comma, casts, `sizeof`, `++`, `--`, `&` and `*` before an operand, and
-- `defined`, which is replaced before.
use Rattle.std.specs.Prelude.{ℕ, suc, ◌≡◌, Bool, List, [], ◌∷◌, ◌++◌, map, Option, Some, option_and_then}
use Rattle.hv_toks.specs.declared.token.PpTok.{PpTok}
use Rattle.hv_plain.specs.controlling.Symbols.{symbol_of}
use Rattle.hv_plain.specs.controlling.Values.{binary_value, unary_value, conditional_value, is_nonzero}
use Rattle.hv_plain.specs.declared.controlling.Operand.{Operand}
use Rattle.hv_base.specs.declared.operator.BinaryOperator.{BinaryOperator}
use Rattle.hv_base.specs.declared.operator.BinaryOperator.TheVariants.{Multiply, Divide, Remainder, Add, Subtract, ShiftLeft, ShiftRight, Less, Greater, LessEqual, GreaterEqual, Equal, NotEqual, And, ExclusiveOr, Or, LogicalAnd, LogicalOr}
use Rattle.hv_plain.specs.declared.controlling.Unary.{Unary}
use Rattle.hv_plain.specs.declared.controlling.Unary.TheVariants.{Plus, Minus, Complement, Not}
use Rattle.hv_plain.specs.declared.controlling.Symbol.{Symbol}
use Rattle.hv_plain.specs.declared.controlling.Symbol.TheVariants.{Number, Operator, Open, Close, Question, Colon, Complement as ComplementSign, Not as NotSign}

-- an expression: an operand; an operator before one; one between two; `c ? a : b`
pub data Tree : Type 0 where
  number : Operand → Tree
  unary : Unary → Tree → Tree
  binary : BinaryOperator → Tree → Tree → Tree
  conditional : Tree → Tree → Tree → Tree

-- the level of the expressions that an operator makes, from the logical OR expressions, 1, to the
-- multiplicative expressions, 10. The conditional expressions have the level 0, the unary ones 11
abbrev pub level : BinaryOperator → ℕ
level Multiply = 10
level Divide = 10
level Remainder = 10
level Add = 9
level Subtract = 9
level ShiftLeft = 8
level ShiftRight = 8
level Less = 7
level Greater = 7
level LessEqual = 7
level GreaterEqual = 7
level Equal = 6
level NotEqual = 6
level And = 5
level ExclusiveOr = 4
level Or = 3
level LogicalAnd = 2
level LogicalOr = 1

-- the symbol that a unary operator is (6.5.3)
abbrev pub sign : Unary → Symbol
sign Plus = Operator Add
sign Minus = Operator Subtract
sign Complement = ComplementSign
sign Not = NotSign

-- these symbols are an expression of the level, and have this tree (6.5.1, 6.5.3 and 6.5.5 to
-- 6.5.15)
pub data Derives : ℕ → List Symbol → Tree → Type 0 where
  -- a constant, or an identifier
  a_number : (value : Operand) → Derives 11 (Number value ∷ []) (number value)
  a_parenthesized : {ts : List Symbol} {t : Tree} → Derives 0 ts t
      → Derives 11 (Open ∷ (ts ++ Close ∷ [])) t
  a_unary : {ts : List Symbol} {t : Tree} (op : Unary) → Derives 11 ts t
      → Derives 11 (sign op ∷ ts) (unary op t)
  -- operators of one level group to the left
  a_binary : {ts us : List Symbol} {a b : Tree} (op : BinaryOperator)
      → Derives (level op) ts a → Derives (suc (level op)) us b
      → Derives (level op) (ts ++ Operator op ∷ us) (binary op a b)
  a_conditional : {cs ts us : List Symbol} {c a b : Tree}
      → Derives 1 cs c → Derives 0 ts a → Derives 0 us b
      → Derives 0 (cs ++ Question ∷ (ts ++ Colon ∷ us)) (conditional c a b)
  -- an expression of a higher level is one of each lower one
  a_higher : {k : ℕ} {ts : List Symbol} {t : Tree} → Derives (suc k) ts t → Derives k ts t

-- what an expression comes to, its parts first
abbrev pub value : Tree → Operand
value (number v) = v
value (unary op t) = unary_value op (value t)
value (binary op a b) = binary_value op (value a) (value b)
value (conditional c a b) = conditional_value (value c) (value a) (value b)

-- whether an operand is other than zero; `None` where it has no value
abbrev pub truth_of : Operand → Option Bool
truth_of v = option_and_then (λ bits. Some (is_nonzero bits)) v.bits

-- whether the expression is true; `None` where it has no value
abbrev pub truth : Tree → Option Bool
truth t = truth_of (value t)

-- what tokens are to the grammar
abbrev pub symbols : List PpTok → List Symbol
symbols tokens = map symbol_of tokens

-- the tokens are a controlling expression with this tree
abbrev pub IsExpression : List PpTok → Tree → Type 0
IsExpression tokens t = Derives 0 (symbols tokens) t

-- the tokens are a controlling expression of this truth
pub record IsTruth (tokens : List PpTok) (b : Bool) : Type 0 where
  pub tree : Tree
  pub derived : IsExpression tokens tree
  pub holds : truth tree ≡ Some b
