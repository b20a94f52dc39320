-- What a token is to the grammar of controlling expressions.
-- Not in here: punctuators that stand in no such expression, strings and header names, which are
-- all `Other`.
use Rattle.std.specs.Prelude.{ℕ, false, cond, ◌==◌, List, [], ◌∷◌, codes, Option, Some, None}
use Rattle.std.specs.Str.{bytes_eq}
use Rattle.hv_base.specs.Ascii as ascii
use Rattle.hv_toks.specs.declared.token.PpKind.{PpKind}
use Rattle.hv_toks.specs.declared.token.PpKind.TheVariants.{Identifier, Number as NumberKind, CharConstant, StringLiteral, HeaderName, Punctuator, Other as OtherKind}
use Rattle.hv_toks.specs.declared.token.PpTok.{PpTok}
use Rattle.hv_plain.specs.controlling.Constants.{integer_constant, char_constant}
use Rattle.hv_plain.specs.controlling.Values.{operand}
use Rattle.hv_plain.specs.declared.controlling.Operand.{Operand}
use Rattle.hv_base.specs.declared.operator.BinaryOperator.TheVariants.{Multiply, Divide, Remainder, Add, Subtract, ShiftLeft, ShiftRight, Less, Greater, LessEqual, GreaterEqual, Equal, NotEqual, And, ExclusiveOr, Or, LogicalAnd, LogicalOr}
use Rattle.hv_plain.specs.declared.controlling.Symbol.{Symbol}
use Rattle.hv_plain.specs.declared.controlling.Symbol.TheVariants.{Number, Operator, Complement, Not, Open, Close, Question, Colon, Other}

-- an identifier that remains is replaced by 0 (6.10.1); `defined` stands in no expression
abbrev pub identifier : List ℕ → Symbol
identifier name = cond (bytes_eq name (codes "defined")) Other (Number (operand false (Some 0)))

-- a constant by what it comes to; what comes to nothing stands in no expression
abbrev pub constant : Option Operand → Symbol
constant None = Other
constant (Some value) = Number value

-- punctuators of one byte
abbrev pub single : ℕ → Symbol
single byte =
    cond (byte == ascii.star) (Operator Multiply)
    (cond (byte == ascii.slash) (Operator Divide)
    (cond (byte == ascii.percent) (Operator Remainder)
    (cond (byte == ascii.plus) (Operator Add)
    (cond (byte == ascii.minus) (Operator Subtract)
    (cond (byte == ascii.less) (Operator Less)
    (cond (byte == ascii.greater) (Operator Greater)
    (cond (byte == ascii.ampersand) (Operator And)
    (cond (byte == ascii.caret) (Operator ExclusiveOr)
    (cond (byte == ascii.bar) (Operator Or)
    (cond (byte == ascii.tilde) Complement
    (cond (byte == ascii.exclamation) Not
    (cond (byte == ascii.left_parenthesis) Open
    (cond (byte == ascii.right_parenthesis) Close
    (cond (byte == ascii.question) Question
    (cond (byte == ascii.colon) Colon Other)))))))))))))))

-- `<<`, `>>`, `==`, `&&` and `||`
abbrev pub doubled : ℕ → Symbol
doubled byte =
    cond (byte == ascii.less) (Operator ShiftLeft)
    (cond (byte == ascii.greater) (Operator ShiftRight)
    (cond (byte == ascii.equal) (Operator Equal)
    (cond (byte == ascii.ampersand) (Operator LogicalAnd)
    (cond (byte == ascii.bar) (Operator LogicalOr) Other))))

-- `<=`, `>=` and `!=`
abbrev pub with_equals : ℕ → Symbol
with_equals byte =
    cond (byte == ascii.less) (Operator LessEqual)
    (cond (byte == ascii.greater) (Operator GreaterEqual)
    (cond (byte == ascii.exclamation) (Operator NotEqual) Other))

-- punctuators of two bytes
abbrev pub double : ℕ → ℕ → Symbol
double first second =
    cond (first == second) (doubled first)
    (cond (second == ascii.equal) (with_equals first) Other)

-- a punctuator by its spelling (6.4.6)
abbrev pub punctuator : List ℕ → Symbol
punctuator [] = Other
punctuator (byte ∷ []) = single byte
punctuator (first ∷ second ∷ []) = double first second
punctuator (_ ∷ _ ∷ _ ∷ _) = Other

-- a token by its kind and its spelling
abbrev pub symbol : PpKind → List ℕ → Symbol
symbol Identifier text = identifier text
symbol NumberKind text = constant (integer_constant text)
symbol CharConstant text = constant (char_constant text)
symbol StringLiteral text = Other
symbol HeaderName text = Other
symbol Punctuator text = punctuator text
symbol OtherKind text = Other

-- what a token is to the grammar
abbrev pub symbol_of : PpTok → Symbol
symbol_of token = symbol token.kind token.text
