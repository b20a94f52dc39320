-- What the grammar reads: terminals, tokens with their places, and tokens with the marks of what is
-- open there.
use Rattle.std.specs.Prelude.{ℕ, List, ◌∷◌}
use Rattle.hv_base.specs.declared.place.Place.{Place}
use Rattle.hv_base.specs.declared.keyword.Keyword.{Keyword}
use Rattle.hv_base.specs.declared.keyword.Keyword.TheVariants as keywords
use Rattle.hv_base.specs.declared.punct.Punct.{Punct}
use Rattle.hv_base.specs.declared.punct.Punct.TheVariants as puncts
use Rattle.hv_ctree.specs.declared.tree.words.AssignmentOperator.{AssignmentOperator}
use Rattle.hv_ctree.specs.declared.tree.words.AssignmentOperator.TheVariants as assignments
use Rattle.hv_base.specs.declared.operator.BinaryOperator.{BinaryOperator}
use Rattle.hv_base.specs.declared.operator.BinaryOperator.TheVariants as binaries
use Rattle.hv_ctree.specs.declared.tree.words.Constant.{Constant}
use Rattle.hv_ctree.specs.declared.tree.words.Selector.{Selector}
use Rattle.hv_ctree.specs.declared.tree.words.Selector.TheVariants as selectors
use Rattle.hv_ctree.specs.declared.tree.words.Step.{Step}
use Rattle.hv_ctree.specs.declared.tree.words.Step.TheVariants as steps
use Rattle.hv_ctree.specs.declared.tree.words.StorageClass.{StorageClass}
use Rattle.hv_ctree.specs.declared.tree.words.StorageClass.TheVariants as storages
use Rattle.hv_ctree.specs.declared.tree.words.StructOrUnion.{StructOrUnion}
use Rattle.hv_ctree.specs.declared.tree.words.StructOrUnion.TheVariants as compounds
use Rattle.hv_ctree.specs.declared.tree.words.TypeQualifier.{TypeQualifier}
use Rattle.hv_ctree.specs.declared.tree.words.TypeQualifier.TheVariants as qualifiers
use Rattle.hv_ctree.specs.declared.tree.words.UnaryOperator.{UnaryOperator}
use Rattle.hv_ctree.specs.declared.tree.words.UnaryOperator.TheVariants as unaries
use Rattle.hv_ctree.specs.tree.Expressions.{TypeWord, void_word, char_word, short_word, int_word, long_word, signed_word, unsigned_word, bool_word}

-- a terminal of the grammar: a token by its value, a name with or without the mark of a typedef
-- name, or a hole for a nested statement or a block's items; a name that is no identifier of the
-- profile is `foreign`
pub data Symbol : Type 0 where
  keyword : Keyword → Symbol
  name : List ℕ → Symbol
  marked : List ℕ → Symbol
  number : Constant → Symbol
  text : List ℕ → Symbol
  sign : Punct → Symbol
  hole : Symbol
  foreign : Symbol

-- a token with its place
pub record Token : Type 0 where
  pub symbol : Symbol
  pub place : Place

-- where a token stands: in no expression, in one, or as one of the operators that are counted there
pub data Role : Type 0 where
  outside : Role
  inside : Role
  operator : Role

-- a token, how many brackets and prefixes are open at it, where it stands, and how many statements
-- are open at it (none, as long as only one element is read)
pub record Marked : Type 0 where
  pub token : Token
  pub depth : ℕ
  pub role : Role
  pub statements : ℕ

-- a terminal at a place
abbrev pub token_at : Place → Symbol → Token
token_at p s = record { symbol = s; place = p }

-- a token in the role, at the depth
abbrev pub at : Role → ℕ → Place → Symbol → Marked
at r d p s = record { token = token_at p s; depth = d; role = r; statements = 0 }

-- a token of an expression that isn't counted
abbrev pub quiet : ℕ → Place → Symbol → Marked
quiet d p s = at inside d p s

-- a token of an expression that is counted
abbrev pub counted : ℕ → Place → Symbol → Marked
counted d p s = at operator d p s

-- a phrase that these tokens begin with begins at the place
pub data BeginsAt : Place → List Marked → Type 0 where
  at_first : (t : Marked) (ts : List Marked) → BeginsAt t.token.place (t ∷ ts)

-- `(` (6.4.6)
abbrev pub left_paren : Symbol
left_paren = sign puncts.LeftParenthesis

-- `)` (6.4.6)
abbrev pub right_paren : Symbol
right_paren = sign puncts.RightParenthesis

-- `[` (6.4.6)
abbrev pub left_bracket : Symbol
left_bracket = sign puncts.LeftBracket

-- `]` (6.4.6)
abbrev pub right_bracket : Symbol
right_bracket = sign puncts.RightBracket

-- `{` (6.4.6)
abbrev pub left_brace : Symbol
left_brace = sign puncts.LeftBrace

-- `}` (6.4.6)
abbrev pub right_brace : Symbol
right_brace = sign puncts.RightBrace

-- `,` (6.4.6)
abbrev pub comma_sign : Symbol
comma_sign = sign puncts.Comma

-- `:` (6.4.6)
abbrev pub colon : Symbol
colon = sign puncts.Colon

-- `;` (6.4.6)
abbrev pub semicolon : Symbol
semicolon = sign puncts.Semicolon

-- `=` (6.4.6)
abbrev pub equal_sign : Symbol
equal_sign = sign puncts.Equal

-- the sign of an operator between two operands (6.5.5 to 6.5.14)
abbrev pub binary_sign : BinaryOperator → Symbol
binary_sign binaries.Multiply = sign puncts.Star
binary_sign binaries.Divide = sign puncts.Slash
binary_sign binaries.Remainder = sign puncts.Percent
binary_sign binaries.Add = sign puncts.Plus
binary_sign binaries.Subtract = sign puncts.Minus
binary_sign binaries.ShiftLeft = sign puncts.LeftShift
binary_sign binaries.ShiftRight = sign puncts.RightShift
binary_sign binaries.Less = sign puncts.Less
binary_sign binaries.Greater = sign puncts.Greater
binary_sign binaries.LessEqual = sign puncts.LessEqual
binary_sign binaries.GreaterEqual = sign puncts.GreaterEqual
binary_sign binaries.Equal = sign puncts.EqualEqual
binary_sign binaries.NotEqual = sign puncts.NotEqual
binary_sign binaries.And = sign puncts.And
binary_sign binaries.ExclusiveOr = sign puncts.Caret
binary_sign binaries.Or = sign puncts.Or
binary_sign binaries.LogicalAnd = sign puncts.AndAnd
binary_sign binaries.LogicalOr = sign puncts.OrOr

-- the level of the expressions that an operator makes. The other levels: 0 expression, 1
-- assignment-expression, 2 conditional-expression, which is a constant-expression too, 13
-- cast-expression, 14 unary-expression, 15 postfix-expression
abbrev pub level : BinaryOperator → ℕ
level binaries.Multiply = 12
level binaries.Divide = 12
level binaries.Remainder = 12
level binaries.Add = 11
level binaries.Subtract = 11
level binaries.ShiftLeft = 10
level binaries.ShiftRight = 10
level binaries.Less = 9
level binaries.Greater = 9
level binaries.LessEqual = 9
level binaries.GreaterEqual = 9
level binaries.Equal = 8
level binaries.NotEqual = 8
level binaries.And = 7
level binaries.ExclusiveOr = 6
level binaries.Or = 5
level binaries.LogicalAnd = 4
level binaries.LogicalOr = 3

-- the sign of a unary operator (6.5.3)
abbrev pub unary_sign : UnaryOperator → Symbol
unary_sign unaries.Address = sign puncts.And
unary_sign unaries.Indirection = sign puncts.Star
unary_sign unaries.Plus = sign puncts.Plus
unary_sign unaries.Minus = sign puncts.Minus
unary_sign unaries.Complement = sign puncts.Tilde
unary_sign unaries.Not = sign puncts.Not

-- the sign of an assignment (6.5.16)
abbrev pub assignment_sign : AssignmentOperator → Symbol
assignment_sign assignments.Plain = sign puncts.Equal
assignment_sign assignments.Multiply = sign puncts.StarEqual
assignment_sign assignments.Divide = sign puncts.SlashEqual
assignment_sign assignments.Remainder = sign puncts.PercentEqual
assignment_sign assignments.Add = sign puncts.PlusEqual
assignment_sign assignments.Subtract = sign puncts.MinusEqual
assignment_sign assignments.ShiftLeft = sign puncts.LeftShiftEqual
assignment_sign assignments.ShiftRight = sign puncts.RightShiftEqual
assignment_sign assignments.And = sign puncts.AndEqual
assignment_sign assignments.ExclusiveOr = sign puncts.CaretEqual
assignment_sign assignments.Or = sign puncts.OrEqual

-- `.` or `->`
abbrev pub selector_sign : Selector → Symbol
selector_sign selectors.Dot = sign puncts.Dot
selector_sign selectors.Arrow = sign puncts.Arrow

-- `++` or `--`
abbrev pub step_sign : Step → Symbol
step_sign steps.Increment = sign puncts.PlusPlus
step_sign steps.Decrement = sign puncts.MinusMinus

-- the word of a storage class (6.7.1)
abbrev pub storage_word : StorageClass → Symbol
storage_word storages.Typedef = keyword keywords.Typedef
storage_word storages.Extern = keyword keywords.Extern
storage_word storages.Static = keyword keywords.Static
storage_word storages.Auto = keyword keywords.Auto
storage_word storages.Register = keyword keywords.Register

-- the word of a qualifier (6.7.3)
abbrev pub qualifier_word : TypeQualifier → Symbol
qualifier_word qualifiers.Const = keyword keywords.Const
qualifier_word qualifiers.Restrict = keyword keywords.Restrict

-- `struct` or `union`
abbrev pub compound_word : StructOrUnion → Symbol
compound_word compounds.Struct = keyword keywords.Struct
compound_word compounds.Union = keyword keywords.Union

-- a word that is a type specifier (6.7.2)
abbrev pub type_word : TypeWord → Symbol
type_word void_word = keyword keywords.Void
type_word char_word = keyword keywords.Char
type_word short_word = keyword keywords.Short
type_word int_word = keyword keywords.Int
type_word long_word = keyword keywords.Long
type_word signed_word = keyword keywords.Signed
type_word unsigned_word = keyword keywords.Unsigned
type_word bool_word = keyword keywords.Bool
