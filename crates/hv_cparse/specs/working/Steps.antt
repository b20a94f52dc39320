-- The control's steps: those of the pure machine, without trees and places.
use Rattle.std.specs.Prelude.{◌≡◌, ℕ, zero, suc, Bool, true, false, cond, nat_le, List, [], ◌∷◌, Option, Some, None}
use Rattle.hv_base.specs.declared.keyword.Keyword.{Keyword as KeywordOf}
use Rattle.hv_base.specs.declared.keyword.Keyword.TheVariants as keywords
use Rattle.hv_base.specs.declared.punct.Punct.{Punct}
use Rattle.hv_base.specs.declared.punct.Punct.TheVariants as puncts
use Rattle.hv_grammar.specs.Expressions.{braced}
use Rattle.hv_cparse.specs.declared.frame.Frame.{Frame}
use Rattle.hv_cparse.specs.declared.frame.Frame.TheVariants.{Parenthesis, AfterSizeof, Subscript, Callee, Calling, Prefix, Unary, Sizeof, SizeofType, CastType, Cast, Binary, Then, Else, Assign, Comma, Specified, Body, Listing, Valued, Owned, OwnedMembers, Group, Length, Parameters, Braces, Index, Designated, Declares, Declaring, Initialized, Statement, Terminal}
use Rattle.hv_cparse.specs.declared.frame.At.{At}
use Rattle.hv_cparse.specs.declared.frame.At.TheVariants.{Want, Have, Selecting, Words, AfterCompound, AfterTag, AfterEnum, AfterEnumTag, MemberStart, EnumeratorStart, AfterEnumerator, Pointing, Opened, Direct, Bracket, ParametersStart, ParameterNext, AfterEllipsis, InitializerStart, BracesStart, AfterDot, AfterDesignator, AfterInitializer, Start, Awaiting, Opening, AfterIf, MayElse, ForOpening, ForStart, Before}
use Rattle.hv_cparse.specs.declared.frame.Owner.{Owner}
use Rattle.hv_cparse.specs.declared.frame.Owner.TheVariants.{TypeName, Parameter, Member, Declaration}
use Rattle.hv_cparse.specs.declared.frame.Mode.{Mode}
use Rattle.hv_cparse.specs.declared.frame.Mode.TheVariants.{Named, Abstract, Either}
use Rattle.hv_cparse.specs.declared.frame.Role.{Role}
use Rattle.hv_cparse.specs.declared.frame.Role.TheVariants.{Outside, Inside, Operator}
use Rattle.hv_cparse.specs.declared.frame.Mark.{Mark}
use Rattle.hv_cparse.specs.declared.class.Class.{Class}
use Rattle.hv_cparse.specs.declared.class.Class.TheVariants.{Keyword, Name, Marked, Number, Text, Sign}
use Rattle.hv_cparse.specs.declared.class.Infix.{Infix}
use Rattle.hv_cparse.specs.declared.class.Infix.TheVariants.{Binary as ByOperator, Assignment, Question, Comma as ByComma, Bracket as ByBracket, Parenthesis as ByParenthesis}
use Rattle.hv_cparse.specs.declared.class.Specifier.{Specifier}
use Rattle.hv_cparse.specs.declared.class.Specifier.TheVariants.{Word, Compound, Enumeration}
use Rattle.hv_cparse.specs.declared.part.Standing.{Standing}
use Rattle.hv_cparse.specs.declared.part.Standing.TheVariants.{External, Item, Nested}
use Rattle.hv_cparse.specs.declared.part.Setting.{Setting}
use Rattle.hv_cparse.specs.declared.part.Setting.TheVariants.{File, Block, For}
use Rattle.hv_cparse.specs.declared.part.Clause.{Clause}
use Rattle.hv_cparse.specs.declared.part.Clause.TheVariants.{ForFirst, ForSecond, ForThird, Return}
use Rattle.hv_cparse.specs.declared.part.Part.{Part}
use Rattle.hv_cparse.specs.declared.part.Part.TheVariants as parts
use Rattle.hv_cparse.specs.declared.part.Fixed.{Fixed}
use Rattle.hv_cparse.specs.declared.part.Fixed.TheVariants as fixed
use Rattle.hv_cparse.specs.working.Parts.{meets, clause_closer, closer}
use Rattle.hv_cparse.specs.working.Tables.{many, hole_of, weigh, depth, types, role_of, reduce, Reduced, first}

-- a token was taken: the frames and the place after it, and what is known of it
pub record Moved : Type 0 where
  pub frames : List Frame
  pub at : At
  pub mark : Mark

-- a token was taken in the role, with so many open at it
abbrev pub move : Role → List Frame → At → ℕ → Option Moved
move r stack a d =
    Some (record { frames = stack; at = a; mark = record { depth = d; role = r; late = false } })

-- a token of an expression that is no counted operator
abbrev pub quiet : List Frame → At → ℕ → Option Moved
quiet stack a d = move Inside stack a d

-- a counted operator of an expression
abbrev pub loud : List Frame → At → ℕ → Option Moved
loud stack a d = move Operator stack a d

-- a token that stands in no expression
abbrev pub loosely : List Frame → At → ℕ → Option Moved
loosely stack a d = move Outside stack a d

-- a token of specifiers or declarators, within the frames that come first
abbrev pub plainly : List Frame → List Frame → At → ℕ → Option Moved
plainly around stack a d = move (role_of (types around)) stack a d

-- a token of a declarator at which so many are open within the frames
abbrev pub starred : At → ℕ → List Frame → Option Moved
starred a n stack = plainly stack stack a (many n (depth stack))

-- the same mark, where the `(` before the token counts
abbrev pub late : Mark → Mark
late k = record k { late = true }

-- the `(` before the token counts
abbrev pub lately : Option Moved → Option Moved
lately None = None
lately (Some k) = Some (record { frames = k.frames; at = k.at; mark = late k.mark })

-- the control took the token so, or not at all
abbrev pub IsMoved : Option Moved → Option Mark → List Frame → At → Type 0
IsMoved o None stack a = o ≡ None
IsMoved o (Some k) stack a = o ≡ Some (record { frames = stack; at = a; mark = k })

------ tables of signs and words

-- what a sign goes on with after a left operand
abbrev pub infix_of : Punct → Option Infix
infix_of puncts.Star = Some (ByOperator 12)
infix_of puncts.Slash = Some (ByOperator 12)
infix_of puncts.Percent = Some (ByOperator 12)
infix_of puncts.Plus = Some (ByOperator 11)
infix_of puncts.Minus = Some (ByOperator 11)
infix_of puncts.LeftShift = Some (ByOperator 10)
infix_of puncts.RightShift = Some (ByOperator 10)
infix_of puncts.Less = Some (ByOperator 9)
infix_of puncts.Greater = Some (ByOperator 9)
infix_of puncts.LessEqual = Some (ByOperator 9)
infix_of puncts.GreaterEqual = Some (ByOperator 9)
infix_of puncts.EqualEqual = Some (ByOperator 8)
infix_of puncts.NotEqual = Some (ByOperator 8)
infix_of puncts.And = Some (ByOperator 7)
infix_of puncts.Caret = Some (ByOperator 6)
infix_of puncts.Or = Some (ByOperator 5)
infix_of puncts.AndAnd = Some (ByOperator 4)
infix_of puncts.OrOr = Some (ByOperator 3)
infix_of puncts.Equal = Some Assignment
infix_of puncts.StarEqual = Some Assignment
infix_of puncts.SlashEqual = Some Assignment
infix_of puncts.PercentEqual = Some Assignment
infix_of puncts.PlusEqual = Some Assignment
infix_of puncts.MinusEqual = Some Assignment
infix_of puncts.LeftShiftEqual = Some Assignment
infix_of puncts.RightShiftEqual = Some Assignment
infix_of puncts.AndEqual = Some Assignment
infix_of puncts.CaretEqual = Some Assignment
infix_of puncts.OrEqual = Some Assignment
infix_of puncts.Question = Some Question
infix_of puncts.LeftBracket = Some ByBracket
infix_of puncts.LeftParenthesis = Some ByParenthesis
infix_of _ = None

-- the level that the left operand has at least
abbrev pub left : Infix → ℕ
left (ByOperator k) = k
left Assignment = 14
left Question = 3
left ByComma = 0
left ByBracket = 15
left ByParenthesis = 15

-- the level of what ends before it
abbrev pub reach : Infix → ℕ
reach (ByOperator k) = k
reach Assignment = 13
reach Question = 3
reach ByComma = 0
reach ByBracket = 15
reach ByParenthesis = 15

-- the level of what it makes
abbrev pub makes : Infix → ℕ
makes (ByOperator k) = k
makes Assignment = 1
makes Question = 2
makes ByComma = 0
makes ByBracket = 15
makes ByParenthesis = 15

-- the frame that it begins
abbrev pub begun : Infix → Frame
begun (ByOperator k) = Binary k
begun Assignment = Assign
begun Question = Then
begun ByComma = Comma
begun ByBracket = Subscript
begun ByParenthesis = Callee

-- how many are open at it
abbrev pub weigh_at : Infix → ℕ → ℕ
weigh_at (ByOperator k) d = d
weigh_at Assignment d = d
weigh_at Question d = suc d
weigh_at ByComma d = d
weigh_at ByBracket d = suc d
weigh_at ByParenthesis d = suc d

-- a word that only declarations and parameters have
abbrev pub parameter_word : Owner → Bool → Option Specifier
parameter_word Parameter b = Some (Word b)
parameter_word Declaration b = Some (Word b)
parameter_word o b = None

-- a typedef name, which is a type where no type specifier stands before it
abbrev pub marked_word : Bool → Option Specifier
marked_word true = None
marked_word false = Some (Word true)

-- the specifier that a keyword is or begins, after others with a type specifier among them or not
abbrev pub keyword_specifier : Owner → Bool → KeywordOf → Option Specifier
keyword_specifier o b keywords.Struct = Some Compound
keyword_specifier o b keywords.Union = Some Compound
keyword_specifier o b keywords.Enum = Some Enumeration
keyword_specifier o b keywords.Typedef = parameter_word o b
keyword_specifier o b keywords.Extern = parameter_word o b
keyword_specifier o b keywords.Static = parameter_word o b
keyword_specifier o b keywords.Auto = parameter_word o b
keyword_specifier o b keywords.Register = parameter_word o b
keyword_specifier o b keywords.Inline = parameter_word o b
keyword_specifier o b keywords.Const = Some (Word b)
keyword_specifier o b keywords.Restrict = Some (Word b)
keyword_specifier o b keywords.Void = Some (Word true)
keyword_specifier o b keywords.Char = Some (Word true)
keyword_specifier o b keywords.Short = Some (Word true)
keyword_specifier o b keywords.Int = Some (Word true)
keyword_specifier o b keywords.Long = Some (Word true)
keyword_specifier o b keywords.Signed = Some (Word true)
keyword_specifier o b keywords.Unsigned = Some (Word true)
keyword_specifier o b keywords.Bool = Some (Word true)
keyword_specifier o b k = None

-- the specifier that a token is or begins
abbrev pub specifier_of : Owner → Bool → Class → Option Specifier
specifier_of o b (Keyword k) = keyword_specifier o b k
specifier_of o b Marked = marked_word b
specifier_of o b _ = None

------ specifiers

-- one more specifier
abbrev pub begun_by : Specifier → Owner → List Frame → Option Moved
begun_by (Word b) o stack = plainly stack stack (Words o b) (depth stack)
begun_by Compound o stack = plainly stack (Specified o ∷ stack) AfterCompound (depth stack)
begun_by Enumeration o stack = plainly stack (Specified o ∷ stack) AfterEnum (depth stack)

-- the same, if the token is one; what it does otherwise comes last
abbrev pub begin : Option Specifier → Owner → List Frame → Option Moved → Option Moved
begin None o stack other = other
begin (Some x) o stack other = begun_by x o stack

-- the first specifier
abbrev pub first_word : Owner → List Frame → Class → Option Moved → Option Moved
first_word o stack c other = begin (specifier_of o false c) o stack other

------ before an operand

-- a primary expression of one token
abbrev pub leaf : List Frame → Option Moved
leaf stack = quiet stack (Have 15) (depth stack)

-- a token that begins the frame, and counts
abbrev pub pushed : List Frame → Frame → Option Moved
pushed stack f = loud (f ∷ stack) Want (weigh f (depth stack))

-- `(`: after `sizeof` the next token says whether it counts
abbrev pub paren_at : List Frame → Option Moved
paren_at (Sizeof ∷ stack) = quiet (AfterSizeof ∷ Sizeof ∷ stack) Want (suc (suc (depth stack)))
paren_at stack = pushed stack Parenthesis

-- `)` directly after the `(` of a call
abbrev pub close_call : List Frame → Option Moved
close_call (Callee ∷ stack) = quiet stack (Have 15) (suc (depth stack))
close_call _ = None

-- a sign that begins an operand
abbrev pub want_sign : List Frame → Punct → Option Moved
want_sign stack puncts.LeftParenthesis = paren_at stack
want_sign stack puncts.RightParenthesis = close_call stack
want_sign stack puncts.PlusPlus = pushed stack Prefix
want_sign stack puncts.MinusMinus = pushed stack Prefix
want_sign stack puncts.And = pushed stack Unary
want_sign stack puncts.Star = pushed stack Unary
want_sign stack puncts.Plus = pushed stack Unary
want_sign stack puncts.Minus = pushed stack Unary
want_sign stack puncts.Tilde = pushed stack Unary
want_sign stack puncts.Not = pushed stack Unary
want_sign stack _ = None

-- a token that begins an operand
abbrev pub operand_at : List Frame → Class → Option Moved
operand_at stack Name = leaf stack
operand_at stack Number = leaf stack
operand_at stack Text = leaf stack
operand_at stack (Keyword keywords.Sizeof) = pushed stack Sizeof
operand_at stack (Sign s) = want_sign stack s
operand_at stack _ = None

-- after `(` a type's name begins a cast, where one may stand
abbrev pub cast_at : List Frame → Class → Option Moved → Option Moved
cast_at stack c other =
    cond (nat_le (hole_of stack) 13) (first_word TypeName (CastType ∷ stack) c other) other

-- a token after a `(`
abbrev pub after_parenthesis : List Frame → Class → Option Moved
after_parenthesis (Parenthesis ∷ stack) c =
    cast_at stack c (operand_at (Parenthesis ∷ stack) c)
after_parenthesis stack c = operand_at stack c

-- a token after a `(` after `sizeof`
abbrev pub after_sizeof : List Frame → Class → Option Moved
after_sizeof (AfterSizeof ∷ Sizeof ∷ stack) c =
    first_word TypeName (SizeofType ∷ stack) c
    (lately (operand_at (Parenthesis ∷ Sizeof ∷ stack) c))
after_sizeof stack c = operand_at stack c

-- a token where an operand is wanted, by the innermost frame
abbrev pub want_by : Option Frame → List Frame → Class → Option Moved
want_by (Some Parenthesis) stack c = after_parenthesis stack c
want_by (Some AfterSizeof) stack c = after_sizeof stack c
want_by _ stack c = operand_at stack c

-- a token where an operand is wanted
abbrev pub step_want : List Frame → Class → Option Moved
step_want stack c = want_by (first stack) stack c

------ after an operand

-- the sign goes on
abbrev pub infix_begun : Infix → List Frame → Option Moved
infix_begun i stack = loud (begun i ∷ stack) Want (weigh_at i (depth stack))

-- the sign goes on, where the frame around admits what it makes
abbrev pub infix_at : Infix → List Frame → Option Moved → Option Moved
infix_at i stack other = cond (nat_le (hole_of stack) (makes i)) (infix_begun i stack) other

-- the same, where the operand is of the level that the sign wants on its left
abbrev pub infix_of_level : Infix → Reduced → Option Moved
infix_of_level i r = cond (nat_le (left i) r.level) (infix_at i r.stack None) None

-- a sign after an operand, once what ends before it has ended
abbrev pub goes_on : Infix → ℕ → List Frame → Option Moved
goes_on i k stack = infix_of_level i (reduce (reach i) stack k)

-- a specifier is ended, where it stands in others
abbrev pub specified : List Frame → ℕ → Option Moved
specified (Specified o ∷ stack) d = plainly stack stack (Words o true) d
specified _ d = None

-- a comma after an enumerator
abbrev pub next_enumerator : List Frame → Option Moved
next_enumerator (Listing b ∷ stack) =
    plainly stack (Listing true ∷ stack) EnumeratorStart (braced (depth stack))
next_enumerator _ = None

-- the `}` of an enumeration
abbrev pub end_listing : List Frame → Option Moved
end_listing (Listing b ∷ stack) = specified stack (braced (depth stack))
end_listing _ = None

-- before a terminal that ends the element
abbrev pub awaited : Fixed → List Frame → Option Moved
awaited e stack = loosely (Terminal e ∷ stack) Awaiting 0

-- after an expression that may be missing, and what stands after it
abbrev pub after_clause : Clause → List Frame → Option Moved
after_clause ForFirst stack = loosely stack (Before ForSecond) 0
after_clause ForSecond stack = loosely stack (Before ForThird) 0
after_clause ForThird stack = awaited fixed.Hole stack
after_clause Return stack = loosely stack Awaiting 0

-- after an expression of a statement, and what stands after it
abbrev pub after_part : Part → List Frame → Option Moved
after_part parts.Case stack = awaited fixed.Hole stack
after_part parts.Expression stack = loosely stack Awaiting 0
after_part parts.If stack = loosely stack AfterIf 0
after_part parts.Switch stack = awaited fixed.Hole stack
after_part parts.While stack = awaited fixed.Hole stack
after_part parts.Do stack = awaited fixed.Semicolon stack
after_part (parts.Optional c) stack = after_clause c stack

-- a token after an expression of a statement
abbrev pub part_at : Part → List Frame → Class → Option Moved
part_at p [] c = cond (meets (closer p) c) (after_part p []) None
part_at p (f ∷ stack) c = None

-- after a declaration
abbrev pub after_declaration : Setting → List Frame → Option Moved
after_declaration File stack = loosely stack Awaiting 0
after_declaration Block stack = loosely stack Awaiting 0
after_declaration For stack = loosely stack (Before ForSecond) 0

-- the `;` of a declaration
abbrev pub declared : List Frame → Option Moved
declared (Declares w ∷ []) = after_declaration w []
declared _ = None

-- a sign after an initialiser in braces
abbrev pub after_item : List Frame → Punct → Option Moved
after_item (Braces b ∷ stack) puncts.Comma =
    loosely (Braces true ∷ stack) BracesStart (suc (depth stack))
after_item (Braces b ∷ stack) puncts.RightBrace =
    loosely stack AfterInitializer (suc (depth stack))
after_item _ s = None

-- a sign after the initialiser of a declarator
abbrev pub after_value : List Frame → Punct → Option Moved
after_value (Declaring b ∷ stack) puncts.Comma =
    loosely (Declaring true ∷ stack) (Pointing Named 0) (depth stack)
after_value (Declaring b ∷ stack) puncts.Semicolon = declared stack
after_value _ s = None

-- a sign after an initialiser, by what it stands in
abbrev pub initialized_at : List Frame → Punct → Option Moved
initialized_at (Designated ∷ stack) s = after_item stack s
initialized_at (Initialized ∷ stack) s = after_value stack s
initialized_at _ s = None

-- a comma that ends an argument, an enumerator's value or an initialiser
abbrev pub argument_at : List Frame → Option Moved
argument_at (Callee ∷ stack) = quiet (Calling ∷ stack) Want (suc (depth stack))
argument_at (Calling ∷ stack) = quiet (Calling ∷ stack) Want (suc (depth stack))
argument_at (Valued ∷ stack) = next_enumerator stack
argument_at (Designated ∷ stack) = after_item stack puncts.Comma
argument_at (Initialized ∷ stack) = after_value stack puncts.Comma
argument_at _ = None

-- a comma after an operand
abbrev pub comma_at : List Frame → Option Moved
comma_at stack = infix_at ByComma stack (argument_at stack)

-- `)` of a parenthesis, of a call or of a statement
abbrev pub close_at : List Frame → Option Moved
close_at (Parenthesis ∷ stack) = quiet stack (Have 15) (suc (depth stack))
close_at (Callee ∷ stack) = quiet stack (Have 15) (suc (depth stack))
close_at (Calling ∷ stack) = quiet stack (Have 15) (suc (depth stack))
close_at (Statement p ∷ stack) = part_at p stack (Sign puncts.RightParenthesis)
close_at _ = None

-- `]` of a subscript, of an array declarator or of a designator
abbrev pub bracket_at : List Frame → Option Moved
bracket_at (Subscript ∷ stack) = quiet stack (Have 15) (suc (depth stack))
bracket_at (Length m n ∷ stack) = starred (Direct m n) (suc n) stack
bracket_at (Index ∷ stack) = loosely stack AfterDesignator (suc (depth stack))
bracket_at _ = None

-- `}` after an enumerator's value or an initialiser
abbrev pub brace_at : List Frame → Option Moved
brace_at (Valued ∷ stack) = end_listing stack
brace_at (Designated ∷ stack) = after_item stack puncts.RightBrace
brace_at _ = None

-- `:` of a conditional expression or of a label
abbrev pub colon_at : List Frame → Option Moved
colon_at (Then ∷ stack) = quiet (Else ∷ stack) Want (suc (depth stack))
colon_at (Statement p ∷ stack) = part_at p stack (Sign puncts.Colon)
colon_at _ = None

-- `;` after an initialiser or an expression of a statement
abbrev pub semicolon_at : List Frame → Option Moved
semicolon_at (Initialized ∷ stack) = after_value stack puncts.Semicolon
semicolon_at (Statement p ∷ stack) = part_at p stack (Sign puncts.Semicolon)
semicolon_at _ = None

-- a sign that ends operands, once they have ended
abbrev pub ending_sign : Punct → Reduced → Option Moved
ending_sign puncts.Comma r = comma_at r.stack
ending_sign puncts.RightParenthesis r = close_at r.stack
ending_sign puncts.RightBracket r = bracket_at r.stack
ending_sign puncts.RightBrace r = brace_at r.stack
ending_sign puncts.Colon r = colon_at r.stack
ending_sign puncts.Semicolon r = semicolon_at r.stack
ending_sign _ r = None

-- a postfix operator stands after a postfix-expression
abbrev pub after_postfix : ℕ → List Frame → At → Option Moved
after_postfix k stack a = cond (nat_le 15 k) (loud stack a (depth stack)) None

-- a sign after an operand, if it is one that goes on
abbrev pub goes_by : Option Infix → ℕ → List Frame → Option Moved
goes_by None k stack = None
goes_by (Some i) k stack = goes_on i k stack

-- a sign after an operand
abbrev pub have_sign : List Frame → ℕ → Punct → Option Moved
have_sign stack k puncts.Comma = ending_sign puncts.Comma (reduce 0 stack k)
have_sign stack k puncts.RightParenthesis = ending_sign puncts.RightParenthesis (reduce 0 stack k)
have_sign stack k puncts.RightBracket = ending_sign puncts.RightBracket (reduce 0 stack k)
have_sign stack k puncts.RightBrace = ending_sign puncts.RightBrace (reduce 0 stack k)
have_sign stack k puncts.Colon = ending_sign puncts.Colon (reduce 0 stack k)
have_sign stack k puncts.Semicolon = ending_sign puncts.Semicolon (reduce 0 stack k)
have_sign stack k puncts.Dot = after_postfix k stack Selecting
have_sign stack k puncts.Arrow = after_postfix k stack Selecting
have_sign stack k puncts.PlusPlus = after_postfix k stack (Have 15)
have_sign stack k puncts.MinusMinus = after_postfix k stack (Have 15)
have_sign stack k s = goes_by (infix_of s) k stack

-- a token after an operand
abbrev pub step_have : List Frame → ℕ → Class → Option Moved
step_have stack k (Sign s) = have_sign stack k s
step_have stack k _ = None

-- the member's name after `.` or `->`
abbrev pub step_selecting : List Frame → Class → Option Moved
step_selecting stack Name = leaf stack
step_selecting stack _ = None

------ declarators

-- whether a declarator may have a name there
abbrev pub may_name : Mode → Bool
may_name Named = true
may_name Abstract = false
may_name Either = true

-- whether it may have none there
abbrev pub may_lack_name : Mode → Bool
may_lack_name Named = false
may_lack_name Abstract = true
may_lack_name Either = true

-- a sign after a parameter
abbrev pub after_parameter : List Frame → Punct → Option Moved
after_parameter (Parameters m n ∷ stack) puncts.Comma =
    plainly stack (Parameters m n ∷ stack) ParameterNext (suc (many n (depth stack)))
after_parameter (Parameters m n ∷ stack) puncts.RightParenthesis =
    starred (Direct m n) (suc n) stack
after_parameter _ s = None

-- a sign after a member's declarator
abbrev pub after_member : List Frame → Punct → Option Moved
after_member stack puncts.Comma =
    plainly stack (OwnedMembers ∷ stack) (Pointing Named 0) (depth stack)
after_member (Body b ∷ stack) puncts.Semicolon =
    plainly stack (Body true ∷ stack) MemberStart (suc (depth stack))
after_member _ s = None

-- `)` after the type's name of a cast or of `sizeof`
abbrev pub after_type_name : List Frame → Punct → Option Moved
after_type_name (CastType ∷ stack) puncts.RightParenthesis =
    quiet (Cast ∷ stack) Want (suc (depth stack))
after_type_name (SizeofType ∷ stack) puncts.RightParenthesis =
    quiet stack (Have 14) (suc (suc (depth stack)))
after_type_name _ s = None

-- `)` after a declarator in parentheses
abbrev pub after_group : Mode → ℕ → List Frame → Punct → Option Moved
after_group m n stack puncts.RightParenthesis =
    starred (Direct m n) (suc n) stack
after_group m n _ s = None

-- a sign after a declarator of a declaration, of which another was read before or not
abbrev pub after_init : Bool → List Frame → Punct → Option Moved
after_init b stack puncts.Comma =
    loosely (Declaring true ∷ stack) (Pointing Named 0) (depth stack)
after_init b stack puncts.Equal =
    loosely (Initialized ∷ Declaring b ∷ stack) InitializerStart (depth stack)
after_init b stack puncts.Semicolon = declared stack
after_init b stack s = None

-- `{` after the declarator of a function definition
abbrev pub body_at : List Frame → Option Moved
body_at (Declaring false ∷ Declares File ∷ []) =
    loosely (Terminal fixed.Hole ∷ Terminal fixed.RightBrace ∷ []) Awaiting 0
body_at _ = None

-- a sign after a declarator, or after none, by what it stands in
abbrev pub ended : Bool → List Frame → Punct → Option Moved
ended b (Owned Parameter ∷ stack) s = after_parameter stack s
ended b (Owned TypeName ∷ stack) s = after_type_name stack s
ended true (OwnedMembers ∷ stack) s = after_member stack s
ended true (Group m n ∷ stack) s = after_group m n stack s
ended true (Declaring b ∷ stack) s = after_init b stack s
ended b _ s = None

-- whether there are any `*`s
abbrev pub some : ℕ → Bool
some zero = false
some (suc n) = true

-- a qualifier of the last `*`
abbrev pub qualifier_at : Mode → ℕ → List Frame → Option Moved
qualifier_at m zero stack = None
qualifier_at m (suc n) stack =
    starred (Pointing m (suc n)) (suc n) stack

-- `(` at the middle
abbrev pub opened_at : Mode → ℕ → List Frame → Option Moved
opened_at Named n stack =
    plainly stack (Group Named n ∷ stack) (Pointing Named 0) (suc (many n (depth stack)))
opened_at m n stack = starred (Opened m n) (suc n) stack

-- a sign before the middle of a declarator
abbrev pub pointing_sign : Mode → ℕ → List Frame → Punct → Option Moved
pointing_sign m n stack puncts.Star =
    starred (Pointing m (suc n)) (suc n) stack
pointing_sign m n stack puncts.LeftParenthesis = opened_at m n stack
pointing_sign m n stack puncts.LeftBracket =
    cond (may_lack_name m) (starred (Bracket m n) (suc n) stack) None
pointing_sign m n stack s = cond (may_lack_name m) (ended (some n) stack s) None

-- a token before the middle of a declarator
abbrev pub step_pointing : Mode → ℕ → List Frame → Class → Option Moved
step_pointing m n stack Name =
    cond (may_name m) (starred (Direct m n) n stack) None
step_pointing m n stack (Keyword keywords.Const) = qualifier_at m n stack
step_pointing m n stack (Keyword keywords.Restrict) = qualifier_at m n stack
step_pointing m n stack (Sign s) = pointing_sign m n stack s
step_pointing m n stack _ = None

-- after a `(` that may begin parameters or a declarator within it
abbrev pub opened_sign : Mode → ℕ → List Frame → Class → Option Moved
opened_sign m n stack (Sign puncts.RightParenthesis) =
    starred (Direct m n) (suc n) stack
opened_sign m n stack c = step_pointing m 0 (Group m n ∷ stack) c

-- a token after a `(` at the middle
abbrev pub step_opened : Mode → ℕ → List Frame → Class → Option Moved
step_opened m n stack c =
    first_word Parameter (Parameters m n ∷ stack) c (opened_sign m n stack c)

-- a token after the middle of a declarator
abbrev pub step_direct : Mode → ℕ → List Frame → Class → Option Moved
step_direct m n stack (Sign puncts.LeftBracket) =
    starred (Bracket m n) (suc n) stack
step_direct m n stack (Sign puncts.LeftParenthesis) =
    starred (ParametersStart m n) (suc n) stack
step_direct m n stack (Sign puncts.LeftBrace) = body_at stack
step_direct m n stack (Sign s) = ended true stack s
step_direct m n stack _ = None

-- a token after the `[` of an array declarator
abbrev pub step_bracket : Mode → ℕ → List Frame → Class → Option Moved
step_bracket m n stack (Sign puncts.RightBracket) =
    starred (Direct m n) (suc n) stack
step_bracket m n stack (Keyword keywords.Const) =
    starred (Bracket m n) (suc n) stack
step_bracket m n stack (Keyword keywords.Restrict) =
    starred (Bracket m n) (suc n) stack
step_bracket m n stack c = operand_at (Length m n ∷ stack) c

-- `)` directly after the `(` of a function declarator
abbrev pub no_parameters_at : Mode → ℕ → List Frame → Class → Option Moved
no_parameters_at m n stack (Sign puncts.RightParenthesis) =
    starred (Direct m n) (suc n) stack
no_parameters_at m n stack _ = None

-- the first token after the `(` of a function declarator
abbrev pub step_parameters : Mode → ℕ → List Frame → Class → Option Moved
step_parameters m n stack c =
    first_word Parameter (Parameters m n ∷ stack) c (no_parameters_at m n stack c)

-- `...` after a comma among parameters
abbrev pub ellipsis_at : List Frame → Class → Option Moved
ellipsis_at stack (Sign puncts.Ellipsis) = starred AfterEllipsis 0 stack
ellipsis_at stack _ = None

-- a token after a comma among parameters
abbrev pub step_next : List Frame → Class → Option Moved
step_next stack c = first_word Parameter stack c (ellipsis_at stack c)

-- `)` after `, ...`
abbrev pub step_ellipsis : List Frame → Class → Option Moved
step_ellipsis (Parameters m n ∷ stack) (Sign puncts.RightParenthesis) =
    starred (Direct m n) (suc n) stack
step_ellipsis _ c = None

------ after specifiers

-- a token after the specifiers of a declaration that is none
abbrev pub declaration_words : List Frame → Class → Option Moved
declaration_words stack (Sign puncts.Semicolon) = declared stack
declaration_words stack c = step_pointing Named 0 (Declaring false ∷ stack) c

-- a token after specifiers that is none
abbrev pub words_ended : Owner → List Frame → Class → Option Moved
words_ended TypeName stack c = step_pointing Abstract 0 (Owned TypeName ∷ stack) c
words_ended Parameter stack c = step_pointing Either 0 (Owned Parameter ∷ stack) c
words_ended Member stack c = step_pointing Named 0 (OwnedMembers ∷ stack) c
words_ended Declaration stack c = declaration_words stack c

-- a token after at least one specifier
abbrev pub step_words : Owner → Bool → List Frame → Class → Option Moved
step_words o b stack c = begin (specifier_of o b c) o stack (words_ended o stack c)

-- after a specifier that the token may end, in others
abbrev pub ended_word : List Frame → Class → Option Moved
ended_word (Specified o ∷ stack) c = step_words o true stack c
ended_word _ c = None

-- the braces of a structure, union or enumeration are opened
abbrev pub brace_opened : Frame → At → List Frame → Option Moved
brace_opened f a stack = plainly stack (f ∷ stack) a (weigh f (depth stack))

-- a name goes on in a specifier
abbrev pub word_at : At → List Frame → Option Moved
word_at a stack = plainly stack stack a (depth stack)

-- a token after `struct` or `union`
abbrev pub step_compound : List Frame → Class → Option Moved
step_compound stack Name = word_at AfterTag stack
step_compound stack (Sign puncts.LeftBrace) =
    brace_opened (Body false) MemberStart stack
step_compound stack _ = None

-- a token after the tag of a structure or union
abbrev pub step_tag : List Frame → Class → Option Moved
step_tag stack (Sign puncts.LeftBrace) =
    brace_opened (Body false) MemberStart stack
step_tag stack c = ended_word stack c

-- the `}` of a structure or union with at least one member
abbrev pub body_ended : List Frame → Class → Option Moved
body_ended (Body true ∷ stack) (Sign puncts.RightBrace) = specified stack (suc (depth stack))
body_ended _ c = None

-- a token before a member, or the `}`
abbrev pub step_member : List Frame → Class → Option Moved
step_member stack c = first_word Member stack c (body_ended stack c)

-- a token after `enum`
abbrev pub step_enum : List Frame → Class → Option Moved
step_enum stack Name = word_at AfterEnumTag stack
step_enum stack (Sign puncts.LeftBrace) =
    brace_opened (Listing false) EnumeratorStart stack
step_enum stack _ = None

-- a token after the tag of an enumeration
abbrev pub step_enum_tag : List Frame → Class → Option Moved
step_enum_tag stack (Sign puncts.LeftBrace) =
    brace_opened (Listing false) EnumeratorStart stack
step_enum_tag stack c = ended_word stack c

-- the `}` after a last comma, with at least one enumerator
abbrev pub listing_ended : List Frame → Option Moved
listing_ended (Listing true ∷ stack) = specified stack (braced (depth stack))
listing_ended _ = None

-- a token before an enumeration constant
abbrev pub step_enumerator : List Frame → Class → Option Moved
step_enumerator stack Name = word_at AfterEnumerator stack
step_enumerator stack (Sign puncts.RightBrace) = listing_ended stack
step_enumerator stack _ = None

-- `=` after the name of an enumeration constant
abbrev pub value_at : List Frame → Option Moved
value_at (Listing b ∷ stack) =
    plainly stack (Valued ∷ Listing b ∷ stack) Want (braced (depth stack))
value_at _ = None

-- a token after the name of an enumeration constant
abbrev pub step_enumerator_name : List Frame → Class → Option Moved
step_enumerator_name stack (Sign puncts.Equal) = value_at stack
step_enumerator_name stack (Sign puncts.Comma) = next_enumerator stack
step_enumerator_name stack (Sign puncts.RightBrace) = end_listing stack
step_enumerator_name _ c = None

------ initialisers

-- a token before an initialiser
abbrev pub step_initializer : List Frame → Class → Option Moved
step_initializer stack (Sign puncts.LeftBrace) =
    loosely (Braces false ∷ stack) BracesStart (suc (depth stack))
step_initializer stack c = operand_at stack c

-- the `}` after a last comma, with at least one initialiser
abbrev pub braces_ended : List Frame → Option Moved
braces_ended (Braces true ∷ stack) = loosely stack AfterInitializer (suc (depth stack))
braces_ended _ = None

-- a token before a designation or an initialiser in braces, or the `}`
abbrev pub step_braces : List Frame → Class → Option Moved
step_braces stack (Sign puncts.LeftBracket) = loosely (Index ∷ stack) Want (suc (depth stack))
step_braces stack (Sign puncts.Dot) = loosely stack AfterDot (depth stack)
step_braces stack (Sign puncts.RightBrace) = braces_ended stack
step_braces stack c = step_initializer (Designated ∷ stack) c

-- the member's name after the `.` of a designator
abbrev pub step_dot : List Frame → Class → Option Moved
step_dot stack Name = loosely stack AfterDesignator (depth stack)
step_dot stack _ = None

-- the `=` after a designator
abbrev pub step_designator : List Frame → Class → Option Moved
step_designator stack (Sign puncts.Equal) =
    loosely (Designated ∷ stack) InitializerStart (depth stack)
step_designator stack _ = None

-- a token after an initialiser in braces
abbrev pub step_initialized : List Frame → Class → Option Moved
step_initialized stack (Sign s) = initialized_at stack s
step_initialized stack _ = None

------ elements

-- one of the terminals that an element fixes, before the place
abbrev pub fixed_at : Fixed → List Frame → At → Class → Option Moved
fixed_at e stack a c = cond (meets e c) (loosely stack a 0) None

-- a terminal that ends the element, or comes before those that do
abbrev pub step_awaiting : List Frame → Class → Option Moved
step_awaiting (Terminal e ∷ stack) c = fixed_at e stack Awaiting c
step_awaiting _ c = None

-- after a terminal before an expression
abbrev pub opened : Part → List Frame → Option Moved
opened p [] = loosely (Statement p ∷ []) Want 0
opened p (f ∷ stack) = loosely (f ∷ stack) (Opening p) 0

-- a terminal before an expression
abbrev pub step_opening : Part → List Frame → Class → Option Moved
step_opening p (Terminal e ∷ stack) c = cond (meets e c) (opened p stack) None
step_opening p _ c = None

-- `else` after the statement of an `if`
abbrev pub step_else : List Frame → Class → Option Moved
step_else stack c = cond (meets fixed.Else c) (awaited fixed.Hole stack) None

-- an expression that may be missing
abbrev pub step_before : Clause → List Frame → Class → Option Moved
step_before k stack c =
    cond (meets (clause_closer k) c) (after_clause k stack)
    (operand_at (Statement (parts.Optional k) ∷ stack) c)

-- `(` of a statement, before the expression in it
abbrev pub headed : Part → List Frame → Option Moved
headed p stack = loosely (Terminal fixed.Opening ∷ stack) (Opening p) 0

-- `do`
abbrev pub do_begun : List Frame → Option Moved
do_begun stack =
    loosely (Terminal fixed.Hole ∷ Terminal fixed.While ∷ Terminal fixed.Opening ∷ stack)
    (Opening parts.Do) 0

-- the first token of an expression statement
abbrev pub expression_begun : List Frame → Class → Option Moved
expression_begun stack c = operand_at (Statement parts.Expression ∷ stack) c

-- the keyword that begins a statement
abbrev pub statement_word : List Frame → KeywordOf → Option Moved
statement_word stack keywords.Case = loosely (Statement parts.Case ∷ stack) Want 0
statement_word stack keywords.Default =
    loosely (Terminal fixed.Colon ∷ Terminal fixed.Hole ∷ stack) Awaiting 0
statement_word stack keywords.If = headed parts.If stack
statement_word stack keywords.Switch = headed parts.Switch stack
statement_word stack keywords.While = headed parts.While stack
statement_word stack keywords.Do = do_begun stack
statement_word stack keywords.For = loosely stack ForOpening 0
statement_word stack keywords.Continue = awaited fixed.Semicolon stack
statement_word stack keywords.Break = awaited fixed.Semicolon stack
statement_word stack keywords.Return = loosely stack (Before Return) 0
statement_word stack k = expression_begun stack (Keyword k)

-- the first token of a statement
abbrev pub statement_at : List Frame → Class → Option Moved
statement_at stack (Keyword k) = statement_word stack k
statement_at stack (Sign puncts.LeftBrace) =
    loosely (Terminal fixed.Hole ∷ Terminal fixed.RightBrace ∷ stack) Awaiting 0
statement_at stack (Sign puncts.Semicolon) = loosely stack Awaiting 0
statement_at stack c = expression_begun stack c

-- a lone `;` at file scope
abbrev pub lone_at : List Frame → Class → Option Moved
lone_at stack (Sign puncts.Semicolon) = loosely stack Awaiting 0
lone_at stack c = None

-- the first token of an element
abbrev pub start_at : Standing → List Frame → Class → Option Moved
start_at External stack c =
    first_word Declaration (Declares File ∷ stack) c (lone_at stack c)
start_at Item stack c =
    first_word Declaration (Declares Block ∷ stack) c (statement_at stack c)
start_at Nested stack c = statement_at stack c

-- the first token after the `(` of a `for`
abbrev pub step_for : List Frame → Class → Option Moved
step_for stack c =
    first_word Declaration (Declares For ∷ stack) c (step_before ForFirst stack c)

------ all

-- a token among initialisers or in an element's own production, by where the control is
abbrev pub step_element : List Frame → At → Class → Option Moved
step_element stack InitializerStart c = step_initializer stack c
step_element stack BracesStart c = step_braces stack c
step_element stack AfterDot c = step_dot stack c
step_element stack AfterDesignator c = step_designator stack c
step_element stack AfterInitializer c = step_initialized stack c
step_element stack (Start s) c = start_at s stack c
step_element stack Awaiting c = step_awaiting stack c
step_element stack (Opening p) c = step_opening p stack c
step_element stack AfterIf c = fixed_at fixed.Hole stack MayElse c
step_element stack MayElse c = step_else stack c
step_element stack ForOpening c = fixed_at fixed.Opening stack ForStart c
step_element stack ForStart c = step_for stack c
step_element stack (Before k) c = step_before k stack c
step_element stack _ c = None

-- a token, by where the control is; None where no derivation can have it there
abbrev pub step : List Frame → At → Class → Option Moved
step stack Want c = step_want stack c
step stack (Have k) c = step_have stack k c
step stack Selecting c = step_selecting stack c
step stack (Words o b) c = step_words o b stack c
step stack AfterCompound c = step_compound stack c
step stack AfterTag c = step_tag stack c
step stack AfterEnum c = step_enum stack c
step stack AfterEnumTag c = step_enum_tag stack c
step stack MemberStart c = step_member stack c
step stack EnumeratorStart c = step_enumerator stack c
step stack AfterEnumerator c = step_enumerator_name stack c
step stack (Pointing m n) c = step_pointing m n stack c
step stack (Opened m n) c = step_opened m n stack c
step stack (Direct m n) c = step_direct m n stack c
step stack (Bracket m n) c = step_bracket m n stack c
step stack (ParametersStart m n) c = step_parameters m n stack c
step stack ParameterNext c = step_next stack c
step stack AfterEllipsis c = step_ellipsis stack c
step stack a c = step_element stack a c

-- whether a token was taken
abbrev pub is_moved : Option Moved → Bool
is_moved None = false
is_moved (Some k) = true

-- whether nothing stands open
abbrev pub is_empty : List Frame → Bool
is_empty [] = true
is_empty (f ∷ stack) = false

-- whether nothing stands open once all has ended that can
abbrev pub is_end : Reduced → Bool
is_end r = is_empty r.stack

-- whether the expression may end here
abbrev pub finished : List Frame → At → Bool
finished stack (Have k) = is_end (reduce 0 stack k)
finished stack _ = false

-- whether the element may end here
abbrev pub element_ended : List Frame → At → Bool
element_ended stack Awaiting = is_empty stack
element_ended stack MayElse = true
element_ended stack _ = false
