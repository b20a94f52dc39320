-- The machine's steps: what a token does where the machine is.
use Rattle.std.specs.Prelude.{ℕ, suc, Bool, true, false, cond, nat_le, List, [], ◌∷◌, Option, Some, None}
use Rattle.hv_base.specs.declared.place.Place.{Place}
use Rattle.hv_base.specs.declared.keyword.Keyword.{Keyword}
use Rattle.hv_base.specs.declared.keyword.Keyword.TheVariants as keywords
use Rattle.hv_base.specs.declared.punct.Punct.{Punct}
use Rattle.hv_base.specs.declared.punct.Punct.TheVariants as puncts
use Rattle.hv_ctree.specs.declared.tree.words.AssignmentOperator.TheVariants as assignments
use Rattle.hv_base.specs.declared.operator.BinaryOperator.TheVariants as binaries
use Rattle.hv_ctree.specs.declared.tree.words.Selector.{Selector}
use Rattle.hv_ctree.specs.declared.tree.words.Selector.TheVariants.{Dot, Arrow}
use Rattle.hv_ctree.specs.declared.tree.words.Step.TheVariants.{Increment, Decrement}
use Rattle.hv_ctree.specs.declared.tree.words.StorageClass.TheVariants as storages
use Rattle.hv_ctree.specs.declared.tree.words.StructOrUnion.{StructOrUnion}
use Rattle.hv_ctree.specs.declared.tree.words.StructOrUnion.TheVariants.{Struct, Union}
use Rattle.hv_ctree.specs.declared.tree.words.TypeQualifier.{TypeQualifier}
use Rattle.hv_ctree.specs.declared.tree.words.TypeQualifier.TheVariants.{Const, Restrict}
use Rattle.hv_ctree.specs.declared.tree.words.UnaryOperator.TheVariants.{Address, Indirection, Plus, Minus, Complement, Not}
use Rattle.hv_ctree.specs.tree.Expressions.{Expr, identifier, constant, string, parenthesized, subscript, call, member, postfix, sizeof_type, no_arguments, then_argument, type_name, Specifiers, no_specifiers, then_specifier, Specifier, storage, of_type, qualifier, inline, word, compound, enumeration, typedef_name, defined, mentioned, MayTag, no_tag, tag, no_members, then_member, members_of, no_declarators, then_declarator, listed, listed_before, Enumerators, no_enumerators, then_enumerator, plain, valued, Declarator, declarator, MayDeclarator, no_declarator, some_declarator, Core, nothing, named, group, Suffixes, no_suffixes, then_suffix, unsized, sized, function, unprototyped, parameter_types, no_parameters, then_parameter, parameter, Pointers, no_pointers, then_pointer, Qualifiers, no_qualifiers, then_qualifier, void_word, char_word, short_word, int_word, long_word, signed_word, unsigned_word, bool_word, place_of}
use Rattle.hv_ctree.specs.tree.Statements.{Designation, no_designation, of_index, of_member, Initializer, value, braced as in_braces, no_initializers, then_initializer, bare, initialized, InitDeclarators, no_init_declarators, then_init_declarator, Skeleton, hollow_empty, hollow_function, hollow_default, hollow_compound, hollow_expression, hollow_if, hollow_if_else, hollow_continue, hollow_break}
use Rattle.hv_grammar.specs.Symbols.{Symbol, keyword, name, marked, number, text, sign, Token, Role, outside, inside, operator, right_paren, colon, semicolon}
use Rattle.hv_grammar.specs.Elements.{Standing, External, Item, Nested}
use Rattle.hv_grammar.specs.machine.Parts.{alone, in_for, Optional, for_first, of_return, Part, of_case, of_expression, of_if, of_switch, of_while, of_do, optional, Fixed, the_hole, the_colon, the_semicolon, the_opening, the_right_brace, the_while, the_else, Spot, Start, Await, Opening, AfterIf, MayElse, ForOpening, ForStart, Before, meets, closer, after_optional, after_part, after_declaration}
use Rattle.hv_grammar.specs.Expressions.{stars, braced, has_type}
use Rattle.hv_grammar.specs.machine.Frames.{Owner, of_type_name, of_parameter, of_member, of_declaration, Mode, only_named, only_abstract, either, Frame, Parenthesis, AfterSizeof, Subscript, Callee, Calling, Prefix, Unary, Sizeof, SizeofType, CastType, Cast, Then, Else, Specified, Body, Listing, Valued, Owned, OwnedMembers, Group, Length, Parameters, Braces, Index, Designated, Declares, Declaring, Initialized, Statement, hole_of, made, weigh, depth, within, completes, plug, At, Want, Have, Selecting, Words, AfterCompound, AfterTag, AfterEnum, AfterEnumTag, MemberStart, EnumeratorStart, AfterEnumerator, Pointing, Opened, Direct, Bracket, ParametersStart, ParameterNext, AfterEllipsis, InitializerStart, BracesStart, AfterDot, AfterDesignator, AfterInitializer, AtSpot, State, Infix, by_operator, by_assignment, by_question, by_comma, by_bracket, by_parenthesis, left, reach, makes, begun, weigh_at}

-- the machine within these frames
abbrev pub state : List Frame → At → State
state stack at = record { stack = stack; at = at }

-- within these frames, before an operand
abbrev pub want : List Frame → State
want stack = state stack Want

-- within these frames, after an operand of the level
abbrev pub have : ℕ → List Frame → Expr → State
have k stack a = state stack (Have k a)

-- a token was taken, with its marks; `sized` says that it is a `(` directly after `sizeof`, which
-- counts if it is a parenthesis, and `late` that the token before it is one and does
pub record Taken : Type 0 where
  pub state : State
  pub depth : ℕ
  pub role : Role
  pub late : Bool
  pub sized : Bool

-- a token was taken in the role, with so many open at it
abbrev pub took : Role → State → ℕ → Option Taken
took r m d = Some (record { state = m; depth = d; role = r; late = false; sized = false })

-- a token of an expression that is no counted operator
abbrev pub quiet : State → ℕ → Option Taken
quiet m d = took inside m d

-- a counted operator of an expression
abbrev pub loud : State → ℕ → Option Taken
loud m d = took operator m d

-- a token that stands in no expression
abbrev pub loosely : State → ℕ → Option Taken
loosely m d = took outside m d

-- the `(` before the token counts
abbrev pub lately : Option Taken → Option Taken
lately None = None
lately (Some k) = Some (record k { late = true })

------ tables of signs and words

-- what a sign goes on with after a left operand (6.5.2, 6.5.5 to 6.5.17); None for `,`, which may
-- end an argument too, and where it goes on with nothing
abbrev pub infix_of : Punct → Option Infix
infix_of puncts.Star = Some (by_operator binaries.Multiply)
infix_of puncts.Slash = Some (by_operator binaries.Divide)
infix_of puncts.Percent = Some (by_operator binaries.Remainder)
infix_of puncts.Plus = Some (by_operator binaries.Add)
infix_of puncts.Minus = Some (by_operator binaries.Subtract)
infix_of puncts.LeftShift = Some (by_operator binaries.ShiftLeft)
infix_of puncts.RightShift = Some (by_operator binaries.ShiftRight)
infix_of puncts.Less = Some (by_operator binaries.Less)
infix_of puncts.Greater = Some (by_operator binaries.Greater)
infix_of puncts.LessEqual = Some (by_operator binaries.LessEqual)
infix_of puncts.GreaterEqual = Some (by_operator binaries.GreaterEqual)
infix_of puncts.EqualEqual = Some (by_operator binaries.Equal)
infix_of puncts.NotEqual = Some (by_operator binaries.NotEqual)
infix_of puncts.And = Some (by_operator binaries.And)
infix_of puncts.Caret = Some (by_operator binaries.ExclusiveOr)
infix_of puncts.Or = Some (by_operator binaries.Or)
infix_of puncts.AndAnd = Some (by_operator binaries.LogicalAnd)
infix_of puncts.OrOr = Some (by_operator binaries.LogicalOr)
infix_of puncts.Equal = Some (by_assignment assignments.Plain)
infix_of puncts.StarEqual = Some (by_assignment assignments.Multiply)
infix_of puncts.SlashEqual = Some (by_assignment assignments.Divide)
infix_of puncts.PercentEqual = Some (by_assignment assignments.Remainder)
infix_of puncts.PlusEqual = Some (by_assignment assignments.Add)
infix_of puncts.MinusEqual = Some (by_assignment assignments.Subtract)
infix_of puncts.LeftShiftEqual = Some (by_assignment assignments.ShiftLeft)
infix_of puncts.RightShiftEqual = Some (by_assignment assignments.ShiftRight)
infix_of puncts.AndEqual = Some (by_assignment assignments.And)
infix_of puncts.CaretEqual = Some (by_assignment assignments.ExclusiveOr)
infix_of puncts.OrEqual = Some (by_assignment assignments.Or)
infix_of puncts.Question = Some by_question
infix_of puncts.LeftBracket = Some by_bracket
infix_of puncts.LeftParenthesis = Some by_parenthesis
infix_of _ = None

-- a specifier that is one word
abbrev pub word_of : Place → Keyword → Option Specifier
word_of p keywords.Typedef = Some (storage p storages.Typedef)
word_of p keywords.Extern = Some (storage p storages.Extern)
word_of p keywords.Static = Some (storage p storages.Static)
word_of p keywords.Auto = Some (storage p storages.Auto)
word_of p keywords.Register = Some (storage p storages.Register)
word_of p keywords.Inline = Some (inline p)
word_of p keywords.Const = Some (qualifier p Const)
word_of p keywords.Restrict = Some (qualifier p Restrict)
word_of p keywords.Void = Some (of_type p (word p void_word))
word_of p keywords.Char = Some (of_type p (word p char_word))
word_of p keywords.Short = Some (of_type p (word p short_word))
word_of p keywords.Int = Some (of_type p (word p int_word))
word_of p keywords.Long = Some (of_type p (word p long_word))
word_of p keywords.Signed = Some (of_type p (word p signed_word))
word_of p keywords.Unsigned = Some (of_type p (word p unsigned_word))
word_of p keywords.Bool = Some (of_type p (word p bool_word))
word_of p _ = None

-- whether such a word may stand there
abbrev pub may_stand : Owner → Specifier → Bool
may_stand of_parameter x = true
may_stand of_declaration x = true
may_stand o (storage p c) = false
may_stand o (inline p) = false
may_stand o x = true

-- the qualifier that a keyword is (6.7.3); None where it is none
abbrev pub qualifier_of : Keyword → Option TypeQualifier
qualifier_of keywords.Const = Some Const
qualifier_of keywords.Restrict = Some Restrict
qualifier_of _ = None

------ reduction

-- whether the frame ends before a token whose left operand is of the level
abbrev pub ends : ℕ → Frame → Bool
ends k f = cond (completes f) (nat_le k (made f)) false

-- what is left once frames ended: the frames, and an operand of the level
pub record Reduced : Type 0 where
  pub stack : List Frame
  pub level : ℕ
  pub operand : Expr

-- the three of them
abbrev pub reduced : List Frame → ℕ → Expr → Reduced
reduced stack l a = record { stack = stack; level = l; operand = a }

-- ends what ends before such a token
abbrev pub reduce : ℕ → List Frame → ℕ → Expr → Reduced
reduce k [] l a = reduced [] l a
reduce k (f ∷ stack) l a =
    cond (ends k f) (reduce k stack (made f) (plug f a)) (reduced (f ∷ stack) l a)

------ specifiers

-- a token of specifiers or declarators, where so many are open
abbrev pub plainly : List Frame → State → ℕ → Option Taken
plainly stack m d = took (within stack) m d

-- one more specifier, which is one word
abbrev pub worded : Owner → Place → Specifiers → List Frame → Option Specifier → Option Taken
    → Option Taken
worded o p xs stack None other = other
worded o p xs stack (Some x) other =
    cond (may_stand o x) (plainly stack (state stack (Words o p (then_specifier xs x)))
    (depth stack)) other

-- a typedef name is a type specifier where no other stands before it (6.7.2, 6.7.7)
abbrev pub marked_word : Owner → Place → Specifiers → List Frame → Place → List ℕ → Option Taken
    → Option Taken
marked_word o p xs stack q n other =
    cond (has_type xs) other (plainly stack (state stack
    (Words o p (then_specifier xs (of_type q (typedef_name q n))))) (depth stack))

-- a keyword that may be a specifier or begin one (6.7.1 to 6.7.4)
abbrev pub keyword_word : Owner → Place → Specifiers → List Frame → Place → Keyword → Option Taken
    → Option Taken
keyword_word o p xs stack q keywords.Struct other =
    plainly stack (state (Specified o p xs ∷ stack) (AfterCompound q Struct)) (depth stack)
keyword_word o p xs stack q keywords.Union other =
    plainly stack (state (Specified o p xs ∷ stack) (AfterCompound q Union)) (depth stack)
keyword_word o p xs stack q keywords.Enum other =
    plainly stack (state (Specified o p xs ∷ stack) (AfterEnum q)) (depth stack)
keyword_word o p xs stack q k other = worded o p xs stack (word_of q k) other

-- a token that may be one more specifier; the last argument is what it does otherwise
abbrev pub specifier_at : Owner → Place → Specifiers → List Frame → Place → Symbol → Option Taken
    → Option Taken
specifier_at o p xs stack q (keyword k) other = keyword_word o p xs stack q k other
specifier_at o p xs stack q (marked n) other = marked_word o p xs stack q n other
specifier_at o p xs stack q _ other = other

-- the first specifier
abbrev pub first_word : Owner → List Frame → Place → Symbol → Option Taken → Option Taken
first_word o stack q s other = specifier_at o q no_specifiers stack q s other

------ expressions: before an operand

-- a primary expression of one token (6.5.1)
abbrev pub leaf : List Frame → Expr → Option Taken
leaf stack a = quiet (have 15 stack a) (depth stack)

-- a token that begins the frame, and counts
abbrev pub pushed : List Frame → Frame → Option Taken
pushed stack f = loud (want (f ∷ stack)) (weigh f (depth stack))

-- `(`: after `sizeof` the next token says whether it counts
abbrev pub paren_at : List Frame → Place → Option Taken
paren_at (Sizeof p ∷ stack) q = Some (record {
  state = want (AfterSizeof q ∷ Sizeof p ∷ stack);
  depth = suc (suc (depth stack));
  role = inside;
  late = false;
  sized = true;
})
paren_at stack q = pushed stack (Parenthesis q)

-- `)` directly after the `(` of a call (6.5.2.2)
abbrev pub close_call : List Frame → Option Taken
close_call (Callee a ∷ stack) =
    quiet (have 15 stack (call (place_of a) a no_arguments)) (suc (depth stack))
close_call _ = None

-- a sign that begins an operand (6.5.1, 6.5.3)
abbrev pub want_sign : List Frame → Place → Punct → Option Taken
want_sign stack p puncts.LeftParenthesis = paren_at stack p
want_sign stack p puncts.RightParenthesis = close_call stack
want_sign stack p puncts.PlusPlus = pushed stack (Prefix p Increment)
want_sign stack p puncts.MinusMinus = pushed stack (Prefix p Decrement)
want_sign stack p puncts.And = pushed stack (Unary p Address)
want_sign stack p puncts.Star = pushed stack (Unary p Indirection)
want_sign stack p puncts.Plus = pushed stack (Unary p Plus)
want_sign stack p puncts.Minus = pushed stack (Unary p Minus)
want_sign stack p puncts.Tilde = pushed stack (Unary p Complement)
want_sign stack p puncts.Not = pushed stack (Unary p Not)
want_sign stack p _ = None

-- a keyword that begins an operand: `sizeof` (6.5.3.4)
abbrev pub want_keyword : List Frame → Place → Keyword → Option Taken
want_keyword stack p keywords.Sizeof = pushed stack (Sizeof p)
want_keyword stack p _ = None

-- a token that begins an operand
abbrev pub operand_at : List Frame → Place → Symbol → Option Taken
operand_at stack p (name n) = leaf stack (identifier p n)
operand_at stack p (number v) = leaf stack (constant p v)
operand_at stack p (text b) = leaf stack (string p b)
operand_at stack p (keyword k) = want_keyword stack p k
operand_at stack p (sign s) = want_sign stack p s
operand_at stack p _ = None

-- after `(` a type's name begins a cast, where one may stand
abbrev pub cast_at : List Frame → Place → Place → Symbol → Option Taken → Option Taken
cast_at stack q p s other =
    cond (nat_le (hole_of stack) 13) (first_word of_type_name (CastType q ∷ stack) p s other) other

-- a token where an operand is wanted; after `(` it may be a type's name (6.5.3.4, 6.5.4)
abbrev pub step_want : List Frame → Place → Symbol → Option Taken
step_want (Parenthesis q ∷ stack) p s = cast_at stack q p s (operand_at (Parenthesis q ∷ stack) p s)
step_want (AfterSizeof q ∷ Sizeof r ∷ stack) p s =
    first_word of_type_name (SizeofType r ∷ stack) p s
    (lately (operand_at (Parenthesis q ∷ Sizeof r ∷ stack) p s))
step_want stack p s = operand_at stack p s

------ expressions: after an operand

-- the sign goes on, where the frame around admits what it makes; what it does otherwise comes last
abbrev pub infix_at : Infix → Reduced → Option Taken → Option Taken
infix_at i r other =
    cond (nat_le (hole_of r.stack) (makes i))
    (loud (want (begun i r.operand ∷ r.stack)) (weigh_at i (depth r.stack))) other

-- the same, where the operand is of the level that the sign wants on its left
abbrev pub infix_of_level : Infix → Reduced → Option Taken
infix_of_level i r = cond (nat_le (left i) r.level) (infix_at i r None) None

-- a sign after an operand, once what ends before it has ended
abbrev pub goes_on : Infix → ℕ → List Frame → Expr → Option Taken
goes_on i k stack a = infix_of_level i (reduce (reach i) stack k a)

-- a specifier is ended, where it stands in others
abbrev pub specified : List Frame → Place → ℕ → Specifier → Option Taken
specified (Specified o p xs ∷ stack) q d x =
    plainly stack (state stack (Words o p (then_specifier xs x))) d
specified _ q d x = None

-- the `}` of an enumeration, and whether a comma stands before it (6.7.2.2)
abbrev pub listed_at : List Frame → Place → MayTag → Enumerators → Bool → Option Taken
listed_at stack q t es b =
    specified stack q (braced (depth stack)) (of_type q (enumeration q (listed q t es b)))

-- where the machine is in an element
abbrev pub spot : Standing → Spot → State
spot s x = state [] (AtSpot s x)

-- the place of a declarator
abbrev pub declarator_place : Declarator → Place
declarator_place (declarator p ps c ss) = p

-- the `;` of a declaration, which stands there (6.7)
abbrev pub declared : List Frame → Place → Specifiers → InitDeclarators → Option Taken
declared (Declares s c ∷ []) p xs ds = loosely (spot s (after_declaration c p xs ds)) 0
declared _ p xs ds = None

-- the place of an initialiser
abbrev pub initializer_place : Initializer → Place
initializer_place (value p a) = p
initializer_place (in_braces p xs b) = p

-- the place of an initialiser with its designation
abbrev pub item_place : Designation → Initializer → Place
item_place no_designation x = initializer_place x
item_place (of_index p a) x = p
item_place (of_member p n) x = p

-- a sign after an initialiser, by what the initialiser stands in (6.7, 6.7.8)
abbrev pub initialized_at : List Frame → Initializer → Punct → Option Taken
initialized_at (Designated g ∷ Braces q xs ∷ stack) x puncts.Comma =
    loosely (state (Braces q (then_initializer xs (item_place g x) g x) ∷ stack) BracesStart)
    (suc (depth stack))
initialized_at (Designated g ∷ Braces q xs ∷ stack) x puncts.RightBrace =
    loosely (state stack (AfterInitializer
    (in_braces q (then_initializer xs (item_place g x) g x) false))) (suc (depth stack))
initialized_at (Initialized y ∷ Declaring p xs ds ∷ stack) x puncts.Comma =
    loosely (state (Declaring p xs
    (then_init_declarator ds (initialized (declarator_place y) y x)) ∷ stack)
    (Pointing only_named p no_pointers)) (depth stack)
initialized_at (Initialized y ∷ Declaring p xs ds ∷ stack) x puncts.Semicolon =
    declared stack p xs (then_init_declarator ds (initialized (declarator_place y) y x))
initialized_at _ x s = None

-- a sign after an expression that is an initialiser
abbrev pub value_at : List Frame → Expr → Punct → Option Taken
value_at stack b s = initialized_at stack (value (place_of b) b) s

-- a symbol after an expression of a statement (6.8)
abbrev pub part_at : Standing → Part → Expr → Symbol → Option Taken
part_at s c b t = cond (meets (closer c) t) (loosely (spot s (after_part c b)) 0) None

-- a comma that ends an argument (6.5.2), an enumerator's value (6.7.2.2) or an initialiser (6.7.8)
abbrev pub argument_at : List Frame → Expr → Option Taken
argument_at (Callee a ∷ stack) b =
    quiet (want (Calling a (then_argument no_arguments b) ∷ stack)) (suc (depth stack))
argument_at (Calling a xs ∷ stack) b =
    quiet (want (Calling a (then_argument xs b) ∷ stack)) (suc (depth stack))
argument_at (Valued p n ∷ Listing q t es ∷ stack) b =
    plainly stack (state (Listing q t (then_enumerator es (valued p n b)) ∷ stack) EnumeratorStart)
    (braced (depth stack))
argument_at (Designated g ∷ stack) b = value_at (Designated g ∷ stack) b puncts.Comma
argument_at (Initialized x ∷ stack) b = value_at (Initialized x ∷ stack) b puncts.Comma
argument_at _ b = None

-- a comma after an operand: an operator where one may stand (6.5.17)
abbrev pub comma_at : Reduced → Option Taken
comma_at r = infix_at by_comma r (argument_at r.stack r.operand)

-- `)` of a parenthesis (6.5.1), of a call (6.5.2.2) or of a statement (6.8.4, 6.8.5)
abbrev pub close_at : List Frame → Expr → Option Taken
close_at (Parenthesis p ∷ stack) b = quiet (have 15 stack (parenthesized p b)) (suc (depth stack))
close_at (Callee a ∷ stack) b =
    quiet (have 15 stack (call (place_of a) a (then_argument no_arguments b))) (suc (depth stack))
close_at (Calling a xs ∷ stack) b =
    quiet (have 15 stack (call (place_of a) a (then_argument xs b))) (suc (depth stack))
close_at (Statement s c ∷ []) b = part_at s c b right_paren
close_at _ b = None

-- `]` of a subscript (6.5.2.1), of an array declarator (6.7.5.2) or of a designator (6.7.8)
abbrev pub bracket_at : List Frame → Expr → Option Taken
bracket_at (Subscript a ∷ stack) b =
    quiet (have 15 stack (subscript (place_of a) a b)) (suc (depth stack))
bracket_at (Length m p ps c ss q qs ∷ stack) b =
    plainly stack (state stack (Direct m p ps c (then_suffix ss (sized q qs b))))
    (suc (stars ps (depth stack)))
bracket_at (Index p ∷ stack) b =
    loosely (state stack (AfterDesignator (of_index p b))) (suc (depth stack))
bracket_at _ b = None

-- `}` after an enumerator's value (6.7.2.2) or an initialiser (6.7.8)
abbrev pub brace_at : List Frame → Expr → Option Taken
brace_at (Valued p n ∷ Listing q t es ∷ stack) b =
    listed_at stack q t (then_enumerator es (valued p n b)) false
brace_at (Designated g ∷ stack) b = value_at (Designated g ∷ stack) b puncts.RightBrace
brace_at _ b = None

-- `:` of a conditional expression (6.5.15) or of a label (6.8.1)
abbrev pub colon_at : List Frame → Expr → Option Taken
colon_at (Then a ∷ stack) b = quiet (want (Else a b ∷ stack)) (suc (depth stack))
colon_at (Statement s c ∷ []) b = part_at s c b colon
colon_at _ b = None

-- `;` after an initialiser (6.7) or an expression of a statement (6.8)
abbrev pub semicolon_at : List Frame → Expr → Option Taken
semicolon_at (Initialized x ∷ stack) b = value_at (Initialized x ∷ stack) b puncts.Semicolon
semicolon_at (Statement s c ∷ []) b = part_at s c b semicolon
semicolon_at _ b = None

-- what a token does with the frames and the operand that are left
abbrev pub after : (List Frame → Expr → Option Taken) → Reduced → Option Taken
after f r = f r.stack r.operand

-- a postfix operator stands after a postfix-expression
abbrev pub after_postfix : ℕ → Option Taken → Option Taken
after_postfix k o = cond (nat_le 15 k) o None

-- a sign after an operand, if it is one that goes on
abbrev pub goes_by : Option Infix → ℕ → List Frame → Expr → Option Taken
goes_by None k stack a = None
goes_by (Some i) k stack a = goes_on i k stack a

-- a sign after an operand
abbrev pub have_sign : List Frame → ℕ → Expr → Punct → Option Taken
have_sign stack k a puncts.Comma = comma_at (reduce 0 stack k a)
have_sign stack k a puncts.RightParenthesis = after close_at (reduce 0 stack k a)
have_sign stack k a puncts.RightBracket = after bracket_at (reduce 0 stack k a)
have_sign stack k a puncts.RightBrace = after brace_at (reduce 0 stack k a)
have_sign stack k a puncts.Colon = after colon_at (reduce 0 stack k a)
have_sign stack k a puncts.Semicolon = after semicolon_at (reduce 0 stack k a)
have_sign stack k a puncts.Dot =
    after_postfix k (loud (state stack (Selecting Dot a)) (depth stack))
have_sign stack k a puncts.Arrow =
    after_postfix k (loud (state stack (Selecting Arrow a)) (depth stack))
have_sign stack k a puncts.PlusPlus =
    after_postfix k (loud (have 15 stack (postfix (place_of a) Increment a)) (depth stack))
have_sign stack k a puncts.MinusMinus =
    after_postfix k (loud (have 15 stack (postfix (place_of a) Decrement a)) (depth stack))
have_sign stack k a s = goes_by (infix_of s) k stack a

-- a token after an operand: only signs may stand there
abbrev pub step_have : List Frame → ℕ → Expr → Symbol → Option Taken
step_have stack k a (sign s) = have_sign stack k a s
step_have stack k a _ = None

-- the member's name after `.` or `->` (6.5.2.3)
abbrev pub step_selecting : List Frame → Selector → Expr → Symbol → Option Taken
step_selecting stack s a (name n) = quiet (have 15 stack (member (place_of a) s a n)) (depth stack)
step_selecting stack s a _ = None

------ declarators

-- whether a declarator may have a name there
abbrev pub may_name : Mode → Bool
may_name only_named = true
may_name only_abstract = false
may_name either = true

-- whether it may have none there
abbrev pub may_lack_name : Mode → Bool
may_lack_name only_named = false
may_lack_name only_abstract = true
may_lack_name either = true

-- the place of a declarator whose `*`s begin at the first place, if there are any, and whose next
-- token is at the second
abbrev pub begins : Place → Pointers → Place → Place
begins p no_pointers q = q
begins p (then_pointer ps r qs) q = p

-- the last `*` with one more qualifier
abbrev pub qualified : Pointers → TypeQualifier → Option Pointers
qualified no_pointers q = None
qualified (then_pointer ps p qs) q = Some (then_pointer ps p (then_qualifier qs q))

-- a token after a whole declarator, or after none where it may be missing
abbrev pub after_parameter : List Frame → MayDeclarator → Punct → Option Taken
after_parameter (Owned o r xs ∷ Parameters m p ps c ss b first params ∷ stack) x puncts.Comma =
    plainly stack (state (Parameters m p ps c ss b first (then_parameter params (parameter r xs x))
    ∷ stack) ParameterNext) (suc (stars ps (depth stack)))
after_parameter (Owned o r xs ∷ Parameters m p ps c ss b first params ∷ stack) x
    puncts.RightParenthesis =
    plainly stack (state stack (Direct m p ps c
    (then_suffix ss (function b (parameter_types first
    (then_parameter params (parameter r xs x)) false))))) (suc (stars ps (depth stack)))
after_parameter _ x s = None

-- a comma or semicolon after a member's declarator (6.7.2.1)
abbrev pub after_member : List Frame → Declarator → Punct → Option Taken
after_member (OwnedMembers r xs ds ∷ stack) x puncts.Comma =
    plainly stack (state (OwnedMembers r xs (then_declarator ds x) ∷ stack)
    (Pointing only_named r no_pointers)) (depth stack)
after_member (OwnedMembers r xs ds ∷ Body q k t ms ∷ stack) x puncts.Semicolon =
    plainly stack (state (Body q k t (then_member ms (members_of r xs (then_declarator ds x)))
    ∷ stack) MemberStart) (suc (depth stack))
after_member _ x s = None

-- `)` after the type's name of a cast (6.5.4) or of `sizeof` (6.5.3.4)
abbrev pub after_type_name : List Frame → MayDeclarator → Punct → Option Taken
after_type_name (Owned o r xs ∷ CastType p ∷ stack) x puncts.RightParenthesis =
    quiet (want (Cast p (type_name r xs x) ∷ stack)) (suc (depth stack))
after_type_name (Owned o r xs ∷ SizeofType p ∷ stack) x puncts.RightParenthesis =
    quiet (have 14 stack (sizeof_type p (type_name r xs x))) (suc (suc (depth stack)))
after_type_name _ x s = None

-- `)` after a declarator in parentheses (6.7.5)
abbrev pub after_group : List Frame → Declarator → Punct → Option Taken
after_group (Group m p ps q ∷ stack) x puncts.RightParenthesis =
    plainly stack (state stack (Direct m p ps (group q x) no_suffixes))
    (suc (stars ps (depth stack)))
after_group _ x s = None

-- `,`, `=` or `;` after a declarator of a declaration (6.7)
abbrev pub after_init : List Frame → Declarator → Punct → Option Taken
after_init (Declaring p xs ds ∷ stack) x puncts.Comma =
    loosely (state (Declaring p xs (then_init_declarator ds (bare (declarator_place x) x)) ∷ stack)
    (Pointing only_named p no_pointers)) (depth stack)
after_init (Declaring p xs ds ∷ stack) x puncts.Equal =
    loosely (state (Initialized x ∷ Declaring p xs ds ∷ stack) InitializerStart) (depth stack)
after_init (Declaring p xs ds ∷ stack) x puncts.Semicolon =
    declared stack p xs (then_init_declarator ds (bare (declarator_place x) x))
after_init _ x s = None

-- `{` after the declarator of a function definition (6.9.1)
abbrev pub body_at : List Frame → Declarator → Place → Option Taken
body_at (Declaring p xs no_init_declarators ∷ Declares External alone ∷ []) x q =
    loosely (spot External
    (Await (the_hole ∷ the_right_brace ∷ []) (hollow_function p xs x q 0))) 0
body_at _ x q = None

-- a sign after a declarator, or after none, by what it stands in
abbrev pub ended : List Frame → MayDeclarator → Punct → Option Taken
ended (Owned of_parameter r xs ∷ stack) x s = after_parameter (Owned of_parameter r xs ∷ stack) x s
ended (Owned of_type_name r xs ∷ stack) x s = after_type_name (Owned of_type_name r xs ∷ stack) x s
ended (OwnedMembers r xs ds ∷ stack) (some_declarator x) s =
    after_member (OwnedMembers r xs ds ∷ stack) x s
ended (Group m p ps q ∷ stack) (some_declarator x) s = after_group (Group m p ps q ∷ stack) x s
ended (Declaring p xs ds ∷ stack) (some_declarator x) s =
    after_init (Declaring p xs ds ∷ stack) x s
ended _ x s = None

-- a declarator with nothing at its middle and after it
abbrev pub only_pointers : Place → Pointers → MayDeclarator
only_pointers p no_pointers = no_declarator
only_pointers p (then_pointer ps q qs) =
    some_declarator (declarator p (then_pointer ps q qs) nothing no_suffixes)

-- a qualifier of the last `*` (6.7.5.1)
abbrev pub pointing_qualifier : Mode → Place → List Frame → ℕ → Option Pointers → Option Taken
pointing_qualifier m p stack d None = None
pointing_qualifier m p stack d (Some ps) = plainly stack (state stack (Pointing m p ps)) d

-- a keyword before the middle of a declarator
abbrev pub pointing_keyword : Mode → Place → Pointers → List Frame → Option TypeQualifier
    → Option Taken
pointing_keyword m p ps stack None = None
pointing_keyword m p ps stack (Some q) =
    pointing_qualifier m p stack (stars ps (depth stack)) (qualified ps q)

-- `(` at the middle: of a declarator within it, or of parameters where a name may be missing
-- (6.7.6)
abbrev pub opened_at : Mode → Place → Pointers → Place → List Frame → Option Taken
opened_at only_named p ps q stack =
    plainly stack (state (Group only_named p ps q ∷ stack) (Pointing only_named q no_pointers))
    (suc (stars ps (depth stack)))
opened_at m p ps q stack =
    plainly stack (state stack (Opened m p ps q)) (suc (stars ps (depth stack)))

-- a sign before the middle of a declarator
abbrev pub pointing_sign : Mode → Place → Pointers → List Frame → Place → Punct → Option Taken
pointing_sign m p ps stack q puncts.Star =
    plainly stack (state stack (Pointing m (begins p ps q) (then_pointer ps q no_qualifiers)))
    (suc (stars ps (depth stack)))
pointing_sign m p ps stack q puncts.LeftParenthesis = opened_at m (begins p ps q) ps q stack
pointing_sign m p ps stack q puncts.LeftBracket =
    cond (may_lack_name m) (plainly stack (state stack
    (Bracket m (begins p ps q) ps nothing no_suffixes q no_qualifiers))
    (suc (stars ps (depth stack)))) None
pointing_sign m p ps stack q s = cond (may_lack_name m) (ended stack (only_pointers p ps) s) None

-- a token before the middle of a declarator (6.7.5, 6.7.6)
abbrev pub step_pointing : Mode → Place → Pointers → List Frame → Place → Symbol → Option Taken
step_pointing m p ps stack q (name n) =
    cond (may_name m) (plainly stack (state stack
    (Direct m (begins p ps q) ps (named q n) no_suffixes)) (stars ps (depth stack))) None
step_pointing m p ps stack q (keyword k) = pointing_keyword m p ps stack (qualifier_of k)
step_pointing m p ps stack q (sign s) = pointing_sign m p ps stack q s
step_pointing m p ps stack q _ = None

-- after a `(` that may begin parameters or a declarator within it
abbrev pub opened_sign : Mode → Place → Pointers → Place → List Frame → Place → Symbol
    → Option Taken
opened_sign m p ps b stack q (sign puncts.RightParenthesis) =
    plainly stack (state stack (Direct m p ps nothing (then_suffix no_suffixes (unprototyped b))))
    (suc (stars ps (depth stack)))
opened_sign m p ps b stack q s = step_pointing m q no_pointers (Group m p ps b ∷ stack) q s

-- a token after a `(` at the middle: a specifier begins parameters (6.7.6)
abbrev pub step_opened : Mode → Place → Pointers → Place → List Frame → Place → Symbol
    → Option Taken
step_opened m p ps b stack q s =
    first_word of_parameter (Parameters m p ps nothing no_suffixes b q no_parameters ∷ stack) q s
    (opened_sign m p ps b stack q s)

-- a token after the middle of a declarator (6.7.5)
abbrev pub step_direct : Mode → Place → Pointers → Core → Suffixes → List Frame → Place → Symbol
    → Option Taken
step_direct m p ps c ss stack q (sign puncts.LeftBracket) =
    plainly stack (state stack (Bracket m p ps c ss q no_qualifiers)) (suc (stars ps (depth stack)))
step_direct m p ps c ss stack q (sign puncts.LeftParenthesis) =
    plainly stack (state stack (ParametersStart m p ps c ss q)) (suc (stars ps (depth stack)))
step_direct m p ps c ss stack q (sign puncts.LeftBrace) = body_at stack (declarator p ps c ss) q
step_direct m p ps c ss stack q (sign s) = ended stack (some_declarator (declarator p ps c ss)) s
step_direct m p ps c ss stack q _ = None

-- a qualifier after `[` (6.7.5.2); what the keyword does otherwise comes last
abbrev pub bracket_keyword : Mode → Place → Pointers → Core → Suffixes → Place → Qualifiers
    → List Frame → Option TypeQualifier → Option Taken → Option Taken
bracket_keyword m p ps c ss b qs stack None other = other
bracket_keyword m p ps c ss b qs stack (Some x) other =
    plainly stack (state stack (Bracket m p ps c ss b (then_qualifier qs x)))
    (suc (stars ps (depth stack)))

-- a token after the `[` of an array declarator (6.7.5.2)
abbrev pub step_bracket : Mode → Place → Pointers → Core → Suffixes → Place → Qualifiers
    → List Frame → Place → Symbol → Option Taken
step_bracket m p ps c ss b qs stack q (sign puncts.RightBracket) =
    plainly stack (state stack (Direct m p ps c (then_suffix ss (unsized b qs))))
    (suc (stars ps (depth stack)))
step_bracket m p ps c ss b qs stack q (keyword k) =
    bracket_keyword m p ps c ss b qs stack (qualifier_of k)
    (operand_at (Length m p ps c ss b qs ∷ stack) q (keyword k))
step_bracket m p ps c ss b qs stack q s = operand_at (Length m p ps c ss b qs ∷ stack) q s

-- `)` directly after the `(` of a function declarator (6.7.5.3)
abbrev pub no_parameters_at : Mode → Place → Pointers → Core → Suffixes → Place → List Frame
    → Symbol → Option Taken
no_parameters_at m p ps c ss b stack (sign puncts.RightParenthesis) =
    plainly stack (state stack (Direct m p ps c (then_suffix ss (unprototyped b))))
    (suc (stars ps (depth stack)))
no_parameters_at m p ps c ss b stack _ = None

-- the first token after the `(` of a function declarator (6.7.5.3)
abbrev pub step_parameters : Mode → Place → Pointers → Core → Suffixes → Place → List Frame → Place
    → Symbol → Option Taken
step_parameters m p ps c ss b stack q s =
    first_word of_parameter (Parameters m p ps c ss b q no_parameters ∷ stack) q s
    (no_parameters_at m p ps c ss b stack s)

-- `...` after a comma among parameters (6.7.5)
abbrev pub ellipsis_at : List Frame → Symbol → Option Taken
ellipsis_at stack (sign puncts.Ellipsis) = plainly stack (state stack AfterEllipsis) (depth stack)
ellipsis_at stack _ = None

-- `)` after `, ...` (6.7.5)
abbrev pub step_ellipsis : List Frame → Symbol → Option Taken
step_ellipsis (Parameters m p ps c ss b first params ∷ stack) (sign puncts.RightParenthesis) =
    plainly stack (state stack (Direct m p ps c
    (then_suffix ss (function b (parameter_types first params true)))))
    (suc (stars ps (depth stack)))
step_ellipsis _ s = None

------ after specifiers

-- a token after the specifiers of a declaration that is none: `;`, or it begins a declarator (6.7)
abbrev pub declaration_words : Symbol → Place → Specifiers → List Frame → Place → Option Taken
declaration_words (sign puncts.Semicolon) p xs stack q =
    declared stack p xs no_init_declarators
declaration_words s p xs stack q =
    step_pointing only_named q no_pointers (Declaring p xs no_init_declarators ∷ stack) q s

-- a token after specifiers that is none: it begins a declarator, or stands after none
abbrev pub words_ended : Owner → Place → Specifiers → List Frame → Place → Symbol → Option Taken
words_ended of_type_name p xs stack q s =
    step_pointing only_abstract q no_pointers (Owned of_type_name p xs ∷ stack) q s
words_ended of_parameter p xs stack q s =
    step_pointing either q no_pointers (Owned of_parameter p xs ∷ stack) q s
words_ended of_member p xs stack q s =
    step_pointing only_named q no_pointers (OwnedMembers p xs no_declarators ∷ stack) q s
words_ended of_declaration p xs stack q s = declaration_words s p xs stack q

-- a token after at least one specifier
abbrev pub step_words : Owner → Place → Specifiers → List Frame → Place → Symbol → Option Taken
step_words o p xs stack q s = specifier_at o p xs stack q s (words_ended o p xs stack q s)

-- after a specifier that the token may end, in others
abbrev pub ended_word : List Frame → Specifier → Place → Symbol → Option Taken
ended_word (Specified o p xs ∷ stack) x q s = step_words o p (then_specifier xs x) stack q s
ended_word _ x q s = None

-- a token after `struct` or `union` (6.7.2.1)
abbrev pub step_compound : Place → StructOrUnion → List Frame → Place → Symbol → Option Taken
step_compound p k stack q (name n) = plainly stack (state stack (AfterTag p k q n)) (depth stack)
step_compound p k stack q (sign puncts.LeftBrace) =
    plainly stack (state (Body p k no_tag no_members ∷ stack) MemberStart) (suc (depth stack))
step_compound p k stack q _ = None

-- a token after the tag of a structure or union (6.7.2.1, 6.7.2.3)
abbrev pub step_tag : Place → StructOrUnion → Place → List ℕ → List Frame → Place → Symbol
    → Option Taken
step_tag p k r n stack q (sign puncts.LeftBrace) =
    plainly stack (state (Body p k (tag r n) no_members ∷ stack) MemberStart) (suc (depth stack))
step_tag p k r n stack q s = ended_word stack (of_type p (compound p (mentioned p k r n))) q s

-- the `}` of a structure or union with at least one member (6.7.2.1)
abbrev pub body_ended : List Frame → Symbol → Option Taken
body_ended (Body q k t (then_member ms m) ∷ stack) (sign puncts.RightBrace) =
    specified stack q (suc (depth stack)) (of_type q
    (compound q (defined q k t (then_member ms m))))
body_ended _ s = None

-- a token before a member, or the `}` (6.7.2.1)
abbrev pub step_member : List Frame → Place → Symbol → Option Taken
step_member stack q s = first_word of_member stack q s (body_ended stack s)

-- a token after `enum` (6.7.2.2)
abbrev pub step_enum : Place → List Frame → Place → Symbol → Option Taken
step_enum p stack q (name n) = plainly stack (state stack (AfterEnumTag p q n)) (depth stack)
step_enum p stack q (sign puncts.LeftBrace) =
    plainly stack (state (Listing p no_tag no_enumerators ∷ stack) EnumeratorStart)
    (braced (depth stack))
step_enum p stack q _ = None

-- a token after the tag of an enumeration (6.7.2.2, 6.7.2.3)
abbrev pub step_enum_tag : Place → Place → List ℕ → List Frame → Place → Symbol → Option Taken
step_enum_tag p r n stack q (sign puncts.LeftBrace) =
    plainly stack (state (Listing p (tag r n) no_enumerators ∷ stack) EnumeratorStart)
    (braced (depth stack))
step_enum_tag p r n stack q s =
    ended_word stack (of_type p (enumeration p (listed_before p r n))) q s

-- the `}` after a last comma, with at least one enumerator (6.7.2.2)
abbrev pub listing_ended : List Frame → Option Taken
listing_ended (Listing q t (then_enumerator es e) ∷ stack) =
    listed_at stack q t (then_enumerator es e) true
listing_ended _ = None

-- a token before an enumeration constant (6.7.2.2)
abbrev pub step_enumerator : List Frame → Place → Symbol → Option Taken
step_enumerator stack q (name n) = plainly stack (state stack (AfterEnumerator q n)) (depth stack)
step_enumerator stack q (sign puncts.RightBrace) = listing_ended stack
step_enumerator stack q _ = None

-- a sign after the name of an enumeration constant (6.7.2.2)
abbrev pub enumerator_named : List Frame → Place → List ℕ → Punct → Option Taken
enumerator_named (Listing q t es ∷ stack) p n puncts.Equal =
    plainly stack (want (Valued p n ∷ Listing q t es ∷ stack)) (braced (depth stack))
enumerator_named (Listing q t es ∷ stack) p n puncts.Comma =
    plainly stack (state (Listing q t (then_enumerator es (plain p n)) ∷ stack) EnumeratorStart)
    (braced (depth stack))
enumerator_named (Listing q t es ∷ stack) p n puncts.RightBrace =
    listed_at stack q t (then_enumerator es (plain p n)) false
enumerator_named _ p n s = None

-- a token after the name of an enumeration constant
abbrev pub step_enumerator_name : Place → List ℕ → List Frame → Symbol → Option Taken
step_enumerator_name p n stack (sign s) = enumerator_named stack p n s
step_enumerator_name p n stack _ = None

------ initialisers

-- a token before an initialiser (6.7.8)
abbrev pub step_initializer : List Frame → Place → Symbol → Option Taken
step_initializer stack q (sign puncts.LeftBrace) =
    loosely (state (Braces q no_initializers ∷ stack) BracesStart) (suc (depth stack))
step_initializer stack q s = operand_at stack q s

-- the `}` after a last comma, with at least one initialiser (6.7.8)
abbrev pub braces_ended : List Frame → Option Taken
braces_ended (Braces q (then_initializer xs p g x) ∷ stack) =
    loosely (state stack (AfterInitializer (in_braces q (then_initializer xs p g x) true)))
    (suc (depth stack))
braces_ended _ = None

-- a token before a designation or an initialiser in braces, or the `}` (6.7.8)
abbrev pub step_braces : List Frame → Place → Symbol → Option Taken
step_braces stack q (sign puncts.LeftBracket) =
    loosely (want (Index q ∷ stack)) (suc (depth stack))
step_braces stack q (sign puncts.Dot) = loosely (state stack (AfterDot q)) (depth stack)
step_braces stack q (sign puncts.RightBrace) = braces_ended stack
step_braces stack q s = step_initializer (Designated no_designation ∷ stack) q s

-- the member's name after the `.` of a designator (6.7.8)
abbrev pub step_dot : Place → List Frame → Symbol → Option Taken
step_dot p stack (name n) =
    loosely (state stack (AfterDesignator (of_member p n))) (depth stack)
step_dot p stack _ = None

-- the `=` after a designator (6.7.8)
abbrev pub step_designator : Designation → List Frame → Symbol → Option Taken
step_designator g stack (sign puncts.Equal) =
    loosely (state (Designated g ∷ stack) InitializerStart) (depth stack)
step_designator g stack _ = None

-- a token after an initialiser in braces (6.7.8)
abbrev pub step_initialized : List Frame → Initializer → Symbol → Option Taken
step_initialized stack x (sign s) = initialized_at stack x s
step_initialized stack x _ = None

------ elements

-- one of the terminals that an element fixes
abbrev pub fixed_at : Fixed → Standing → Spot → Symbol → Option Taken
fixed_at e s x t = cond (meets e t) (loosely (spot s x) 0) None

-- an expression that may be missing
abbrev pub optional_at : Standing → Optional → Place → Symbol → Option Taken
optional_at s c q t =
    cond (meets (closer (optional c)) t) (loosely (spot s (after_optional c None)) 0)
    (operand_at (Statement s (optional c) ∷ []) q t)

-- after all terminals before an expression
abbrev pub opened : Standing → List Fixed → Part → State
opened s [] c = want (Statement s c ∷ [])
opened s (e ∷ es) c = spot s (Opening (e ∷ es) c)

-- the first token of a statement (6.8)
abbrev pub statement_at : Standing → Place → Symbol → Option Taken
statement_at s q (keyword keywords.Case) = loosely (want (Statement s (of_case q) ∷ [])) 0
statement_at s q (keyword keywords.Default) =
    loosely (spot s (Await (the_colon ∷ the_hole ∷ []) (hollow_default q 0))) 0
statement_at s q (keyword keywords.If) = loosely (spot s (Opening (the_opening ∷ []) (of_if q))) 0
statement_at s q (keyword keywords.Switch) =
    loosely (spot s (Opening (the_opening ∷ []) (of_switch q))) 0
statement_at s q (keyword keywords.While) =
    loosely (spot s (Opening (the_opening ∷ []) (of_while q))) 0
statement_at s q (keyword keywords.Do) =
    loosely (spot s (Opening (the_hole ∷ the_while ∷ the_opening ∷ []) (of_do q))) 0
statement_at s q (keyword keywords.For) = loosely (spot s (ForOpening q)) 0
statement_at s q (keyword keywords.Continue) =
    loosely (spot s (Await (the_semicolon ∷ []) (hollow_continue q))) 0
statement_at s q (keyword keywords.Break) =
    loosely (spot s (Await (the_semicolon ∷ []) (hollow_break q))) 0
statement_at s q (keyword keywords.Return) = loosely (spot s (Before (of_return q))) 0
statement_at s q (sign puncts.LeftBrace) =
    loosely (spot s (Await (the_hole ∷ the_right_brace ∷ []) (hollow_compound q 0))) 0
statement_at s q (sign puncts.Semicolon) =
    loosely (spot s (Await [] (hollow_expression q None))) 0
statement_at s q t = operand_at (Statement s of_expression ∷ []) q t

-- a lone `;` at file scope, which is an external declaration of the profile (6.9)
abbrev pub lone_at : Place → Symbol → Option Taken
lone_at q (sign puncts.Semicolon) = loosely (spot External (Await [] (hollow_empty q))) 0
lone_at q t = None

-- the first token of an element
abbrev pub start_at : Standing → Place → Symbol → Option Taken
start_at External q t =
    first_word of_declaration (Declares External alone ∷ []) q t (lone_at q t)
start_at Item q t =
    first_word of_declaration (Declares Item alone ∷ []) q t (statement_at Item q t)
start_at Nested q t = statement_at Nested q t

-- a token in an element's own production
abbrev pub step_spot : Standing → Spot → Place → Symbol → Option Taken
step_spot s Start q t = start_at s q t
step_spot s (Await [] k) q t = None
step_spot s (Await (e ∷ es) k) q t = fixed_at e s (Await es k) t
step_spot s (Opening [] c) q t = None
step_spot s (Opening (e ∷ es) c) q t = cond (meets e t) (loosely (opened s es c) 0) None
step_spot s (AfterIf p a) q t = fixed_at the_hole s (MayElse p a) t
step_spot s (MayElse p a) q t =
    fixed_at the_else s (Await (the_hole ∷ []) (hollow_if_else p a 0 1)) t
step_spot s (ForOpening p) q t = fixed_at the_opening s (ForStart p) t
step_spot s (ForStart p) q t =
    first_word of_declaration (Declares s (in_for p) ∷ []) q t (optional_at s (for_first p) q t)
step_spot s (Before c) q t = optional_at s c q t

------ all

-- a token, by where the machine is; None where no derivation can have it there
abbrev pub step_at : List Frame → At → Place → Symbol → Option Taken
step_at stack Want q s = step_want stack q s
step_at stack (Have k a) q s = step_have stack k a s
step_at stack (Selecting x a) q s = step_selecting stack x a s
step_at stack (Words o p xs) q s = step_words o p xs stack q s
step_at stack (AfterCompound p k) q s = step_compound p k stack q s
step_at stack (AfterTag p k r n) q s = step_tag p k r n stack q s
step_at stack (AfterEnum p) q s = step_enum p stack q s
step_at stack (AfterEnumTag p r n) q s = step_enum_tag p r n stack q s
step_at stack MemberStart q s = step_member stack q s
step_at stack EnumeratorStart q s = step_enumerator stack q s
step_at stack (AfterEnumerator p n) q s = step_enumerator_name p n stack s
step_at stack (Pointing m p ps) q s = step_pointing m p ps stack q s
step_at stack (Opened m p ps b) q s = step_opened m p ps b stack q s
step_at stack (Direct m p ps c ss) q s = step_direct m p ps c ss stack q s
step_at stack (Bracket m p ps c ss b qs) q s = step_bracket m p ps c ss b qs stack q s
step_at stack (ParametersStart m p ps c ss b) q s = step_parameters m p ps c ss b stack q s
step_at stack ParameterNext q s = first_word of_parameter stack q s (ellipsis_at stack s)
step_at stack AfterEllipsis q s = step_ellipsis stack s
step_at stack InitializerStart q s = step_initializer stack q s
step_at stack BracesStart q s = step_braces stack q s
step_at stack (AfterDot p) q s = step_dot p stack s
step_at stack (AfterDesignator g) q s = step_designator g stack s
step_at stack (AfterInitializer x) q s = step_initialized stack x s
step_at stack (AtSpot x y) q s = step_spot x y q s

-- what a token with its place does
abbrev pub step : State → Token → Option Taken
step m t = step_at m.stack m.at t.place t.symbol

-- the tree, if the expression may end here
abbrev pub end_at : List Frame → Expr → Option Expr
end_at [] a = Some a
end_at (_ ∷ _) a = None

-- the same, once all has ended that can
abbrev pub after_end : Reduced → Option Expr
after_end r = end_at r.stack r.operand

-- the tree, by where the machine is
abbrev pub finished_at : List Frame → At → Option Expr
finished_at stack (Have k a) = after_end (reduce 0 stack k a)
finished_at stack _ = None

-- the tree, if the tokens may end here
abbrev pub finished : State → Option Expr
finished m = finished_at m.stack m.at

------ elements as a whole

-- the machine before an element
abbrev pub begin : Standing → State
begin s = spot s Start

-- the skeleton, by where the machine is in an element
abbrev pub whole_at : Spot → Option Skeleton
whole_at (Await [] k) = Some k
whole_at (MayElse p a) = Some (hollow_if p a 0)
whole_at _ = None

-- the skeleton, by where the machine is
abbrev pub element_at : At → Option Skeleton
element_at (AtSpot s x) = whole_at x
element_at _ = None

-- the skeleton, if the tokens of the element may end here
abbrev pub finished_element : State → Option Skeleton
finished_element m = element_at m.at
