-- Rows: what the machine answers to some tokens.
use Rattle.std.proofs.Common.{◌≡◌, ℕ, zero, suc, List, [], ◌∷◌, true, false, refl}
use Rattle.std.specs.Prelude.{codes}
use Rattle.hv_base.specs.declared.place.Place.{Place}
use Rattle.hv_base.specs.declared.keyword.Keyword.TheVariants as keywords
use Rattle.hv_base.specs.declared.punct.Punct.TheVariants as puncts
use Rattle.hv_base.specs.declared.why.Why.TheVariants.{Syntax, TooDeep}
use Rattle.hv_ctree.specs.declared.tree.words.AssignmentOperator.TheVariants.{Plain}
use Rattle.hv_base.specs.declared.operator.BinaryOperator.TheVariants as binaries
use Rattle.hv_ctree.specs.declared.tree.words.UnaryOperator.TheVariants.{Indirection}
use Rattle.hv_ctree.specs.tree.Expressions.{identifier, unary, cast, sizeof_type, binary, assign, comma, call, no_arguments, then_argument, type_name, no_specifiers, then_specifier, of_type, word, int_word, typedef_name, no_pointers, then_pointer, no_qualifiers, no_declarator, some_declarator, declarator, nothing, group, no_suffixes, then_suffix, function, parameter_types, no_parameters, then_parameter, parameter, enumeration, listed, no_tag, no_enumerators, then_enumerator, plain}
use Rattle.hv_grammar.specs.Symbols.{Symbol, keyword, name, marked, sign, Token, token_at, left_paren, right_paren, left_bracket, right_bracket, left_brace, right_brace, comma_sign, colon, semicolon, equal_sign}
use Rattle.hv_grammar.specs.Refusal.{Limits, source_limits}
use Rattle.hv_grammar.specs.machine.Steps.{want}
use Rattle.hv_grammar.specs.machine.Answers.{Answer, Accepted, Refused, answer}

abbrev pub on : ℕ → Place
on n = record { stack = []; file = 0; offset = n }

abbrev pub from : ℕ → List Symbol → List Token
from n [] = []
from n (s ∷ rest) = token_at (on n) s ∷ from (suc n) rest

abbrev read : List Symbol → Answer
read symbols = answer source_limits (want []) 0 0 (from 0 symbols)

abbrev pub small : Limits
small = record { brackets = 4; operators = 3; statements = 4 }

abbrev read_small : List Symbol → Answer
read_small symbols = answer small (want []) 0 0 (from 0 symbols)

abbrev pub a : Symbol
a = name (codes "a")

abbrev pub b : Symbol
b = name (codes "b")

abbrev pub c : Symbol
c = name (codes "c")

abbrev pub T : Symbol
T = marked (codes "T")

abbrev star : Symbol
star = sign puncts.Star

abbrev plus_plus : Symbol
plus_plus = sign puncts.PlusPlus

abbrev size : Symbol
size = keyword keywords.Sizeof

abbrev pub int : Symbol
int = keyword keywords.Int

abbrev plus_sign : Symbol
plus_sign = sign puncts.Plus

-- a + b = c
sum_is_no_unary : read (a ∷ plus_sign ∷ b ∷ equal_sign ∷ c ∷ []) ≡ Refused 3 Syntax
sum_is_no_unary = refl

-- * ( T ) a = b
cast_below_star : read (star ∷ left_paren ∷ T ∷ right_paren ∷ a ∷ equal_sign ∷ b ∷ [])
    ≡ Accepted (assign (on 0) Plain
    (unary (on 0) Indirection (cast (on 1)
    (type_name (on 2) (then_specifier no_specifiers
    (of_type (on 2) (typedef_name (on 2) (codes "T")))) no_declarator)
    (identifier (on 4) (codes "a")))) (identifier (on 6) (codes "b")))
cast_below_star = refl

-- ( T ) a = b
cast_is_no_unary : read (left_paren ∷ T ∷ right_paren ∷ a ∷ equal_sign ∷ b ∷ []) ≡ Refused 4 Syntax
cast_is_no_unary = refl

-- a ? b : c = a
arm_is_no_assignment : read (a ∷ sign puncts.Question ∷ b ∷ colon ∷ c ∷ equal_sign ∷ a ∷ [])
    ≡ Refused 5 Syntax
arm_is_no_assignment = refl

-- ++ ( T ) a, and sizeof ++ ( T ) a
step_takes_no_cast : read (plus_plus ∷ left_paren ∷ T ∷ right_paren ∷ a ∷ []) ≡ Refused 2 Syntax
step_takes_no_cast = refl

sized_step_takes_no_cast : read (size ∷ plus_plus ∷ left_paren ∷ T ∷ right_paren ∷ a ∷ [])
    ≡ Refused 3 Syntax
sized_step_takes_no_cast = refl

-- sizeof ( T ) a, sizeof ( T ) [, sizeof ( T ) ++
size_takes_no_operand : read (size ∷ left_paren ∷ T ∷ right_paren ∷ a ∷ []) ≡ Refused 4 Syntax
size_takes_no_operand = refl

size_is_no_postfix : read (size ∷ left_paren ∷ T ∷ right_paren ∷ left_bracket ∷ a ∷ [])
    ≡ Refused 4 Syntax
size_is_no_postfix = refl

size_takes_no_step : read (size ∷ left_paren ∷ T ∷ right_paren ∷ plus_plus ∷ []) ≡ Refused 4 Syntax
size_takes_no_step = refl

-- sizeof ( T ) * b is a product
size_in_product : read (size ∷ left_paren ∷ T ∷ right_paren ∷ star ∷ b ∷ [])
    ≡ Accepted (binary (on 0) binaries.Multiply
    (sizeof_type (on 0) (type_name (on 2)
    (then_specifier no_specifiers (of_type (on 2) (typedef_name (on 2) (codes "T"))))
    no_declarator)) (identifier (on 5) (codes "b")))
size_in_product = refl

-- ( T ) {
no_compound_literal : read (left_paren ∷ T ∷ right_paren ∷ left_brace ∷ []) ≡ Refused 3 Syntax
no_compound_literal = refl

-- ( a T, a ( T, T
type_is_no_operand : read (left_paren ∷ a ∷ T ∷ []) ≡ Refused 2 Syntax
type_is_no_operand = refl

type_is_no_argument : read (a ∷ left_paren ∷ T ∷ []) ≡ Refused 2 Syntax
type_is_no_argument = refl

type_alone : read (T ∷ []) ≡ Refused 0 Syntax
type_alone = refl

-- a ( b , )
argument_wanted : read (a ∷ left_paren ∷ b ∷ comma_sign ∷ right_paren ∷ []) ≡ Refused 4 Syntax
argument_wanted = refl

-- a ( b , c ) , a
comma_outside : read (a ∷ left_paren ∷ b ∷ comma_sign ∷ c ∷ right_paren ∷ comma_sign ∷ a ∷ [])
    ≡ Accepted (comma (on 0)
    (call (on 0) (identifier (on 0) (codes "a"))
    (then_argument (then_argument no_arguments (identifier (on 2) (codes "b")))
    (identifier (on 4) (codes "c")))) (identifier (on 7) (codes "a")))
comma_outside = refl

-- ( T a ), sizeof ( T ( a ) ), sizeof ( T ( * a ) )
type_has_no_name : read (left_paren ∷ T ∷ a ∷ []) ≡ Refused 2 Syntax
type_has_no_name = refl

grouped_type_has_no_name : read (size ∷ left_paren ∷ T ∷ left_paren ∷ a ∷ []) ≡ Refused 4 Syntax
grouped_type_has_no_name = refl

pointed_type_has_no_name : read (size ∷ left_paren ∷ T ∷ left_paren ∷ star ∷ a ∷ [])
    ≡ Refused 5 Syntax
pointed_type_has_no_name = refl

-- sizeof ( int ( * ) ( int ) )
pointer_to_function : read (size ∷ left_paren ∷ int ∷ left_paren ∷ star ∷ right_paren ∷ left_paren ∷
    int ∷ right_paren ∷ right_paren ∷ [])
    ≡ Accepted (sizeof_type (on 0)
    (type_name (on 2) (then_specifier no_specifiers (of_type (on 2) (word (on 2) int_word)))
    (some_declarator (declarator (on 3) no_pointers
    (group (on 3) (declarator (on 4) (then_pointer no_pointers (on 4) no_qualifiers) nothing
    no_suffixes))
    (then_suffix no_suffixes (function (on 6)
    (parameter_types (on 7) (then_parameter no_parameters
    (parameter (on 7) (then_specifier no_specifiers (of_type (on 7) (word (on 7) int_word)))
    no_declarator)) false)))))))
pointer_to_function = refl

-- sizeof ( int ( T ) ) is a function that takes T
function_of_type : read (size ∷ left_paren ∷ int ∷ left_paren ∷ T ∷ right_paren ∷ right_paren ∷ [])
    ≡ Accepted (sizeof_type (on 0)
    (type_name (on 2) (then_specifier no_specifiers (of_type (on 2) (word (on 2) int_word)))
    (some_declarator (declarator (on 3) no_pointers nothing
    (then_suffix no_suffixes (function (on 3)
    (parameter_types (on 4) (then_parameter no_parameters
    (parameter (on 4) (then_specifier no_specifiers
    (of_type (on 4) (typedef_name (on 4) (codes "T")))) no_declarator)) false)))))))
function_of_type = refl

-- sizeof ( int ( int , ... , int ) )
ellipsis_is_last : read (size ∷ left_paren ∷ int ∷ left_paren ∷ int ∷ comma_sign ∷
    sign puncts.Ellipsis ∷ comma_sign ∷ []) ≡ Refused 7 Syntax
ellipsis_is_last = refl

ellipsis_is_not_first : read (size ∷ left_paren ∷ int ∷ left_paren ∷ sign puncts.Ellipsis ∷ [])
    ≡ Refused 4 Syntax
ellipsis_is_not_first = refl

-- sizeof ( int [ * ] ), sizeof ( int [ static
star_begins_operand : read (size ∷ left_paren ∷ int ∷ left_bracket ∷ star ∷ right_bracket ∷ [])
    ≡ Refused 5 Syntax
star_begins_operand = refl

no_static_length : read (size ∷ left_paren ∷ int ∷ left_bracket ∷ keyword keywords.Static ∷ [])
    ≡ Refused 4 Syntax
no_static_length = refl

-- sizeof ( static
no_storage_in_type : read (size ∷ left_paren ∷ int ∷ keyword keywords.Static ∷ [])
    ≡ Refused 3 Syntax
no_storage_in_type = refl

-- sizeof ( struct { } ), sizeof ( struct { int ; } ), sizeof ( enum { } )
members_wanted : read (size ∷ left_paren ∷ keyword keywords.Struct ∷ left_brace ∷ right_brace ∷ [])
    ≡ Refused 4 Syntax
members_wanted = refl

member_needs_name : read (size ∷ left_paren ∷ keyword keywords.Struct ∷ left_brace ∷ int ∷
    semicolon ∷ []) ≡ Refused 5 Syntax
member_needs_name = refl

enumerators_wanted : read (size ∷ left_paren ∷ keyword keywords.Enum ∷ left_brace ∷ right_brace ∷
    []) ≡ Refused 4 Syntax
enumerators_wanted = refl

-- sizeof ( enum { a , } ), sizeof ( enum { a , ,
comma_before_brace : read (size ∷ left_paren ∷ keyword keywords.Enum ∷ left_brace ∷ a ∷ comma_sign ∷
    right_brace ∷ right_paren ∷ [])
    ≡ Accepted (sizeof_type (on 0)
    (type_name (on 2) (then_specifier no_specifiers
    (of_type (on 2) (enumeration (on 2)
    (listed (on 2) no_tag (then_enumerator no_enumerators (plain (on 4) (codes "a"))) true))))
    no_declarator))
comma_before_brace = refl

one_comma : read (size ∷ left_paren ∷ keyword keywords.Enum ∷ left_brace ∷ a ∷ comma_sign ∷
    comma_sign ∷ []) ≡ Refused 6 Syntax
one_comma = refl

-- sizeof ( enum { a = b = c
constant_is_no_assignment : read
    (size ∷ left_paren ∷ keyword keywords.Enum ∷ left_brace ∷ a ∷ equal_sign ∷ b ∷ equal_sign ∷ [])
    ≡ Refused 7 Syntax
constant_is_no_assignment = refl

-- the tokens end too early
ends_early : read (a ∷ plus_sign ∷ []) ≡ Refused 2 Syntax
ends_early = refl

abbrev many : ℕ → Symbol → List Symbol → List Symbol
many zero s rest = rest
many (suc n) s rest = s ∷ many n s rest

-- 256 `(` may be open, and the 257th is too deep; what can't stand there is 15 even there
deepest : read (many 256 left_paren (right_paren ∷ [])) ≡ Refused 256 Syntax
deepest = refl

too_deep : read (many 257 left_paren []) ≡ Refused 256 TooDeep
too_deep = refl

-- the right side of an assignment is open from its own first token
right_side : read_small (many 3 left_paren (a ∷ equal_sign ∷ b ∷ [])) ≡ Refused 4 TooDeep
right_side = refl

right_side_open : answer (record { brackets = 4; operators = 9; statements = 4 }) (want []) 0 0
    (from 0 (many 3 left_paren (a ∷ equal_sign ∷ b ∷ equal_sign ∷ c ∷ []))) ≡ Refused 7 TooDeep
right_side_open = refl

-- the fourth operator of three
fourth_operator : read_small (a ∷ plus_sign ∷ b ∷ plus_sign ∷ a ∷ plus_sign ∷ b ∷ plus_sign ∷ a ∷
    []) ≡ Refused 7 TooDeep
fourth_operator = refl

-- after `sizeof (` the next token says whether the `(` is one of the operators: a + b + sizeof ( T ) is within,
-- a + b + sizeof ( a ) is refused at the second a, and there as Syntax if the token fits neither
sized_type_counts_once : read_small
    (a ∷ plus_sign ∷ b ∷ plus_sign ∷ size ∷ left_paren ∷ T ∷ right_paren ∷ left_paren ∷ [])
    ≡ Refused 8 Syntax
sized_type_counts_once = refl

sized_parenthesis_counts : read_small
    (a ∷ plus_sign ∷ b ∷ plus_sign ∷ size ∷ left_paren ∷ a ∷ right_paren ∷ []) ≡ Refused 6 TooDeep
sized_parenthesis_counts = refl

sized_neither : read_small (a ∷ plus_sign ∷ b ∷ plus_sign ∷ size ∷ left_paren ∷ semicolon ∷ [])
    ≡ Refused 6 Syntax
sized_neither = refl
