-- Rows: what the machine answers to the own tokens of some elements.
use Rattle.std.proofs.Common.{◌≡◌, Bool, true, false, List, [], ◌∷◌, None, refl}
use Rattle.std.specs.Prelude.{codes}
use Rattle.hv_base.specs.declared.keyword.Keyword.TheVariants as keywords
use Rattle.hv_base.specs.declared.punct.Punct.TheVariants as puncts
use Rattle.hv_base.specs.declared.why.Why.TheVariants.{Syntax, TooDeep}
use Rattle.hv_ctree.specs.tree.Expressions.{identifier, no_specifiers, then_specifier, of_type, word, int_word, declarator, no_pointers, named, no_suffixes}
use Rattle.hv_ctree.specs.tree.Statements.{of_member, value, braced, no_initializers, then_initializer, bare, initialized, no_init_declarators, then_init_declarator, declaration, Skeleton, hollow_declaration, hollow_function, hollow_if, hollow_if_else, hollow_for}
use Rattle.hv_grammar.specs.Symbols.{Symbol, keyword, sign, hole, left_paren, right_paren, left_bracket, right_bracket, left_brace, right_brace, comma_sign, colon, semicolon, equal_sign}
use Rattle.hv_grammar.specs.Elements.{Standing, External, Item, Nested}
use Rattle.hv_grammar.specs.Refusal.{source_limits}
use Rattle.hv_grammar.specs.machine.Answers.{AnswerOf, Accepted, Refused, element_answer}
use Rattle.hv_grammar.proofs.MachineRows.{on, from, small, a, b, c, T, int}

abbrev read : Standing → List Symbol → AnswerOf Skeleton
read s symbols = element_answer source_limits s (from 0 symbols)

abbrev is_accepted : AnswerOf Skeleton → Bool
is_accepted (Accepted k) = true
is_accepted (Refused i why) = false

-- whether the machine accepts the tokens
abbrev reads : Standing → List Symbol → Bool
reads s symbols = is_accepted (read s symbols)

abbrev dot : Symbol
dot = sign puncts.Dot

abbrev void : Symbol
void = keyword keywords.Void

abbrev struct : Symbol
struct = keyword keywords.Struct

abbrev if_word : Symbol
if_word = keyword keywords.If

abbrev else_word : Symbol
else_word = keyword keywords.Else

abbrev for_word : Symbol
for_word = keyword keywords.For

abbrev case_word : Symbol
case_word = keyword keywords.Case

------ initialisers

-- int x = { , } ;
no_comma_first : read External (int ∷ a ∷ equal_sign ∷ left_brace ∷ comma_sign ∷ [])
    ≡ Refused 4 Syntax
no_comma_first = refl

-- int x = { } ;
no_empty_braces : read External (int ∷ a ∷ equal_sign ∷ left_brace ∷ right_brace ∷ [])
    ≡ Refused 4 Syntax
no_empty_braces = refl

-- int a = { . b = c , } ;
last_comma : read External (int ∷ a ∷ equal_sign ∷ left_brace ∷ dot ∷ b ∷ equal_sign ∷ c ∷ comma_sign
    ∷ right_brace ∷ semicolon ∷ [])
    ≡ Accepted (hollow_declaration (on 0) (declaration (on 0)
    (then_specifier no_specifiers (of_type (on 0) (word (on 0) int_word)))
    (then_init_declarator no_init_declarators (initialized (on 1)
    (declarator (on 1) no_pointers (named (on 1) (codes "a")) no_suffixes)
    (braced (on 3) (then_initializer no_initializers (on 4) (of_member (on 4) (codes "b"))
    (value (on 7) (identifier (on 7) (codes "c")))) true)))))
last_comma = refl

-- { . a . b = c }
one_designator : read Item (int ∷ a ∷ equal_sign ∷ left_brace ∷ dot ∷ a ∷ dot ∷ []) ≡ Refused 6 Syntax
one_designator = refl

-- { [ a ] b }
then_equal : read Item (int ∷ a ∷ equal_sign ∷ left_brace ∷ left_bracket ∷ a ∷ right_bracket ∷ b ∷ [])
    ≡ Refused 7 Syntax
then_equal = refl

-- { [ a = b ]
index_is_constant : read Item (int ∷ a ∷ equal_sign ∷ left_brace ∷ left_bracket ∷ a ∷ equal_sign ∷ [])
    ≡ Refused 6 Syntax
index_is_constant = refl

-- int a = b , c ;
comma_begins_declarator : read Item (int ∷ a ∷ equal_sign ∷ b ∷ comma_sign ∷ c ∷ semicolon ∷ [])
    ≡ Accepted (hollow_declaration (on 0) (declaration (on 0)
    (then_specifier no_specifiers (of_type (on 0) (word (on 0) int_word)))
    (then_init_declarator (then_init_declarator no_init_declarators (initialized (on 1)
    (declarator (on 1) no_pointers (named (on 1) (codes "a")) no_suffixes)
    (value (on 3) (identifier (on 3) (codes "b")))))
    (bare (on 5) (declarator (on 5) no_pointers (named (on 5) (codes "c")) no_suffixes)))))
comma_begins_declarator = refl

-- five brackets where four may be open
too_many_braces : element_answer small Item (from 0 (int ∷ a ∷ equal_sign ∷ left_brace ∷ left_brace
    ∷ left_brace ∷ left_brace ∷ left_brace ∷ [])) ≡ Refused 7 TooDeep
too_many_braces = refl

------ declarations and function definitions

-- int a [ b = c ] ;
length_assigns : reads Item (int ∷ a ∷ left_bracket ∷ b ∷ equal_sign ∷ c ∷ right_bracket ∷ semicolon ∷
    []) ≡ true
length_assigns = refl

-- int a [ b ,
length_has_no_comma : read Item (int ∷ a ∷ left_bracket ∷ b ∷ comma_sign ∷ []) ≡ Refused 4 Syntax
length_has_no_comma = refl

-- int a { hole }
any_declarator : read External (int ∷ a ∷ left_brace ∷ hole ∷ right_brace ∷ [])
    ≡ Accepted (hollow_function (on 0)
    (then_specifier no_specifiers (of_type (on 0) (word (on 0) int_word)))
    (declarator (on 1) no_pointers (named (on 1) (codes "a")) no_suffixes) (on 2) 0)
any_declarator = refl

-- int a = b {
no_body_after_value : read External (int ∷ a ∷ equal_sign ∷ b ∷ left_brace ∷ []) ≡ Refused 4 Syntax
no_body_after_value = refl

-- int a , b {
no_body_after_two : read External (int ∷ a ∷ comma_sign ∷ b ∷ left_brace ∷ []) ≡ Refused 4 Syntax
no_body_after_two = refl

-- int a ( void ) int
no_declaration_list : read External (int ∷ a ∷ left_paren ∷ void ∷ right_paren ∷ int ∷ [])
    ≡ Refused 5 Syntax
no_declaration_list = refl

-- int a ( void ) { in a block
no_body_in_block : read Item (int ∷ a ∷ left_paren ∷ void ∷ right_paren ∷ left_brace ∷ [])
    ≡ Refused 5 Syntax
no_body_in_block = refl

-- int ( ) ;
no_abstract_declarator : read External (int ∷ left_paren ∷ right_paren ∷ []) ≡ Refused 2 Syntax
no_abstract_declarator = refl

-- int ;
nothing_declared : reads External (int ∷ semicolon ∷ []) ≡ true
nothing_declared = refl

-- int int a ;
two_types : reads External (int ∷ int ∷ a ∷ semicolon ∷ []) ≡ true
two_types = refl

-- struct a ;
tag_alone : reads Item (struct ∷ a ∷ semicolon ∷ []) ≡ true
tag_alone = refl

-- struct ;
no_tag_at_all : read Item (struct ∷ semicolon ∷ []) ≡ Refused 1 Syntax
no_tag_at_all = refl

-- a = b ; at file scope, and ;
no_expression_outside : read External (a ∷ equal_sign ∷ b ∷ semicolon ∷ []) ≡ Refused 0 Syntax
no_expression_outside = refl

lone_semicolon : reads External (semicolon ∷ []) ≡ true
lone_semicolon = refl

-- T . a
type_begins_declaration : read Item (T ∷ dot ∷ a ∷ []) ≡ Refused 1 Syntax
type_begins_declaration = refl

-- T a ; and a b
type_declares : reads Item (T ∷ a ∷ semicolon ∷ []) ≡ true
type_declares = refl

name_declares_not : read Item (a ∷ b ∷ semicolon ∷ []) ≡ Refused 1 Syntax
name_declares_not = refl

-- a statement within a statement is no declaration
nested_declares_not : read Nested (int ∷ a ∷ semicolon ∷ []) ≡ Refused 0 Syntax
nested_declares_not = refl

------ statements

-- case a = b :
case_is_constant : read Nested (case_word ∷ a ∷ equal_sign ∷ b ∷ colon ∷ hole ∷ []) ≡ Refused 2 Syntax
case_is_constant = refl

-- case a ? b : c : hole
case_with_arms : reads Nested (case_word ∷ a ∷ sign puncts.Question ∷ b ∷ colon ∷ c ∷ colon ∷ hole ∷ [])
    ≡ true
case_with_arms = refl

-- a :
no_label : read Item (a ∷ colon ∷ hole ∷ []) ≡ Refused 1 Syntax
no_label = refl

-- else
else_alone : read Nested (else_word ∷ hole ∷ []) ≡ Refused 0 Syntax
else_alone = refl

-- if ( a ) hole, and with else hole
if_alone : read Nested (if_word ∷ left_paren ∷ a ∷ right_paren ∷ hole ∷ [])
    ≡ Accepted (hollow_if (on 0) (identifier (on 2) (codes "a")) 0)
if_alone = refl

if_with_else : read Nested (if_word ∷ left_paren ∷ a ∷ right_paren ∷ hole ∷ else_word ∷ hole ∷ [])
    ≡ Accepted (hollow_if_else (on 0) (identifier (on 2) (codes "a")) 0 1)
if_with_else = refl

if_early : read Nested (if_word ∷ left_paren ∷ a ∷ right_paren ∷ []) ≡ Refused 4 Syntax
if_early = refl

-- do hole ;
do_wants_while : read Nested (keyword keywords.Do ∷ hole ∷ semicolon ∷ []) ≡ Refused 2 Syntax
do_wants_while = refl

-- do hole while ( a ) and no ;
do_wants_semicolon : read Nested (keyword keywords.Do ∷ hole ∷ keyword keywords.While ∷ left_paren ∷ a ∷
    right_paren ∷ []) ≡ Refused 6 Syntax
do_wants_semicolon = refl

-- for ( ; ; ) hole
for_of_nothing : read Nested (for_word ∷ left_paren ∷ semicolon ∷ semicolon ∷ right_paren ∷ hole ∷ [])
    ≡ Accepted (hollow_for (on 0) None None None 0)
for_of_nothing = refl

-- for ( int a = b ; a ; ) hole
for_declares : reads Item (for_word ∷ left_paren ∷ int ∷ a ∷ equal_sign ∷ b ∷ semicolon ∷ a ∷ semicolon ∷
    right_paren ∷ hole ∷ []) ≡ true
for_declares = refl

-- for ( ; )
for_wants_two : read Nested (for_word ∷ left_paren ∷ semicolon ∷ right_paren ∷ []) ≡ Refused 3 Syntax
for_wants_two = refl

-- for ( int a {
for_has_no_body : read Nested (for_word ∷ left_paren ∷ int ∷ a ∷ left_brace ∷ []) ≡ Refused 4 Syntax
for_has_no_body = refl

-- return ; and return a ;
returns_nothing : reads Nested (keyword keywords.Return ∷ semicolon ∷ []) ≡ true
returns_nothing = refl

returns_value : reads Nested (keyword keywords.Return ∷ a ∷ semicolon ∷ []) ≡ true
returns_value = refl
