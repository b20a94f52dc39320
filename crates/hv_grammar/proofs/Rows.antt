-- Rows: tokens that the grammar derives, with their trees.
use Rattle.std.proofs.Common.{◌≡◌, ℕ, zero, suc, List, [], ◌∷◌, true, false, refl}
use Rattle.std.specs.Prelude.{codes, is_some}
use Rattle.hv_base.specs.declared.place.Place.{Place}
use Rattle.hv_base.specs.declared.keyword.Keyword.TheVariants as keywords
use Rattle.hv_base.specs.declared.punct.Punct.TheVariants as puncts
use Rattle.hv_base.specs.declared.token.IntType.TheVariants as kinds
use Rattle.hv_ctree.specs.declared.tree.words.AssignmentOperator.TheVariants.{Plain}
use Rattle.hv_ctree.specs.declared.tree.words.Constant.TheVariants.{Integer}
use Rattle.hv_ctree.specs.declared.tree.words.Step.TheVariants.{Increment}
use Rattle.hv_ctree.specs.declared.tree.words.StorageClass.TheVariants.{Typedef, Static}
use Rattle.hv_ctree.specs.declared.tree.words.UnaryOperator.TheVariants.{Indirection}
use Rattle.hv_ctree.specs.tree.Expressions.{Expr, identifier, constant, postfix, unary, cast, sizeof_type, assign, conditional, TypeName, type_name, no_specifiers, then_specifier, of_type, storage, word, int_word, typedef_name, no_pointers, no_qualifiers, no_declarator, some_declarator, declarator, nothing, named, no_suffixes, then_suffix, function, sized, parameter_types, no_parameters, then_parameter, parameter}
use Rattle.hv_ctree.specs.tree.Statements.{declaration, no_init_declarators, then_init_declarator, bare, initialized, value, braced, no_initializers, then_initializer, no_designation, hollow_function, hollow_case, declares_outside, External}
use Rattle.hv_grammar.specs.Symbols.{Marked, at, quiet, counted, keyword, name, marked, sign, hole, outside, at_first, left_paren, right_paren, left_bracket, right_bracket, left_brace, right_brace, comma_sign, colon, semicolon, equal_sign}
use Rattle.hv_grammar.specs.Expressions.{Reads, r_identifier, r_postfix, r_unary, r_sizeof_type, r_cast, r_conditional, r_assign, r_higher, r_type_name, r_specifier, r_specifiers, r_type, r_word, r_typedef_name, r_declarator, r_no_pointers, r_core, r_suffix, r_named, r_nothing, r_no_qualifiers, r_sized, r_function, r_fixed, r_parameter, r_parameter_abstract, r_no_declarator, r_abstract, r_last_comma, ReadsParameter}
use Rattle.hv_grammar.specs.Elements.{loose, ReadsElement, ReadsDeclaration, r_declaration, r_plain_declaration, r_init_declarator, r_initialized, r_bare, r_value, r_braced, r_initializer, r_no_designation, r_function_definition, r_case, r_nested, External as Outside, Nested}
use Rattle.hv_grammar.specs.Scopes.{in_externals}
use Rattle.std.proofs.Common.{map, arith, None}
use Rattle.hv_ctree.specs.tree.Expressions.{Specifiers, Declarator}
use Rattle.hv_ctree.specs.tree.Statements.{defines, function_definition, compound as block, then_item, no_items, does, expression, Program}
use Rattle.hv_grammar.specs.Symbols.{Symbol}
use Rattle.hv_grammar.specs.Elements.{r_null}
use Rattle.hv_grammar.specs.Programs.{under, is_token, f_end, f_token, f_items, r_filled, r_no_items, r_items, r_does, r_defines, r_ended, r_externals, ReadsExternals}
use Rattle.hv_grammar.specs.Grammar.{given, DerivesProgram}
use Rattle.hv_grammar.specs.Refusal.{source_limits}

-- the place at an offset
abbrev on : ℕ → Place
on n = record { stack = []; file = 0; offset = n }

abbrev a : List ℕ
a = codes "a"

abbrev b : List ℕ
b = codes "b"

abbrev x : List ℕ
x = codes "x"

abbrev T : List ℕ
T = codes "T"

abbrev plus : ℕ → ℕ → ℕ
plus zero k = k
plus (suc n) k = plus n (suc k)

-- an expression of a level is one of each lower one
lower : (n k : ℕ) {d : ℕ} {ts us : List Marked} {e : Expr} → Reads d (plus n k) ts us e
    → Reads d k ts us e
lower zero k r = r
lower (suc n) k r = r_higher (lower n (suc k) r)

abbrev type_T : ℕ → TypeName
type_T n =
    type_name (on n) (then_specifier no_specifiers (of_type (on n) (typedef_name (on n) T)))
    no_declarator

-- * ( T ) a = b : a cast is the operand of `*`, which is a unary-expression
assigned_star : Reads 0 1
    (counted 1 (on 0) (sign puncts.Star) ∷ counted 2 (on 1) left_paren ∷ quiet 2 (on 2) (marked T) ∷
    quiet 2 (on 3) right_paren
    ∷ quiet 2 (on 4) (name a) ∷ counted 0 (on 5) equal_sign ∷ quiet 1 (on 6) (name b) ∷ [])
    [] (assign (on 0) Plain (unary (on 0) Indirection
    (cast (on 1) (type_T 2) (identifier (on 4) a))) (identifier (on 6) b))
assigned_star = r_assign (on 5) Plain
    (r_unary (on 0) Indirection
    (r_cast (on 1) (on 3) (r_type_name (at_first _ _)
    (r_specifier (r_type (r_typedef_name (on 2) T))) r_no_declarator)
    (lower 2 13 (r_identifier (on 4) a))))
    (lower 14 1 (r_identifier (on 6) b))

-- a ++ = b and sizeof ( T ) = b are derived: typing refuses them
assigned_step : Reads 0 1
    (quiet 0 (on 0) (name a) ∷ counted 0 (on 1) (sign puncts.PlusPlus) ∷
    counted 0 (on 2) equal_sign ∷ quiet 1 (on 3) (name b) ∷ [])
    [] (assign (on 0) Plain (postfix (on 0) Increment (identifier (on 0) a)) (identifier (on 3) b))
assigned_step =
    r_assign (on 2) Plain (r_higher (r_postfix (on 1) Increment (r_identifier (on 0) a)))
    (lower 14 1 (r_identifier (on 3) b))

assigned_size : Reads 0 1
    (counted 1 (on 0) (keyword keywords.Sizeof) ∷ quiet 2 (on 1) left_paren ∷
    quiet 2 (on 2) (marked T) ∷ quiet 2 (on 3) right_paren
    ∷ counted 0 (on 4) equal_sign ∷ quiet 1 (on 5) (name b) ∷ [])
    [] (assign (on 0) Plain (sizeof_type (on 0) (type_T 2)) (identifier (on 5) b))
assigned_size = r_assign (on 4) Plain
    (r_sizeof_type (on 0) (on 1) (on 3)
    (r_type_name (at_first _ _) (r_specifier (r_type (r_typedef_name (on 2) T))) r_no_declarator))
    (lower 14 1 (r_identifier (on 5) b))

-- case a ? b : x : H : the `?` takes its own `:` first
labelled : ReadsElement Nested
    (loose 0 (on 0) (keyword keywords.Case) ∷ quiet 0 (on 1) (name a) ∷
    counted 1 (on 2) (sign puncts.Question) ∷ quiet 1 (on 3) (name b)
    ∷ quiet 1 (on 4) colon ∷ quiet 1 (on 5) (name x) ∷ loose 0 (on 6) colon ∷ loose 0 (on 7) hole ∷
    [])
    [] (hollow_case (on 0) (conditional (on 1) (identifier (on 1) a) (identifier (on 3) b)
    (identifier (on 5) x)) 0)
labelled = r_nested (r_case (on 0) (on 6) (on 7)
    (r_conditional (on 2) (on 4) (lower 12 3 (r_identifier (on 1) a))
    (lower 15 0 (r_identifier (on 3) b)) (lower 13 2 (r_identifier (on 5) x))))

-- int x { H } : any declarator begins a function's definition
any_definition : ReadsElement Outside
    (loose 0 (on 0) (keyword keywords.Int) ∷ loose 0 (on 1) (name x) ∷ loose 0 (on 2) left_brace ∷
    loose 0 (on 3) hole ∷ loose 0 (on 4) right_brace ∷ [])
    [] (hollow_function (on 0) (then_specifier no_specifiers
    (of_type (on 0) (word (on 0) int_word)))
    (declarator (on 1) no_pointers (named (on 1) x) no_suffixes) (on 2) 0)
any_definition =
    r_function_definition (on 2) (on 3) (on 4) (at_first _ _)
    (r_specifier (r_type (r_word (on 0) int_word)))
    (r_declarator (at_first _ _) r_no_pointers (r_core (r_named (on 1) x)) refl)

-- int ; and const x ; and int int x ; are derived
no_declarators_ : ReadsDeclaration
    (loose 0 (on 0) (keyword keywords.Int) ∷ loose 0 (on 1) semicolon ∷ []) []
    (declaration (on 0) (then_specifier no_specifiers (of_type (on 0) (word (on 0) int_word)))
    no_init_declarators)
no_declarators_ =
    r_plain_declaration (on 1) (at_first _ _) (r_specifier (r_type (r_word (on 0) int_word)))

two_types : ReadsDeclaration
    (loose 0 (on 0) (keyword keywords.Int) ∷ loose 0 (on 1) (keyword keywords.Int) ∷
    loose 0 (on 2) (name x) ∷ loose 0 (on 3) semicolon ∷ []) []
    (declaration (on 0) (then_specifier
    (then_specifier no_specifiers (of_type (on 0) (word (on 0) int_word)))
    (of_type (on 1) (word (on 1) int_word)))
    (then_init_declarator no_init_declarators
    (bare (on 2) (declarator (on 2) no_pointers (named (on 2) x) no_suffixes))))
two_types =
    r_declaration (on 3) (at_first _ _)
    (r_specifiers (r_specifier (r_type (r_word (on 0) int_word))) (r_type (r_word (on 1) int_word)))
    (r_init_declarator (r_bare (at_first _ _)
    (r_declarator (at_first _ _) r_no_pointers (r_core (r_named (on 2) x)) refl)))

-- int a [ b = x ] ; : a length is an assignment-expression
assigned_length : ReadsDeclaration
    (loose 0 (on 0) (keyword keywords.Int) ∷ loose 0 (on 1) (name a) ∷ loose 1 (on 2) left_bracket ∷
    quiet 1 (on 3) (name b)
    ∷ counted 1 (on 4) equal_sign ∷ quiet 2 (on 5) (name x) ∷ loose 1 (on 6) right_bracket ∷
    loose 0 (on 7) semicolon ∷ []) []
    (declaration (on 0) (then_specifier no_specifiers (of_type (on 0) (word (on 0) int_word)))
    (then_init_declarator no_init_declarators
    (bare (on 1) (declarator (on 1) no_pointers (named (on 1) a)
    (then_suffix no_suffixes (sized (on 2) no_qualifiers
    (assign (on 3) Plain (identifier (on 3) b) (identifier (on 5) x))))))))
assigned_length =
    r_declaration (on 7) (at_first _ _) (r_specifier (r_type (r_word (on 0) int_word)))
    (r_init_declarator (r_bare (at_first _ _) (r_declarator (at_first _ _) r_no_pointers
    (r_suffix (r_core (r_named (on 1) a))
    (r_sized (on 2) (on 6) r_no_qualifiers
    (r_assign (on 4) Plain (r_higher (r_identifier (on 3) b))
    (lower 14 1 (r_identifier (on 5) x))))) refl)))

-- int x = { a , } ; : a comma may stand before the brace
last_comma_allowed : ReadsDeclaration
    (loose 0 (on 0) (keyword keywords.Int) ∷ loose 0 (on 1) (name x) ∷ loose 0 (on 2) equal_sign ∷
    loose 1 (on 3) left_brace ∷ quiet 1 (on 4) (name a)
    ∷ loose 1 (on 5) comma_sign ∷ loose 1 (on 6) right_brace ∷ loose 0 (on 7) semicolon ∷ []) []
    (declaration (on 0) (then_specifier no_specifiers (of_type (on 0) (word (on 0) int_word)))
    (then_init_declarator no_init_declarators
    (initialized (on 1) (declarator (on 1) no_pointers (named (on 1) x) no_suffixes)
    (braced (on 3) (then_initializer no_initializers (on 4) no_designation
    (value (on 4) (identifier (on 4) a))) true))))
last_comma_allowed =
    r_declaration (on 7) (at_first _ _) (r_specifier (r_type (r_word (on 0) int_word)))
    (r_init_declarator (r_initialized (on 2) (at_first _ _)
    (r_declarator (at_first _ _) r_no_pointers (r_core (r_named (on 1) x)) refl)
    (r_braced (on 3) (on 6) (r_initializer (at_first _ _) r_no_designation
    (r_value (lower 14 1 (r_identifier (on 4) a)))) (r_last_comma (on 5)))))

-- int ( T ) as a parameter, T a typedef name: a function without a name that takes T
abstract_function : ReadsParameter outside 1
    (at outside 1 (on 0) (keyword keywords.Int) ∷ at outside 2 (on 1) left_paren ∷
    at outside 2 (on 2) (marked T) ∷ at outside 2 (on 3) right_paren ∷ []) []
    (parameter (on 0) (then_specifier no_specifiers (of_type (on 0) (word (on 0) int_word)))
    (some_declarator (declarator (on 1) no_pointers nothing
    (then_suffix no_suffixes (function (on 1)
    (parameter_types (on 2) (then_parameter no_parameters
    (parameter (on 2) (then_specifier no_specifiers (of_type (on 2) (typedef_name (on 2) T)))
    no_declarator)) false))))))
abstract_function =
    r_parameter_abstract (at_first _ _) (r_specifier (r_type (r_word (on 0) int_word)))
    (r_abstract (r_declarator (at_first _ _) r_no_pointers
    (r_suffix (r_core r_nothing) (r_function (on 1) (on 3)
    (r_fixed (at_first _ _) (r_parameter
    (r_parameter_abstract (at_first _ _) (r_specifier (r_type (r_typedef_name (on 2) T)))
    r_no_declarator))))) refl))

------ scopes

-- typedef int T ;
abbrev typedef_T : External
typedef_T = declares_outside (on 0) (declaration (on 0)
    (then_specifier (then_specifier no_specifiers (storage (on 0) Typedef))
    (of_type (on 1) (word (on 1) int_word)))
    (then_init_declarator no_init_declarators
    (bare (on 2) (declarator (on 2) no_pointers (named (on 2) T) no_suffixes))))

-- T x ;
abbrev uses_T : External
uses_T = declares_outside (on 4) (declaration (on 4)
    (then_specifier no_specifiers (of_type (on 4) (typedef_name (on 4) T)))
    (then_init_declarator no_init_declarators
    (bare (on 5) (declarator (on 5) no_pointers (named (on 5) x) no_suffixes))))

-- static T = 3 ; with T declared by it
abbrev static_T : External
static_T = declares_outside (on 4) (declaration (on 4)
    (then_specifier no_specifiers (storage (on 4) Static))
    (then_init_declarator no_init_declarators
    (initialized (on 5) (declarator (on 5) no_pointers (named (on 5) T) no_suffixes)
    (value (on 7) (constant (on 7) (Integer 3 kinds.Int))))))

-- int T = 3 ; with T declared by it
abbrev int_T : External
int_T = declares_outside (on 4) (declaration (on 4)
    (then_specifier no_specifiers (of_type (on 4) (word (on 4) int_word)))
    (then_init_declarator no_init_declarators
    (initialized (on 5) (declarator (on 5) no_pointers (named (on 5) T) no_suffixes)
    (value (on 7) (constant (on 7) (Integer 3 kinds.Int))))))

type_in_scope : is_some (in_externals (typedef_T ∷ uses_T ∷ []) []) ≡ true
type_in_scope = refl

no_type_in_scope : is_some (in_externals (uses_T ∷ []) []) ≡ false
no_type_in_scope = refl

type_without_specifier : is_some (in_externals (typedef_T ∷ static_T ∷ []) []) ≡ false
type_without_specifier = refl

name_without_type : is_some (in_externals (static_T ∷ []) []) ≡ true
name_without_type = refl

name_after_type : is_some (in_externals (typedef_T ∷ int_T ∷ []) []) ≡ true
name_after_type = refl

-- the later declaration of one scope counts
later_counts : is_some (in_externals (typedef_T ∷ int_T ∷ uses_T ∷ []) []) ≡ false
later_counts = refl

------ a whole program

abbrev stands : ℕ → ℕ → Symbol → Marked
stands n i s = under n (loose 0 (on i) s)

abbrev int_words : Specifiers
int_words = then_specifier no_specifiers (of_type (on 0) (word (on 0) int_word))

abbrev just_x : Declarator
just_x = declarator (on 1) no_pointers (named (on 1) x) no_suffixes

-- int x { ; }
abbrev small_program : Program
small_program = record {
  externals =
      defines (on 0) (function_definition (on 0) int_words just_x
      (block (on 2) (then_item no_items (does (on 3) (expression (on 3) None))))) ∷ [];
}

abbrev small_tokens : List Marked
small_tokens =
    stands 1 0 (keyword keywords.Int) ∷ stands 1 1 (name x) ∷ stands 1 2 left_brace ∷
    stands 2 3 semicolon ∷ stands 1 4 right_brace ∷ []

reads_small : ReadsExternals small_tokens small_program.externals
reads_small = r_externals
    (r_defines 0 any_definition
    (f_token (loose 0 (on 0) (keyword keywords.Int)) (is_token (λ e. cc))
    (f_token (loose 0 (on 1) (name x)) (is_token (λ e. cc))
    (f_token (loose 0 (on 2) left_brace) (is_token (λ e. cc))
    (f_items (on 3) (r_items r_no_items
    (r_does (at_first _ _) (r_filled (r_null (on 3))
    (f_token (loose 0 (on 3) semicolon) (is_token (λ e. cc)) f_end) refl refl)))
    (f_token (loose 0 (on 4) right_brace) (is_token (λ e. cc)) f_end))))))
    r_ended

derives_small : DerivesProgram source_limits (map given small_tokens) small_program
derives_small = record {
  first = small_tokens;
  tokens = refl;
  reads = reads_small;
  marks = refl;
  limits = (
    omega arith,
    omega arith,
    omega arith,
    (
      omega arith,
      omega arith,
      omega arith,
      (
        omega arith,
        omega arith,
        omega arith,
        (omega arith, omega arith, omega arith, (omega arith, omega arith, omega arith, tt)),
      ),
    ),
  );
}
