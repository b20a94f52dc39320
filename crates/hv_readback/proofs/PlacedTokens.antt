-- A tree without its places has the tokens of the tree, so programs that are the same up to places
-- have the same tokens.
use Rattle.std.proofs.Common.{◌≡◌, List, [], ◌∷◌, ◌++◌, refl, sym, ap, ◌∙◌, Option, Some, None}
use Rattle.hv_base.specs.declared.keyword.Keyword.TheVariants as keywords
use Rattle.hv_base.specs.declared.punct.Punct.TheVariants as puncts
use Rattle.hv_ctree.specs.tree.Expressions.{Expr, identifier, constant, string, parenthesized, subscript, call, member, postfix, prefix, unary, sizeof_expr, sizeof_type, cast, binary, conditional, assign, comma, Arguments, no_arguments, then_argument, TypeName, type_name, Specifiers, no_specifiers, then_specifier, Specifier, storage, of_type, qualifier, inline, TypeSpecifier, word, compound, enumeration, typedef_name, CompoundSpecifier, defined, mentioned, MayTag, no_tag, tag, Members, no_members, then_member, MemberDeclaration, members_of, Declarators, no_declarators, then_declarator, EnumSpecifier, listed, listed_before, Enumerators, no_enumerators, then_enumerator, Enumerator, plain, valued, Declarator, declarator, MayDeclarator, no_declarator, some_declarator, Core, nothing, named, group, Suffixes, no_suffixes, then_suffix, Suffix, unsized, sized, function, unprototyped, ParameterTypes, parameter_types, Parameters, no_parameters, then_parameter, Parameter, parameter, Pointers, no_pointers, then_pointer}
use Rattle.hv_ctree.specs.tree.Statements.{Designation, no_designation, of_index, of_member, Initializer, value, braced, Initializers, no_initializers, then_initializer, InitDeclarator, bare, initialized, InitDeclarators, no_init_declarators, then_init_declarator, Declaration, declaration, Stmt, case_of, default_of, compound as block, expression, if_only, if_else, switch, while_do, do_while, for_expressions, for_declaration, continue_loop, break_out, return_with, Items, no_items, then_item, Item, declares, does, FunctionDefinition, function_definition, External, defines, declares_outside, empty}
use Rattle.hv_grammar.specs.Symbols.{Symbol, keyword, name, sign, left_paren, right_paren, left_bracket, right_bracket, left_brace, right_brace, comma_sign, colon, semicolon, equal_sign, binary_sign, unary_sign, assignment_sign, selector_sign, step_sign, compound_word}
use Rattle.hv_grammar.specs.Tokens.{qualifiers_tokens, pointers_tokens, tag_tokens, last_comma, last_ellipsis, tokens_of, arguments_tokens, type_name_tokens, specifiers_tokens, specifier_tokens, type_tokens, compound_tokens, members_tokens, member_tokens, declarators_tokens, declarator_tokens, enumeration_tokens, enumerators_tokens, enumerator_tokens, may_declarator_tokens, core_tokens, suffixes_tokens, suffix_tokens, parameter_types_tokens, parameters_tokens, parameter_tokens, designation_tokens, initializer_tokens, initializers_tokens, init_declarator_tokens, init_declarators_tokens, declaration_tokens, option_tokens}
use Rattle.hv_print.specs.ProgramTokens.{statement_tokens, items_tokens, item_tokens, function_tokens, external_tokens, externals_tokens}
use Rattle.hv_readback.specs.Laws.{SameProgramsHaveSameTokens}
use Rattle.hv_readback.specs.Places.{unplaced_pointers, unplaced_tag, unplaced_expression, unplaced_arguments, unplaced_type_name, unplaced_specifiers, unplaced_specifier, unplaced_type, unplaced_compound, unplaced_members, unplaced_member, unplaced_declarators, unplaced_enumeration, unplaced_enumerators, unplaced_enumerator, unplaced_declarator, unplaced_may_declarator, unplaced_core, unplaced_suffixes, unplaced_suffix, unplaced_parameter_types, unplaced_parameters, unplaced_parameter, unplaced_designation, unplaced_initializer, unplaced_initializers, unplaced_init_declarator, unplaced_init_declarators, unplaced_declaration, unplaced_option, unplaced_statement, unplaced_items, unplaced_item, unplaced_function, unplaced_external, unplaced_externals}
use Rattle.hv_readback.proofs.Placing.{two}

-- tokens between which others stand
between : (middle : Symbol) {a b c d : List Symbol} → a ≡ c → b ≡ d
    → a ++ middle ∷ b ≡ c ++ middle ∷ d
between middle e g = two (λ x y. x ++ middle ∷ y) e g

-- tokens after which others stand
before : (rest : List Symbol) {a b : List Symbol} → a ≡ b → a ++ rest ≡ b ++ rest
before rest e = ap (λ x. x ++ rest) e

-- tokens one after another
beside : {a b c d : List Symbol} → a ≡ c → b ≡ d → a ++ b ≡ c ++ d
beside e g = two (λ x y. x ++ y) e g

-- tokens with one before them
from : (first : Symbol) {a b : List Symbol} → a ≡ b → first ∷ a ≡ first ∷ b
from first e = ap (λ x. first ∷ x) e

pointers_kept : (ps : Pointers) → pointers_tokens (unplaced_pointers ps) ≡ pointers_tokens ps
pointers_kept no_pointers = refl
pointers_kept (then_pointer ps p qs) =
    before (sign puncts.Star ∷ qualifiers_tokens qs) (pointers_kept ps)

tag_kept : (t : MayTag) → tag_tokens (unplaced_tag t) ≡ tag_tokens t
tag_kept no_tag = refl
tag_kept (tag p n) = refl

------ expressions, specifiers and declarators

mutual
  expression_kept : (a : Expr) → tokens_of (unplaced_expression a) ≡ tokens_of a
  expression_kept (identifier p n) = refl
  expression_kept (constant p v) = refl
  expression_kept (string p b) = refl
  expression_kept (parenthesized p a) =
      from left_paren (before (right_paren ∷ []) (expression_kept a))
  expression_kept (subscript p a b) =
      between left_bracket (expression_kept a) (before (right_bracket ∷ []) (expression_kept b))
  expression_kept (call p a xs) =
      between left_paren (expression_kept a) (before (right_paren ∷ []) (arguments_kept xs))
  expression_kept (member p s a n) = before (selector_sign s ∷ name n ∷ []) (expression_kept a)
  expression_kept (postfix p s a) = before (step_sign s ∷ []) (expression_kept a)
  expression_kept (prefix p s a) = from (step_sign s) (expression_kept a)
  expression_kept (unary p op a) = from (unary_sign op) (expression_kept a)
  expression_kept (sizeof_expr p a) = from (keyword keywords.Sizeof) (expression_kept a)
  expression_kept (sizeof_type p t) =
      from (keyword keywords.Sizeof)
      (from left_paren (before (right_paren ∷ []) (type_name_kept t)))
  expression_kept (cast p t a) =
      from left_paren (between right_paren (type_name_kept t) (expression_kept a))
  expression_kept (binary p op a b) =
      between (binary_sign op) (expression_kept a) (expression_kept b)
  expression_kept (conditional p a b c) =
      between (sign puncts.Question) (expression_kept a)
      (between colon (expression_kept b) (expression_kept c))
  expression_kept (assign p op a b) =
      between (assignment_sign op) (expression_kept a) (expression_kept b)
  expression_kept (comma p a b) = between comma_sign (expression_kept a) (expression_kept b)

  arguments_kept : (xs : Arguments) → arguments_tokens (unplaced_arguments xs) ≡ arguments_tokens xs
  arguments_kept no_arguments = refl
  arguments_kept (then_argument no_arguments a) = expression_kept a
  arguments_kept (then_argument (then_argument xs b) a) =
      between comma_sign (arguments_kept (then_argument xs b)) (expression_kept a)

  type_name_kept : (t : TypeName) → type_name_tokens (unplaced_type_name t) ≡ type_name_tokens t
  type_name_kept (type_name p xs m) = beside (specifiers_kept xs) (may_declarator_kept m)

  specifiers_kept : (xs : Specifiers)
      → specifiers_tokens (unplaced_specifiers xs) ≡ specifiers_tokens xs
  specifiers_kept no_specifiers = refl
  specifiers_kept (then_specifier xs x) = beside (specifiers_kept xs) (specifier_kept x)

  specifier_kept : (x : Specifier) → specifier_tokens (unplaced_specifier x) ≡ specifier_tokens x
  specifier_kept (storage p c) = refl
  specifier_kept (of_type p t) = type_kept t
  specifier_kept (qualifier p q) = refl
  specifier_kept (inline p) = refl

  type_kept : (t : TypeSpecifier) → type_tokens (unplaced_type t) ≡ type_tokens t
  type_kept (word p w) = refl
  type_kept (compound p c) = compound_kept c
  type_kept (enumeration p e) = enumeration_kept e
  type_kept (typedef_name p n) = refl

  compound_kept : (c : CompoundSpecifier)
      → compound_tokens (unplaced_compound c) ≡ compound_tokens c
  compound_kept (defined p k t ms) =
      from (compound_word k)
      (between left_brace (tag_kept t) (before (right_brace ∷ []) (members_kept ms)))
  compound_kept (mentioned p k q n) = refl

  members_kept : (ms : Members) → members_tokens (unplaced_members ms) ≡ members_tokens ms
  members_kept no_members = refl
  members_kept (then_member ms m) = beside (members_kept ms) (member_kept m)

  member_kept : (m : MemberDeclaration) → member_tokens (unplaced_member m) ≡ member_tokens m
  member_kept (members_of p xs ds) =
      beside (specifiers_kept xs) (before (semicolon ∷ []) (declarators_kept ds))

  declarators_kept : (ds : Declarators)
      → declarators_tokens (unplaced_declarators ds) ≡ declarators_tokens ds
  declarators_kept no_declarators = refl
  declarators_kept (then_declarator no_declarators x) = declarator_kept x
  declarators_kept (then_declarator (then_declarator ds y) x) =
      between comma_sign (declarators_kept (then_declarator ds y)) (declarator_kept x)

  enumeration_kept : (e : EnumSpecifier)
      → enumeration_tokens (unplaced_enumeration e) ≡ enumeration_tokens e
  enumeration_kept (listed p t es b) =
      from (keyword keywords.Enum)
      (between left_brace (tag_kept t)
      (before (last_comma b ++ right_brace ∷ []) (enumerators_kept es)))
  enumeration_kept (listed_before p q n) = refl

  enumerators_kept : (es : Enumerators)
      → enumerators_tokens (unplaced_enumerators es) ≡ enumerators_tokens es
  enumerators_kept no_enumerators = refl
  enumerators_kept (then_enumerator no_enumerators e) = enumerator_kept e
  enumerators_kept (then_enumerator (then_enumerator es f) e) =
      between comma_sign (enumerators_kept (then_enumerator es f)) (enumerator_kept e)

  enumerator_kept : (e : Enumerator)
      → enumerator_tokens (unplaced_enumerator e) ≡ enumerator_tokens e
  enumerator_kept (plain p n) = refl
  enumerator_kept (valued p n a) = from (name n) (from equal_sign (expression_kept a))

  declarator_kept : (x : Declarator)
      → declarator_tokens (unplaced_declarator x) ≡ declarator_tokens x
  declarator_kept (declarator p ps c ss) =
      beside (pointers_kept ps) (beside (core_kept c) (suffixes_kept ss))

  may_declarator_kept : (m : MayDeclarator)
      → may_declarator_tokens (unplaced_may_declarator m) ≡ may_declarator_tokens m
  may_declarator_kept no_declarator = refl
  may_declarator_kept (some_declarator x) = declarator_kept x

  core_kept : (c : Core) → core_tokens (unplaced_core c) ≡ core_tokens c
  core_kept nothing = refl
  core_kept (named p n) = refl
  core_kept (group p x) = from left_paren (before (right_paren ∷ []) (declarator_kept x))

  suffixes_kept : (ss : Suffixes) → suffixes_tokens (unplaced_suffixes ss) ≡ suffixes_tokens ss
  suffixes_kept no_suffixes = refl
  suffixes_kept (then_suffix ss s) = beside (suffixes_kept ss) (suffix_kept s)

  suffix_kept : (s : Suffix) → suffix_tokens (unplaced_suffix s) ≡ suffix_tokens s
  suffix_kept (unsized p qs) = refl
  suffix_kept (sized p qs a) =
      from left_bracket
      (ap (λ x. qualifiers_tokens qs ++ x) (before (right_bracket ∷ []) (expression_kept a)))
  suffix_kept (function p ps) =
      from left_paren (before (right_paren ∷ []) (parameter_types_kept ps))
  suffix_kept (unprototyped p) = refl

  parameter_types_kept : (ps : ParameterTypes)
      → parameter_types_tokens (unplaced_parameter_types ps) ≡ parameter_types_tokens ps
  parameter_types_kept (parameter_types p ps b) = before (last_ellipsis b) (parameters_kept ps)

  parameters_kept : (ps : Parameters)
      → parameters_tokens (unplaced_parameters ps) ≡ parameters_tokens ps
  parameters_kept no_parameters = refl
  parameters_kept (then_parameter no_parameters x) = parameter_kept x
  parameters_kept (then_parameter (then_parameter ps y) x) =
      between comma_sign (parameters_kept (then_parameter ps y)) (parameter_kept x)

  parameter_kept : (x : Parameter) → parameter_tokens (unplaced_parameter x) ≡ parameter_tokens x
  parameter_kept (parameter p xs m) = beside (specifiers_kept xs) (may_declarator_kept m)

------ declarations

designation_kept : (g : Designation)
    → designation_tokens (unplaced_designation g) ≡ designation_tokens g
designation_kept no_designation = refl
designation_kept (of_index p a) =
    from left_bracket (before (right_bracket ∷ equal_sign ∷ []) (expression_kept a))
designation_kept (of_member p n) = refl

mutual
  initializer_kept : (x : Initializer)
      → initializer_tokens (unplaced_initializer x) ≡ initializer_tokens x
  initializer_kept (value p a) = expression_kept a
  initializer_kept (braced p xs b) =
      from left_brace (before (last_comma b ++ right_brace ∷ []) (initializers_kept xs))

  initializers_kept : (xs : Initializers)
      → initializers_tokens (unplaced_initializers xs) ≡ initializers_tokens xs
  initializers_kept no_initializers = refl
  initializers_kept (then_initializer no_initializers p g x) =
      beside (designation_kept g) (initializer_kept x)
  initializers_kept (then_initializer (then_initializer xs q h y) p g x) =
      between comma_sign (initializers_kept (then_initializer xs q h y))
      (beside (designation_kept g) (initializer_kept x))

init_declarator_kept : (x : InitDeclarator)
    → init_declarator_tokens (unplaced_init_declarator x) ≡ init_declarator_tokens x
init_declarator_kept (bare p x) = declarator_kept x
init_declarator_kept (initialized p x i) =
    between equal_sign (declarator_kept x) (initializer_kept i)

init_declarators_kept : (ds : InitDeclarators)
    → init_declarators_tokens (unplaced_init_declarators ds) ≡ init_declarators_tokens ds
init_declarators_kept no_init_declarators = refl
init_declarators_kept (then_init_declarator no_init_declarators x) = init_declarator_kept x
init_declarators_kept (then_init_declarator (then_init_declarator ds y) x) =
    between comma_sign (init_declarators_kept (then_init_declarator ds y)) (init_declarator_kept x)

declaration_kept : (g : Declaration)
    → declaration_tokens (unplaced_declaration g) ≡ declaration_tokens g
declaration_kept (declaration p xs ds) =
    beside (specifiers_kept xs) (before (semicolon ∷ []) (init_declarators_kept ds))

option_kept : (a : Option Expr) → option_tokens (unplaced_option a) ≡ option_tokens a
option_kept None = refl
option_kept (Some a) = expression_kept a

------ statements

mutual
  statement_kept : (s : Stmt) → statement_tokens (unplaced_statement s) ≡ statement_tokens s
  statement_kept (case_of p a s) =
      from (keyword keywords.Case) (between colon (expression_kept a) (statement_kept s))
  statement_kept (default_of p s) =
      from (keyword keywords.Default) (from colon (statement_kept s))
  statement_kept (block p xs) = from left_brace (before (right_brace ∷ []) (items_kept xs))
  statement_kept (expression p a) = before (semicolon ∷ []) (option_kept a)
  statement_kept (if_only p a s) =
      from (keyword keywords.If)
      (from left_paren (between right_paren (expression_kept a) (statement_kept s)))
  statement_kept (if_else p a s t) =
      from (keyword keywords.If)
      (from left_paren (between right_paren (expression_kept a)
      (between (keyword keywords.Else) (statement_kept s) (statement_kept t))))
  statement_kept (switch p a s) =
      from (keyword keywords.Switch)
      (from left_paren (between right_paren (expression_kept a) (statement_kept s)))
  statement_kept (while_do p a s) =
      from (keyword keywords.While)
      (from left_paren (between right_paren (expression_kept a) (statement_kept s)))
  statement_kept (do_while p s a) =
      from (keyword keywords.Do)
      (between (keyword keywords.While) (statement_kept s)
      (from left_paren (before (right_paren ∷ semicolon ∷ []) (expression_kept a))))
  statement_kept (for_expressions p a b c s) =
      from (keyword keywords.For)
      (from left_paren (between semicolon (option_kept a)
      (between semicolon (option_kept b)
      (between right_paren (option_kept c) (statement_kept s)))))
  statement_kept (for_declaration p g b c s) =
      from (keyword keywords.For)
      (from left_paren (beside (declaration_kept g)
      (between semicolon (option_kept b)
      (between right_paren (option_kept c) (statement_kept s)))))
  statement_kept (continue_loop p) = refl
  statement_kept (break_out p) = refl
  statement_kept (return_with p a) =
      from (keyword keywords.Return) (before (semicolon ∷ []) (option_kept a))

  items_kept : (xs : Items) → items_tokens (unplaced_items xs) ≡ items_tokens xs
  items_kept no_items = refl
  items_kept (then_item xs x) = beside (items_kept xs) (item_kept x)

  item_kept : (x : Item) → item_tokens (unplaced_item x) ≡ item_tokens x
  item_kept (declares p g) = declaration_kept g
  item_kept (does p s) = statement_kept s

------ programs

function_kept : (f : FunctionDefinition) → function_tokens (unplaced_function f) ≡ function_tokens f
function_kept (function_definition p xs x body) =
    beside (specifiers_kept xs) (beside (declarator_kept x) (statement_kept body))

external_kept : (x : External) → external_tokens (unplaced_external x) ≡ external_tokens x
external_kept (defines p f) = function_kept f
external_kept (declares_outside p g) = declaration_kept g
external_kept (empty p) = refl

externals_kept : (xs : List External)
    → externals_tokens (unplaced_externals xs) ≡ externals_tokens xs
externals_kept [] = refl
externals_kept (x ∷ xs) = beside (external_kept x) (externals_kept xs)

pub same_programs_have_same_tokens : SameProgramsHaveSameTokens
same_programs_have_same_tokens a b e =
    sym (externals_kept a.externals)
    ∙ ap (λ xs. externals_tokens xs) (ap (λ x. x.externals) e)
    ∙ externals_kept b.externals
