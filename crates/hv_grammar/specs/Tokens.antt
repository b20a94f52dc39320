-- The tokens of a tree, by their values and with the marks of typedef names: what a printer writes,
-- and what two elements are compared by. Those of an element with holes are its own tokens.
use Rattle.std.specs.Prelude.{Bool, true, false, List, [], ◌∷◌, ◌++◌, Option, Some, None}
use Rattle.hv_base.specs.declared.keyword.Keyword.TheVariants as keywords
use Rattle.hv_base.specs.declared.punct.Punct.TheVariants as puncts
use Rattle.hv_ctree.specs.tree.Expressions.{Expr, identifier, constant, string, parenthesized, subscript, call, member, postfix, prefix, unary, sizeof_expr, sizeof_type, cast, binary, conditional, assign, comma, Arguments, no_arguments, then_argument, TypeName, type_name, Specifiers, no_specifiers, then_specifier, Specifier, storage, of_type, qualifier, inline, TypeSpecifier, word, compound, enumeration, typedef_name, CompoundSpecifier, defined, mentioned, MayTag, no_tag, tag, Members, no_members, then_member, MemberDeclaration, members_of, Declarators, no_declarators, then_declarator, EnumSpecifier, listed, listed_before, Enumerators, no_enumerators, then_enumerator, Enumerator, plain, valued, Declarator, declarator, MayDeclarator, no_declarator, some_declarator, Core, nothing, named, group, Suffixes, no_suffixes, then_suffix, Suffix, unsized, sized, function, unprototyped, ParameterTypes, parameter_types, Parameters, no_parameters, then_parameter, Parameter, parameter, Pointers, no_pointers, then_pointer, Qualifiers, no_qualifiers, then_qualifier}
use Rattle.hv_ctree.specs.tree.Statements.{Designation, no_designation, of_index, of_member, Initializer, value, braced, Initializers, no_initializers, then_initializer, InitDeclarator, bare, initialized, InitDeclarators, no_init_declarators, then_init_declarator, Declaration, declaration, Skeleton, hollow_empty, hollow_declaration, hollow_function, hollow_case, hollow_default, hollow_compound, hollow_expression, hollow_if, hollow_if_else, hollow_switch, hollow_while, hollow_do_while, hollow_for, hollow_for_declaration, hollow_continue, hollow_break, hollow_return}
use Rattle.hv_grammar.specs.Symbols.{Symbol, keyword, name, marked, number, text, sign, hole, left_paren, right_paren, left_bracket, right_bracket, left_brace, right_brace, comma_sign, colon, semicolon, equal_sign, binary_sign, unary_sign, assignment_sign, selector_sign, step_sign, storage_word, qualifier_word, compound_word, type_word}

-- qualifiers
abbrev pub qualifiers_tokens : Qualifiers → List Symbol
qualifiers_tokens no_qualifiers = []
qualifiers_tokens (then_qualifier qs q) = qualifiers_tokens qs ++ qualifier_word q ∷ []

-- `*`s with their qualifiers
abbrev pub pointers_tokens : Pointers → List Symbol
pointers_tokens no_pointers = []
pointers_tokens (then_pointer ps p qs) =
    pointers_tokens ps ++ sign puncts.Star ∷ qualifiers_tokens qs

-- a tag, or none
abbrev pub tag_tokens : MayTag → List Symbol
tag_tokens no_tag = []
tag_tokens (tag p n) = name n ∷ []

-- a comma before a `}`, or none
abbrev pub last_comma : Bool → List Symbol
last_comma false = []
last_comma true = comma_sign ∷ []

-- `, ...` at the end of parameters, or nothing
abbrev pub last_ellipsis : Bool → List Symbol
last_ellipsis false = []
last_ellipsis true = comma_sign ∷ sign puncts.Ellipsis ∷ []

-- the tokens of expressions, specifiers and declarators (Annex A.2.1, A.2.2)
abbrev mutual
  -- an expression
  pub tokens_of : Expr → List Symbol
  tokens_of (identifier p n) = name n ∷ []
  tokens_of (constant p v) = number v ∷ []
  tokens_of (string p b) = text b ∷ []
  tokens_of (parenthesized p a) = left_paren ∷ (tokens_of a ++ right_paren ∷ [])
  tokens_of (subscript p a b) = tokens_of a ++ left_bracket ∷ (tokens_of b ++ right_bracket ∷ [])
  tokens_of (call p a xs) = tokens_of a ++ left_paren ∷ (arguments_tokens xs ++ right_paren ∷ [])
  tokens_of (member p s a n) = tokens_of a ++ selector_sign s ∷ name n ∷ []
  tokens_of (postfix p s a) = tokens_of a ++ step_sign s ∷ []
  tokens_of (prefix p s a) = step_sign s ∷ tokens_of a
  tokens_of (unary p op a) = unary_sign op ∷ tokens_of a
  tokens_of (sizeof_expr p a) = keyword keywords.Sizeof ∷ tokens_of a
  tokens_of (sizeof_type p t) =
      keyword keywords.Sizeof ∷ left_paren ∷ (type_name_tokens t ++ right_paren ∷ [])
  tokens_of (cast p t a) = left_paren ∷ (type_name_tokens t ++ right_paren ∷ tokens_of a)
  tokens_of (binary p op a b) = tokens_of a ++ binary_sign op ∷ tokens_of b
  tokens_of (conditional p a b c) =
      tokens_of a ++ sign puncts.Question ∷ (tokens_of b ++ colon ∷ tokens_of c)
  tokens_of (assign p op a b) = tokens_of a ++ assignment_sign op ∷ tokens_of b
  tokens_of (comma p a b) = tokens_of a ++ comma_sign ∷ tokens_of b

  -- arguments with commas between them
  pub arguments_tokens : Arguments → List Symbol
  arguments_tokens no_arguments = []
  arguments_tokens (then_argument no_arguments a) = tokens_of a
  arguments_tokens (then_argument (then_argument xs b) a) =
      arguments_tokens (then_argument xs b) ++ comma_sign ∷ tokens_of a

  -- a type name
  pub type_name_tokens : TypeName → List Symbol
  type_name_tokens (type_name p xs m) = specifiers_tokens xs ++ may_declarator_tokens m

  -- specifiers
  pub specifiers_tokens : Specifiers → List Symbol
  specifiers_tokens no_specifiers = []
  specifiers_tokens (then_specifier xs x) = specifiers_tokens xs ++ specifier_tokens x

  -- a specifier
  pub specifier_tokens : Specifier → List Symbol
  specifier_tokens (storage p c) = storage_word c ∷ []
  specifier_tokens (of_type p t) = type_tokens t
  specifier_tokens (qualifier p q) = qualifier_word q ∷ []
  specifier_tokens (inline p) = keyword keywords.Inline ∷ []

  -- a type specifier
  pub type_tokens : TypeSpecifier → List Symbol
  type_tokens (word p w) = type_word w ∷ []
  type_tokens (compound p c) = compound_tokens c
  type_tokens (enumeration p e) = enumeration_tokens e
  type_tokens (typedef_name p n) = marked n ∷ []

  -- a structure or union
  pub compound_tokens : CompoundSpecifier → List Symbol
  compound_tokens (defined p k t ms) =
      compound_word k ∷ (tag_tokens t ++ left_brace ∷ (members_tokens ms ++ right_brace ∷ []))
  compound_tokens (mentioned p k q n) = compound_word k ∷ name n ∷ []

  -- member declarations
  pub members_tokens : Members → List Symbol
  members_tokens no_members = []
  members_tokens (then_member ms m) = members_tokens ms ++ member_tokens m

  -- members of one declaration
  pub member_tokens : MemberDeclaration → List Symbol
  member_tokens (members_of p xs ds) =
      specifiers_tokens xs ++ (declarators_tokens ds ++ semicolon ∷ [])

  -- declarators with commas between them
  pub declarators_tokens : Declarators → List Symbol
  declarators_tokens no_declarators = []
  declarators_tokens (then_declarator no_declarators x) = declarator_tokens x
  declarators_tokens (then_declarator (then_declarator xs y) x) =
      declarators_tokens (then_declarator xs y) ++ comma_sign ∷ declarator_tokens x

  -- an enumeration
  pub enumeration_tokens : EnumSpecifier → List Symbol
  enumeration_tokens (listed p t es b) =
      keyword keywords.Enum ∷ (tag_tokens t ++ left_brace
      ∷ (enumerators_tokens es ++ (last_comma b ++ right_brace ∷ [])))
  enumeration_tokens (listed_before p q n) = keyword keywords.Enum ∷ name n ∷ []

  -- enumeration constants with commas between them
  pub enumerators_tokens : Enumerators → List Symbol
  enumerators_tokens no_enumerators = []
  enumerators_tokens (then_enumerator no_enumerators e) = enumerator_tokens e
  enumerators_tokens (then_enumerator (then_enumerator es f) e) =
      enumerators_tokens (then_enumerator es f) ++ comma_sign ∷ enumerator_tokens e

  -- an enumeration constant
  pub enumerator_tokens : Enumerator → List Symbol
  enumerator_tokens (plain p n) = name n ∷ []
  enumerator_tokens (valued p n a) = name n ∷ equal_sign ∷ tokens_of a

  -- a declarator
  pub declarator_tokens : Declarator → List Symbol
  declarator_tokens (declarator p ps c ss) =
      pointers_tokens ps ++ (core_tokens c ++ suffixes_tokens ss)

  -- a declarator, or none
  pub may_declarator_tokens : MayDeclarator → List Symbol
  may_declarator_tokens no_declarator = []
  may_declarator_tokens (some_declarator x) = declarator_tokens x

  -- the middle of a declarator
  pub core_tokens : Core → List Symbol
  core_tokens nothing = []
  core_tokens (named p n) = name n ∷ []
  core_tokens (group p x) = left_paren ∷ (declarator_tokens x ++ right_paren ∷ [])

  -- what stands after the middle
  pub suffixes_tokens : Suffixes → List Symbol
  suffixes_tokens no_suffixes = []
  suffixes_tokens (then_suffix ss s) = suffixes_tokens ss ++ suffix_tokens s

  -- a suffix
  pub suffix_tokens : Suffix → List Symbol
  suffix_tokens (unsized p qs) = left_bracket ∷ (qualifiers_tokens qs ++ right_bracket ∷ [])
  suffix_tokens (sized p qs a) =
      left_bracket ∷ (qualifiers_tokens qs ++ (tokens_of a ++ right_bracket ∷ []))
  suffix_tokens (function p ps) = left_paren ∷ (parameter_types_tokens ps ++ right_paren ∷ [])
  suffix_tokens (unprototyped p) = left_paren ∷ right_paren ∷ []

  -- the parameters of a function
  pub parameter_types_tokens : ParameterTypes → List Symbol
  parameter_types_tokens (parameter_types p ps b) = parameters_tokens ps ++ last_ellipsis b

  -- parameters with commas between them
  pub parameters_tokens : Parameters → List Symbol
  parameters_tokens no_parameters = []
  parameters_tokens (then_parameter no_parameters x) = parameter_tokens x
  parameters_tokens (then_parameter (then_parameter ps y) x) =
      parameters_tokens (then_parameter ps y) ++ comma_sign ∷ parameter_tokens x

  -- a parameter
  pub parameter_tokens : Parameter → List Symbol
  parameter_tokens (parameter p xs m) = specifiers_tokens xs ++ may_declarator_tokens m

-- what an initialiser is for
abbrev pub designation_tokens : Designation → List Symbol
designation_tokens no_designation = []
designation_tokens (of_index p a) = left_bracket ∷ (tokens_of a ++ right_bracket ∷ equal_sign ∷ [])
designation_tokens (of_member p n) = sign puncts.Dot ∷ name n ∷ equal_sign ∷ []

-- the tokens of initialisers (6.7.8)
abbrev mutual
  -- an initialiser
  pub initializer_tokens : Initializer → List Symbol
  initializer_tokens (value p a) = tokens_of a
  initializer_tokens (braced p xs b) =
      left_brace ∷ (initializers_tokens xs ++ (last_comma b ++ right_brace ∷ []))

  -- initialisers with commas between them
  pub initializers_tokens : Initializers → List Symbol
  initializers_tokens no_initializers = []
  initializers_tokens (then_initializer no_initializers p g x) =
      designation_tokens g ++ initializer_tokens x
  initializers_tokens (then_initializer (then_initializer xs q h y) p g x) =
      initializers_tokens (then_initializer xs q h y) ++ comma_sign
      ∷ (designation_tokens g ++ initializer_tokens x)

-- a declarator with its initialiser
abbrev pub init_declarator_tokens : InitDeclarator → List Symbol
init_declarator_tokens (bare p x) = declarator_tokens x
init_declarator_tokens (initialized p x i) =
    declarator_tokens x ++ equal_sign ∷ initializer_tokens i

-- the same with commas between them
abbrev pub init_declarators_tokens : InitDeclarators → List Symbol
init_declarators_tokens no_init_declarators = []
init_declarators_tokens (then_init_declarator no_init_declarators x) = init_declarator_tokens x
init_declarators_tokens (then_init_declarator (then_init_declarator xs y) x) =
    init_declarators_tokens (then_init_declarator xs y) ++ comma_sign ∷ init_declarator_tokens x

-- a declaration with its `;`
abbrev pub declaration_tokens : Declaration → List Symbol
declaration_tokens (declaration p xs ds) =
    specifiers_tokens xs ++ (init_declarators_tokens ds ++ semicolon ∷ [])

-- an expression, or none
abbrev pub option_tokens : Option Expr → List Symbol
option_tokens None = []
option_tokens (Some a) = tokens_of a

-- an element's own tokens, with its holes
abbrev pub own_tokens : Skeleton → List Symbol
own_tokens (hollow_empty p) = semicolon ∷ []
own_tokens (hollow_declaration p g) = declaration_tokens g
own_tokens (hollow_function p xs x q h) =
    specifiers_tokens xs ++ (declarator_tokens x ++ left_brace ∷ hole ∷ right_brace ∷ [])
own_tokens (hollow_case p a h) = keyword keywords.Case ∷ (tokens_of a ++ colon ∷ hole ∷ [])
own_tokens (hollow_default p h) = keyword keywords.Default ∷ colon ∷ hole ∷ []
own_tokens (hollow_compound p h) = left_brace ∷ hole ∷ right_brace ∷ []
own_tokens (hollow_expression p a) = option_tokens a ++ semicolon ∷ []
own_tokens (hollow_if p a h) =
    keyword keywords.If ∷ left_paren ∷ (tokens_of a ++ right_paren ∷ hole ∷ [])
own_tokens (hollow_if_else p a h i) =
    keyword keywords.If ∷ left_paren ∷ (tokens_of a ++ right_paren ∷ hole ∷ keyword keywords.Else
    ∷ hole ∷ [])
own_tokens (hollow_switch p a h) =
    keyword keywords.Switch ∷ left_paren ∷ (tokens_of a ++ right_paren ∷ hole ∷ [])
own_tokens (hollow_while p a h) =
    keyword keywords.While ∷ left_paren ∷ (tokens_of a ++ right_paren ∷ hole ∷ [])
own_tokens (hollow_do_while p h a) =
    keyword keywords.Do ∷ hole ∷ keyword keywords.While ∷ left_paren
    ∷ (tokens_of a ++ right_paren ∷ semicolon ∷ [])
own_tokens (hollow_for p a b c h) =
    keyword keywords.For ∷ left_paren ∷ (option_tokens a ++ semicolon
    ∷ (option_tokens b ++ semicolon ∷ (option_tokens c ++ right_paren ∷ hole ∷ [])))
own_tokens (hollow_for_declaration p g b c h) =
    keyword keywords.For ∷ left_paren ∷ (declaration_tokens g
    ++ (option_tokens b ++ semicolon ∷ (option_tokens c ++ right_paren ∷ hole ∷ [])))
own_tokens (hollow_continue p) = keyword keywords.Continue ∷ semicolon ∷ []
own_tokens (hollow_break p) = keyword keywords.Break ∷ semicolon ∷ []
own_tokens (hollow_return p a) = keyword keywords.Return ∷ (option_tokens a ++ semicolon ∷ [])
