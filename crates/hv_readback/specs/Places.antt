-- A program without its places: the same tree with each place set to one and the same, so that what
-- is left is what the tokens are, and how they belong together. One function for each part of a
-- tree (Annex A.2), each of which changes places alone.
use Rattle.std.specs.Prelude.{◌≡◌, List, [], ◌∷◌, Option, Some, None}
use Rattle.hv_base.specs.declared.place.Place.{Place}
use Rattle.hv_ctree.specs.tree.Expressions.{Expr, identifier, constant, string, parenthesized, subscript, call, member, postfix, prefix, unary, sizeof_expr, sizeof_type, cast, binary, conditional, assign, comma, Arguments, no_arguments, then_argument, TypeName, type_name, Specifiers, no_specifiers, then_specifier, Specifier, storage, of_type, qualifier, inline, TypeSpecifier, word, compound, enumeration, typedef_name, CompoundSpecifier, defined, mentioned, MayTag, no_tag, tag, Members, no_members, then_member, MemberDeclaration, members_of, Declarators, no_declarators, then_declarator, EnumSpecifier, listed, listed_before, Enumerators, no_enumerators, then_enumerator, Enumerator, plain, valued, Declarator, declarator, MayDeclarator, no_declarator, some_declarator, Core, nothing, named, group, Suffixes, no_suffixes, then_suffix, Suffix, unsized, sized, function, unprototyped, ParameterTypes, parameter_types, Parameters, no_parameters, then_parameter, Parameter, parameter, Pointers, no_pointers, then_pointer}
use Rattle.hv_ctree.specs.tree.Statements.{Designation, no_designation, of_index, of_member, Initializer, value, braced, Initializers, no_initializers, then_initializer, InitDeclarator, bare, initialized, InitDeclarators, no_init_declarators, then_init_declarator, Declaration, declaration, Stmt, case_of, default_of, compound as block, expression, if_only, if_else, switch, while_do, do_while, for_expressions, for_declaration, continue_loop, break_out, return_with, Items, no_items, then_item, Item, declares, does, FunctionDefinition, function_definition, External, defines, declares_outside, empty, Program}

-- the place that stands for every other one
abbrev pub nowhere : Place
nowhere = record { stack = []; file = 0; offset = 0 }

-- `*`s
abbrev pub unplaced_pointers : Pointers → Pointers
unplaced_pointers no_pointers = no_pointers
unplaced_pointers (then_pointer ps p qs) = then_pointer (unplaced_pointers ps) nowhere qs

-- a tag, or none
abbrev pub unplaced_tag : MayTag → MayTag
unplaced_tag no_tag = no_tag
unplaced_tag (tag p n) = tag nowhere n

-- expressions, type names, specifiers and declarators without their places
abbrev mutual
  -- an expression
  pub unplaced_expression : Expr → Expr
  unplaced_expression (identifier p n) = identifier nowhere n
  unplaced_expression (constant p v) = constant nowhere v
  unplaced_expression (string p b) = string nowhere b
  unplaced_expression (parenthesized p a) = parenthesized nowhere (unplaced_expression a)
  unplaced_expression (subscript p a b) =
      subscript nowhere (unplaced_expression a) (unplaced_expression b)
  unplaced_expression (call p a xs) =
      call nowhere (unplaced_expression a) (unplaced_arguments xs)
  unplaced_expression (member p s a n) = member nowhere s (unplaced_expression a) n
  unplaced_expression (postfix p s a) = postfix nowhere s (unplaced_expression a)
  unplaced_expression (prefix p s a) = prefix nowhere s (unplaced_expression a)
  unplaced_expression (unary p op a) = unary nowhere op (unplaced_expression a)
  unplaced_expression (sizeof_expr p a) = sizeof_expr nowhere (unplaced_expression a)
  unplaced_expression (sizeof_type p t) = sizeof_type nowhere (unplaced_type_name t)
  unplaced_expression (cast p t a) = cast nowhere (unplaced_type_name t) (unplaced_expression a)
  unplaced_expression (binary p op a b) =
      binary nowhere op (unplaced_expression a) (unplaced_expression b)
  unplaced_expression (conditional p a b c) =
      conditional nowhere (unplaced_expression a) (unplaced_expression b) (unplaced_expression c)
  unplaced_expression (assign p op a b) =
      assign nowhere op (unplaced_expression a) (unplaced_expression b)
  unplaced_expression (comma p a b) = comma nowhere (unplaced_expression a) (unplaced_expression b)

  -- arguments
  pub unplaced_arguments : Arguments → Arguments
  unplaced_arguments no_arguments = no_arguments
  unplaced_arguments (then_argument xs a) =
      then_argument (unplaced_arguments xs) (unplaced_expression a)

  -- a type name
  pub unplaced_type_name : TypeName → TypeName
  unplaced_type_name (type_name p xs m) =
      type_name nowhere (unplaced_specifiers xs) (unplaced_may_declarator m)

  -- specifiers
  pub unplaced_specifiers : Specifiers → Specifiers
  unplaced_specifiers no_specifiers = no_specifiers
  unplaced_specifiers (then_specifier xs x) =
      then_specifier (unplaced_specifiers xs) (unplaced_specifier x)

  -- a specifier
  pub unplaced_specifier : Specifier → Specifier
  unplaced_specifier (storage p c) = storage nowhere c
  unplaced_specifier (of_type p t) = of_type nowhere (unplaced_type t)
  unplaced_specifier (qualifier p q) = qualifier nowhere q
  unplaced_specifier (inline p) = inline nowhere

  -- a type specifier
  pub unplaced_type : TypeSpecifier → TypeSpecifier
  unplaced_type (word p w) = word nowhere w
  unplaced_type (compound p c) = compound nowhere (unplaced_compound c)
  unplaced_type (enumeration p e) = enumeration nowhere (unplaced_enumeration e)
  unplaced_type (typedef_name p n) = typedef_name nowhere n

  -- a structure or union specifier
  pub unplaced_compound : CompoundSpecifier → CompoundSpecifier
  unplaced_compound (defined p k t ms) = defined nowhere k (unplaced_tag t) (unplaced_members ms)
  unplaced_compound (mentioned p k q n) = mentioned nowhere k nowhere n

  -- member declarations
  pub unplaced_members : Members → Members
  unplaced_members no_members = no_members
  unplaced_members (then_member ms m) = then_member (unplaced_members ms) (unplaced_member m)

  -- members of one declaration
  pub unplaced_member : MemberDeclaration → MemberDeclaration
  unplaced_member (members_of p xs ds) =
      members_of nowhere (unplaced_specifiers xs) (unplaced_declarators ds)

  -- the declarators of members
  pub unplaced_declarators : Declarators → Declarators
  unplaced_declarators no_declarators = no_declarators
  unplaced_declarators (then_declarator ds x) =
      then_declarator (unplaced_declarators ds) (unplaced_declarator x)

  -- an enumeration specifier
  pub unplaced_enumeration : EnumSpecifier → EnumSpecifier
  unplaced_enumeration (listed p t es b) =
      listed nowhere (unplaced_tag t) (unplaced_enumerators es) b
  unplaced_enumeration (listed_before p q n) = listed_before nowhere nowhere n

  -- enumerators
  pub unplaced_enumerators : Enumerators → Enumerators
  unplaced_enumerators no_enumerators = no_enumerators
  unplaced_enumerators (then_enumerator es e) =
      then_enumerator (unplaced_enumerators es) (unplaced_enumerator e)

  -- an enumerator
  pub unplaced_enumerator : Enumerator → Enumerator
  unplaced_enumerator (plain p n) = plain nowhere n
  unplaced_enumerator (valued p n a) = valued nowhere n (unplaced_expression a)

  -- a declarator
  pub unplaced_declarator : Declarator → Declarator
  unplaced_declarator (declarator p ps c ss) =
      declarator nowhere (unplaced_pointers ps) (unplaced_core c) (unplaced_suffixes ss)

  -- a declarator, or none
  pub unplaced_may_declarator : MayDeclarator → MayDeclarator
  unplaced_may_declarator no_declarator = no_declarator
  unplaced_may_declarator (some_declarator x) = some_declarator (unplaced_declarator x)

  -- the middle of a declarator
  pub unplaced_core : Core → Core
  unplaced_core nothing = nothing
  unplaced_core (named p n) = named nowhere n
  unplaced_core (group p x) = group nowhere (unplaced_declarator x)

  -- what stands after the middle
  pub unplaced_suffixes : Suffixes → Suffixes
  unplaced_suffixes no_suffixes = no_suffixes
  unplaced_suffixes (then_suffix ss s) = then_suffix (unplaced_suffixes ss) (unplaced_suffix s)

  -- a suffix
  pub unplaced_suffix : Suffix → Suffix
  unplaced_suffix (unsized p qs) = unsized nowhere qs
  unplaced_suffix (sized p qs a) = sized nowhere qs (unplaced_expression a)
  unplaced_suffix (function p ps) = function nowhere (unplaced_parameter_types ps)
  unplaced_suffix (unprototyped p) = unprototyped nowhere

  -- parameters between parentheses
  pub unplaced_parameter_types : ParameterTypes → ParameterTypes
  unplaced_parameter_types (parameter_types p ps b) =
      parameter_types nowhere (unplaced_parameters ps) b

  -- parameters
  pub unplaced_parameters : Parameters → Parameters
  unplaced_parameters no_parameters = no_parameters
  unplaced_parameters (then_parameter ps x) =
      then_parameter (unplaced_parameters ps) (unplaced_parameter x)

  -- a parameter
  pub unplaced_parameter : Parameter → Parameter
  unplaced_parameter (parameter p xs m) =
      parameter nowhere (unplaced_specifiers xs) (unplaced_may_declarator m)

-- what an initialiser is for
abbrev pub unplaced_designation : Designation → Designation
unplaced_designation no_designation = no_designation
unplaced_designation (of_index p a) = of_index nowhere (unplaced_expression a)
unplaced_designation (of_member p n) = of_member nowhere n

-- initialisers without their places
abbrev mutual
  -- an initialiser
  pub unplaced_initializer : Initializer → Initializer
  unplaced_initializer (value p a) = value nowhere (unplaced_expression a)
  unplaced_initializer (braced p xs b) = braced nowhere (unplaced_initializers xs) b

  -- initialisers
  pub unplaced_initializers : Initializers → Initializers
  unplaced_initializers no_initializers = no_initializers
  unplaced_initializers (then_initializer xs p g x) =
      then_initializer (unplaced_initializers xs) nowhere (unplaced_designation g)
      (unplaced_initializer x)

-- a declarator with its initialiser
abbrev pub unplaced_init_declarator : InitDeclarator → InitDeclarator
unplaced_init_declarator (bare p x) = bare nowhere (unplaced_declarator x)
unplaced_init_declarator (initialized p x i) =
    initialized nowhere (unplaced_declarator x) (unplaced_initializer i)

-- declarators with their initialisers
abbrev pub unplaced_init_declarators : InitDeclarators → InitDeclarators
unplaced_init_declarators no_init_declarators = no_init_declarators
unplaced_init_declarators (then_init_declarator ds x) =
    then_init_declarator (unplaced_init_declarators ds) (unplaced_init_declarator x)

-- a declaration
abbrev pub unplaced_declaration : Declaration → Declaration
unplaced_declaration (declaration p xs ds) =
    declaration nowhere (unplaced_specifiers xs) (unplaced_init_declarators ds)

-- an expression, or none
abbrev pub unplaced_option : Option Expr → Option Expr
unplaced_option None = None
unplaced_option (Some a) = Some (unplaced_expression a)

-- statements without their places
abbrev mutual
  -- a statement
  pub unplaced_statement : Stmt → Stmt
  unplaced_statement (case_of p a s) =
      case_of nowhere (unplaced_expression a) (unplaced_statement s)
  unplaced_statement (default_of p s) = default_of nowhere (unplaced_statement s)
  unplaced_statement (block p xs) = block nowhere (unplaced_items xs)
  unplaced_statement (expression p a) = expression nowhere (unplaced_option a)
  unplaced_statement (if_only p a s) =
      if_only nowhere (unplaced_expression a) (unplaced_statement s)
  unplaced_statement (if_else p a s t) =
      if_else nowhere (unplaced_expression a) (unplaced_statement s) (unplaced_statement t)
  unplaced_statement (switch p a s) = switch nowhere (unplaced_expression a) (unplaced_statement s)
  unplaced_statement (while_do p a s) =
      while_do nowhere (unplaced_expression a) (unplaced_statement s)
  unplaced_statement (do_while p s a) =
      do_while nowhere (unplaced_statement s) (unplaced_expression a)
  unplaced_statement (for_expressions p a b c s) =
      for_expressions nowhere (unplaced_option a) (unplaced_option b) (unplaced_option c)
      (unplaced_statement s)
  unplaced_statement (for_declaration p g b c s) =
      for_declaration nowhere (unplaced_declaration g) (unplaced_option b) (unplaced_option c)
      (unplaced_statement s)
  unplaced_statement (continue_loop p) = continue_loop nowhere
  unplaced_statement (break_out p) = break_out nowhere
  unplaced_statement (return_with p a) = return_with nowhere (unplaced_option a)

  -- the items of a block
  pub unplaced_items : Items → Items
  unplaced_items no_items = no_items
  unplaced_items (then_item xs x) = then_item (unplaced_items xs) (unplaced_item x)

  -- a block item
  pub unplaced_item : Item → Item
  unplaced_item (declares p g) = declares nowhere (unplaced_declaration g)
  unplaced_item (does p s) = does nowhere (unplaced_statement s)

-- a function's definition
abbrev pub unplaced_function : FunctionDefinition → FunctionDefinition
unplaced_function (function_definition p xs x body) =
    function_definition nowhere (unplaced_specifiers xs) (unplaced_declarator x)
    (unplaced_statement body)

-- an external declaration
abbrev pub unplaced_external : External → External
unplaced_external (defines p f) = defines nowhere (unplaced_function f)
unplaced_external (declares_outside p g) = declares_outside nowhere (unplaced_declaration g)
unplaced_external (empty p) = empty nowhere

-- external declarations
abbrev pub unplaced_externals : List External → List External
unplaced_externals [] = []
unplaced_externals (x ∷ xs) = unplaced_external x ∷ unplaced_externals xs

-- a program
abbrev pub unplaced : Program → Program
unplaced program = record { externals = unplaced_externals program.externals }

-- two programs are the same up to places: without their places they are one
abbrev pub AreSameUpToPlaces : Program → Program → Type 0
AreSameUpToPlaces a b = unplaced a ≡ unplaced b
