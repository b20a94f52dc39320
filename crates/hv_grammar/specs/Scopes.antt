-- Which names are typedef names by a tree's own declarations (6.2.1, 6.7.7): whether each mark that
-- the tree has is the one that the declarations in scope give. A function here goes over a part of
-- a tree from the left with the names in scope, and answers the names in scope after it, or none
-- where a mark is wrong. A scope ends by going back to the names before it.
--
-- Not in here: tags and members, which are never typedef names, and whether a second declaration is
-- allowed.
use Rattle.std.specs.Prelude.{ℕ, ◌-◌, Bool, true, false, cond, List, [], ◌∷◌, ◌++◌, length, take, Option, Some, None, IsTrue, is_some, option_and_then}
use Rattle.std.specs.Str.{bytes_eq}
use Rattle.hv_ctree.specs.declared.tree.words.StorageClass.TheVariants.{Typedef}
use Rattle.hv_ctree.specs.tree.Expressions.{Expr, identifier, constant, string, parenthesized, subscript, call, member, postfix, prefix, unary, sizeof_expr, sizeof_type, cast, binary, conditional, assign, comma, Arguments, no_arguments, then_argument, TypeName, type_name, Specifiers, no_specifiers, then_specifier, Specifier, storage, of_type, qualifier, inline, TypeSpecifier, word, compound, enumeration, typedef_name, CompoundSpecifier, defined, mentioned, Members, no_members, then_member, MemberDeclaration, members_of, Declarators, no_declarators, then_declarator, EnumSpecifier, listed, listed_before, Enumerators, no_enumerators, then_enumerator, Enumerator, plain, valued, Declarator, declarator, MayDeclarator, no_declarator, some_declarator, Core, nothing, named, group, Suffixes, no_suffixes, then_suffix, Suffix, unsized, sized, function, unprototyped, ParameterTypes, parameter_types, Parameters, no_parameters, then_parameter, Parameter, parameter, Pointers, no_pointers, then_pointer}
use Rattle.hv_ctree.specs.tree.Statements.{Designation, no_designation, of_index, of_member, Initializer, value, braced, Initializers, no_initializers, then_initializer, InitDeclarator, bare, initialized, InitDeclarators, no_init_declarators, then_init_declarator, Declaration, declaration, Stmt, case_of, default_of, compound as block, expression, if_only, if_else, switch, while_do, do_while, for_expressions, for_declaration, continue_loop, break_out, return_with, Items, no_items, then_item, Item, declares, does, FunctionDefinition, function_definition, External, defines, declares_outside, empty, Program}
use Rattle.hv_grammar.specs.Expressions.{has_type}

-- a name in scope, and whether it is a typedef name
pub record Name : Type 0 where
  pub spelling : List ℕ
  pub is_typedef : Bool

-- whether the name is a typedef name: the latest declaration counts, the first of the list
abbrev pub names_type : List Name → List ℕ → Bool
names_type [] n = false
names_type (x ∷ xs) n = cond (bytes_eq x.spelling n) x.is_typedef (names_type xs n)

-- the names with one more
abbrev pub with_one : List ℕ → Bool → List Name → List Name
with_one n b xs = record { spelling = n; is_typedef = b } ∷ xs

-- a name that is used as one that is no typedef name
abbrev pub as_value : List ℕ → List Name → Option (List Name)
as_value n xs = cond (names_type xs n) None (Some xs)

-- a name that is used as a typedef name
abbrev pub as_type : List ℕ → List Name → Option (List Name)
as_type n xs = cond (names_type xs n) (Some xs) None

-- what a part that is a scope of its own leaves: the names before it
abbrev pub after_scope : List Name → Option (List Name) → Option (List Name)
after_scope xs None = None
after_scope xs (Some ys) = Some xs

-- whether the storage class `typedef` is among the words
abbrev pub has_typedef : Specifiers → Bool
has_typedef no_specifiers = false
has_typedef (then_specifier xs (storage p Typedef)) = true
has_typedef (then_specifier xs _) = has_typedef xs

-- whether a declarator is a name by itself or begins with one: nothing stands before the name
abbrev pub name_first : Declarator → Option (List ℕ)
name_first (declarator p no_pointers (named q n) ss) = Some n
name_first _ = None

-- the name of a declarator (6.7.5): None in an abstract one
abbrev mutual
  -- the name that a declarator declares
  pub declared_by : Declarator → Option (List ℕ)
  declared_by (declarator p ps c ss) = declared_in c

  -- the name within the middle of a declarator
  pub declared_in : Core → Option (List ℕ)
  declared_in nothing = None
  declared_in (named p n) = Some n
  declared_in (group p x) = declared_by x

-- a declarator whose first token is a name stands after specifiers: where no type specifier is
-- among these and the name is a typedef name, it is a type specifier and no declarator
abbrev pub may_declare : Bool → Option (List ℕ) → List Name → Option (List Name)
may_declare true n xs = Some xs
may_declare false None xs = Some xs
may_declare false (Some n) xs = as_value n xs

-- a name declared, if there is one
abbrev pub declaring : Bool → Option (List ℕ) → List Name → Option (List Name)
declaring b None xs = Some xs
declaring b (Some n) xs = Some (with_one n b xs)

-- the name of a parameter's group, where it is its first token: a typedef name there is a
-- parameter's type (6.7.5.3 paragraph 11)
abbrev pub may_group : Bool → Declarator → List Name → Option (List Name)
may_group false x xs = Some xs
may_group true x xs = may_declare false (name_first x) xs

-- the first of two parts, then the second
abbrev pub then : Option (List Name) → (List Name → Option (List Name)) → Option (List Name)
then o f = option_and_then f o

-- the names in scope after expressions and declarations, in order; None where a mark of a typedef
-- name is wrong (6.2.1, 6.7.7)
abbrev mutual
  -- an expression
  pub in_expression : Expr → List Name → Option (List Name)
  in_expression (identifier p n) xs = as_value n xs
  in_expression (constant p v) xs = Some xs
  in_expression (string p b) xs = Some xs
  in_expression (parenthesized p a) xs = in_expression a xs
  in_expression (subscript p a b) xs = then (in_expression a xs) (λ ys. in_expression b ys)
  in_expression (call p a bs) xs = then (in_expression a xs) (λ ys. in_arguments bs ys)
  in_expression (member p s a n) xs = in_expression a xs
  in_expression (postfix p s a) xs = in_expression a xs
  in_expression (prefix p s a) xs = in_expression a xs
  in_expression (unary p op a) xs = in_expression a xs
  in_expression (sizeof_expr p a) xs = in_expression a xs
  in_expression (sizeof_type p t) xs = in_type_name t xs
  in_expression (cast p t a) xs = then (in_type_name t xs) (λ ys. in_expression a ys)
  in_expression (binary p op a b) xs = then (in_expression a xs) (λ ys. in_expression b ys)
  in_expression (conditional p a b c) xs =
      then (then (in_expression a xs) (λ ys. in_expression b ys)) (λ ys. in_expression c ys)
  in_expression (assign p op a b) xs = then (in_expression a xs) (λ ys. in_expression b ys)
  in_expression (comma p a b) xs = then (in_expression a xs) (λ ys. in_expression b ys)

  -- arguments
  pub in_arguments : Arguments → List Name → Option (List Name)
  in_arguments no_arguments xs = Some xs
  in_arguments (then_argument bs a) xs = then (in_arguments bs xs) (λ ys. in_expression a ys)

  -- a type name
  pub in_type_name : TypeName → List Name → Option (List Name)
  in_type_name (type_name p ws m) xs =
      then (in_specifiers ws xs) (λ ys. in_may_declarator false m ys)

  -- specifiers
  pub in_specifiers : Specifiers → List Name → Option (List Name)
  in_specifiers no_specifiers xs = Some xs
  in_specifiers (then_specifier ws w) xs = then (in_specifiers ws xs) (λ ys. in_specifier w ys)

  -- a specifier
  pub in_specifier : Specifier → List Name → Option (List Name)
  in_specifier (storage p c) xs = Some xs
  in_specifier (of_type p t) xs = in_type t xs
  in_specifier (qualifier p q) xs = Some xs
  in_specifier (inline p) xs = Some xs

  -- a type specifier
  pub in_type : TypeSpecifier → List Name → Option (List Name)
  in_type (word p w) xs = Some xs
  in_type (compound p c) xs = in_compound c xs
  in_type (enumeration p e) xs = in_enumeration e xs
  in_type (typedef_name p n) xs = as_type n xs

  -- a structure or union, which is no scope of its own
  pub in_compound : CompoundSpecifier → List Name → Option (List Name)
  in_compound (defined p k t ms) xs = in_members ms xs
  in_compound (mentioned p k q n) xs = Some xs

  -- member declarations
  pub in_members : Members → List Name → Option (List Name)
  in_members no_members xs = Some xs
  in_members (then_member ms m) xs = then (in_members ms xs) (λ ys. in_member m ys)

  -- members of one declaration
  pub in_member : MemberDeclaration → List Name → Option (List Name)
  in_member (members_of p ws ds) xs =
      then (in_specifiers ws xs) (λ ys. in_declarators (has_type ws) ds ys)

  -- the declarators of members, which declare no name that is looked for; the truth value says that
  -- a type specifier stands before them
  pub in_declarators : Bool → Declarators → List Name → Option (List Name)
  in_declarators b no_declarators xs = Some xs
  in_declarators b (then_declarator no_declarators x) xs =
      then (may_declare b (name_first x) xs) (λ ys. in_declarator false x ys)
  in_declarators b (then_declarator (then_declarator ds y) x) xs =
      then (in_declarators b (then_declarator ds y) xs) (λ ys. in_declarator false x ys)

  -- an enumeration
  pub in_enumeration : EnumSpecifier → List Name → Option (List Name)
  in_enumeration (listed p t es b) xs = in_enumerators es xs
  in_enumeration (listed_before p q n) xs = Some xs

  -- enumeration constants
  pub in_enumerators : Enumerators → List Name → Option (List Name)
  in_enumerators no_enumerators xs = Some xs
  in_enumerators (then_enumerator es e) xs = then (in_enumerators es xs) (λ ys. in_enumerator e ys)

  -- an enumeration constant, whose scope begins at its end
  pub in_enumerator : Enumerator → List Name → Option (List Name)
  in_enumerator (plain p n) xs = Some (with_one n false xs)
  in_enumerator (valued p n a) xs = then (in_expression a xs) (λ ys. Some (with_one n false ys))

  -- a declarator; the truth value says that it is a parameter's
  pub in_declarator : Bool → Declarator → List Name → Option (List Name)
  in_declarator b (declarator p ps c ss) xs = then (in_core b c xs) (λ ys. in_suffixes ss ys)

  -- a declarator, or none
  pub in_may_declarator : Bool → MayDeclarator → List Name → Option (List Name)
  in_may_declarator b no_declarator xs = Some xs
  in_may_declarator b (some_declarator x) xs = in_declarator b x xs

  -- the middle of a declarator
  pub in_core : Bool → Core → List Name → Option (List Name)
  in_core b nothing xs = Some xs
  in_core b (named p n) xs = Some xs
  in_core b (group p x) xs = then (may_group b x xs) (λ ys. in_declarator b x ys)

  -- what stands after the middle
  pub in_suffixes : Suffixes → List Name → Option (List Name)
  in_suffixes no_suffixes xs = Some xs
  in_suffixes (then_suffix ss s) xs = then (in_suffixes ss xs) (λ ys. in_suffix s ys)

  -- a suffix; parameters are a scope of their own (function prototype scope)
  pub in_suffix : Suffix → List Name → Option (List Name)
  in_suffix (unsized p qs) xs = Some xs
  in_suffix (sized p qs a) xs = in_expression a xs
  in_suffix (function p ps) xs = after_scope xs (in_parameter_types ps xs)
  in_suffix (unprototyped p) xs = Some xs

  -- parameters, with their names in scope after them
  pub in_parameter_types : ParameterTypes → List Name → Option (List Name)
  in_parameter_types (parameter_types p ps b) xs = in_parameters ps xs

  -- the same of a list
  pub in_parameters : Parameters → List Name → Option (List Name)
  in_parameters no_parameters xs = Some xs
  in_parameters (then_parameter ps x) xs = then (in_parameters ps xs) (λ ys. in_parameter x ys)

  -- a parameter, whose name is in scope from the end of its declarator
  pub in_parameter : Parameter → List Name → Option (List Name)
  in_parameter (parameter p ws no_declarator) xs = in_specifiers ws xs
  in_parameter (parameter p ws (some_declarator x)) xs =
      then (then (then (in_specifiers ws xs) (λ ys. may_declare (has_type ws) (name_first x) ys))
      (λ ys. in_declarator true x ys))
      (λ ys. declaring (has_typedef ws) (declared_by x) ys)

-- what an initialiser is for
abbrev pub in_designation : Designation → List Name → Option (List Name)
in_designation no_designation xs = Some xs
in_designation (of_index p a) xs = in_expression a xs
in_designation (of_member p n) xs = Some xs

-- the same of initialisers (6.7.8)
abbrev mutual
  -- an initialiser
  pub in_initializer : Initializer → List Name → Option (List Name)
  in_initializer (value p a) xs = in_expression a xs
  in_initializer (braced p is b) xs = in_initializers is xs

  -- initialisers
  pub in_initializers : Initializers → List Name → Option (List Name)
  in_initializers no_initializers xs = Some xs
  in_initializers (then_initializer is p g i) xs =
      then (then (in_initializers is xs) (λ ys. in_designation g ys)) (λ ys. in_initializer i ys)

-- a declarator with its initialiser; its name is in scope within the initialiser. The truth value
-- says that the name is a typedef name
abbrev pub in_init_declarator : Bool → InitDeclarator → List Name → Option (List Name)
in_init_declarator b (bare p x) xs =
    then (in_declarator false x xs) (λ ys. declaring b (declared_by x) ys)
in_init_declarator b (initialized p x i) xs =
    then (then (in_declarator false x xs) (λ ys. declaring b (declared_by x) ys))
    (λ ys. in_initializer i ys)

-- the name that a declarator with its initialiser begins with
abbrev pub init_name_first : InitDeclarator → Option (List ℕ)
init_name_first (bare p x) = name_first x
init_name_first (initialized p x i) = name_first x

-- declarators with their initialisers; the truth values say that a type specifier stands before
-- them, and that the names are typedef names
abbrev pub in_init_declarators : Bool → Bool → InitDeclarators → List Name → Option (List Name)
in_init_declarators t b no_init_declarators xs = Some xs
in_init_declarators t b (then_init_declarator no_init_declarators x) xs =
    then (may_declare t (init_name_first x) xs) (λ ys. in_init_declarator b x ys)
in_init_declarators t b (then_init_declarator (then_init_declarator ds y) x) xs =
    then (in_init_declarators t b (then_init_declarator ds y) xs) (λ ys. in_init_declarator b x ys)

-- a declaration
abbrev pub in_declaration : Declaration → List Name → Option (List Name)
in_declaration (declaration p ws ds) xs =
    then (in_specifiers ws xs) (λ ys. in_init_declarators (has_type ws) (has_typedef ws) ds ys)

-- an expression, or none
abbrev pub in_option : Option Expr → List Name → Option (List Name)
in_option None xs = Some xs
in_option (Some a) xs = in_expression a xs

-- the same of statements (6.8)
abbrev mutual
  -- a statement; each selection and iteration statement is a block, and so is each statement within
  -- one (6.8.4, 6.8.5)
  pub in_statement : Stmt → List Name → Option (List Name)
  in_statement (case_of p a s) xs = then (in_expression a xs) (λ ys. in_statement s ys)
  in_statement (default_of p s) xs = in_statement s xs
  in_statement (block p is) xs = after_scope xs (in_items is xs)
  in_statement (expression p a) xs = in_option a xs
  in_statement (if_only p a s) xs =
      after_scope xs (then (in_expression a xs) (λ ys. in_statement s ys))
  in_statement (if_else p a s t) xs =
      after_scope xs (then (in_expression a xs)
      (λ ys. then (after_scope ys (in_statement s ys)) (λ zs. in_statement t zs)))
  in_statement (switch p a s) xs =
      after_scope xs (then (in_expression a xs) (λ ys. in_statement s ys))
  in_statement (while_do p a s) xs =
      after_scope xs (then (in_expression a xs) (λ ys. in_statement s ys))
  in_statement (do_while p s a) xs =
      after_scope xs (then (after_scope xs (in_statement s xs)) (λ ys. in_expression a ys))
  in_statement (for_expressions p a b c s) xs =
      after_scope xs (then (then (then (in_option a xs) (λ ys. in_option b ys))
      (λ ys. in_option c ys)) (λ ys. in_statement s ys))
  in_statement (for_declaration p g b c s) xs =
      after_scope xs (then (then (then (in_declaration g xs) (λ ys. in_option b ys))
      (λ ys. in_option c ys)) (λ ys. in_statement s ys))
  in_statement (continue_loop p) xs = Some xs
  in_statement (break_out p) xs = Some xs
  in_statement (return_with p a) xs = in_option a xs

  -- a block's items
  pub in_items : Items → List Name → Option (List Name)
  in_items no_items xs = Some xs
  in_items (then_item is i) xs = then (in_items is xs) (λ ys. in_item i ys)

  -- a block's item
  pub in_item : Item → List Name → Option (List Name)
  in_item (declares p g) xs = in_declaration g xs
  in_item (does p s) xs = in_statement s xs

-- what a search for the first suffix after a declared name has found: one, none so far, or that a
-- `*` stands before any
pub data Found : Type 0 where
  found : Suffix → Found
  none_yet : Found
  stopped : Found

-- the first suffix of a list, if any
abbrev pub first_suffix : Suffixes → Found
first_suffix no_suffixes = none_yet
first_suffix (then_suffix no_suffixes s) = found s
first_suffix (then_suffix (then_suffix ss t) s) = first_suffix (then_suffix ss t)

-- whether the search goes on outside a declarator with these `*`s
abbrev pub past_stars : Pointers → Found → Found
past_stars ps (found s) = found s
past_stars no_pointers none_yet = none_yet
past_stars (then_pointer ps p qs) none_yet = stopped
past_stars ps stopped = stopped

-- what an inner search found, or else the first of these
abbrev pub or_first : Found → Suffixes → Found
or_first (found s) ss = found s
or_first none_yet ss = first_suffix ss
or_first stopped ss = stopped

-- the suffix that says what a declared name is (6.7.5)
abbrev mutual
  -- the first suffix after the declared name, with no `*` between
  pub own_suffix : Declarator → Found
  own_suffix (declarator p ps c ss) = past_stars ps (or_first (suffix_in c) ss)

  -- the same within the middle
  pub suffix_in : Core → Found
  suffix_in nothing = none_yet
  suffix_in (named p n) = none_yet
  suffix_in (group p x) = own_suffix x

-- what the parameters of a function's definition put in scope: those of the first suffix after its
-- name
abbrev pub parameter_names : Found → List Name → Option (List Name)
parameter_names (found (function p ps)) xs = in_parameter_types ps xs
parameter_names _ xs = Some xs

-- the names that were put before others
abbrev pub newer : List Name → List Name → List Name
newer xs ys = take (length ys - length xs) ys

-- a function's definition: its name is in scope from its declarator's end, and its parameters'
-- names are in scope again in its body (6.2.1 paragraph 4)
abbrev pub in_function : FunctionDefinition → List Name → Option (List Name)
in_function (function_definition p ws x body) xs =
    then (then (in_specifiers ws xs) (λ ys. may_declare (has_type ws) (name_first x) ys))
    (λ ys. then (then (in_declarator false x ys)
    (λ zs. declaring (has_typedef ws) (declared_by x) zs))
    (λ zs. then (parameter_names (own_suffix x) ys)
    (λ ps. after_scope zs (in_statement body (newer ys ps ++ zs)))))

-- an external declaration
abbrev pub in_external : External → List Name → Option (List Name)
in_external (defines p f) xs = in_function f xs
in_external (declares_outside p g) xs = in_declaration g xs
in_external (empty p) xs = Some xs

-- external declarations
abbrev pub in_externals : List External → List Name → Option (List Name)
in_externals [] xs = Some xs
in_externals (x ∷ rest) xs = then (in_external x xs) (λ ys. in_externals rest ys)

-- the marks of a program's tree are those of the declarations in scope
abbrev pub IsMarked : Program → Type 0
IsMarked program = IsTrue (is_some (in_externals program.externals []))
