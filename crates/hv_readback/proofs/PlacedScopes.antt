-- Which names are typedef names depends on no place: what a part of a tree asks of the names in
-- scope, and which it leaves, is the same without its places.
use Rattle.std.proofs.Common.{◌≡◌, Bool, true, false, List, [], ◌∷◌, ◌++◌, refl, ap, ◌∙◌, Option, Some, None}
use Rattle.hv_ctree.specs.declared.tree.words.StorageClass.TheVariants as storages
use Rattle.hv_ctree.specs.tree.Expressions.{Expr, identifier, constant, string, parenthesized, subscript, call, member, postfix, prefix, unary, sizeof_expr, sizeof_type, cast, binary, conditional, assign, comma, Arguments, no_arguments, then_argument, TypeName, type_name, Specifiers, no_specifiers, then_specifier, Specifier, storage, of_type, qualifier, inline, TypeSpecifier, word, compound, enumeration, typedef_name, CompoundSpecifier, defined, mentioned, Members, no_members, then_member, MemberDeclaration, members_of, Declarators, no_declarators, then_declarator, EnumSpecifier, listed, listed_before, Enumerators, no_enumerators, then_enumerator, Enumerator, plain, valued, Declarator, declarator, MayDeclarator, no_declarator, some_declarator, Core, nothing, named, group, Suffixes, no_suffixes, then_suffix, Suffix, unsized, sized, function, unprototyped, ParameterTypes, parameter_types, Parameters, no_parameters, then_parameter, Parameter, parameter, Pointers, no_pointers, then_pointer}
use Rattle.hv_ctree.specs.tree.Statements.{Designation, no_designation, of_index, of_member, Initializer, value, braced, Initializers, no_initializers, then_initializer, InitDeclarator, bare, initialized, InitDeclarators, no_init_declarators, then_init_declarator, Declaration, declaration, Stmt, case_of, default_of, compound as block, expression, if_only, if_else, switch, while_do, do_while, for_expressions, for_declaration, continue_loop, break_out, return_with, Items, no_items, then_item, Item, declares, does, FunctionDefinition, function_definition, External, defines, declares_outside, empty}
use Rattle.hv_grammar.specs.Expressions.{has_type}
use Rattle.hv_grammar.specs.Scopes.{Name, after_scope, has_typedef, name_first, declared_by, declared_in, may_declare, declaring, may_group, then, in_expression, in_arguments, in_type_name, in_specifiers, in_specifier, in_type, in_compound, in_members, in_member, in_declarators, in_enumeration, in_enumerators, in_enumerator, in_declarator, in_may_declarator, in_core, in_suffixes, in_suffix, in_parameter_types, in_parameters, in_parameter, in_designation, in_initializer, in_initializers, in_init_declarator, init_name_first, in_init_declarators, in_declaration, in_option, in_statement, in_items, in_item, Found, found, none_yet, stopped, first_suffix, past_stars, or_first, own_suffix, suffix_in, parameter_names, newer, in_function, in_external, in_externals}
use Rattle.hv_readback.specs.Places.{unplaced_pointers, unplaced_expression, unplaced_arguments, unplaced_type_name, unplaced_specifiers, unplaced_specifier, unplaced_type, unplaced_compound, unplaced_members, unplaced_member, unplaced_declarators, unplaced_enumeration, unplaced_enumerators, unplaced_enumerator, unplaced_declarator, unplaced_may_declarator, unplaced_core, unplaced_suffixes, unplaced_suffix, unplaced_parameter_types, unplaced_parameters, unplaced_parameter, unplaced_designation, unplaced_initializer, unplaced_initializers, unplaced_init_declarator, unplaced_init_declarators, unplaced_declaration, unplaced_option, unplaced_statement, unplaced_items, unplaced_item, unplaced_function, unplaced_external, unplaced_externals}
use Rattle.hv_readback.proofs.Placing.{two}
use Rattle.hv_readback.proofs.PlacedExpressions.{has_type_bare}

-- what a part leaves: names, or none where a mark is wrong
abbrev Left : Type 0
Left = Option (List Name)

then_after : (o : Left) (f g : List Name → Left) → ((ns : List Name) → f ns ≡ g ns)
    → then o f ≡ then o g
then_after None f g h = refl
then_after (Some ns) f g h = h ns

-- two equal parts, one after the other
then_same : {o q : Left} {f g : List Name → Left} → o ≡ q → ((ns : List Name) → f ns ≡ g ns)
    → then o f ≡ then q g
then_same {q = q} {f = f} {g = g} e h = ap (λ x. then x f) e ∙ then_after q f g h

------ names

has_typedef_bare : (xs : Specifiers) → has_typedef (unplaced_specifiers xs) ≡ has_typedef xs
has_typedef_bare no_specifiers = refl
has_typedef_bare (then_specifier xs (storage p storages.Typedef)) = refl
has_typedef_bare (then_specifier xs (storage p storages.Extern)) = has_typedef_bare xs
has_typedef_bare (then_specifier xs (storage p storages.Static)) = has_typedef_bare xs
has_typedef_bare (then_specifier xs (storage p storages.Auto)) = has_typedef_bare xs
has_typedef_bare (then_specifier xs (storage p storages.Register)) = has_typedef_bare xs
has_typedef_bare (then_specifier xs (of_type p t)) = has_typedef_bare xs
has_typedef_bare (then_specifier xs (qualifier p q)) = has_typedef_bare xs
has_typedef_bare (then_specifier xs (inline p)) = has_typedef_bare xs

name_first_bare : (x : Declarator) → name_first (unplaced_declarator x) ≡ name_first x
name_first_bare (declarator p no_pointers nothing ss) = refl
name_first_bare (declarator p no_pointers (named q n) ss) = refl
name_first_bare (declarator p no_pointers (group q x) ss) = refl
name_first_bare (declarator p (then_pointer ps q qs) nothing ss) = refl
name_first_bare (declarator p (then_pointer ps q qs) (named r n) ss) = refl
name_first_bare (declarator p (then_pointer ps q qs) (group r x) ss) = refl

mutual
  declared_by_bare : (x : Declarator) → declared_by (unplaced_declarator x) ≡ declared_by x
  declared_by_bare (declarator p ps c ss) = declared_in_bare c

  declared_in_bare : (c : Core) → declared_in (unplaced_core c) ≡ declared_in c
  declared_in_bare nothing = refl
  declared_in_bare (named p n) = refl
  declared_in_bare (group p x) = declared_by_bare x

may_group_bare : (b : Bool) (x : Declarator) (ns : List Name)
    → may_group b (unplaced_declarator x) ns ≡ may_group b x ns
may_group_bare false x ns = refl
may_group_bare true x ns = ap (λ n. may_declare false n ns) (name_first_bare x)

------ expressions and declarators

mutual
  expression_bare : (a : Expr) (ns : List Name)
      → in_expression (unplaced_expression a) ns ≡ in_expression a ns
  expression_bare (identifier p n) ns = refl
  expression_bare (constant p v) ns = refl
  expression_bare (string p b) ns = refl
  expression_bare (parenthesized p a) ns = expression_bare a ns
  expression_bare (subscript p a b) ns = then_same (expression_bare a ns) (expression_bare b)
  expression_bare (call p a xs) ns = then_same (expression_bare a ns) (arguments_bare xs)
  expression_bare (member p s a n) ns = expression_bare a ns
  expression_bare (postfix p s a) ns = expression_bare a ns
  expression_bare (prefix p s a) ns = expression_bare a ns
  expression_bare (unary p op a) ns = expression_bare a ns
  expression_bare (sizeof_expr p a) ns = expression_bare a ns
  expression_bare (sizeof_type p t) ns = type_name_bare t ns
  expression_bare (cast p t a) ns = then_same (type_name_bare t ns) (expression_bare a)
  expression_bare (binary p op a b) ns = then_same (expression_bare a ns) (expression_bare b)
  expression_bare (conditional p a b c) ns =
      then_same (then_same (expression_bare a ns) (expression_bare b)) (expression_bare c)
  expression_bare (assign p op a b) ns = then_same (expression_bare a ns) (expression_bare b)
  expression_bare (comma p a b) ns = then_same (expression_bare a ns) (expression_bare b)

  arguments_bare : (xs : Arguments) (ns : List Name)
      → in_arguments (unplaced_arguments xs) ns ≡ in_arguments xs ns
  arguments_bare no_arguments ns = refl
  arguments_bare (then_argument xs a) ns = then_same (arguments_bare xs ns) (expression_bare a)

  type_name_bare : (t : TypeName) (ns : List Name)
      → in_type_name (unplaced_type_name t) ns ≡ in_type_name t ns
  type_name_bare (type_name p xs m) ns =
      then_same (specifiers_bare xs ns) (may_declarator_bare false m)

  specifiers_bare : (xs : Specifiers) (ns : List Name)
      → in_specifiers (unplaced_specifiers xs) ns ≡ in_specifiers xs ns
  specifiers_bare no_specifiers ns = refl
  specifiers_bare (then_specifier xs x) ns = then_same (specifiers_bare xs ns) (specifier_bare x)

  specifier_bare : (x : Specifier) (ns : List Name)
      → in_specifier (unplaced_specifier x) ns ≡ in_specifier x ns
  specifier_bare (storage p c) ns = refl
  specifier_bare (of_type p t) ns = type_bare t ns
  specifier_bare (qualifier p q) ns = refl
  specifier_bare (inline p) ns = refl

  type_bare : (t : TypeSpecifier) (ns : List Name) → in_type (unplaced_type t) ns ≡ in_type t ns
  type_bare (word p w) ns = refl
  type_bare (compound p c) ns = compound_bare c ns
  type_bare (enumeration p e) ns = enumeration_bare e ns
  type_bare (typedef_name p n) ns = refl

  compound_bare : (c : CompoundSpecifier) (ns : List Name)
      → in_compound (unplaced_compound c) ns ≡ in_compound c ns
  compound_bare (defined p k t ms) ns = members_bare ms ns
  compound_bare (mentioned p k q n) ns = refl

  members_bare : (ms : Members) (ns : List Name)
      → in_members (unplaced_members ms) ns ≡ in_members ms ns
  members_bare no_members ns = refl
  members_bare (then_member ms m) ns = then_same (members_bare ms ns) (member_bare m)

  member_bare : (m : MemberDeclaration) (ns : List Name)
      → in_member (unplaced_member m) ns ≡ in_member m ns
  member_bare (members_of p xs ds) ns =
      then_same (specifiers_bare xs ns)
      (λ ys. ap (λ b. in_declarators b (unplaced_declarators ds) ys) (has_type_bare xs)
      ∙ declarators_bare (has_type xs) ds ys)

  declarators_bare : (b : Bool) (ds : Declarators) (ns : List Name)
      → in_declarators b (unplaced_declarators ds) ns ≡ in_declarators b ds ns
  declarators_bare b no_declarators ns = refl
  declarators_bare b (then_declarator no_declarators x) ns =
      then_same (ap (λ n. may_declare b n ns) (name_first_bare x)) (declarator_bare false x)
  declarators_bare b (then_declarator (then_declarator ds y) x) ns =
      then_same (declarators_bare b (then_declarator ds y) ns) (declarator_bare false x)

  enumeration_bare : (e : EnumSpecifier) (ns : List Name)
      → in_enumeration (unplaced_enumeration e) ns ≡ in_enumeration e ns
  enumeration_bare (listed p t es b) ns = enumerators_bare es ns
  enumeration_bare (listed_before p q n) ns = refl

  enumerators_bare : (es : Enumerators) (ns : List Name)
      → in_enumerators (unplaced_enumerators es) ns ≡ in_enumerators es ns
  enumerators_bare no_enumerators ns = refl
  enumerators_bare (then_enumerator es e) ns =
      then_same (enumerators_bare es ns) (enumerator_bare e)

  enumerator_bare : (e : Enumerator) (ns : List Name)
      → in_enumerator (unplaced_enumerator e) ns ≡ in_enumerator e ns
  enumerator_bare (plain p n) ns = refl
  enumerator_bare (valued p n a) ns = then_same (expression_bare a ns) (λ ys. refl)

  declarator_bare : (b : Bool) (x : Declarator) (ns : List Name)
      → in_declarator b (unplaced_declarator x) ns ≡ in_declarator b x ns
  declarator_bare b (declarator p ps c ss) ns = then_same (core_bare b c ns) (suffixes_bare ss)

  may_declarator_bare : (b : Bool) (m : MayDeclarator) (ns : List Name)
      → in_may_declarator b (unplaced_may_declarator m) ns ≡ in_may_declarator b m ns
  may_declarator_bare b no_declarator ns = refl
  may_declarator_bare b (some_declarator x) ns = declarator_bare b x ns

  core_bare : (b : Bool) (c : Core) (ns : List Name)
      → in_core b (unplaced_core c) ns ≡ in_core b c ns
  core_bare b nothing ns = refl
  core_bare b (named p n) ns = refl
  core_bare b (group p x) ns = then_same (may_group_bare b x ns) (declarator_bare b x)

  suffixes_bare : (ss : Suffixes) (ns : List Name)
      → in_suffixes (unplaced_suffixes ss) ns ≡ in_suffixes ss ns
  suffixes_bare no_suffixes ns = refl
  suffixes_bare (then_suffix ss s) ns = then_same (suffixes_bare ss ns) (suffix_bare s)

  suffix_bare : (s : Suffix) (ns : List Name) → in_suffix (unplaced_suffix s) ns ≡ in_suffix s ns
  suffix_bare (unsized p qs) ns = refl
  suffix_bare (sized p qs a) ns = expression_bare a ns
  suffix_bare (function p ps) ns = ap (λ o. after_scope ns o) (parameter_types_bare ps ns)
  suffix_bare (unprototyped p) ns = refl

  parameter_types_bare : (ps : ParameterTypes) (ns : List Name)
      → in_parameter_types (unplaced_parameter_types ps) ns ≡ in_parameter_types ps ns
  parameter_types_bare (parameter_types p ps b) ns = parameters_bare ps ns

  parameters_bare : (ps : Parameters) (ns : List Name)
      → in_parameters (unplaced_parameters ps) ns ≡ in_parameters ps ns
  parameters_bare no_parameters ns = refl
  parameters_bare (then_parameter ps x) ns = then_same (parameters_bare ps ns) (parameter_bare x)

  parameter_bare : (x : Parameter) (ns : List Name)
      → in_parameter (unplaced_parameter x) ns ≡ in_parameter x ns
  parameter_bare (parameter p xs no_declarator) ns = specifiers_bare xs ns
  parameter_bare (parameter p xs (some_declarator x)) ns =
      then_same (then_same (then_same (specifiers_bare xs ns)
      (λ ys. two (λ b n. may_declare b n ys) (has_type_bare xs) (name_first_bare x)))
      (declarator_bare true x))
      (λ ys. two (λ b n. declaring b n ys) (has_typedef_bare xs) (declared_by_bare x))

------ declarations

designation_bare : (g : Designation) (ns : List Name)
    → in_designation (unplaced_designation g) ns ≡ in_designation g ns
designation_bare no_designation ns = refl
designation_bare (of_index p a) ns = expression_bare a ns
designation_bare (of_member p n) ns = refl

mutual
  initializer_bare : (x : Initializer) (ns : List Name)
      → in_initializer (unplaced_initializer x) ns ≡ in_initializer x ns
  initializer_bare (value p a) ns = expression_bare a ns
  initializer_bare (braced p xs b) ns = initializers_bare xs ns

  initializers_bare : (xs : Initializers) (ns : List Name)
      → in_initializers (unplaced_initializers xs) ns ≡ in_initializers xs ns
  initializers_bare no_initializers ns = refl
  initializers_bare (then_initializer xs p g x) ns =
      then_same (then_same (initializers_bare xs ns) (designation_bare g)) (initializer_bare x)

init_declarator_bare : (b : Bool) (x : InitDeclarator) (ns : List Name)
    → in_init_declarator b (unplaced_init_declarator x) ns ≡ in_init_declarator b x ns
init_declarator_bare b (bare p x) ns =
    then_same (declarator_bare false x ns) (λ ys. ap (λ n. declaring b n ys) (declared_by_bare x))
init_declarator_bare b (initialized p x i) ns =
    then_same (then_same (declarator_bare false x ns)
    (λ ys. ap (λ n. declaring b n ys) (declared_by_bare x)))
    (initializer_bare i)

init_name_first_bare : (x : InitDeclarator)
    → init_name_first (unplaced_init_declarator x) ≡ init_name_first x
init_name_first_bare (bare p x) = name_first_bare x
init_name_first_bare (initialized p x i) = name_first_bare x

init_declarators_bare : (t b : Bool) (ds : InitDeclarators) (ns : List Name)
    → in_init_declarators t b (unplaced_init_declarators ds) ns ≡ in_init_declarators t b ds ns
init_declarators_bare t b no_init_declarators ns = refl
init_declarators_bare t b (then_init_declarator no_init_declarators x) ns =
    then_same (ap (λ n. may_declare t n ns) (init_name_first_bare x)) (init_declarator_bare b x)
init_declarators_bare t b (then_init_declarator (then_init_declarator ds y) x) ns =
    then_same (init_declarators_bare t b (then_init_declarator ds y) ns) (init_declarator_bare b x)

declaration_bare : (g : Declaration) (ns : List Name)
    → in_declaration (unplaced_declaration g) ns ≡ in_declaration g ns
declaration_bare (declaration p xs ds) ns =
    then_same (specifiers_bare xs ns)
    (λ ys. two (λ t b. in_init_declarators t b (unplaced_init_declarators ds) ys)
    (has_type_bare xs) (has_typedef_bare xs)
    ∙ init_declarators_bare (has_type xs) (has_typedef xs) ds ys)

option_bare : (a : Option Expr) (ns : List Name)
    → in_option (unplaced_option a) ns ≡ in_option a ns
option_bare None ns = refl
option_bare (Some a) ns = expression_bare a ns

------ statements

-- the end of a scope, after equal parts
scope_same : (ns : List Name) {o q : Left} → o ≡ q → after_scope ns o ≡ after_scope ns q
scope_same ns e = ap (λ o. after_scope ns o) e

mutual
  statement_bare : (s : Stmt) (ns : List Name)
      → in_statement (unplaced_statement s) ns ≡ in_statement s ns
  statement_bare (case_of p a s) ns = then_same (expression_bare a ns) (statement_bare s)
  statement_bare (default_of p s) ns = statement_bare s ns
  statement_bare (block p xs) ns = scope_same ns (items_bare xs ns)
  statement_bare (expression p a) ns = option_bare a ns
  statement_bare (if_only p a s) ns =
      scope_same ns (then_same (expression_bare a ns) (statement_bare s))
  statement_bare (if_else p a s t) ns =
      scope_same ns (then_same (expression_bare a ns)
      (λ ys. then_same (scope_same ys (statement_bare s ys)) (statement_bare t)))
  statement_bare (switch p a s) ns =
      scope_same ns (then_same (expression_bare a ns) (statement_bare s))
  statement_bare (while_do p a s) ns =
      scope_same ns (then_same (expression_bare a ns) (statement_bare s))
  statement_bare (do_while p s a) ns =
      scope_same ns (then_same (scope_same ns (statement_bare s ns)) (expression_bare a))
  statement_bare (for_expressions p a b c s) ns =
      scope_same ns (then_same (then_same (then_same (option_bare a ns) (option_bare b))
      (option_bare c)) (statement_bare s))
  statement_bare (for_declaration p g b c s) ns =
      scope_same ns (then_same (then_same (then_same (declaration_bare g ns) (option_bare b))
      (option_bare c)) (statement_bare s))
  statement_bare (continue_loop p) ns = refl
  statement_bare (break_out p) ns = refl
  statement_bare (return_with p a) ns = option_bare a ns

  items_bare : (xs : Items) (ns : List Name) → in_items (unplaced_items xs) ns ≡ in_items xs ns
  items_bare no_items ns = refl
  items_bare (then_item xs x) ns = then_same (items_bare xs ns) (item_bare x)

  item_bare : (x : Item) (ns : List Name) → in_item (unplaced_item x) ns ≡ in_item x ns
  item_bare (declares p g) ns = declaration_bare g ns
  item_bare (does p s) ns = statement_bare s ns

------ programs

-- what a search for a suffix has found, without its places
abbrev unplaced_found : Found → Found
unplaced_found (found s) = found (unplaced_suffix s)
unplaced_found none_yet = none_yet
unplaced_found stopped = stopped

first_suffix_bare : (ss : Suffixes)
    → first_suffix (unplaced_suffixes ss) ≡ unplaced_found (first_suffix ss)
first_suffix_bare no_suffixes = refl
first_suffix_bare (then_suffix no_suffixes s) = refl
first_suffix_bare (then_suffix (then_suffix ss t) s) = first_suffix_bare (then_suffix ss t)

past_stars_bare : (ps : Pointers) (x : Found)
    → past_stars (unplaced_pointers ps) (unplaced_found x) ≡ unplaced_found (past_stars ps x)
past_stars_bare no_pointers (found s) = refl
past_stars_bare no_pointers none_yet = refl
past_stars_bare no_pointers stopped = refl
past_stars_bare (then_pointer ps p qs) (found s) = refl
past_stars_bare (then_pointer ps p qs) none_yet = refl
past_stars_bare (then_pointer ps p qs) stopped = refl

or_first_bare : (x : Found) (ss : Suffixes)
    → or_first (unplaced_found x) (unplaced_suffixes ss) ≡ unplaced_found (or_first x ss)
or_first_bare (found s) ss = refl
or_first_bare none_yet ss = first_suffix_bare ss
or_first_bare stopped ss = refl

mutual
  own_suffix_bare : (x : Declarator)
      → own_suffix (unplaced_declarator x) ≡ unplaced_found (own_suffix x)
  own_suffix_bare (declarator p ps c ss) =
      ap (λ x. past_stars (unplaced_pointers ps) (or_first x (unplaced_suffixes ss)))
      (suffix_in_bare c)
      ∙ ap (λ x. past_stars (unplaced_pointers ps) x) (or_first_bare (suffix_in c) ss)
      ∙ past_stars_bare ps (or_first (suffix_in c) ss)

  suffix_in_bare : (c : Core) → suffix_in (unplaced_core c) ≡ unplaced_found (suffix_in c)
  suffix_in_bare nothing = refl
  suffix_in_bare (named p n) = refl
  suffix_in_bare (group p x) = own_suffix_bare x

parameter_names_bare : (x : Found) (ns : List Name)
    → parameter_names (unplaced_found x) ns ≡ parameter_names x ns
parameter_names_bare (found (unsized p qs)) ns = refl
parameter_names_bare (found (sized p qs a)) ns = refl
parameter_names_bare (found (function p ps)) ns = parameter_types_bare ps ns
parameter_names_bare (found (unprototyped p)) ns = refl
parameter_names_bare none_yet ns = refl
parameter_names_bare stopped ns = refl

function_bare : (f : FunctionDefinition) (ns : List Name)
    → in_function (unplaced_function f) ns ≡ in_function f ns
function_bare (function_definition p xs x body) ns =
    then_same (then_same (specifiers_bare xs ns)
    (λ ys. two (λ b n. may_declare b n ys) (has_type_bare xs) (name_first_bare x)))
    (λ ys. then_same (then_same (declarator_bare false x ys)
    (λ zs. two (λ b n. declaring b n zs) (has_typedef_bare xs) (declared_by_bare x)))
    (λ zs. then_same
    (ap (λ s. parameter_names s ys) (own_suffix_bare x) ∙ parameter_names_bare (own_suffix x) ys)
    (λ ps. scope_same zs (statement_bare body (newer ys ps ++ zs)))))

external_bare : (x : External) (ns : List Name)
    → in_external (unplaced_external x) ns ≡ in_external x ns
external_bare (defines p f) ns = function_bare f ns
external_bare (declares_outside p g) ns = declaration_bare g ns
external_bare (empty p) ns = refl

pub externals_bare : (xs : List External) (ns : List Name)
    → in_externals (unplaced_externals xs) ns ≡ in_externals xs ns
externals_bare [] ns = refl
externals_bare (x ∷ xs) ns = then_same (external_bare x ns) (externals_bare xs)
