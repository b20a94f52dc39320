-- A tree's tokens are tokens: no holes, and no names that the grammar doesn't know.
use Rattle.std.proofs.Common.{◌≡◌, Bool, true, false, List, [], ◌∷◌, ◌++◌, refl, Option, Some, None}
use Rattle.std.specs.Prelude.{◌&&◌}
use Rattle.hv_base.specs.declared.operator.BinaryOperator.{BinaryOperator}
use Rattle.hv_base.specs.declared.operator.BinaryOperator.TheVariants as binaries
use Rattle.hv_ctree.specs.declared.tree.words.AssignmentOperator.{AssignmentOperator}
use Rattle.hv_ctree.specs.declared.tree.words.AssignmentOperator.TheVariants as assignments
use Rattle.hv_ctree.specs.declared.tree.words.Selector.{Selector}
use Rattle.hv_ctree.specs.declared.tree.words.Selector.TheVariants as selectors
use Rattle.hv_ctree.specs.declared.tree.words.Step.{Step}
use Rattle.hv_ctree.specs.declared.tree.words.Step.TheVariants as steps
use Rattle.hv_ctree.specs.declared.tree.words.StorageClass.{StorageClass}
use Rattle.hv_ctree.specs.declared.tree.words.StorageClass.TheVariants as storages
use Rattle.hv_ctree.specs.declared.tree.words.StructOrUnion.{StructOrUnion}
use Rattle.hv_ctree.specs.declared.tree.words.StructOrUnion.TheVariants as compounds
use Rattle.hv_ctree.specs.declared.tree.words.TypeQualifier.{TypeQualifier}
use Rattle.hv_ctree.specs.declared.tree.words.TypeQualifier.TheVariants as qualifying
use Rattle.hv_ctree.specs.declared.tree.words.UnaryOperator.{UnaryOperator}
use Rattle.hv_ctree.specs.declared.tree.words.UnaryOperator.TheVariants as unaries
use Rattle.hv_ctree.specs.tree.Expressions.{Expr, identifier, constant, string, parenthesized, subscript, call, member, postfix, prefix, unary, sizeof_expr, sizeof_type, cast, binary, conditional, assign, comma, Arguments, no_arguments, then_argument, TypeName, type_name, Specifiers, no_specifiers, then_specifier, Specifier, storage, of_type, qualifier, inline, TypeSpecifier, word, compound, enumeration, typedef_name, CompoundSpecifier, defined, mentioned, MayTag, no_tag, tag, Members, no_members, then_member, MemberDeclaration, members_of, Declarators, no_declarators, then_declarator, EnumSpecifier, listed, listed_before, Enumerators, no_enumerators, then_enumerator, Enumerator, plain, valued, Declarator, declarator, MayDeclarator, no_declarator, some_declarator, Core, nothing, named, group, Suffixes, no_suffixes, then_suffix, Suffix, unsized, sized, function, unprototyped, ParameterTypes, parameter_types, Parameters, no_parameters, then_parameter, Parameter, parameter, Pointers, no_pointers, then_pointer, Qualifiers, no_qualifiers, then_qualifier, TypeWord, void_word, char_word, short_word, int_word, long_word, signed_word, unsigned_word, bool_word}
use Rattle.hv_ctree.specs.tree.Statements.{Designation, no_designation, of_index, of_member, Initializer, value, braced, Initializers, no_initializers, then_initializer, InitDeclarator, bare, initialized, InitDeclarators, no_init_declarators, then_init_declarator, Declaration, declaration, Stmt, case_of, default_of, expression, if_only, if_else, switch, while_do, do_while, for_expressions, for_declaration, continue_loop, break_out, return_with, Items, no_items, then_item, Item, declares, does, FunctionDefinition, function_definition, External, defines, declares_outside, empty}
use Rattle.hv_ctree.specs.tree.Statements as statements
use Rattle.hv_grammar.specs.Symbols.{Symbol, keyword, name, marked, number, text, sign, hole, foreign, binary_sign, unary_sign, assignment_sign, selector_sign, step_sign, storage_word, qualifier_word, compound_word, type_word}
use Rattle.hv_grammar.specs.Tokens.{qualifiers_tokens, pointers_tokens, tag_tokens, last_comma, last_ellipsis, tokens_of, arguments_tokens, type_name_tokens, specifiers_tokens, specifier_tokens, type_tokens, compound_tokens, members_tokens, member_tokens, declarators_tokens, declarator_tokens, enumeration_tokens, enumerators_tokens, enumerator_tokens, may_declarator_tokens, core_tokens, suffixes_tokens, suffix_tokens, parameter_types_tokens, parameters_tokens, parameter_tokens, designation_tokens, initializer_tokens, initializers_tokens, init_declarator_tokens, init_declarators_tokens, declaration_tokens, option_tokens}
use Rattle.hv_print.specs.ProgramTokens.{statement_tokens, items_tokens, item_tokens, external_tokens, externals_tokens}

-- whether a terminal is a C token
abbrev pub spelt : Symbol → Bool
spelt (keyword k) = true
spelt (name n) = true
spelt (marked n) = true
spelt (number v) = true
spelt (text b) = true
spelt (sign p) = true
spelt hole = false
spelt foreign = false

-- whether terminals are C tokens
abbrev pub all_spelt : List Symbol → Bool
all_spelt [] = true
all_spelt (s ∷ ss) = spelt s && all_spelt ss

pub spelt_append : (a b : List Symbol) → all_spelt (a ++ b) ≡ all_spelt a && all_spelt b
spelt_append [] b = refl
spelt_append (keyword k ∷ a) b = spelt_append a b
spelt_append (name n ∷ a) b = spelt_append a b
spelt_append (marked n ∷ a) b = spelt_append a b
spelt_append (number v ∷ a) b = spelt_append a b
spelt_append (text t ∷ a) b = spelt_append a b
spelt_append (sign p ∷ a) b = spelt_append a b
spelt_append (hole ∷ a) b = refl
spelt_append (foreign ∷ a) b = refl

------ words and signs

spelt_binary : (op : BinaryOperator) → spelt (binary_sign op) ≡ true
spelt_binary binaries.Multiply = refl
spelt_binary binaries.Divide = refl
spelt_binary binaries.Remainder = refl
spelt_binary binaries.Add = refl
spelt_binary binaries.Subtract = refl
spelt_binary binaries.ShiftLeft = refl
spelt_binary binaries.ShiftRight = refl
spelt_binary binaries.Less = refl
spelt_binary binaries.Greater = refl
spelt_binary binaries.LessEqual = refl
spelt_binary binaries.GreaterEqual = refl
spelt_binary binaries.Equal = refl
spelt_binary binaries.NotEqual = refl
spelt_binary binaries.And = refl
spelt_binary binaries.ExclusiveOr = refl
spelt_binary binaries.Or = refl
spelt_binary binaries.LogicalAnd = refl
spelt_binary binaries.LogicalOr = refl

spelt_unary : (op : UnaryOperator) → spelt (unary_sign op) ≡ true
spelt_unary unaries.Address = refl
spelt_unary unaries.Indirection = refl
spelt_unary unaries.Plus = refl
spelt_unary unaries.Minus = refl
spelt_unary unaries.Complement = refl
spelt_unary unaries.Not = refl

spelt_assignment : (op : AssignmentOperator) → spelt (assignment_sign op) ≡ true
spelt_assignment assignments.Plain = refl
spelt_assignment assignments.Multiply = refl
spelt_assignment assignments.Divide = refl
spelt_assignment assignments.Remainder = refl
spelt_assignment assignments.Add = refl
spelt_assignment assignments.Subtract = refl
spelt_assignment assignments.ShiftLeft = refl
spelt_assignment assignments.ShiftRight = refl
spelt_assignment assignments.And = refl
spelt_assignment assignments.ExclusiveOr = refl
spelt_assignment assignments.Or = refl

spelt_selector : (s : Selector) → spelt (selector_sign s) ≡ true
spelt_selector selectors.Dot = refl
spelt_selector selectors.Arrow = refl

spelt_step : (s : Step) → spelt (step_sign s) ≡ true
spelt_step steps.Increment = refl
spelt_step steps.Decrement = refl

spelt_storage : (s : StorageClass) → spelt (storage_word s) ≡ true
spelt_storage storages.Typedef = refl
spelt_storage storages.Extern = refl
spelt_storage storages.Static = refl
spelt_storage storages.Auto = refl
spelt_storage storages.Register = refl

spelt_qualifier : (q : TypeQualifier) → spelt (qualifier_word q) ≡ true
spelt_qualifier qualifying.Const = refl
spelt_qualifier qualifying.Restrict = refl

spelt_kind : (k : StructOrUnion) → spelt (compound_word k) ≡ true
spelt_kind compounds.Struct = refl
spelt_kind compounds.Union = refl

spelt_word : (w : TypeWord) → spelt (type_word w) ≡ true
spelt_word void_word = refl
spelt_word char_word = refl
spelt_word short_word = refl
spelt_word int_word = refl
spelt_word long_word = refl
spelt_word signed_word = refl
spelt_word unsigned_word = refl
spelt_word bool_word = refl

------ phrases

spelt_qualifiers : (qs : Qualifiers) → all_spelt (qualifiers_tokens qs) ≡ true
spelt_qualifiers no_qualifiers = refl
spelt_qualifiers (then_qualifier qs q) = let e = spelt_qualifiers qs in
    simp (spelt_append, e, spelt_qualifier)

spelt_pointers : (ps : Pointers) → all_spelt (pointers_tokens ps) ≡ true
spelt_pointers no_pointers = refl
spelt_pointers (then_pointer ps p qs) = let e = spelt_pointers ps in let f = spelt_qualifiers qs in
    simp (spelt_append, e, f)

spelt_tag : (t : MayTag) → all_spelt (tag_tokens t) ≡ true
spelt_tag no_tag = refl
spelt_tag (tag p n) = refl

spelt_last_comma : (b : Bool) → all_spelt (last_comma b) ≡ true
spelt_last_comma false = refl
spelt_last_comma true = refl

spelt_last_ellipsis : (b : Bool) → all_spelt (last_ellipsis b) ≡ true
spelt_last_ellipsis false = refl
spelt_last_ellipsis true = refl

mutual
  pub spelt_expr : (a : Expr) → all_spelt (tokens_of a) ≡ true
  spelt_expr (identifier p n) = refl
  spelt_expr (constant p v) = refl
  spelt_expr (string p b) = refl
  spelt_expr (parenthesized p a) = let e = spelt_expr a in simp (spelt_append, e)
  spelt_expr (subscript p a b) = let e = spelt_expr a in let f = spelt_expr b in
      simp (spelt_append, e, f)
  spelt_expr (call p a xs) = let e = spelt_expr a in let f = spelt_arguments xs in
      simp (spelt_append, e, f)
  spelt_expr (member p s a n) = let e = spelt_expr a in simp (spelt_append, e, spelt_selector)
  spelt_expr (postfix p s a) = let e = spelt_expr a in simp (spelt_append, e, spelt_step)
  spelt_expr (prefix p s a) = let e = spelt_expr a in simp (e, spelt_step)
  spelt_expr (unary p op a) = let e = spelt_expr a in simp (e, spelt_unary)
  spelt_expr (sizeof_expr p a) = spelt_expr a
  spelt_expr (sizeof_type p t) = let e = spelt_type_name t in simp (spelt_append, e)
  spelt_expr (cast p t a) = let e = spelt_type_name t in let f = spelt_expr a in
      simp (spelt_append, e, f)
  spelt_expr (binary p op a b) = let e = spelt_expr a in let f = spelt_expr b in
      simp (spelt_append, e, f, spelt_binary)
  spelt_expr (conditional p a b c) =
      let e = spelt_expr a in let f = spelt_expr b in let g = spelt_expr c in
      simp (spelt_append, e, f, g)
  spelt_expr (assign p op a b) = let e = spelt_expr a in let f = spelt_expr b in
      simp (spelt_append, e, f, spelt_assignment)
  spelt_expr (comma p a b) = let e = spelt_expr a in let f = spelt_expr b in
      simp (spelt_append, e, f)

  spelt_arguments : (xs : Arguments) → all_spelt (arguments_tokens xs) ≡ true
  spelt_arguments no_arguments = refl
  spelt_arguments (then_argument no_arguments a) = spelt_expr a
  spelt_arguments (then_argument (then_argument xs b) a) =
      let e = spelt_arguments (then_argument xs b) in let f = spelt_expr a in
      simp (spelt_append, e, f)

  spelt_type_name : (t : TypeName) → all_spelt (type_name_tokens t) ≡ true
  spelt_type_name (type_name p xs m) =
      let e = spelt_specifiers xs in let f = spelt_may_declarator m in simp (spelt_append, e, f)

  pub spelt_specifiers : (xs : Specifiers) → all_spelt (specifiers_tokens xs) ≡ true
  spelt_specifiers no_specifiers = refl
  spelt_specifiers (then_specifier xs x) =
      let e = spelt_specifiers xs in let f = spelt_specifier x in simp (spelt_append, e, f)

  spelt_specifier : (x : Specifier) → all_spelt (specifier_tokens x) ≡ true
  spelt_specifier (storage p c) = simp (spelt_storage)
  spelt_specifier (of_type p t) = spelt_type t
  spelt_specifier (qualifier p q) = simp (spelt_qualifier)
  spelt_specifier (inline p) = refl

  spelt_type : (t : TypeSpecifier) → all_spelt (type_tokens t) ≡ true
  spelt_type (word p w) = simp (spelt_word)
  spelt_type (compound p c) = spelt_compound c
  spelt_type (enumeration p c) = spelt_enumeration c
  spelt_type (typedef_name p n) = refl

  spelt_compound : (c : CompoundSpecifier) → all_spelt (compound_tokens c) ≡ true
  spelt_compound (defined p k t ms) = let e = spelt_members ms in
      simp (spelt_append, e, spelt_kind, spelt_tag)
  spelt_compound (mentioned p k q n) = simp (spelt_kind)

  spelt_members : (ms : Members) → all_spelt (members_tokens ms) ≡ true
  spelt_members no_members = refl
  spelt_members (then_member ms m) = let e = spelt_members ms in let f = spelt_member m in
      simp (spelt_append, e, f)

  spelt_member : (m : MemberDeclaration) → all_spelt (member_tokens m) ≡ true
  spelt_member (members_of p xs ds) =
      let e = spelt_specifiers xs in let f = spelt_declarators ds in simp (spelt_append, e, f)

  spelt_declarators : (xs : Declarators) → all_spelt (declarators_tokens xs) ≡ true
  spelt_declarators no_declarators = refl
  spelt_declarators (then_declarator no_declarators x) = spelt_declarator x
  spelt_declarators (then_declarator (then_declarator xs y) x) =
      let e = spelt_declarators (then_declarator xs y) in let f = spelt_declarator x in
      simp (spelt_append, e, f)

  spelt_enumeration : (c : EnumSpecifier) → all_spelt (enumeration_tokens c) ≡ true
  spelt_enumeration (listed p t es b) = let e = spelt_enumerators es in
      simp (spelt_append, e, spelt_tag, spelt_last_comma)
  spelt_enumeration (listed_before p q n) = refl

  spelt_enumerators : (xs : Enumerators) → all_spelt (enumerators_tokens xs) ≡ true
  spelt_enumerators no_enumerators = refl
  spelt_enumerators (then_enumerator no_enumerators x) = spelt_enumerator x
  spelt_enumerators (then_enumerator (then_enumerator xs y) x) =
      let e = spelt_enumerators (then_enumerator xs y) in let f = spelt_enumerator x in
      simp (spelt_append, e, f)

  spelt_enumerator : (x : Enumerator) → all_spelt (enumerator_tokens x) ≡ true
  spelt_enumerator (plain p n) = refl
  spelt_enumerator (valued p n a) = spelt_expr a

  pub spelt_declarator : (x : Declarator) → all_spelt (declarator_tokens x) ≡ true
  spelt_declarator (declarator p ps c ss) = let e = spelt_core c in let f = spelt_suffixes ss in
      simp (spelt_append, e, f, spelt_pointers)

  spelt_may_declarator : (m : MayDeclarator) → all_spelt (may_declarator_tokens m) ≡ true
  spelt_may_declarator no_declarator = refl
  spelt_may_declarator (some_declarator x) = spelt_declarator x

  spelt_core : (c : Core) → all_spelt (core_tokens c) ≡ true
  spelt_core nothing = refl
  spelt_core (named p n) = refl
  spelt_core (group p x) = let e = spelt_declarator x in simp (spelt_append, e)

  spelt_suffixes : (ss : Suffixes) → all_spelt (suffixes_tokens ss) ≡ true
  spelt_suffixes no_suffixes = refl
  spelt_suffixes (then_suffix ss s) = let e = spelt_suffixes ss in let f = spelt_suffix s in
      simp (spelt_append, e, f)

  spelt_suffix : (s : Suffix) → all_spelt (suffix_tokens s) ≡ true
  spelt_suffix (unsized p qs) = simp (spelt_append, spelt_qualifiers)
  spelt_suffix (sized p qs a) = let e = spelt_expr a in simp (spelt_append, e, spelt_qualifiers)
  spelt_suffix (function p ps) = let e = spelt_parameter_types ps in simp (spelt_append, e)
  spelt_suffix (unprototyped p) = refl

  spelt_parameter_types : (ps : ParameterTypes) → all_spelt (parameter_types_tokens ps) ≡ true
  spelt_parameter_types (parameter_types p ps b) = let e = spelt_parameters ps in
      simp (spelt_append, e, spelt_last_ellipsis)

  spelt_parameters : (xs : Parameters) → all_spelt (parameters_tokens xs) ≡ true
  spelt_parameters no_parameters = refl
  spelt_parameters (then_parameter no_parameters x) = spelt_parameter x
  spelt_parameters (then_parameter (then_parameter xs y) x) =
      let e = spelt_parameters (then_parameter xs y) in let f = spelt_parameter x in
      simp (spelt_append, e, f)

  spelt_parameter : (x : Parameter) → all_spelt (parameter_tokens x) ≡ true
  spelt_parameter (parameter p xs m) =
      let e = spelt_specifiers xs in let f = spelt_may_declarator m in simp (spelt_append, e, f)

spelt_designation : (g : Designation) → all_spelt (designation_tokens g) ≡ true
spelt_designation no_designation = refl
spelt_designation (of_index p a) = let e = spelt_expr a in simp (spelt_append, e)
spelt_designation (of_member p n) = refl

mutual
  spelt_initializer : (x : Initializer) → all_spelt (initializer_tokens x) ≡ true
  spelt_initializer (value p a) = spelt_expr a
  spelt_initializer (braced p xs b) = let e = spelt_initializers xs in
      simp (spelt_append, e, spelt_last_comma)

  spelt_initializers : (xs : Initializers) → all_spelt (initializers_tokens xs) ≡ true
  spelt_initializers no_initializers = refl
  spelt_initializers (then_initializer no_initializers p g x) =
      let e = spelt_designation g in let f = spelt_initializer x in simp (spelt_append, e, f)
  spelt_initializers (then_initializer (then_initializer xs q h y) p g x) =
      let k = spelt_initializers (then_initializer xs q h y) in
      let e = spelt_designation g in let f = spelt_initializer x in simp (spelt_append, k, e, f)

spelt_init_declarator : (x : InitDeclarator) → all_spelt (init_declarator_tokens x) ≡ true
spelt_init_declarator (bare p x) = spelt_declarator x
spelt_init_declarator (initialized p x i) = simp (spelt_append, spelt_declarator, spelt_initializer)

spelt_init_declarators : (xs : InitDeclarators) → all_spelt (init_declarators_tokens xs) ≡ true
spelt_init_declarators no_init_declarators = refl
spelt_init_declarators (then_init_declarator no_init_declarators x) = spelt_init_declarator x
spelt_init_declarators (then_init_declarator (then_init_declarator xs y) x) =
    let e = spelt_init_declarators (then_init_declarator xs y) in
    simp (spelt_append, e, spelt_init_declarator)

pub spelt_declaration : (g : Declaration) → all_spelt (declaration_tokens g) ≡ true
spelt_declaration (declaration p xs ds) =
    simp (spelt_append, spelt_specifiers, spelt_init_declarators)

pub spelt_option : (a : Option Expr) → all_spelt (option_tokens a) ≡ true
spelt_option None = refl
spelt_option (Some a) = spelt_expr a

------ statements and programs

mutual
  spelt_statement : (s : Stmt) → all_spelt (statement_tokens s) ≡ true
  spelt_statement (case_of p a s) = let e = spelt_statement s in simp (spelt_append, e, spelt_expr)
  spelt_statement (default_of p s) = spelt_statement s
  spelt_statement (statements.compound p xs) = let e = spelt_items xs in simp (spelt_append, e)
  spelt_statement (expression p a) = simp (spelt_append, spelt_option)
  spelt_statement (if_only p a s) = let e = spelt_statement s in simp (spelt_append, e, spelt_expr)
  spelt_statement (if_else p a s t) = let e = spelt_statement s in let f = spelt_statement t in
      simp (spelt_append, e, f, spelt_expr)
  spelt_statement (switch p a s) = let e = spelt_statement s in simp (spelt_append, e, spelt_expr)
  spelt_statement (while_do p a s) = let e = spelt_statement s in
      simp (spelt_append, e, spelt_expr)
  spelt_statement (do_while p s a) = let e = spelt_statement s in
      simp (spelt_append, e, spelt_expr)
  spelt_statement (for_expressions p a b c s) = let e = spelt_statement s in
      simp (spelt_append, e, spelt_option)
  spelt_statement (for_declaration p g b c s) = let e = spelt_statement s in
      simp (spelt_append, e, spelt_option, spelt_declaration)
  spelt_statement (continue_loop p) = refl
  spelt_statement (break_out p) = refl
  spelt_statement (return_with p a) = simp (spelt_append, spelt_option)

  spelt_items : (xs : Items) → all_spelt (items_tokens xs) ≡ true
  spelt_items no_items = refl
  spelt_items (then_item xs x) = let e = spelt_items xs in let f = spelt_item x in
      simp (spelt_append, e, f)

  spelt_item : (x : Item) → all_spelt (item_tokens x) ≡ true
  spelt_item (declares p g) = spelt_declaration g
  spelt_item (does p s) = spelt_statement s

spelt_external : (x : External) → all_spelt (external_tokens x) ≡ true
spelt_external (defines p (function_definition q xs x s)) =
    simp (spelt_append, spelt_specifiers, spelt_declarator, spelt_statement)
spelt_external (declares_outside p g) = spelt_declaration g
spelt_external (empty p) = refl

pub spelt_externals : (xs : List External) → all_spelt (externals_tokens xs) ≡ true
spelt_externals [] = refl
spelt_externals (x ∷ xs) = let e = spelt_externals xs in simp (spelt_append, e, spelt_external)
