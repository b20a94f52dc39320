-- Of a tree's tokens no two string literals are neighbours, and none is `#`: between two phrases
-- there always stands another token.
use Rattle.std.proofs.Common.{◌≡◌, Bool, true, false, not, List, [], ◌∷◌, ◌++◌, refl, ◌∙◌, append_assoc, Option, Some, None}
use Rattle.std.specs.Prelude.{◌&&◌}
use Rattle.hv_base.specs.declared.operator.BinaryOperator.{BinaryOperator}
use Rattle.hv_base.specs.declared.operator.BinaryOperator.TheVariants as binaries
use Rattle.hv_ctree.specs.declared.tree.words.AssignmentOperator.{AssignmentOperator}
use Rattle.hv_ctree.specs.declared.tree.words.AssignmentOperator.TheVariants as assignments
use Rattle.hv_ctree.specs.declared.tree.words.Selector.{Selector}
use Rattle.hv_ctree.specs.declared.tree.words.Selector.TheVariants as selectors
use Rattle.hv_ctree.specs.declared.tree.words.Step.{Step}
use Rattle.hv_ctree.specs.declared.tree.words.Step.TheVariants as steps
use Rattle.hv_ctree.specs.declared.tree.words.StorageClass.{StorageClass}
use Rattle.hv_ctree.specs.declared.tree.words.StorageClass.TheVariants as storages
use Rattle.hv_ctree.specs.declared.tree.words.StructOrUnion.{StructOrUnion}
use Rattle.hv_ctree.specs.declared.tree.words.StructOrUnion.TheVariants as compounds
use Rattle.hv_ctree.specs.declared.tree.words.TypeQualifier.{TypeQualifier}
use Rattle.hv_ctree.specs.declared.tree.words.TypeQualifier.TheVariants as qualifying
use Rattle.hv_ctree.specs.declared.tree.words.UnaryOperator.{UnaryOperator}
use Rattle.hv_ctree.specs.declared.tree.words.UnaryOperator.TheVariants as unaries
use Rattle.hv_ctree.specs.tree.Expressions.{Expr, identifier, constant, string, parenthesized, subscript, call, member, postfix, prefix, unary, sizeof_expr, sizeof_type, cast, binary, conditional, assign, comma, Arguments, no_arguments, then_argument, TypeName, type_name, Specifiers, no_specifiers, then_specifier, Specifier, storage, of_type, qualifier, inline, TypeSpecifier, word, compound, enumeration, typedef_name, CompoundSpecifier, defined, mentioned, MayTag, no_tag, tag, Members, no_members, then_member, MemberDeclaration, members_of, Declarators, no_declarators, then_declarator, EnumSpecifier, listed, listed_before, Enumerators, no_enumerators, then_enumerator, Enumerator, plain, valued, Declarator, declarator, MayDeclarator, no_declarator, some_declarator, Core, nothing, named, group, Suffixes, no_suffixes, then_suffix, Suffix, unsized, sized, function, unprototyped, ParameterTypes, parameter_types, Parameters, no_parameters, then_parameter, Parameter, parameter, Pointers, no_pointers, then_pointer, Qualifiers, no_qualifiers, then_qualifier, TypeWord, void_word, char_word, short_word, int_word, long_word, signed_word, unsigned_word, bool_word}
use Rattle.hv_ctree.specs.tree.Statements.{Designation, no_designation, of_index, of_member, Initializer, value, braced, Initializers, no_initializers, then_initializer, InitDeclarator, bare, initialized, InitDeclarators, no_init_declarators, then_init_declarator, Declaration, declaration, Stmt, case_of, default_of, expression, if_only, if_else, switch, while_do, do_while, for_expressions, for_declaration, continue_loop, break_out, return_with, Items, no_items, then_item, Item, declares, does, FunctionDefinition, function_definition, External, defines, declares_outside, empty}
use Rattle.hv_ctree.specs.tree.Statements as statements
use Rattle.hv_grammar.specs.Symbols.{Symbol, left_paren, right_paren, left_bracket, right_bracket, left_brace, right_brace, comma_sign, colon, semicolon, equal_sign, keyword, name, marked, number, text, sign, hole, foreign, binary_sign, unary_sign, assignment_sign, selector_sign, step_sign, storage_word, qualifier_word, compound_word, type_word}
use Rattle.hv_grammar.specs.Tokens.{qualifiers_tokens, pointers_tokens, tag_tokens, tokens_of, arguments_tokens, type_name_tokens, specifiers_tokens, specifier_tokens, type_tokens, compound_tokens, members_tokens, member_tokens, declarators_tokens, declarator_tokens, enumeration_tokens, enumerators_tokens, enumerator_tokens, may_declarator_tokens, core_tokens, suffixes_tokens, suffix_tokens, parameter_types_tokens, parameters_tokens, parameter_tokens, designation_tokens, initializer_tokens, initializers_tokens, init_declarator_tokens, init_declarators_tokens, declaration_tokens, option_tokens}
use Rattle.hv_print.specs.ProgramTokens.{statement_tokens, items_tokens, item_tokens, external_tokens, externals_tokens}
use Rattle.hv_base.specs.declared.keyword.Keyword.TheVariants as keywords
use Rattle.hv_base.specs.declared.punct.Punct.{Punct}
use Rattle.hv_base.specs.declared.punct.Punct.TheVariants as puncts

-- `#`
abbrev pub is_hash : Punct → Bool
is_hash puncts.Hash = true
is_hash _ = false

-- a token that is neither a string literal nor `#`
abbrev pub is_plain : Symbol → Bool
is_plain (keyword k) = true
is_plain (name n) = true
is_plain (marked n) = true
is_plain (number v) = true
is_plain (text b) = false
is_plain (sign p) = not (is_hash p)
is_plain hole = false
is_plain foreign = false

-- whether these are tokens, none of them `#`, and no two string literals are neighbours, where
-- `after` says whether one stands before them
abbrev pub apart : (after : Bool) → List Symbol → Bool
apart after [] = true
apart after (keyword k ∷ ss) = apart false ss
apart after (name n ∷ ss) = apart false ss
apart after (marked n ∷ ss) = apart false ss
apart after (number v ∷ ss) = apart false ss
apart after (text b ∷ ss) = not after && apart true ss
apart after (sign p ∷ ss) = not (is_hash p) && apart false ss
apart after (hole ∷ ss) = false
apart after (foreign ∷ ss) = false

-- such a token may stand anywhere
separate : (s : Symbol) → is_plain s ≡ true → (after : Bool) (rest : List Symbol)
    → apart after (s ∷ rest) ≡ apart false rest
separate (keyword k) h after rest = refl
separate (name n) h after rest = refl
separate (marked n) h after rest = refl
separate (number v) h after rest = refl
separate (text b) h after rest = cc
separate (sign p) h after rest = rw h refl
separate hole h after rest = cc
separate foreign h after rest = cc

------ words and signs

plain_binary : (op : BinaryOperator) → is_plain (binary_sign op) ≡ true
plain_binary binaries.Multiply = refl
plain_binary binaries.Divide = refl
plain_binary binaries.Remainder = refl
plain_binary binaries.Add = refl
plain_binary binaries.Subtract = refl
plain_binary binaries.ShiftLeft = refl
plain_binary binaries.ShiftRight = refl
plain_binary binaries.Less = refl
plain_binary binaries.Greater = refl
plain_binary binaries.LessEqual = refl
plain_binary binaries.GreaterEqual = refl
plain_binary binaries.Equal = refl
plain_binary binaries.NotEqual = refl
plain_binary binaries.And = refl
plain_binary binaries.ExclusiveOr = refl
plain_binary binaries.Or = refl
plain_binary binaries.LogicalAnd = refl
plain_binary binaries.LogicalOr = refl

plain_unary : (op : UnaryOperator) → is_plain (unary_sign op) ≡ true
plain_unary unaries.Address = refl
plain_unary unaries.Indirection = refl
plain_unary unaries.Plus = refl
plain_unary unaries.Minus = refl
plain_unary unaries.Complement = refl
plain_unary unaries.Not = refl

plain_assignment : (op : AssignmentOperator) → is_plain (assignment_sign op) ≡ true
plain_assignment assignments.Plain = refl
plain_assignment assignments.Multiply = refl
plain_assignment assignments.Divide = refl
plain_assignment assignments.Remainder = refl
plain_assignment assignments.Add = refl
plain_assignment assignments.Subtract = refl
plain_assignment assignments.ShiftLeft = refl
plain_assignment assignments.ShiftRight = refl
plain_assignment assignments.And = refl
plain_assignment assignments.ExclusiveOr = refl
plain_assignment assignments.Or = refl

plain_selector : (s : Selector) → is_plain (selector_sign s) ≡ true
plain_selector selectors.Dot = refl
plain_selector selectors.Arrow = refl

plain_step : (s : Step) → is_plain (step_sign s) ≡ true
plain_step steps.Increment = refl
plain_step steps.Decrement = refl

plain_storage : (s : StorageClass) → is_plain (storage_word s) ≡ true
plain_storage storages.Typedef = refl
plain_storage storages.Extern = refl
plain_storage storages.Static = refl
plain_storage storages.Auto = refl
plain_storage storages.Register = refl

plain_qualifier : (q : TypeQualifier) → is_plain (qualifier_word q) ≡ true
plain_qualifier qualifying.Const = refl
plain_qualifier qualifying.Restrict = refl

plain_kind : (k : StructOrUnion) → is_plain (compound_word k) ≡ true
plain_kind compounds.Struct = refl
plain_kind compounds.Union = refl

plain_word : (w : TypeWord) → is_plain (type_word w) ≡ true
plain_word void_word = refl
plain_word char_word = refl
plain_word short_word = refl
plain_word int_word = refl
plain_word long_word = refl
plain_word signed_word = refl
plain_word unsigned_word = refl
plain_word bool_word = refl

------ phrases

apart_qualifiers : (x : Qualifiers) (rest : List Symbol)
    → apart false (qualifiers_tokens x ++ rest) ≡ apart false rest
apart_qualifiers no_qualifiers rest = refl
apart_qualifiers (then_qualifier qs q) rest =
    let e = apart_qualifiers qs (qualifier_word q ∷ rest) in
    let f = separate (qualifier_word q) (plain_qualifier q) false rest in
    simp (append_assoc, e, f)

apart_pointers : (x : Pointers) (rest : List Symbol)
    → apart false (pointers_tokens x ++ rest) ≡ apart false rest
apart_pointers no_pointers rest = refl
apart_pointers (then_pointer ps p qs) rest =
    let e = apart_pointers ps (sign puncts.Star ∷ (qualifiers_tokens qs ++ rest)) in
    let f = apart_qualifiers qs rest in
    simp (append_assoc, e, f)

apart_tag : (x : MayTag) (rest : List Symbol)
    → apart false (tag_tokens x ++ rest) ≡ apart false rest
apart_tag no_tag rest = refl
apart_tag (tag p n) rest = refl

mutual
  apart_expr : (x : Expr) (next : Symbol) → is_plain next ≡ true → (rest : List Symbol)
      → apart false (tokens_of x ++ next ∷ rest) ≡ apart false rest
  apart_expr (identifier p n) next h rest =
      separate next h false rest
  apart_expr (constant p v) next h rest =
      separate next h false rest
  apart_expr (string p b) next h rest = separate next h true rest
  apart_expr (parenthesized p a) next h rest =
      let e = apart_expr a right_paren refl (next ∷ rest) in
      let f = separate next h false rest in
      simp (append_assoc, e, f)
  apart_expr (subscript p a b) next h rest =
      let e = apart_expr a left_bracket refl (tokens_of b ++ right_bracket ∷ next ∷ rest) in
      let f = apart_expr b right_bracket refl (next ∷ rest) in
      let u = separate next h false rest in
      simp (append_assoc, e, f, u)
  apart_expr (call p a xs) next h rest =
      let e = apart_expr a left_paren refl (arguments_tokens xs ++ right_paren ∷ next ∷ rest) in
      let f = apart_arguments xs right_paren refl (next ∷ rest) in
      let u = separate next h false rest in
      simp (append_assoc, e, f, u)
  apart_expr (member p c a n) next h rest =
      let e = apart_expr a (selector_sign c) (plain_selector c) (name n ∷ next ∷ rest) in
      let f = separate next h false rest in
      simp (append_assoc, e, f)
  apart_expr (postfix p c a) next h rest =
      let e = apart_expr a (step_sign c) (plain_step c) (next ∷ rest) in
      let f = separate next h false rest in
      simp (append_assoc, e, f)
  apart_expr (prefix p c a) next h rest =
      let e = separate (step_sign c) (plain_step c) false (tokens_of a ++ next ∷ rest) in
      let f = apart_expr a next h rest in
      simp (append_assoc, e, f)
  apart_expr (unary p op a) next h rest =
      let e = separate (unary_sign op) (plain_unary op) false (tokens_of a ++ next ∷ rest) in
      let f = apart_expr a next h rest in
      simp (append_assoc, e, f)
  apart_expr (sizeof_expr p a) next h rest =
      let e = apart_expr a next h rest in
      simp (append_assoc, e)
  apart_expr (sizeof_type p t) next h rest =
      let e = apart_type_name t (right_paren ∷ next ∷ rest) in
      let f = separate next h false rest in
      simp (append_assoc, e, f)
  apart_expr (cast p t a) next h rest =
      let e = apart_type_name t (right_paren ∷ (tokens_of a ++ next ∷ rest)) in
      let f = apart_expr a next h rest in
      simp (append_assoc, e, f)
  apart_expr (binary p op a b) next h rest =
      let e = apart_expr a (binary_sign op) (plain_binary op) (tokens_of b ++ next ∷ rest) in
      let f = apart_expr b next h rest in
      simp (append_assoc, e, f)
  apart_expr (conditional p a b c) next h rest =
      let e =
      apart_expr a (sign puncts.Question) refl
      (tokens_of b ++ colon ∷ (tokens_of c ++ next ∷ rest)) in
      let f = apart_expr b colon refl (tokens_of c ++ next ∷ rest) in
      let u = apart_expr c next h rest in
      simp (append_assoc, e, f, u)
  apart_expr (assign p op a b) next h rest =
      let e =
      apart_expr a (assignment_sign op) (plain_assignment op) (tokens_of b ++ next ∷ rest) in
      let f = apart_expr b next h rest in
      simp (append_assoc, e, f)
  apart_expr (comma p a b) next h rest =
      let e = apart_expr a comma_sign refl (tokens_of b ++ next ∷ rest) in
      let f = apart_expr b next h rest in
      simp (append_assoc, e, f)

  apart_arguments : (x : Arguments) (next : Symbol) → is_plain next ≡ true → (rest : List Symbol)
      → apart false (arguments_tokens x ++ next ∷ rest) ≡ apart false rest
  apart_arguments no_arguments next h rest =
      separate next h false rest
  apart_arguments (then_argument no_arguments a) next h rest =
      apart_expr a next h rest
  apart_arguments (then_argument (then_argument xs b) a) next h rest =
      let e = apart_arguments (then_argument xs b) comma_sign refl (tokens_of a ++ next ∷ rest) in
      let f = apart_expr a next h rest in
      simp (append_assoc, e, f)

  apart_type_name : (x : TypeName) (rest : List Symbol)
      → apart false (type_name_tokens x ++ rest) ≡ apart false rest
  apart_type_name (type_name p xs m) rest =
      let e = apart_specifiers xs (may_declarator_tokens m ++ rest) in
      let f = apart_may_declarator m rest in
      simp (append_assoc, e, f)

  apart_specifiers : (x : Specifiers) (rest : List Symbol)
      → apart false (specifiers_tokens x ++ rest) ≡ apart false rest
  apart_specifiers no_specifiers rest = refl
  apart_specifiers (then_specifier xs x) rest =
      let e = apart_specifiers xs (specifier_tokens x ++ rest) in
      let f = apart_specifier x rest in
      simp (append_assoc, e, f)

  apart_specifier : (x : Specifier) (rest : List Symbol)
      → apart false (specifier_tokens x ++ rest) ≡ apart false rest
  apart_specifier (storage p c) rest =
      separate (storage_word c) (plain_storage c) false rest
  apart_specifier (of_type p t) rest =
      apart_type t rest
  apart_specifier (qualifier p q) rest =
      separate (qualifier_word q) (plain_qualifier q) false rest
  apart_specifier (inline p) rest = refl

  apart_type : (x : TypeSpecifier) (rest : List Symbol)
      → apart false (type_tokens x ++ rest) ≡ apart false rest
  apart_type (word p w) rest =
      separate (type_word w) (plain_word w) false rest
  apart_type (compound p c) rest =
      apart_compound c rest
  apart_type (enumeration p c) rest =
      apart_enumeration c rest
  apart_type (typedef_name p n) rest = refl

  apart_compound : (x : CompoundSpecifier) (rest : List Symbol)
      → apart false (compound_tokens x ++ rest) ≡ apart false rest
  apart_compound (defined p k t ms) rest =
      let e =
      separate (compound_word k) (plain_kind k) false
      (tag_tokens t ++ left_brace ∷ (members_tokens ms ++ right_brace ∷ rest)) in
      let f = apart_tag t (left_brace ∷ (members_tokens ms ++ right_brace ∷ rest)) in
      let u = apart_members ms (right_brace ∷ rest) in
      simp (append_assoc, e, f, u)
  apart_compound (mentioned p k q n) rest =
      let e = separate (compound_word k) (plain_kind k) false (name n ∷ rest) in
      simp (append_assoc, e)

  apart_members : (x : Members) (rest : List Symbol)
      → apart false (members_tokens x ++ rest) ≡ apart false rest
  apart_members no_members rest = refl
  apart_members (then_member ms m) rest =
      let e = apart_members ms (member_tokens m ++ rest) in
      let f = apart_member m rest in
      simp (append_assoc, e, f)

  apart_member : (x : MemberDeclaration) (rest : List Symbol)
      → apart false (member_tokens x ++ rest) ≡ apart false rest
  apart_member (members_of p xs ds) rest =
      let e = apart_specifiers xs (declarators_tokens ds ++ semicolon ∷ rest) in
      let f = apart_declarators ds (semicolon ∷ rest) in
      simp (append_assoc, e, f)

  apart_declarators : (x : Declarators) (rest : List Symbol)
      → apart false (declarators_tokens x ++ rest) ≡ apart false rest
  apart_declarators no_declarators rest = refl
  apart_declarators (then_declarator no_declarators x) rest =
      apart_declarator x rest
  apart_declarators (then_declarator (then_declarator xs y) x) rest =
      let e =
      apart_declarators (then_declarator xs y) (comma_sign ∷ (declarator_tokens x ++ rest)) in
      let f = apart_declarator x rest in
      simp (append_assoc, e, f)

  apart_enumeration : (x : EnumSpecifier) (rest : List Symbol)
      → apart false (enumeration_tokens x ++ rest) ≡ apart false rest
  apart_enumeration (listed p t es true) rest =
      let e =
      apart_tag t (left_brace ∷ (enumerators_tokens es ++ comma_sign ∷ right_brace ∷ rest)) in
      let f = apart_enumerators es comma_sign refl (right_brace ∷ rest) in
      simp (append_assoc, e, f)
  apart_enumeration (listed p t es false) rest =
      let e = apart_tag t (left_brace ∷ (enumerators_tokens es ++ right_brace ∷ rest)) in
      let f = apart_enumerators es right_brace refl rest in
      simp (append_assoc, e, f)
  apart_enumeration (listed_before p q n) rest = refl

  apart_enumerators : (x : Enumerators) (next : Symbol) → is_plain next ≡ true
      → (rest : List Symbol)
      → apart false (enumerators_tokens x ++ next ∷ rest) ≡ apart false rest
  apart_enumerators no_enumerators next h rest =
      separate next h false rest
  apart_enumerators (then_enumerator no_enumerators x) next h rest =
      apart_enumerator x next h rest
  apart_enumerators (then_enumerator (then_enumerator xs y) x) next h rest =
      let e =
      apart_enumerators (then_enumerator xs y) comma_sign refl
      (enumerator_tokens x ++ next ∷ rest) in
      let f = apart_enumerator x next h rest in
      simp (append_assoc, e, f)

  apart_enumerator : (x : Enumerator) (next : Symbol) → is_plain next ≡ true → (rest : List Symbol)
      → apart false (enumerator_tokens x ++ next ∷ rest) ≡ apart false rest
  apart_enumerator (plain p n) next h rest =
      separate next h false rest
  apart_enumerator (valued p n a) next h rest =
      let e = apart_expr a next h rest in
      simp (append_assoc, e)

  apart_declarator : (x : Declarator) (rest : List Symbol)
      → apart false (declarator_tokens x ++ rest) ≡ apart false rest
  apart_declarator (declarator p ps c ss) rest =
      let e = apart_pointers ps (core_tokens c ++ (suffixes_tokens ss ++ rest)) in
      let f = apart_core c (suffixes_tokens ss ++ rest) in
      let u = apart_suffixes ss rest in
      simp (append_assoc, e, f, u)

  apart_may_declarator : (x : MayDeclarator) (rest : List Symbol)
      → apart false (may_declarator_tokens x ++ rest) ≡ apart false rest
  apart_may_declarator no_declarator rest = refl
  apart_may_declarator (some_declarator x) rest =
      apart_declarator x rest

  apart_core : (x : Core) (rest : List Symbol)
      → apart false (core_tokens x ++ rest) ≡ apart false rest
  apart_core nothing rest = refl
  apart_core (named p n) rest = refl
  apart_core (group p x) rest =
      let e = apart_declarator x (right_paren ∷ rest) in
      simp (append_assoc, e)

  apart_suffixes : (x : Suffixes) (rest : List Symbol)
      → apart false (suffixes_tokens x ++ rest) ≡ apart false rest
  apart_suffixes no_suffixes rest = refl
  apart_suffixes (then_suffix ss s) rest =
      let e = apart_suffixes ss (suffix_tokens s ++ rest) in
      let f = apart_suffix s rest in
      simp (append_assoc, e, f)

  apart_suffix : (x : Suffix) (rest : List Symbol)
      → apart false (suffix_tokens x ++ rest) ≡ apart false rest
  apart_suffix (unsized p qs) rest =
      let e = apart_qualifiers qs (right_bracket ∷ rest) in
      simp (append_assoc, e)
  apart_suffix (sized p qs a) rest =
      let e = apart_qualifiers qs (tokens_of a ++ right_bracket ∷ rest) in
      let f = apart_expr a right_bracket refl rest in
      simp (append_assoc, e, f)
  apart_suffix (function p ps) rest =
      let e = apart_parameter_types ps (right_paren ∷ rest) in
      simp (append_assoc, e)
  apart_suffix (unprototyped p) rest = refl

  apart_parameter_types : (x : ParameterTypes) (rest : List Symbol)
      → apart false (parameter_types_tokens x ++ rest) ≡ apart false rest
  apart_parameter_types (parameter_types p ps true) rest =
      let e = apart_parameters ps (comma_sign ∷ sign puncts.Ellipsis ∷ rest) in
      simp (append_assoc, e)
  apart_parameter_types (parameter_types p ps false) rest =
      let e = apart_parameters ps rest in
      simp (append_assoc, e)

  apart_parameters : (x : Parameters) (rest : List Symbol)
      → apart false (parameters_tokens x ++ rest) ≡ apart false rest
  apart_parameters no_parameters rest = refl
  apart_parameters (then_parameter no_parameters x) rest =
      apart_parameter x rest
  apart_parameters (then_parameter (then_parameter xs y) x) rest =
      let e = apart_parameters (then_parameter xs y) (comma_sign ∷ (parameter_tokens x ++ rest)) in
      let f = apart_parameter x rest in
      simp (append_assoc, e, f)

  apart_parameter : (x : Parameter) (rest : List Symbol)
      → apart false (parameter_tokens x ++ rest) ≡ apart false rest
  apart_parameter (parameter p xs m) rest =
      let e = apart_specifiers xs (may_declarator_tokens m ++ rest) in
      let f = apart_may_declarator m rest in
      simp (append_assoc, e, f)

apart_designation : (x : Designation) (rest : List Symbol)
    → apart false (designation_tokens x ++ rest) ≡ apart false rest
apart_designation no_designation rest = refl
apart_designation (of_index p a) rest =
    let e = apart_expr a right_bracket refl (equal_sign ∷ rest) in
    simp (append_assoc, e)
apart_designation (of_member p n) rest = refl

mutual
  apart_initializer : (x : Initializer) (next : Symbol) → is_plain next ≡ true
      → (rest : List Symbol)
      → apart false (initializer_tokens x ++ next ∷ rest) ≡ apart false rest
  apart_initializer (value p a) next h rest =
      apart_expr a next h rest
  apart_initializer (braced p xs true) next h rest =
      let e = apart_initializers xs comma_sign refl (right_brace ∷ next ∷ rest) in
      let f = separate next h false rest in
      simp (append_assoc, e, f)
  apart_initializer (braced p xs false) next h rest =
      let e = apart_initializers xs right_brace refl (next ∷ rest) in
      let f = separate next h false rest in
      simp (append_assoc, e, f)

  apart_initializers : (x : Initializers) (next : Symbol) → is_plain next ≡ true
      → (rest : List Symbol)
      → apart false (initializers_tokens x ++ next ∷ rest) ≡ apart false rest
  apart_initializers no_initializers next h rest =
      separate next h false rest
  apart_initializers (then_initializer no_initializers p g x) next h rest =
      let e = apart_designation g (initializer_tokens x ++ next ∷ rest) in
      let f = apart_initializer x next h rest in
      simp (append_assoc, e, f)
  apart_initializers (then_initializer (then_initializer xs q k y) p g x) next h rest =
      let e =
      apart_initializers (then_initializer xs q k y) comma_sign refl
      (designation_tokens g ++ (initializer_tokens x ++ next ∷ rest)) in
      let f = apart_designation g (initializer_tokens x ++ next ∷ rest) in
      let u = apart_initializer x next h rest in
      simp (append_assoc, e, f, u)

apart_init_declarator : (x : InitDeclarator) (next : Symbol) → is_plain next ≡ true
    → (rest : List Symbol)
    → apart false (init_declarator_tokens x ++ next ∷ rest) ≡ apart false rest
apart_init_declarator (bare p x) next h rest =
    let e = apart_declarator x (next ∷ rest) in
    let f = separate next h false rest in
    simp (append_assoc, e, f)
apart_init_declarator (initialized p x i) next h rest =
    let e = apart_declarator x (equal_sign ∷ (initializer_tokens i ++ next ∷ rest)) in
    let f = apart_initializer i next h rest in
    simp (append_assoc, e, f)

apart_init_declarators : (x : InitDeclarators) (next : Symbol) → is_plain next ≡ true
    → (rest : List Symbol)
    → apart false (init_declarators_tokens x ++ next ∷ rest) ≡ apart false rest
apart_init_declarators no_init_declarators next h rest =
    separate next h false rest
apart_init_declarators (then_init_declarator no_init_declarators x) next h rest =
    apart_init_declarator x next h rest
apart_init_declarators (then_init_declarator (then_init_declarator xs y) x) next h rest =
    let e =
    apart_init_declarators (then_init_declarator xs y) comma_sign refl
    (init_declarator_tokens x ++ next ∷ rest) in
    let f = apart_init_declarator x next h rest in
    simp (append_assoc, e, f)

apart_declaration : (x : Declaration) (rest : List Symbol)
    → apart false (declaration_tokens x ++ rest) ≡ apart false rest
apart_declaration (declaration p xs ds) rest =
    let e = apart_specifiers xs (init_declarators_tokens ds ++ semicolon ∷ rest) in
    let f = apart_init_declarators ds semicolon refl rest in
    simp (append_assoc, e, f)

apart_option : (x : Option Expr) (next : Symbol) → is_plain next ≡ true → (rest : List Symbol)
    → apart false (option_tokens x ++ next ∷ rest) ≡ apart false rest
apart_option None next h rest =
    separate next h false rest
apart_option (Some a) next h rest =
    apart_expr a next h rest

------ statements and programs

mutual
  apart_statement : (x : Stmt) (rest : List Symbol)
      → apart false (statement_tokens x ++ rest) ≡ apart false rest
  apart_statement (case_of p a s) rest =
      let e = apart_expr a colon refl (statement_tokens s ++ rest) in
      let f = apart_statement s rest in
      simp (append_assoc, e, f)
  apart_statement (default_of p s) rest =
      let e = apart_statement s rest in
      simp (append_assoc, e)
  apart_statement (statements.compound p xs) rest =
      let e = apart_items xs (right_brace ∷ rest) in
      simp (append_assoc, e)
  apart_statement (expression p a) rest =
      let e = apart_option a semicolon refl rest in
      simp (append_assoc, e)
  apart_statement (if_only p a s) rest =
      let e = apart_expr a right_paren refl (statement_tokens s ++ rest) in
      let f = apart_statement s rest in
      simp (append_assoc, e, f)
  apart_statement (if_else p a s t) rest =
      let e =
      apart_expr a right_paren refl
      (statement_tokens s ++ keyword keywords.Else ∷ (statement_tokens t ++ rest)) in
      let f = apart_statement s (keyword keywords.Else ∷ (statement_tokens t ++ rest)) in
      let u = apart_statement t rest in
      simp (append_assoc, e, f, u)
  apart_statement (switch p a s) rest =
      let e = apart_expr a right_paren refl (statement_tokens s ++ rest) in
      let f = apart_statement s rest in
      simp (append_assoc, e, f)
  apart_statement (while_do p a s) rest =
      let e = apart_expr a right_paren refl (statement_tokens s ++ rest) in
      let f = apart_statement s rest in
      simp (append_assoc, e, f)
  apart_statement (do_while p s a) rest =
      let e =
      apart_statement s
      (keyword keywords.While ∷ left_paren ∷ (tokens_of a ++ right_paren ∷ semicolon ∷ rest)) in
      let f = apart_expr a right_paren refl (semicolon ∷ rest) in
      simp (append_assoc, e, f)
  apart_statement (for_expressions p a b c s) rest =
      let e =
      apart_option a semicolon refl
      (option_tokens b ++ semicolon ∷ (option_tokens c ++ right_paren ∷ (statement_tokens s ++ rest))) in
      let f =
      apart_option b semicolon refl
      (option_tokens c ++ right_paren ∷ (statement_tokens s ++ rest)) in
      let u = apart_option c right_paren refl (statement_tokens s ++ rest) in
      let v = apart_statement s rest in
      simp (append_assoc, e, f, u, v)
  apart_statement (for_declaration p g b c s) rest =
      let e =
      apart_declaration g
      (option_tokens b ++ semicolon ∷ (option_tokens c ++ right_paren ∷ (statement_tokens s ++ rest))) in
      let f =
      apart_option b semicolon refl
      (option_tokens c ++ right_paren ∷ (statement_tokens s ++ rest)) in
      let u = apart_option c right_paren refl (statement_tokens s ++ rest) in
      let v = apart_statement s rest in
      simp (append_assoc, e, f, u, v)
  apart_statement (continue_loop p) rest = refl
  apart_statement (break_out p) rest = refl
  apart_statement (return_with p a) rest =
      let e = apart_option a semicolon refl rest in
      simp (append_assoc, e)

  apart_items : (x : Items) (rest : List Symbol)
      → apart false (items_tokens x ++ rest) ≡ apart false rest
  apart_items no_items rest = refl
  apart_items (then_item xs x) rest =
      let e = apart_items xs (item_tokens x ++ rest) in
      let f = apart_item x rest in
      simp (append_assoc, e, f)

  apart_item : (x : Item) (rest : List Symbol)
      → apart false (item_tokens x ++ rest) ≡ apart false rest
  apart_item (declares p g) rest =
      apart_declaration g rest
  apart_item (does p s) rest =
      apart_statement s rest

apart_external : (x : External) (rest : List Symbol)
    → apart false (external_tokens x ++ rest) ≡ apart false rest
apart_external (defines p (function_definition q xs x s)) rest =
    let e = apart_specifiers xs (declarator_tokens x ++ (statement_tokens s ++ rest)) in
    let f = apart_declarator x (statement_tokens s ++ rest) in
    let u = apart_statement s rest in
    simp (append_assoc, e, f, u)
apart_external (declares_outside p g) rest =
    apart_declaration g rest
apart_external (empty p) rest = refl

pub apart_externals : (xs : List External) → apart false (externals_tokens xs) ≡ true
apart_externals [] = refl
apart_externals (x ∷ xs) = apart_external x (externals_tokens xs) ∙ apart_externals xs
