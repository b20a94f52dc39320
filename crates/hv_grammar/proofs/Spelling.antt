-- The tokens of the tree that is read are the tokens that were read.
use Rattle.std.proofs.Common.{◌≡◌, ℕ, Bool, List, [], ◌∷◌, ◌++◌, map, refl, ◌∙◌, append_assoc}
use Rattle.std.proofs.lemmas.List.{append-nil}
use Rattle.hv_ctree.specs.tree.Expressions.{Expr, Arguments, then_argument, TypeName, Specifiers, Specifier, TypeSpecifier, CompoundSpecifier, MayTag, Members, MemberDeclaration, Declarators, then_declarator, EnumSpecifier, Enumerators, then_enumerator, Enumerator, Declarator, MayDeclarator, Core, Suffixes, Suffix, ParameterTypes, Parameters, then_parameter, Parameter, Pointers, Qualifiers}
use Rattle.hv_grammar.specs.Symbols.{Symbol, Role, Marked, comma_sign}
use Rattle.hv_grammar.specs.Expressions.{Words, Naming, Reads, r_identifier, r_constant, r_string, r_parenthesized, r_subscript, r_call_none, r_call, r_member, r_postfix, r_prefix, r_unary, r_sizeof, r_sizeof_type, r_cast, r_binary, r_conditional, r_assign, r_comma, r_higher, ReadsArguments, r_argument, r_arguments, ReadsTypeName, r_type_name, ReadsSpecifiers, r_specifier, r_specifiers, ReadsSpecifier, r_storage, r_inline, r_qualifier, r_type, ReadsType, r_word, r_compound, r_enumeration, r_typedef_name, ReadsCompound, r_defined, r_mentioned, ReadsTag, r_no_tag, r_tag, ReadsMembers, r_member_first, r_members, ReadsMember, r_members_of, ReadsDeclarators, r_declarator_first, r_declarators, ReadsEnumeration, r_listed, r_listed_before, ReadsEnumerators, r_enumerator, r_enumerators, ReadsEnumerator, r_plain, r_valued, ReadsLastComma, r_no_comma, r_last_comma, ReadsDeclarator, r_declarator, ReadsPointers, r_no_pointers, r_pointer, ReadsQualifiers, r_no_qualifiers, r_qualifiers, ReadsDirect, r_core, r_suffix, ReadsCore, r_nothing, r_named, r_group, ReadsSuffix, r_unsized, r_sized, r_function, r_unprototyped, ReadsParameterTypes, r_fixed, r_variadic, ReadsParameters, r_parameter, r_parameters, ReadsParameter, r_parameter_named, r_parameter_abstract, ReadsAbstract, r_no_declarator, r_abstract}
use Rattle.hv_grammar.specs.Tokens.{qualifiers_tokens, pointers_tokens, tag_tokens, last_comma, tokens_of, arguments_tokens, type_name_tokens, specifiers_tokens, specifier_tokens, type_tokens, compound_tokens, members_tokens, member_tokens, declarators_tokens, declarator_tokens, enumeration_tokens, enumerators_tokens, enumerator_tokens, may_declarator_tokens, core_tokens, suffixes_tokens, suffix_tokens, parameter_types_tokens, parameters_tokens, parameter_tokens}

-- the tokens without their places and marks
abbrev pub symbols : List Marked → List Symbol
symbols ts = map (λ t. t.token.symbol) ts

------ lists with commas: one more
arguments_more : {d : ℕ} {ts us : List Marked} {xs : Arguments} (a : Expr)
    → ReadsArguments d ts us xs
    → arguments_tokens (then_argument xs a) ≡ arguments_tokens xs ++ comma_sign ∷ tokens_of a
arguments_more a (r_argument r) = refl
arguments_more a (r_arguments p r s) = refl

declarators_more : {r : Role} {d : ℕ} {ts us : List Marked} {xs : Declarators} (x : Declarator)
    → ReadsDeclarators r d ts us xs
    → declarators_tokens (then_declarator xs x) ≡ declarators_tokens xs ++ comma_sign ∷
    declarator_tokens x
declarators_more x (r_declarator_first h) = refl
declarators_more x (r_declarators p h g) = refl

enumerators_more : {r : Role} {d : ℕ} {ts us : List Marked} {xs : Enumerators} (x : Enumerator)
    → ReadsEnumerators r d ts us xs
    → enumerators_tokens (then_enumerator xs x) ≡ enumerators_tokens xs ++ comma_sign ∷
    enumerator_tokens x
enumerators_more x (r_enumerator h) = refl
enumerators_more x (r_enumerators p h g) = refl

parameters_more : {r : Role} {d : ℕ} {ts us : List Marked} {xs : Parameters} (x : Parameter)
    → ReadsParameters r d ts us xs
    → parameters_tokens (then_parameter xs x) ≡ parameters_tokens xs ++ comma_sign ∷
    parameter_tokens x
parameters_more x (r_parameter h) = refl
parameters_more x (r_parameters p h g) = refl

pub qualifiers_read : {r : Role} {d : ℕ} {ts us : List Marked} {qs : Qualifiers}
    → ReadsQualifiers r d ts us qs
    → symbols ts ≡ qualifiers_tokens qs ++ symbols us
qualifiers_read r_no_qualifiers = refl
qualifiers_read (r_qualifiers p q h) = let e = qualifiers_read h in rw e (simp append_assoc)

pub pointers_read : {r : Role} {d : ℕ} {ts us : List Marked} {ps : Pointers}
    → ReadsPointers r d ts us ps
    → symbols ts ≡ pointers_tokens ps ++ symbols us
pointers_read r_no_pointers = refl
pointers_read (r_pointer p h g) = let e = pointers_read h in let f = qualifiers_read g in
    rw (e, f) (simp append_assoc)

tag_read : {r : Role} {d : ℕ} {ts us : List Marked} {t : MayTag} → ReadsTag r d ts us t
    → symbols ts ≡ tag_tokens t ++ symbols us
tag_read r_no_tag = refl
tag_read (r_tag p n) = refl

pub last_comma_read : {r : Role} {d : ℕ} {ts us : List Marked} {b : Bool}
    → ReadsLastComma r d ts us b → symbols ts ≡ last_comma b ++ symbols us
last_comma_read r_no_comma = refl
last_comma_read (r_last_comma p) = refl

mutual
  pub expression_read : {d k : ℕ} {ts us : List Marked} {a : Expr} → Reads d k ts us a
      → symbols ts ≡ tokens_of a ++ symbols us
  expression_read (r_identifier p n) = refl
  expression_read (r_constant p v) = refl
  expression_read (r_string p b) = refl
  expression_read (r_parenthesized p q r) = let e = expression_read r in rw e (simp append_assoc)
  expression_read (r_subscript p q r s) = let e = expression_read r in let f = expression_read s in
      rw (e, f) (simp append_assoc)
  expression_read (r_call_none p q r) = let e = expression_read r in rw e (simp append_assoc)
  expression_read (r_call p q r s) = let e = expression_read r in let f = arguments_read s in
      rw (e, f) (simp append_assoc)
  expression_read (r_member p q n s r) = let e = expression_read r in rw e (simp append_assoc)
  expression_read (r_postfix p s r) = let e = expression_read r in rw e (simp append_assoc)
  expression_read (r_prefix p s r) = let e = expression_read r in rw e refl
  expression_read (r_unary p op r) = let e = expression_read r in rw e refl
  expression_read (r_sizeof p r) = let e = expression_read r in rw e refl
  expression_read (r_sizeof_type p q x r) = let e = type_name_read r in rw e (simp append_assoc)
  expression_read (r_cast p q r s) = let e = type_name_read r in let f = expression_read s in
      rw (e, f) (simp append_assoc)
  expression_read (r_binary p op r s) = let e = expression_read r in let f = expression_read s in
      rw (e, f) (simp append_assoc)
  expression_read (r_conditional p q r s t) =
      let e = expression_read r in let f = expression_read s in let g = expression_read t in
      rw (e, f, g) (simp append_assoc)
  expression_read (r_assign p op r s) = let e = expression_read r in let f = expression_read s in
      rw (e, f) (simp append_assoc)
  expression_read (r_comma p r s) = let e = expression_read r in let f = expression_read s in
      rw (e, f) (simp append_assoc)
  expression_read (r_higher r) = expression_read r

  pub arguments_read : {d : ℕ} {ts us : List Marked} {xs : Arguments} → ReadsArguments d ts us xs
      → symbols ts ≡ arguments_tokens xs ++ symbols us
  arguments_read (r_argument r) = expression_read r
  arguments_read (r_arguments {a = a} p r s) =
      let m = arguments_more a r in let e = arguments_read r in let f = expression_read s in
      rw (m, e, f) (simp append_assoc)

  pub type_name_read : {d : ℕ} {ts us : List Marked} {t : TypeName} → ReadsTypeName d ts us t
      → symbols ts ≡ type_name_tokens t ++ symbols us
  type_name_read (r_type_name b r s) = let e = specifiers_read r in let f = abstract_read s in
      rw (e, f) (simp append_assoc)

  pub specifiers_read : {r : Role} {d : ℕ} {w : Words} {ts us : List Marked} {xs : Specifiers}
      → ReadsSpecifiers r d w ts us xs
      → symbols ts ≡ specifiers_tokens xs ++ symbols us
  specifiers_read (r_specifier h) = specifier_read h
  specifiers_read (r_specifiers h g) = let e = specifiers_read h in let f = specifier_read g in
      rw (e, f) (simp append_assoc)

  pub specifier_read : {r : Role} {d : ℕ} {w : Words} {seen : Bool} {ts us : List Marked}
      {x : Specifier} → ReadsSpecifier r d w seen ts us x
      → symbols ts ≡ specifier_tokens x ++ symbols us
  specifier_read (r_storage p c) = refl
  specifier_read (r_inline p) = refl
  specifier_read (r_qualifier p q) = refl
  specifier_read (r_type h) = type_read h

  pub type_read : {r : Role} {d : ℕ} {seen : Bool} {ts us : List Marked} {t : TypeSpecifier}
      → ReadsType r d seen ts us t
      → symbols ts ≡ type_tokens t ++ symbols us
  type_read (r_word p w) = refl
  type_read (r_compound h) = compound_read h
  type_read (r_enumeration h) = enumeration_read h
  type_read (r_typedef_name p n) = refl

  pub compound_read : {r : Role} {d : ℕ} {ts us : List Marked} {c : CompoundSpecifier}
      → ReadsCompound r d ts us c
      → symbols ts ≡ compound_tokens c ++ symbols us
  compound_read (r_defined p q x k h g) = let e = tag_read h in let f = members_read g in
      rw (e, f) (simp append_assoc)
  compound_read (r_mentioned p q k n) = refl

  pub members_read : {r : Role} {d : ℕ} {ts us : List Marked} {ms : Members}
      → ReadsMembers r d ts us ms → symbols ts ≡ members_tokens ms ++ symbols us
  members_read (r_member_first h) = member_read h
  members_read (r_members h g) = let e = members_read h in let f = member_read g in
      rw (e, f) (simp append_assoc)

  pub member_read : {r : Role} {d : ℕ} {ts us : List Marked} {m : MemberDeclaration}
      → ReadsMember r d ts us m → symbols ts ≡ member_tokens m ++ symbols us
  member_read (r_members_of q b h g) = let e = specifiers_read h in let f = declarators_read g in
      rw (e, f) (simp append_assoc)

  pub declarators_read : {r : Role} {d : ℕ} {ts us : List Marked} {xs : Declarators}
      → ReadsDeclarators r d ts us xs
      → symbols ts ≡ declarators_tokens xs ++ symbols us
  declarators_read (r_declarator_first h) = declarator_read h
  declarators_read (r_declarators {x = x} p h g) =
      let m = declarators_more x h in let e = declarators_read h in let f = declarator_read g in
      rw (m, e, f) (simp append_assoc)

  pub enumeration_read : {r : Role} {d : ℕ} {ts us : List Marked} {c : EnumSpecifier}
      → ReadsEnumeration r d ts us c
      → symbols ts ≡ enumeration_tokens c ++ symbols us
  enumeration_read (r_listed p q x h g l) =
      let e = tag_read h in let f = enumerators_read g in let i = last_comma_read l in
      rw (e, f, i) (simp append_assoc)
  enumeration_read (r_listed_before p q n) = refl

  pub enumerators_read : {r : Role} {d : ℕ} {ts us : List Marked} {xs : Enumerators}
      → ReadsEnumerators r d ts us xs
      → symbols ts ≡ enumerators_tokens xs ++ symbols us
  enumerators_read (r_enumerator h) = enumerator_read h
  enumerators_read (r_enumerators {e = x} p h g) =
      let m = enumerators_more x h in let e = enumerators_read h in let f = enumerator_read g in
      rw (m, e, f) (simp append_assoc)

  pub enumerator_read : {r : Role} {d : ℕ} {ts us : List Marked} {x : Enumerator}
      → ReadsEnumerator r d ts us x
      → symbols ts ≡ enumerator_tokens x ++ symbols us
  enumerator_read (r_plain p n) = refl
  enumerator_read (r_valued p q n h) = let e = expression_read h in rw e refl

  pub declarator_read : {r : Role} {d : ℕ} {m : Naming} {ts us : List Marked} {x : Declarator}
      → ReadsDeclarator r d m ts us x
      → symbols ts ≡ declarator_tokens x ++ symbols us
  declarator_read (r_declarator b h g i) = let e = pointers_read h in let f = direct_read g in
      rw (e, f) (simp append_assoc)

  pub direct_read : {r : Role} {d : ℕ} {m : Naming} {ts us : List Marked} {c : Core} {ss : Suffixes}
      → ReadsDirect r d m ts us c ss
      → symbols ts ≡ core_tokens c ++ (suffixes_tokens ss ++ symbols us)
  direct_read (r_core h) = core_read h
  direct_read (r_suffix h g) = let e = direct_read h in let f = suffix_read g in
      rw (e, f) (simp append_assoc)

  pub core_read : {r : Role} {d : ℕ} {m : Naming} {ts us : List Marked} {c : Core}
      → ReadsCore r d m ts us c → symbols ts ≡ core_tokens c ++ symbols us
  core_read r_nothing = refl
  core_read (r_named p n) = refl
  core_read (r_group p q h) = let e = declarator_read h in rw e (simp append_assoc)

  pub suffix_read : {r : Role} {d : ℕ} {ts us : List Marked} {s : Suffix} → ReadsSuffix r d ts us s
      → symbols ts ≡ suffix_tokens s ++ symbols us
  suffix_read (r_unsized p q h) = let e = qualifiers_read h in rw e (simp append_assoc)
  suffix_read (r_sized p q h g) = let e = qualifiers_read h in let f = expression_read g in
      rw (e, f) (simp append_assoc)
  suffix_read (r_function p q h) = let e = parameter_types_read h in rw e (simp append_assoc)
  suffix_read (r_unprototyped p q) = refl

  pub parameter_types_read : {r : Role} {d : ℕ} {ts us : List Marked} {ps : ParameterTypes}
      → ReadsParameterTypes r d ts us ps
      → symbols ts ≡ parameter_types_tokens ps ++ symbols us
  parameter_types_read (r_fixed b h) = let e = parameters_read h in rw e (simp append_assoc)
  parameter_types_read (r_variadic q x b h) = let e = parameters_read h in rw e (simp append_assoc)

  pub parameters_read : {r : Role} {d : ℕ} {ts us : List Marked} {xs : Parameters}
      → ReadsParameters r d ts us xs
      → symbols ts ≡ parameters_tokens xs ++ symbols us
  parameters_read (r_parameter h) = parameter_read h
  parameters_read (r_parameters {x = x} p h g) =
      let m = parameters_more x h in let e = parameters_read h in let f = parameter_read g in
      rw (m, e, f) (simp append_assoc)

  pub parameter_read : {r : Role} {d : ℕ} {ts us : List Marked} {x : Parameter}
      → ReadsParameter r d ts us x
      → symbols ts ≡ parameter_tokens x ++ symbols us
  parameter_read (r_parameter_named b h g) = let e = specifiers_read h in let f = declarator_read g
      in rw (e, f) (simp append_assoc)
  parameter_read (r_parameter_abstract b h g) = let e = specifiers_read h in let f = abstract_read g
      in rw (e, f) (simp append_assoc)

  pub abstract_read : {r : Role} {d : ℕ} {ts us : List Marked} {m : MayDeclarator}
      → ReadsAbstract r d ts us m
      → symbols ts ≡ may_declarator_tokens m ++ symbols us
  abstract_read r_no_declarator = refl
  abstract_read (r_abstract h) = declarator_read h

-- the tokens of an expression that is read whole
pub whole_expression_read : {d k : ℕ} {ts : List Marked} {a : Expr} → Reads d k ts [] a
    → symbols ts ≡ tokens_of a
whole_expression_read {a = a} r = expression_read r ∙ append-nil (tokens_of a)
