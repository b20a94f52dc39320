-- Expressions, type names, specifiers and declarators are read again from their tokens at other
-- places, and only places change.
use Rattle.std.proofs.Common.{◌≡◌, ℕ, suc, Bool, List, ◌∷◌, refl, sym, ap, ◌∙◌, subst}
use Rattle.std.specs.Prelude.{true, false, IsTrue}
use Rattle.hv_base.specs.declared.place.Place.{Place}
use Rattle.hv_base.specs.declared.punct.Punct.TheVariants as puncts
use Rattle.hv_ctree.specs.tree.Expressions.{Expr, identifier, constant, string, parenthesized, subscript, call, member, postfix, prefix, unary, sizeof_expr, sizeof_type, cast, binary, conditional, assign, comma, Arguments, no_arguments, then_argument, TypeName, type_name, Specifiers, no_specifiers, then_specifier, Specifier, storage, of_type, qualifier, inline, TypeSpecifier, word, compound, enumeration, typedef_name, CompoundSpecifier, defined, mentioned, MayTag, no_tag, tag, Members, no_members, then_member, MemberDeclaration, members_of, Declarators, no_declarators, then_declarator, EnumSpecifier, listed, listed_before, Enumerators, no_enumerators, then_enumerator, Enumerator, plain, valued, Declarator, declarator, MayDeclarator, no_declarator, some_declarator, Core, nothing, named, group, Suffixes, no_suffixes, then_suffix, Suffix, unsized, sized, function, unprototyped, ParameterTypes, parameter_types, Parameters, no_parameters, then_parameter, Parameter, parameter, Pointers, no_pointers, then_pointer, Qualifiers, no_qualifiers, then_qualifier, place_of}
use Rattle.hv_grammar.specs.Symbols.{sign, Role, Marked, at}
use Rattle.hv_grammar.specs.Expressions.{stars, has_type, has_part, type_place, compound_place, enumeration_place, Words, Naming, Reads, r_identifier, r_constant, r_string, r_parenthesized, r_subscript, r_call_none, r_call, r_member, r_postfix, r_prefix, r_unary, r_sizeof, r_sizeof_type, r_cast, r_binary, r_conditional, r_assign, r_comma, r_higher, ReadsArguments, r_argument, r_arguments, ReadsTypeName, r_type_name, ReadsSpecifiers, r_specifier, r_specifiers, ReadsSpecifier, r_storage, r_inline, r_qualifier, r_type, ReadsType, r_word, r_compound, r_enumeration, r_typedef_name, ReadsCompound, r_defined, r_mentioned, ReadsTag, r_no_tag, r_tag, ReadsMembers, r_member_first, r_members, ReadsMember, r_members_of, ReadsDeclarators, r_declarator_first, r_declarators, ReadsEnumeration, r_listed, r_listed_before, ReadsEnumerators, r_enumerator, r_enumerators, ReadsEnumerator, r_plain, r_valued, ReadsLastComma, r_no_comma, r_last_comma, ReadsDeclarator, r_declarator, ReadsPointers, r_no_pointers, r_pointer, ReadsQualifiers, r_no_qualifiers, r_qualifiers, ReadsDirect, r_core, r_suffix, ReadsCore, r_nothing, r_named, r_group, ReadsSuffix, r_unsized, r_sized, r_function, r_unprototyped, ReadsParameterTypes, r_fixed, r_variadic, ReadsParameters, r_parameter, r_parameters, ReadsParameter, r_parameter_named, r_parameter_abstract, ReadsAbstract, r_no_declarator, r_abstract}
use Rattle.hv_readback.specs.Places.{nowhere, unplaced_pointers, unplaced_tag, unplaced_expression, unplaced_arguments, unplaced_type_name, unplaced_specifiers, unplaced_specifier, unplaced_type, unplaced_compound, unplaced_members, unplaced_member, unplaced_declarators, unplaced_enumeration, unplaced_enumerators, unplaced_enumerator, unplaced_declarator, unplaced_may_declarator, unplaced_core, unplaced_suffixes, unplaced_suffix, unplaced_parameter_types, unplaced_parameters, unplaced_parameter}
use Rattle.hv_readback.proofs.Placing.{next, placed, At, found, begins, two, three}

------ what the grammar asks of a tree depends on no place

pub has_type_bare : (xs : Specifiers) → has_type (unplaced_specifiers xs) ≡ has_type xs
has_type_bare no_specifiers = refl
has_type_bare (then_specifier xs (storage p c)) = has_type_bare xs
has_type_bare (then_specifier xs (of_type p t)) = refl
has_type_bare (then_specifier xs (qualifier p q)) = has_type_bare xs
has_type_bare (then_specifier xs (inline p)) = has_type_bare xs

same_type : (xs ys : Specifiers) → unplaced_specifiers ys ≡ unplaced_specifiers xs
    → has_type xs ≡ has_type ys
same_type xs ys e = sym (has_type_bare xs) ∙ ap has_type (sym e) ∙ has_type_bare ys

stars_bare : (ps : Pointers) (d : ℕ) → stars (unplaced_pointers ps) d ≡ stars ps d
stars_bare no_pointers d = refl
stars_bare (then_pointer ps p qs) d = ap (λ n. suc n) (stars_bare ps d)

same_stars : (ps qs : Pointers) (d : ℕ) → unplaced_pointers qs ≡ unplaced_pointers ps
    → stars ps d ≡ stars qs d
same_stars ps qs d e = sym (stars_bare ps d) ∙ ap (λ x. stars x d) (sym e) ∙ stars_bare qs d

has_part_bare : (ps : Pointers) (c : Core) (ss : Suffixes)
    → has_part (unplaced_pointers ps) (unplaced_core c) (unplaced_suffixes ss) ≡ has_part ps c ss
has_part_bare no_pointers nothing no_suffixes = refl
has_part_bare no_pointers nothing (then_suffix ss s) = refl
has_part_bare no_pointers (named p n) ss = refl
has_part_bare no_pointers (group p x) ss = refl
has_part_bare (then_pointer ps p qs) c ss = refl

same_part : (ps qs : Pointers) (c d : Core) (ss rs : Suffixes)
    → unplaced_pointers qs ≡ unplaced_pointers ps → unplaced_core d ≡ unplaced_core c
    → unplaced_suffixes rs ≡ unplaced_suffixes ss → has_part ps c ss ≡ has_part qs d rs
same_part ps qs c d ss rs e g h =
    sym (has_part_bare ps c ss) ∙ three has_part (sym e) (sym g) (sym h) ∙ has_part_bare qs d rs

------ parts without expressions

qualifiers_at : {r : Role} {d : ℕ} {ts us : List Marked} {qs : Qualifiers} (f : ℕ → Place)
    → ReadsQualifiers r d ts us qs → At Qualifiers (ReadsQualifiers r d) (λ x. x) f ts us qs
qualifiers_at f r_no_qualifiers = found f no_qualifiers r_no_qualifiers refl
qualifiers_at f (r_qualifiers p q h) = let e = qualifiers_at f h in
    found (next e.rest) (then_qualifier e.tree q) (r_qualifiers (e.rest 0) q e.reads)
    (ap (λ x. then_qualifier x q) e.same)

-- the depth after `*`s is that after the same ones at other places
pointers_at : {r : Role} {d : ℕ} {ts us : List Marked} {ps : Pointers} (f : ℕ → Place)
    → ReadsPointers r d ts us ps → At Pointers (ReadsPointers r d) unplaced_pointers f ts us ps
pointers_at f r_no_pointers = found f no_pointers r_no_pointers refl
pointers_at {r} {d} {ts} f (r_pointer {us = us} {vs = vs} {ps = ps} {qs = qs} p h g) =
    let e = pointers_at f h in let i = qualifiers_at (next e.rest) g in
    let deep = same_stars ps e.tree d e.same in
    found i.rest (then_pointer e.tree (e.rest 0) i.tree)
    (r_pointer (e.rest 0)
    (subst (λ n. ReadsPointers r d (placed f ts)
    (at r (suc n) (e.rest 0) (sign puncts.Star) ∷ placed (next e.rest) us) e.tree) deep e.reads)
    (subst (λ n. ReadsQualifiers r (suc n) (placed (next e.rest) us) (placed i.rest vs) i.tree)
    deep i.reads))
    (two (λ x y. then_pointer x nowhere y) e.same i.same)

tag_at : {r : Role} {d : ℕ} {ts us : List Marked} {t : MayTag} (f : ℕ → Place)
    → ReadsTag r d ts us t → At MayTag (ReadsTag r d) unplaced_tag f ts us t
tag_at f r_no_tag = found f no_tag r_no_tag refl
tag_at f (r_tag p n) = found (next f) (tag (f 0) n) (r_tag (f 0) n) refl

pub last_comma_at : {r : Role} {d : ℕ} {ts us : List Marked} {b : Bool} (f : ℕ → Place)
    → ReadsLastComma r d ts us b → At Bool (ReadsLastComma r d) (λ x. x) f ts us b
last_comma_at f r_no_comma = found f false r_no_comma refl
last_comma_at f (r_last_comma p) = found (next f) true (r_last_comma (f 0)) refl

------ all the others

-- the middle of a declarator, and what stands after it
abbrev Direct : Role → ℕ → Naming → List Marked → List Marked → Core × Suffixes → Type 0
Direct r d m ts us x = ReadsDirect r d m ts us x.0 x.1

abbrev unplaced_direct : Core × Suffixes → Core × Suffixes
unplaced_direct x = (unplaced_core x.0, unplaced_suffixes x.1)

mutual
  pub expression_at : {d k : ℕ} {ts us : List Marked} {a : Expr} (f : ℕ → Place)
      → Reads d k ts us a → At Expr (Reads d k) unplaced_expression f ts us a
  expression_at f (r_identifier p n) =
      found (next f) (identifier (f 0) n) (r_identifier (f 0) n) refl
  expression_at f (r_constant p v) = found (next f) (constant (f 0) v) (r_constant (f 0) v) refl
  expression_at f (r_string p b) = found (next f) (string (f 0) b) (r_string (f 0) b) refl
  expression_at f (r_parenthesized p q r) = let e = expression_at (next f) r in
      found (next e.rest) (parenthesized (f 0) e.tree) (r_parenthesized (f 0) (e.rest 0) e.reads)
      (ap (λ x. parenthesized nowhere x) e.same)
  expression_at f (r_subscript p q r s) =
      let e = expression_at f r in let g = expression_at (next e.rest) s in
      found (next g.rest) (subscript (place_of e.tree) e.tree g.tree)
      (r_subscript (e.rest 0) (g.rest 0) e.reads g.reads)
      (two (λ x y. subscript nowhere x y) e.same g.same)
  expression_at f (r_call_none p q r) = let e = expression_at f r in
      found (next (next e.rest)) (call (place_of e.tree) e.tree no_arguments)
      (r_call_none (e.rest 0) (next e.rest 0) e.reads)
      (ap (λ x. call nowhere x no_arguments) e.same)
  expression_at f (r_call p q r s) =
      let e = expression_at f r in let g = arguments_at (next e.rest) s in
      found (next g.rest) (call (place_of e.tree) e.tree g.tree)
      (r_call (e.rest 0) (g.rest 0) e.reads g.reads) (two (λ x y. call nowhere x y) e.same g.same)
  expression_at f (r_member p q n s r) = let e = expression_at f r in
      found (next (next e.rest)) (member (place_of e.tree) s e.tree n)
      (r_member (e.rest 0) (next e.rest 0) n s e.reads) (ap (λ x. member nowhere s x n) e.same)
  expression_at f (r_postfix p s r) = let e = expression_at f r in
      found (next e.rest) (postfix (place_of e.tree) s e.tree) (r_postfix (e.rest 0) s e.reads)
      (ap (λ x. postfix nowhere s x) e.same)
  expression_at f (r_prefix p s r) = let e = expression_at (next f) r in
      found e.rest (prefix (f 0) s e.tree) (r_prefix (f 0) s e.reads)
      (ap (λ x. prefix nowhere s x) e.same)
  expression_at f (r_unary p op r) = let e = expression_at (next f) r in
      found e.rest (unary (f 0) op e.tree) (r_unary (f 0) op e.reads)
      (ap (λ x. unary nowhere op x) e.same)
  expression_at f (r_sizeof p r) = let e = expression_at (next f) r in
      found e.rest (sizeof_expr (f 0) e.tree) (r_sizeof (f 0) e.reads)
      (ap (λ x. sizeof_expr nowhere x) e.same)
  expression_at f (r_sizeof_type p q x r) = let e = type_name_at (next (next f)) r in
      found (next e.rest) (sizeof_type (f 0) e.tree)
      (r_sizeof_type (f 0) (next f 0) (e.rest 0) e.reads) (ap (λ x. sizeof_type nowhere x) e.same)
  expression_at f (r_cast p q r s) =
      let e = type_name_at (next f) r in let g = expression_at (next e.rest) s in
      found g.rest (cast (f 0) e.tree g.tree) (r_cast (f 0) (e.rest 0) e.reads g.reads)
      (two (λ x y. cast nowhere x y) e.same g.same)
  expression_at f (r_binary p op r s) =
      let e = expression_at f r in let g = expression_at (next e.rest) s in
      found g.rest (binary (place_of e.tree) op e.tree g.tree)
      (r_binary (e.rest 0) op e.reads g.reads) (two (λ x y. binary nowhere op x y) e.same g.same)
  expression_at f (r_conditional p q r s t) =
      let e = expression_at f r in let g = expression_at (next e.rest) s in
      let h = expression_at (next g.rest) t in
      found h.rest (conditional (place_of e.tree) e.tree g.tree h.tree)
      (r_conditional (e.rest 0) (g.rest 0) e.reads g.reads h.reads)
      (three (λ x y z. conditional nowhere x y z) e.same g.same h.same)
  expression_at f (r_assign p op r s) =
      let e = expression_at f r in let g = expression_at (next e.rest) s in
      found g.rest (assign (place_of e.tree) op e.tree g.tree)
      (r_assign (e.rest 0) op e.reads g.reads) (two (λ x y. assign nowhere op x y) e.same g.same)
  expression_at f (r_comma p r s) =
      let e = expression_at f r in let g = expression_at (next e.rest) s in
      found g.rest (comma (place_of e.tree) e.tree g.tree) (r_comma (e.rest 0) e.reads g.reads)
      (two (λ x y. comma nowhere x y) e.same g.same)
  expression_at f (r_higher r) = let e = expression_at f r in
      found e.rest e.tree (r_higher e.reads) e.same

  arguments_at : {d : ℕ} {ts us : List Marked} {xs : Arguments} (f : ℕ → Place)
      → ReadsArguments d ts us xs → At Arguments (ReadsArguments d) unplaced_arguments f ts us xs
  arguments_at f (r_argument r) = let e = expression_at f r in
      found e.rest (then_argument no_arguments e.tree) (r_argument e.reads)
      (ap (λ x. then_argument no_arguments x) e.same)
  arguments_at f (r_arguments p r s) =
      let e = arguments_at f r in let g = expression_at (next e.rest) s in
      found g.rest (then_argument e.tree g.tree) (r_arguments (e.rest 0) e.reads g.reads)
      (two (λ x y. then_argument x y) e.same g.same)

  type_name_at : {d : ℕ} {ts us : List Marked} {t : TypeName} (f : ℕ → Place)
      → ReadsTypeName d ts us t → At TypeName (ReadsTypeName d) unplaced_type_name f ts us t
  type_name_at f (r_type_name b r s) =
      let e = specifiers_at f r in let g = abstract_at e.rest s in
      found g.rest (type_name (f 0) e.tree g.tree) (r_type_name (begins f b) e.reads g.reads)
      (two (λ x y. type_name nowhere x y) e.same g.same)

  pub specifiers_at : {r : Role} {d : ℕ} {w : Words} {ts us : List Marked} {xs : Specifiers}
      (f : ℕ → Place) → ReadsSpecifiers r d w ts us xs
      → At Specifiers (ReadsSpecifiers r d w) unplaced_specifiers f ts us xs
  specifiers_at f (r_specifier h) = let e = specifier_at f h in
      found e.rest (then_specifier no_specifiers e.tree) (r_specifier e.reads)
      (ap (λ x. then_specifier no_specifiers x) e.same)
  specifiers_at {r} {d} {w} f (r_specifiers {us = us} {vs = vs} {xs = xs} h g) =
      let e = specifiers_at f h in let i = specifier_at e.rest g in
      found i.rest (then_specifier e.tree i.tree)
      (r_specifiers e.reads
      (subst (λ b. ReadsSpecifier r d w b (placed e.rest us) (placed i.rest vs) i.tree)
      (same_type xs e.tree e.same) i.reads))
      (two (λ x y. then_specifier x y) e.same i.same)

  specifier_at : {r : Role} {d : ℕ} {w : Words} {seen : Bool} {ts us : List Marked}
      {x : Specifier} (f : ℕ → Place) → ReadsSpecifier r d w seen ts us x
      → At Specifier (ReadsSpecifier r d w seen) unplaced_specifier f ts us x
  specifier_at f (r_storage p c) = found (next f) (storage (f 0) c) (r_storage (f 0) c) refl
  specifier_at f (r_inline p) = found (next f) (inline (f 0)) (r_inline (f 0)) refl
  specifier_at f (r_qualifier p q) = found (next f) (qualifier (f 0) q) (r_qualifier (f 0) q) refl
  specifier_at f (r_type h) = let e = type_at f h in
      found e.rest (of_type (type_place e.tree) e.tree) (r_type e.reads)
      (ap (λ x. of_type nowhere x) e.same)

  type_at : {r : Role} {d : ℕ} {seen : Bool} {ts us : List Marked} {t : TypeSpecifier}
      (f : ℕ → Place) → ReadsType r d seen ts us t
      → At TypeSpecifier (ReadsType r d seen) unplaced_type f ts us t
  type_at f (r_word p w) = found (next f) (word (f 0) w) (r_word (f 0) w) refl
  type_at f (r_compound h) = let e = compound_at f h in
      found e.rest (compound (compound_place e.tree) e.tree) (r_compound e.reads)
      (ap (λ x. compound nowhere x) e.same)
  type_at f (r_enumeration h) = let e = enumeration_at f h in
      found e.rest (enumeration (enumeration_place e.tree) e.tree) (r_enumeration e.reads)
      (ap (λ x. enumeration nowhere x) e.same)
  type_at f (r_typedef_name p n) =
      found (next f) (typedef_name (f 0) n) (r_typedef_name (f 0) n) refl

  compound_at : {r : Role} {d : ℕ} {ts us : List Marked} {c : CompoundSpecifier}
      (f : ℕ → Place) → ReadsCompound r d ts us c
      → At CompoundSpecifier (ReadsCompound r d) unplaced_compound f ts us c
  compound_at f (r_defined p q x k h g) =
      let e = tag_at (next f) h in let i = members_at (next e.rest) g in
      found (next i.rest) (defined (f 0) k e.tree i.tree)
      (r_defined (f 0) (e.rest 0) (i.rest 0) k e.reads i.reads)
      (two (λ x y. defined nowhere k x y) e.same i.same)
  compound_at f (r_mentioned p q k n) =
      found (next (next f)) (mentioned (f 0) k (next f 0) n) (r_mentioned (f 0) (next f 0) k n) refl

  members_at : {r : Role} {d : ℕ} {ts us : List Marked} {ms : Members} (f : ℕ → Place)
      → ReadsMembers r d ts us ms → At Members (ReadsMembers r d) unplaced_members f ts us ms
  members_at f (r_member_first h) = let e = member_at f h in
      found e.rest (then_member no_members e.tree) (r_member_first e.reads)
      (ap (λ x. then_member no_members x) e.same)
  members_at f (r_members h g) = let e = members_at f h in let i = member_at e.rest g in
      found i.rest (then_member e.tree i.tree) (r_members e.reads i.reads)
      (two (λ x y. then_member x y) e.same i.same)

  member_at : {r : Role} {d : ℕ} {ts us : List Marked} {m : MemberDeclaration} (f : ℕ → Place)
      → ReadsMember r d ts us m → At MemberDeclaration (ReadsMember r d) unplaced_member f ts us m
  member_at f (r_members_of q b h g) =
      let e = specifiers_at f h in let i = declarators_at e.rest g in
      found (next i.rest) (members_of (f 0) e.tree i.tree)
      (r_members_of (i.rest 0) (begins f b) e.reads i.reads)
      (two (λ x y. members_of nowhere x y) e.same i.same)

  declarators_at : {r : Role} {d : ℕ} {ts us : List Marked} {xs : Declarators}
      (f : ℕ → Place) → ReadsDeclarators r d ts us xs
      → At Declarators (ReadsDeclarators r d) unplaced_declarators f ts us xs
  declarators_at f (r_declarator_first h) = let e = declarator_at f h in
      found e.rest (then_declarator no_declarators e.tree) (r_declarator_first e.reads)
      (ap (λ x. then_declarator no_declarators x) e.same)
  declarators_at f (r_declarators p h g) =
      let e = declarators_at f h in let i = declarator_at (next e.rest) g in
      found i.rest (then_declarator e.tree i.tree) (r_declarators (e.rest 0) e.reads i.reads)
      (two (λ x y. then_declarator x y) e.same i.same)

  enumeration_at : {r : Role} {d : ℕ} {ts us : List Marked} {c : EnumSpecifier}
      (f : ℕ → Place) → ReadsEnumeration r d ts us c
      → At EnumSpecifier (ReadsEnumeration r d) unplaced_enumeration f ts us c
  enumeration_at f (r_listed p q x h g l) =
      let e = tag_at (next f) h in let i = enumerators_at (next e.rest) g in
      let j = last_comma_at i.rest l in
      found (next j.rest) (listed (f 0) e.tree i.tree j.tree)
      (r_listed (f 0) (e.rest 0) (j.rest 0) e.reads i.reads j.reads)
      (three (λ x y z. listed nowhere x y z) e.same i.same j.same)
  enumeration_at f (r_listed_before p q n) =
      found (next (next f)) (listed_before (f 0) (next f 0) n) (r_listed_before (f 0) (next f 0) n)
      refl

  enumerators_at : {r : Role} {d : ℕ} {ts us : List Marked} {xs : Enumerators}
      (f : ℕ → Place) → ReadsEnumerators r d ts us xs
      → At Enumerators (ReadsEnumerators r d) unplaced_enumerators f ts us xs
  enumerators_at f (r_enumerator h) = let e = enumerator_at f h in
      found e.rest (then_enumerator no_enumerators e.tree) (r_enumerator e.reads)
      (ap (λ x. then_enumerator no_enumerators x) e.same)
  enumerators_at f (r_enumerators p h g) =
      let e = enumerators_at f h in let i = enumerator_at (next e.rest) g in
      found i.rest (then_enumerator e.tree i.tree) (r_enumerators (e.rest 0) e.reads i.reads)
      (two (λ x y. then_enumerator x y) e.same i.same)

  enumerator_at : {r : Role} {d : ℕ} {ts us : List Marked} {x : Enumerator} (f : ℕ → Place)
      → ReadsEnumerator r d ts us x
      → At Enumerator (ReadsEnumerator r d) unplaced_enumerator f ts us x
  enumerator_at f (r_plain p n) = found (next f) (plain (f 0) n) (r_plain (f 0) n) refl
  enumerator_at f (r_valued p q n h) = let e = expression_at (next (next f)) h in
      found e.rest (valued (f 0) n e.tree) (r_valued (f 0) (next f 0) n e.reads)
      (ap (λ x. valued nowhere n x) e.same)

  pub declarator_at : {r : Role} {d : ℕ} {m : Naming} {ts us : List Marked} {x : Declarator}
      (f : ℕ → Place) → ReadsDeclarator r d m ts us x
      → At Declarator (ReadsDeclarator r d m) unplaced_declarator f ts us x
  declarator_at {r} {d} {m} f
      (r_declarator {us = us} {vs = vs} {ps = ps} {c = c} {ss = ss} b h g i) =
      let e = pointers_at f h in let j = direct_at e.rest g in
      let deep = same_stars ps e.tree d e.same in
      let core : unplaced_core j.tree.0 ≡ unplaced_core c = ap (λ x. x.0) j.same in
      let after : unplaced_suffixes j.tree.1 ≡ unplaced_suffixes ss = ap (λ x. x.1) j.same in
      found j.rest (declarator (f 0) e.tree j.tree.0 j.tree.1)
      (r_declarator (begins f b) e.reads
      (subst (λ n. ReadsDirect r n m (placed e.rest us) (placed j.rest vs) j.tree.0 j.tree.1)
      deep j.reads)
      (subst (λ x. IsTrue x) (same_part ps e.tree c j.tree.0 ss j.tree.1 e.same core after) i))
      (three (λ x y z. declarator nowhere x y z) e.same core after)

  direct_at : {r : Role} {d : ℕ} {m : Naming} {ts us : List Marked} {c : Core} {ss : Suffixes}
      (f : ℕ → Place) → ReadsDirect r d m ts us c ss
      → At (Core × Suffixes) (Direct r d m) unplaced_direct f ts us (c, ss)
  direct_at f (r_core h) = let e = core_at f h in
      found e.rest (e.tree, no_suffixes) (r_core e.reads) (ap (λ x. (x, no_suffixes)) e.same)
  direct_at f (r_suffix {c = c} {ss = ss} h g) =
      let e = direct_at f h in let i = suffix_at e.rest g in
      let core : unplaced_core e.tree.0 ≡ unplaced_core c = ap (λ x. x.0) e.same in
      let before : unplaced_suffixes e.tree.1 ≡ unplaced_suffixes ss = ap (λ x. x.1) e.same in
      found i.rest (e.tree.0, then_suffix e.tree.1 i.tree) (r_suffix e.reads i.reads)
      (three (λ x y z. (x, then_suffix y z)) core before i.same)

  core_at : {r : Role} {d : ℕ} {m : Naming} {ts us : List Marked} {c : Core} (f : ℕ → Place)
      → ReadsCore r d m ts us c → At Core (ReadsCore r d m) unplaced_core f ts us c
  core_at f r_nothing = found f nothing r_nothing refl
  core_at f (r_named p n) = found (next f) (named (f 0) n) (r_named (f 0) n) refl
  core_at f (r_group p q h) = let e = declarator_at (next f) h in
      found (next e.rest) (group (f 0) e.tree) (r_group (f 0) (e.rest 0) e.reads)
      (ap (λ x. group nowhere x) e.same)

  suffix_at : {r : Role} {d : ℕ} {ts us : List Marked} {s : Suffix} (f : ℕ → Place)
      → ReadsSuffix r d ts us s → At Suffix (ReadsSuffix r d) unplaced_suffix f ts us s
  suffix_at f (r_unsized p q h) = let e = qualifiers_at (next f) h in
      found (next e.rest) (unsized (f 0) e.tree) (r_unsized (f 0) (e.rest 0) e.reads)
      (ap (λ x. unsized nowhere x) e.same)
  suffix_at f (r_sized p q h g) =
      let e = qualifiers_at (next f) h in let i = expression_at e.rest g in
      found (next i.rest) (sized (f 0) e.tree i.tree) (r_sized (f 0) (i.rest 0) e.reads i.reads)
      (two (λ x y. sized nowhere x y) e.same i.same)
  suffix_at f (r_function p q h) = let e = parameter_types_at (next f) h in
      found (next e.rest) (function (f 0) e.tree) (r_function (f 0) (e.rest 0) e.reads)
      (ap (λ x. function nowhere x) e.same)
  suffix_at f (r_unprototyped p q) =
      found (next (next f)) (unprototyped (f 0)) (r_unprototyped (f 0) (next f 0)) refl

  parameter_types_at : {r : Role} {d : ℕ} {ts us : List Marked} {ps : ParameterTypes}
      (f : ℕ → Place) → ReadsParameterTypes r d ts us ps
      → At ParameterTypes (ReadsParameterTypes r d) unplaced_parameter_types f ts us ps
  parameter_types_at f (r_fixed b h) = let e = parameters_at f h in
      found e.rest (parameter_types (f 0) e.tree false) (r_fixed (begins f b) e.reads)
      (ap (λ x. parameter_types nowhere x false) e.same)
  parameter_types_at f (r_variadic q x b h) = let e = parameters_at f h in
      found (next (next e.rest)) (parameter_types (f 0) e.tree true)
      (r_variadic (e.rest 0) (next e.rest 0) (begins f b) e.reads)
      (ap (λ x. parameter_types nowhere x true) e.same)

  parameters_at : {r : Role} {d : ℕ} {ts us : List Marked} {ps : Parameters} (f : ℕ → Place)
      → ReadsParameters r d ts us ps
      → At Parameters (ReadsParameters r d) unplaced_parameters f ts us ps
  parameters_at f (r_parameter h) = let e = parameter_at f h in
      found e.rest (then_parameter no_parameters e.tree) (r_parameter e.reads)
      (ap (λ x. then_parameter no_parameters x) e.same)
  parameters_at f (r_parameters p h g) =
      let e = parameters_at f h in let i = parameter_at (next e.rest) g in
      found i.rest (then_parameter e.tree i.tree) (r_parameters (e.rest 0) e.reads i.reads)
      (two (λ x y. then_parameter x y) e.same i.same)

  parameter_at : {r : Role} {d : ℕ} {ts us : List Marked} {x : Parameter} (f : ℕ → Place)
      → ReadsParameter r d ts us x → At Parameter (ReadsParameter r d) unplaced_parameter f ts us x
  parameter_at f (r_parameter_named b h g) =
      let e = specifiers_at f h in let i = declarator_at e.rest g in
      found i.rest (parameter (f 0) e.tree (some_declarator i.tree))
      (r_parameter_named (begins f b) e.reads i.reads)
      (two (λ x y. parameter nowhere x (some_declarator y)) e.same i.same)
  parameter_at f (r_parameter_abstract b h g) =
      let e = specifiers_at f h in let i = abstract_at e.rest g in
      found i.rest (parameter (f 0) e.tree i.tree)
      (r_parameter_abstract (begins f b) e.reads i.reads)
      (two (λ x y. parameter nowhere x y) e.same i.same)

  abstract_at : {r : Role} {d : ℕ} {ts us : List Marked} {m : MayDeclarator} (f : ℕ → Place)
      → ReadsAbstract r d ts us m
      → At MayDeclarator (ReadsAbstract r d) unplaced_may_declarator f ts us m
  abstract_at f r_no_declarator = found f no_declarator r_no_declarator refl
  abstract_at f (r_abstract h) = let e = declarator_at f h in
      found e.rest (some_declarator e.tree) (r_abstract e.reads)
      (ap (λ x. some_declarator x) e.same)
