-- The parts of a node that is made in one way only, as code that matches on it binds them.
use Rattle.std.proofs.Common.{◌≡◌, List, [], ◌∷◌, Option, Some, None, refl, sym, ap, ◌∙◌}
use mathlib.Core.Logic.{inl, inr}
use denote.Enum.Declared.{Choice}
use borrow.Enum.Total.{pick_at}
use Rattle.hv_ctree.specs.contracts.tree.declarator.Declarator as declarators
use Rattle.hv_ctree.specs.contracts.tree.declarator.AbstractDeclarator as abstracts
use Rattle.hv_ctree.specs.contracts.tree.expr.TypeName as names
use Rattle.hv_ctree.specs.contracts.tree.specifier.StructDeclaration as members
use Rattle.hv_ctree.specs.declared.tree.declarator.Declarator.{Declarator}
use Rattle.hv_ctree.specs.declared.tree.declarator.AbstractDeclarator.{AbstractDeclarator}
use Rattle.hv_ctree.specs.declared.tree.expr.TypeName.{TypeName}
use Rattle.hv_ctree.specs.declared.tree.specifier.StructDeclaration.{StructDeclaration}
use Rattle.hv_ctree.specs.tree.Erase.{type_words_of, declarators_of, suffixes_of, pointers_of, core_of, declarator_of, abstract_of, may_abstract_core_of, may_abstract_of, type_name_of, member_declaration_of}
use Rattle.hv_ctree.specs.tree.Expressions as plain
use Rattle.hv_ctree.proofs.EraseLemmas.{suffixes_hidden, type_words_hidden, declarators_hidden, may_abstract_back, may_abstract_core_back}

made_declarator : (c : Choice declarators.the_parts) (f g h k : _)
    → declarator_of (declarators.the_make c)
    ≡ plain.declarator (pick_at declarators.the_parts 0 c f).0
    (pointers_of (pick_at declarators.the_parts 0 c g).1.0)
    (core_of (pick_at declarators.the_parts 0 c h).1.1.0.value)
    (suffixes_of (pick_at declarators.the_parts 0 c k).1.1.1.0)
made_declarator (inl v) f g h k =
    ap (λ xs. plain.declarator v.0 (pointers_of v.1.0) (core_of v.1.1.0.value) xs)
    (suffixes_hidden plain.no_suffixes v.1.1.1.0)
made_declarator (inr x) f g h k = absurd x

-- a declarator by its parts, each bound by itself
pub declarator_parts : (d : Declarator) (f g h k : _)
    → declarator_of d
    ≡ plain.declarator (pick_at declarators.the_parts 0 (declarators.as_values d) f).0
    (pointers_of (pick_at declarators.the_parts 0 (declarators.as_values d) g).1.0)
    (core_of (pick_at declarators.the_parts 0 (declarators.as_values d) h).1.1.0.value)
    (suffixes_of (pick_at declarators.the_parts 0 (declarators.as_values d) k).1.1.1.0)
declarator_parts d f g h k =
    ap declarator_of (sym (declarators.the_eta d)) ∙ made_declarator (declarators.as_values d) f g h k

made_abstract : (c : Choice abstracts.the_parts) (f g h k : _)
    → abstract_of (abstracts.the_make c)
    ≡ plain.declarator (pick_at abstracts.the_parts 0 c f).0
    (pointers_of (pick_at abstracts.the_parts 0 c g).1.0)
    (may_abstract_core_of (pick_at abstracts.the_parts 0 c h).1.1.0)
    (suffixes_of (pick_at abstracts.the_parts 0 c k).1.1.1.0)
made_abstract (inl v) f g h k =
    let e = may_abstract_core_back v.1.1.0 in
    let f = suffixes_hidden plain.no_suffixes v.1.1.1.0 in
    first_of (rw (e, f), simp (e, f), cc)
made_abstract (inr x) f g h k = absurd x

-- an abstract declarator by its parts
pub abstract_parts : (d : AbstractDeclarator) (f g h k : _)
    → abstract_of d
    ≡ plain.declarator (pick_at abstracts.the_parts 0 (abstracts.as_values d) f).0
    (pointers_of (pick_at abstracts.the_parts 0 (abstracts.as_values d) g).1.0)
    (may_abstract_core_of (pick_at abstracts.the_parts 0 (abstracts.as_values d) h).1.1.0)
    (suffixes_of (pick_at abstracts.the_parts 0 (abstracts.as_values d) k).1.1.1.0)
abstract_parts d f g h k =
    ap abstract_of (sym (abstracts.the_eta d)) ∙ made_abstract (abstracts.as_values d) f g h k

made_type_name : (c : Choice names.the_parts) (f g h : _)
    → type_name_of (names.the_make c)
    ≡ plain.type_name (pick_at names.the_parts 0 c f).0
    (type_words_of (pick_at names.the_parts 0 c g).1.0)
    (may_abstract_of (pick_at names.the_parts 0 c h).1.1.0)
made_type_name (inl v) f g h =
    let e = type_words_hidden plain.no_specifiers v.1.0 in
    let f = may_abstract_back v.1.1.0 in
    first_of (rw (e, f), simp (e, f), cc)
made_type_name (inr x) f g h = absurd x

-- a type name by its parts
pub type_name_parts : (t : TypeName) (f g h : _)
    → type_name_of t
    ≡ plain.type_name (pick_at names.the_parts 0 (names.as_values t) f).0
    (type_words_of (pick_at names.the_parts 0 (names.as_values t) g).1.0)
    (may_abstract_of (pick_at names.the_parts 0 (names.as_values t) h).1.1.0)
type_name_parts t f g h =
    ap type_name_of (sym (names.the_eta t)) ∙ made_type_name (names.as_values t) f g h

made_member : (c : Choice members.the_parts) (f g h : _)
    → member_declaration_of (members.the_make c)
    ≡ plain.members_of (pick_at members.the_parts 0 c f).0
    (type_words_of (pick_at members.the_parts 0 c g).1.0)
    (declarators_of (pick_at members.the_parts 0 c h).1.1.0)
made_member (inl v) f g h =
    let e = type_words_hidden plain.no_specifiers v.1.0 in
    let f = declarators_hidden plain.no_declarators v.1.1.0 in
    first_of (rw (e, f), simp (e, f), cc)
made_member (inr x) f g h = absurd x

-- members of one declaration by their parts
pub member_parts : (m : StructDeclaration) (f g h : _)
    → member_declaration_of m
    ≡ plain.members_of (pick_at members.the_parts 0 (members.as_values m) f).0
    (type_words_of (pick_at members.the_parts 0 (members.as_values m) g).1.0)
    (declarators_of (pick_at members.the_parts 0 (members.as_values m) h).1.1.0)
member_parts m f g h =
    ap member_declaration_of (sym (members.the_eta m)) ∙ made_member (members.as_values m) f g h
