-- The same of declarators, initialisers and elements, and of all.
use Rattle.std.proofs.Common.{◌≡◌, ℕ, suc, cond, List, [], ◌∷◌, refl, ap, ◌∙◌, None}
use Rattle.hv_base.specs.declared.place.Place.{Place}
use Rattle.hv_base.specs.declared.keyword.Keyword.{Keyword}
use Rattle.hv_base.specs.declared.keyword.Keyword.TheVariants as keywords
use Rattle.hv_base.specs.declared.punct.Punct.{Punct}
use Rattle.hv_base.specs.declared.punct.Punct.TheVariants as puncts
use Rattle.hv_ctree.specs.declared.tree.words.StructOrUnion.{StructOrUnion}
use Rattle.hv_ctree.specs.declared.tree.words.TypeQualifier.{TypeQualifier}
use Rattle.hv_ctree.specs.declared.tree.words.TypeQualifier.TheVariants.{Const, Restrict}
use Rattle.hv_ctree.specs.tree.Expressions.{Expr, Specifiers, no_specifiers, Specifier, Declarator, MayDeclarator, no_declarator, some_declarator, Core, Suffixes, Pointers, Qualifiers}
use Rattle.hv_ctree.specs.tree.Statements.{Designation, no_designation, Initializer}
use Rattle.hv_grammar.specs.Symbols.{Symbol, keyword, Token}
use Rattle.hv_grammar.specs.Expressions.{braced, has_type}
use Rattle.hv_grammar.specs.Elements.{Standing, External, Item, Nested}
use Rattle.hv_grammar.specs.machine.Parts.{Optional, Part, of_expression, optional, Fixed, the_hole, the_opening, the_else, Spot, meets, closer}
use Rattle.hv_grammar.specs.machine.Frames.{Statement, Owner, of_type_name, of_parameter, of_member, of_declaration, Mode, only_named, only_abstract, either, Frame, At, Want, State}
use Rattle.hv_grammar.specs.machine.Steps.{state, step, end_at, finished_at, finished, element_at, finished_element, loosely, spot, operand_at, after_parameter, after_member, after_type_name, after_group, after_init, body_at, ended, only_pointers, qualified, qualifier_of, pointing_qualifier, pointing_keyword, opened_at, pointing_sign, step_pointing, opened_sign, step_opened, step_direct, step_bracket, no_parameters_at, step_parameters, ellipsis_at, step_ellipsis, words_ended, step_words, ended_word, step_compound, step_tag, body_ended, step_member, step_enum, step_enum_tag, listing_ended, step_enumerator, enumerator_named, step_enumerator_name, step_initializer, braces_ended, step_braces, step_dot, step_designator, step_initialized, optional_at, statement_at, lone_at, start_at, step_spot, step_at}
use Rattle.hv_grammar.specs.machine.Control.{is_some, SameSymbol, SamePointers, SameOptional, SamePart, SameSpot, SameStack, SameAt, SameState, SameStep, same_keyword, same_name, same_marked, same_number, same_text, same_sign, same_hole, same_foreign, no_stars, more_stars, neither_member, both_members, neither_enumerator, both_enumerators, neither_initializer, both_initializers, neither_init, both_inits, both_alone, both_in_for, both_first, both_return, both_case, both_expression, both_if, both_switch, both_while, both_do, both_optional, both_start, both_await, both_opening, both_after_if, both_may_else, both_for_opening, both_for_start, both_before, both_sizeof_type, both_cast_type, both_cast, both_specified, both_body, both_listing, both_valued, both_owned, both_owned_members, both_group, both_length, both_parameters, both_braces, both_index, both_designated, both_declares, both_declaring, both_initialized, both_statement, both_empty, both_more, both_want, both_have, both_selecting, both_words, both_compound, both_tag, both_enum, both_enum_tag, both_member_start, both_enumerator_start, both_after_enumerator, both_pointing, both_opened, both_direct, both_bracket, both_parameters_start, both_parameter_next, both_after_ellipsis, both_initializer_start, both_braces_start, both_after_dot, both_after_designator, both_after_initializer, both_spot, neither_takes, both_take}
use Rattle.hv_grammar.proofs.ControlSteps.{stars_alike, closer_alike, depth_alike, within_alike, taken_alike, either_alike, reduce_alike, SameSpecifier, both_type, typed_alike, specifier_alike, want_keyword_alike, operand_alike, want_alike, specified_alike, declared_alike, initialized_alike, after_optional_alike, have_alike, selecting_alike}

------ declarators

-- a declarator in both or in neither
data SameMay : MayDeclarator → MayDeclarator → Type 0 where
  neither_declarator : SameMay no_declarator no_declarator
  both_declarators : {x y : Declarator} → SameMay (some_declarator x) (some_declarator y)

only_alike : (p q : Place) {ps qs : Pointers} → SamePointers ps qs
    → SameMay (only_pointers p ps) (only_pointers q qs)
only_alike p q no_stars = neither_declarator
only_alike p q (more_stars s) = both_declarators

after_parameter_alike : {st su : List Frame} → SameStack st su → (x y : MayDeclarator) (s : Punct)
    → SameStep (after_parameter st x s) (after_parameter su y s)
after_parameter_alike (both_more both_owned (both_more (both_parameters s) h)) x y puncts.Comma =
    taken_alike (both_more (both_parameters s) h) both_parameter_next (within_alike h)
    (ap suc (stars_alike s (depth_alike h)))
after_parameter_alike (both_more both_owned (both_more (both_parameters s) h)) x y puncts.RightParenthesis =
    taken_alike h (both_direct s) (within_alike h) (ap suc (stars_alike s (depth_alike h)))
after_parameter_alike _ x y s = neither_takes

after_member_alike : {st su : List Frame} → SameStack st su → (x y : Declarator) (s : Punct)
    → SameStep (after_member st x s) (after_member su y s)
after_member_alike (both_more both_owned_members h) x y puncts.Comma =
    taken_alike (both_more both_owned_members h) (both_pointing no_stars) (within_alike h)
    (depth_alike h)
after_member_alike (both_more both_owned_members (both_more (both_body m) h)) x y puncts.Semicolon =
    taken_alike (both_more (both_body both_members) h) both_member_start (within_alike h)
    (ap suc (depth_alike h))
after_member_alike _ x y s = neither_takes

after_type_alike : {st su : List Frame} → SameStack st su → (x y : MayDeclarator) (s : Punct)
    → SameStep (after_type_name st x s) (after_type_name su y s)
after_type_alike (both_more both_owned (both_more both_cast_type h)) x y puncts.RightParenthesis =
    taken_alike (both_more both_cast h) both_want refl (ap suc (depth_alike h))
after_type_alike (both_more both_owned (both_more both_sizeof_type h)) x y puncts.RightParenthesis =
    taken_alike h both_have refl (ap (λ n. suc (suc n)) (depth_alike h))
after_type_alike _ x y s = neither_takes

after_group_alike : {st su : List Frame} → SameStack st su → (x y : Declarator) (s : Punct)
    → SameStep (after_group st x s) (after_group su y s)
after_group_alike (both_more (both_group p) h) x y puncts.RightParenthesis =
    taken_alike h (both_direct p) (within_alike h) (ap suc (stars_alike p (depth_alike h)))
after_group_alike _ x y s = neither_takes

after_init_alike : {st su : List Frame} → SameStack st su → (x y : Declarator) (s : Punct)
    → SameStep (after_init st x s) (after_init su y s)
after_init_alike (both_more (both_declaring i) h) x y puncts.Comma =
    taken_alike (both_more (both_declaring both_inits) h) (both_pointing no_stars) refl
    (depth_alike h)
after_init_alike (both_more (both_declaring i) h) x y puncts.Equal =
    taken_alike (both_more both_initialized (both_more (both_declaring i) h)) both_initializer_start
    refl (depth_alike h)
after_init_alike (both_more (both_declaring i) h) x y puncts.Semicolon =
    declared_alike _ _ _ _ _ _ h
after_init_alike _ x y s = neither_takes

body_alike : {st su : List Frame} → SameStack st su → (x y : Declarator) (p q : Place)
    → SameStep (body_at st x p) (body_at su y q)
body_alike (both_more (both_declaring neither_init)
    (both_more (both_declares {s = External} both_alone) both_empty)) x y p q =
    taken_alike both_empty (both_spot both_await) refl refl
body_alike _ x y p q = neither_takes

ended_alike : {st su : List Frame} → SameStack st su → {x y : MayDeclarator} → SameMay x y
    → (s : Punct) → SameStep (ended st x s) (ended su y s)
ended_alike (both_more (both_owned {o = of_parameter}) h) {x} {y} m s =
    after_parameter_alike (both_more (both_owned {o = of_parameter}) h) x y s
ended_alike (both_more (both_owned {o = of_type_name}) h) {x} {y} m s =
    after_type_alike (both_more (both_owned {o = of_type_name}) h) x y s
ended_alike (both_more both_owned_members h) (both_declarators {x = x} {y = y}) s =
    after_member_alike (both_more both_owned_members h) x y s
ended_alike (both_more (both_group p) h) (both_declarators {x = x} {y = y}) s =
    after_group_alike (both_more (both_group p) h) x y s
ended_alike (both_more (both_declaring i) h) (both_declarators {x = x} {y = y}) s =
    after_init_alike (both_more (both_declaring i) h) x y s
ended_alike (both_more both_owned_members h) neither_declarator s = neither_takes
ended_alike _ m s = neither_takes

qualifier_alike : (m : Mode) (p q : Place) {ps qs : Pointers} {st su : List Frame} (k : TypeQualifier)
    {d e : ℕ} → SamePointers ps qs → SameStack st su → d ≡ e
    → SameStep (pointing_qualifier m p st d (qualified ps k)) (pointing_qualifier m q su e (qualified qs k))
qualifier_alike m p q k no_stars h d = neither_takes
qualifier_alike m p q k (more_stars s) h d =
    taken_alike h (both_pointing (more_stars s)) (within_alike h) d

pointing_keyword_alike : (m : Mode) (p q : Place) {ps qs : Pointers} {st su : List Frame}
    (k : Keyword) → SamePointers ps qs → SameStack st su
    → SameStep (pointing_keyword m p ps st (qualifier_of k)) (pointing_keyword m q qs su (qualifier_of k))
pointing_keyword_alike m p q keywords.Const s h =
    qualifier_alike m p q Const s h (stars_alike s (depth_alike h))
pointing_keyword_alike m p q keywords.Restrict s h =
    qualifier_alike m p q Restrict s h (stars_alike s (depth_alike h))
pointing_keyword_alike m p q _ s h = neither_takes

opened_at_alike : (m : Mode) (p q y z : Place) {ps qs : Pointers} {st su : List Frame}
    → SamePointers ps qs → SameStack st su
    → SameStep (opened_at m p ps y st) (opened_at m q qs z su)
opened_at_alike only_named p q y z s h =
    taken_alike (both_more (both_group s) h) (both_pointing no_stars) (within_alike h)
    (ap suc (stars_alike s (depth_alike h)))
opened_at_alike only_abstract p q y z s h =
    taken_alike h (both_opened s) (within_alike h) (ap suc (stars_alike s (depth_alike h)))
opened_at_alike either p q y z s h =
    taken_alike h (both_opened s) (within_alike h) (ap suc (stars_alike s (depth_alike h)))

pointing_sign_alike : (m : Mode) (p q y z : Place) {ps qs : Pointers} {st su : List Frame}
    (s : Punct) → SamePointers ps qs → SameStack st su
    → SameStep (pointing_sign m p ps st y s) (pointing_sign m q qs su z s)
pointing_sign_alike m p q y z puncts.Star s h =
    taken_alike h (both_pointing (more_stars s)) (within_alike h)
    (ap suc (stars_alike s (depth_alike h)))
pointing_sign_alike m p q y z puncts.LeftParenthesis s h = opened_at_alike m _ _ y z s h
pointing_sign_alike m p q y z puncts.LeftBracket s h =
    either_alike refl (taken_alike h (both_bracket s) (within_alike h)
    (ap suc (stars_alike s (depth_alike h)))) neither_takes
pointing_sign_alike m p q y z t s h =
    either_alike refl (ended_alike h (only_alike p q s) t) neither_takes

pub pointing_alike : (m : Mode) (p q y z : Place) {ps qs : Pointers} {st su : List Frame}
    {s t : Symbol} → SamePointers ps qs → SameStack st su → SameSymbol s t
    → SameStep (step_pointing m p ps st y s) (step_pointing m q qs su z t)
pointing_alike m p q y z s h same_name =
    either_alike refl (taken_alike h (both_direct s) (within_alike h)
    (stars_alike s (depth_alike h))) neither_takes
pointing_alike m p q y z s h (same_keyword {k = k}) = pointing_keyword_alike m p q k s h
pointing_alike m p q y z s h (same_sign {p = t}) = pointing_sign_alike m p q y z t s h
pointing_alike m p q y z s h _ = neither_takes

opened_sign_alike : (m : Mode) (p q b c y z : Place) {ps qs : Pointers} {st su : List Frame}
    {s t : Symbol} → SamePointers ps qs → SameStack st su → SameSymbol s t
    → SameStep (opened_sign m p ps b st y s) (opened_sign m q qs c su z t)
opened_sign_alike m p q b c y z s h (same_sign {p = puncts.RightParenthesis}) =
    taken_alike h (both_direct s) (within_alike h) (ap suc (stars_alike s (depth_alike h)))
opened_sign_alike m p q b c y z s h t =
    pointing_alike m y z y z no_stars
    (both_more (both_group {m = m} {p = p} {q = q} {x = b} {y = c} s) h) t

pub opened_alike : (m : Mode) (p q b c y z : Place) {ps qs : Pointers} {st su : List Frame}
    {s t : Symbol} → SamePointers ps qs → SameStack st su → SameSymbol s t
    → SameStep (step_opened m p ps b st y s) (step_opened m q qs c su z t)
opened_alike m p q b c y z s h t =
    specifier_alike of_parameter y z no_specifiers no_specifiers y z refl (both_more (both_parameters s) h) t
    (opened_sign_alike m p q b c y z s h t)

pub direct_alike : (m : Mode) (p q y z : Place) {ps qs : Pointers} (c d : Core) (ss ts : Suffixes)
    {st su : List Frame} {s t : Symbol} → SamePointers ps qs → SameStack st su → SameSymbol s t
    → SameStep (step_direct m p ps c ss st y s) (step_direct m q qs d ts su z t)
direct_alike m p q y z c d ss ts s h (same_sign {p = puncts.LeftBracket}) =
    taken_alike h (both_bracket s) (within_alike h) (ap suc (stars_alike s (depth_alike h)))
direct_alike m p q y z c d ss ts s h (same_sign {p = puncts.LeftParenthesis}) =
    taken_alike h (both_parameters_start s) (within_alike h)
    (ap suc (stars_alike s (depth_alike h)))
direct_alike m p q y z c d ss ts s h (same_sign {p = puncts.LeftBrace}) = body_alike h _ _ y z
direct_alike m p q y z c d ss ts s h (same_sign {p = t}) = ended_alike h both_declarators t
direct_alike m p q y z c d ss ts s h _ = neither_takes

bracket_keyword_alike : (m : Mode) (p q b x y z : Place) {ps qs : Pointers} (c d : Core)
    (ss ts : Suffixes) (us vs : Qualifiers) {st su : List Frame} (k : Keyword)
    → SamePointers ps qs → SameStack st su
    → SameStep (step_bracket m p ps c ss b us st y (keyword k))
    (step_bracket m q qs d ts x vs su z (keyword k))
bracket_keyword_alike m p q b x y z c d ss ts us vs keywords.Const s h =
    taken_alike h (both_bracket s) (within_alike h) (ap suc (stars_alike s (depth_alike h)))
bracket_keyword_alike m p q b x y z c d ss ts us vs keywords.Restrict s h =
    taken_alike h (both_bracket s) (within_alike h) (ap suc (stars_alike s (depth_alike h)))
bracket_keyword_alike m p q b x y z c d ss ts us vs k s h =
    want_keyword_alike y z k (both_more (both_length {m = m} {p = p} {q = q} {x = b} {y = x} {c = c} {d = d} {ss = ss} {ts = ts} {us = us}
    {vs = vs} s) h)

pub bracket_step_alike : (m : Mode) (p q b x y z : Place) {ps qs : Pointers} (c d : Core)
    (ss ts : Suffixes) (us vs : Qualifiers) {st su : List Frame} {s t : Symbol}
    → SamePointers ps qs → SameStack st su → SameSymbol s t
    → SameStep (step_bracket m p ps c ss b us st y s) (step_bracket m q qs d ts x vs su z t)
bracket_step_alike m p q b x y z c d ss ts us vs s h (same_sign {p = puncts.RightBracket}) =
    taken_alike h (both_direct s) (within_alike h) (ap suc (stars_alike s (depth_alike h)))
bracket_step_alike m p q b x y z c d ss ts us vs s h (same_keyword {k = k}) =
    bracket_keyword_alike m p q b x y z c d ss ts us vs k s h
bracket_step_alike m p q b x y z c d ss ts us vs s h t =
    operand_alike y z (both_more (both_length {m = m} {p = p} {q = q} {x = b} {y = x} {c = c} {d = d} {ss = ss} {ts = ts} {us = us}
    {vs = vs} s) h) t

no_parameters_alike : (m : Mode) (p q b x : Place) {ps qs : Pointers} (c d : Core)
    (ss ts : Suffixes) {st su : List Frame} {s t : Symbol} → SamePointers ps qs → SameStack st su
    → SameSymbol s t
    → SameStep (no_parameters_at m p ps c ss b st s) (no_parameters_at m q qs d ts x su t)
no_parameters_alike m p q b x c d ss ts s h (same_sign {p = puncts.RightParenthesis}) =
    taken_alike h (both_direct s) (within_alike h) (ap suc (stars_alike s (depth_alike h)))
no_parameters_alike m p q b x c d ss ts s h _ = neither_takes

pub parameters_alike : (m : Mode) (p q b x y z : Place) {ps qs : Pointers} (c d : Core)
    (ss ts : Suffixes) {st su : List Frame} {s t : Symbol} → SamePointers ps qs → SameStack st su
    → SameSymbol s t
    → SameStep (step_parameters m p ps c ss b st y s) (step_parameters m q qs d ts x su z t)
parameters_alike m p q b x y z c d ss ts s h t =
    specifier_alike of_parameter y z no_specifiers no_specifiers y z refl (both_more (both_parameters s) h) t
    (no_parameters_alike m p q b x c d ss ts s h t)

pub ellipsis_at_alike : {st su : List Frame} {s t : Symbol} → SameStack st su → SameSymbol s t
    → SameStep (ellipsis_at st s) (ellipsis_at su t)
ellipsis_at_alike h (same_sign {p = puncts.Ellipsis}) =
    taken_alike h both_after_ellipsis (within_alike h) (depth_alike h)
ellipsis_at_alike h _ = neither_takes

pub ellipsis_alike : {st su : List Frame} {s t : Symbol} → SameStack st su → SameSymbol s t
    → SameStep (step_ellipsis st s) (step_ellipsis su t)
ellipsis_alike (both_more (both_parameters s) h) (same_sign {p = puncts.RightParenthesis}) =
    taken_alike h (both_direct s) (within_alike h) (ap suc (stars_alike s (depth_alike h)))
ellipsis_alike h _ = neither_takes

------ after specifiers

words_ended_alike : (o : Owner) (p q : Place) (xs ys : Specifiers) {st su : List Frame}
    (y z : Place) {s t : Symbol} → SameStack st su → SameSymbol s t
    → SameStep (words_ended o p xs st y s) (words_ended o q ys su z t)
words_ended_alike of_type_name p q xs ys y z h s =
    pointing_alike only_abstract y z y z no_stars (both_more both_owned h) s
words_ended_alike of_parameter p q xs ys y z h s =
    pointing_alike either y z y z no_stars (both_more both_owned h) s
words_ended_alike of_member p q xs ys y z h s =
    pointing_alike only_named y z y z no_stars (both_more both_owned_members h) s
words_ended_alike of_declaration p q xs ys y z h (same_sign {p = puncts.Semicolon}) =
    declared_alike _ _ _ _ _ _ h
words_ended_alike of_declaration p q xs ys y z h s =
    pointing_alike only_named y z y z no_stars
    (both_more (both_declaring {p = p} {q = q} {xs = xs} {ys = ys} neither_init) h) s

pub words_alike : (o : Owner) (p q : Place) (xs ys : Specifiers) {st su : List Frame} (y z : Place)
    {s t : Symbol} → has_type xs ≡ has_type ys → SameStack st su → SameSymbol s t
    → SameStep (step_words o p xs st y s) (step_words o q ys su z t)
words_alike o p q xs ys y z e h s =
    specifier_alike o p q xs ys y z e h s (words_ended_alike o p q xs ys y z h s)

ended_word_alike : {st su : List Frame} {x w : Specifier} (y z : Place) {s t : Symbol}
    → SameStack st su → SameSpecifier x w → SameSymbol s t
    → SameStep (ended_word st x y s) (ended_word su w z t)
ended_word_alike y z (both_more (both_specified {o = o} {p = p} {q = q} {xs = xs} {ys = ys} e) h) w s =
    words_alike o p q _ _ y z (typed_alike xs ys w e) h s
ended_word_alike y z _ w s = neither_takes

pub compound_alike : (p q : Place) (k l : StructOrUnion) {st su : List Frame} (y z : Place)
    {s t : Symbol} → SameStack st su → SameSymbol s t
    → SameStep (step_compound p k st y s) (step_compound q l su z t)
compound_alike p q k l y z h same_name =
    taken_alike h both_tag (within_alike h) (depth_alike h)
compound_alike p q k l y z h (same_sign {p = puncts.LeftBrace}) =
    taken_alike (both_more (both_body neither_member) h) both_member_start (within_alike h)
    (ap suc (depth_alike h))
compound_alike p q k l y z h _ = neither_takes

pub tag_alike : (p q a b : Place) (k l : StructOrUnion) (n o : List ℕ) {st su : List Frame}
    (y z : Place) {s t : Symbol} → SameStack st su → SameSymbol s t
    → SameStep (step_tag p k a n st y s) (step_tag q l b o su z t)
tag_alike p q a b k l n o y z h (same_sign {p = puncts.LeftBrace}) =
    taken_alike (both_more (both_body neither_member) h) both_member_start (within_alike h)
    (ap suc (depth_alike h))
tag_alike p q a b k l n o y z h s = ended_word_alike y z h both_type s

body_ended_alike : {st su : List Frame} {s t : Symbol} → SameStack st su → SameSymbol s t
    → SameStep (body_ended st s) (body_ended su t)
body_ended_alike (both_more (both_body both_members) h) (same_sign {p = puncts.RightBrace}) =
    specified_alike _ _ h both_type (ap suc (depth_alike h))
body_ended_alike h _ = neither_takes

pub member_alike : {st su : List Frame} (y z : Place) {s t : Symbol} → SameStack st su
    → SameSymbol s t → SameStep (step_member st y s) (step_member su z t)
member_alike y z h s =
    specifier_alike of_member y z no_specifiers no_specifiers y z refl h s (body_ended_alike h s)

pub enum_alike : (p q : Place) {st su : List Frame} (y z : Place) {s t : Symbol} → SameStack st su
    → SameSymbol s t → SameStep (step_enum p st y s) (step_enum q su z t)
enum_alike p q y z h same_name = taken_alike h both_enum_tag (within_alike h) (depth_alike h)
enum_alike p q y z h (same_sign {p = puncts.LeftBrace}) =
    taken_alike (both_more (both_listing neither_enumerator) h) both_enumerator_start
    (within_alike h) (ap braced (depth_alike h))
enum_alike p q y z h _ = neither_takes

pub enum_tag_alike : (p q a b : Place) (n o : List ℕ) {st su : List Frame} (y z : Place)
    {s t : Symbol} → SameStack st su → SameSymbol s t
    → SameStep (step_enum_tag p a n st y s) (step_enum_tag q b o su z t)
enum_tag_alike p q a b n o y z h (same_sign {p = puncts.LeftBrace}) =
    taken_alike (both_more (both_listing neither_enumerator) h) both_enumerator_start
    (within_alike h) (ap braced (depth_alike h))
enum_tag_alike p q a b n o y z h s = ended_word_alike y z h both_type s

listing_ended_alike : {st su : List Frame} → SameStack st su
    → SameStep (listing_ended st) (listing_ended su)
listing_ended_alike (both_more (both_listing both_enumerators) h) =
    specified_alike _ _ h both_type (ap braced (depth_alike h))
listing_ended_alike _ = neither_takes

pub enumerator_alike : {st su : List Frame} (y z : Place) {s t : Symbol} → SameStack st su
    → SameSymbol s t → SameStep (step_enumerator st y s) (step_enumerator su z t)
enumerator_alike y z h same_name =
    taken_alike h both_after_enumerator (within_alike h) (depth_alike h)
enumerator_alike y z h (same_sign {p = puncts.RightBrace}) = listing_ended_alike h
enumerator_alike y z h _ = neither_takes

enumerator_sign_alike : {st su : List Frame} → SameStack st su → (p q : Place) (n o : List ℕ)
    (s : Punct) → SameStep (enumerator_named st p n s) (enumerator_named su q o s)
enumerator_sign_alike (both_more (both_listing e) h) p q n o puncts.Equal =
    taken_alike (both_more both_valued (both_more (both_listing e) h)) both_want (within_alike h)
    (ap braced (depth_alike h))
enumerator_sign_alike (both_more (both_listing e) h) p q n o puncts.Comma =
    taken_alike (both_more (both_listing both_enumerators) h) both_enumerator_start
    (within_alike h) (ap braced (depth_alike h))
enumerator_sign_alike (both_more (both_listing e) h) p q n o puncts.RightBrace =
    specified_alike _ _ h both_type (ap braced (depth_alike h))
enumerator_sign_alike _ p q n o s = neither_takes

pub enumerator_name_alike : (p q : Place) (n o : List ℕ) {st su : List Frame} {s t : Symbol}
    → SameStack st su → SameSymbol s t
    → SameStep (step_enumerator_name p n st s) (step_enumerator_name q o su t)
enumerator_name_alike p q n o h (same_sign {p = s}) = enumerator_sign_alike h p q n o s
enumerator_name_alike p q n o h _ = neither_takes

------ initialisers

pub initializer_alike : {st su : List Frame} (y z : Place) {s t : Symbol} → SameStack st su
    → SameSymbol s t → SameStep (step_initializer st y s) (step_initializer su z t)
initializer_alike y z h (same_sign {p = puncts.LeftBrace}) =
    taken_alike (both_more (both_braces neither_initializer) h) both_braces_start refl
    (ap suc (depth_alike h))
initializer_alike y z h s = operand_alike y z h s

braces_ended_alike : {st su : List Frame} → SameStack st su
    → SameStep (braces_ended st) (braces_ended su)
braces_ended_alike (both_more (both_braces both_initializers) h) =
    taken_alike h both_after_initializer refl (ap suc (depth_alike h))
braces_ended_alike _ = neither_takes

pub braces_alike : {st su : List Frame} (y z : Place) {s t : Symbol} → SameStack st su
    → SameSymbol s t → SameStep (step_braces st y s) (step_braces su z t)
braces_alike y z h (same_sign {p = puncts.LeftBracket}) =
    taken_alike (both_more both_index h) both_want refl (ap suc (depth_alike h))
braces_alike y z h (same_sign {p = puncts.Dot}) =
    taken_alike h both_after_dot refl (depth_alike h)
braces_alike y z h (same_sign {p = puncts.RightBrace}) = braces_ended_alike h
braces_alike y z h s =
    initializer_alike y z
    (both_more (both_designated {g = no_designation} {h = no_designation}) h) s

pub dot_alike : (p q : Place) {st su : List Frame} {s t : Symbol} → SameStack st su
    → SameSymbol s t → SameStep (step_dot p st s) (step_dot q su t)
dot_alike p q h same_name = taken_alike h both_after_designator refl (depth_alike h)
dot_alike p q h _ = neither_takes

pub designator_alike : (g k : Designation) {st su : List Frame} {s t : Symbol} → SameStack st su
    → SameSymbol s t → SameStep (step_designator g st s) (step_designator k su t)
designator_alike g k h (same_sign {p = puncts.Equal}) =
    taken_alike (both_more both_designated h) both_initializer_start refl (depth_alike h)
designator_alike g k h _ = neither_takes

pub after_initializer_alike : {st su : List Frame} (x y : Initializer) {s t : Symbol}
    → SameStack st su → SameSymbol s t
    → SameStep (step_initialized st x s) (step_initialized su y t)
after_initializer_alike x y h (same_sign {p = s}) = initialized_alike h x y s
after_initializer_alike x y h _ = neither_takes

------ elements

meets_alike : (e : Fixed) {s t : Symbol} → SameSymbol s t → meets e s ≡ meets e t
meets_alike e same_keyword = refl
meets_alike e same_sign = refl
meets_alike e same_hole = refl
meets_alike e same_foreign = refl
meets_alike the_hole same_name = refl
meets_alike the_hole same_marked = refl
meets_alike the_hole same_number = refl
meets_alike the_hole same_text = refl
meets_alike e same_name = refl
meets_alike e same_marked = refl
meets_alike e same_number = refl
meets_alike e same_text = refl

fixed_alike : (e : Fixed) {m n : State} {s t : Symbol} → SameState m n → SameSymbol s t
    → SameStep (cond (meets e s) (loosely m 0) None) (cond (meets e t) (loosely n 0) None)
fixed_alike e h s =
    either_alike (meets_alike e s) (both_take h refl refl refl refl) neither_takes

spots : {s : Standing} {x y : Spot} → SameSpot x y → SameState (spot s x) (spot s y)
spots h = record { stack = both_empty; at = both_spot h }

wants : {s : Standing} {c d : Part} → SamePart c d
    → SameState (state (Statement s c ∷ []) Want) (state (Statement s d ∷ []) Want)
wants c = record { stack = both_more (both_statement c) both_empty; at = both_want }

optional_alike : (s : Standing) {c d : Optional} (y z : Place) {a t : Symbol} → SameOptional c d
    → SameSymbol a t → SameStep (optional_at s c y a) (optional_at s d z t)
optional_alike s {c} {d} y z {a} {t} h g =
    either_alike (ap (λ e. meets e a) (closer_alike (both_optional h))
    ∙ meets_alike (closer (optional d)) g)
    (taken_alike both_empty (both_spot (after_optional_alike None None h)) refl refl)
    (operand_alike y z (both_more (both_statement (both_optional h)) both_empty) g)

expression_alike : (s : Standing) (y z : Place) {a t : Symbol} → SameSymbol a t
    → SameStep (operand_at (Statement s of_expression ∷ []) y a)
    (operand_at (Statement s of_expression ∷ []) z t)
expression_alike s y z g =
    operand_alike y z (both_more (both_statement both_expression) both_empty) g

statement_keyword_alike : (s : Standing) (y z : Place) (k : Keyword)
    → SameStep (statement_at s y (keyword k)) (statement_at s z (keyword k))
statement_keyword_alike s y z keywords.Case = both_take (wants both_case) refl refl refl refl
statement_keyword_alike s y z keywords.If = both_take (spots (both_opening both_if)) refl refl refl refl
statement_keyword_alike s y z keywords.Switch =
    both_take (spots (both_opening both_switch)) refl refl refl refl
statement_keyword_alike s y z keywords.While =
    both_take (spots (both_opening both_while)) refl refl refl refl
statement_keyword_alike s y z keywords.Do = both_take (spots (both_opening both_do)) refl refl refl refl
statement_keyword_alike s y z keywords.For = both_take (spots both_for_opening) refl refl refl refl
statement_keyword_alike s y z keywords.Return =
    both_take (spots (both_before both_return)) refl refl refl refl
statement_keyword_alike s y z keywords.Default = both_take (spots both_await) refl refl refl refl
statement_keyword_alike s y z keywords.Continue = both_take (spots both_await) refl refl refl refl
statement_keyword_alike s y z keywords.Break = both_take (spots both_await) refl refl refl refl
statement_keyword_alike s y z k = expression_alike s y z (same_keyword {k = k})

statement_alike : (s : Standing) (y z : Place) {a t : Symbol} → SameSymbol a t
    → SameStep (statement_at s y a) (statement_at s z t)
statement_alike s y z (same_keyword {k = k}) = statement_keyword_alike s y z k
statement_alike s y z (same_sign {p = puncts.LeftBrace}) =
    both_take (spots both_await) refl refl refl refl
statement_alike s y z (same_sign {p = puncts.Semicolon}) =
    both_take (spots both_await) refl refl refl refl
statement_alike s y z g = expression_alike s y z g

lone_alike : (y z : Place) {a t : Symbol} → SameSymbol a t → SameStep (lone_at y a) (lone_at z t)
lone_alike y z (same_sign {p = puncts.Semicolon}) =
    both_take (spots both_await) refl refl refl refl
lone_alike y z _ = neither_takes

start_alike : (s : Standing) (y z : Place) {a t : Symbol} → SameSymbol a t
    → SameStep (start_at s y a) (start_at s z t)
start_alike External y z g =
    specifier_alike of_declaration y z no_specifiers no_specifiers y z refl
    (both_more (both_declares {s = External} both_alone) both_empty) g (lone_alike y z g)
start_alike Item y z g =
    specifier_alike of_declaration y z no_specifiers no_specifiers y z refl
    (both_more (both_declares {s = Item} both_alone) both_empty) g (statement_alike Item y z g)
start_alike Nested y z g = statement_alike Nested y z g

spot_alike : (s : Standing) {x w : Spot} (y z : Place) {a t : Symbol} → SameSpot x w
    → SameSymbol a t → SameStep (step_spot s x y a) (step_spot s w z t)
spot_alike s y z both_start g = start_alike s y z g
spot_alike s y z (both_await {es = []}) g = neither_takes
spot_alike s y z (both_await {es = e ∷ es}) g = fixed_alike e (spots both_await) g
spot_alike s y z (both_opening {es = []} c) g = neither_takes
spot_alike s y z (both_opening {es = e ∷ []} c) g = fixed_alike e (wants c) g
spot_alike s y z (both_opening {es = e ∷ f ∷ es} c) g = fixed_alike e (spots (both_opening c)) g
spot_alike s y z both_after_if g = fixed_alike the_hole (spots both_may_else) g
spot_alike s y z both_may_else g = fixed_alike the_else (spots both_await) g
spot_alike s y z both_for_opening g = fixed_alike the_opening (spots both_for_start) g
spot_alike s y z both_for_start g =
    specifier_alike of_declaration y z no_specifiers no_specifiers y z refl
    (both_more (both_declares both_in_for) both_empty) g (optional_alike s y z both_first g)
spot_alike s y z (both_before c) g = optional_alike s y z c g

------ all

step_at_alike : {st su : List Frame} {m n : At} (y z : Place) {s t : Symbol} → SameStack st su
    → SameAt m n → SameSymbol s t → SameStep (step_at st m y s) (step_at su n z t)
step_at_alike y z h both_want s = want_alike y z h s
step_at_alike y z h (both_have {k = k} {a = a} {b = b}) s = have_alike k a b h s
step_at_alike y z h (both_selecting {s = i} {t = j} {a = a} {b = b}) s = selecting_alike i j a b h s
step_at_alike y z h (both_words {o = o} {p = p} {q = q} {xs = xs} {ys = ys} e) s =
    words_alike o p q xs ys y z e h s
step_at_alike y z h (both_compound {p = p} {q = q} {k = k} {l = l}) s =
    compound_alike p q k l y z h s
step_at_alike y z h (both_tag {p = p} {q = q} {x = a} {y = b} {k = k} {l = l} {n = n} {o = o}) s =
    tag_alike p q a b k l n o y z h s
step_at_alike y z h (both_enum {p = p} {q = q}) s = enum_alike p q y z h s
step_at_alike y z h (both_enum_tag {p = p} {q = q} {x = a} {y = b} {n = n} {o = o}) s =
    enum_tag_alike p q a b n o y z h s
step_at_alike y z h both_member_start s = member_alike y z h s
step_at_alike y z h both_enumerator_start s = enumerator_alike y z h s
step_at_alike y z h (both_after_enumerator {p = p} {q = q} {n = n} {o = o}) s =
    enumerator_name_alike p q n o h s
step_at_alike y z h (both_pointing {m = m} {p = p} {q = q} e) s = pointing_alike m p q y z e h s
step_at_alike y z h (both_opened {m = m} {p = p} {q = q} {x = a} {y = b} e) s =
    opened_alike m p q a b y z e h s
step_at_alike y z h (both_direct {m = m} {p = p} {q = q} {c = c} {d = d} {ss = i} {ts = j} e) s =
    direct_alike m p q y z c d i j e h s
step_at_alike y z h (both_bracket {m = m} {p = p} {q = q} {x = a} {y = b} {c = c} {d = d} {ss = i}
    {ts = j} {us = us} {vs = vs} e) s = bracket_step_alike m p q a b y z c d i j us vs e h s
step_at_alike y z h (both_parameters_start {m = m} {p = p} {q = q} {x = a} {y = b} {c = c} {d = d}
    {ss = i} {ts = j} e) s = parameters_alike m p q a b y z c d i j e h s
step_at_alike y z h both_parameter_next s =
    specifier_alike of_parameter y z no_specifiers no_specifiers y z refl h s (ellipsis_at_alike h s)
step_at_alike y z h both_after_ellipsis s = ellipsis_alike h s
step_at_alike y z h both_initializer_start s = initializer_alike y z h s
step_at_alike y z h both_braces_start s = braces_alike y z h s
step_at_alike y z h (both_after_dot {p = p} {q = q}) s = dot_alike p q h s
step_at_alike y z h (both_after_designator {g = g} {h = k}) s = designator_alike g k h s
step_at_alike y z h (both_after_initializer {x = a} {y = b}) s = after_initializer_alike a b h s
step_at_alike y z h (both_spot {s = i} e) s = spot_alike i y z e s

-- tokens of the same kind do the same in states that differ only in what was read
pub step_alike : (m n : State) (t u : Token) → SameState m n → SameSymbol t.symbol u.symbol
    → SameStep (step m t) (step n u)
step_alike m n t u h s = step_at_alike t.place u.place h.stack h.at s

------ the end

end_alike : {st su : List Frame} (a b : Expr) → SameStack st su
    → is_some (end_at st a) ≡ is_some (end_at su b)
end_alike a b both_empty = refl
end_alike a b (both_more f h) = refl

finished_alike : {st su : List Frame} {m n : At} → SameStack st su → SameAt m n
    → is_some (finished_at st m) ≡ is_some (finished_at su n)
finished_alike h (both_have {k = k} {a = a} {b = b}) =
    end_alike _ _ (reduce_alike 0 h k k refl a b).stack
finished_alike h _ = refl

element_alike : {m n : At} → SameAt m n → is_some (element_at m) ≡ is_some (element_at n)
element_alike (both_spot (both_await {es = []})) = refl
element_alike (both_spot (both_await {es = e ∷ es})) = refl
element_alike (both_spot both_may_else) = refl
element_alike _ = refl

pub ends_alike_too : (m n : State) → SameState m n
    → (is_some (finished m) ≡ is_some (finished n))
    × (is_some (finished_element m) ≡ is_some (finished_element n))
ends_alike_too m n h = (finished_alike h.stack h.at, element_alike h.at)
