-- Declarators and specifiers with braces: a step of the pure machine is seen in the control as its
-- step.
use Rattle.std.proofs.Common.{◌≡◌, ℕ, suc, Bool, true, false, cond, List, ◌∷◌, None, refl, ap, ◌∙◌}
use Rattle.hv_base.specs.declared.place.Place.{Place}
use Rattle.hv_base.specs.declared.keyword.Keyword.{Keyword}
use Rattle.hv_base.specs.declared.keyword.Keyword.TheVariants as keywords
use Rattle.hv_base.specs.declared.punct.Punct.{Punct}
use Rattle.hv_base.specs.declared.punct.Punct.TheVariants as puncts
use Rattle.hv_ctree.specs.declared.tree.words.StructOrUnion.{StructOrUnion}
use Rattle.hv_ctree.specs.declared.tree.words.TypeQualifier.{TypeQualifier}
use Rattle.hv_ctree.specs.declared.tree.words.TypeQualifier.TheVariants.{Const, Restrict}
use Rattle.hv_ctree.specs.tree.Expressions.{Specifiers, TypeSpecifier, of_type, Declarator, MayDeclarator, no_declarator, some_declarator, Core, Suffixes, Pointers, no_pointers, then_pointer, Qualifiers, no_qualifiers, no_parameters, no_declarators, nothing, no_suffixes, declarator, then_specifier, compound, mentioned, defined, enumeration, listed_before, then_member, then_enumerator, plain as single}
use Rattle.hv_ctree.specs.tree.Statements.{no_init_declarators}
use Rattle.hv_grammar.specs.Symbols.{Symbol, keyword, name, sign}
use Rattle.hv_grammar.specs.Expressions.{stars, has_type}
use Rattle.hv_grammar.specs.machine.Frames as plain
use Rattle.hv_grammar.specs.machine.Steps as plain_steps
use Rattle.hv_cparse.specs.Control.{owner_of, mode_of, count, frames_of, frames_at, at_of, class_of, has_enumerators}
use Rattle.hv_cparse.specs.working.Tables.{depth}
use Rattle.hv_cparse.specs.working.Steps as steps
use Rattle.hv_cparse.specs.working.Seen.{seen}
use Rattle.hv_cparse.proofs.Shadows.{both, depth_seen, within_seen, stars_seen}
use Rattle.hv_cparse.proofs.SpecifiersSeen.{specifier_seen, first_seen, operand_seen, want_seen}
use Rattle.hv_cparse.proofs.DeclarationsSeen.{declared_seen, init_seen, body_seen}
use Rattle.hv_cparse.proofs.InitializersSeen.{initializer_seen, braces_seen, dot_seen, designator_seen, initialized_seen}
use Rattle.hv_cparse.proofs.StatementsSeen.{spot_seen}
use Rattle.hv_cparse.proofs.OperatorsSeen.{specified_seen, listed_seen, have_seen, selecting_seen}

-- after the middle of a declarator, whatever that is
abbrev direct : plain.Mode → Place → Pointers → plain.At
direct m p ps = plain.Direct m p ps nothing no_suffixes

-- whether there is a declarator
abbrev is_there : MayDeclarator → Bool
is_there no_declarator = false
is_there (some_declarator x) = true

starred_seen : (stack : List plain.Frame) (a : plain.At) (ps : Pointers)
    → frames_at a stack ≡ frames_of stack
    → seen (plain_steps.plainly stack (plain_steps.state stack a) (stars ps (plain.depth stack)))
    ≡ steps.starred (at_of a) (count ps) (frames_of stack)
starred_seen stack a ps h =
    rw (h, depth_seen stack, stars_seen ps (depth (frames_of stack)), within_seen stack) refl

bracketed_seen : (stack : List plain.Frame) (a : plain.At) (ps : Pointers)
    → frames_at a stack ≡ frames_of stack
    → seen (plain_steps.plainly stack (plain_steps.state stack a)
    (suc (stars ps (plain.depth stack)))) ≡ steps.starred (at_of a) (suc (count ps)) (frames_of stack)
bracketed_seen stack a ps h =
    rw (h, depth_seen stack, stars_seen ps (depth (frames_of stack)), within_seen stack) refl

after_parameter_seen : (o : plain.Owner) (r : Place) (xs : Specifiers) (stack : List plain.Frame)
    (x : MayDeclarator) (s : Punct)
    → seen (plain_steps.after_parameter (plain.Owned o r xs ∷ stack) x s)
    ≡ steps.after_parameter (frames_of stack) s
after_parameter_seen o r xs (plain.Parameters m p ps c ss b q params ∷ stack) x puncts.Comma =
    rw (depth_seen stack, stars_seen ps (depth (frames_of stack)), within_seen stack) refl
after_parameter_seen o r xs (plain.Parameters m p ps c ss b q params ∷ stack) x
    puncts.RightParenthesis =
    rw (depth_seen stack, stars_seen ps (depth (frames_of stack)), within_seen stack) refl
after_parameter_seen o r xs _ x s = refl

after_member_seen : (r : Place) (xs : Specifiers) (ds : _) (stack : List plain.Frame)
    (x : Declarator) (s : Punct)
    → seen (plain_steps.after_member (plain.OwnedMembers r xs ds ∷ stack) x s)
    ≡ steps.after_member (frames_of stack) s
after_member_seen r xs ds stack x puncts.Comma = rw (depth_seen stack, within_seen stack) refl
after_member_seen r xs ds (plain.Body q k t ms ∷ stack) x puncts.Semicolon =
    rw (depth_seen stack, within_seen stack) refl
after_member_seen r xs ds _ x s = refl

after_type_name_seen : (o : plain.Owner) (r : Place) (xs : Specifiers) (stack : List plain.Frame)
    (x : MayDeclarator) (s : Punct)
    → seen (plain_steps.after_type_name (plain.Owned o r xs ∷ stack) x s)
    ≡ steps.after_type_name (frames_of stack) s
after_type_name_seen o r xs (plain.CastType p ∷ stack) x puncts.RightParenthesis =
    rw (depth_seen stack) refl
after_type_name_seen o r xs (plain.SizeofType p ∷ stack) x puncts.RightParenthesis =
    rw (depth_seen stack) refl
after_type_name_seen o r xs _ x s = refl

after_group_seen : (m : plain.Mode) (p : Place) (ps : Pointers) (q : Place)
    (stack : List plain.Frame) (x : Declarator) (s : Punct)
    → seen (plain_steps.after_group (plain.Group m p ps q ∷ stack) x s)
    ≡ steps.after_group (mode_of m) (count ps) (frames_of stack) s
after_group_seen m p ps q stack x puncts.RightParenthesis =
    bracketed_seen stack (direct m p ps) ps refl
after_group_seen m p ps q stack x s = refl

ended_seen : (stack : List plain.Frame) (x : MayDeclarator) (s : Punct)
    → seen (plain_steps.ended stack x s) ≡ steps.ended (is_there x) (frames_of stack) s
ended_seen (plain.Owned plain.of_parameter r xs ∷ stack) x s =
    after_parameter_seen plain.of_parameter r xs stack x s
ended_seen (plain.Owned plain.of_type_name r xs ∷ stack) x s =
    after_type_name_seen plain.of_type_name r xs stack x s
ended_seen (plain.OwnedMembers r xs ds ∷ stack) (some_declarator x) s =
    after_member_seen r xs ds stack x s
ended_seen (plain.Group m p ps q ∷ stack) (some_declarator x) s =
    after_group_seen m p ps q stack x s
ended_seen (plain.Declaring p xs ds ∷ stack) (some_declarator x) s =
    init_seen p xs ds stack x s
ended_seen _ x s = refl

there_seen : (p : Place) (ps : Pointers)
    → is_there (plain_steps.only_pointers p ps) ≡ steps.some (count ps)
there_seen p no_pointers = refl
there_seen p (then_pointer ps q qs) = refl

lacking_seen : (m : plain.Mode)
    → plain_steps.may_lack_name m ≡ steps.may_lack_name (mode_of m)
lacking_seen plain.only_named = refl
lacking_seen plain.only_abstract = refl
lacking_seen plain.either = refl

naming_seen : (m : plain.Mode) → plain_steps.may_name m ≡ steps.may_name (mode_of m)
naming_seen plain.only_named = refl
naming_seen plain.only_abstract = refl
naming_seen plain.either = refl

qualifier_seen : (m : plain.Mode) (p : Place) (ps : Pointers) (stack : List plain.Frame)
    (q : TypeQualifier)
    → seen (plain_steps.pointing_qualifier m p stack (stars ps (plain.depth stack))
    (plain_steps.qualified ps q)) ≡ steps.qualifier_at (mode_of m) (count ps) (frames_of stack)
qualifier_seen m p no_pointers stack q = refl
qualifier_seen m p (then_pointer ps r qs) stack q =
    bracketed_seen stack (plain.Pointing m p (then_pointer ps r qs)) ps refl

pointing_keyword_seen : (m : plain.Mode) (p : Place) (ps : Pointers) (stack : List plain.Frame)
    (q : Place) (k : Keyword)
    → seen (plain_steps.step_pointing m p ps stack q (keyword k))
    ≡ steps.step_pointing (mode_of m) (count ps) (frames_of stack) (class_of (keyword k))
pointing_keyword_seen m p ps stack q keywords.Const = qualifier_seen m p ps stack Const
pointing_keyword_seen m p ps stack q keywords.Restrict = qualifier_seen m p ps stack Restrict
pointing_keyword_seen m p ps stack q _ = refl

opened_at_seen : (m : plain.Mode) (p : Place) (ps : Pointers) (q : Place)
    (stack : List plain.Frame)
    → seen (plain_steps.opened_at m p ps q stack)
    ≡ steps.opened_at (mode_of m) (count ps) (frames_of stack)
opened_at_seen plain.only_named p ps q stack =
    rw (depth_seen stack, stars_seen ps (depth (frames_of stack)), within_seen stack) refl
opened_at_seen plain.only_abstract p ps q stack =
    bracketed_seen stack (plain.Opened plain.only_abstract p ps q) ps refl
opened_at_seen plain.either p ps q stack =
    bracketed_seen stack (plain.Opened plain.either p ps q) ps refl

lacked_seen : (m : plain.Mode) (p : Place) (ps : Pointers) (stack : List plain.Frame) (s : Punct)
    → seen (cond (plain_steps.may_lack_name m)
    (plain_steps.ended stack (plain_steps.only_pointers p ps) s) None)
    ≡ cond (steps.may_lack_name (mode_of m)) (steps.ended (steps.some (count ps)) (frames_of stack) s)
    None
lacked_seen m p ps stack s =
    both seen (plain_steps.may_lack_name m) (steps.may_lack_name (mode_of m)) _ _ _ _
    (lacking_seen m)
    (ended_seen stack (plain_steps.only_pointers p ps) s
    ∙ ap (λ (b : Bool). steps.ended b (frames_of stack) s) (there_seen p ps)) refl

pointing_sign_seen : (m : plain.Mode) (p : Place) (ps : Pointers) (stack : List plain.Frame)
    (q : Place) (s : Punct)
    → seen (plain_steps.pointing_sign m p ps stack q s)
    ≡ steps.pointing_sign (mode_of m) (count ps) (frames_of stack) s
pointing_sign_seen m p ps stack q puncts.Star =
    bracketed_seen stack (plain.Pointing m p (then_pointer ps q no_qualifiers)) ps refl
pointing_sign_seen m p ps stack q puncts.LeftParenthesis = opened_at_seen m (plain_steps.begins p ps q) ps q stack
pointing_sign_seen m p ps stack q puncts.LeftBracket =
    both seen (plain_steps.may_lack_name m) (steps.may_lack_name (mode_of m)) _ _ _ _
    (lacking_seen m)
    (bracketed_seen stack (plain.Bracket m p ps nothing no_suffixes q no_qualifiers) ps refl) refl
pointing_sign_seen m p ps stack q s = lacked_seen m p ps stack s

pub pointing_seen : (m : plain.Mode) (p : Place) (ps : Pointers) (stack : List plain.Frame)
    (q : Place) (s : Symbol)
    → seen (plain_steps.step_pointing m p ps stack q s)
    ≡ steps.step_pointing (mode_of m) (count ps) (frames_of stack) (class_of s)
pointing_seen m p ps stack q (name n) =
    both seen (plain_steps.may_name m) (steps.may_name (mode_of m)) _ _ _ _
    (naming_seen m) (starred_seen stack (direct m p ps) ps refl) refl
pointing_seen m p ps stack q (keyword k) = pointing_keyword_seen m p ps stack q k
pointing_seen m p ps stack q (sign s) = pointing_sign_seen m p ps stack q s
pointing_seen m p ps stack q _ = refl

opened_sign_seen : (m : plain.Mode) (p : Place) (ps : Pointers) (b : Place)
    (stack : List plain.Frame) (q : Place) (s : Symbol)
    → seen (plain_steps.opened_sign m p ps b stack q s)
    ≡ steps.opened_sign (mode_of m) (count ps) (frames_of stack) (class_of s)
opened_sign_seen m p ps b stack q (sign puncts.RightParenthesis) =
    bracketed_seen stack (direct m p ps) ps refl
opened_sign_seen m p ps b stack q s =
    pointing_seen m q no_pointers (plain.Group m p ps b ∷ stack) q s

pub opened_seen : (m : plain.Mode) (p : Place) (ps : Pointers) (b : Place)
    (stack : List plain.Frame) (q : Place) (s : Symbol)
    → seen (plain_steps.step_opened m p ps b stack q s)
    ≡ steps.step_opened (mode_of m) (count ps) (frames_of stack) (class_of s)
opened_seen m p ps b stack q s =
    first_seen plain.of_parameter (plain.Parameters m p ps nothing no_suffixes b q no_parameters ∷ stack) q s _ _
    (opened_sign_seen m p ps b stack q s)

pub direct_seen : (m : plain.Mode) (p : Place) (ps : Pointers) (c : Core) (ss : Suffixes)
    (stack : List plain.Frame) (q : Place) (s : Symbol)
    → seen (plain_steps.step_direct m p ps c ss stack q s)
    ≡ steps.step_direct (mode_of m) (count ps) (frames_of stack) (class_of s)
direct_seen m p ps c ss stack q (sign puncts.LeftBracket) =
    bracketed_seen stack (plain.Bracket m p ps c ss q no_qualifiers) ps refl
direct_seen m p ps c ss stack q (sign puncts.LeftParenthesis) =
    bracketed_seen stack (plain.ParametersStart m p ps c ss q) ps refl
direct_seen m p ps c ss stack q (sign puncts.LeftBrace) =
    body_seen stack (declarator p ps c ss) q
direct_seen m p ps c ss stack q (sign s) =
    ended_seen stack (some_declarator (declarator p ps c ss)) s
direct_seen m p ps c ss stack q _ = refl

bracket_keyword_seen : (m : plain.Mode) (p : Place) (ps : Pointers) (c : Core) (ss : Suffixes)
    (b : Place) (qs : Qualifiers) (stack : List plain.Frame) (q : Place) (k : Keyword)
    → seen (plain_steps.step_bracket m p ps c ss b qs stack q (keyword k))
    ≡ steps.step_bracket (mode_of m) (count ps) (frames_of stack) (class_of (keyword k))
bracket_keyword_seen m p ps c ss b qs stack q keywords.Const =
    bracketed_seen stack (plain.Bracket m p ps c ss b qs) ps refl
bracket_keyword_seen m p ps c ss b qs stack q keywords.Restrict =
    bracketed_seen stack (plain.Bracket m p ps c ss b qs) ps refl
bracket_keyword_seen m p ps c ss b qs stack q k =
    operand_seen (plain.Length m p ps c ss b qs ∷ stack) q (keyword k)

pub bracket_seen : (m : plain.Mode) (p : Place) (ps : Pointers) (c : Core) (ss : Suffixes)
    (b : Place) (qs : Qualifiers) (stack : List plain.Frame) (q : Place) (s : Symbol)
    → seen (plain_steps.step_bracket m p ps c ss b qs stack q s)
    ≡ steps.step_bracket (mode_of m) (count ps) (frames_of stack) (class_of s)
bracket_seen m p ps c ss b qs stack q (sign puncts.RightBracket) =
    bracketed_seen stack (direct m p ps) ps refl
bracket_seen m p ps c ss b qs stack q (keyword k) =
    bracket_keyword_seen m p ps c ss b qs stack q k
bracket_seen m p ps c ss b qs stack q s =
    operand_seen (plain.Length m p ps c ss b qs ∷ stack) q s

no_parameters_seen : (m : plain.Mode) (p : Place) (ps : Pointers) (c : Core) (ss : Suffixes)
    (b : Place) (stack : List plain.Frame) (s : Symbol)
    → seen (plain_steps.no_parameters_at m p ps c ss b stack s)
    ≡ steps.no_parameters_at (mode_of m) (count ps) (frames_of stack) (class_of s)
no_parameters_seen m p ps c ss b stack (sign puncts.RightParenthesis) =
    bracketed_seen stack (direct m p ps) ps refl
no_parameters_seen m p ps c ss b stack _ = refl

pub parameters_seen : (m : plain.Mode) (p : Place) (ps : Pointers) (c : Core) (ss : Suffixes)
    (b : Place) (stack : List plain.Frame) (q : Place) (s : Symbol)
    → seen (plain_steps.step_parameters m p ps c ss b stack q s)
    ≡ steps.step_parameters (mode_of m) (count ps) (frames_of stack) (class_of s)
parameters_seen m p ps c ss b stack q s =
    first_seen plain.of_parameter (plain.Parameters m p ps c ss b q no_parameters ∷ stack) q s _ _
    (no_parameters_seen m p ps c ss b stack s)

ellipsis_at_seen : (stack : List plain.Frame) (s : Symbol)
    → seen (plain_steps.ellipsis_at stack s) ≡ steps.ellipsis_at (frames_of stack) (class_of s)
ellipsis_at_seen stack (sign puncts.Ellipsis) = starred_seen stack plain.AfterEllipsis no_pointers refl
ellipsis_at_seen stack _ = refl

pub next_seen : (stack : List plain.Frame) (q : Place) (s : Symbol)
    → seen (plain_steps.first_word plain.of_parameter stack q s (plain_steps.ellipsis_at stack s))
    ≡ steps.step_next (frames_of stack) (class_of s)
next_seen stack q s = first_seen plain.of_parameter stack q s _ _ (ellipsis_at_seen stack s)

pub ellipsis_seen : (stack : List plain.Frame) (s : Symbol)
    → seen (plain_steps.step_ellipsis stack s) ≡ steps.step_ellipsis (frames_of stack) (class_of s)
ellipsis_seen (plain.Parameters m p ps c ss b q params ∷ stack) (sign puncts.RightParenthesis) =
    bracketed_seen stack (direct m p ps) ps refl
ellipsis_seen _ s = refl

declaration_words_seen : (s : Symbol) (p : Place) (xs : Specifiers) (stack : List plain.Frame)
    (q : Place)
    → seen (plain_steps.declaration_words s p xs stack q)
    ≡ steps.declaration_words (frames_of stack) (class_of s)
declaration_words_seen (sign puncts.Semicolon) p xs stack q =
    declared_seen stack p xs no_init_declarators
declaration_words_seen s p xs stack q =
    pointing_seen plain.only_named q no_pointers (plain.Declaring p xs no_init_declarators ∷ stack)
    q s

words_ended_seen : (o : plain.Owner) (p : Place) (xs : Specifiers) (stack : List plain.Frame)
    (q : Place) (s : Symbol)
    → seen (plain_steps.words_ended o p xs stack q s)
    ≡ steps.words_ended (owner_of o) (frames_of stack) (class_of s)
words_ended_seen plain.of_type_name p xs stack q s =
    pointing_seen plain.only_abstract q no_pointers (plain.Owned plain.of_type_name p xs ∷ stack) q s
words_ended_seen plain.of_parameter p xs stack q s =
    pointing_seen plain.either q no_pointers (plain.Owned plain.of_parameter p xs ∷ stack) q s
words_ended_seen plain.of_member p xs stack q s =
    pointing_seen plain.only_named q no_pointers (plain.OwnedMembers p xs no_declarators ∷ stack) q s
words_ended_seen plain.of_declaration p xs stack q s = declaration_words_seen s p xs stack q

pub words_seen : (o : plain.Owner) (p : Place) (xs : Specifiers) (stack : List plain.Frame)
    (q : Place) (s : Symbol)
    → seen (plain_steps.step_words o p xs stack q s)
    ≡ steps.step_words (owner_of o) (has_type xs) (frames_of stack) (class_of s)
words_seen o p xs stack q s =
    specifier_seen o p xs stack q s (plain_steps.words_ended o p xs stack q s)
    ∙ ap (steps.begin (steps.specifier_of (owner_of o) (has_type xs) (class_of s)) (owner_of o)
    (frames_of stack)) (words_ended_seen o p xs stack q s)

ended_word_seen : (stack : List plain.Frame) (r : Place) (t : TypeSpecifier) (q : Place)
    (s : Symbol)
    → seen (plain_steps.ended_word stack (of_type r t) q s)
    ≡ steps.ended_word (frames_of stack) (class_of s)
ended_word_seen (plain.Specified o p xs ∷ stack) r t q s = words_seen o p (then_specifier xs (of_type r t)) stack q s
ended_word_seen _ r t q s = refl

pub compound_seen : (p : Place) (k : StructOrUnion) (stack : List plain.Frame) (q : Place)
    (s : Symbol)
    → seen (plain_steps.step_compound p k stack q s)
    ≡ steps.step_compound (frames_of stack) (class_of s)
compound_seen p k stack q (name n) = rw (depth_seen stack, within_seen stack) refl
compound_seen p k stack q (sign puncts.LeftBrace) = rw (depth_seen stack, within_seen stack) refl
compound_seen p k stack q _ = refl

pub tag_seen : (p : Place) (k : StructOrUnion) (r : Place) (n : List ℕ) (stack : List plain.Frame)
    (q : Place) (s : Symbol)
    → seen (plain_steps.step_tag p k r n stack q s) ≡ steps.step_tag (frames_of stack) (class_of s)
tag_seen p k r n stack q (sign puncts.LeftBrace) = rw (depth_seen stack, within_seen stack) refl
tag_seen p k r n stack q s = ended_word_seen stack p (compound p (mentioned p k r n)) q s

body_ended_seen : (stack : List plain.Frame) (s : Symbol)
    → seen (plain_steps.body_ended stack s) ≡ steps.body_ended (frames_of stack) (class_of s)
body_ended_seen (plain.Body q k t (then_member ms m) ∷ stack) (sign puncts.RightBrace) =
    specified_seen stack q q (suc (plain.depth stack)) (suc (depth (frames_of stack)))
    (compound q (defined q k t (then_member ms m))) (ap suc (depth_seen stack))
body_ended_seen _ s = refl

pub member_seen : (stack : List plain.Frame) (q : Place) (s : Symbol)
    → seen (plain_steps.step_member stack q s) ≡ steps.step_member (frames_of stack) (class_of s)
member_seen stack q s = first_seen plain.of_member stack q s _ _ (body_ended_seen stack s)

pub enum_seen : (p : Place) (stack : List plain.Frame) (q : Place) (s : Symbol)
    → seen (plain_steps.step_enum p stack q s) ≡ steps.step_enum (frames_of stack) (class_of s)
enum_seen p stack q (name n) = rw (depth_seen stack, within_seen stack) refl
enum_seen p stack q (sign puncts.LeftBrace) = rw (depth_seen stack, within_seen stack) refl
enum_seen p stack q _ = refl

pub enum_tag_seen : (p r : Place) (n : List ℕ) (stack : List plain.Frame) (q : Place) (s : Symbol)
    → seen (plain_steps.step_enum_tag p r n stack q s)
    ≡ steps.step_enum_tag (frames_of stack) (class_of s)
enum_tag_seen p r n stack q (sign puncts.LeftBrace) =
    rw (depth_seen stack, within_seen stack) refl
enum_tag_seen p r n stack q s =
    ended_word_seen stack p (enumeration p (listed_before p r n)) q s

listing_ended_seen : (stack : List plain.Frame)
    → seen (plain_steps.listing_ended stack) ≡ steps.listing_ended (frames_of stack)
listing_ended_seen (plain.Listing q t (then_enumerator es e) ∷ stack) =
    listed_seen stack q t (then_enumerator es e) true true
listing_ended_seen _ = refl

pub enumerator_seen : (stack : List plain.Frame) (q : Place) (s : Symbol)
    → seen (plain_steps.step_enumerator stack q s)
    ≡ steps.step_enumerator (frames_of stack) (class_of s)
enumerator_seen stack q (name n) = rw (depth_seen stack, within_seen stack) refl
enumerator_seen stack q (sign puncts.RightBrace) = listing_ended_seen stack
enumerator_seen stack q _ = refl

enumerator_named_seen : (stack : List plain.Frame) (p : Place) (n : List ℕ) (s : Punct)
    → seen (plain_steps.enumerator_named stack p n s)
    ≡ steps.step_enumerator_name (frames_of stack) (class_of (sign s))
enumerator_named_seen (plain.Listing q t es ∷ stack) p n puncts.Equal =
    rw (depth_seen stack, within_seen stack) refl
enumerator_named_seen (plain.Listing q t es ∷ stack) p n puncts.Comma =
    rw (depth_seen stack, within_seen stack) refl
enumerator_named_seen (plain.Listing q t es ∷ stack) p n puncts.RightBrace =
    listed_seen stack q t (then_enumerator es (single p n)) (has_enumerators es) false
enumerator_named_seen _ p n puncts.Equal = refl
enumerator_named_seen _ p n puncts.Comma = refl
enumerator_named_seen _ p n puncts.RightBrace = refl
enumerator_named_seen _ p n s = refl

pub enumerator_name_seen : (p : Place) (n : List ℕ) (stack : List plain.Frame) (s : Symbol)
    → seen (plain_steps.step_enumerator_name p n stack s)
    ≡ steps.step_enumerator_name (frames_of stack) (class_of s)
enumerator_name_seen p n stack (sign s) = enumerator_named_seen stack p n s
enumerator_name_seen p n stack _ = refl

-- a step of the pure machine is seen in the control as its step
pub step_seen : (stack : List plain.Frame) (a : plain.At) (q : Place) (s : Symbol)
    → seen (plain_steps.step_at stack a q s) ≡ steps.step (frames_at a stack) (at_of a) (class_of s)
step_seen stack plain.Want q s = want_seen stack q s
step_seen stack (plain.Have k a) q s = have_seen stack k a s
step_seen stack (plain.Selecting x a) q s = selecting_seen stack x a s
step_seen stack (plain.Words o p xs) q s = words_seen o p xs stack q s
step_seen stack (plain.AfterCompound p k) q s = compound_seen p k stack q s
step_seen stack (plain.AfterTag p k r n) q s = tag_seen p k r n stack q s
step_seen stack (plain.AfterEnum p) q s = enum_seen p stack q s
step_seen stack (plain.AfterEnumTag p r n) q s = enum_tag_seen p r n stack q s
step_seen stack plain.MemberStart q s = member_seen stack q s
step_seen stack plain.EnumeratorStart q s = enumerator_seen stack q s
step_seen stack (plain.AfterEnumerator p n) q s = enumerator_name_seen p n stack s
step_seen stack (plain.Pointing m p ps) q s = pointing_seen m p ps stack q s
step_seen stack (plain.Opened m p ps b) q s = opened_seen m p ps b stack q s
step_seen stack (plain.Direct m p ps c ss) q s = direct_seen m p ps c ss stack q s
step_seen stack (plain.Bracket m p ps c ss b qs) q s = bracket_seen m p ps c ss b qs stack q s
step_seen stack (plain.ParametersStart m p ps c ss b) q s = parameters_seen m p ps c ss b stack q s
step_seen stack plain.ParameterNext q s = next_seen stack q s
step_seen stack plain.AfterEllipsis q s = ellipsis_seen stack s
step_seen stack plain.InitializerStart q s = initializer_seen stack q s
step_seen stack plain.BracesStart q s = braces_seen stack q s
step_seen stack (plain.AfterDot p) q s = dot_seen p stack s
step_seen stack (plain.AfterDesignator g) q s = designator_seen g stack s
step_seen stack (plain.AfterInitializer x) q s = initialized_seen stack x s
step_seen stack (plain.AtSpot x y) q s = spot_seen x y q s
