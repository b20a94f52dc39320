-- In states that differ only in what was read, tokens of the same kind do the same.
use Rattle.std.proofs.Common.{◌≡◌, ℕ, suc, Bool, true, false, cond, List, refl, ap, ◌∙◌, Option, Some, None}
use Rattle.std.specs.Prelude.{nat_le}
use Rattle.hv_base.specs.declared.place.Place.{Place}
use Rattle.hv_base.specs.declared.keyword.Keyword.{Keyword}
use Rattle.hv_base.specs.declared.keyword.Keyword.TheVariants as keywords
use Rattle.hv_base.specs.declared.punct.Punct.{Punct}
use Rattle.hv_base.specs.declared.punct.Punct.TheVariants as puncts
use Rattle.hv_ctree.specs.declared.tree.words.Selector.{Selector}
use Rattle.hv_ctree.specs.declared.tree.words.StorageClass.{StorageClass}
use Rattle.hv_ctree.specs.declared.tree.words.TypeQualifier.{TypeQualifier}
use Rattle.hv_ctree.specs.tree.Expressions.{Expr, Specifiers, no_specifiers, then_specifier, Specifier, storage, of_type, qualifier, inline, TypeSpecifier, Pointers, place_of}
use Rattle.hv_ctree.specs.tree.Statements.{Initializer, value, InitDeclarators}
use Rattle.hv_grammar.specs.Symbols.{Symbol, Role, right_paren, colon, semicolon}
use Rattle.hv_grammar.specs.Expressions.{stars, braced, has_type}
use Rattle.hv_grammar.specs.Elements.{Standing}
use Rattle.hv_grammar.specs.machine.Parts.{Optional, Part, meets, wanted, closer, after_optional, after_part}
use Rattle.hv_grammar.specs.machine.Frames.{Owner, of_type_name, of_parameter, of_member, of_declaration, Frame, hole, hole_of, made, weigh, depth, within, completes, State, Infix, by_operator, by_assignment, by_question, by_comma, by_bracket, by_parenthesis, left, reach, makes, begun, weigh_at}
use Rattle.hv_grammar.specs.machine.Steps.{Taken, took, lately, Reduced, reduce, ends, infix_of, word_of, may_stand, worded, keyword_word, specifier_at, leaf, pushed, operand_at, want_sign, want_keyword, paren_at, close_call, step_want, infix_at, infix_of_level, goes_by, specified, declared, initialized_at, part_at, argument_at, close_at, bracket_at, brace_at, colon_at, semicolon_at, have_sign, step_have, step_selecting}
use Rattle.hv_grammar.specs.machine.Control.{SameSymbol, SamePointers, SameOptional, SamePart, SameSpot, SameFrame, SameStack, SameAt, SameStep, same_keyword, same_name, same_marked, same_number, same_text, same_sign, same_hole, same_foreign, no_stars, more_stars, both_enumerators, both_initializers, both_inits, both_alone, both_in_for, both_first, both_second, both_third, both_return, both_case, both_expression, both_if, both_switch, both_while, both_do, both_optional, both_await, both_after_if, both_before, both_parenthesis, both_after_sizeof, both_subscript, both_callee, both_calling, both_prefix, both_unary, both_sizeof, both_sizeof_type, both_cast_type, both_binary, both_then, both_else, both_assign, both_comma, both_specified, both_listing, both_valued, both_owned, both_owned_members, both_group, both_length, both_parameters, both_braces, both_index, both_designated, both_declares, both_declaring, both_initialized, both_statement, both_empty, both_more, both_want, both_have, both_selecting, both_words, both_compound, both_enum, both_enumerator_start, both_pointing, both_direct, both_braces_start, both_after_designator, both_after_initializer, both_spot, neither_takes, both_take}

------ tables

pub stars_alike : {ps qs : Pointers} {d e : ℕ} → SamePointers ps qs → d ≡ e → stars ps d ≡ stars qs e
stars_alike no_stars h = h
stars_alike (more_stars s) h = ap suc (stars_alike s h)

pub wanted_alike : {c d : Part} → SamePart c d → wanted c ≡ wanted d
wanted_alike both_case = refl
wanted_alike _ = refl

pub closer_alike : {c d : Part} → SamePart c d → closer c ≡ closer d
closer_alike (both_optional both_first) = refl
closer_alike (both_optional both_second) = refl
closer_alike (both_optional both_third) = refl
closer_alike (both_optional both_return) = refl
closer_alike _ = refl

pub weigh_alike : {f g : Frame} {d e : ℕ} → SameFrame f g → d ≡ e → weigh f d ≡ weigh g e
weigh_alike (both_group s) h = ap suc (stars_alike s h)
weigh_alike (both_length s) h = ap suc (stars_alike s h)
weigh_alike (both_parameters s) h = ap suc (stars_alike s h)
weigh_alike (both_listing s) h = ap braced h
weigh_alike both_sizeof_type h = ap (λ n. suc (suc n)) h
weigh_alike (both_binary s) h = h
weigh_alike both_comma h = h
weigh_alike (both_specified s) h = h
weigh_alike both_valued h = h
weigh_alike both_owned h = h
weigh_alike both_owned_members h = h
weigh_alike both_designated h = h
weigh_alike (both_declares s) h = h
weigh_alike (both_declaring s) h = h
weigh_alike both_initialized h = h
weigh_alike (both_statement s) h = h
weigh_alike _ h = ap suc h

pub depth_alike : {st su : List Frame} → SameStack st su → depth st ≡ depth su
depth_alike both_empty = refl
depth_alike (both_more f s) = weigh_alike f (depth_alike s)

pub within_alike : {st su : List Frame} → SameStack st su → within st ≡ within su
within_alike both_empty = refl
within_alike (both_more both_sizeof_type s) = refl
within_alike (both_more both_cast_type s) = refl
within_alike (both_more _ s) = within_alike s

pub hole_alike : {f g : Frame} → SameFrame f g → hole f ≡ hole g
hole_alike (both_binary e) = ap suc e
hole_alike (both_statement c) = wanted_alike c
hole_alike _ = refl

pub made_alike : {f g : Frame} → SameFrame f g → made f ≡ made g
made_alike (both_binary e) = e
made_alike _ = refl

pub completes_alike : {f g : Frame} → SameFrame f g → completes f ≡ completes g
completes_alike both_comma = refl
completes_alike _ = refl

pub hole_of_alike : {st su : List Frame} → SameStack st su → hole_of st ≡ hole_of su
hole_of_alike both_empty = refl
hole_of_alike (both_more f s) = hole_alike f

------ steps

pub taken_alike : {r s : Role} {m n : State} {d e : ℕ} → SameStack m.stack n.stack
    → SameAt m.at n.at → r ≡ s → d ≡ e → SameStep (took r m d) (took s n e)
taken_alike h a r d =
    both_take (record { stack = h; at = a }) d r refl refl

pub either_alike : {b c : Bool} {u v w x : Option Taken} → b ≡ c → SameStep u w → SameStep v x
    → SameStep (cond b u v) (cond c w x)
either_alike {b} {c} {u} {v} {w} {x} e h i = go b c e where
  go : (b c : Bool) → b ≡ c → SameStep (cond b u v) (cond c w x)
  go true true e = h
  go false false e = i
  go true false e = cc
  go false true e = cc

pub lately_alike : {u v : Option Taken} → SameStep u v → SameStep (lately u) (lately v)
lately_alike neither_takes = neither_takes
lately_alike (both_take s d r l z) = both_take s d r refl z

pub record SameReduced (r q : Reduced) : Type 0 where
  pub stack : SameStack r.stack q.stack
  pub level : r.level ≡ q.level

either_reduced : {b c : Bool} {u v w x : Reduced} → b ≡ c → SameReduced u w → SameReduced v x
    → SameReduced (cond b u v) (cond c w x)
either_reduced {b} {c} {u} {v} {w} {x} e h i = go b c e where
  go : (b c : Bool) → b ≡ c → SameReduced (cond b u v) (cond c w x)
  go true true e = h
  go false false e = i
  go true false e = cc
  go false true e = cc

pub ends_alike : (j : ℕ) {f g : Frame} → SameFrame f g → ends j f ≡ ends j g
ends_alike j {f} {g} h =
    ap (λ b. cond b (nat_le j (made f)) false) (completes_alike h)
    ∙ ap (λ n. cond (completes g) (nat_le j n) false) (made_alike h)

pub reduce_alike : (j : ℕ) {st su : List Frame} → SameStack st su → (k l : ℕ) → k ≡ l → (a b : Expr)
    → SameReduced (reduce j st k a) (reduce j su l b)
reduce_alike j both_empty k l e a b = record { stack = both_empty; level = e }
reduce_alike j (both_more {f = f} {g = g} h s) k l e a b =
    either_reduced (ends_alike j h)
    (reduce_alike j s (made f) (made g) (made_alike h) _ _)
    (record { stack = both_more h s; level = e })

------ specifiers

pub data SameSpecifier : Specifier → Specifier → Type 0 where
  both_storage : {p q : Place} {c d : StorageClass} → SameSpecifier (storage p c) (storage q d)
  both_inline : {p q : Place} → SameSpecifier (inline p) (inline q)
  both_qualifier : {p q : Place} {c d : TypeQualifier}
      → SameSpecifier (qualifier p c) (qualifier q d)
  both_type : {p q : Place} {t u : TypeSpecifier} → SameSpecifier (of_type p t) (of_type q u)

pub may_alike : (o : Owner) {x y : Specifier} → SameSpecifier x y → may_stand o x ≡ may_stand o y
may_alike of_parameter h = refl
may_alike of_declaration h = refl
may_alike of_type_name both_storage = refl
may_alike of_type_name both_inline = refl
may_alike of_type_name both_qualifier = refl
may_alike of_type_name both_type = refl
may_alike of_member both_storage = refl
may_alike of_member both_inline = refl
may_alike of_member both_qualifier = refl
may_alike of_member both_type = refl

pub typed_alike : (xs ys : Specifiers) {x y : Specifier} → SameSpecifier x y
    → has_type xs ≡ has_type ys
    → has_type (then_specifier xs x) ≡ has_type (then_specifier ys y)
typed_alike xs ys both_storage e = e
typed_alike xs ys both_inline e = e
typed_alike xs ys both_qualifier e = e
typed_alike xs ys both_type e = refl

pub data SameWord : Option Specifier → Option Specifier → Type 0 where
  neither_word : SameWord None None
  both_word : {x y : Specifier} → SameSpecifier x y → SameWord (Some x) (Some y)

pub word_alike : (p q : Place) (k : Keyword) → SameWord (word_of p k) (word_of q k)
word_alike p q keywords.Typedef = both_word both_storage
word_alike p q keywords.Extern = both_word both_storage
word_alike p q keywords.Static = both_word both_storage
word_alike p q keywords.Auto = both_word both_storage
word_alike p q keywords.Register = both_word both_storage
word_alike p q keywords.Inline = both_word both_inline
word_alike p q keywords.Const = both_word both_qualifier
word_alike p q keywords.Restrict = both_word both_qualifier
word_alike p q keywords.Void = both_word both_type
word_alike p q keywords.Char = both_word both_type
word_alike p q keywords.Short = both_word both_type
word_alike p q keywords.Int = both_word both_type
word_alike p q keywords.Long = both_word both_type
word_alike p q keywords.Signed = both_word both_type
word_alike p q keywords.Unsigned = both_word both_type
word_alike p q keywords.Bool = both_word both_type
word_alike p q _ = neither_word

pub worded_alike : (o : Owner) (p q : Place) (xs ys : Specifiers) {st su : List Frame}
    {x y : Option Specifier} {u v : Option Taken} → has_type xs ≡ has_type ys → SameStack st su
    → SameWord x y → SameStep u v
    → SameStep (worded o p xs st x u) (worded o q ys su y v)
worded_alike o p q xs ys e h neither_word i = i
worded_alike o p q xs ys e h (both_word s) i =
    either_alike (may_alike o s)
    (taken_alike h (both_words (typed_alike xs ys s e)) (within_alike h) (depth_alike h)) i

pub keyword_alike : (o : Owner) (p q : Place) (xs ys : Specifiers) {st su : List Frame} (y z : Place)
    (k : Keyword) {u v : Option Taken} → has_type xs ≡ has_type ys → SameStack st su
    → SameStep u v
    → SameStep (keyword_word o p xs st y k u) (keyword_word o q ys su z k v)
keyword_alike o p q xs ys y z keywords.Struct e h i =
    taken_alike (both_more (both_specified e) h) both_compound (within_alike h) (depth_alike h)
keyword_alike o p q xs ys y z keywords.Union e h i =
    taken_alike (both_more (both_specified e) h) both_compound (within_alike h) (depth_alike h)
keyword_alike o p q xs ys y z keywords.Enum e h i =
    taken_alike (both_more (both_specified e) h) both_enum (within_alike h) (depth_alike h)
keyword_alike o p q xs ys y z k e h i = worded_alike o p q xs ys e h (word_alike y z k) i

pub specifier_alike : (o : Owner) (p q : Place) (xs ys : Specifiers) {st su : List Frame}
    (y z : Place) {s t : Symbol} {u v : Option Taken} → has_type xs ≡ has_type ys
    → SameStack st su → SameSymbol s t → SameStep u v
    → SameStep (specifier_at o p xs st y s u) (specifier_at o q ys su z t v)
specifier_alike o p q xs ys y z e h (same_keyword {k = k}) i = keyword_alike o p q xs ys y z k e h i
specifier_alike o p q xs ys y z e h same_marked i =
    either_alike e i (taken_alike h (both_words refl) (within_alike h) (depth_alike h))
specifier_alike o p q xs ys y z e h same_name i = i
specifier_alike o p q xs ys y z e h same_number i = i
specifier_alike o p q xs ys y z e h same_text i = i
specifier_alike o p q xs ys y z e h same_sign i = i
specifier_alike o p q xs ys y z e h same_hole i = i
specifier_alike o p q xs ys y z e h same_foreign i = i

------ before an operand

pub leaf_alike : {st su : List Frame} {a b : Expr} → SameStack st su
    → SameStep (leaf st a) (leaf su b)
leaf_alike h = taken_alike h both_have refl (depth_alike h)

pub pushed_alike : {st su : List Frame} {f g : Frame} → SameStack st su → SameFrame f g
    → SameStep (pushed st f) (pushed su g)
pushed_alike h f = taken_alike (both_more f h) both_want refl (weigh_alike f (depth_alike h))

pub paren_alike : {st su : List Frame} (p q : Place) → SameStack st su
    → SameStep (paren_at st p) (paren_at su q)
paren_alike p q (both_more both_sizeof h) =
    both_take (record {
      stack = both_more both_after_sizeof (both_more both_sizeof h);
      at = both_want;
    }) (ap (λ n. suc (suc n)) (depth_alike h)) refl refl refl
paren_alike p q both_empty = pushed_alike both_empty both_parenthesis
paren_alike p q (both_more f h) = pushed_alike (both_more f h) both_parenthesis

pub close_call_alike : {st su : List Frame} → SameStack st su
    → SameStep (close_call st) (close_call su)
close_call_alike (both_more both_callee h) =
    taken_alike h both_have refl (ap suc (depth_alike h))
close_call_alike _ = neither_takes

pub want_sign_alike : {st su : List Frame} (p q : Place) (s : Punct) → SameStack st su
    → SameStep (want_sign st p s) (want_sign su q s)
want_sign_alike p q puncts.LeftParenthesis h = paren_alike p q h
want_sign_alike p q puncts.RightParenthesis h = close_call_alike h
want_sign_alike p q puncts.PlusPlus h = pushed_alike h both_prefix
want_sign_alike p q puncts.MinusMinus h = pushed_alike h both_prefix
want_sign_alike p q puncts.And h = pushed_alike h both_unary
want_sign_alike p q puncts.Star h = pushed_alike h both_unary
want_sign_alike p q puncts.Plus h = pushed_alike h both_unary
want_sign_alike p q puncts.Minus h = pushed_alike h both_unary
want_sign_alike p q puncts.Tilde h = pushed_alike h both_unary
want_sign_alike p q puncts.Not h = pushed_alike h both_unary
want_sign_alike p q _ h = neither_takes

pub want_keyword_alike : {st su : List Frame} (p q : Place) (k : Keyword) → SameStack st su
    → SameStep (want_keyword st p k) (want_keyword su q k)
want_keyword_alike p q keywords.Sizeof h = pushed_alike h both_sizeof
want_keyword_alike p q _ h = neither_takes

pub operand_alike : {st su : List Frame} (p q : Place) {s t : Symbol} → SameStack st su
    → SameSymbol s t → SameStep (operand_at st p s) (operand_at su q t)
operand_alike p q h (same_keyword {k = k}) = want_keyword_alike p q k h
operand_alike p q h same_name = leaf_alike h
operand_alike p q h same_number = leaf_alike h
operand_alike p q h same_text = leaf_alike h
operand_alike p q h (same_sign {p = s}) = want_sign_alike p q s h
operand_alike p q h same_marked = neither_takes
operand_alike p q h same_hole = neither_takes
operand_alike p q h same_foreign = neither_takes

pub want_alike : {st su : List Frame} (p q : Place) {s t : Symbol} → SameStack st su
    → SameSymbol s t → SameStep (step_want st p s) (step_want su q t)
want_alike p q (both_more both_parenthesis h) s =
    either_alike (ap (λ n. nat_le n 13) (hole_of_alike h))
    (specifier_alike of_type_name p q no_specifiers no_specifiers p q refl (both_more both_cast_type h) s
    (operand_alike p q (both_more both_parenthesis h) s))
    (operand_alike p q (both_more both_parenthesis h) s)
want_alike p q (both_more both_after_sizeof (both_more both_sizeof h)) s =
    specifier_alike of_type_name p q no_specifiers no_specifiers p q refl (both_more both_sizeof_type h) s
    (lately_alike (operand_alike p q (both_more both_parenthesis (both_more both_sizeof h)) s))
want_alike p q h s = operand_alike p q h s

------ after an operand

pub begun_alike : (i : Infix) (a b : Expr) → SameFrame (begun i a) (begun i b)
begun_alike (by_operator op) a b = both_binary refl
begun_alike (by_assignment op) a b = both_assign
begun_alike by_question a b = both_then
begun_alike by_comma a b = both_comma
begun_alike by_bracket a b = both_subscript
begun_alike by_parenthesis a b = both_callee

pub infix_alike : (i : Infix) {r q : Reduced} {u v : Option Taken} → SameReduced r q → SameStep u v
    → SameStep (infix_at i r u) (infix_at i q v)
infix_alike i {r} {q} h g =
    either_alike (ap (λ n. nat_le n (makes i)) (hole_of_alike h.stack))
    (taken_alike (both_more (begun_alike i r.operand q.operand) h.stack) both_want refl
    (ap (weigh_at i) (depth_alike h.stack))) g

pub level_alike : (i : Infix) {r q : Reduced} → SameReduced r q
    → SameStep (infix_of_level i r) (infix_of_level i q)
level_alike i h =
    either_alike (ap (nat_le (left i)) h.level) (infix_alike i h neither_takes) neither_takes

pub goes_by_alike : (o : Option Infix) (k : ℕ) {st su : List Frame} (a b : Expr) → SameStack st su
    → SameStep (goes_by o k st a) (goes_by o k su b)
goes_by_alike None k a b h = neither_takes
goes_by_alike (Some i) k a b h = level_alike i (reduce_alike (reach i) h k k refl a b)

pub specified_alike : {st su : List Frame} (p q : Place) {d e : ℕ} {x y : Specifier}
    → SameStack st su → SameSpecifier x y → d ≡ e
    → SameStep (specified st p d x) (specified su q e y)
specified_alike p q (both_more (both_specified {xs = xs} {ys = ys} e) h) s d =
    taken_alike h (both_words (typed_alike xs ys s e)) (within_alike h) d
specified_alike p q _ s d = neither_takes

pub declared_alike : {st su : List Frame} (p q : Place) (xs ys : Specifiers)
    (ds es : InitDeclarators) → SameStack st su
    → SameStep (declared st p xs ds) (declared su q ys es)
declared_alike p q xs ys ds es (both_more (both_declares both_alone) both_empty) =
    taken_alike both_empty (both_spot both_await) refl refl
declared_alike p q xs ys ds es (both_more (both_declares both_in_for) both_empty) =
    taken_alike both_empty (both_spot (both_before both_second)) refl refl
declared_alike p q xs ys ds es _ = neither_takes

pub initialized_alike : {st su : List Frame} → SameStack st su → (x y : Initializer) (s : Punct)
    → SameStep (initialized_at st x s) (initialized_at su y s)
initialized_alike (both_more both_designated (both_more (both_braces i) h)) x y puncts.Comma =
    taken_alike (both_more (both_braces both_initializers) h) both_braces_start refl
    (ap suc (depth_alike h))
initialized_alike (both_more both_designated (both_more (both_braces i) h)) x y puncts.RightBrace =
    taken_alike h both_after_initializer refl (ap suc (depth_alike h))
initialized_alike (both_more both_initialized (both_more (both_declaring i) h)) x y puncts.Comma =
    taken_alike (both_more (both_declaring both_inits) h) (both_pointing no_stars) refl
    (depth_alike h)
initialized_alike (both_more both_initialized (both_more (both_declaring i) h)) x y puncts.Semicolon =
    declared_alike _ _ _ _ _ _ h
initialized_alike _ x y s = neither_takes

pub after_optional_alike : {c d : Optional} (a b : Option Expr) → SameOptional c d
    → SameSpot (after_optional c a) (after_optional d b)
after_optional_alike a b both_first = both_before both_second
after_optional_alike a b both_second = both_before both_third
after_optional_alike a b both_third = both_await
after_optional_alike a b both_return = both_await

pub after_part_alike : {c d : Part} (a b : Expr) → SamePart c d
    → SameSpot (after_part c a) (after_part d b)
after_part_alike a b both_case = both_await
after_part_alike a b both_expression = both_await
after_part_alike a b both_if = both_after_if
after_part_alike a b both_switch = both_await
after_part_alike a b both_while = both_await
after_part_alike a b both_do = both_await
after_part_alike a b (both_optional c) = after_optional_alike (Some a) (Some b) c

pub part_alike : (s : Standing) {c d : Part} (a b : Expr) (t : Symbol) → SamePart c d
    → SameStep (part_at s c a t) (part_at s d b t)
part_alike s a b t c =
    either_alike (ap (λ e. meets e t) (closer_alike c))
    (taken_alike both_empty (both_spot (after_part_alike a b c)) refl refl) neither_takes

pub argument_alike : {st su : List Frame} (a b : Expr) → SameStack st su
    → SameStep (argument_at st a) (argument_at su b)
argument_alike a b (both_more both_callee h) =
    taken_alike (both_more both_calling h) both_want refl (ap suc (depth_alike h))
argument_alike a b (both_more both_calling h) =
    taken_alike (both_more both_calling h) both_want refl (ap suc (depth_alike h))
argument_alike a b (both_more both_valued (both_more (both_listing e) h)) =
    taken_alike (both_more (both_listing both_enumerators) h) both_enumerator_start
    (within_alike h) (ap braced (depth_alike h))
argument_alike a b (both_more (both_designated {g = g} {h = i}) h) =
    initialized_alike (both_more (both_designated {g = g} {h = i}) h) (value (place_of a) a)
    (value (place_of b) b) puncts.Comma
argument_alike a b (both_more (both_initialized {x = x} {y = y}) h) =
    initialized_alike (both_more (both_initialized {x = x} {y = y}) h) (value (place_of a) a)
    (value (place_of b) b) puncts.Comma
argument_alike a b _ = neither_takes

pub close_alike : {st su : List Frame} (a b : Expr) → SameStack st su
    → SameStep (close_at st a) (close_at su b)
close_alike a b (both_more both_parenthesis h) =
    taken_alike h both_have refl (ap suc (depth_alike h))
close_alike a b (both_more both_callee h) = taken_alike h both_have refl (ap suc (depth_alike h))
close_alike a b (both_more both_calling h) = taken_alike h both_have refl (ap suc (depth_alike h))
close_alike a b (both_more (both_statement {s = s} c) both_empty) = part_alike s a b right_paren c
close_alike a b _ = neither_takes

pub bracket_alike : {st su : List Frame} (a b : Expr) → SameStack st su
    → SameStep (bracket_at st a) (bracket_at su b)
bracket_alike a b (both_more both_subscript h) =
    taken_alike h both_have refl (ap suc (depth_alike h))
bracket_alike a b (both_more (both_length s) h) =
    taken_alike h (both_direct s) (within_alike h) (ap suc (stars_alike s (depth_alike h)))
bracket_alike a b (both_more both_index h) =
    taken_alike h both_after_designator refl (ap suc (depth_alike h))
bracket_alike a b _ = neither_takes

pub brace_alike : {st su : List Frame} (a b : Expr) → SameStack st su
    → SameStep (brace_at st a) (brace_at su b)
brace_alike a b (both_more both_valued (both_more (both_listing e) h)) =
    specified_alike _ _ h both_type (ap braced (depth_alike h))
brace_alike a b (both_more (both_designated {g = g} {h = i}) h) =
    initialized_alike (both_more (both_designated {g = g} {h = i}) h) (value (place_of a) a)
    (value (place_of b) b) puncts.RightBrace
brace_alike a b _ = neither_takes

pub colon_alike : {st su : List Frame} (a b : Expr) → SameStack st su
    → SameStep (colon_at st a) (colon_at su b)
colon_alike a b (both_more both_then h) =
    taken_alike (both_more both_else h) both_want refl (ap suc (depth_alike h))
colon_alike a b (both_more (both_statement {s = s} c) both_empty) = part_alike s a b colon c
colon_alike a b _ = neither_takes

pub semicolon_alike : {st su : List Frame} (a b : Expr) → SameStack st su
    → SameStep (semicolon_at st a) (semicolon_at su b)
semicolon_alike a b (both_more (both_initialized {x = x} {y = y}) h) =
    initialized_alike (both_more (both_initialized {x = x} {y = y}) h) (value (place_of a) a)
    (value (place_of b) b) puncts.Semicolon
semicolon_alike a b (both_more (both_statement {s = s} c) both_empty) =
    part_alike s a b semicolon c
semicolon_alike a b _ = neither_takes

pub have_sign_alike : {st su : List Frame} (k : ℕ) (a b : Expr) (s : Punct) → SameStack st su
    → SameStep (have_sign st k a s) (have_sign su k b s)
have_sign_alike k a b puncts.Comma h = let r = reduce_alike 0 h k k refl a b in
    infix_alike by_comma r (argument_alike _ _ r.stack)
have_sign_alike k a b puncts.RightParenthesis h =
    close_alike _ _ (reduce_alike 0 h k k refl a b).stack
have_sign_alike k a b puncts.RightBracket h =
    bracket_alike _ _ (reduce_alike 0 h k k refl a b).stack
have_sign_alike k a b puncts.RightBrace h =
    brace_alike _ _ (reduce_alike 0 h k k refl a b).stack
have_sign_alike k a b puncts.Colon h = colon_alike _ _ (reduce_alike 0 h k k refl a b).stack
have_sign_alike k a b puncts.Semicolon h =
    semicolon_alike _ _ (reduce_alike 0 h k k refl a b).stack
have_sign_alike k a b puncts.Dot h =
    either_alike refl (taken_alike h both_selecting refl (depth_alike h)) neither_takes
have_sign_alike k a b puncts.Arrow h =
    either_alike refl (taken_alike h both_selecting refl (depth_alike h)) neither_takes
have_sign_alike k a b puncts.PlusPlus h =
    either_alike refl (taken_alike h both_have refl (depth_alike h)) neither_takes
have_sign_alike k a b puncts.MinusMinus h =
    either_alike refl (taken_alike h both_have refl (depth_alike h)) neither_takes
have_sign_alike k a b s h = goes_by_alike (infix_of s) k a b h

pub have_alike : {st su : List Frame} (k : ℕ) (a b : Expr) {s t : Symbol} → SameStack st su
    → SameSymbol s t → SameStep (step_have st k a s) (step_have su k b t)
have_alike k a b h (same_sign {p = s}) = have_sign_alike k a b s h
have_alike k a b h _ = neither_takes

pub selecting_alike : {st su : List Frame} (x y : Selector) (a b : Expr) {s t : Symbol}
    → SameStack st su → SameSymbol s t
    → SameStep (step_selecting st x a s) (step_selecting su y b t)
selecting_alike x y a b h same_name = taken_alike h both_have refl (depth_alike h)
selecting_alike x y a b h _ = neither_takes
