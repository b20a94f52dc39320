-- Wherever the machine stands, some tokens end it.
use Rattle.std.proofs.Common.{◌≡◌, ℕ, suc, ◌≤◌, Bool, true, false, cond, List, [], ◌∷◌, refl, sym, ap, arith, Option, Some, None, subst}
use Rattle.std.specs.Prelude.{nat_le}
use Rattle.hv_base.specs.declared.place.Place.{Place}
use Rattle.hv_base.specs.declared.keyword.Keyword.TheVariants as keywords
use Rattle.hv_base.specs.declared.punct.Punct.{Punct}
use Rattle.hv_base.specs.declared.punct.Punct.TheVariants as puncts
use Rattle.hv_ctree.specs.declared.tree.words.StructOrUnion.{StructOrUnion}
use Rattle.hv_ctree.specs.tree.Expressions.{Expr, identifier, parenthesized, subscript, call, member, sizeof_type, cast, conditional, no_arguments, then_argument, type_name, Specifiers, no_specifiers, then_specifier, of_type, word, int_word, compound, enumeration, defined, MayTag, no_tag, tag, Members, no_members, then_member, MemberDeclaration, members_of, Declarators, no_declarators, then_declarator, listed, Enumerators, no_enumerators, then_enumerator, plain, valued, Declarator, declarator, MayDeclarator, no_declarator, some_declarator, Core, nothing, named, group, Suffixes, no_suffixes, then_suffix, sized, unsized, function, unprototyped, parameter_types, then_parameter, parameter, Pointers, no_pointers, no_qualifiers, place_of}
use Rattle.hv_ctree.specs.tree.Statements.{Designation, no_designation, of_index, of_member, Initializer, value, braced as in_braces, then_initializer, bare, initialized, InitDeclarators, no_init_declarators, then_init_declarator, declaration, Skeleton, hollow_empty, hollow_expression, hollow_return}
use Rattle.hv_grammar.specs.Elements.{Standing, External, Item, Nested}
use Rattle.hv_grammar.specs.machine.Parts.{Setting, alone, in_for, FirstClause, by_expression, by_declaration, Optional, for_first, for_second, for_third, of_return, Part, of_case, of_expression, of_if, of_switch, of_while, of_do, optional, Fixed, the_hole, Spot, Start, Await, Opening, AfterIf, MayElse, ForOpening, ForStart, Before, fixed_symbol, optional_closer, closer, for_skeleton, after_optional, after_part, after_declaration}
use Rattle.hv_grammar.specs.Symbols.{Symbol, keyword, name, sign, token_at, Role, outside, inside, Marked, at, left_paren, right_paren, equal_sign, left_bracket, right_bracket, left_brace, right_brace, colon, semicolon, level}
use Rattle.hv_grammar.specs.Expressions.{stars, braced}
use Rattle.hv_grammar.specs.machine.Frames.{Owner, of_type_name, of_parameter, of_member, of_declaration, Mode, only_named, only_abstract, either, Frame, Parenthesis, AfterSizeof, Subscript, Callee, Calling, Prefix, Unary, Sizeof, SizeofType, CastType, Cast, Binary, Then, Else, Assign, Comma, Specified, Body, Listing, Valued, Owned, OwnedMembers, Group, Length, Parameters, Index, Designated, Declares, Declaring, Initialized, Statement, hole, hole_of, made, depth, within, plug, At, Want, Have, Selecting, Words, AfterCompound, AfterTag, AfterEnum, AfterEnumTag, MemberStart, EnumeratorStart, AfterEnumerator, Pointing, Opened, Direct, Bracket, ParametersStart, ParameterNext, AfterEllipsis, InitializerStart, BracesStart, AfterDot, AfterDesignator, AfterInitializer, AtSpot, State}
use Rattle.hv_grammar.specs.machine.Steps.{state, want, have, took, quiet, Reduced, reduced, reduce, close_at, bracket_at, brace_at, colon_at, after, step_want, begins, after_parameter, after_member, after_type_name, step, after_end, finished, finished_element, spot, declared, declarator_place, item_place, initialized_at}
use Rattle.hv_grammar.specs.machine.Moves.{Takes, taken, taken_to_count, Moves, stays, takes}
use Rattle.hv_grammar.proofs.Arriving.{level-most, steps, passed}
use Rattle.hv_grammar.proofs.ArrivingInitializers.{TakesInitializer, in_item, in_declaration, ends_initializer, value_ends}
use Rattle.hv_grammar.proofs.ArrivingStatements.{same_fixed, optional_missing, part_closes}
use Rattle.hv_grammar.proofs.Reached.{IsBraces, is_braces, IsDeclaring, is_declaring, IsBottom, is_bottom, in_element, host_declaration, SpotRead, is_sized, Site, in_cast, in_sizeof, in_parameters, in_body, Hosts, host_type, host_parameter, host_members, host_group, IsSpecified, is_specified, IsListing, is_listing, Inside, Stacked, empty, more, fits_most, WantsAt, w_plainly, w_quietly, NextAt, next_at, ReadAt, ReadState}

-- the place of the tokens that are made up here, and their name
abbrev somewhere : Place
somewhere = record { stack = []; file = 0; offset = 0 }

abbrev any : Expr
any = identifier somewhere []

-- the machine may end here, after an expression or after an element
pub data IsEnd : State → Type 0 where
  expression_end : {n : State} {a : Expr} → finished n ≡ Some a → IsEnd n
  element_end : {n : State} {k : Skeleton} → finished_element n ≡ Some k → IsEnd n

-- some tokens end the machine
pub record Ends (m : State) (x : Bool) : Type 0 where
  pub rest : List Marked
  pub end : State
  pub moves : Moves m x rest end false []
  pub is : IsEnd end

then_ends : {m n : State} {x y : Bool} (t : Marked) → Takes m x t n y → Ends n y → Ends m x
then_ends t e h =
    record { rest = t ∷ h.rest; end = h.end; moves = takes e h.moves; is = h.is }

-- this token, and then some others
follow : (m : State) (r : Role) (n : State) (d : ℕ) (s : Symbol)
    → step m (token_at somewhere s) ≡ took r n d → Ends n false → Ends m false
follow m r n d s e h = then_ends (at r d somewhere s) (steps m r n somewhere s e refl) h

-- each frame fits the one around it
data Shaped : List Frame → Type 0 where
  s_none : Shaped []
  s_more : {f : Frame} {stack : List Frame} → hole_of stack ≤ made f → Inside f stack → Shaped stack
      → Shaped (f ∷ stack)

shaped : {stack : List Frame} {ws us : List Marked} → Stacked stack ws us → Shaped stack
shaped empty = s_none
shaped (more s fit i b) = s_more fit i (shaped s)

-- some tokens end the machine wherever it comes to this, once what ends before `)` is ended
record Closes (r : Reduced) : Type 0 where
  ends : (stack : List Frame) (k : ℕ) (a : Expr) → reduce 0 stack k a ≡ r
      → Ends (have k stack a) false

ends_having : (stack : List Frame) (k : ℕ) (a : Expr) → Closes (reduce 0 stack k a)
    → Ends (have k stack a) false
ends_having stack k a h = h.ends stack k a refl

same_branches : {A : Type 0} (b : Bool) (u : A) → cond b u u ≡ u
same_branches true u = refl
same_branches false u = refl

operand_taken : (stack : List Frame) → is_sized stack ≡ false
    → step_want stack somewhere (name []) ≡ quiet (have 15 stack any) (depth stack)
operand_taken (Parenthesis q ∷ stack) e = same_branches (nat_le (hole_of stack) 13) _
operand_taken (AfterSizeof q ∷ Sizeof p ∷ stack) e = cc
operand_taken stack e = refl

-- an operand, where one is wanted
ends_wanting : (stack : List Frame) → is_sized stack ≡ false → Closes (reduce 0 stack 15 any)
    → Ends (want stack) false
ends_wanting stack e h =
    follow (want stack) inside (have 15 stack any) (depth stack) (name []) (operand_taken stack e)
    (ends_having stack 15 any h)

-- the machine ends in these frames after an expression, after the middle of a declarator and after specifiers
record EndsAll (stack : List Frame) : Type 0 where
  expression : (k : ℕ) (a : Expr) → hole_of stack ≤ k → k ≤ 15 → Closes (reduce 0 stack k a)
  middle : (m : Mode) (p : Place) (ps : Pointers) (c : Core) (ss : Suffixes) → Hosts m stack
      → Ends (state stack (Direct m p ps c ss)) false
  words : (o : Owner) (p : Place) (xs : Specifiers) → Site o stack
      → Ends (state stack (Words o p xs)) false
  initializer : (x : Initializer) → TakesInitializer stack
      → Ends (state stack (AfterInitializer x)) false

-- and so in all frames around the innermost one
data Below : List Frame → Type 0 where
  below_none : Below []
  below_more : {f : Frame} {stack : List Frame} → EndsAll stack → Below stack → Below (f ∷ stack)

------ in an element

ends_await : (s : Standing) (es : List Fixed) (k : Skeleton) → Ends (spot s (Await es k)) false
ends_await s [] k =
    record { rest = []; end = spot s (Await [] k); moves = stays; is = element_end refl }
ends_await s (e ∷ es) k =
    follow (spot s (Await (e ∷ es) k)) outside (spot s (Await es k)) 0 (fixed_symbol e)
    (rw (same_fixed e) refl) (ends_await s es k)

ends_before : (s : Standing) (c : Optional) → Ends (spot s (after_optional c None)) false
    → Ends (spot s (Before c)) false
ends_before s c h =
    follow (spot s (Before c)) outside (spot s (after_optional c None)) 0
    (fixed_symbol (optional_closer c)) (optional_missing s c somewhere) h

ends_second : (s : Standing) (p : Place) (g : FirstClause) (a : Option Expr)
    → Ends (spot s (after_optional (for_second p g) a)) false
ends_second s p g a =
    ends_before s (for_third p g a) (ends_await s (the_hole ∷ []) (for_skeleton p g a None))

ends_first : (s : Standing) (p : Place) (g : FirstClause)
    → Ends (spot s (Before (for_second p g))) false
ends_first s p g = ends_before s (for_second p g) (ends_second s p g None)

ends_optional : (s : Standing) (c : Optional) (a : Option Expr)
    → Ends (spot s (after_optional c a)) false
ends_optional s (for_first p) a = ends_first s p (by_expression a)
ends_optional s (for_second p g) a = ends_second s p g a
ends_optional s (for_third p g b) a = ends_await s (the_hole ∷ []) (for_skeleton p g b a)
ends_optional s (of_return p) a = ends_await s [] (hollow_return p a)

ends_else : (s : Standing) (p : Place) (a : Expr) → Ends (spot s (MayElse p a)) false
ends_else s p a =
    record { rest = []; end = spot s (MayElse p a); moves = stays; is = element_end refl }

ends_if : (s : Standing) (p : Place) (a : Expr) → Ends (spot s (AfterIf p a)) false
ends_if s p a =
    follow (spot s (AfterIf p a)) outside (spot s (MayElse p a)) 0 (fixed_symbol the_hole) refl
    (ends_else s p a)

ends_part : (s : Standing) (c : Part) (a : Expr) → Ends (spot s (after_part c a)) false
ends_part s (of_case p) a = ends_await s _ _
ends_part s of_expression a = ends_await s _ _
ends_part s (of_if p) a = ends_if s p a
ends_part s (of_switch p) a = ends_await s _ _
ends_part s (of_while p) a = ends_await s _ _
ends_part s (of_do p) a = ends_await s _ _
ends_part s (optional c) a = ends_optional s c (Some a)

ends_declaration : (s : Standing) (c : Setting) (p : Place) (xs : Specifiers)
    (ds : InitDeclarators) → Ends (spot s (after_declaration c p xs ds)) false
ends_declaration s alone p xs ds = ends_await s _ _
ends_declaration s (in_for f) p xs ds =
    ends_first s f (by_declaration (declaration p xs ds))

------ after specifiers and declarators

declaration_closes : {stack : List Frame} → Site of_declaration stack → (m : State) (p : Place)
    (xs : Specifiers) (ds : InitDeclarators)
    → step m (token_at somewhere semicolon) ≡ declared stack p xs ds → Ends m false
declaration_closes (in_element {s = s} {c = c}) m p xs ds g =
    follow m outside (spot s (after_declaration c p xs ds)) 0 semicolon g
    (ends_declaration s c p xs ds)

initializer_closes : {stack : List Frame} → TakesInitializer stack → Shaped stack → Below stack
    → (m : State) (x : Initializer)
    → ((s : Punct) → ends_initializer s ≡ true
    → step m (token_at somewhere (sign s)) ≡ initialized_at stack x s) → Ends m false
initializer_closes (in_item {g = g} {q = q} {xs = xs} {st = st}) (s_more _ _ (s_more _ i _))
    (below_more _ (below_more e _)) m x h =
    follow m outside (state st
    (AfterInitializer (in_braces q (then_initializer xs (item_place g x) g x) false)))
    (suc (depth st)) right_brace (h puncts.RightBrace refl)
    (e.initializer (in_braces q (then_initializer xs (item_place g x) g x) false) i)
initializer_closes (in_declaration {x = y} {p = p} {xs = xs} {ds = ds} {s = s} {c = c}) t b m x h =
    declaration_closes (in_element {s = s} {c = c}) m p xs
    (then_init_declarator ds (initialized (declarator_place y) y x)) (h puncts.Semicolon refl)

-- a type's name
type_closes : {stack : List Frame} → Site of_type_name stack → Shaped stack → Below stack
    → (m : State) (r : Place) (xs : Specifiers) (x : MayDeclarator)
    → step m (token_at somewhere right_paren)
    ≡ after_type_name (Owned of_type_name r xs ∷ stack) x puncts.RightParenthesis → Ends m false
type_closes (in_cast {p = p} {st = st}) (s_more fit _ _) (below_more e _) m r xs x g =
    follow m inside (want (Cast p (type_name r xs x) ∷ st)) (suc (depth st)) right_paren g
    (ends_wanting (Cast p (type_name r xs x) ∷ st) refl
    (e.expression 13 (cast p (type_name r xs x) any) fit (omega arith)))
type_closes (in_sizeof {p = p} {st = st}) (s_more fit _ _) (below_more e _) m r xs x g =
    follow m inside (have 14 st (sizeof_type p (type_name r xs x))) (suc (suc (depth st)))
    right_paren g
    (ends_having st 14 (sizeof_type p (type_name r xs x))
    (e.expression 14 (sizeof_type p (type_name r xs x)) fit (omega arith)))

parameter_closes : {stack : List Frame} → Site of_parameter stack → Shaped stack → Below stack
    → (m : State) (r : Place) (xs : Specifiers) (x : MayDeclarator)
    → step m (token_at somewhere right_paren)
    ≡ after_parameter (Owned of_parameter r xs ∷ stack) x puncts.RightParenthesis → Ends m false
parameter_closes (in_parameters {m = n} {p = p} {b = b} {f = f} {ps = ps} {c = c} {ss = ss}
    {xs = params} {st = st}) (s_more _ i _) (below_more e _) m r xs x g =
    follow m (within st) (state st
    (Direct n p ps c (then_suffix ss
    (function b (parameter_types f (then_parameter params (parameter r xs x)) false)))))
    (suc (stars ps (depth st))) right_paren g
    (e.middle n p ps c (then_suffix ss
    (function b (parameter_types f (then_parameter params (parameter r xs x)) false))) i)

-- a structure with at least one member
body_closes : {stack : List Frame} → IsSpecified stack → Shaped stack → Below stack
    → (q : Place) (k : StructOrUnion) (t : MayTag) (ms : Members) (y : MemberDeclaration)
    → Ends (state (Body q k t (then_member ms y) ∷ stack) MemberStart) false
body_closes (is_specified {o = o} {p = p} {xs = xs} {st = st}) (s_more _ i _) (below_more e _) q k t
    ms y =
    follow (state (Body q k t (then_member ms y) ∷ Specified o p xs ∷ st) MemberStart) (within st)
    (state st (Words o p
    (then_specifier xs (of_type q (compound q (defined q k t (then_member ms y)))))))
    (suc (depth st)) right_brace refl
    (e.words o p (then_specifier xs (of_type q (compound q (defined q k t (then_member ms y))))) i)

member_closes : {stack : List Frame} → Site of_member stack → Shaped stack → Below stack
    → (m : State) (r : Place) (xs : Specifiers) (ds : Declarators) (x : Declarator)
    → step m (token_at somewhere semicolon)
    ≡ after_member (OwnedMembers r xs ds ∷ stack) x puncts.Semicolon → Ends m false
member_closes (in_body {p = q} {k = k} {t = t} {ms = ms} {st = st}) (s_more _ i s) (below_more _ b)
    m r xs ds x g =
    follow m (within st) (state
    (Body q k t (then_member ms (members_of r xs (then_declarator ds x))) ∷ st) MemberStart)
    (suc (depth st)) semicolon g
    (body_closes i s b q k t ms (members_of r xs (then_declarator ds x)))

middle_ends : {m : Mode} {stack : List Frame} → Hosts m stack → Shaped stack → Below stack
    → (p : Place) (ps : Pointers) (c : Core) (ss : Suffixes)
    → Ends (state stack (Direct m p ps c ss)) false
middle_ends (host_type {p = r} {xs = xs} {st = st}) (s_more _ i s) (below_more _ b) p ps c ss =
    type_closes i s b (state (Owned of_type_name r xs ∷ st) (Direct only_abstract p ps c ss)) r xs
    (some_declarator (declarator p ps c ss)) refl
middle_ends (host_parameter {p = r} {xs = xs} {st = st}) (s_more _ i s) (below_more _ b) p ps c ss =
    parameter_closes i s b (state (Owned of_parameter r xs ∷ st) (Direct either p ps c ss)) r xs
    (some_declarator (declarator p ps c ss)) refl
middle_ends (host_members {p = r} {xs = xs} {ds = ds} {st = st}) (s_more _ i s) (below_more _ b) p
    ps c ss =
    member_closes i s b (state (OwnedMembers r xs ds ∷ st) (Direct only_named p ps c ss)) r xs ds
    (declarator p ps c ss) refl
middle_ends (host_group {m = m} {p = r} {q = q} {ps = qs} {st = st}) (s_more _ i s) (below_more e _)
    p ps c ss =
    follow (state (Group m r qs q ∷ st) (Direct m p ps c ss)) (within st)
    (state st (Direct m r qs (group q (declarator p ps c ss)) no_suffixes))
    (suc (stars qs (depth st))) right_paren refl
    (e.middle m r qs (group q (declarator p ps c ss)) no_suffixes i)
middle_ends (host_declaration {p = r} {xs = xs} {ds = ds} {st = st}) (s_more _ i _) b p ps c ss =
    declaration_closes i (state (Declaring r xs ds ∷ st) (Direct only_named p ps c ss)) r xs
    (then_init_declarator ds (bare p (declarator p ps c ss))) refl

words_ends : {o : Owner} {stack : List Frame} → Site o stack → Shaped stack → Below stack
    → (p : Place) (xs : Specifiers) → Ends (state stack (Words o p xs)) false
words_ends (in_cast {p = q} {st = st}) s b p xs =
    type_closes in_cast s b (state (CastType q ∷ st) (Words of_type_name p xs)) p xs no_declarator
    refl
words_ends (in_sizeof {p = q} {st = st}) s b p xs =
    type_closes in_sizeof s b (state (SizeofType q ∷ st) (Words of_type_name p xs)) p xs
    no_declarator refl
words_ends (in_parameters {m = n} {p = q} {b = b} {f = f} {ps = ps} {c = c} {ss = ss} {xs = params}
    {st = st}) s below p xs =
    parameter_closes in_parameters s below
    (state (Parameters n q ps c ss b f params ∷ st) (Words of_parameter p xs)) p xs no_declarator
    refl
words_ends (in_body {p = q} {k = k} {t = t} {ms = ms} {st = st}) s b p xs =
    follow (state (Body q k t ms ∷ st) (Words of_member p xs)) (within st)
    (state (OwnedMembers p xs no_declarators ∷ Body q k t ms ∷ st)
    (Direct only_named somewhere no_pointers (named somewhere []) no_suffixes)) (suc (depth st))
    (name []) refl
    (member_closes in_body s b (state (OwnedMembers p xs no_declarators ∷ Body q k t ms ∷ st)
    (Direct only_named somewhere no_pointers (named somewhere []) no_suffixes))
    p xs no_declarators (declarator somewhere no_pointers (named somewhere []) no_suffixes) refl)
words_ends (in_element {s = z} {c = c}) s b p xs =
    declaration_closes (in_element {s = z} {c = c})
    (state (Declares z c ∷ []) (Words of_declaration p xs)) p xs no_init_declarators refl

------ after an expression

-- an expression that is an initialiser
value_closes : {stack : List Frame} → TakesInitializer stack → Shaped stack → Below stack
    → (k : ℕ) (a : Expr) → Closes (reduce 0 stack k a)
value_closes h s b k a = record {
  ends = λ rest j c g. initializer_closes h s b (have j rest c) (value (place_of a) a)
      (λ z e. value_ends h k a z e rest j c g);
}

braces_take : {g : Designation} {stack : List Frame} → IsBraces stack
    → TakesInitializer (Designated g ∷ stack)
braces_take is_braces = in_item

declaring_takes : {x : Declarator} {stack : List Frame} → IsDeclaring stack
    → TakesInitializer (Initialized x ∷ stack)
declaring_takes is_declaring = in_declaration

-- before an initialiser
ends_initial : {stack : List Frame} → TakesInitializer stack → Shaped stack → Below stack
    → Ends (state stack InitializerStart) false
ends_initial {stack} h s b =
    follow (state stack InitializerStart) inside (have 15 stack any) (depth stack) (name []) refl
    (ends_having stack 15 any (value_closes h s b 15 any))

ends_designator : (g : Designation) (stack : List Frame) → IsBraces stack → Shaped stack
    → EndsAll stack → Below stack → Ends (state stack (AfterDesignator g)) false
ends_designator g stack i s e b =
    follow (state stack (AfterDesignator g)) outside
    (state (Designated g ∷ stack) InitializerStart) (depth stack) equal_sign refl
    (ends_initial (braces_take i) (s_more {f = Designated g} (braces_fit i) i s)
    (below_more {f = Designated g} e b)) where
      braces_fit : {stack : List Frame} → IsBraces stack → hole_of stack ≤ 16
      braces_fit is_braces = omega arith

-- an expression of a statement
statement_closes : (s : Standing) (c : Part) {stack : List Frame} → IsBottom stack → (k : ℕ)
    (a : Expr) → Closes (reduce 0 (Statement s c ∷ stack) k a)
statement_closes s c is_bottom k a = record {
  ends = λ rest j b g.
      follow (have j rest b) outside (spot s (after_part c a)) 0 (fixed_symbol (closer c))
      (part_closes s c k a rest j b g) (ends_part s c a);
}

valued_in : (p : Place) (n : List ℕ) (q : Place) (t : MayTag) (es : Enumerators)
    {stack : List Frame} → IsSpecified stack → Shaped stack → Below stack → (k : ℕ) (a : Expr)
    → Closes (reduced (Valued p n ∷ Listing q t es ∷ stack) k a)
valued_in p n q t es (is_specified {o = o} {p = y} {xs = xs} {st = st}) (s_more _ i _)
    (below_more e _) k a = record {
      ends = λ rest j b g.
          follow (have j rest b) (within st)
          (state st (Words o y
          (then_specifier xs (of_type q
          (enumeration q (listed q t (then_enumerator es (valued p n a)) false))))))
          (braced (depth st)) right_brace (ap (after brace_at) g)
          (e.words o y (then_specifier xs
          (of_type q (enumeration q (listed q t (then_enumerator es (valued p n a)) false)))) i);
    }

valued_closes : (p : Place) (n : List ℕ) {stack : List Frame} → IsListing stack → Shaped stack
    → Below stack → (k : ℕ) (a : Expr) → Closes (reduced (Valued p n ∷ stack) k a)
valued_closes p n (is_listing {p = q} {t = t} {es = es}) (s_more _ i s) (below_more _ b) k a =
    valued_in p n q t es i s b k a

closes : (f : Frame) (stack : List Frame) → Shaped (f ∷ stack) → Below (f ∷ stack)
    → (k : ℕ) (a : Expr) → hole f ≤ k → k ≤ 15 → Closes (reduce 0 (f ∷ stack) k a)
closes (Parenthesis p) stack (s_more fit _ _) (below_more e _) k a l m = record {
  ends = λ rest j b g. follow (have j rest b) inside (have 15 stack (parenthesized p a))
      (suc (depth stack)) right_paren (ap (after close_at) g)
      (ends_having stack 15 (parenthesized p a)
      (e.expression 15 (parenthesized p a) fit (omega arith)));
}
closes (AfterSizeof p) stack (s_more _ i _) b k a l m = absurd i
closes (Subscript c) stack (s_more fit _ _) (below_more e _) k a l m = record {
  ends = λ rest j b g. follow (have j rest b) inside (have 15 stack (subscript (place_of c) c a))
      (suc (depth stack)) right_bracket (ap (after bracket_at) g)
      (ends_having stack 15 (subscript (place_of c) c a)
      (e.expression 15 (subscript (place_of c) c a) fit (omega arith)));
}
closes (Callee c) stack (s_more fit _ _) (below_more e _) k a l m = record {
  ends = λ rest j b g. follow (have j rest b) inside
      (have 15 stack (call (place_of c) c (then_argument no_arguments a))) (suc (depth stack))
      right_paren (ap (after close_at) g)
      (ends_having stack 15 (call (place_of c) c (then_argument no_arguments a))
      (e.expression 15 (call (place_of c) c (then_argument no_arguments a)) fit (omega arith)));
}
closes (Calling c xs) stack (s_more fit _ _) (below_more e _) k a l m = record {
  ends = λ rest j b g. follow (have j rest b) inside
      (have 15 stack (call (place_of c) c (then_argument xs a))) (suc (depth stack)) right_paren
      (ap (after close_at) g)
      (ends_having stack 15 (call (place_of c) c (then_argument xs a))
      (e.expression 15 (call (place_of c) c (then_argument xs a)) fit (omega arith)));
}
closes (Then c) stack (s_more fit _ _) (below_more e _) k a l m = record {
  ends = λ rest j b g. follow (have j rest b) inside (want (Else c a ∷ stack)) (suc (depth stack))
      colon (ap (after colon_at) g)
      (ends_wanting (Else c a ∷ stack) refl
      (e.expression 2 (conditional (place_of c) c a any) fit (omega arith)));
}
closes (Valued p n) stack (s_more _ i s) (below_more _ b) k a l m = valued_closes p n i s b k a
closes (Length n p ps c ss q qs) stack (s_more _ i _) (below_more e _) k a l m = record {
  ends = λ rest j b g. follow (have j rest b) (within stack)
      (state stack (Direct n p ps c (then_suffix ss (sized q qs a)))) (suc (stars ps (depth stack)))
      right_bracket
      (ap (after bracket_at) g) (e.middle n p ps c (then_suffix ss (sized q qs a)) i);
}
closes (Prefix p x) stack (s_more fit _ _) (below_more e _) k a l m =
    e.expression 14 (plug (Prefix p x) a) fit (omega arith)
closes (Unary p op) stack (s_more fit _ _) (below_more e _) k a l m =
    e.expression 14 (plug (Unary p op) a) fit (omega arith)
closes (Sizeof p) stack (s_more fit _ _) (below_more e _) k a l m =
    e.expression 14 (plug (Sizeof p) a) fit (omega arith)
closes (Cast p t) stack (s_more fit _ _) (below_more e _) k a l m =
    e.expression 13 (plug (Cast p t) a) fit (omega arith)
closes (Binary op c) stack (s_more fit _ _) (below_more e _) k a l m =
    subst (λ r. Closes r) (sym (passed 0 (Binary op c) stack k a refl (omega arith)))
    (e.expression (level op) (plug (Binary op c) a) fit (let h = level-most op in omega arith))
closes (Else c d) stack (s_more fit _ _) (below_more e _) k a l m =
    e.expression 2 (plug (Else c d) a) fit (omega arith)
closes (Assign op c) stack (s_more fit _ _) (below_more e _) k a l m =
    e.expression 1 (plug (Assign op c) a) fit (omega arith)
closes (Comma c) stack (s_more fit _ _) (below_more e _) k a l m =
    e.expression 0 (plug (Comma c) a) fit (omega arith)
closes (Index p) stack (s_more _ i s) (below_more e b) k a l m = record {
  ends = λ rest j c g. follow (have j rest c) outside
      (state stack (AfterDesignator (of_index p a))) (suc (depth stack)) right_bracket
      (ap (after bracket_at) g) (ends_designator (of_index p a) stack i s e b);
}
closes (Designated g) stack (s_more f i s) b k a l m =
    value_closes (braces_take i) (s_more {f = Designated g} f i s) b k a
closes (Initialized x) stack (s_more f i s) b k a l m =
    value_closes (declaring_takes i) (s_more {f = Initialized x} f i s) b k a
closes (Statement s c) stack (s_more _ i _) b k a l m = statement_closes s c i k a
closes _ stack s b k a l m = absurd (omega arith)

------ everywhere

record Every (stack : List Frame) : Type 0 where
  all : EndsAll stack
  below : Below stack

no_host : {m : Mode} {stack : List Frame} → Hosts m stack → stack ≡ [] → ⊥
no_host host_type e = cc
no_host host_parameter e = cc
no_host host_members e = cc
no_host host_group e = cc
no_host host_declaration e = cc

no_site : {o : Owner} {stack : List Frame} → Site o stack → stack ≡ [] → ⊥
no_site in_cast e = cc
no_site in_sizeof e = cc
no_site in_parameters e = cc
no_site in_body e = cc
no_site in_element e = cc

no_initializer : {stack : List Frame} → TakesInitializer stack → stack ≡ [] → ⊥
no_initializer in_item e = cc
no_initializer in_declaration e = cc

every_nothing : Every []
every_nothing = record {
  all = record {
    expression =
        λ k a l m. record {
          ends =
              λ stack j b e. record {
                rest = [];
                end = have j stack b;
                moves = stays;
                is =
                    expression_end (ap after_end e);
              };
        };
    middle = λ m p ps c ss h. absurd (no_host h refl);
    words = λ o p xs h. absurd (no_site h refl);
    initializer = λ x h. absurd (no_initializer h refl);
  };
  below = below_none;
}

every_more : (f : Frame) (stack : List Frame) → Shaped (f ∷ stack) → Below (f ∷ stack)
    → Every (f ∷ stack)
every_more f stack s b = record {
  all = record {
    expression = λ k a l m. closes f stack s b k a l m;
    middle = λ m p ps c ss h. middle_ends h s b p ps c ss;
    words = λ o p xs h. words_ends h s b p xs;
    initializer = λ x h. initializer_closes h s b (state (f ∷ stack) (AfterInitializer x)) x (λ z e. refl);
  };
  below = b;
}

every : (stack : List Frame) → Shaped stack → Every stack
every [] s = every_nothing
every (f ∷ stack) (s_more fit i s) = let e = every stack s in
    every_more f stack (s_more fit i s) (below_more e.all e.below)

all_of : {stack : List Frame} {ws us : List Marked} → Stacked stack ws us → EndsAll stack
all_of {stack} s = (every stack (shaped s)).all

below_of : {stack : List Frame} {ws us : List Marked} → Stacked stack ws us → Below stack
below_of {stack} s = (every stack (shaped s)).below

plain_stack : (stack : List Frame) → Shaped stack → is_sized stack ≡ false
plain_stack (AfterSizeof q ∷ stack) (s_more _ i _) = absurd i
plain_stack _ s = refl

ends_operand : (stack : List Frame) {ws us : List Marked} → hole_of stack ≤ 15 → Stacked stack ws us
    → Ends (want stack) false
ends_operand stack fits s =
    ends_wanting stack (plain_stack stack (shaped s))
    ((all_of s).expression 15 any fits (omega arith))

-- `sizeof (` that doesn't count: a type's name
ends_sized : (q p : Place) (stack : List Frame) {ws us : List Marked}
    → Stacked (Sizeof p ∷ stack) ws us → Ends (want (AfterSizeof q ∷ Sizeof p ∷ stack)) false
ends_sized q p stack s = go (shaped s) (below_of s) where
  go : Shaped (Sizeof p ∷ stack) → Below (Sizeof p ∷ stack)
      → Ends (want (AfterSizeof q ∷ Sizeof p ∷ stack)) false
  go (s_more fit _ t) (below_more e b) =
      follow (want (AfterSizeof q ∷ Sizeof p ∷ stack)) inside
      (state (SizeofType p ∷ stack)
      (Words of_type_name somewhere
      (then_specifier no_specifiers (of_type somewhere (word somewhere int_word)))))
      (suc (suc (depth stack))) (keyword keywords.Int) refl
      (words_ends in_sizeof (s_more {f = SizeofType p} fit tt t) (below_more {f = SizeofType p} e b)
      somewhere (then_specifier no_specifiers (of_type somewhere (word somewhere int_word))))

ends_want : (stack : List Frame) {ws us : List Marked} → WantsAt stack false ws us
    → Ends (want stack) false
ends_want stack (w_plainly h) = ends_operand stack (let le = h.fits in omega arith) h.stacked
ends_want _ (w_quietly {p = p} {q = q} {stack = stack} s) = ends_sized q p stack s

-- a structure's body, and an enumeration's
ends_member : (stack : List Frame) → Site of_member stack → Shaped stack → Below stack
    → Ends (state stack MemberStart) false
ends_member _ (in_body {p = q} {k = k} {t = t} {ms = ms} {st = st}) s b =
    follow (state (Body q k t ms ∷ st) MemberStart) (within st)
    (state (Body q k t ms ∷ st) (Words of_member somewhere
    (then_specifier no_specifiers (of_type somewhere (word somewhere int_word))))) (suc (depth st))
    (keyword keywords.Int) refl
    (words_ends in_body s b somewhere
    (then_specifier no_specifiers (of_type somewhere (word somewhere int_word))))

ends_body : (stack : List Frame) → IsSpecified stack → Shaped stack → Below stack → EndsAll stack
    → (p : Place) (k : StructOrUnion) (t : MayTag)
    → Ends (state (Body p k t no_members ∷ stack) MemberStart) false
ends_body stack i s b e p k t =
    ends_member (Body p k t no_members ∷ stack) in_body
    (s_more {f = Body p k t no_members} (fits_most stack) i s)
    (below_more {f = Body p k t no_members} e b)

ends_listing : (stack : List Frame) → IsSpecified stack → Shaped stack → Below stack
    → (q : Place) (t : MayTag) (es : Enumerators) (p : Place) (n : List ℕ)
    → Ends (state (Listing q t es ∷ stack) (AfterEnumerator p n)) false
ends_listing _ (is_specified {o = o} {p = y} {xs = xs} {st = st}) (s_more _ i _) (below_more e _) q
    t es p n =
    follow (state (Listing q t es ∷ Specified o y xs ∷ st) (AfterEnumerator p n)) (within st)
    (state st (Words o y
    (then_specifier xs (of_type q
    (enumeration q (listed q t (then_enumerator es (plain p n)) false)))))) (braced (depth st))
    right_brace refl
    (e.words o y (then_specifier xs
    (of_type q (enumeration q (listed q t (then_enumerator es (plain p n)) false)))) i)

ends_enumerator : (stack : List Frame) → IsSpecified stack → Shaped stack → Below stack
    → (q : Place) (t : MayTag) (es : Enumerators)
    → Ends (state (Listing q t es ∷ stack) EnumeratorStart) false
ends_enumerator stack i s b q t es =
    follow (state (Listing q t es ∷ stack) EnumeratorStart) (within stack)
    (state (Listing q t es ∷ stack) (AfterEnumerator somewhere [])) (braced (depth stack)) (name [])
    refl
    (ends_listing stack i s b q t es somewhere [])

ends_enumerator_start : (stack : List Frame) → IsListing stack → Shaped stack → Below stack
    → Ends (state stack EnumeratorStart) false
ends_enumerator_start _ (is_listing {p = q} {t = t} {es = es} {st = st}) (s_more _ i s)
    (below_more _ b) = ends_enumerator st i s b q t es

ends_enumerator_name : (stack : List Frame) (p : Place) (n : List ℕ) → IsListing stack
    → Shaped stack → Below stack → Ends (state stack (AfterEnumerator p n)) false
ends_enumerator_name _ p n (is_listing {p = q} {t = t} {es = es} {st = st}) (s_more _ i s)
    (below_more _ b) = ends_listing st i s b q t es p n

-- before the middle of a declarator
ends_pointing : (m : Mode) (p : Place) (ps : Pointers) (stack : List Frame) → Hosts m stack
    → EndsAll stack → Ends (state stack (Pointing m p ps)) false
ends_pointing only_named p ps stack h e =
    follow (state stack (Pointing only_named p ps)) (within stack)
    (state stack (Direct only_named (begins p ps somewhere) ps (named somewhere []) no_suffixes))
    (stars ps (depth stack)) (name []) refl
    (e.middle only_named (begins p ps somewhere) ps (named somewhere []) no_suffixes h)
ends_pointing either p ps stack h e =
    follow (state stack (Pointing either p ps)) (within stack)
    (state stack (Direct either (begins p ps somewhere) ps (named somewhere []) no_suffixes))
    (stars ps (depth stack)) (name []) refl
    (e.middle either (begins p ps somewhere) ps (named somewhere []) no_suffixes h)
ends_pointing only_abstract p ps stack h e =
    follow (state stack (Pointing only_abstract p ps)) (within stack)
    (state stack (Bracket only_abstract (begins p ps somewhere) ps nothing no_suffixes somewhere
    no_qualifiers))
    (suc (stars ps (depth stack))) left_bracket refl
    (follow (state stack
    (Bracket only_abstract (begins p ps somewhere) ps nothing no_suffixes somewhere no_qualifiers))
    (within stack)
    (state stack (Direct only_abstract (begins p ps somewhere) ps nothing
    (then_suffix no_suffixes (unsized somewhere no_qualifiers)))) (suc (stars ps (depth stack)))
    right_bracket refl
    (e.middle only_abstract (begins p ps somewhere) ps nothing
    (then_suffix no_suffixes (unsized somewhere no_qualifiers)) h))

ends_next : (stack : List Frame) {ws us : List Marked} → NextAt stack ws us
    → Ends (state stack ParameterNext) false
ends_next _ (next_at {m = n} {p = p} {b = b} {f = f} {ps = ps} {c = c} {ss = ss} {xs = xs} {st = st}
    h _ _ _) =
    follow (state (Parameters n p ps c ss b f xs ∷ st) ParameterNext) (within st)
    (state (Parameters n p ps c ss b f xs ∷ st)
    (Words of_parameter somewhere
    (then_specifier no_specifiers (of_type somewhere (word somewhere int_word)))))
    (suc (stars ps (depth st))) (keyword keywords.Int) refl
    (words_ends in_parameters (s_more {f = Parameters n p ps c ss b f xs} (fits_most st) h.host
    (shaped h.stacked))
    (below_more {f = Parameters n p ps c ss b f xs} (all_of h.stacked) (below_of h.stacked))
    somewhere (then_specifier no_specifiers (of_type somewhere (word somewhere int_word))))

ends_ellipsis : (stack : List Frame) {ws us : List Marked} → NextAt stack ws us
    → Ends (state stack AfterEllipsis) false
ends_ellipsis _ (next_at {m = n} {p = p} {b = b} {f = f} {ps = ps} {c = c} {ss = ss} {xs = xs}
    {st = st} h _ _ _) =
    follow (state (Parameters n p ps c ss b f xs ∷ st) AfterEllipsis) (within st)
    (state st (Direct n p ps c (then_suffix ss (function b (parameter_types f xs true)))))
    (suc (stars ps (depth st))) right_paren refl
    ((all_of h.stacked).middle n p ps c (then_suffix ss (function b (parameter_types f xs true)))
    h.host)

-- before an initialiser in braces
ends_item : (stack : List Frame) → IsBraces stack → Shaped stack → EndsAll stack → Below stack
    → Ends (state stack BracesStart) false
ends_item stack i s e b =
    follow (state stack BracesStart) inside (have 15 (Designated no_designation ∷ stack) any)
    (depth stack) (name []) refl
    (ends_having (Designated no_designation ∷ stack) 15 any
    (value_closes (braces_take i) (s_more {f = Designated no_designation} (fits_most stack) i s)
    (below_more {f = Designated no_designation} e b) 15 any))

-- before the expression of a statement
ends_statement : (s : Standing) (c : Part) → Ends (want (Statement s c ∷ [])) false
ends_statement s c =
    ends_wanting (Statement s c ∷ []) refl (statement_closes s c is_bottom 15 any)

ends_opening : (s : Standing) (e : Fixed) (es : List Fixed) (c : Part)
    → Ends (spot s (Opening (e ∷ es) c)) false
ends_opening s e [] c =
    follow (spot s (Opening (e ∷ []) c)) outside (want (Statement s c ∷ [])) 0 (fixed_symbol e)
    (rw (same_fixed e) refl) (ends_statement s c)
ends_opening s e (f ∷ es) c =
    follow (spot s (Opening (e ∷ f ∷ es) c)) outside (spot s (Opening (f ∷ es) c)) 0
    (fixed_symbol e) (rw (same_fixed e) refl) (ends_opening s f es c)

ends_for : (s : Standing) (p : Place) → Ends (spot s (ForStart p)) false
ends_for s p =
    follow (spot s (ForStart p)) outside (spot s (after_optional (for_first p) None)) 0 semicolon
    refl (ends_optional s (for_first p) None)

ends_start : (s : Standing) → Ends (spot s Start) false
ends_start External =
    follow (spot External Start) outside (spot External (Await [] (hollow_empty somewhere))) 0
    semicolon refl (ends_await External [] (hollow_empty somewhere))
ends_start Item =
    follow (spot Item Start) outside (spot Item (Await [] (hollow_expression somewhere None))) 0
    semicolon refl (ends_await Item [] (hollow_expression somewhere None))
ends_start Nested =
    follow (spot Nested Start) outside (spot Nested (Await [] (hollow_expression somewhere None))) 0
    semicolon refl (ends_await Nested [] (hollow_expression somewhere None))

ends_spot : (s : Standing) (y : Spot) (ws us : List Marked) → SpotRead s y ws us
    → Ends (spot s y) false
ends_spot s Start ws us h = ends_start s
ends_spot s (Await es k) ws us h = ends_await s es k
ends_spot s (Opening [] c) ws us h = absurd h
ends_spot s (Opening (e ∷ es) c) ws us h = ends_opening s e es c
ends_spot s (AfterIf p a) ws us h = ends_if s p a
ends_spot s (MayElse p a) ws us h = ends_else s p a
ends_spot s (ForOpening p) ws us h =
    follow (spot s (ForOpening p)) outside (spot s (ForStart p)) 0 left_paren refl (ends_for s p)
ends_spot s (ForStart p) ws us h = ends_for s p
ends_spot s (Before c) ws us h = ends_before s c (ends_optional s c None)

-- the frames don't matter there
moved_takes : (stack : List Frame) (s : Standing) (y : Spot) {n : State} {x : Bool} {t : Marked}
    → Takes (spot s y) false t n x → Takes (state stack (AtSpot s y)) false t n x
moved_takes stack s y (taken b e f) = taken b e f
moved_takes stack s y (taken_to_count r e f) = taken_to_count r e f

moved_end : (stack : List Frame) (s : Standing) (y : Spot) → IsEnd (spot s y)
    → IsEnd (state stack (AtSpot s y))
moved_end stack s y (expression_end e) = cc
moved_end stack s y (element_end e) = element_end e

ends_anywhere : (stack : List Frame) (s : Standing) (y : Spot) → Ends (spot s y) false
    → Ends (state stack (AtSpot s y)) false
ends_anywhere stack s y h = go h.moves h.is where
  go : {n : State} {rest : List Marked} → Moves (spot s y) false rest n false [] → IsEnd n
      → Ends (state stack (AtSpot s y)) false
  go stays e =
      record {
        rest = [];
        end = state stack (AtSpot s y);
        moves = stays;
        is = moved_end stack s y e;
      }
  go {n} (takes {t = t} {ts = ts} e g) i =
      record { rest = t ∷ ts; end = n; moves = takes (moved_takes stack s y e) g; is = i }

ends_at : (stack : List Frame) (m : At) (ws us : List Marked) → ReadAt stack m false ws us
    → Ends (state stack m) false
ends_at stack Want ws us h = ends_want stack h
ends_at stack (Have k a) ws us h =
    ends_having stack k a ((all_of h.stacked).expression k a h.fits h.most)
ends_at stack (Selecting s a) ws us h =
    follow (state stack (Selecting s a)) inside (have 15 stack (member (place_of a) s a []))
    (depth stack) (name []) refl
    (ends_having stack 15 (member (place_of a) s a [])
    ((all_of h.stacked).expression 15 (member (place_of a) s a []) h.fits (omega arith)))
ends_at stack (Words o p xs) ws us h = (all_of h.stacked).words o p xs h.site
ends_at stack (AfterCompound p k) ws us h =
    follow (state stack (AfterCompound p k)) (within stack)
    (state (Body p k no_tag no_members ∷ stack) MemberStart) (suc (depth stack)) left_brace refl
    (ends_body stack h.specified (shaped h.stacked) (below_of h.stacked) (all_of h.stacked) p k
    no_tag)
ends_at stack (AfterTag p k q n) ws us h =
    follow (state stack (AfterTag p k q n)) (within stack)
    (state (Body p k (tag q n) no_members ∷ stack) MemberStart) (suc (depth stack)) left_brace refl
    (ends_body stack h.specified (shaped h.stacked) (below_of h.stacked) (all_of h.stacked) p k
    (tag q n))
ends_at stack (AfterEnum p) ws us h =
    follow (state stack (AfterEnum p)) (within stack)
    (state (Listing p no_tag no_enumerators ∷ stack) EnumeratorStart) (braced (depth stack))
    left_brace refl
    (ends_enumerator stack h.specified (shaped h.stacked) (below_of h.stacked) p no_tag
    no_enumerators)
ends_at stack (AfterEnumTag p q n) ws us h =
    follow (state stack (AfterEnumTag p q n)) (within stack)
    (state (Listing p (tag q n) no_enumerators ∷ stack) EnumeratorStart) (braced (depth stack))
    left_brace refl
    (ends_enumerator stack h.specified (shaped h.stacked) (below_of h.stacked) p (tag q n)
    no_enumerators)
ends_at stack MemberStart ws us h = ends_member stack h.site (shaped h.stacked) (below_of h.stacked)
ends_at stack EnumeratorStart ws us h =
    ends_enumerator_start stack h.listing (shaped h.stacked) (below_of h.stacked)
ends_at stack (AfterEnumerator p n) ws us h =
    ends_enumerator_name stack p n h.listing (shaped h.stacked) (below_of h.stacked)
ends_at stack (Pointing m p ps) ws us h = ends_pointing m p ps stack h.host (all_of h.stacked)
ends_at stack (Opened m p ps b) ws us h =
    follow (state stack (Opened m p ps b)) (within stack)
    (state stack (Direct m p ps nothing (then_suffix no_suffixes (unprototyped b))))
    (suc (stars ps (depth stack))) right_paren refl
    ((all_of h.stacked).middle m p ps nothing (then_suffix no_suffixes (unprototyped b)) h.host)
ends_at stack (Direct m p ps c ss) ws us h =
    (all_of h.middle.stacked).middle m p ps c ss h.middle.host
ends_at stack (Bracket m p ps c ss b qs) ws us h =
    follow (state stack (Bracket m p ps c ss b qs)) (within stack)
    (state stack (Direct m p ps c (then_suffix ss (unsized b qs)))) (suc (stars ps (depth stack)))
    right_bracket refl
    ((all_of h.middle.stacked).middle m p ps c (then_suffix ss (unsized b qs)) h.middle.host)
ends_at stack (ParametersStart m p ps c ss b) ws us h =
    follow (state stack (ParametersStart m p ps c ss b)) (within stack)
    (state stack (Direct m p ps c (then_suffix ss (unprototyped b)))) (suc (stars ps (depth stack)))
    right_paren refl
    ((all_of h.stacked).middle m p ps c (then_suffix ss (unprototyped b)) h.host)
ends_at stack ParameterNext ws us h = ends_next stack h
ends_at stack AfterEllipsis ws us h = ends_ellipsis stack h.1
ends_at stack InitializerStart ws us h =
    ends_initial h.host (shaped h.stacked) (below_of h.stacked)
ends_at stack BracesStart ws us h =
    ends_item stack h.braces (shaped h.stacked) (all_of h.stacked) (below_of h.stacked)
ends_at stack (AfterDot p) ws us h =
    follow (state stack (AfterDot p)) outside (state stack (AfterDesignator (of_member p [])))
    (depth stack) (name []) refl
    (ends_designator (of_member p []) stack h.braces (shaped h.stacked) (all_of h.stacked)
    (below_of h.stacked))
ends_at stack (AfterDesignator g) ws us h =
    ends_designator g stack h.braces (shaped h.stacked) (all_of h.stacked) (below_of h.stacked)
ends_at stack (AfterInitializer x) ws us h = (all_of h.stacked).initializer x h.host
ends_at stack (AtSpot s y) ws us h = ends_anywhere stack s y (ends_spot s y ws us h)

-- wherever the machine stands, some tokens end it
pub ends : (m : State) (ws us : List Marked) → ReadState m false ws us → Ends m false
ends m ws us h = ends_at m.stack m.at ws us h
