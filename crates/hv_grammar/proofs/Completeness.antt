-- The machine reads what the grammar derives, with the same tree.
use Rattle.std.proofs.Common.{◌≡◌, ℕ, suc, ◌≤◌, Bool, true, false, List, ◌∷◌, refl, sym, ap, ◌∙◌, arith, Option, None, subst}
use Rattle.std.proofs.lemmas.Bool.Decides.{nat_tests}
use Rattle.std.specs.Prelude.{nat_le}
use Rattle.hv_base.specs.declared.place.Place.{Place}
use Rattle.hv_base.specs.declared.keyword.Keyword.TheVariants as keywords
use Rattle.hv_base.specs.declared.punct.Punct.{Punct}
use Rattle.hv_base.specs.declared.punct.Punct.TheVariants as puncts
use Rattle.hv_ctree.specs.declared.tree.words.StructOrUnion.{StructOrUnion}
use Rattle.hv_ctree.specs.tree.Expressions.{Expr, sizeof_type, Arguments, TypeName, type_name, Specifiers, no_specifiers, then_specifier, Specifier, of_type, TypeSpecifier, compound, enumeration, CompoundSpecifier, defined, MayTag, Members, no_members, then_member, MemberDeclaration, members_of, Declarators, no_declarators, then_declarator, EnumSpecifier, listed, Enumerators, no_enumerators, then_enumerator, Enumerator, Declarator, MayDeclarator, some_declarator, Core, group, Suffixes, no_suffixes, then_suffix, Suffix, unsized, sized, function, unprototyped, ParameterTypes, parameter_types, Parameters as ParameterList, no_parameters, then_parameter, Parameter, Pointers, no_pointers}
use Rattle.hv_grammar.specs.Symbols.{Symbol, keyword, name, sign, Role, outside, inside, operator, Marked, at, counted, token_at, BeginsAt, at_first, left_paren, right_paren, left_bracket, right_bracket, left_brace, right_brace, comma_sign, semicolon, equal_sign, level}
use Rattle.hv_grammar.specs.Symbols as symbols
use Rattle.hv_grammar.specs.Expressions.{Words as WordKind, Naming, has_type, stars, braced, type_place, compound_place, enumeration_place, Reads, r_identifier, r_constant, r_string, r_parenthesized, r_subscript, r_call_none, r_call, r_member, r_postfix, r_prefix, r_unary, r_sizeof, r_sizeof_type, r_cast, r_binary, r_conditional, r_assign, r_comma, r_higher, ReadsArguments, r_argument, r_arguments, ReadsTypeName, r_type_name, ReadsSpecifiers, r_specifier, r_specifiers, ReadsSpecifier, r_storage, r_inline, r_qualifier, r_type, ReadsType, r_word, r_compound, r_enumeration, r_typedef_name, ReadsCompound, r_defined, r_mentioned, ReadsTag, r_no_tag, r_tag, ReadsMembers, r_member_first, r_members, ReadsMember, r_members_of, ReadsDeclarators, r_declarator_first, r_declarators, ReadsEnumeration, r_listed, r_listed_before, ReadsEnumerators, r_enumerator, r_enumerators, ReadsEnumerator, r_plain, r_valued, ReadsLastComma, r_no_comma, r_last_comma, ReadsDeclarator, r_declarator, ReadsDirect, r_core, r_suffix, ReadsCore, r_nothing, r_named, r_group, ReadsSuffix, r_unsized, r_sized, r_function, r_unprototyped, ReadsParameterTypes, r_fixed, r_variadic, ReadsParameters, r_parameter, r_parameters, ReadsParameter, r_parameter_named, r_parameter_abstract, ReadsAbstract, r_no_declarator, r_abstract}
use Rattle.hv_grammar.specs.machine.Frames.{Owner, of_type_name, of_parameter, of_member, of_declaration, Mode, only_named, either, Frame, Parenthesis, AfterSizeof, Subscript, Callee, Calling, Prefix, Unary, Sizeof, SizeofType, CastType, Cast, Binary, Then, Else, Assign, Comma, Specified, Body, Listing, Valued, Owned, OwnedMembers, Group, Length, Parameters, hole_of, depth, within, State, Words, AfterCompound, AfterTag, AfterEnum, AfterEnumTag, MemberStart, EnumeratorStart, AfterEnumerator, Pointing, Direct, Bracket, ParameterNext, AfterEllipsis, by_operator, by_assignment, by_question, by_comma, by_bracket, by_parenthesis}
use Rattle.hv_grammar.specs.machine.Steps.{state, want, have, Taken, quiet, loud, plainly, operand_at, ended, begins, may_lack_name, only_pointers, bracket_at, brace_at, comma_at, after, listed_at, body_ended, ellipsis_at, step_at}
use Rattle.hv_grammar.specs.machine.Moves.{taken, Moves, stays, takes}
use Rattle.hv_grammar.proofs.Arriving.{sized_at, joined, one, steps, Entry, entered, want_prefix, want_unary, want_sizeof, want_cast, want_then, want_calling, want_begun, Arrives, arrives_sized, arrives_higher, arrives_completed, arrives_identifier, arrives_constant, arrives_string, opens_paren, arrives_paren, arrives_subscript, arrives_call_none, ArrivesArguments, arrives_first, arrives_next, arrives_call, arrives_member, arrives_postfix, arrives_prefix, arrives_unary, arrives_sizeof, arrives_binary, arrives_conditional, arrives_assign, arrives_comma}
use Rattle.hv_grammar.proofs.ArrivingTypes.{steps_as, same_begin, Spec, Like, like_words, like_spec, Worded, Suits, suits_all, suits_type_name, suits_member, arrives_storage, arrives_inline, arrives_qualifier, arrives_word, arrives_typedef_name, compound_begun, enum_begun, like_mentioned, like_listed_before, Pointed, Bare, has_pointer, pointed_at, mode_of, owned, like_pointed, like_bare, ends_declarator, arrives_pointers}
use Rattle.hv_grammar.proofs.ArrivingDeclarators.{fits_mode, is_bare, AfterOpen, opening, bracketed, arrives_bracket_qualifiers, want_length, DirectAt, arrives_middle, arrives_named, grouping, Declared, direct_declared}

-- the same machine before a phrase that begins at the place
spec_for : {m : State} {o : Owner} {p : Place} {xs : Specifiers} {st : List Frame}
    {ts : List Marked} → Spec m o p xs st p → BeginsAt p ts → (q : Place) → BeginsAt q ts
    → Spec m o p xs st q
spec_for {m} {o} {p} {xs} {st} h b q c =
    subst (λ (z : Place). Spec m o p xs st z) (sym (same_begin b c)) h

within_owned : (o : Owner) (p : Place) (xs : Specifiers) (st : List Frame)
    → within (owned o p xs ∷ st) ≡ within st
within_owned of_type_name p xs st = refl
within_owned of_parameter p xs st = refl
within_owned of_member p xs st = refl
within_owned of_declaration p xs st = refl

depth_owned : (o : Owner) (p : Place) (xs : Specifiers) (st : List Frame)
    → depth (owned o p xs ∷ st) ≡ depth st
depth_owned of_type_name p xs st = refl
depth_owned of_parameter p xs st = refl
depth_owned of_member p xs st = refl
depth_owned of_declaration p xs st = refl

------ type names

abbrev type_owner : TypeName → Frame
type_owner (type_name p xs m) = Owned of_type_name p xs

abbrev type_declarator : TypeName → MayDeclarator
type_declarator (type_name p xs m) = m

cast_closed : (p : Place) (t : TypeName) (st : List Frame)
    → ended (type_owner t ∷ CastType p ∷ st) (type_declarator t) puncts.RightParenthesis
    ≡ quiet (want (Cast p t ∷ st)) (suc (depth st))
cast_closed p (type_name q xs m) st = refl

sizeof_closed : (p : Place) (t : TypeName) (st : List Frame)
    → ended (type_owner t ∷ SizeofType p ∷ st) (type_declarator t) puncts.RightParenthesis
    ≡ quiet (have 14 st (sizeof_type p t)) (suc (suc (depth st)))
sizeof_closed p (type_name q xs m) st = refl

-- `(` where a cast may stand is not directly after `sizeof`
paren_pushed : (before : List Frame) (p : Place) → hole_of before ≤ 13
    → operand_at before p left_paren ≡ loud (want (Parenthesis p ∷ before)) (suc (depth before))
paren_pushed (Sizeof q ∷ st) p h = absurd (omega arith)
paren_pushed _ p h = refl

spec_cast : (p : Place) (before : List Frame) → hole_of before ≤ 13 → (q : Place)
    → Spec (want (Parenthesis p ∷ before)) of_type_name q no_specifiers (CastType p ∷ before) q
spec_cast p before h q = let e : nat_le (hole_of before) 13 ≡ true = grind (arith, nat_tests) in
    record { other = λ s. operand_at (Parenthesis p ∷ before) q s; reads = λ s b. rw e refl }

arrives_sizeof_type : {m : State} {x : Bool} {before : List Frame} → Entry m x before
    → {d : ℕ} (p q r : Place) {ts us : List Marked} {t : TypeName} → d ≡ depth before
    → Declared (want (AfterSizeof q ∷ Sizeof p ∷ before)) ts
    (symbols.quiet (suc (suc d)) r right_paren ∷ us) (type_declarator t)
    (type_owner t ∷ SizeofType p ∷ before)
    → Arrives m x 14 before (counted (suc d) p (keyword keywords.Sizeof) ∷
    symbols.quiet (suc (suc d)) q left_paren ∷ ts) us (sizeof_type p t)
arrives_sizeof_type {before = before} g p q r {t = t} e h = arrives_sized before (sizeof_type p t)
    (takes (entered g p (keyword keywords.Sizeof) refl operator (want (Sizeof p ∷ before)) refl
    (ap suc e))
    (takes (taken true refl (ap (λ n. sized_at (want (AfterSizeof q ∷ Sizeof p ∷ before)) n)
    (sym (ap (λ n. suc (suc n)) e))))
    (joined h.moves (one
    (steps h.there inside (have 14 before (sizeof_type p t)) r right_paren
    (h.ends r puncts.RightParenthesis refl ∙ sizeof_closed p t before)
    (ap (λ n. suc (suc n)) e))))))

cast_begun : {m : State} {x : Bool} {before : List Frame} → Entry m x before
    → {d : ℕ} (p q : Place) {ts us : List Marked} {t : TypeName} → d ≡ depth before
    → hole_of before ≤ 13
    → Declared (want (Parenthesis p ∷ before)) ts (symbols.quiet (suc d) q right_paren ∷ us)
    (type_declarator t) (type_owner t ∷ CastType p ∷ before)
    → Moves m x (counted (suc d) p left_paren ∷ ts) (want (Cast p t ∷ before)) false us
cast_begun {before = before} g p q {t = t} e fits h =
    takes (entered g p left_paren refl operator (want (Parenthesis p ∷ before))
    (paren_pushed before p fits) (ap suc e))
    (joined h.moves (one
    (steps h.there inside (want (Cast p t ∷ before)) q right_paren
    (h.ends q puncts.RightParenthesis refl ∙ cast_closed p t before) (ap suc e))))

------ structures and unions

arrives_body : {r : Role} {d : ℕ} {ts us : List Marked} {t : MayTag} (q : Place)
    → ReadsTag r d ts (at r (suc d) q left_brace ∷ us) t
    → (p : Place) (k : StructOrUnion) (st : List Frame) → r ≡ within st → d ≡ depth st
    → Moves (state st (AfterCompound p k)) false ts (state (Body p k t no_members ∷ st) MemberStart)
    false us
arrives_body q r_no_tag p k st same deep = one (steps_as q left_brace refl same (ap suc deep))
arrives_body q (r_tag y n) p k st same deep =
    takes (steps_as y (name n) refl same deep) (one (steps_as q left_brace refl same (ap suc deep)))

body_closed : {r : Role} {d : ℕ} {ts us : List Marked} {ms : Members} → ReadsMembers r d ts us ms
    → (q : Place) (p : Place) (k : StructOrUnion) (t : MayTag) (o : Owner) (p' : Place)
    (xs : Specifiers) (st : List Frame)
    → step_at (Body p k t ms ∷ Specified o p' xs ∷ st) MemberStart q right_brace
    ≡ plainly st (state st
    (Words o p' (then_specifier xs (of_type p (compound p (defined p k t ms)))))) (suc (depth st))
body_closed (r_member_first h) q p k t o p' xs st = refl
body_closed (r_members h g) q p k t o p' xs st = refl

-- what a sign does after the declarators of members
abbrev members_end : Place → Specifiers → Declarators → List Frame → Punct → Option Taken
members_end p xs no_declarators st s = None
members_end p xs (then_declarator ds x) st s =
    ended (OwnedMembers p xs ds ∷ st) (some_declarator x) s

record MembersAt (m : State) (ts us : List Marked) (p : Place) (xs : Specifiers) (ds : Declarators)
    (st : List Frame) : Type 0 where
  there : State
  moves : Moves m false ts there false us
  ends : (q : Place) (s : Punct) → ends_declarator s ≡ true
      → step_at there.stack there.at q (sign s) ≡ members_end p xs ds st s

members_comma : (p : Place) (xs : Specifiers) {r : Role} {d : ℕ} {ts us : List Marked}
    {ds : Declarators} → ReadsDeclarators r d ts us ds → (st : List Frame)
    → members_end p xs ds st puncts.Comma
    ≡ plainly st (state (OwnedMembers p xs ds ∷ st) (Pointing only_named p no_pointers)) (depth st)
members_comma p xs (r_declarator_first h) st = refl
members_comma p xs (r_declarators q h g) st = refl

members_semicolon : (p : Place) (xs : Specifiers) {r : Role} {d : ℕ} {ts us : List Marked}
    {ds : Declarators} → ReadsDeclarators r d ts us ds
    → (q : Place) (k : StructOrUnion) (t : MayTag) (ms : Members) (st : List Frame)
    → members_end p xs ds (Body q k t ms ∷ st) puncts.Semicolon
    ≡ plainly (Body q k t ms ∷ st)
    (state (Body q k t (then_member ms (members_of p xs ds)) ∷ st) MemberStart) (suc (depth st))
members_semicolon p xs (r_declarator_first h) q k t ms st = refl
members_semicolon p xs (r_declarators y h g) q k t ms st = refl

------ enumerations

record EnumeratorsAt (m : State) (ts us : List Marked) (q : Place) (t : MayTag) (es : Enumerators)
    (st : List Frame) : Type 0 where
  there : State
  moves : Moves m false ts there false us
  next : (y : Place) → step_at there.stack there.at y comma_sign
      ≡ plainly st (state (Listing q t es ∷ st) EnumeratorStart) (braced (depth st))
  closed : (y : Place) → step_at there.stack there.at y right_brace ≡ listed_at st q t es false

arrives_listing : {r : Role} {d : ℕ} {ts us : List Marked} {t : MayTag} (q : Place)
    → ReadsTag r d ts (at r (braced d) q left_brace ∷ us) t
    → (p : Place) (st : List Frame) → r ≡ within st → d ≡ depth st
    → Moves (state st (AfterEnum p)) false ts
    (state (Listing p t no_enumerators ∷ st) EnumeratorStart) false us
arrives_listing q r_no_tag p st same deep = one (steps_as q left_brace refl same (ap braced deep))
arrives_listing q (r_tag y n) p st same deep =
    takes (steps_as y (name n) refl same deep)
    (one (steps_as q left_brace refl same (ap braced deep)))

listing_closed : {r : Role} {d : ℕ} {ts us : List Marked} {es : Enumerators}
    → ReadsEnumerators r d ts us es → (y q : Place) (t : MayTag) (st : List Frame)
    → step_at (Listing q t es ∷ st) EnumeratorStart y right_brace ≡ listed_at st q t es true
listing_closed (r_enumerator h) y q t st = refl
listing_closed (r_enumerators p h g) y q t st = refl

-- the `}` of an enumeration, with or without a comma before it
listing_ends : {m : State} {r : Role} {d d' : ℕ} {ts us vs : List Marked} {es : Enumerators}
    {b : Bool} (x : Place) → ReadsEnumerators r d' ts us es
    → ReadsLastComma r d us (at r d x right_brace ∷ vs) b
    → (q : Place) (t : MayTag) (o : Owner) (p : Place) (xs : Specifiers) (st : List Frame)
    → EnumeratorsAt m ts us q t es (Specified o p xs ∷ st) → r ≡ within st → d ≡ braced (depth st)
    → Moves m false ts (state st
    (Words o p (then_specifier xs (of_type q (enumeration q (listed q t es b)))))) false vs
listing_ends x g r_no_comma q t o p xs st h same deep =
    joined h.moves (one (steps_as x right_brace (h.closed x) same deep))
listing_ends x g (r_last_comma y) q t o p xs st h same deep =
    joined h.moves (takes (steps_as y comma_sign (h.next y) same deep)
    (one (steps_as x right_brace (listing_closed g x q t (Specified o p xs ∷ st)) same deep)))

want_valued : (p : Place) (n : List ℕ) (st : List Frame)
    → Entry (want (Valued p n ∷ st)) false (Valued p n ∷ st)
want_valued p n st = record { enters = λ q s b. refl }

------ parameters

record ParametersAt (m : State) (ts us : List Marked) (md : Mode) (p : Place) (ps : Pointers)
    (c : Core) (ss : Suffixes) (b first : Place) (xs : ParameterList) (st : List Frame) : Type 0
  where
    there : State
    moves : Moves m false ts there false us
    next : (q : Place) → step_at there.stack there.at q comma_sign
        ≡ plainly st (state (Parameters md p ps c ss b first xs ∷ st) ParameterNext)
        (suc (stars ps (depth st)))
    closed : (q : Place) → step_at there.stack there.at q right_paren
        ≡ plainly st (state st
        (Direct md p ps c (then_suffix ss (function b (parameter_types first xs false)))))
        (suc (stars ps (depth st)))

record ParameterTypesAt (m : State) (ts us : List Marked) (md : Mode) (p : Place) (ps : Pointers)
    (c : Core) (ss : Suffixes) (b : Place) (xs : ParameterTypes) (st : List Frame) : Type 0 where
  there : State
  moves : Moves m false ts there false us
  closed : (q : Place) → step_at there.stack there.at q right_paren
      ≡ plainly st (state st (Direct md p ps c (then_suffix ss (function b xs))))
      (suc (stars ps (depth st)))

-- the same before a phrase that begins at the place, wherever that is
spec_first : {m : State} {o : Owner} {p : Place} {xs : Specifiers} {st : List Frame}
    {ts : List Marked} → Spec m o p xs st p → BeginsAt p ts → (q : Place) → BeginsAt q ts
    → Spec m o q xs st q
spec_first {m} {o} {p} {xs} {st} h b q c =
    subst (λ (z : Place). Spec m o z xs st z) (sym (same_begin b c)) h

spec_next : (st : List Frame) (q : Place)
    → Spec (state st ParameterNext) of_parameter q no_specifiers st q
spec_next st q = record { other = λ s. ellipsis_at st s; reads = λ s b. refl }

spec_member : (st : List Frame) (q : Place)
    → Spec (state st MemberStart) of_member q no_specifiers st q
spec_member st q = record { other = λ s. body_ended st s; reads = λ s b. refl }

spec_sizeof : (p q : Place) (before : List Frame) (y : Place)
    → Spec (want (AfterSizeof q ∷ Sizeof p ∷ before)) of_type_name y no_specifiers
    (SizeofType p ∷ before) y
spec_sizeof p q before y = record { other = λ s. _; reads = λ s b. refl }

------ the whole, by recursion on the derivation

mutual
  pub read_expression : {d k : ℕ} {ts us : List Marked} {a : Expr} → Reads d k ts us a
      → (m : State) (x : Bool) (before : List Frame) → Entry m x before → hole_of before ≤ k
      → d ≡ depth before
      → Arrives m x k before ts us a
  read_expression (r_identifier p n) m x before g fits e = arrives_identifier g p n e
  read_expression (r_constant p v) m x before g fits e = arrives_constant g p v e
  read_expression (r_string p b) m x before g fits e = arrives_string g p b e
  read_expression (r_parenthesized p q r) m x before g fits e = let o = opens_paren before p g e in
      arrives_paren before p q e o (read_expression r o.there o.pending (Parenthesis p ∷ before)
      o.entry (omega arith) (ap suc e))
  read_expression (r_subscript {a = a} p q r s) m x before g fits e =
      arrives_subscript before p q e fits (read_expression r m x before g fits e)
      (read_expression s (want (Subscript a ∷ before)) false (Subscript a ∷ before)
      (want_begun by_bracket a before) (omega arith) (ap suc e))
  read_expression (r_call_none p q r) m x before g fits e =
      arrives_call_none before p q e fits (read_expression r m x before g fits e)
  read_expression (r_call {a = a} p q r s) m x before g fits e =
      arrives_call before p q e fits (read_expression r m x before g fits e)
      (read_arguments s before a (ap suc e))
  read_expression (r_member p q n s r) m x before g fits e =
      arrives_member before p q n s e (read_expression r m x before g fits e)
  read_expression (r_postfix p s r) m x before g fits e =
      arrives_postfix before p s e (read_expression r m x before g fits e)
  read_expression (r_prefix p s r) m x before g fits e =
      arrives_prefix g p s e (read_expression r (want (Prefix p s ∷ before)) false
      (Prefix p s ∷ before) (want_prefix p s before) (omega arith) (ap suc e))
  read_expression (r_unary p op r) m x before g fits e =
      arrives_unary g p op e (read_expression r (want (Unary p op ∷ before)) false
      (Unary p op ∷ before) (want_unary p op before) (omega arith) (ap suc e))
  read_expression (r_sizeof p r) m x before g fits e =
      arrives_sizeof g p e (read_expression r (want (Sizeof p ∷ before)) false (Sizeof p ∷ before)
      (want_sizeof p before) (omega arith) (ap suc e))
  read_expression (r_sizeof_type p q c r) m x before g fits e =
      arrives_sizeof_type g p q c e
      (read_type_name r (want (AfterSizeof q ∷ Sizeof p ∷ before)) (SizeofType p ∷ before)
      (spec_sizeof p q before) refl (ap (λ n. suc (suc n)) e))
  read_expression (r_cast {t = t} {a = a} p q r s) m x before g fits e =
      arrives_completed (Cast p t) before 13 a refl (omega arith) (λ k u v. v)
      (cast_begun g p q e fits (read_type_name r (want (Parenthesis p ∷ before))
      (CastType p ∷ before) (spec_cast p before fits) refl (ap suc e)))
      (read_expression s (want (Cast p t ∷ before)) false (Cast p t ∷ before) (want_cast p t before)
      (omega arith) (ap suc e))
  read_expression (r_binary {a = a} p op r s) m x before g fits e =
      arrives_binary before p op e fits (read_expression r m x before g fits e)
      (read_expression s (want (Binary op a ∷ before)) false (Binary op a ∷ before)
      (want_begun (by_operator op) a before) (omega arith) e)
  read_expression (r_conditional {a = a} {b = b} p q r s t) m x before g fits e =
      arrives_conditional before p q e fits (read_expression r m x before g (omega arith) e)
      (read_expression s (want (Then a ∷ before)) false (Then a ∷ before)
      (want_begun by_question a before) (omega arith) (ap suc e))
      (read_expression t (want (Else a b ∷ before)) false (Else a b ∷ before) (want_then a b before)
      (omega arith) (ap suc e))
  read_expression (r_assign {a = a} p op r s) m x before g fits e =
      arrives_assign before p op e fits (read_expression r m x before g (omega arith) e)
      (read_expression s (want (Assign op a ∷ before)) false (Assign op a ∷ before)
      (want_begun (by_assignment op) a before) (omega arith) (ap suc e))
  read_expression (r_comma {a = a} p r s) m x before g fits e =
      arrives_comma before p e fits (read_expression r m x before g fits e)
      (read_expression s (want (Comma a ∷ before)) false (Comma a ∷ before)
      (want_begun by_comma a before) (omega arith) e)
  read_expression (r_higher r) m x before g fits e =
      arrives_higher (read_expression r m x before g (omega arith) e)

  read_arguments : {d : ℕ} {ts us : List Marked} {xs : Arguments} → ReadsArguments d ts us xs
      → (before : List Frame) (f : Expr) → d ≡ suc (depth before)
      → ArrivesArguments before f ts us xs
  read_arguments (r_argument r) before f e =
      arrives_first before f (read_expression r (want (Callee f ∷ before)) false (Callee f ∷ before)
      (want_begun by_parenthesis f before) (omega arith) e)
  read_arguments (r_arguments {xs = xs} p r s) before f e =
      arrives_next before p f e (read_arguments r before f e)
      (read_expression s (want (Calling f xs ∷ before)) false (Calling f xs ∷ before)
      (want_calling f xs before) (omega arith) e)

  read_type_name : {d : ℕ} {ts us : List Marked} {t : TypeName} → ReadsTypeName d ts us t
      → (m : State) (st : List Frame)
      → ((q : Place) → Spec m of_type_name q no_specifiers st q) → inside ≡ within st → d ≡ depth st
      → Declared m ts us (type_declarator t) (type_owner t ∷ st)
  read_type_name (r_type_name {xs = xs} {p = p} b r s) m st f same deep =
      let w = read_specifiers r m of_type_name p st b (f p) suits_type_name same deep in
      let h = read_abstract s w.there of_type_name p xs st w.like refl same deep in
      record { there = h.there; moves = joined w.moves h.moves; ends = h.ends; body = h.body }

  pub read_specifiers : {r : Role} {d : ℕ} {w : WordKind} {ts us : List Marked} {xs : Specifiers}
      → ReadsSpecifiers r d w ts us xs → (m : State) (o : Owner) (p : Place) (st : List Frame)
      → BeginsAt p ts → Spec m o p no_specifiers st p → Suits w o → r ≡ within st → d ≡ depth st
      → Worded m ts us o p xs st
  read_specifiers (r_specifier h) m o p st b f s same deep =
      read_specifier h m o p no_specifiers st (spec_for f b) s refl same deep
  read_specifiers (r_specifiers {xs = xs} h g) m o p st b f s same deep =
      let w = read_specifiers h m o p st b f s same deep in
      let v = read_specifier g w.there o p xs st (λ q c. like_spec w.like q) s refl same deep in
      record { there = v.there; moves = joined w.moves v.moves; like = v.like }

  read_specifier : {r : Role} {d : ℕ} {w : WordKind} {seen : Bool} {ts us : List Marked}
      {x : Specifier} → ReadsSpecifier r d w seen ts us x
      → (m : State) (o : Owner) (p : Place) (xs : Specifiers) (st : List Frame)
      → ((q : Place) → BeginsAt q ts → Spec m o p xs st q) → Suits w o → seen ≡ has_type xs
      → r ≡ within st → d ≡ depth st → Worded m ts us o p (then_specifier xs x) st
  read_specifier (r_storage q c) m o p xs st f s seen same deep =
      arrives_storage q c s (f q (at_first _ _)) same deep
  read_specifier (r_inline q) m o p xs st f s seen same deep =
      arrives_inline q s (f q (at_first _ _)) same deep
  read_specifier (r_qualifier q c) m o p xs st f s seen same deep =
      arrives_qualifier q c (f q (at_first _ _)) same deep
  read_specifier (r_type h) m o p xs st f s seen same deep =
      read_type h m o p xs st f seen same deep

  read_type : {r : Role} {d : ℕ} {seen : Bool} {ts us : List Marked} {t : TypeSpecifier}
      → ReadsType r d seen ts us t
      → (m : State) (o : Owner) (p : Place) (xs : Specifiers) (st : List Frame)
      → ((q : Place) → BeginsAt q ts → Spec m o p xs st q) → seen ≡ has_type xs
      → r ≡ within st → d ≡ depth st
      → Worded m ts us o p (then_specifier xs (of_type (type_place t) t)) st
  read_type (r_word q w) m o p xs st f seen same deep =
      arrives_word q w (f q (at_first _ _)) same deep
  read_type (r_compound h) m o p xs st f seen same deep = read_compound h m o p xs st f same deep
  read_type (r_enumeration h) m o p xs st f seen same deep =
      read_enumeration h m o p xs st f same deep
  read_type (r_typedef_name q n) m o p xs st f seen same deep =
      arrives_typedef_name q n (f q (at_first _ _)) (sym seen) same deep

  read_compound : {r : Role} {d : ℕ} {ts us : List Marked} {c : CompoundSpecifier}
      → ReadsCompound r d ts us c
      → (m : State) (o : Owner) (p : Place) (xs : Specifiers) (st : List Frame)
      → ((q : Place) → BeginsAt q ts → Spec m o p xs st q)
      → r ≡ within st → d ≡ depth st
      → Worded m ts us o p (then_specifier xs
      (of_type (compound_place c) (compound (compound_place c) c))) st
  read_compound (r_mentioned q y k n) m o p xs st f same deep = record {
    there = state (Specified o p xs ∷ st) (AfterTag q k y n);
    moves =
        takes (compound_begun q k (f q (at_first _ _)) same deep)
        (one (steps_as y (name n) refl same deep));
    like = like_mentioned o p xs st q k y n;
  }
  read_compound (r_defined {t = t} {ms = ms} q y z k h g) m o p xs st f same deep = record {
    there = state st (Words o p (then_specifier xs (of_type q (compound q (defined q k t ms)))));
    moves = takes (compound_begun q k (f q (at_first _ _)) same deep)
        (joined (arrives_body y h q k (Specified o p xs ∷ st) same deep)
        (joined (read_members g q k t (Specified o p xs ∷ st) same (ap suc deep))
        (one (steps_as z right_brace (body_closed g z q k t o p xs st) same (ap suc deep)))));
    like = like_words o p (then_specifier xs (of_type q (compound q (defined q k t ms)))) st;
  }

  read_members : {r : Role} {d : ℕ} {ts us : List Marked} {ms : Members} → ReadsMembers r d ts us ms
      → (q : Place) (k : StructOrUnion) (t : MayTag) (st : List Frame)
      → r ≡ within st → d ≡ suc (depth st)
      → Moves (state (Body q k t no_members ∷ st) MemberStart) false ts
      (state (Body q k t ms ∷ st) MemberStart) false us
  read_members (r_member_first h) q k t st same deep = read_member h q k t no_members st same deep
  read_members (r_members {ms = ms} h g) q k t st same deep =
      joined (read_members h q k t st same deep) (read_member g q k t ms st same deep)

  read_member : {r : Role} {d : ℕ} {ts us : List Marked} {x : MemberDeclaration}
      → ReadsMember r d ts us x → (q : Place) (k : StructOrUnion) (t : MayTag) (ms : Members)
      (st : List Frame)
      → r ≡ within st → d ≡ suc (depth st)
      → Moves (state (Body q k t ms ∷ st) MemberStart) false ts
      (state (Body q k t (then_member ms x) ∷ st) MemberStart) false us
  read_member (r_members_of {xs = xs} {p = p} y b h g) q k t ms st same deep =
      let w =
      read_specifiers h (state (Body q k t ms ∷ st) MemberStart) of_member p
      (Body q k t ms ∷ st) b (spec_member (Body q k t ms ∷ st) p) suits_member same deep in
      let v = read_declarators g w.there p xs (Body q k t ms ∷ st) (like_pointed w.like p) same deep
      in
      joined w.moves (joined v.moves
      (one (steps_as y semicolon (v.ends y puncts.Semicolon refl
      ∙ members_semicolon p xs g q k t ms st) same deep)))

  read_declarators : {r : Role} {d : ℕ} {ts us : List Marked} {ds : Declarators}
      → ReadsDeclarators r d ts us ds → (m : State) (p : Place) (xs : Specifiers) (st : List Frame)
      → Pointed m only_named p no_pointers (OwnedMembers p xs no_declarators ∷ st) → r ≡ within st
      → d ≡ depth st → MembersAt m ts us p xs ds st
  read_declarators (r_declarator_first h) m p xs st f same deep =
      let v =
      read_declarator h m only_named p (OwnedMembers p xs no_declarators ∷ st) f refl same deep
      in
      record { there = v.there; moves = v.moves; ends = v.ends }
  read_declarators (r_declarators {xs = ds} q h g) m p xs st f same deep =
      let w = read_declarators h m p xs st f same deep in
      let v =
      read_declarator g (state (OwnedMembers p xs ds ∷ st) (Pointing only_named p no_pointers))
      only_named p (OwnedMembers p xs ds ∷ st)
      (pointed_at only_named p no_pointers (OwnedMembers p xs ds ∷ st)) refl same deep in
      record {
        there = v.there;
        moves =
            joined w.moves (takes
            (steps_as q comma_sign (w.ends q puncts.Comma refl ∙ members_comma p xs h st) same deep)
            v.moves);
        ends = v.ends;
      }

  read_enumeration : {r : Role} {d : ℕ} {ts us : List Marked} {c : EnumSpecifier}
      → ReadsEnumeration r d ts us c
      → (m : State) (o : Owner) (p : Place) (xs : Specifiers) (st : List Frame)
      → ((q : Place) → BeginsAt q ts → Spec m o p xs st q)
      → r ≡ within st → d ≡ depth st
      → Worded m ts us o p (then_specifier xs
      (of_type (enumeration_place c) (enumeration (enumeration_place c) c))) st
  read_enumeration (r_listed_before q y n) m o p xs st f same deep = record {
    there = state (Specified o p xs ∷ st) (AfterEnumTag q y n);
    moves =
        takes (enum_begun q (f q (at_first _ _)) same deep)
        (one (steps_as y (name n) refl same deep));
    like = like_listed_before o p xs st q y n;
  }
  read_enumeration (r_listed {t = t} {es = es} {b = b} q y z h g l) m o p xs st f same deep =
      record {
        there = state st (Words o p (then_specifier xs (of_type q (enumeration q (listed q t es b)))));
        moves = takes (enum_begun q (f q (at_first _ _)) same deep)
            (joined (arrives_listing y h q (Specified o p xs ∷ st) same deep)
            (listing_ends z g l q t o p xs st
            (read_enumerators g q t (Specified o p xs ∷ st) same (ap braced deep)) same
            (ap braced deep)));
        like = like_words o p (then_specifier xs (of_type q (enumeration q (listed q t es b)))) st;
      }

  read_enumerators : {r : Role} {d : ℕ} {ts us : List Marked} {es : Enumerators}
      → ReadsEnumerators r d ts us es → (q : Place) (t : MayTag) (st : List Frame)
      → r ≡ within st → d ≡ braced (depth st)
      → EnumeratorsAt (state (Listing q t no_enumerators ∷ st) EnumeratorStart) ts us q t es st
  read_enumerators (r_enumerator h) q t st same deep =
      read_enumerator h q t no_enumerators st same deep
  read_enumerators (r_enumerators {es = es} y h g) q t st same deep =
      let w = read_enumerators h q t st same deep in
      let v = read_enumerator g q t es st same deep in
      record {
        there = v.there;
        moves =
            joined w.moves (takes (steps_as y comma_sign (w.next y) same deep) v.moves);
        next =
            v.next;
        closed = v.closed;
      }

  read_enumerator : {r : Role} {d : ℕ} {ts us : List Marked} {e : Enumerator}
      → ReadsEnumerator r d ts us e → (q : Place) (t : MayTag) (es : Enumerators) (st : List Frame)
      → r ≡ within st → d ≡ braced (depth st)
      → EnumeratorsAt (state (Listing q t es ∷ st) EnumeratorStart) ts us q t (then_enumerator es e)
      st
  read_enumerator (r_plain p n) q t es st same deep = record {
    there = state (Listing q t es ∷ st) (AfterEnumerator p n);
    moves = one (steps_as p (name n) refl same deep);
    next = λ y. refl;
    closed = λ y. refl;
  }
  read_enumerator (r_valued p y n h) q t es st same deep =
      let v =
      read_expression h (want (Valued p n ∷ Listing q t es ∷ st)) false
      (Valued p n ∷ Listing q t es ∷ st) (want_valued p n (Listing q t es ∷ st)) (omega arith)
      deep in
      record {
        there = have v.real v.stack v.last;
        moves =
            takes (steps_as p (name n) refl same deep)
            (takes (steps_as y equal_sign refl same deep) v.moves);
        next = λ z. ap comma_at (v.ended 0 (omega arith) (omega arith));
        closed = λ z. ap (after brace_at) (v.ended 0 (omega arith) (omega arith));
      }

  read_abstract : {r : Role} {d : ℕ} {ts us : List Marked} {x : MayDeclarator}
      → ReadsAbstract r d ts us x → (n : State) (o : Owner) (p : Place) (xs : Specifiers) (st : List
      Frame)
      → Like n o p xs st → may_lack_name (mode_of o) ≡ true → r ≡ within st → d ≡ depth st
      → Declared n ts us x (owned o p xs ∷ st)
  read_abstract r_no_declarator n o p xs st h l same deep =
      record {
        there = n;
        moves = stays;
        ends = λ q s e. (like_bare h p).reads q s e l;
        body = λ q e. cc;
      }
  read_abstract (r_abstract r) n o p xs st h l same deep =
      read_declarator r n (mode_of o) p (owned o p xs ∷ st) (like_pointed h p) l
      (same ∙ sym (within_owned o p xs st)) (deep ∙ sym (depth_owned o p xs st))

  pub read_declarator : {r : Role} {d : ℕ} {k : Naming} {ts us : List Marked} {x : Declarator}
      → ReadsDeclarator r d k ts us x → (m : State) (md : Mode) (y : Place) (st : List Frame)
      → Pointed m md y no_pointers st → fits_mode k md ≡ true → r ≡ within st → d ≡ depth st
      → Declared m ts us (some_declarator x) st
  read_declarator (r_declarator {ps = ps} {c = c} {ss = ss} {p = p} b h g i) m md y st f l same
      deep =
      let w = arrives_pointers h m md y st f same deep in
      let v =
      read_direct g w.there md p w.place ps st w.pointed w.bare (λ q e. w.first p q b e)
      (w.alone p b) l same (ap (stars ps) deep) in
      direct_declared i (record { there = v.there; moves = joined w.moves v.moves; like = v.like })

  read_direct : {r : Role} {d : ℕ} {k : Naming} {ts us : List Marked} {c : Core} {ss : Suffixes}
      → ReadsDirect r d k ts us c ss
      → (n : State) (md : Mode) (p y : Place) (ps : Pointers) (st : List Frame)
      → Pointed n md y ps st → (has_pointer ps ≡ true → Bare n md y ps st)
      → ((q : Place) → BeginsAt q ts → begins y ps q ≡ p) → only_pointers y ps ≡ only_pointers p ps
      → fits_mode k md ≡ true → r ≡ within st → d ≡ stars ps (depth st)
      → DirectAt n ts us md p ps c ss st
  read_direct (r_core h) n md p y ps st f b first alone l same deep =
      read_core h n md p y ps st f b first alone l same deep
  read_direct (r_suffix h g) n md p y ps st f b first alone l same deep =
      read_suffix g n md p ps st (read_direct h n md p y ps st f b first alone l same deep) same
      deep

  read_core : {r : Role} {d : ℕ} {k : Naming} {ts us : List Marked} {c : Core}
      → ReadsCore r d k ts us c
      → (n : State) (md : Mode) (p y : Place) (ps : Pointers) (st : List Frame)
      → Pointed n md y ps st → (has_pointer ps ≡ true → Bare n md y ps st)
      → ((q : Place) → BeginsAt q ts → begins y ps q ≡ p) → only_pointers y ps ≡ only_pointers p ps
      → fits_mode k md ≡ true → r ≡ within st → d ≡ stars ps (depth st)
      → DirectAt n ts us md p ps c no_suffixes st
  read_core r_nothing n md p y ps st f b first alone l same deep =
      record { there = n; moves = stays; like = is_bare f b l first alone }
  read_core (r_named q x) n md p y ps st f b first alone l same deep =
      arrives_named q x f first l same deep
  read_core (r_group {x = x} q z h) n md p y ps st f b first alone l same deep =
      let w = grouping md q f first same deep in
      let v = read_declarator h w.there md q (Group md p ps q ∷ st) w.pointed l same (ap suc deep)
      in
      arrives_middle md p ps (group q x) no_suffixes st
      (takes w.takes_it (joined v.moves
      (one (steps_as z right_paren (v.ends z puncts.RightParenthesis refl) same (ap suc deep)))))

  read_suffix : {r : Role} {d : ℕ} {ts us vs : List Marked} {c : Core} {ss : Suffixes} {s : Suffix}
      → ReadsSuffix r d us vs s
      → (n : State) (md : Mode) (p : Place) (ps : Pointers) (st : List Frame)
      → DirectAt n ts us md p ps c ss st → r ≡ within st → d ≡ stars ps (depth st)
      → DirectAt n ts vs md p ps c (then_suffix ss s) st
  read_suffix {c = c} {ss = ss} (r_unsized {qs = qs} b z h) n md p ps st w same deep =
      arrives_middle md p ps c (then_suffix ss (unsized b qs)) st
      (joined w.moves (takes (bracketed w.like same deep)
      (joined (arrives_bracket_qualifiers h md p ps c ss b st same (ap suc deep))
      (one (steps_as z right_bracket refl same (ap suc deep))))))
  read_suffix {c = c} {ss = ss} (r_sized {qs = qs} {a = a} b z h g) n md p ps st w same deep =
      let v =
      read_expression g (state st (Bracket md p ps c ss b qs)) false
      (Length md p ps c ss b qs ∷ st) (want_length md p ps c ss b qs st) (omega arith)
      (ap suc deep) in
      arrives_middle md p ps c (then_suffix ss (sized b qs a)) st
      (joined w.moves (takes (bracketed w.like same deep)
      (joined (arrives_bracket_qualifiers h md p ps c ss b st same (ap suc deep))
      (joined v.moves (one
      (steps_as z right_bracket (ap (after bracket_at) (v.ended 0 (omega arith) (omega arith))) same
      (ap suc deep)))))))
  read_suffix {c = c} {ss = ss} (r_function {ps = xs} b z h) n md p ps st w same deep =
      let o = opening w.like same deep in
      let v = read_parameter_types h o.there md p ps c ss b st o.after_it same (ap suc deep) in
      arrives_middle md p ps c (then_suffix ss (function b xs)) st
      (joined w.moves (takes o.takes_it
      (joined v.moves (one (steps_as z right_paren (v.closed z) same (ap suc deep))))))
  read_suffix {c = c} {ss = ss} (r_unprototyped b z) n md p ps st w same deep =
      let o = opening w.like same deep in
      arrives_middle md p ps c (then_suffix ss (unprototyped b)) st
      (joined w.moves (takes o.takes_it
      (one (steps_as z right_paren (o.after_it.closes z) same (ap suc deep)))))

  read_parameter_types : {r : Role} {d : ℕ} {ts us : List Marked} {xs : ParameterTypes}
      → ReadsParameterTypes r d ts us xs
      → (n : State) (md : Mode) (p : Place) (ps : Pointers) (c : Core) (ss : Suffixes) (b : Place)
      (st : List Frame) → AfterOpen n md p ps c ss b st
      → r ≡ within st → d ≡ suc (stars ps (depth st))
      → ParameterTypesAt n ts us md p ps c ss b xs st
  read_parameter_types (r_fixed {p = y} e h) n md p ps c ss b st o same deep =
      let v = read_parameters h n md p ps c ss b y st (spec_first (o.spec y) e) same deep in
      record { there = v.there; moves = v.moves; closed = v.closed }
  read_parameter_types (r_variadic {ps = xs} {p = y} q z e h) n md p ps c ss b st o same deep =
      let v = read_parameters h n md p ps c ss b y st (spec_first (o.spec y) e) same deep in
      record {
        there = state (Parameters md p ps c ss b y xs ∷ st) AfterEllipsis;
        moves =
            joined v.moves (takes (steps_as q comma_sign (v.next q) same deep)
            (one (steps_as z (sign puncts.Ellipsis) refl same deep)));
        closed = λ x. refl;
      }

  read_parameters : {r : Role} {d : ℕ} {ts us : List Marked} {xs : ParameterList}
      → ReadsParameters r d ts us xs
      → (n : State) (md : Mode) (p : Place) (ps : Pointers) (c : Core) (ss : Suffixes)
      (b first : Place) (st : List Frame)
      → ((q : Place) → BeginsAt q ts
      → Spec n of_parameter q no_specifiers (Parameters md p ps c ss b first no_parameters ∷ st)
      q)
      → r ≡ within st → d ≡ suc (stars ps (depth st))
      → ParametersAt n ts us md p ps c ss b first xs st
  read_parameters (r_parameter h) n md p ps c ss b first st f same deep =
      read_parameter h n md p ps c ss b first no_parameters st f same deep
  read_parameters (r_parameters {ps = xs} q h g) n md p ps c ss b first st f same deep =
      let w = read_parameters h n md p ps c ss b first st f same deep in
      let v =
      read_parameter g (state (Parameters md p ps c ss b first xs ∷ st) ParameterNext) md p ps c
      ss b first xs st
      (λ y e. spec_next (Parameters md p ps c ss b first xs ∷ st) y) same deep in
      record {
        there = v.there;
        moves =
            joined w.moves (takes (steps_as q comma_sign (w.next q) same deep) v.moves);
        next =
            v.next;
        closed = v.closed;
      }

  read_parameter : {r : Role} {d : ℕ} {ts us : List Marked} {x : Parameter}
      → ReadsParameter r d ts us x
      → (n : State) (md : Mode) (p : Place) (ps : Pointers) (c : Core) (ss : Suffixes)
      (b first : Place) (xs : ParameterList) (st : List Frame)
      → ((q : Place) → BeginsAt q ts
      → Spec n of_parameter q no_specifiers (Parameters md p ps c ss b first xs ∷ st) q)
      → r ≡ within st → d ≡ suc (stars ps (depth st))
      → ParametersAt n ts us md p ps c ss b first (then_parameter xs x) st
  read_parameter (r_parameter_named {xs = ws} {p = y} e h g) n md p ps c ss b first xs st f same
      deep =
      let w =
      read_specifiers h n of_parameter y (Parameters md p ps c ss b first xs ∷ st) e (f y e)
      suits_all same deep in
      let v =
      read_declarator g w.there either y
      (Owned of_parameter y ws ∷ Parameters md p ps c ss b first xs ∷ st)
      (like_pointed w.like y) refl same deep in
      record {
        there = v.there;
        moves = joined w.moves v.moves;
        next =
            λ q. v.ends q puncts.Comma refl;
        closed = λ q. v.ends q puncts.RightParenthesis refl;
      }
  read_parameter (r_parameter_abstract {xs = ws} {p = y} e h g) n md p ps c ss b first xs st f same
      deep =
      let w =
      read_specifiers h n of_parameter y (Parameters md p ps c ss b first xs ∷ st) e (f y e)
      suits_all same deep in
      let v =
      read_abstract g w.there of_parameter y ws (Parameters md p ps c ss b first xs ∷ st) w.like
      refl same deep in
      record {
        there = v.there;
        moves = joined w.moves v.moves;
        next =
            λ q. v.ends q puncts.Comma refl;
        closed = λ q. v.ends q puncts.RightParenthesis refl;
      }
