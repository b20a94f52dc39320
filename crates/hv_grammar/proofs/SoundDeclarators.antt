-- What the machine makes of a token of a declarator, the grammar derives.
use Rattle.std.proofs.Common.{◌≡◌, ℕ, suc, Bool, true, false, cond, List, [], ◌∷◌, refl, arith, Option, Some, None}
use Rattle.hv_base.specs.declared.place.Place.{Place}
use Rattle.hv_base.specs.declared.keyword.Keyword.{Keyword}
use Rattle.hv_base.specs.declared.keyword.Keyword.TheVariants as keywords
use Rattle.hv_base.specs.declared.punct.Punct.{Punct}
use Rattle.hv_base.specs.declared.punct.Punct.TheVariants as puncts
use Rattle.hv_ctree.specs.declared.tree.words.TypeQualifier.{TypeQualifier}
use Rattle.hv_ctree.specs.declared.tree.words.TypeQualifier.TheVariants.{Const, Restrict}
use Rattle.hv_ctree.specs.tree.Expressions.{sizeof_type, type_name, Specifiers, no_specifiers, Members, then_member, members_of, Declarators, then_declarator, Declarator, declarator, MayDeclarator, some_declarator, Core, nothing, named, group, Suffixes, no_suffixes, then_suffix, unsized, function, unprototyped, parameter_types, Parameters as ParameterList, no_parameters, then_parameter, Parameter, parameter, Pointers, no_pointers, then_pointer, Qualifiers, no_qualifiers, then_qualifier}
use Rattle.hv_ctree.specs.tree.Statements.{bare, InitDeclarators, no_init_declarators, then_init_declarator, hollow_function}
use Rattle.hv_grammar.specs.Elements.{External, loose, r_bare, r_declaration, ReadsElement, r_function_definition}
use Rattle.hv_grammar.specs.machine.Parts.{alone, the_hole, the_right_brace}
use Rattle.hv_grammar.specs.Symbols.{Symbol, keyword, name, sign, Role, outside, inside, Marked, at, quiet, BeginsAt, at_first, left_paren, right_paren, left_bracket, right_bracket, left_brace, comma_sign, semicolon, equal_sign, qualifier_word}
use Rattle.hv_grammar.specs.Expressions.{all_words, with_name, without_name, stars, r_sizeof_type, r_type_name, ReadsSpecifiers, ReadsMembers, r_member_first, r_members, ReadsMember, r_members_of, ReadsDeclarators, r_declarator_first, r_declarators, ReadsDeclarator, r_declarator, ReadsPointers, r_no_pointers, r_pointer, r_no_qualifiers, r_qualifiers, r_core, r_suffix, r_nothing, r_named, r_group, r_unsized, r_function, r_unprototyped, r_fixed, r_variadic, ReadsParameters, r_parameter, r_parameters, ReadsParameter, r_parameter_named, r_parameter_abstract, r_no_declarator, r_abstract, ReadsAbstract}
use Rattle.hv_grammar.specs.machine.Frames.{of_type_name, of_parameter, Mode, only_named, only_abstract, either, Frame, SizeofType, CastType, Cast, Body, Owned, OwnedMembers, Group, Length, Parameters, Declares, Declaring, Initialized, depth, within, Direct, Bracket}
use Rattle.hv_grammar.specs.machine.Steps.{state, Taken, plainly, operand_at, qualifier_of, may_name, may_lack_name, begins, qualified, after_parameter, after_member, after_type_name, after_group, after_init, body_at, declarator_place, ended, only_pointers, pointing_qualifier, pointing_keyword, opened_at, pointing_sign, step_pointing, opened_sign, step_opened, step_direct, bracket_keyword, step_bracket, no_parameters_at, step_parameters, ellipsis_at, step_ellipsis, first_word}
use Rattle.hv_grammar.proofs.Reached.{in_parameters, in_body, in_element, Hosts, host_declaration, is_declaring, no_init_yet, inits_read, from_start, b_declares, b_declaring, b_initialized, empty, Terminals, no_terminal, a_terminal, Awaits, InitialAt, host_type, host_members, host_group, none_yet, MembersFrom, no_member_yet, members_read, DeclaratorsFrom, no_declarator_yet, declarators_read, ParametersFrom, no_parameter_yet, parameters_read, DirectFrom, b_sizeof_type, b_cast_type, b_cast, b_body, b_owned, b_members, b_group, b_length, b_parameters, Stacked, more, Holds, Wants, w_plainly, MemberAt, PointingAt, OpenedAt, MiddleAt, WholeAt, BracketAt, NextAt, next_at, Leads, once, leads_by, branches, fits_most, Specs, part_suffix, part_named, part_group, MayRead, m_none, m_some, EndedAt}
use Rattle.hv_grammar.proofs.ArrivingInitializers.{in_declaration}
use Rattle.hv_grammar.proofs.ArrivingStatements.{declarator_begins}
use Rattle.hv_grammar.proofs.SoundInitializers.{DeclaredAt, declared_read, inits_with}
use Rattle.hv_grammar.proofs.SoundExpressions.{Wanting, pushed_read, operand_read}
use Rattle.hv_grammar.proofs.SoundSpecifiers.{specifier_read}

abbrev Ending : Mode → MayDeclarator → List Frame → Bool → List Marked → List Marked → Type 0
Ending m x stack y ws us = EndedAt m x stack ws us

abbrev pub Pointed : Mode → Place → Pointers → List Frame → Bool → List Marked → List Marked
    → Type 0
Pointed m p ps stack y ws us = PointingAt m p ps stack ws us

------ after a declarator, or nothing

parameter_with : {m : Mode} {p : Place} {xs : Specifiers} {x : MayDeclarator} {r : Role} {d : ℕ}
    {ts us vs : List Marked} → BeginsAt p ts
    → ReadsSpecifiers r d all_words ts us xs → MayRead m r d us vs x
    → ReadsParameter r d ts vs (parameter p xs x)
parameter_with b h m_none = r_parameter_abstract b h r_no_declarator
parameter_with b h (m_some with_name e r) = r_parameter_named b h r
parameter_with b h (m_some without_name e r) = r_parameter_abstract b h (r_abstract r)

parameters_with : {f : Place} {xs : ParameterList} {x : Parameter} {r : Role} {d : ℕ}
    {ts us vs : List Marked} → ParametersFrom f xs r d ts us
    → ReadsParameter r d us vs x → ReadsParameters r d ts vs (then_parameter xs x)
parameters_with (no_parameter_yet b) r = r_parameter r
parameters_with (parameters_read q b h) r = r_parameters q h r

parameters_begin : {f : Place} {xs : ParameterList} {r : Role} {d : ℕ} {ts us : List Marked}
    → ParametersFrom f xs r d ts us → BeginsAt f ts
parameters_begin (no_parameter_yet b) = b
parameters_begin (parameters_read q b h) = b

members_with : {ds : Declarators} {x : Declarator} {r : Role} {d : ℕ} {ts us vs : List Marked}
    → DeclaratorsFrom ds r d ts us → ReadsDeclarator r d with_name us vs x
    → ReadsDeclarators r d ts vs (then_declarator ds x)
members_with no_declarator_yet r = r_declarator_first r
members_with (declarators_read q h) r = r_declarators q h r

body_with : {ms : Members} {r : Role} {d : ℕ} {ts us vs : List Marked} {p : Place} {xs : Specifiers}
    {ds : Declarators} → MembersFrom ms r d ts us
    → ReadsMember r d us vs (members_of p xs ds)
    → ReadsMembers r d ts vs (then_member ms (members_of p xs ds))
body_with no_member_yet r = r_member_first r
body_with (members_read h) r = r_members h r

-- the declarator of a type's name has no name, that of a member has one
abstract_only : {x : MayDeclarator} {r : Role} {d : ℕ} {ts us : List Marked}
    → MayRead only_abstract r d ts us x → ReadsAbstract r d ts us x
abstract_only m_none = r_no_declarator
abstract_only (m_some with_name e r) = cc
abstract_only (m_some without_name e r) = r_abstract r

named_only : {x : Declarator} {r : Role} {d : ℕ} {ts us : List Marked}
    → MayRead only_named r d ts us (some_declarator x) → ReadsDeclarator r d with_name ts us x
named_only (m_some with_name e r) = r
named_only (m_some without_name e r) = cc

function_read : {m : Mode} {p b : Place} {ps : Pointers} {c : Core} {ss : Suffixes}
    {stack : List Frame} {ws from after us : List Marked} {f : Place} {xs : ParameterList}
    (q : Place)
    → Hosts m stack → Stacked stack ws from
    → DirectFrom m p ps c ss (within stack) (depth stack) from
    (at (within stack) (suc (stars ps (depth stack))) b left_paren ∷ after)
    → BeginsAt f after
    → ReadsParameters (within stack) (suc (stars ps (depth stack))) after
    (at (within stack) (suc (stars ps (depth stack))) q right_paren ∷ us) xs
    → WholeAt m p ps c (then_suffix ss (function b (parameter_types f xs false))) stack ws us
function_read {b = b} {ps = ps} {c = c} {ss = ss} {f = f} {xs = xs} q i s h g r = record {
  part = part_suffix ps c ss (function b (parameter_types f xs false));
  middle = record {
    from = _;
    host = i;
    stacked = s;
    direct = record {
      naming = h.naming;
      suits = h.suits;
      begins = h.begins;
      middle = h.middle;
      pointers = h.pointers;
      direct = r_suffix h.direct (r_function b q (r_fixed g r));
    };
  };
}

after_parameter_read : (stack : List Frame) (m : Mode) (r : Place) (xs : Specifiers)
    (x : MayDeclarator) (q : Place) (s : Punct)
    → Leads (Ending m x (Owned of_parameter r xs ∷ stack)) q (sign s)
    (after_parameter (Owned of_parameter r xs ∷ stack) x s)
after_parameter_read (Parameters n p ps c ss b first params ∷ stack) m r xs x q puncts.Comma =
    once (λ ws us h. go h.stacked h.reads) where
      go : {ws from us : List Marked}
          → Stacked (Owned of_parameter r xs ∷ Parameters n p ps c ss b first params ∷ stack) ws from
          → MayRead m (within stack) (suc (stars ps (depth stack))) from
          (at (within stack) (suc (stars ps (depth stack))) q comma_sign ∷ us) x
          → NextAt (Parameters n p ps c ss b first (then_parameter params (parameter r xs x)) ∷ stack)
          ws us
      go (more (more s _ i (b_parameters h g)) _ _ (b_owned k l)) y =
          next_at (record { from = _; host = i; stacked = s; direct = h }) (parameters_begin g) q
          (parameters_with g (parameter_with k l y))
after_parameter_read (Parameters n p ps c ss b first params ∷ stack) m r xs x q
    puncts.RightParenthesis = once (λ ws us h. go h.stacked h.reads) where
      go : {ws from us : List Marked}
          → Stacked (Owned of_parameter r xs ∷ Parameters n p ps c ss b first params ∷ stack) ws from
          → MayRead m (within stack) (suc (stars ps (depth stack))) from
          (at (within stack) (suc (stars ps (depth stack))) q right_paren ∷ us) x
          → WholeAt n p ps c (then_suffix ss
          (function b (parameter_types first (then_parameter params (parameter r xs x)) false))) stack
          ws us
      go (more (more s _ i (b_parameters h g)) _ _ (b_owned k l)) y =
          function_read q i s h (parameters_begin g) (parameters_with g (parameter_with k l y))
after_parameter_read _ m r xs x q s = tt

after_type_read : (stack : List Frame) (r : Place) (xs : Specifiers) (x : MayDeclarator) (q : Place)
    (s : Punct)
    → Leads (Ending only_abstract x (Owned of_type_name r xs ∷ stack)) q (sign s)
    (after_type_name (Owned of_type_name r xs ∷ stack) x s)
after_type_read (CastType p ∷ stack) r xs x q puncts.RightParenthesis =
    once (λ ws us h. w_plainly (go h.stacked h.reads)) where
      go : {ws from us : List Marked} → Stacked (Owned of_type_name r xs ∷ CastType p ∷ stack) ws from
          → MayRead only_abstract inside (suc (depth stack)) from
          (quiet (suc (depth stack)) q right_paren ∷ us) x
          → Wants (Cast p (type_name r xs x) ∷ stack) ws us
      go (more (more s fit _ (b_cast_type _)) _ _ (b_owned k l)) y =
          pushed_read (Cast p (type_name r xs x)) stack (omega arith) fit tt s
          (b_cast p q (r_type_name k l (abstract_only y)))
after_type_read (SizeofType p ∷ stack) r xs x q puncts.RightParenthesis =
    once (λ ws us h. go h.stacked h.reads) where
      go : {ws from us : List Marked} → Stacked (Owned of_type_name r xs ∷ SizeofType p ∷ stack) ws from
          → MayRead only_abstract inside (suc (suc (depth stack))) from
          (quiet (suc (suc (depth stack))) q right_paren ∷ us) x
          → Holds 14 stack (sizeof_type p (type_name r xs x)) ws us
      go (more (more s fit _ (b_sizeof_type _ o)) _ _ (b_owned k l)) y =
          record {
            from = _;
            most = omega arith;
            fits = fit;
            stacked = s;
            reads =
                r_sizeof_type p o q (r_type_name k l (abstract_only y));
          }
after_type_read _ r xs x q s = tt

after_member_read : (stack : List Frame) (r : Place) (xs : Specifiers) (ds : Declarators)
    (x : Declarator) (q : Place) (s : Punct)
    → Leads (Ending only_named (some_declarator x) (OwnedMembers r xs ds ∷ stack)) q (sign s)
    (after_member (OwnedMembers r xs ds ∷ stack) x s)
after_member_read stack r xs ds x q puncts.Comma = once (λ ws us h. go h.stacked h.reads) where
  go : {ws from us : List Marked} → Stacked (OwnedMembers r xs ds ∷ stack) ws from
      → MayRead only_named (within stack) (depth stack) from
      (at (within stack) (depth stack) q comma_sign ∷ us) (some_declarator x)
      → PointingAt only_named r no_pointers (OwnedMembers r xs (then_declarator ds x) ∷ stack) ws us
  go (more s f i (b_members k l g)) y = record {
    from = _;
    host = host_members;
    stacked = more s f i (b_members k l (declarators_read q (members_with g (named_only y))));
    pointers = r_no_pointers;
    first = λ z b. b;
  }
after_member_read (Body y k t ms ∷ stack) r xs ds x q puncts.Semicolon =
    once (λ ws us h. go h.stacked h.reads) where
      go : {ws from us : List Marked} → Stacked (OwnedMembers r xs ds ∷ Body y k t ms ∷ stack) ws from
          → MayRead only_named (within stack) (suc (depth stack)) from
          (at (within stack) (suc (depth stack)) q semicolon ∷ us) (some_declarator x)
          → MemberAt (Body y k t (then_member ms (members_of r xs (then_declarator ds x))) ∷ stack) ws
          us
      go (more (more s f i (b_body z tag m)) _ _ (b_members b l g)) v = record {
        site = in_body;
        stacked =
            more s f i (b_body z tag
            (members_read (body_with m (r_members_of q b l (members_with g (named_only v))))));
      }
after_member_read _ r xs ds x q s = tt

after_group_read : (stack : List Frame) (m : Mode) (p : Place) (ps : Pointers) (b : Place)
    (x : Declarator) (q : Place) (s : Punct)
    → Leads (Ending m (some_declarator x) (Group m p ps b ∷ stack)) q (sign s)
    (after_group (Group m p ps b ∷ stack) x s)
after_group_read stack m p ps b x q puncts.RightParenthesis =
    once (λ ws us h. go h.stacked h.reads) where
      go : {ws from us : List Marked} → Stacked (Group m p ps b ∷ stack) ws from
          → MayRead m (within stack) (suc (stars ps (depth stack))) from
          (at (within stack) (suc (stars ps (depth stack))) q right_paren ∷ us) (some_declarator x)
          → WholeAt m p ps (group b x) no_suffixes stack ws us
      go (more s f i (b_group k l)) (m_some n e r) = record {
        part = part_group ps b x;
        middle = record {
          from = _;
          host = i;
          stacked = s;
          direct =
              record {
                naming = n;
                suits = e;
                begins = k;
                middle = _;
                pointers = l;
                direct =
                    r_core (r_group b q r);
              };
        };
      }
after_group_read stack m p ps b x q _ = tt

-- the frame around a declarator says which kinds may stand there
type_mode : {m : Mode} {x : MayDeclarator} {p : Place} {xs : Specifiers} {st : List Frame}
    {ws us : List Marked} → EndedAt m x (Owned of_type_name p xs ∷ st) ws us
    → EndedAt only_abstract x (Owned of_type_name p xs ∷ st) ws us
type_mode {m} {x} {p} {xs} {st} {ws} {us} h = go m h.host h.stacked h.reads where
  go : (m : Mode) {from : List Marked} → Hosts m (Owned of_type_name p xs ∷ st)
      → Stacked (Owned of_type_name p xs ∷ st) ws from
      → MayRead m (within st) (depth st) from us x
      → EndedAt only_abstract x (Owned of_type_name p xs ∷ st) ws us
  go _ host_type s r = record { from = _; host = host_type; stacked = s; reads = r }

members_mode : {m : Mode} {x : MayDeclarator} {p : Place} {xs : Specifiers} {ds : Declarators}
    {st : List Frame} {ws us : List Marked}
    → EndedAt m x (OwnedMembers p xs ds ∷ st) ws us
    → EndedAt only_named x (OwnedMembers p xs ds ∷ st) ws us
members_mode {m} {x} {p} {xs} {ds} {st} {ws} {us} h = go m h.host h.stacked h.reads where
  go : (m : Mode) {from : List Marked} → Hosts m (OwnedMembers p xs ds ∷ st)
      → Stacked (OwnedMembers p xs ds ∷ st) ws from
      → MayRead m (within st) (depth st) from us x
      → EndedAt only_named x (OwnedMembers p xs ds ∷ st) ws us
  go _ host_members s r = record { from = _; host = host_members; stacked = s; reads = r }

group_mode : {m n : Mode} {x : MayDeclarator} {p q : Place} {ps : Pointers} {st : List Frame}
    {ws us : List Marked}
    → EndedAt m x (Group n p ps q ∷ st) ws us → EndedAt n x (Group n p ps q ∷ st) ws us
group_mode {m} {n} {x} {p} {q} {ps} {st} {ws} {us} h = go m h.host h.stacked h.reads where
  go : (m : Mode) {from : List Marked} → Hosts m (Group n p ps q ∷ st)
      → Stacked (Group n p ps q ∷ st) ws from
      → MayRead m (within st) (suc (stars ps (depth st))) from us x
      → EndedAt n x (Group n p ps q ∷ st) ws us
  go _ host_group s r = record { from = _; host = host_group; stacked = s; reads = r }

declaring_mode : {m : Mode} {x : MayDeclarator} {p : Place} {xs : Specifiers}
    {ds : InitDeclarators} {st : List Frame} {ws us : List Marked}
    → EndedAt m x (Declaring p xs ds ∷ st) ws us → EndedAt only_named x (Declaring p xs ds ∷ st) ws us
declaring_mode {m} {x} {p} {xs} {ds} {st} {ws} {us} h = go m h.host h.stacked h.reads where
  go : (m : Mode) {from : List Marked} → Hosts m (Declaring p xs ds ∷ st)
      → Stacked (Declaring p xs ds ∷ st) ws from
      → MayRead m (within st) (depth st) from us x
      → EndedAt only_named x (Declaring p xs ds ∷ st) ws us
  go _ host_declaration s r = record { from = _; host = host_declaration; stacked = s; reads = r }

-- after a declarator of a declaration
declaring_comma : {p : Place} {xs : Specifiers} {ds : InitDeclarators} {x : Declarator}
    {st : List Frame} {ws from us : List Marked} (q : Place)
    → Stacked (Declaring p xs ds ∷ st) ws from
    → MayRead only_named (within st) (depth st) from (loose (depth st) q comma_sign ∷ us)
    (some_declarator x)
    → PointingAt only_named p no_pointers
    (Declaring p xs (then_init_declarator ds (bare (declarator_place x) x)) ∷ st) ws us
declaring_comma q (more s f in_element (b_declaring k l g)) y = record {
  from = _;
  host = host_declaration;
  stacked =
      more s f in_element (b_declaring k l
      (inits_read q (inits_with g (r_bare (declarator_begins (named_only y)) (named_only y)))));
  pointers = r_no_pointers;
  first = λ z b. b;
}

declaring_equal : {p : Place} {xs : Specifiers} {ds : InitDeclarators} {x : Declarator}
    {st : List Frame} {ws from us : List Marked} (q : Place)
    → Stacked (Declaring p xs ds ∷ st) ws from
    → MayRead only_named (within st) (depth st) from (loose (depth st) q equal_sign ∷ us)
    (some_declarator x) → InitialAt (Initialized x ∷ Declaring p xs ds ∷ st) ws us
declaring_equal q (more s f in_element (b_declaring k l g)) y = record {
  host = in_declaration;
  stacked =
      more (more s f in_element (b_declaring k l g)) (omega arith) is_declaring
      (b_initialized q (named_only y));
}

declaring_semicolon : {p : Place} {xs : Specifiers} {ds : InitDeclarators} {x : Declarator}
    {st : List Frame} {ws from us : List Marked} (q : Place)
    → Stacked (Declaring p xs ds ∷ st) ws from
    → MayRead only_named (within st) (depth st) from (loose 0 q semicolon ∷ us) (some_declarator x)
    → DeclaredAt st p xs (then_init_declarator ds (bare (declarator_place x) x)) ws us
declaring_semicolon q (more s f in_element (b_declaring k l g)) y =
    record {
      from = _;
      stacked = s;
      reads =
          r_declaration q k l
          (inits_with g (r_bare (declarator_begins (named_only y)) (named_only y)));
    }

after_init_read : (stack : List Frame) (p : Place) (xs : Specifiers) (ds : InitDeclarators)
    (x : Declarator) (q : Place) (s : Punct)
    → Leads (Ending only_named (some_declarator x) (Declaring p xs ds ∷ stack)) q (sign s)
    (after_init (Declaring p xs ds ∷ stack) x s)
after_init_read stack p xs ds x q puncts.Comma =
    once (λ ws us h. declaring_comma q h.stacked h.reads)
after_init_read stack p xs ds x q puncts.Equal =
    once (λ ws us h. declaring_equal q h.stacked h.reads)
after_init_read stack p xs ds x q puncts.Semicolon =
    declared_read (Ending only_named (some_declarator x) (Declaring p xs ds ∷ stack)) stack p xs
    (then_init_declarator ds (bare (declarator_place x) x)) q
    (λ ws us h. declaring_semicolon q h.stacked h.reads)
after_init_read stack p xs ds x q s = tt

-- `{` after the declarator of a function definition
function_awaits : {p : Place} {xs : Specifiers} {x : Declarator} {ts us ms : List Marked}
    → BeginsAt p ts → ReadsSpecifiers outside 0 all_words ts us xs
    → (q : Place) → ReadsDeclarator outside 0 with_name us (loose 0 q left_brace ∷ ms) x
    → (vs : List Marked) → Terminals (the_hole ∷ the_right_brace ∷ []) ms vs
    → ReadsElement External ts vs (hollow_function p xs x q 0)
function_awaits k l q r _ (a_terminal h (a_terminal y no_terminal)) =
    r_function_definition q h y k l r

body_read : (stack : List Frame) (m : Mode) (x : Declarator) (q : Place)
    → Leads (Ending m (some_declarator x) stack) q left_brace (body_at stack x q)
body_read (Declaring p xs no_init_declarators ∷ Declares External alone ∷ []) m x q =
    once (λ ws us h. go m h.host h.stacked h.reads) where
      go : (m : Mode) {ws from us : List Marked}
          → Hosts m (Declaring p xs no_init_declarators ∷ Declares External alone ∷ [])
          → Stacked (Declaring p xs no_init_declarators ∷ Declares External alone ∷ []) ws from
          → MayRead m outside 0 from (loose 0 q left_brace ∷ us) (some_declarator x)
          → Awaits External (the_hole ∷ the_right_brace ∷ []) (hollow_function p xs x q 0) ws us
      go _ host_declaration (more (more empty _ _ (b_declares (from_start z))) _ _
          (b_declaring k l no_init_yet)) y = λ vs t. function_awaits k l q (named_only y) vs t
      go _ host_declaration (more (more empty _ _ (b_declares (from_start z))) _ _
          (b_declaring k l (inits_read _ g))) y = elim g [ ]
body_read _ m x q = tt

-- a sign after a declarator, or after nothing
pub ended_read : (stack : List Frame) (m : Mode) (x : MayDeclarator) (q : Place) (s : Punct)
    → Leads (Ending m x stack) q (sign s) (ended stack x s)
ended_read (Owned of_parameter p xs ∷ st) m x q s = after_parameter_read st m p xs x q s
ended_read (Owned of_type_name p xs ∷ st) m x q s =
    leads_by (Ending m x (Owned of_type_name p xs ∷ st))
    (Ending only_abstract x (Owned of_type_name p xs ∷ st)) q (sign s)
    (after_type_name (Owned of_type_name p xs ∷ st) x s) (λ y r d ws us h. type_mode h)
    (after_type_read st p xs x q s)
ended_read (OwnedMembers p xs ds ∷ st) m (some_declarator x) q s =
    leads_by (Ending m (some_declarator x) (OwnedMembers p xs ds ∷ st))
    (Ending only_named (some_declarator x) (OwnedMembers p xs ds ∷ st)) q (sign s)
    (after_member (OwnedMembers p xs ds ∷ st) x s) (λ y r d ws us h. members_mode h)
    (after_member_read st p xs ds x q s)
ended_read (Group n p ps b ∷ st) m (some_declarator x) q s =
    leads_by (Ending m (some_declarator x) (Group n p ps b ∷ st))
    (Ending n (some_declarator x) (Group n p ps b ∷ st)) q (sign s)
    (after_group (Group n p ps b ∷ st) x s) (λ y r d ws us h. group_mode h)
    (after_group_read st n p ps b x q s)
ended_read (Declaring p xs ds ∷ st) m (some_declarator x) q s =
    leads_by (Ending m (some_declarator x) (Declaring p xs ds ∷ st))
    (Ending only_named (some_declarator x) (Declaring p xs ds ∷ st)) q (sign s)
    (after_init (Declaring p xs ds ∷ st) x s) (λ y r d ws us h. declaring_mode h)
    (after_init_read st p xs ds x q s)
ended_read _ m x q s = tt

------ before the middle

only_pointers_read : (m : Mode) (p : Place) (ps : Pointers) (stack : List Frame)
    {ws us : List Marked} {r : Role} {d : ℕ} (q : Place) (s : Symbol) → may_lack_name m ≡ true
    → PointingAt m p ps stack ws (at r d q s ∷ us)
    → EndedAt m (only_pointers p ps) stack ws (at r d q s ∷ us)
only_pointers_read m p ps stack {ws} {us} {r} {d} q s e h =
    record {
      from = h.from;
      host = h.host;
      stacked = h.stacked;
      reads =
          go ps h.pointers (h.first q (at_first _ _));
    } where
      go : (ps : Pointers) {from : List Marked}
          → ReadsPointers (within stack) (depth stack) from (at r d q s ∷ us) ps
          → BeginsAt (begins p ps q) from
          → MayRead m (within stack) (depth stack) from (at r d q s ∷ us) (only_pointers p ps)
      go no_pointers r_no_pointers b = m_none
      go (then_pointer ps y qs) k b = m_some without_name e (r_declarator b k (r_core r_nothing) refl)

pointing_end : (m : Mode) (p : Place) (ps : Pointers) (stack : List Frame) (q : Place) (s : Punct)
    → Leads (Pointed m p ps stack) q (sign s)
    (cond (may_lack_name m) (ended stack (only_pointers p ps) s) None)
pointing_end m p ps stack q s =
    branches (Pointed m p ps stack) q (sign s) (may_lack_name m)
    (ended stack (only_pointers p ps) s) None
    (λ e. leads_by (Pointed m p ps stack) (Ending m (only_pointers p ps) stack) q (sign s)
    (ended stack (only_pointers p ps) s)
    (λ x r d ws us h. only_pointers_read m p ps stack q (sign s) e h)
    (ended_read stack m (only_pointers p ps) q s)) (λ e. tt)

qualifier_read : (m : Mode) (p : Place) (ps : Pointers) (stack : List Frame) (q : Place)
    (c : TypeQualifier)
    → Leads (Pointed m p ps stack) q (qualifier_word c)
    (pointing_qualifier m p stack (stars ps (depth stack)) (qualified ps c))
qualifier_read m p no_pointers stack q c = tt
qualifier_read m p (then_pointer ps y qs) stack q c = once (λ ws us h. record {
  from = h.from;
  host = h.host;
  stacked = h.stacked;
  pointers = go h.pointers;
  first = λ z b. h.first q (at_first _ _);
}) where
  go : {from us : List Marked} → ReadsPointers (within stack) (depth stack) from (at (within stack)
      (suc (stars ps (depth stack))) q (qualifier_word c) ∷ us) (then_pointer ps y qs)
      → ReadsPointers (within stack) (depth stack) from us (then_pointer ps y (then_qualifier qs c))
  go (r_pointer _ h k) = r_pointer y h (r_qualifiers q c k)

pointing_keyword_read : (m : Mode) (p : Place) (ps : Pointers) (stack : List Frame) (q : Place)
    (k : Keyword)
    → Leads (Pointed m p ps stack) q (keyword k) (pointing_keyword m p ps stack (qualifier_of k))
pointing_keyword_read m p ps stack q keywords.Const = qualifier_read m p ps stack q Const
pointing_keyword_read m p ps stack q keywords.Restrict = qualifier_read m p ps stack q Restrict
pointing_keyword_read m p ps stack q _ = tt

-- a `(` that begins a declarator within another
group_begun : {m : Mode} {p : Place} {ps : Pointers} {q : Place} {stack : List Frame}
    {ws from us : List Marked} → Hosts m stack → Stacked stack ws from → BeginsAt p from
    → ReadsPointers (within stack) (depth stack) from
    (at (within stack) (suc (stars ps (depth stack))) q left_paren ∷ us) ps → (y : Place)
    → PointingAt m y no_pointers (Group m p ps q ∷ stack) ws us
group_begun {stack = stack} i s b k y =
    record {
      from = _;
      host = host_group;
      stacked = more s (fits_most stack) i (b_group b k);
      pointers = r_no_pointers;
      first = λ z c. c;
    }

opened_at_read : (m : Mode) (p : Place) (ps : Pointers) (stack : List Frame) (q : Place)
    → Leads (Pointed m p ps stack) q left_paren (opened_at m (begins p ps q) ps q stack)
opened_at_read only_named p ps stack q =
    once (λ ws us h. group_begun h.host h.stacked (h.first q (at_first _ _)) h.pointers q)
opened_at_read only_abstract p ps stack q =
    once (λ ws us h. record {
      from = h.from;
      host = h.host;
      lacks = refl;
      stacked = h.stacked;
      begins = h.first q (at_first _ _);
      pointers = h.pointers;
    })
opened_at_read either p ps stack q =
    once (λ ws us h. record {
      from = h.from;
      host = h.host;
      lacks = refl;
      stacked = h.stacked;
      begins = h.first q (at_first _ _);
      pointers = h.pointers;
    })

bracket_at_read : (m : Mode) (p : Place) (ps : Pointers) (stack : List Frame) (q : Place)
    → Leads (Pointed m p ps stack) q left_bracket
    (cond (may_lack_name m) (plainly stack
    (state stack (Bracket m (begins p ps q) ps nothing no_suffixes q no_qualifiers))
    (suc (stars ps (depth stack)))) None)
bracket_at_read m p ps stack q =
    branches (Pointed m p ps stack) q left_bracket (may_lack_name m)
    (plainly stack (state stack (Bracket m (begins p ps q) ps nothing no_suffixes q no_qualifiers))
    (suc (stars ps (depth stack)))) None
    (λ e. once (λ ws us h. record {
      after = us;
      middle = record {
        from = h.from;
        host = h.host;
        stacked = h.stacked;
        direct =
            record {
              naming = without_name;
              suits = e;
              begins = h.first q (at_first _ _);
              middle =
                  _;
              pointers = h.pointers;
              direct = r_core r_nothing;
            };
      };
      qualifiers = r_no_qualifiers;
    })) (λ e. tt)

pointing_sign_read : (m : Mode) (p : Place) (ps : Pointers) (stack : List Frame) (q : Place)
    (s : Punct)
    → Leads (Pointed m p ps stack) q (sign s) (pointing_sign m p ps stack q s)
pointing_sign_read m p ps stack q puncts.Star = once (λ ws us h. record {
  from = h.from;
  host = h.host;
  stacked = h.stacked;
  pointers = r_pointer q h.pointers r_no_qualifiers;
  first = λ z b. h.first q (at_first _ _);
})
pointing_sign_read m p ps stack q puncts.LeftParenthesis = opened_at_read m p ps stack q
pointing_sign_read m p ps stack q puncts.LeftBracket = bracket_at_read m p ps stack q
pointing_sign_read m p ps stack q s = pointing_end m p ps stack q s

pub pointing_read : (m : Mode) (p : Place) (ps : Pointers) (stack : List Frame) (q : Place)
    (s : Symbol)
    → Leads (Pointed m p ps stack) q s (step_pointing m p ps stack q s)
pointing_read m p ps stack q (name n) =
    branches (Pointed m p ps stack) q (name n) (may_name m)
    (plainly stack (state stack (Direct m (begins p ps q) ps (named q n) no_suffixes))
    (stars ps (depth stack))) None
    (λ e. once (λ ws us h. record {
      part = part_named ps q n;
      middle = record {
        from = h.from;
        host = h.host;
        stacked = h.stacked;
        direct =
            record {
              naming = with_name;
              suits = e;
              begins = h.first q (at_first _ _);
              middle = _;
              pointers = h.pointers;
              direct = r_core (r_named q n);
            };
      };
    })) (λ e. tt)
pointing_read m p ps stack q (keyword k) = pointing_keyword_read m p ps stack q k
pointing_read m p ps stack q (sign s) = pointing_sign_read m p ps stack q s
pointing_read m p ps stack q _ = tt

------ after the `(` of a declarator without a name so far

-- what is open after such a `(`
nothing_from : {m : Mode} {p : Place} {ps : Pointers} {b : Place} {stack : List Frame}
    {ws us : List Marked} → OpenedAt m p ps b stack ws us
    → MiddleAt m p ps nothing no_suffixes stack ws
    (at (within stack) (suc (stars ps (depth stack))) b left_paren ∷ us)
nothing_from h = record {
  from = h.from;
  host = h.host;
  stacked = h.stacked;
  direct =
      record {
        naming = without_name;
        suits = h.lacks;
        begins = h.begins;
        middle = _;
        pointers =
            h.pointers;
        direct = r_core r_nothing;
      };
}

with_suffix : {m : Mode} {p : Place} {ps : Pointers} {c : Core} {ss : Suffixes} {b : Place}
    {stack : List Frame} {ws us : List Marked} (q : Place)
    → MiddleAt m p ps c ss stack ws
    (at (within stack) (suc (stars ps (depth stack))) b left_paren ∷
    at (within stack) (suc (stars ps (depth stack))) q right_paren ∷ us)
    → WholeAt m p ps c (then_suffix ss (unprototyped b)) stack ws us
with_suffix {ps = ps} {c = c} {ss = ss} {b = b} q h = record {
  part = part_suffix ps c ss (unprototyped b);
  middle = record {
    from = h.from;
    host = h.host;
    stacked = h.stacked;
    direct = record {
      naming = h.direct.naming;
      suits = h.direct.suits;
      begins = h.direct.begins;
      middle = h.direct.middle;
      pointers = h.direct.pointers;
      direct = r_suffix h.direct.direct (r_unprototyped b q);
    };
  };
}

abbrev OpenedB : Mode → Place → Pointers → Place → List Frame → Bool → List Marked → List Marked
    → Type 0
OpenedB m p ps b stack x ws us = OpenedAt m p ps b stack ws us

opened_more : (m : Mode) (p : Place) (ps : Pointers) (b : Place) (stack : List Frame) (q : Place)
    (s : Symbol)
    → Leads (OpenedB m p ps b stack) q s
    (step_pointing m q no_pointers (Group m p ps b ∷ stack) q s)
opened_more m p ps b stack q s =
    leads_by (OpenedB m p ps b stack) (Pointed m q no_pointers (Group m p ps b ∷ stack)) q s
    (step_pointing m q no_pointers (Group m p ps b ∷ stack) q s)
    (λ x r d ws us h. group_begun h.host h.stacked h.begins h.pointers q)
    (pointing_read m q no_pointers (Group m p ps b ∷ stack) q s)

opened_sign_read : (m : Mode) (p : Place) (ps : Pointers) (b : Place) (stack : List Frame)
    (q : Place) (s : Symbol)
    → Leads (OpenedB m p ps b stack) q s (opened_sign m p ps b stack q s)
opened_sign_read m p ps b stack q (sign puncts.RightParenthesis) =
    once (λ ws us h. with_suffix q (nothing_from h))
opened_sign_read m p ps b stack q s = opened_more m p ps b stack q s

-- the first specifier of the first parameter
first_parameter : {m : Mode} {p : Place} {ps : Pointers} {c : Core} {ss : Suffixes} {b : Place}
    (stack : List Frame) {ws us : List Marked} {r : Role} {d : ℕ} (q : Place) (s : Symbol)
    → MiddleAt m p ps c ss stack ws
    (at (within stack) (suc (stars ps (depth stack))) b left_paren ∷ at r d q s ∷ us)
    → Specs of_parameter q no_specifiers (Parameters m p ps c ss b q no_parameters ∷ stack) ws
    (at r d q s ∷ us)
first_parameter stack q s h = record {
  from = _;
  site = in_parameters;
  stacked =
      more h.stacked (fits_most stack) h.host
      (b_parameters h.direct (no_parameter_yet (at_first _ _)));
  specifiers = none_yet (at_first _ _);
}

pub opened_read : (m : Mode) (p : Place) (ps : Pointers) (b : Place) (stack : List Frame)
    (q : Place) (s : Symbol)
    → Leads (OpenedB m p ps b stack) q s (step_opened m p ps b stack q s)
opened_read m p ps b stack q s =
    specifier_read (OpenedB m p ps b stack) of_parameter q no_specifiers
    (Parameters m p ps nothing no_suffixes b q no_parameters ∷ stack) q s
    (opened_sign m p ps b stack q s)
    (λ r d ws us h. first_parameter stack q s (nothing_from h))
    (opened_sign_read m p ps b stack q s)

------ after the middle

abbrev Whole : Mode → Place → Pointers → Core → Suffixes → List Frame → Bool → List Marked
    → List Marked → Type 0
Whole m p ps c ss stack x ws us = WholeAt m p ps c ss stack ws us

direct_ends_by : (m : Mode) (p : Place) (ps : Pointers) (c : Core) (ss : Suffixes)
    (stack : List Frame) (q : Place) (s : Symbol) (o : Option Taken)
    → Leads (Ending m (some_declarator (declarator p ps c ss)) stack) q s o
    → Leads (Whole m p ps c ss stack) q s o
direct_ends_by m p ps c ss stack q s o g =
    leads_by (Whole m p ps c ss stack) (Ending m (some_declarator (declarator p ps c ss)) stack) q
    s o
    (λ x r d ws us h. record {
      from = h.middle.from;
      host = h.middle.host;
      stacked = h.middle.stacked;
      reads =
          m_some h.middle.direct.naming h.middle.direct.suits
          (r_declarator h.middle.direct.begins h.middle.direct.pointers h.middle.direct.direct
          h.part);
    }) g

direct_end : (m : Mode) (p : Place) (ps : Pointers) (c : Core) (ss : Suffixes) (stack : List Frame)
    (q : Place) (s : Punct)
    → Leads (Whole m p ps c ss stack) q (sign s)
    (ended stack (some_declarator (declarator p ps c ss)) s)
direct_end m p ps c ss stack q s =
    direct_ends_by m p ps c ss stack q (sign s)
    (ended stack (some_declarator (declarator p ps c ss)) s)
    (ended_read stack m (some_declarator (declarator p ps c ss)) q s)

direct_sign_read : (m : Mode) (p : Place) (ps : Pointers) (c : Core) (ss : Suffixes)
    (stack : List Frame) (q : Place) (s : Punct)
    → Leads (Whole m p ps c ss stack) q (sign s) (step_direct m p ps c ss stack q (sign s))
direct_sign_read m p ps c ss stack q puncts.LeftBracket =
    once (λ ws us h. record { after = us; middle = h.middle; qualifiers = r_no_qualifiers })
direct_sign_read m p ps c ss stack q puncts.LeftParenthesis = once (λ ws us h. h.middle)
direct_sign_read m p ps c ss stack q puncts.LeftBrace =
    direct_ends_by m p ps c ss stack q left_brace (body_at stack (declarator p ps c ss) q)
    (body_read stack m (declarator p ps c ss) q)
direct_sign_read m p ps c ss stack q s = direct_end m p ps c ss stack q s

pub direct_read : (m : Mode) (p : Place) (ps : Pointers) (c : Core) (ss : Suffixes)
    (stack : List Frame) (q : Place) (s : Symbol)
    → Leads (Whole m p ps c ss stack) q s (step_direct m p ps c ss stack q s)
direct_read m p ps c ss stack q (sign s) = direct_sign_read m p ps c ss stack q s
direct_read m p ps c ss stack q _ = tt

abbrev Bracketed : Mode → Place → Pointers → Core → Suffixes → Place → Qualifiers → List Frame
    → Bool → List Marked → List Marked → Type 0
Bracketed m p ps c ss b qs stack x ws us = BracketAt m p ps c ss b qs stack ws us

-- a length
length_begun : (m : Mode) (p : Place) (ps : Pointers) (c : Core) (ss : Suffixes) (b : Place)
    (qs : Qualifiers) (stack : List Frame) (q : Place) (s : Symbol)
    → Leads (Bracketed m p ps c ss b qs stack) q s
    (operand_at (Length m p ps c ss b qs ∷ stack) q s)
length_begun m p ps c ss b qs stack q s =
    leads_by (Bracketed m p ps c ss b qs stack) (Wanting (Length m p ps c ss b qs ∷ stack)) q s
    (operand_at (Length m p ps c ss b qs ∷ stack) q s)
    (λ x r d ws us h. record {
      fits = omega arith;
      stacked =
          more h.middle.stacked (fits_most stack) h.middle.host (b_length h.middle.direct h.qualifiers);
    })
    (operand_read (Length m p ps c ss b qs ∷ stack) q s)

unsized_read : {m : Mode} {p : Place} {ps : Pointers} {c : Core} {ss : Suffixes} {b : Place}
    {qs : Qualifiers} {stack : List Frame} {ws us : List Marked} (q : Place)
    → BracketAt m p ps c ss b qs stack ws
    (at (within stack) (suc (stars ps (depth stack))) q right_bracket ∷ us)
    → WholeAt m p ps c (then_suffix ss (unsized b qs)) stack ws us
unsized_read {ps = ps} {c = c} {ss = ss} {b = b} {qs = qs} q h = record {
  part = part_suffix ps c ss (unsized b qs);
  middle = record {
    from = h.middle.from;
    host = h.middle.host;
    stacked = h.middle.stacked;
    direct = record {
      naming = h.middle.direct.naming;
      suits = h.middle.direct.suits;
      begins = h.middle.direct.begins;
      middle = h.middle.direct.middle;
      pointers = h.middle.direct.pointers;
      direct = r_suffix h.middle.direct.direct (r_unsized b q h.qualifiers);
    };
  };
}

bracket_qualifier_read : (m : Mode) (p : Place) (ps : Pointers) (c : Core) (ss : Suffixes)
    (b : Place) (qs : Qualifiers) (stack : List Frame) (q : Place) (k : TypeQualifier)
    (other : Option Taken)
    → Leads (Bracketed m p ps c ss b qs stack) q (qualifier_word k)
    (bracket_keyword m p ps c ss b qs stack (Some k) other)
bracket_qualifier_read m p ps c ss b qs stack q k other =
    once (λ ws us h. record {
      after = h.after;
      middle = h.middle;
      qualifiers =
          r_qualifiers q k h.qualifiers;
    })

bracket_keyword_read : (m : Mode) (p : Place) (ps : Pointers) (c : Core) (ss : Suffixes) (b : Place)
    (qs : Qualifiers) (stack : List Frame) (q : Place) (k : Keyword)
    → Leads (Bracketed m p ps c ss b qs stack) q (keyword k)
    (step_bracket m p ps c ss b qs stack q (keyword k))
bracket_keyword_read m p ps c ss b qs stack q keywords.Const =
    bracket_qualifier_read m p ps c ss b qs stack q Const
    (operand_at (Length m p ps c ss b qs ∷ stack) q (keyword keywords.Const))
bracket_keyword_read m p ps c ss b qs stack q keywords.Restrict =
    bracket_qualifier_read m p ps c ss b qs stack q Restrict
    (operand_at (Length m p ps c ss b qs ∷ stack) q (keyword keywords.Restrict))
bracket_keyword_read m p ps c ss b qs stack q k = length_begun m p ps c ss b qs stack q (keyword k)

bracket_sign_read : (m : Mode) (p : Place) (ps : Pointers) (c : Core) (ss : Suffixes) (b : Place)
    (qs : Qualifiers) (stack : List Frame) (q : Place) (s : Punct)
    → Leads (Bracketed m p ps c ss b qs stack) q (sign s)
    (step_bracket m p ps c ss b qs stack q (sign s))
bracket_sign_read m p ps c ss b qs stack q puncts.RightBracket = once (λ ws us h. unsized_read q h)
bracket_sign_read m p ps c ss b qs stack q s = length_begun m p ps c ss b qs stack q (sign s)

pub bracket_read : (m : Mode) (p : Place) (ps : Pointers) (c : Core) (ss : Suffixes) (b : Place)
    (qs : Qualifiers) (stack : List Frame) (q : Place) (s : Symbol)
    → Leads (Bracketed m p ps c ss b qs stack) q s (step_bracket m p ps c ss b qs stack q s)
bracket_read m p ps c ss b qs stack q (sign s) = bracket_sign_read m p ps c ss b qs stack q s
bracket_read m p ps c ss b qs stack q (keyword k) = bracket_keyword_read m p ps c ss b qs stack q k
bracket_read m p ps c ss b qs stack q s = length_begun m p ps c ss b qs stack q s

------ parameters

abbrev Starting : Mode → Place → Pointers → Core → Suffixes → Place → List Frame → Bool
    → List Marked → List Marked → Type 0
Starting m p ps c ss b stack x ws us =
    MiddleAt m p ps c ss stack ws
    (at (within stack) (suc (stars ps (depth stack))) b left_paren ∷ us)

no_parameters_read : (m : Mode) (p : Place) (ps : Pointers) (c : Core) (ss : Suffixes) (b : Place)
    (stack : List Frame) (q : Place) (s : Symbol)
    → Leads (Starting m p ps c ss b stack) q s (no_parameters_at m p ps c ss b stack s)
no_parameters_read m p ps c ss b stack q (sign puncts.RightParenthesis) =
    once (λ ws us h. with_suffix q h)
no_parameters_read m p ps c ss b stack q _ = tt

pub parameters_start_read : (m : Mode) (p : Place) (ps : Pointers) (c : Core) (ss : Suffixes)
    (b : Place) (stack : List Frame) (q : Place) (s : Symbol)
    → Leads (Starting m p ps c ss b stack) q s (step_parameters m p ps c ss b stack q s)
parameters_start_read m p ps c ss b stack q s =
    specifier_read (Starting m p ps c ss b stack) of_parameter q no_specifiers
    (Parameters m p ps c ss b q no_parameters ∷ stack) q s (no_parameters_at m p ps c ss b stack s)
    (λ r d ws us h. first_parameter stack q s h) (no_parameters_read m p ps c ss b stack q s)

abbrev Nexting : List Frame → Bool → List Marked → List Marked → Type 0
Nexting stack x ws us = NextAt stack ws us

next_specs : (stack : List Frame) {ws us : List Marked} {r : Role} {d : ℕ} (q : Place) (s : Symbol)
    → NextAt stack ws (at r d q s ∷ us)
    → Specs of_parameter q no_specifiers stack ws (at r d q s ∷ us)
next_specs _ q s (next_at {st = st} h b y k) = record {
  from = _;
  site = in_parameters;
  stacked = more h.stacked (fits_most st) h.host (b_parameters h.direct (parameters_read y b k));
  specifiers = none_yet (at_first _ _);
}

ellipsis_read : (stack : List Frame) (q : Place) (s : Symbol)
    → Leads (Nexting stack) q s (ellipsis_at stack s)
ellipsis_read stack q (sign puncts.Ellipsis) = once (λ ws us h. (q, h))
ellipsis_read stack q _ = tt

pub next_read : (stack : List Frame) (q : Place) (s : Symbol)
    → Leads (Nexting stack) q s (first_word of_parameter stack q s (ellipsis_at stack s))
next_read stack q s =
    specifier_read (Nexting stack) of_parameter q no_specifiers stack q s (ellipsis_at stack s)
    (λ r d ws us h. next_specs stack q s h) (ellipsis_read stack q s)

abbrev Elliptic : List Frame → Bool → List Marked → List Marked → Type 0
Elliptic stack x ws us = (q : Place)
    × NextAt stack ws (at (within stack) (depth stack) q (sign puncts.Ellipsis) ∷ us)

variadic_read : {m : Mode} {p : Place} {ps : Pointers} {c : Core} {ss : Suffixes} {b f : Place}
    {xs : ParameterList} {stack : List Frame} {ws us : List Marked} (y q : Place)
    → NextAt (Parameters m p ps c ss b f xs ∷ stack) ws
    (at (within stack) (suc (stars ps (depth stack))) y (sign puncts.Ellipsis)
    ∷ at (within stack) (suc (stars ps (depth stack))) q right_paren ∷ us)
    → WholeAt m p ps c (then_suffix ss (function b (parameter_types f xs true))) stack ws us
variadic_read {ps = ps} {c = c} {ss = ss} {b = b} {f = f} {xs = xs} y q (next_at h g z k) = record {
  part = part_suffix ps c ss (function b (parameter_types f xs true));
  middle = record {
    from = h.from;
    host = h.host;
    stacked = h.stacked;
    direct = record {
      naming = h.direct.naming;
      suits = h.direct.suits;
      begins = h.direct.begins;
      middle = h.direct.middle;
      pointers = h.direct.pointers;
      direct = r_suffix h.direct.direct (r_function b q (r_variadic z y g k));
    };
  };
}

pub after_ellipsis_read : (stack : List Frame) (q : Place) (s : Symbol)
    → Leads (Elliptic stack) q s (step_ellipsis stack s)
after_ellipsis_read (Parameters m p ps c ss b f xs ∷ stack) q (sign puncts.RightParenthesis) =
    once (λ ws us h. variadic_read h.0 q h.1)
after_ellipsis_read _ q s = tt
