-- What the machine has read, the grammar derives: what it accepts is an expression with this tree
-- and these marks.
use Rattle.std.proofs.Common.{◌≡◌, ℕ, suc, ◌≤◌, Bool, true, false, List, [], ◌∷◌, refl, arith, Option, Some, None, subst}
use Rattle.std.proofs.lemmas.Bool.Decides.{nat_tests}
use Rattle.std.specs.Prelude.{nat_le}
use Rattle.hv_base.specs.declared.place.Place.{Place}
use Rattle.hv_base.specs.declared.keyword.Keyword.TheVariants as keywords
use Rattle.hv_base.specs.declared.punct.Punct.{Punct}
use Rattle.hv_base.specs.declared.punct.Punct.TheVariants as puncts
use Rattle.hv_ctree.specs.declared.tree.words.StructOrUnion.{StructOrUnion}
use Rattle.hv_ctree.specs.tree.Expressions.{Expr, Specifiers, no_specifiers, then_specifier, Specifier, of_type, compound, enumeration, defined, mentioned, MayTag, no_members, then_member, no_declarators, listed, listed_before, no_enumerators, then_enumerator, plain, no_pointers}
use Rattle.hv_grammar.specs.Symbols.{Symbol, keyword, name, sign, Role, inside, operator, Marked, at, left_brace, right_brace, comma_sign, compound_word, at_first}
use Rattle.hv_grammar.specs.Expressions.{Reads, braced, r_type, r_compound, r_enumeration, r_defined, r_mentioned, ReadsTag, r_no_tag, r_tag, r_listed, r_listed_before, r_plain, r_last_comma, has_type, ReadsSpecifier, r_no_pointers}
use Rattle.hv_grammar.specs.machine.Frames.{Owner, of_type_name, of_parameter, of_member, of_declaration, only_named, only_abstract, either, Frame, Parenthesis, AfterSizeof, Sizeof, SizeofType, CastType, Specified, Body, Listing, Owned, OwnedMembers, hole_of, depth, within, At, Want, Have, Selecting, Words, AfterCompound, AfterTag, AfterEnum, AfterEnumTag, MemberStart, EnumeratorStart, AfterEnumerator, Pointing, Opened, Direct, Bracket, ParametersStart, ParameterNext, AfterEllipsis, InitializerStart, BracesStart, AfterDot, AfterDesignator, AfterInitializer, AtSpot, State}
use Rattle.hv_grammar.specs.machine.Steps.{want, Taken, lately, operand_at, cast_at, first_word, step_want, words_ended, step_words, step_pointing, ended_word, step_compound, step_tag, body_ended, step_member, step_enum, step_enum_tag, listing_ended, step_enumerator, enumerator_named, step_enumerator_name, step_at, finished}
use Rattle.hv_grammar.specs.machine.Moves.{Takes, taken, taken_to_count, Moves, stays, takes}
use Rattle.hv_grammar.proofs.Reached.{is_sized, words_of, in_cast, in_sizeof, in_body, host_type, host_parameter, host_members, is_listing, none_yet, no_member_yet, members_read, no_enumerator_yet, enumerators_read, no_declarator_yet, b_parenthesis, b_sizeof, b_sizeof_type, b_cast_type, b_specified, b_body, b_listing, b_valued, b_owned, b_members, Stacked, empty, more, Wants, WantsAt, w_plainly, w_counts, w_quietly, WordsAt, Specs, Follows, MemberAt, EnumeratorAt, ReadAt, ReadState, Led, Leads, once, leads_by, branches, fits_most, one_more, specs_of, TypeAt}
use Rattle.hv_grammar.proofs.SoundExpressions.{Wanting, operand_read, having_read, selecting_read, specified_read, enumerated, listed_whole, finished_read}
use Rattle.hv_grammar.proofs.SoundSpecifiers.{specifier_read}
use Rattle.hv_grammar.proofs.SoundStatements.{initializer_read, braces_read, dot_read, designator_read, after_initializer_read, declaration_words_read, spot_read}
use Rattle.hv_grammar.proofs.SoundDeclarators.{Pointed, pointing_read, opened_read, direct_read, bracket_read, parameters_start_read, next_read, after_ellipsis_read}

------ before an operand

abbrev WantingAt : List Frame → Bool → List Marked → List Marked → Type 0
WantingAt stack x ws us = WantsAt stack x ws us

plain_wants : (stack : List Frame) {x : Bool} {ws us : List Marked} → is_sized stack ≡ false
    → WantsAt stack x ws us → Wants stack ws us
plain_wants stack e (w_plainly h) = h
plain_wants _ e (w_counts s) = cc
plain_wants _ e (w_quietly s) = cc

want_plainly : (stack : List Frame) (p : Place) (s : Symbol) → is_sized stack ≡ false
    → Leads (WantingAt stack) p s (operand_at stack p s)
want_plainly stack p s e =
    leads_by (WantingAt stack) (Wanting stack) p s (operand_at stack p s)
    (λ x r d ws us h. plain_wants stack e h) (operand_read stack p s)

cast_specs : (stack : List Frame) (q p : Place) (s : Symbol) {ws us : List Marked} {r : Role}
    {d : ℕ} → hole_of stack ≤ 13
    → Stacked (Parenthesis q ∷ stack) ws (at r d p s ∷ us)
    → Specs of_type_name p no_specifiers (CastType q ∷ stack) ws (at r d p s ∷ us)
cast_specs stack q p s le (more t _ _ (b_parenthesis _)) =
    record {
      from = _;
      site = in_cast;
      stacked = more t le tt (b_cast_type q);
      specifiers =
          none_yet (at_first _ _);
    }

cast_read : (stack : List Frame) (q p : Place) (s : Symbol)
    → Leads (WantingAt (Parenthesis q ∷ stack)) p s
    (cast_at stack q p s (operand_at (Parenthesis q ∷ stack) p s))
cast_read stack q p s =
    branches (WantingAt (Parenthesis q ∷ stack)) p s (nat_le (hole_of stack) 13)
    (first_word of_type_name (CastType q ∷ stack) p s (operand_at (Parenthesis q ∷ stack) p s))
    (operand_at (Parenthesis q ∷ stack) p s)
    (λ e. let le : hole_of stack ≤ 13 = grind (arith, nat_tests) in
    specifier_read (WantingAt (Parenthesis q ∷ stack)) of_type_name p no_specifiers
    (CastType q ∷ stack) p s (operand_at (Parenthesis q ∷ stack) p s)
    (λ r d ws us h. cast_specs stack q p s le (plain_wants (Parenthesis q ∷ stack) refl h).stacked)
    (want_plainly (Parenthesis q ∷ stack) p s refl))
    (λ e. want_plainly (Parenthesis q ∷ stack) p s refl)

no_sized : {q : Place} {stack : List Frame} {ws us : List Marked}
    → Stacked (AfterSizeof q ∷ stack) ws us → ⊥
no_sized (more s f i b) = elim b [ ]

-- `sizeof (` before a type's name: the `(` didn't count
quiet_specs : {stack : List Frame} {q y p : Place} (s : Symbol) {ws us : List Marked} {r : Role}
    {d : ℕ} → WantsAt (AfterSizeof q ∷ Sizeof y ∷ stack) false ws (at r d p s ∷ us)
    → Specs of_type_name p no_specifiers (SizeofType y ∷ stack) ws (at r d p s ∷ us)
quiet_specs s (w_plainly h) = absurd (no_sized h.stacked)
quiet_specs {stack} {q} {y} {p} s {ws} {us} {r} {d} (w_quietly t) = go t where
  go : Stacked (Sizeof y ∷ stack) ws
      (at inside (suc (suc (depth stack))) q (sign puncts.LeftParenthesis) ∷ at r d p s ∷ us)
      → Specs of_type_name p no_specifiers (SizeofType y ∷ stack) ws (at r d p s ∷ us)
  go (more u f _ (b_sizeof _)) =
      record {
        from = _;
        site = in_sizeof;
        stacked = more u f tt (b_sizeof_type y q);
        specifiers =
            none_yet (at_first _ _);
      }

-- and before an operand: it did
counted_wants : {stack : List Frame} {q y : Place} {ws us : List Marked}
    → WantsAt (AfterSizeof q ∷ Sizeof y ∷ stack) true ws us
    → Wants (Parenthesis q ∷ Sizeof y ∷ stack) ws us
counted_wants (w_plainly h) = absurd (no_sized h.stacked)
counted_wants {q = q} (w_counts t) =
    record { fits = omega arith; stacked = more t (omega arith) tt (b_parenthesis q) }

lately_leads : (B C : Bool → List Marked → List Marked → Type 0) (p : Place) (s : Symbol)
    (o : Option Taken)
    → ((x : Bool) (ws us : List Marked) → B true ws us → C x ws us) → Leads C p s o
    → Leads B p s (lately o)
lately_leads B C p s None f g = tt
lately_leads B C p s (Some k) f g = record {
  plainly = λ ws us h. g.plainly ws us (f k.late ws (at k.role k.depth p s ∷ us) h);
  counting = λ e ws us h. g.counting e ws us (f k.late ws (at operator k.depth p s ∷ us) h);
}

sized_read : (stack : List Frame) (q y p : Place) (s : Symbol)
    → Leads (WantingAt (AfterSizeof q ∷ Sizeof y ∷ stack)) p s
    (step_want (AfterSizeof q ∷ Sizeof y ∷ stack) p s)
sized_read stack q y p s =
    specifier_read (WantingAt (AfterSizeof q ∷ Sizeof y ∷ stack)) of_type_name p no_specifiers
    (SizeofType y ∷ stack) p s (lately (operand_at (Parenthesis q ∷ Sizeof y ∷ stack) p s))
    (λ r d ws us h. quiet_specs s h)
    (lately_leads (WantingAt (AfterSizeof q ∷ Sizeof y ∷ stack))
    (Wanting (Parenthesis q ∷ Sizeof y ∷ stack)) p s
    (operand_at (Parenthesis q ∷ Sizeof y ∷ stack) p s)
    (λ x ws us h. counted_wants h) (operand_read (Parenthesis q ∷ Sizeof y ∷ stack) p s))

wanting_read : (stack : List Frame) (p : Place) (s : Symbol)
    → Leads (WantingAt stack) p s (step_want stack p s)
wanting_read (Parenthesis q ∷ stack) p s = cast_read stack q p s
wanting_read (AfterSizeof q ∷ Sizeof y ∷ stack) p s = sized_read stack q y p s
wanting_read stack p s = want_plainly stack p s refl

------ after specifiers

abbrev Worded : Owner → Place → Specifiers → List Frame → Bool → List Marked → List Marked → Type 0
Worded o p xs stack x ws us = WordsAt o p xs stack ws us

words_ended_read : (o : Owner) (p : Place) (xs : Specifiers) (stack : List Frame) (q : Place)
    (s : Symbol) → Leads (Worded o p xs stack) q s (words_ended o p xs stack q s)
words_ended_read of_type_name p xs stack q s =
    leads_by (Worded of_type_name p xs stack)
    (Pointed only_abstract q no_pointers (Owned of_type_name p xs ∷ stack)) q s
    (step_pointing only_abstract q no_pointers (Owned of_type_name p xs ∷ stack) q s)
    (λ x r d ws us h. record {
      from = _;
      host = host_type;
      stacked =
          more h.stacked (fits_most stack) h.site (b_owned h.begins h.reads);
      pointers = r_no_pointers;
      first = λ z b. b;
    })
    (pointing_read only_abstract q no_pointers (Owned of_type_name p xs ∷ stack) q s)
words_ended_read of_parameter p xs stack q s =
    leads_by (Worded of_parameter p xs stack)
    (Pointed either q no_pointers (Owned of_parameter p xs ∷ stack)) q s
    (step_pointing either q no_pointers (Owned of_parameter p xs ∷ stack) q s)
    (λ x r d ws us h. record {
      from = _;
      host = host_parameter;
      stacked =
          more h.stacked (fits_most stack) h.site (b_owned h.begins h.reads);
      pointers = r_no_pointers;
      first = λ z b. b;
    })
    (pointing_read either q no_pointers (Owned of_parameter p xs ∷ stack) q s)
words_ended_read of_member p xs stack q s =
    leads_by (Worded of_member p xs stack)
    (Pointed only_named q no_pointers (OwnedMembers p xs no_declarators ∷ stack)) q s
    (step_pointing only_named q no_pointers (OwnedMembers p xs no_declarators ∷ stack) q s)
    (λ x r d ws us h. record {
      from = _;
      host = host_members;
      stacked =
          more h.stacked (fits_most stack) h.site (b_members h.begins h.reads no_declarator_yet);
      pointers = r_no_pointers;
      first = λ z b. b;
    })
    (pointing_read only_named q no_pointers (OwnedMembers p xs no_declarators ∷ stack) q s)
words_ended_read of_declaration p xs stack q s = declaration_words_read p xs stack q s

words_read : (o : Owner) (p : Place) (xs : Specifiers) (stack : List Frame) (q : Place) (s : Symbol)
    → Leads (Worded o p xs stack) q s (step_words o p xs stack q s)
words_read o p xs stack q s =
    specifier_read (Worded o p xs stack) o p xs stack q s (words_ended o p xs stack q s)
    (λ r d ws us h. specs_of h) (words_ended_read o p xs stack q s)

------ structures, unions and enumerations

type_more : {o : Owner} {p : Place} {xs : Specifiers} {x : Specifier} {stack : List Frame}
    {ws us : List Marked} → TypeAt x (Specified o p xs ∷ stack) ws us
    → WordsAt o p (then_specifier xs x) stack ws us
type_more {o} {p} {xs} {x} {stack} h = go h.stacked (h.reads (words_of o) (has_type xs)) where
  go : {ws from us : List Marked} → Stacked (Specified o p xs ∷ stack) ws from
      → ReadsSpecifier (within stack) (depth stack) (words_of o) (has_type xs) from us x
      → WordsAt o p (then_specifier xs x) stack ws us
  go (more s _ i (b_specified g)) r = one_more i s g r

-- after a specifier that the token may end
ended_word_read : (B : Bool → List Marked → List Marked → Type 0) (stack : List Frame)
    (x : Specifier) (q : Place) (s : Symbol)
    → ((y : Bool) (ws us : List Marked) → B y ws us → TypeAt x stack ws us)
    → Leads B q s (ended_word stack x q s)
ended_word_read B (Specified o p xs ∷ stack) x q s f =
    leads_by B (Worded o p (then_specifier xs x) stack) q s
    (step_words o p (then_specifier xs x) stack q s)
    (λ y r d ws us h. type_more (f y ws (at r d q s ∷ us) h))
    (words_read o p (then_specifier xs x) stack q s)
ended_word_read B _ x q s f = tt

abbrev Following : List Frame → (List Marked → List Marked) → Bool → List Marked → List Marked
    → Type 0
Following stack f x ws us = Follows stack ws (f us)

body_begun : {stack : List Frame} {p q : Place} {k : StructOrUnion} {t : MayTag}
    {ws ts us : List Marked} → Follows stack ws (at (within stack) (depth stack) p
    (compound_word k) ∷ ts)
    → ReadsTag (within stack) (depth stack) ts
    (at (within stack) (suc (depth stack)) q left_brace ∷ us) t
    → MemberAt (Body p k t no_members ∷ stack) ws us
body_begun {stack} {q = q} h r =
    record {
      site = in_body;
      stacked =
          more h.stacked (fits_most stack) h.specified (b_body q r no_member_yet);
    }

compound_read : (p : Place) (k : StructOrUnion) (stack : List Frame) (q : Place) (s : Symbol)
    → Leads (λ x ws us. Follows stack ws (at (within stack) (depth stack) p (compound_word k) ∷ us))
    q s (step_compound p k stack q s)
compound_read p k stack q (name n) = once (λ ws us h. h)
compound_read p k stack q (sign puncts.LeftBrace) = once (λ ws us h. body_begun h r_no_tag)
compound_read p k stack q _ = tt

abbrev Tagged : Place → StructOrUnion → Place → List ℕ → List Frame → Bool → List Marked
    → List Marked → Type 0
Tagged p k y n stack x ws us =
    Follows stack ws (at (within stack) (depth stack) p (compound_word k) ∷
    at (within stack) (depth stack) y (name n) ∷ us)

tag_ended : (p : Place) (k : StructOrUnion) (y : Place) (n : List ℕ) (stack : List Frame)
    (q : Place) (s : Symbol)
    → Leads (Tagged p k y n stack) q s
    (ended_word stack (of_type p (compound p (mentioned p k y n))) q s)
tag_ended p k y n stack q s =
    ended_word_read (Tagged p k y n stack) stack (of_type p (compound p (mentioned p k y n))) q s
    (λ x ws us h. record {
      from = _;
      stacked = h.stacked;
      reads =
          λ w b. r_type (r_compound (r_mentioned p y k n));
    })

tag_read : (p : Place) (k : StructOrUnion) (y : Place) (n : List ℕ) (stack : List Frame) (q : Place)
    (s : Symbol) → Leads (Tagged p k y n stack) q s (step_tag p k y n stack q s)
tag_read p k y n stack q (sign puncts.LeftBrace) = once (λ ws us h. body_begun h (r_tag y n))
tag_read p k y n stack q s = tag_ended p k y n stack q s

abbrev Membering : List Frame → Bool → List Marked → List Marked → Type 0
Membering stack x ws us = MemberAt stack ws us

body_ended_read : (stack : List Frame) (q : Place) (s : Symbol)
    → Leads (Membering stack) q s (body_ended stack s)
body_ended_read (Body p k t (then_member ms m) ∷ stack) q (sign puncts.RightBrace) =
    specified_read (Membering (Body p k t (then_member ms m) ∷ stack)) stack q (suc (depth stack))
    (of_type p (compound p (defined p k t (then_member ms m)))) right_brace
    (λ ws us h. go h.stacked) p where
      go : {ws us : List Marked} → Stacked (Body p k t (then_member ms m) ∷
          stack) ws (at (within stack) (suc (depth stack)) q right_brace ∷ us)
          → TypeAt (of_type p (compound p (defined p k t (then_member ms m)))) stack ws us
      go (more s _ _ (b_body z g (members_read l))) =
          record {
            from = _;
            stacked = s;
            reads =
                λ w b. r_type (r_compound (r_defined p z q k g l));
          }
body_ended_read _ q s = tt

member_read : (stack : List Frame) (q : Place) (s : Symbol)
    → Leads (Membering stack) q s (step_member stack q s)
member_read stack q s =
    specifier_read (Membering stack) of_member q no_specifiers stack q s (body_ended stack s)
    (λ r d ws us h. record {
      from = _;
      site = h.site;
      stacked = h.stacked;
      specifiers =
          none_yet (at_first _ _);
    }) (body_ended_read stack q s)

listing_begun : {stack : List Frame} {p q : Place} {t : MayTag} {ws ts us : List Marked}
    → Follows stack ws (at (within stack) (depth stack) p (keyword keywords.Enum) ∷ ts)
    → ReadsTag (within stack) (depth stack) ts
    (at (within stack) (braced (depth stack)) q left_brace ∷ us) t
    → EnumeratorAt (Listing p t no_enumerators ∷ stack) ws us
listing_begun {stack} {q = q} h r =
    record {
      listing = is_listing;
      stacked =
          more h.stacked (fits_most stack) h.specified (b_listing q r no_enumerator_yet);
    }

enum_read : (p : Place) (stack : List Frame) (q : Place) (s : Symbol)
    → Leads (λ x ws us. Follows stack ws
    (at (within stack) (depth stack) p (keyword keywords.Enum) ∷ us)) q s (step_enum p stack q s)
enum_read p stack q (name n) = once (λ ws us h. h)
enum_read p stack q (sign puncts.LeftBrace) = once (λ ws us h. listing_begun h r_no_tag)
enum_read p stack q _ = tt

abbrev EnumTagged : Place → Place → List ℕ → List Frame → Bool → List Marked → List Marked → Type 0
EnumTagged p y n stack x ws us =
    Follows stack ws (at (within stack) (depth stack) p (keyword keywords.Enum) ∷
    at (within stack) (depth stack) y (name n) ∷ us)

enum_tag_ended : (p y : Place) (n : List ℕ) (stack : List Frame) (q : Place) (s : Symbol)
    → Leads (EnumTagged p y n stack) q s
    (ended_word stack (of_type p (enumeration p (listed_before p y n))) q s)
enum_tag_ended p y n stack q s =
    ended_word_read (EnumTagged p y n stack) stack (of_type p (enumeration p (listed_before p y n)))
    q s
    (λ x ws us h. record {
      from = _;
      stacked = h.stacked;
      reads =
          λ w b. r_type (r_enumeration (r_listed_before p y n));
    })

enum_tag_read : (p y : Place) (n : List ℕ) (stack : List Frame) (q : Place) (s : Symbol)
    → Leads (EnumTagged p y n stack) q s (step_enum_tag p y n stack q s)
enum_tag_read p y n stack q (sign puncts.LeftBrace) = once (λ ws us h. listing_begun h (r_tag y n))
enum_tag_read p y n stack q s = enum_tag_ended p y n stack q s

abbrev Enumerating : List Frame → Bool → List Marked → List Marked → Type 0
Enumerating stack x ws us = EnumeratorAt stack ws us

listing_ended_read : (stack : List Frame) (q : Place)
    → Leads (Enumerating stack) q right_brace (listing_ended stack)
listing_ended_read (Listing p t (then_enumerator es e) ∷ stack) q =
    specified_read (Enumerating (Listing p t (then_enumerator es e) ∷ stack)) stack q
    (braced (depth stack)) (of_type p (enumeration p (listed p t (then_enumerator es e) true)))
    right_brace
    (λ ws us h. go h.stacked) p where
      go : {ws us : List Marked} → Stacked (Listing p t (then_enumerator es e) ∷
          stack) ws (at (within stack) (braced (depth stack)) q right_brace ∷ us)
          → TypeAt (of_type p (enumeration p (listed p t (then_enumerator es e) true))) stack ws us
      go (more s _ _ (b_listing z g (enumerators_read y l))) =
          record {
            from = _;
            stacked = s;
            reads =
                λ w b. r_type (r_enumeration (r_listed p z q g l (r_last_comma y)));
          }
listing_ended_read _ q = tt

enumerator_read : (stack : List Frame) (q : Place) (s : Symbol)
    → Leads (Enumerating stack) q s (step_enumerator stack q s)
enumerator_read stack q (name n) = once (λ ws us h. h)
enumerator_read stack q (sign puncts.RightBrace) = listing_ended_read stack q
enumerator_read stack q _ = tt

abbrev Naming : Place → List ℕ → List Frame → Bool → List Marked → List Marked → Type 0
Naming p n stack x ws us = EnumeratorAt stack ws (at (within stack) (depth stack) p (name n) ∷ us)

enumerator_sign_read : (stack : List Frame) (p : Place) (n : List ℕ) (q : Place) (s : Punct)
    → Leads (Naming p n stack) q (sign s) (enumerator_named stack p n s)
enumerator_sign_read (Listing y t es ∷ stack) p n q puncts.Equal =
    once (λ ws us h. w_plainly (record {
      fits = omega arith;
      stacked =
          more h.stacked (fits_most (Listing y t es ∷ stack)) is_listing (b_valued q);
    }))
enumerator_sign_read (Listing y t es ∷ stack) p n q puncts.Comma =
    once (λ ws us h. go h.stacked) where
      go : {ws us : List Marked} → Stacked (Listing y t es ∷
          stack) ws (at (within stack) (braced (depth stack)) p (name n) ∷
          at (within stack) (braced (depth stack)) q comma_sign ∷ us)
          → EnumeratorAt (Listing y t (then_enumerator es (plain p n)) ∷ stack) ws us
      go (more s f i (b_listing z g l)) =
          record {
            listing = is_listing;
            stacked =
                more s f i (b_listing z g (enumerators_read q (enumerated l (r_plain p n))));
          }
enumerator_sign_read (Listing y t es ∷ stack) p n q puncts.RightBrace =
    specified_read (Naming p n (Listing y t es ∷ stack)) stack q (braced (depth stack))
    (of_type y (enumeration y (listed y t (then_enumerator es (plain p n)) false))) right_brace
    (λ ws us h. listed_whole y (plain p n) q h.stacked (r_plain p n)) y
enumerator_sign_read _ p n q s = tt

enumerator_name_read : (p : Place) (n : List ℕ) (stack : List Frame) (q : Place) (s : Symbol)
    → Leads (Naming p n stack) q s (step_enumerator_name p n stack s)
enumerator_name_read p n stack q (sign s) = enumerator_sign_read stack p n q s
enumerator_name_read p n stack q _ = tt

------ all

step_at_read : (stack : List Frame) (m : At) (q : Place) (s : Symbol)
    → Leads (ReadAt stack m) q s (step_at stack m q s)
step_at_read stack Want q s = wanting_read stack q s
step_at_read stack (Have k a) q s = having_read stack k a q s
step_at_read stack (Selecting x a) q s = selecting_read stack x a q s
step_at_read stack (Words o p xs) q s = words_read o p xs stack q s
step_at_read stack (AfterCompound p k) q s = compound_read p k stack q s
step_at_read stack (AfterTag p k r n) q s = tag_read p k r n stack q s
step_at_read stack (AfterEnum p) q s = enum_read p stack q s
step_at_read stack (AfterEnumTag p r n) q s = enum_tag_read p r n stack q s
step_at_read stack MemberStart q s = member_read stack q s
step_at_read stack EnumeratorStart q s = enumerator_read stack q s
step_at_read stack (AfterEnumerator p n) q s = enumerator_name_read p n stack q s
step_at_read stack (Pointing m p ps) q s = pointing_read m p ps stack q s
step_at_read stack (Opened m p ps b) q s = opened_read m p ps b stack q s
step_at_read stack (Direct m p ps c ss) q s = direct_read m p ps c ss stack q s
step_at_read stack (Bracket m p ps c ss b qs) q s = bracket_read m p ps c ss b qs stack q s
step_at_read stack (ParametersStart m p ps c ss b) q s =
    parameters_start_read m p ps c ss b stack q s
step_at_read stack ParameterNext q s = next_read stack q s
step_at_read stack AfterEllipsis q s = after_ellipsis_read stack q s
step_at_read stack InitializerStart q s = initializer_read stack q s
step_at_read stack BracesStart q s = braces_read stack q s
step_at_read stack (AfterDot p) q s = dot_read p stack q s
step_at_read stack (AfterDesignator g) q s = designator_read g stack q s
step_at_read stack (AfterInitializer x) q s = after_initializer_read stack x q s
step_at_read stack (AtSpot x y) q s = spot_read x y q s

-- a token at which no statement is open
plain_token : (B : List Marked → Type 0) (t : Marked) (us : List Marked) → t.statements ≡ 0
    → B (t ∷ us) → B (at t.role t.depth t.token.place t.token.symbol ∷ us)
plain_token B t us e h =
    subst (λ (n : ℕ). B (record
    { token = t.token; depth = t.depth; role = t.role; statements = n } ∷ us)) e h

counting_token : (B : List Marked → Type 0) (t : Marked) (us : List Marked) → t.role ≡ operator
    → t.statements ≡ 0 → B (t ∷ us)
    → B (at operator t.depth t.token.place t.token.symbol ∷ us)
counting_token B t us r e h =
    subst (λ (o : Role). B (at o t.depth t.token.place t.token.symbol ∷ us)) r
    (plain_token B t us e h)

takes_read : (m : State) (x : Bool) (t : Marked) (n : State) (y : Bool) (ws us : List Marked)
    → ReadState m x ws (t ∷ us) → Takes m x t n y → ReadState n y ws us
takes_read m x t n _ ws us h (taken sized e f) =
    let g : Led (ReadAt m.stack m.at) t.token.place t.token.symbol
    (record { state = n; depth = t.depth; role = t.role; late = x; sized = sized }) =
    subst (λ (o : Option Taken). Leads (ReadAt m.stack m.at) t.token.place t.token.symbol o) f
    (step_at_read m.stack m.at t.token.place t.token.symbol) in
    g.plainly ws us (plain_token (λ (vs : List Marked). ReadState m x ws vs) t us e h)
takes_read m x t n _ ws us h (taken_to_count r e f) =
    let g : Led (ReadAt m.stack m.at) t.token.place t.token.symbol
    (record { state = n; depth = t.depth; role = inside; late = x; sized = true }) =
    subst (λ (o : Option Taken). Leads (ReadAt m.stack m.at) t.token.place t.token.symbol o) f
    (step_at_read m.stack m.at t.token.place t.token.symbol) in
    g.counting refl ws us (counting_token (λ (vs : List Marked). ReadState m x ws vs) t us r e h)

pub moves_read : (ws : List Marked) {m n : State} {x y : Bool} {ts us : List Marked}
    → ReadState m x ws ts → Moves m x ts n y us → ReadState n y ws us
moves_read ws r stays = r
moves_read ws r (takes {m = m} {n = o} {x = x} {y = y} {t = t} {ts = ts} e h) =
    moves_read ws (takes_read m x t o y ws ts r e) h

pub start_read : (ws : List Marked) → ReadState (want []) false ws ws
start_read ws = w_plainly (record { fits = omega arith; stacked = empty })

-- what the machine accepts, the grammar derives, with this tree and these marks
pub sound : {ts us : List Marked} {n : State} {y : Bool} {a : Expr}
    → Moves (want []) false ts n y us → finished n ≡ Some a → Reads 0 0 ts us a
sound {ts} {us} {n} {y} {a} h e = finished_read n.stack n.at a y (moves_read ts (start_read ts) h) e
