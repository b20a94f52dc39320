-- What the machine has read: what a frame keeps was read from these tokens to those, and a state is
-- reached from the first tokens with the last ones left.
use Rattle.std.proofs.Common.{◌≡◌, ℕ, zero, suc, ◌+◌, ◌-◌, ◌≤◌, Bool, true, false, cond, List, [], ◌∷◌, refl, arith, Option, Some, None, subst}
use Rattle.hv_base.specs.declared.place.Place.{Place}
use Rattle.hv_base.specs.declared.keyword.Keyword.TheVariants as keywords
use Rattle.hv_base.specs.declared.punct.Punct.TheVariants as puncts
use Rattle.hv_ctree.specs.declared.tree.words.AssignmentOperator.{AssignmentOperator}
use Rattle.hv_base.specs.declared.operator.BinaryOperator.{BinaryOperator}
use Rattle.hv_ctree.specs.declared.tree.words.Selector.{Selector}
use Rattle.hv_ctree.specs.declared.tree.words.Step.{Step as StepSign}
use Rattle.hv_ctree.specs.declared.tree.words.StructOrUnion.{StructOrUnion}
use Rattle.hv_ctree.specs.declared.tree.words.UnaryOperator.{UnaryOperator}
use Rattle.hv_ctree.specs.tree.Expressions.{Expr, Arguments, TypeName, Specifiers, no_specifiers, then_specifier, Specifier, MayTag, Members, no_members, Declarator, MayDeclarator, no_declarator, some_declarator, Declarators, no_declarators, Enumerators, no_enumerators, Core, nothing, named, group, Suffixes, no_suffixes, then_suffix, Suffix, Parameters as ParameterList, no_parameters, Pointers, no_pointers, then_pointer, Qualifiers}
use Rattle.hv_ctree.specs.tree.Statements.{Designation, of_index, of_member, Initializer, Initializers, no_initializers, InitDeclarators, no_init_declarators, Declaration, Skeleton, hollow_if, hollow_if_else}
use Rattle.hv_grammar.specs.Elements.{Standing, External, Item, Nested, loose, ReadsDesignation, ReadsInitializer, ReadsInitializers, ReadsInitDeclarators, ReadsDeclaration, ReadsOption, ReadsStatement, ReadsElement, r_item_statement, r_nested}
use Rattle.hv_grammar.specs.machine.Parts.{Setting, alone, in_for, FirstClause, by_expression, by_declaration, Optional, for_first, for_second, for_third, of_return, Part, of_case, of_expression, of_if, of_switch, of_while, of_do, optional, Fixed, the_hole, the_else, the_opening, Spot, Start, Await, Opening, AfterIf, MayElse, ForOpening, ForStart, Before, fixed_symbol, wanted}
use Rattle.hv_grammar.specs.Symbols.{Symbol, keyword, name, sign, Role, operator, Marked, at, quiet, counted, BeginsAt, left_paren, right_paren, left_bracket, right_bracket, left_brace, comma_sign, colon, semicolon, equal_sign, binary_sign, level, unary_sign, assignment_sign, selector_sign, step_sign, compound_word}
use Rattle.hv_grammar.specs.Expressions.{Words as WordKind, all_words, type_words, Naming, with_name, has_type, stars, braced, has_part, Reads, r_higher, ReadsArguments, ReadsTypeName, ReadsSpecifiers, r_specifier, r_specifiers, ReadsSpecifier, ReadsTag, ReadsMembers, ReadsDeclarator, ReadsDeclarators, ReadsEnumerators, ReadsPointers, ReadsQualifiers, ReadsDirect, ReadsParameters}
use Rattle.hv_grammar.specs.machine.Frames.{Owner, of_type_name, of_parameter, of_member, of_declaration, Mode, only_named, only_abstract, either, Frame, Parenthesis, AfterSizeof, Subscript, Callee, Calling, Prefix, Unary, Sizeof, SizeofType, CastType, Cast, Binary, Then, Else, Assign, Comma, Specified, Body, Listing, Valued, Owned, OwnedMembers, Group, Length, Parameters, Braces, Index, Designated, Declares, Declaring, Initialized, Statement, hole, hole_of, made, depth, within, At, Want, Have, Selecting, Words, AfterCompound, AfterTag, AfterEnum, AfterEnumTag, MemberStart, EnumeratorStart, AfterEnumerator, Pointing, Opened, Direct, Bracket, ParametersStart, ParameterNext, AfterEllipsis, InitializerStart, BracesStart, AfterDot, AfterDesignator, AfterInitializer, AtSpot, State}
use Rattle.hv_grammar.specs.machine.Steps.{Taken, begins, may_lack_name}
use Rattle.hv_grammar.proofs.Arriving.{level-most}
use Rattle.hv_grammar.proofs.ArrivingDeclarators.{fits_mode}
use Rattle.hv_grammar.proofs.ArrivingInitializers.{TakesInitializer}

------ what may stand round a frame

-- which words specifiers may be where they stand
abbrev pub words_of : Owner → WordKind
words_of of_type_name = type_words
words_of of_parameter = all_words
words_of of_member = type_words
words_of of_declaration = all_words

-- whether a `(` directly after `sizeof` is what was read last
abbrev pub is_sized : List Frame → Bool
is_sized (AfterSizeof q ∷ Sizeof p ∷ stack) = true
is_sized _ = false

-- the specifiers of the owner stand directly in these frames
pub data Site : Owner → List Frame → Type 0 where
  in_cast : {p : Place} {st : List Frame} → Site of_type_name (CastType p ∷ st)
  in_sizeof : {p : Place} {st : List Frame} → Site of_type_name (SizeofType p ∷ st)
  in_parameters : {m : Mode} {p b f : Place} {ps : Pointers} {c : Core} {ss : Suffixes}
      {xs : ParameterList} {st : List Frame}
      → Site of_parameter (Parameters m p ps c ss b f xs ∷ st)
  in_body : {p : Place} {k : StructOrUnion} {t : MayTag} {ms : Members} {st : List Frame}
      → Site of_member (Body p k t ms ∷ st)
  in_element : {s : Standing} {c : Setting} → Site of_declaration (Declares s c ∷ [])

-- a declarator that may be of these kinds stands directly in these frames
pub data Hosts : Mode → List Frame → Type 0 where
  host_type : {p : Place} {xs : Specifiers} {st : List Frame}
      → Hosts only_abstract (Owned of_type_name p xs ∷ st)
  host_parameter : {p : Place} {xs : Specifiers} {st : List Frame}
      → Hosts either (Owned of_parameter p xs ∷ st)
  host_members : {p : Place} {xs : Specifiers} {ds : Declarators} {st : List Frame}
      → Hosts only_named (OwnedMembers p xs ds ∷ st)
  host_group : {m : Mode} {p q : Place} {ps : Pointers} {st : List Frame}
      → Hosts m (Group m p ps q ∷ st)
  host_declaration : {p : Place} {xs : Specifiers} {ds : InitDeclarators} {st : List Frame}
      → Hosts only_named (Declaring p xs ds ∷ st)

pub data IsSpecified : List Frame → Type 0 where
  is_specified : {o : Owner} {p : Place} {xs : Specifiers} {st : List Frame}
      → IsSpecified (Specified o p xs ∷ st)

pub data IsListing : List Frame → Type 0 where
  is_listing : {p : Place} {t : MayTag} {es : Enumerators} {st : List Frame}
      → IsListing (Listing p t es ∷ st)

pub data IsBraces : List Frame → Type 0 where
  is_braces : {q : Place} {xs : Initializers} {st : List Frame} → IsBraces (Braces q xs ∷ st)

pub data IsDeclaring : List Frame → Type 0 where
  is_declaring : {p : Place} {xs : Specifiers} {ds : InitDeclarators} {s : Standing} {c : Setting}
      → IsDeclaring (Declaring p xs ds ∷ Declares s c ∷ [])

pub data IsBottom : List Frame → Type 0 where
  is_bottom : IsBottom []

-- the frame may stand directly in these; a `(` directly after `sizeof` is no frame yet
abbrev pub Inside : Frame → List Frame → Type 0
Inside (AfterSizeof p) st = ⊥
Inside (Specified o p xs) st = Site o st
Inside (Body p k t ms) st = IsSpecified st
Inside (Listing p t es) st = IsSpecified st
Inside (Valued p n) st = IsListing st
Inside (Owned o p xs) st = Site o st
Inside (OwnedMembers p xs ds) st = Site of_member st
Inside (Group m p ps q) st = Hosts m st
Inside (Length m p ps c ss b qs) st = Hosts m st
Inside (Parameters m p ps c ss b f xs) st = Hosts m st
Inside (Braces p xs) st = TakesInitializer st
Inside (Index p) st = IsBraces st
Inside (Designated g) st = IsBraces st
Inside (Declares s c) st = IsBottom st
Inside (Declaring p xs ds) st = Site of_declaration st
Inside (Initialized x) st = IsDeclaring st
Inside (Statement s c) st = IsBottom st
Inside _ st = Unit {0}

------ what a frame keeps was read

-- specifiers so far, perhaps none; they begin at the place
pub data SpecifiersFrom : Owner → Place → Specifiers → Role → ℕ → List Marked → List Marked
    → Type 0 where
  none_yet : {o : Owner} {p : Place} {r : Role} {d : ℕ} {us : List Marked} → BeginsAt p us
      → SpecifiersFrom o p no_specifiers r d us us
  some_read : {o : Owner} {p : Place} {xs : Specifiers} {r : Role} {d : ℕ} {ts us : List Marked}
      → BeginsAt p ts → ReadsSpecifiers r d (words_of o) ts us xs
      → SpecifiersFrom o p xs r d ts us

pub data MembersFrom : Members → Role → ℕ → List Marked → List Marked → Type 0 where
  no_member_yet : {r : Role} {d : ℕ} {us : List Marked} → MembersFrom no_members r d us us
  members_read : {ms : Members} {r : Role} {d : ℕ} {ts us : List Marked} → ReadsMembers r d ts us ms
      → MembersFrom ms r d ts us

-- enumerators and the comma after them, or none
pub data EnumeratorsFrom : Enumerators → Role → ℕ → List Marked → List Marked → Type 0 where
  no_enumerator_yet : {r : Role} {d : ℕ} {us : List Marked}
      → EnumeratorsFrom no_enumerators r d us us
  enumerators_read : {es : Enumerators} {r : Role} {d : ℕ} {ts us : List Marked} (q : Place)
      → ReadsEnumerators r d ts (at r d q comma_sign ∷ us) es
      → EnumeratorsFrom es r d ts us

pub data DeclaratorsFrom : Declarators → Role → ℕ → List Marked → List Marked → Type 0 where
  no_declarator_yet : {r : Role} {d : ℕ} {us : List Marked}
      → DeclaratorsFrom no_declarators r d us us
  declarators_read : {ds : Declarators} {r : Role} {d : ℕ} {ts us : List Marked} (q : Place)
      → ReadsDeclarators r d ts (at r d q comma_sign ∷ us) ds
      → DeclaratorsFrom ds r d ts us

pub data ParametersFrom : Place → ParameterList → Role → ℕ → List Marked → List Marked
    → Type 0 where
  no_parameter_yet : {p : Place} {r : Role} {d : ℕ} {us : List Marked} → BeginsAt p us
      → ParametersFrom p no_parameters r d us us
  parameters_read : {p : Place} {xs : ParameterList} {r : Role} {d : ℕ} {ts us : List Marked}
      (q : Place) → BeginsAt p ts
      → ReadsParameters r d ts (at r d q comma_sign ∷ us) xs → ParametersFrom p xs r d ts us

-- a declarator so far, of a kind that may stand there
pub record DirectFrom (m : Mode) (p : Place) (ps : Pointers) (c : Core) (ss : Suffixes) (r : Role)
    (d : ℕ) (ts us : List Marked) : Type 0 where
  pub naming : Naming
  pub suits : fits_mode naming m ≡ true
  pub begins : BeginsAt p ts
  pub middle : List Marked
  pub pointers : ReadsPointers r d ts middle ps
  pub direct : ReadsDirect r (stars ps d) naming middle us c ss

-- initialisers and the comma after them, or none
pub data InitializersFrom : Initializers → ℕ → List Marked → List Marked → Type 0 where
  no_initializer_yet : {d : ℕ} {us : List Marked} → InitializersFrom no_initializers d us us
  initializers_read : {xs : Initializers} {d : ℕ} {ts us : List Marked} (q : Place)
      → ReadsInitializers d ts (loose d q comma_sign ∷ us) xs → InitializersFrom xs d ts us

-- declarators of a declaration and the comma after them, or none
pub data InitDeclaratorsFrom : InitDeclarators → List Marked → List Marked → Type 0 where
  no_init_yet : {us : List Marked} → InitDeclaratorsFrom no_init_declarators us us
  inits_read : {ds : InitDeclarators} {ts us : List Marked} (q : Place)
      → ReadsInitDeclarators ts (loose 0 q comma_sign ∷ us) ds → InitDeclaratorsFrom ds ts us

-- a statement may stand there
pub data StandsStatement : Standing → Type 0 where
  stands_item : StandsStatement Item
  stands_nested : StandsStatement Nested

-- and a declaration
pub data StandsDeclaration : Standing → Type 0 where
  stands_external : StandsDeclaration External
  stands_in_block : StandsDeclaration Item

pub as_element : {s : Standing} {ts us : List Marked} {k : Skeleton} → StandsStatement s
    → ReadsStatement ts us k → ReadsElement s ts us k
as_element stands_item h = r_item_statement h
as_element stands_nested h = r_nested h

-- the first clause of a `for`, with the `;` of an expression
pub data FirstFrom : FirstClause → List Marked → List Marked → Type 0 where
  expression_first : {ts us : List Marked} {a : Option Expr} (q : Place)
      → ReadsOption ts (loose 0 q semicolon ∷ us) a → FirstFrom (by_expression a) ts us
  declaration_first : {ts us : List Marked} {g : Declaration} → ReadsDeclaration ts us g
      → FirstFrom (by_declaration g) ts us

-- what was read of a statement up to an expression that may be missing
pub data OptionalFrom : Optional → List Marked → List Marked → Type 0 where
  from_for : {ts : List Marked} (p q : Place)
      → OptionalFrom (for_first p)
      (loose 0 p (keyword keywords.For) ∷ loose 0 q left_paren ∷ ts) ts
  from_first : {p : Place} {g : FirstClause} {ts us : List Marked} (q : Place)
      → FirstFrom g ts us
      → OptionalFrom (for_second p g)
      (loose 0 p (keyword keywords.For) ∷ loose 0 q left_paren ∷ ts) us
  from_second : {p : Place} {g : FirstClause} {b : Option Expr} {ts us vs : List Marked}
      (q y : Place) → FirstFrom g ts us → ReadsOption us (loose 0 y semicolon ∷ vs) b
      → OptionalFrom (for_third p g b)
      (loose 0 p (keyword keywords.For) ∷ loose 0 q left_paren ∷ ts) vs
  from_return : {ts : List Marked} (p : Place)
      → OptionalFrom (of_return p) (loose 0 p (keyword keywords.Return) ∷ ts) ts

-- and up to any expression
pub data PartFrom : Part → List Marked → List Marked → Type 0 where
  from_case : {ts : List Marked} (p : Place)
      → PartFrom (of_case p) (loose 0 p (keyword keywords.Case) ∷ ts) ts
  from_nothing : {ts : List Marked} → PartFrom of_expression ts ts
  from_if : {ts : List Marked} (p q : Place)
      → PartFrom (of_if p) (loose 0 p (keyword keywords.If) ∷ loose 0 q left_paren ∷ ts) ts
  from_switch : {ts : List Marked} (p q : Place)
      → PartFrom (of_switch p)
      (loose 0 p (keyword keywords.Switch) ∷ loose 0 q left_paren ∷ ts) ts
  from_while : {ts : List Marked} (p q : Place)
      → PartFrom (of_while p) (loose 0 p (keyword keywords.While) ∷ loose 0 q left_paren ∷ ts) ts
  from_do : {ts : List Marked} (p h w q : Place)
      → PartFrom (of_do p) (loose 0 p (keyword keywords.Do) ∷ loose 0 h (fixed_symbol the_hole)
      ∷ loose 0 w (keyword keywords.While) ∷ loose 0 q left_paren ∷ ts) ts
  from_optional : {c : Optional} {ts us : List Marked} → OptionalFrom c ts us
      → PartFrom (optional c) ts us

-- what was read of an element up to a declaration
pub data DeclaresFrom : Standing → Setting → List Marked → List Marked → Type 0 where
  from_start : {s : Standing} {ts : List Marked} → StandsDeclaration s → DeclaresFrom s alone ts ts
  from_for_start : {s : Standing} {p : Place} {ts us : List Marked} → StandsStatement s
      → OptionalFrom (for_first p) ts us → DeclaresFrom s (in_for p) ts us

pub data Began : Frame → Role → ℕ → List Marked → List Marked → Type 0 where
  b_parenthesis : {r : Role} {d : ℕ} {ts : List Marked} (p : Place)
      → Began (Parenthesis p) r d (counted (suc d) p left_paren ∷ ts) ts
  b_subscript : {r : Role} {d : ℕ} {ts us : List Marked} {a : Expr} (p : Place)
      → Reads d 15 ts (counted (suc d) p left_bracket ∷ us) a → Began (Subscript a) r d ts us
  b_callee : {r : Role} {d : ℕ} {ts us : List Marked} {a : Expr} (p : Place)
      → Reads d 15 ts (counted (suc d) p left_paren ∷ us) a → Began (Callee a) r d ts us
  b_calling : {r : Role} {d : ℕ} {ts us vs : List Marked} {a : Expr} {xs : Arguments} (p q : Place)
      → Reads d 15 ts (counted (suc d) p left_paren ∷ us) a
      → ReadsArguments (suc d) us (quiet (suc d) q comma_sign ∷ vs) xs
      → Began (Calling a xs) r d ts vs
  b_prefix : {r : Role} {d : ℕ} {ts : List Marked} (p : Place) (s : StepSign)
      → Began (Prefix p s) r d (counted (suc d) p (step_sign s) ∷ ts) ts
  b_unary : {r : Role} {d : ℕ} {ts : List Marked} (p : Place) (op : UnaryOperator)
      → Began (Unary p op) r d (counted (suc d) p (unary_sign op) ∷ ts) ts
  b_sizeof : {r : Role} {d : ℕ} {ts : List Marked} (p : Place)
      → Began (Sizeof p) r d (counted (suc d) p (keyword keywords.Sizeof) ∷ ts) ts
  b_sizeof_type : {r : Role} {d : ℕ} {ts : List Marked} (p q : Place)
      → Began (SizeofType p) r d (counted (suc d) p (keyword keywords.Sizeof) ∷
      quiet (suc (suc d)) q left_paren ∷ ts) ts
  b_cast_type : {r : Role} {d : ℕ} {ts : List Marked} (p : Place)
      → Began (CastType p) r d (counted (suc d) p left_paren ∷ ts) ts
  b_cast : {r : Role} {d : ℕ} {ts us : List Marked} {t : TypeName} (p q : Place)
      → ReadsTypeName (suc d) ts (quiet (suc d) q right_paren ∷ us) t
      → Began (Cast p t) r d (counted (suc d) p left_paren ∷ ts) us
  b_binary : {r : Role} {d : ℕ} {ts us : List Marked} {a : Expr} (p : Place) (op : BinaryOperator)
      → Reads d (level op) ts (counted d p (binary_sign op) ∷ us) a
      → Began (Binary op a) r d ts us
  b_then : {r : Role} {d : ℕ} {ts us : List Marked} {a : Expr} (p : Place)
      → Reads d 3 ts (counted (suc d) p (sign puncts.Question) ∷ us) a → Began (Then a) r d ts us
  b_else : {r : Role} {d : ℕ} {ts us vs : List Marked} {a b : Expr} (p q : Place)
      → Reads d 3 ts (counted (suc d) p (sign puncts.Question) ∷ us) a
      → Reads (suc d) 0 us (quiet (suc d) q colon ∷ vs) b → Began (Else a b) r d ts vs
  b_assign : {r : Role} {d : ℕ} {ts us : List Marked} {a : Expr} (p : Place)
      (op : AssignmentOperator) → Reads d 14 ts (counted d p (assignment_sign op) ∷ us) a
      → Began (Assign op a) r d ts us
  b_comma : {r : Role} {d : ℕ} {ts us : List Marked} {a : Expr} (p : Place)
      → Reads d 0 ts (counted d p comma_sign ∷ us) a → Began (Comma a) r d ts us
  b_specified : {o : Owner} {p : Place} {xs : Specifiers} {r : Role} {d : ℕ} {ts us : List Marked}
      → SpecifiersFrom o p xs r d ts us → Began (Specified o p xs) r d ts us
  b_body : {r : Role} {d : ℕ} {ts us vs : List Marked} {p : Place} {k : StructOrUnion} {t : MayTag}
      {ms : Members} (q : Place)
      → ReadsTag r d ts (at r (suc d) q left_brace ∷ us) t → MembersFrom ms r (suc d) us vs
      → Began (Body p k t ms) r d (at r d p (compound_word k) ∷ ts) vs
  b_listing : {r : Role} {d : ℕ} {ts us vs : List Marked} {p : Place} {t : MayTag}
      {es : Enumerators} (q : Place)
      → ReadsTag r d ts (at r (braced d) q left_brace ∷ us) t
      → EnumeratorsFrom es r (braced d) us vs
      → Began (Listing p t es) r d (at r d p (keyword keywords.Enum) ∷ ts) vs
  b_valued : {r : Role} {d : ℕ} {ts : List Marked} {p : Place} {n : List ℕ} (q : Place)
      → Began (Valued p n) r d (at r d p (name n) ∷ at r d q equal_sign ∷ ts) ts
  b_owned : {o : Owner} {p : Place} {xs : Specifiers} {r : Role} {d : ℕ} {ts us : List Marked}
      → BeginsAt p ts → ReadsSpecifiers r d (words_of o) ts us xs
      → Began (Owned o p xs) r d ts us
  b_members : {p : Place} {xs : Specifiers} {ds : Declarators} {r : Role} {d : ℕ}
      {ts us vs : List Marked} → BeginsAt p ts → ReadsSpecifiers r d type_words ts us xs
      → DeclaratorsFrom ds r d us vs → Began (OwnedMembers p xs ds) r d ts vs
  b_group : {m : Mode} {p q : Place} {ps : Pointers} {r : Role} {d : ℕ} {ts us : List Marked}
      → BeginsAt p ts
      → ReadsPointers r d ts (at r (suc (stars ps d)) q left_paren ∷ us) ps
      → Began (Group m p ps q) r d ts us
  b_length : {m : Mode} {p b : Place} {ps : Pointers} {c : Core} {ss : Suffixes} {qs : Qualifiers}
      {r : Role} {d : ℕ} {ts us vs : List Marked}
      → DirectFrom m p ps c ss r d ts (at r (suc (stars ps d)) b left_bracket ∷ us)
      → ReadsQualifiers r (suc (stars ps d)) us vs qs
      → Began (Length m p ps c ss b qs) r d ts vs
  b_parameters : {m : Mode} {p b f : Place} {ps : Pointers} {c : Core} {ss : Suffixes}
      {xs : ParameterList} {r : Role} {d : ℕ} {ts us vs : List Marked}
      → DirectFrom m p ps c ss r d ts (at r (suc (stars ps d)) b left_paren ∷ us)
      → ParametersFrom f xs r (suc (stars ps d)) us vs
      → Began (Parameters m p ps c ss b f xs) r d ts vs
  b_braces : {p : Place} {xs : Initializers} {r : Role} {d : ℕ} {ts us : List Marked}
      → InitializersFrom xs (suc d) ts us
      → Began (Braces p xs) r d (loose (suc d) p left_brace ∷ ts) us
  b_index : {r : Role} {d : ℕ} {ts : List Marked} (p : Place)
      → Began (Index p) r d (loose (suc d) p left_bracket ∷ ts) ts
  b_designated : {g : Designation} {r : Role} {d : ℕ} {ts us : List Marked}
      → ReadsDesignation d ts us g → Began (Designated g) r d ts us
  b_declares : {s : Standing} {c : Setting} {r : Role} {d : ℕ} {ts us : List Marked}
      → DeclaresFrom s c ts us → Began (Declares s c) r d ts us
  b_declaring : {p : Place} {xs : Specifiers} {ds : InitDeclarators} {r : Role} {d : ℕ}
      {ts us vs : List Marked} → BeginsAt p ts → ReadsSpecifiers r d all_words ts us xs
      → InitDeclaratorsFrom ds us vs → Began (Declaring p xs ds) r d ts vs
  b_initialized : {x : Declarator} {r : Role} {d : ℕ} {ts us : List Marked} (q : Place)
      → ReadsDeclarator r d with_name ts (at r d q equal_sign ∷ us) x
      → Began (Initialized x) r d ts us
  b_statement : {s : Standing} {c : Part} {r : Role} {d : ℕ} {ts us : List Marked}
      → StandsStatement s → PartFrom c ts us → Began (Statement s c) r d ts us

-- the frames were read, and each fits the one around it
pub data Stacked : List Frame → List Marked → List Marked → Type 0 where
  empty : {ts : List Marked} → Stacked [] ts ts
  more : {f : Frame} {stack : List Frame} {ws ts us : List Marked} → Stacked stack ws ts
      → hole_of stack ≤ made f → Inside f stack
      → Began f (within stack) (depth stack) ts us → Stacked (f ∷ stack) ws us

------ what a state was reached from

-- after the frames, an expression of the level was read
pub record Holds (k : ℕ) (stack : List Frame) (a : Expr) (ws us : List Marked) : Type 0 where
  pub from : List Marked
  pub most : k ≤ 15
  pub fits : hole_of stack ≤ k
  pub stacked : Stacked stack ws from
  pub reads : Reads (depth stack) k from us a

pub record Wants (stack : List Frame) (ws us : List Marked) : Type 0 where
  pub fits : hole_of stack ≤ 14
  pub stacked : Stacked stack ws us

-- before an operand; after `sizeof (` the truth value says whether the `(` counted
pub data WantsAt : List Frame → Bool → List Marked → List Marked → Type 0 where
  w_plainly : {stack : List Frame} {x : Bool} {ws us : List Marked} → Wants stack ws us
      → WantsAt stack x ws us
  w_counts : {p q : Place} {stack : List Frame} {ws us : List Marked}
      → Stacked (Sizeof p ∷ stack) ws (counted (suc (suc (depth stack))) q left_paren ∷ us)
      → WantsAt (AfterSizeof q ∷ Sizeof p ∷ stack) true ws us
  w_quietly : {p q : Place} {stack : List Frame} {ws us : List Marked}
      → Stacked (Sizeof p ∷ stack) ws (quiet (suc (suc (depth stack))) q left_paren ∷ us)
      → WantsAt (AfterSizeof q ∷ Sizeof p ∷ stack) false ws us

pub record Selects (stack : List Frame) (s : Selector) (a : Expr) (ws us : List Marked) : Type 0
  where
    pub from : List Marked
    pub fits : hole_of stack ≤ 15
    pub place : Place
    pub stacked : Stacked stack ws from
    pub reads : Reads (depth stack) 15 from (counted (depth stack) place (selector_sign s) ∷ us) a

-- specifiers, at least one
pub record WordsAt (o : Owner) (p : Place) (xs : Specifiers) (stack : List Frame)
    (ws us : List Marked) : Type 0 where
  pub from : List Marked
  pub site : Site o stack
  pub stacked : Stacked stack ws from
  pub begins : BeginsAt p from
  pub reads : ReadsSpecifiers (within stack) (depth stack) (words_of o) from us xs

-- specifiers, perhaps none
pub record Specs (o : Owner) (p : Place) (xs : Specifiers) (stack : List Frame)
    (ws us : List Marked) : Type 0 where
  pub from : List Marked
  pub site : Site o stack
  pub stacked : Stacked stack ws from
  pub specifiers : SpecifiersFrom o p xs (within stack) (depth stack) from us

-- within a type specifier
pub record Follows (stack : List Frame) (ws us : List Marked) : Type 0 where
  pub specified : IsSpecified stack
  pub stacked : Stacked stack ws us

pub record MemberAt (stack : List Frame) (ws us : List Marked) : Type 0 where
  pub site : Site of_member stack
  pub stacked : Stacked stack ws us

pub record EnumeratorAt (stack : List Frame) (ws us : List Marked) : Type 0 where
  pub listing : IsListing stack
  pub stacked : Stacked stack ws us

-- before the middle of a declarator
pub record PointingAt (m : Mode) (p : Place) (ps : Pointers) (stack : List Frame)
    (ws us : List Marked) : Type 0 where
  pub from : List Marked
  pub host : Hosts m stack
  pub stacked : Stacked stack ws from
  pub pointers : ReadsPointers (within stack) (depth stack) from us ps
  pub first : (q : Place) → BeginsAt q us → BeginsAt (begins p ps q) from

pub record OpenedAt (m : Mode) (p : Place) (ps : Pointers) (b : Place) (stack : List Frame)
    (ws us : List Marked) : Type 0 where
  pub from : List Marked
  pub host : Hosts m stack
  pub lacks : may_lack_name m ≡ true
  pub stacked : Stacked stack ws from
  pub begins : BeginsAt p from
  pub pointers : ReadsPointers (within stack) (depth stack) from
      (at (within stack) (suc (stars ps (depth stack))) b left_paren ∷ us) ps

pub record MiddleAt (m : Mode) (p : Place) (ps : Pointers) (c : Core) (ss : Suffixes)
    (stack : List Frame) (ws us : List Marked) : Type 0 where
  pub from : List Marked
  pub host : Hosts m stack
  pub stacked : Stacked stack ws from
  pub direct : DirectFrom m p ps c ss (within stack) (depth stack) from us

pub record WholeAt (m : Mode) (p : Place) (ps : Pointers) (c : Core) (ss : Suffixes)
    (stack : List Frame) (ws us : List Marked) : Type 0 where
  pub part : has_part ps c ss ≡ true
  pub middle : MiddleAt m p ps c ss stack ws us

pub record BracketAt (m : Mode) (p : Place) (ps : Pointers) (c : Core) (ss : Suffixes) (b : Place)
    (qs : Qualifiers) (stack : List Frame) (ws us : List Marked) : Type 0 where
  pub after : List Marked
  pub middle : MiddleAt m p ps c ss stack ws
      (at (within stack) (suc (stars ps (depth stack))) b left_bracket ∷ after)
  pub qualifiers : ReadsQualifiers (within stack) (suc (stars ps (depth stack))) after us qs

-- among parameters, after these tokens
pub data NextAt : List Frame → List Marked → List Marked → Type 0 where
  next_at : {m : Mode} {p b f : Place} {ps : Pointers} {c : Core} {ss : Suffixes}
      {xs : ParameterList} {st : List Frame} {ws us after : List Marked}
      → MiddleAt m p ps c ss st ws (at (within st) (suc (stars ps (depth st))) b left_paren ∷ after)
      → BeginsAt f after → (q : Place)
      → ReadsParameters (within st) (suc (stars ps (depth st))) after
      (at (within st) (suc (stars ps (depth st))) q comma_sign ∷ us) xs
      → NextAt (Parameters m p ps c ss b f xs ∷ st) ws us

------ in an element

-- these tokens are the terminals
pub data Terminals : List Fixed → List Marked → List Marked → Type 0 where
  no_terminal : {us : List Marked} → Terminals [] us us
  a_terminal : {e : Fixed} {es : List Fixed} {us vs : List Marked} (p : Place)
      → Terminals es us vs → Terminals (e ∷ es) (loose 0 p (fixed_symbol e) ∷ us) vs

-- where the terminals follow, the element is read whole
abbrev pub Awaits : Standing → List Fixed → Skeleton → List Marked → List Marked → Type 0
Awaits s es k ws us = (vs : List Marked) → Terminals es us vs → ReadsElement s ws vs k

pub record BeforePart (s : Standing) (es : List Fixed) (c : Part) (ws us : List Marked) : Type 0
  where
    pub stands : StandsStatement s
    pub part : (vs : List Marked) → Terminals es us vs → PartFrom c ws vs

pub record BeforeOptional (s : Standing) (es : List Fixed) (c : Optional) (ws us : List Marked)
    : Type 0 where
  pub stands : StandsStatement s
  pub part : (vs : List Marked) → Terminals es us vs → OptionalFrom c ws vs

abbrev pub SpotRead : Standing → Spot → List Marked → List Marked → Type 0
SpotRead s Start ws us = ws ≡ us
SpotRead s (Await es k) ws us = Awaits s es k ws us
SpotRead s (Opening [] c) ws us = ⊥
SpotRead s (Opening (e ∷ es) c) ws us = BeforePart s (e ∷ es) c ws us
SpotRead s (AfterIf p a) ws us = Awaits s (the_hole ∷ []) (hollow_if p a 0) ws us
    × Awaits s (the_hole ∷ the_else ∷ the_hole ∷ []) (hollow_if_else p a 0 1) ws us
SpotRead s (MayElse p a) ws us = Awaits s [] (hollow_if p a 0) ws us
    × Awaits s (the_else ∷ the_hole ∷ []) (hollow_if_else p a 0 1) ws us
SpotRead s (ForOpening p) ws us = BeforeOptional s (the_opening ∷ []) (for_first p) ws us
SpotRead s (ForStart p) ws us = BeforeOptional s [] (for_first p) ws us
SpotRead s (Before c) ws us = BeforeOptional s [] c ws us

-- a designator
pub data DesignatorFrom : Designation → ℕ → List Marked → List Marked → Type 0 where
  index_read : {d : ℕ} {ts us : List Marked} {a : Expr} (p q : Place)
      → Reads (suc d) 2 ts (loose (suc d) q right_bracket ∷ us) a
      → DesignatorFrom (of_index p a) d (loose (suc d) p left_bracket ∷ ts) us
  member_read : {d : ℕ} {ts : List Marked} (p q : Place) (n : List ℕ)
      → DesignatorFrom (of_member p n) d
      (loose d p (sign puncts.Dot) ∷ loose d q (name n) ∷ ts) ts

pub record InitialAt (stack : List Frame) (ws us : List Marked) : Type 0 where
  pub host : TakesInitializer stack
  pub stacked : Stacked stack ws us

pub record ItemAt (stack : List Frame) (ws us : List Marked) : Type 0 where
  pub braces : IsBraces stack
  pub stacked : Stacked stack ws us

pub record DesignatorAt (g : Designation) (stack : List Frame) (ws us : List Marked) : Type 0
  where
    pub from : List Marked
    pub braces : IsBraces stack
    pub stacked : Stacked stack ws from
    pub reads : DesignatorFrom g (depth stack) from us

pub record InitializedAt (x : Initializer) (stack : List Frame) (ws us : List Marked) : Type 0
  where
    pub from : List Marked
    pub host : TakesInitializer stack
    pub stacked : Stacked stack ws from
    pub reads : ReadsInitializer (depth stack) from us x

abbrev pub ReadAt : List Frame → At → Bool → List Marked → List Marked → Type 0
ReadAt stack Want x ws us = WantsAt stack x ws us
ReadAt stack (Have k a) x ws us = Holds k stack a ws us
ReadAt stack (Selecting s a) x ws us = Selects stack s a ws us
ReadAt stack (Words o p xs) x ws us = WordsAt o p xs stack ws us
ReadAt stack (AfterCompound p k) x ws us =
    Follows stack ws (at (within stack) (depth stack) p (compound_word k) ∷ us)
ReadAt stack (AfterTag p k q n) x ws us =
    Follows stack ws (at (within stack) (depth stack) p (compound_word k) ∷
    at (within stack) (depth stack) q (name n) ∷ us)
ReadAt stack (AfterEnum p) x ws us =
    Follows stack ws (at (within stack) (depth stack) p (keyword keywords.Enum) ∷ us)
ReadAt stack (AfterEnumTag p q n) x ws us =
    Follows stack ws (at (within stack) (depth stack) p (keyword keywords.Enum) ∷
    at (within stack) (depth stack) q (name n) ∷ us)
ReadAt stack MemberStart x ws us = MemberAt stack ws us
ReadAt stack EnumeratorStart x ws us = EnumeratorAt stack ws us
ReadAt stack (AfterEnumerator p n) x ws us =
    EnumeratorAt stack ws (at (within stack) (depth stack) p (name n) ∷ us)
ReadAt stack (Pointing m p ps) x ws us = PointingAt m p ps stack ws us
ReadAt stack (Opened m p ps b) x ws us = OpenedAt m p ps b stack ws us
ReadAt stack (Direct m p ps c ss) x ws us = WholeAt m p ps c ss stack ws us
ReadAt stack (Bracket m p ps c ss b qs) x ws us = BracketAt m p ps c ss b qs stack ws us
ReadAt stack (ParametersStart m p ps c ss b) x ws us =
    MiddleAt m p ps c ss stack ws
    (at (within stack) (suc (stars ps (depth stack))) b left_paren ∷ us)
ReadAt stack ParameterNext x ws us = NextAt stack ws us
ReadAt stack AfterEllipsis x ws us = (q : Place)
    × NextAt stack ws (at (within stack) (depth stack) q (sign puncts.Ellipsis) ∷ us)
ReadAt stack InitializerStart x ws us = InitialAt stack ws us
ReadAt stack BracesStart x ws us = ItemAt stack ws us
ReadAt stack (AfterDot p) x ws us =
    ItemAt stack ws (loose (depth stack) p (sign puncts.Dot) ∷ us)
ReadAt stack (AfterDesignator g) x ws us = DesignatorAt g stack ws us
ReadAt stack (AfterInitializer y) x ws us = InitializedAt y stack ws us
ReadAt stack (AtSpot s y) x ws us = SpotRead s y ws us

abbrev pub ReadState : State → Bool → List Marked → List Marked → Type 0
ReadState m x ws us = ReadAt m.stack m.at x ws us

------ where a token leads

-- the token was taken so from what stands before it
pub record Led (B : Bool → List Marked → List Marked → Type 0) (p : Place) (s : Symbol)
    (k : Taken) : Type 0 where
  pub plainly : (ws us : List Marked) → B k.late ws (at k.role k.depth p s ∷ us)
      → ReadState k.state false ws us
  pub counting : k.sized ≡ true → (ws us : List Marked) → B k.late ws (at operator k.depth p s ∷ us)
      → ReadState k.state true ws us

abbrev pub Leads : (Bool → List Marked → List Marked → Type 0) → Place → Symbol → Option Taken
    → Type 0
Leads B p s None = Unit {0}
Leads B p s (Some k) = Led B p s k

pub once : {B : Bool → List Marked → List Marked → Type 0} {p : Place} {s : Symbol} {m : State}
    {r : Role} {d : ℕ} {x : Bool}
    → ((ws us : List Marked) → B x ws (at r d p s ∷ us) → ReadState m false ws us)
    → Led B p s (record { state = m; depth = d; role = r; late = x; sized = false })
once f = record { plainly = f; counting = λ e ws us h. cc }

pub leads_by : (B C : Bool → List Marked → List Marked → Type 0) (p : Place) (s : Symbol)
    (o : Option Taken)
    → ((x : Bool) (r : Role) (d : ℕ) (ws us : List Marked) → B x ws (at r d p s ∷ us)
    → C x ws (at r d p s ∷ us)) → Leads C p s o → Leads B p s o
leads_by B C p s None f g = tt
leads_by B C p s (Some k) f g = record {
  plainly = λ ws us h. g.plainly ws us (f k.late k.role k.depth ws us h);
  counting = λ e ws us h. g.counting e ws us (f k.late operator k.depth ws us h);
}

pub branches : (B : Bool → List Marked → List Marked → Type 0) (p : Place) (s : Symbol) (b : Bool)
    (u v : Option Taken)
    → (b ≡ true → Leads B p s u) → (b ≡ false → Leads B p s v) → Leads B p s (cond b u v)
branches B p s true u v f g = f refl
branches B p s false u v f g = g refl

------ levels

hole_most : (f : Frame) → hole f ≤ 16
hole_most (Statement s c) = wanted_most c where
  wanted_most : (c : Part) → wanted c ≤ 16
  wanted_most (of_case p) = omega arith
  wanted_most _ = omega arith
hole_most (Binary op a) = let h = level-most op in omega arith
hole_most _ = omega arith

-- whatever is no expression fits around everything
pub fits_most : (stack : List Frame) → hole_of stack ≤ 16
fits_most [] = omega arith
fits_most (f ∷ stack) = hole_most f

lowered_by : (e k : ℕ) {d : ℕ} {ts us : List Marked} {a : Expr} → Reads d (e + k) ts us a
    → Reads d k ts us a
lowered_by zero k {d} {ts} {us} {a} h = let e : 0 + k ≡ k = omega arith in
    subst (λ (n : ℕ). Reads d n ts us a) e h
lowered_by (suc n) k {d} {ts} {us} {a} h =
    let e : suc n + k ≡ suc (n + k) = omega arith in
    lowered_by n k (r_higher (subst (λ (i : ℕ). Reads d i ts us a) e h))

pub lowered : (k l : ℕ) {d : ℕ} {ts us : List Marked} {a : Expr} → k ≤ l → Reads d l ts us a
    → Reads d k ts us a
lowered k l {d} {ts} {us} {a} h r = let e : l ≡ (l - k) + k = omega arith in
    lowered_by (l - k) k (subst (λ (n : ℕ). Reads d n ts us a) e r)

------ specifiers

-- one more specifier
pub one_more : {o : Owner} {p : Place} {xs : Specifiers} {x : Specifier} {stack : List Frame}
    {ws from ts us : List Marked} → Site o stack → Stacked stack ws from
    → SpecifiersFrom o p xs (within stack) (depth stack) from ts
    → ReadsSpecifier (within stack) (depth stack) (words_of o) (has_type xs) ts us x
    → WordsAt o p (then_specifier xs x) stack ws us
one_more i s (none_yet b) r =
    record { from = _; site = i; stacked = s; begins = b; reads = r_specifier r }
one_more i s (some_read b h) r =
    record { from = _; site = i; stacked = s; begins = b; reads = r_specifiers h r }

pub specs_of : {o : Owner} {p : Place} {xs : Specifiers} {stack : List Frame} {ws us : List Marked}
    → WordsAt o p xs stack ws us → Specs o p xs stack ws us
specs_of h =
    record {
      from = h.from;
      site = h.site;
      stacked = h.stacked;
      specifiers =
          some_read h.begins h.reads;
    }

-- a type specifier was read, whatever stands before it
pub record TypeAt (x : Specifier) (stack : List Frame) (ws us : List Marked) : Type 0 where
  pub from : List Marked
  pub stacked : Stacked stack ws from
  pub reads : (w : WordKind) (b : Bool) → ReadsSpecifier (within stack) (depth stack) w b from us x

------ declarators

-- what has something after its middle has a part
pub part_suffix : (ps : Pointers) (c : Core) (ss : Suffixes) (s : Suffix)
    → has_part ps c (then_suffix ss s) ≡ true
part_suffix no_pointers nothing ss s = refl
part_suffix no_pointers (named p n) ss s = refl
part_suffix no_pointers (group p d) ss s = refl
part_suffix (then_pointer ps p qs) c ss s = refl

pub part_named : (ps : Pointers) (p : Place) (n : List ℕ)
    → has_part ps (named p n) no_suffixes ≡ true
part_named no_pointers p n = refl
part_named (then_pointer ps q qs) p n = refl

pub part_group : (ps : Pointers) (p : Place) (x : Declarator)
    → has_part ps (group p x) no_suffixes ≡ true
part_group no_pointers p x = refl
part_group (then_pointer ps q qs) p x = refl

-- a declarator, or nothing where none must be
pub data MayRead : Mode → Role → ℕ → List Marked → List Marked → MayDeclarator → Type 0 where
  m_none : {m : Mode} {r : Role} {d : ℕ} {ts : List Marked} → MayRead m r d ts ts no_declarator
  m_some : {m : Mode} {r : Role} {d : ℕ} {ts us : List Marked} {x : Declarator} (k : Naming)
      → fits_mode k m ≡ true → ReadsDeclarator r d k ts us x
      → MayRead m r d ts us (some_declarator x)

pub record EndedAt (m : Mode) (x : MayDeclarator) (stack : List Frame) (ws us : List Marked) : Type
    0 where
  pub from : List Marked
  pub host : Hosts m stack
  pub stacked : Stacked stack ws from
  pub reads : MayRead m (within stack) (depth stack) from us x
