-- A state differs from itself in nothing, and where a typedef name would be a type.
use Rattle.std.proofs.Common.{◌≡◌, ℕ, List, [], ◌∷◌, refl, Option}
use Rattle.hv_base.specs.declared.place.Place.{Place}
use Rattle.hv_ctree.specs.tree.Expressions.{Pointers, no_pointers, then_pointer, Members, no_members, then_member, Enumerators, no_enumerators, then_enumerator}
use Rattle.hv_ctree.specs.tree.Statements.{Initializers, no_initializers, then_initializer, InitDeclarators, no_init_declarators, then_init_declarator}
use Rattle.hv_grammar.specs.Symbols.{marked, token_at}
use Rattle.hv_grammar.specs.machine.Parts.{Setting, alone, in_for, Optional, for_first, for_second, for_third, of_return, Part, of_case, of_expression, of_if, of_switch, of_while, of_do, optional, Spot, Start, Await, Opening, AfterIf, MayElse, ForOpening, ForStart, Before}
use Rattle.hv_grammar.specs.machine.Frames.{Frame, Parenthesis, AfterSizeof, Subscript, Callee, Calling, Prefix, Unary, Sizeof, SizeofType, CastType, Cast, Binary, Then, Else, Assign, Comma, Specified, Body, Listing, Valued, Owned, OwnedMembers, Group, Length, Parameters, Braces, Index, Designated, Declares, Declaring, Initialized, Statement, At, Want, Have, Selecting, Words, AfterCompound, AfterTag, AfterEnum, AfterEnumTag, MemberStart, EnumeratorStart, AfterEnumerator, Pointing, Opened, Direct, Bracket, ParametersStart, ParameterNext, AfterEllipsis, InitializerStart, BracesStart, AfterDot, AfterDesignator, AfterInitializer, AtSpot, State}
use Rattle.hv_grammar.specs.machine.Steps.{Taken, step}
use Rattle.hv_grammar.specs.machine.Control.{is_some, names_type, SamePointers, SameMembers, SameEnumerators, SameInitializers, SameInits, SameSetting, SameOptional, SamePart, SameSpot, SameFrame, SameStack, SameAt, SameState, SameStep, same_marked, no_stars, more_stars, neither_member, both_members, neither_enumerator, both_enumerators, neither_initializer, both_initializers, neither_init, both_inits, both_alone, both_in_for, both_first, both_second, both_third, both_return, both_case, both_expression, both_if, both_switch, both_while, both_do, both_optional, both_start, both_await, both_opening, both_after_if, both_may_else, both_for_opening, both_for_start, both_before, both_parenthesis, both_after_sizeof, both_subscript, both_callee, both_calling, both_prefix, both_unary, both_sizeof, both_sizeof_type, both_cast_type, both_cast, both_binary, both_then, both_else, both_assign, both_comma, both_specified, both_body, both_listing, both_valued, both_owned, both_owned_members, both_group, both_length, both_parameters, both_braces, both_index, both_designated, both_declares, both_declaring, both_initialized, both_statement, both_empty, both_more, both_want, both_have, both_selecting, both_words, both_compound, both_tag, both_enum, both_enum_tag, both_member_start, both_enumerator_start, both_after_enumerator, both_pointing, both_opened, both_direct, both_bracket, both_parameters_start, both_parameter_next, both_after_ellipsis, both_initializer_start, both_braces_start, both_after_dot, both_after_designator, both_after_initializer, both_spot, neither_takes, both_take}
use Rattle.hv_grammar.proofs.ControlElements.{step_alike}

abbrev somewhere : Place
somewhere = record { stack = []; file = 0; offset = 0 }

same_pointers : (x : Pointers) → SamePointers x x
same_pointers no_pointers = no_stars
same_pointers (then_pointer ps p xs) = more_stars (same_pointers ps)

same_members : (x : Members) → SameMembers x x
same_members no_members = neither_member
same_members (then_member ms m) = both_members

same_enumerators : (x : Enumerators) → SameEnumerators x x
same_enumerators no_enumerators = neither_enumerator
same_enumerators (then_enumerator es e) = both_enumerators

same_initializers : (x : Initializers) → SameInitializers x x
same_initializers no_initializers = neither_initializer
same_initializers (then_initializer xs p g x) = both_initializers

same_inits : (x : InitDeclarators) → SameInits x x
same_inits no_init_declarators = neither_init
same_inits (then_init_declarator xs x) = both_inits

same_setting : (x : Setting) → SameSetting x x
same_setting alone = both_alone
same_setting (in_for p) = both_in_for

same_optional : (x : Optional) → SameOptional x x
same_optional (for_first p) = both_first
same_optional (for_second p f) = both_second
same_optional (for_third p f a) = both_third
same_optional (of_return p) = both_return

same_part : (x : Part) → SamePart x x
same_part (of_case p) = both_case
same_part of_expression = both_expression
same_part (of_if p) = both_if
same_part (of_switch p) = both_switch
same_part (of_while p) = both_while
same_part (of_do p) = both_do
same_part (optional c) = both_optional (same_optional c)

same_spot : (x : Spot) → SameSpot x x
same_spot Start = both_start
same_spot (Await es j) = both_await
same_spot (Opening es c) = both_opening (same_part c)
same_spot (AfterIf p a) = both_after_if
same_spot (MayElse p a) = both_may_else
same_spot (ForOpening p) = both_for_opening
same_spot (ForStart p) = both_for_start
same_spot (Before c) = both_before (same_optional c)

same_frame : (x : Frame) → SameFrame x x
same_frame (Parenthesis p) = both_parenthesis
same_frame (AfterSizeof p) = both_after_sizeof
same_frame (Subscript a) = both_subscript
same_frame (Callee a) = both_callee
same_frame (Calling a xs) = both_calling
same_frame (Prefix p s) = both_prefix
same_frame (Unary p f) = both_unary
same_frame (Sizeof p) = both_sizeof
same_frame (SizeofType p) = both_sizeof_type
same_frame (CastType p) = both_cast_type
same_frame (Cast p t) = both_cast
same_frame (Binary f a) = both_binary refl
same_frame (Then a) = both_then
same_frame (Else a b) = both_else
same_frame (Assign f a) = both_assign
same_frame (Comma a) = both_comma
same_frame (Specified o p xs) = both_specified refl
same_frame (Body p k t ms) = both_body (same_members ms)
same_frame (Listing p t es) = both_listing (same_enumerators es)
same_frame (Valued p n) = both_valued
same_frame (Owned o p xs) = both_owned
same_frame (OwnedMembers p xs ds) = both_owned_members
same_frame (Group m p ps x) = both_group (same_pointers ps)
same_frame (Length m p ps c ss x us) = both_length (same_pointers ps)
same_frame (Parameters m p ps c ss x f xs) = both_parameters (same_pointers ps)
same_frame (Braces p xs) = both_braces (same_initializers xs)
same_frame (Index p) = both_index
same_frame (Designated g) = both_designated
same_frame (Declares s c) = both_declares (same_setting c)
same_frame (Declaring p xs ds) = both_declaring (same_inits ds)
same_frame (Initialized x) = both_initialized
same_frame (Statement s c) = both_statement (same_part c)

same_at : (x : At) → SameAt x x
same_at Want = both_want
same_at (Have k a) = both_have
same_at (Selecting s a) = both_selecting
same_at (Words o p xs) = both_words refl
same_at (AfterCompound p k) = both_compound
same_at (AfterTag p k x n) = both_tag
same_at (AfterEnum p) = both_enum
same_at (AfterEnumTag p x n) = both_enum_tag
same_at MemberStart = both_member_start
same_at EnumeratorStart = both_enumerator_start
same_at (AfterEnumerator p n) = both_after_enumerator
same_at (Pointing m p ps) = both_pointing (same_pointers ps)
same_at (Opened m p ps x) = both_opened (same_pointers ps)
same_at (Direct m p ps c ss) = both_direct (same_pointers ps)
same_at (Bracket m p ps c ss x us) = both_bracket (same_pointers ps)
same_at (ParametersStart m p ps c ss x) = both_parameters_start (same_pointers ps)
same_at ParameterNext = both_parameter_next
same_at AfterEllipsis = both_after_ellipsis
same_at InitializerStart = both_initializer_start
same_at BracesStart = both_braces_start
same_at (AfterDot p) = both_after_dot
same_at (AfterDesignator g) = both_after_designator
same_at (AfterInitializer x) = both_after_initializer
same_at (AtSpot s x) = both_spot (same_spot x)

same_stack : (st : List Frame) → SameStack st st
same_stack [] = both_empty
same_stack (f ∷ st) = both_more (same_frame f) (same_stack st)

-- a state is alike itself
pub same_state : (m : State) → SameState m m
same_state m = record { stack = same_stack m.stack; at = same_at m.at }

taken_both : {u v : Option Taken} → SameStep u v → is_some u ≡ is_some v
taken_both neither_takes = refl
taken_both (both_take s d r l z) = refl

-- whether a name with the mark of a typedef name is taken doesn't depend on the name
pub names_alike : (m n : State) → SameState m n → (p : Place) (x : List ℕ)
    → is_some (step m (token_at p (marked x))) ≡ names_type n
names_alike m n h p x =
    taken_both (step_alike m n (token_at p (marked x)) (token_at somewhere (marked [])) h same_marked)
