-- When two states of the machine, or two tokens, differ only in what was read: in trees, places,
-- names and values, and in which of several signs that the machine treats alike was read.
use Rattle.std.specs.Prelude.{◌≡◌, ℕ, Bool, true, false, List, [], ◌∷◌, Option, Some, None}
use Rattle.hv_base.specs.declared.place.Place.{Place}
use Rattle.hv_base.specs.declared.keyword.Keyword.{Keyword}
use Rattle.hv_base.specs.declared.operator.BinaryOperator.{BinaryOperator}
use Rattle.hv_base.specs.declared.punct.Punct.{Punct}
use Rattle.hv_ctree.specs.declared.tree.words.AssignmentOperator.{AssignmentOperator}
use Rattle.hv_ctree.specs.declared.tree.words.Constant.{Constant}
use Rattle.hv_ctree.specs.declared.tree.words.Selector.{Selector}
use Rattle.hv_ctree.specs.declared.tree.words.Step.{Step as StepSign}
use Rattle.hv_ctree.specs.declared.tree.words.StructOrUnion.{StructOrUnion}
use Rattle.hv_ctree.specs.declared.tree.words.UnaryOperator.{UnaryOperator}
use Rattle.hv_ctree.specs.tree.Expressions.{Expr, Arguments, TypeName, Specifiers, MayTag, Members, no_members, then_member, MemberDeclaration, Declarator, Declarators, Enumerators, no_enumerators, then_enumerator, Enumerator, Core, Suffixes, Parameters as ParameterList, Pointers, no_pointers, then_pointer, Qualifiers}
use Rattle.hv_ctree.specs.tree.Statements.{Designation, Initializer, Initializers, no_initializers, then_initializer, InitDeclarator, InitDeclarators, no_init_declarators, then_init_declarator, Skeleton}
use Rattle.hv_grammar.specs.Symbols.{Symbol, token_at, keyword, name, marked, number, text, sign, hole, foreign, level}
use Rattle.hv_grammar.specs.Expressions.{has_type}
use Rattle.hv_grammar.specs.Elements.{Standing}
use Rattle.hv_grammar.specs.machine.Parts.{Setting, alone, in_for, FirstClause, Optional, for_first, for_second, for_third, of_return, Part, of_case, of_expression, of_if, of_switch, of_while, of_do, optional, Fixed, Spot, Start, Await, Opening, AfterIf, MayElse, ForOpening, ForStart, Before}
use Rattle.hv_grammar.specs.machine.Frames.{Owner, Mode, Frame, Parenthesis, AfterSizeof, Subscript, Callee, Calling, Prefix, Unary, Sizeof, SizeofType, CastType, Cast, Binary, Then, Else, Assign, Comma, Specified, Body, Listing, Valued, Owned, OwnedMembers, Group, Length, Parameters, Braces, Index, Designated, Declares, Declaring, Initialized, Statement, At, Want, Have, Selecting, Words, AfterCompound, AfterTag, AfterEnum, AfterEnumTag, MemberStart, EnumeratorStart, AfterEnumerator, Pointing, Opened, Direct, Bracket, ParametersStart, ParameterNext, AfterEllipsis, InitializerStart, BracesStart, AfterDot, AfterDesignator, AfterInitializer, AtSpot, State}
use Rattle.hv_grammar.specs.machine.Steps.{Taken, step}

-- terminals that are the same but for what a name is, what a constant's value is, and a string's
-- bytes; whether a name is marked as a typedef name is the same
pub data SameSymbol : Symbol → Symbol → Type 0 where
  same_keyword : {k : Keyword} → SameSymbol (keyword k) (keyword k)
  same_name : {n o : List ℕ} → SameSymbol (name n) (name o)
  same_marked : {n o : List ℕ} → SameSymbol (marked n) (marked o)
  same_number : {v w : Constant} → SameSymbol (number v) (number w)
  same_text : {b c : List ℕ} → SameSymbol (text b) (text c)
  same_sign : {p : Punct} → SameSymbol (sign p) (sign p)
  same_hole : SameSymbol hole hole
  same_foreign : SameSymbol foreign foreign

-- as many `*`s
pub data SamePointers : Pointers → Pointers → Type 0 where
  no_stars : SamePointers no_pointers no_pointers
  more_stars : {ps qs : Pointers} {p q : Place} {xs ys : Qualifiers} → SamePointers ps qs
      → SamePointers (then_pointer ps p xs) (then_pointer qs q ys)

-- members in both or in neither
pub data SameMembers : Members → Members → Type 0 where
  neither_member : SameMembers no_members no_members
  both_members : {ms ns : Members} {m n : MemberDeclaration}
      → SameMembers (then_member ms m) (then_member ns n)

-- enumeration constants in both or in neither
pub data SameEnumerators : Enumerators → Enumerators → Type 0 where
  neither_enumerator : SameEnumerators no_enumerators no_enumerators
  both_enumerators : {es fs : Enumerators} {e f : Enumerator}
      → SameEnumerators (then_enumerator es e) (then_enumerator fs f)

-- initialisers in both or in neither
pub data SameInitializers : Initializers → Initializers → Type 0 where
  neither_initializer : SameInitializers no_initializers no_initializers
  both_initializers : {xs ys : Initializers} {p q : Place} {g h : Designation} {x y : Initializer}
      → SameInitializers (then_initializer xs p g x) (then_initializer ys q h y)

-- declarators in both or in neither
pub data SameInits : InitDeclarators → InitDeclarators → Type 0 where
  neither_init : SameInits no_init_declarators no_init_declarators
  both_inits : {xs ys : InitDeclarators} {x y : InitDeclarator}
      → SameInits (then_init_declarator xs x) (then_init_declarator ys y)

-- the same setting of a declaration
pub data SameSetting : Setting → Setting → Type 0 where
  both_alone : SameSetting alone alone
  both_in_for : {p q : Place} → SameSetting (in_for p) (in_for q)

-- the same expression that may be missing
pub data SameOptional : Optional → Optional → Type 0 where
  both_first : {p q : Place} → SameOptional (for_first p) (for_first q)
  both_second : {p q : Place} {f g : FirstClause} → SameOptional (for_second p f) (for_second q g)
  both_third : {p q : Place} {f g : FirstClause} {a b : Option Expr}
      → SameOptional (for_third p f a) (for_third q g b)
  both_return : {p q : Place} → SameOptional (of_return p) (of_return q)

-- the same expression of a statement
pub data SamePart : Part → Part → Type 0 where
  both_case : {p q : Place} → SamePart (of_case p) (of_case q)
  both_expression : SamePart of_expression of_expression
  both_if : {p q : Place} → SamePart (of_if p) (of_if q)
  both_switch : {p q : Place} → SamePart (of_switch p) (of_switch q)
  both_while : {p q : Place} → SamePart (of_while p) (of_while q)
  both_do : {p q : Place} → SamePart (of_do p) (of_do q)
  both_optional : {c d : Optional} → SameOptional c d → SamePart (optional c) (optional d)

-- the same place in an element
pub data SameSpot : Spot → Spot → Type 0 where
  both_start : SameSpot Start Start
  both_await : {es : List Fixed} {j k : Skeleton} → SameSpot (Await es j) (Await es k)
  both_opening : {es : List Fixed} {c d : Part} → SamePart c d
      → SameSpot (Opening es c) (Opening es d)
  both_after_if : {p q : Place} {a b : Expr} → SameSpot (AfterIf p a) (AfterIf q b)
  both_may_else : {p q : Place} {a b : Expr} → SameSpot (MayElse p a) (MayElse q b)
  both_for_opening : {p q : Place} → SameSpot (ForOpening p) (ForOpening q)
  both_for_start : {p q : Place} → SameSpot (ForStart p) (ForStart q)
  both_before : {c d : Optional} → SameOptional c d → SameSpot (Before c) (Before d)

-- frames that differ only in what was read
pub data SameFrame : Frame → Frame → Type 0 where
  both_parenthesis : {p q : Place} → SameFrame (Parenthesis p) (Parenthesis q)
  both_after_sizeof : {p q : Place} → SameFrame (AfterSizeof p) (AfterSizeof q)
  both_subscript : {a b : Expr} → SameFrame (Subscript a) (Subscript b)
  both_callee : {a b : Expr} → SameFrame (Callee a) (Callee b)
  both_calling : {a b : Expr} {xs ys : Arguments} → SameFrame (Calling a xs) (Calling b ys)
  both_prefix : {p q : Place} {s t : StepSign} → SameFrame (Prefix p s) (Prefix q t)
  both_unary : {p q : Place} {f g : UnaryOperator} → SameFrame (Unary p f) (Unary q g)
  both_sizeof : {p q : Place} → SameFrame (Sizeof p) (Sizeof q)
  both_sizeof_type : {p q : Place} → SameFrame (SizeofType p) (SizeofType q)
  both_cast_type : {p q : Place} → SameFrame (CastType p) (CastType q)
  both_cast : {p q : Place} {t u : TypeName} → SameFrame (Cast p t) (Cast q u)
  both_binary : {f g : BinaryOperator} {a b : Expr} → level f ≡ level g
      → SameFrame (Binary f a) (Binary g b)
  both_then : {a b : Expr} → SameFrame (Then a) (Then b)
  both_else : {a b c d : Expr} → SameFrame (Else a b) (Else c d)
  both_assign : {f g : AssignmentOperator} {a b : Expr} → SameFrame (Assign f a) (Assign g b)
  both_comma : {a b : Expr} → SameFrame (Comma a) (Comma b)
  both_specified : {o : Owner} {p q : Place} {xs ys : Specifiers} → has_type xs ≡ has_type ys
      → SameFrame (Specified o p xs) (Specified o q ys)
  both_body : {p q : Place} {k l : StructOrUnion} {t u : MayTag} {ms ns : Members}
      → SameMembers ms ns → SameFrame (Body p k t ms) (Body q l u ns)
  both_listing : {p q : Place} {t u : MayTag} {es fs : Enumerators} → SameEnumerators es fs
      → SameFrame (Listing p t es) (Listing q u fs)
  both_valued : {p q : Place} {n o : List ℕ} → SameFrame (Valued p n) (Valued q o)
  both_owned : {o : Owner} {p q : Place} {xs ys : Specifiers}
      → SameFrame (Owned o p xs) (Owned o q ys)
  both_owned_members : {p q : Place} {xs ys : Specifiers} {ds es : Declarators}
      → SameFrame (OwnedMembers p xs ds) (OwnedMembers q ys es)
  both_group : {m : Mode} {p q x y : Place} {ps qs : Pointers} → SamePointers ps qs
      → SameFrame (Group m p ps x) (Group m q qs y)
  both_length : {m : Mode} {p q x y : Place} {ps qs : Pointers} {c d : Core} {ss ts : Suffixes}
      {us vs : Qualifiers} → SamePointers ps qs
      → SameFrame (Length m p ps c ss x us) (Length m q qs d ts y vs)
  both_parameters : {m : Mode} {p q x y f g : Place} {ps qs : Pointers} {c d : Core}
      {ss ts : Suffixes} {xs ys : ParameterList} → SamePointers ps qs
      → SameFrame (Parameters m p ps c ss x f xs) (Parameters m q qs d ts y g ys)
  both_braces : {p q : Place} {xs ys : Initializers} → SameInitializers xs ys
      → SameFrame (Braces p xs) (Braces q ys)
  both_index : {p q : Place} → SameFrame (Index p) (Index q)
  both_designated : {g h : Designation} → SameFrame (Designated g) (Designated h)
  both_declares : {s : Standing} {c d : Setting} → SameSetting c d
      → SameFrame (Declares s c) (Declares s d)
  both_declaring : {p q : Place} {xs ys : Specifiers} {ds es : InitDeclarators} → SameInits ds es
      → SameFrame (Declaring p xs ds) (Declaring q ys es)
  both_initialized : {x y : Declarator} → SameFrame (Initialized x) (Initialized y)
  both_statement : {s : Standing} {c d : Part} → SamePart c d
      → SameFrame (Statement s c) (Statement s d)

-- stacks of such frames
pub data SameStack : List Frame → List Frame → Type 0 where
  both_empty : SameStack [] []
  both_more : {f g : Frame} {st su : List Frame} → SameFrame f g → SameStack st su
      → SameStack (f ∷ st) (g ∷ su)

-- the machine is at the same place
pub data SameAt : At → At → Type 0 where
  both_want : SameAt Want Want
  both_have : {k : ℕ} {a b : Expr} → SameAt (Have k a) (Have k b)
  both_selecting : {s t : Selector} {a b : Expr} → SameAt (Selecting s a) (Selecting t b)
  both_words : {o : Owner} {p q : Place} {xs ys : Specifiers} → has_type xs ≡ has_type ys
      → SameAt (Words o p xs) (Words o q ys)
  both_compound : {p q : Place} {k l : StructOrUnion}
      → SameAt (AfterCompound p k) (AfterCompound q l)
  both_tag : {p q x y : Place} {k l : StructOrUnion} {n o : List ℕ}
      → SameAt (AfterTag p k x n) (AfterTag q l y o)
  both_enum : {p q : Place} → SameAt (AfterEnum p) (AfterEnum q)
  both_enum_tag : {p q x y : Place} {n o : List ℕ}
      → SameAt (AfterEnumTag p x n) (AfterEnumTag q y o)
  both_member_start : SameAt MemberStart MemberStart
  both_enumerator_start : SameAt EnumeratorStart EnumeratorStart
  both_after_enumerator : {p q : Place} {n o : List ℕ}
      → SameAt (AfterEnumerator p n) (AfterEnumerator q o)
  both_pointing : {m : Mode} {p q : Place} {ps qs : Pointers} → SamePointers ps qs
      → SameAt (Pointing m p ps) (Pointing m q qs)
  both_opened : {m : Mode} {p q x y : Place} {ps qs : Pointers} → SamePointers ps qs
      → SameAt (Opened m p ps x) (Opened m q qs y)
  both_direct : {m : Mode} {p q : Place} {ps qs : Pointers} {c d : Core} {ss ts : Suffixes}
      → SamePointers ps qs → SameAt (Direct m p ps c ss) (Direct m q qs d ts)
  both_bracket : {m : Mode} {p q x y : Place} {ps qs : Pointers} {c d : Core} {ss ts : Suffixes}
      {us vs : Qualifiers} → SamePointers ps qs
      → SameAt (Bracket m p ps c ss x us) (Bracket m q qs d ts y vs)
  both_parameters_start : {m : Mode} {p q x y : Place} {ps qs : Pointers} {c d : Core}
      {ss ts : Suffixes} → SamePointers ps qs
      → SameAt (ParametersStart m p ps c ss x) (ParametersStart m q qs d ts y)
  both_parameter_next : SameAt ParameterNext ParameterNext
  both_after_ellipsis : SameAt AfterEllipsis AfterEllipsis
  both_initializer_start : SameAt InitializerStart InitializerStart
  both_braces_start : SameAt BracesStart BracesStart
  both_after_dot : {p q : Place} → SameAt (AfterDot p) (AfterDot q)
  both_after_designator : {g h : Designation} → SameAt (AfterDesignator g) (AfterDesignator h)
  both_after_initializer : {x y : Initializer} → SameAt (AfterInitializer x) (AfterInitializer y)
  both_spot : {s : Standing} {x y : Spot} → SameSpot x y → SameAt (AtSpot s x) (AtSpot s y)

-- states that differ only in what was read
pub record SameState (m n : State) : Type 0 where
  pub stack : SameStack m.stack n.stack
  pub at : SameAt m.at n.at

-- a token is taken in both, with the same marks, to such states, or in neither
pub data SameStep : Option Taken → Option Taken → Type 0 where
  neither_takes : SameStep None None
  both_take : {k l : Taken} → SameState k.state l.state → k.depth ≡ l.depth → k.role ≡ l.role
      → k.late ≡ l.late → k.sized ≡ l.sized → SameStep (Some k) (Some l)

-- whether there is one
abbrev pub is_some : {T : Type 0} → Option T → Bool
is_some None = false
is_some (Some a) = true

-- whether a typedef name would be a type here: only there a name that is marked is taken
abbrev pub names_type : State → Bool
names_type m = is_some (step m (token_at (record { stack = []; file = 0; offset = 0 }) (marked [])))
