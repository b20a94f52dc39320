-- What the parsing machine keeps: frames, each all that was read of a production up to the part
-- that is read now, with the tables that say all of a frame, and where the machine is.
use Rattle.std.specs.Prelude.{ℕ, suc, Bool, true, false, List, [], ◌∷◌}
use Rattle.hv_base.specs.declared.place.Place.{Place}
use Rattle.hv_ctree.specs.declared.tree.words.AssignmentOperator.{AssignmentOperator}
use Rattle.hv_base.specs.declared.operator.BinaryOperator.{BinaryOperator}
use Rattle.hv_ctree.specs.declared.tree.words.Selector.{Selector}
use Rattle.hv_ctree.specs.declared.tree.words.Step.{Step as StepSign}
use Rattle.hv_ctree.specs.declared.tree.words.StructOrUnion.{StructOrUnion}
use Rattle.hv_ctree.specs.declared.tree.words.UnaryOperator.{UnaryOperator}
use Rattle.hv_ctree.specs.tree.Expressions.{Expr, prefix, unary, sizeof_expr, cast, binary, conditional, assign, comma, Arguments, TypeName, Specifiers, MayTag, Members, Declarator, Declarators, Enumerators, Core, Suffixes, Parameters as ParameterList, Pointers, Qualifiers, place_of}
use Rattle.hv_ctree.specs.tree.Statements.{Designation, Initializer, Initializers, InitDeclarators}
use Rattle.hv_grammar.specs.Symbols.{Role, outside, inside, level}
use Rattle.hv_grammar.specs.Expressions.{stars, braced}
use Rattle.hv_grammar.specs.Elements.{Standing}
use Rattle.hv_grammar.specs.machine.Parts.{Setting, Part, Spot, wanted}

-- what specifiers stand in
pub data Owner : Type 0 where
  of_type_name : Owner
  of_parameter : Owner
  of_member : Owner
  of_declaration : Owner

-- whether a declarator has a name, has none, or may have one
pub data Mode : Type 0 where
  only_named : Mode
  only_abstract : Mode
  either : Mode

-- a production that was begun, with all that was read of it before the part that is read now
pub data Frame : Type 0 where
  -- `(`, and `(` directly after `sizeof`, which may belong to a type
  Parenthesis : Place → Frame
  AfterSizeof : Place → Frame
  Subscript : Expr → Frame
  Callee : Expr → Frame
  Calling : Expr → Arguments → Frame
  Prefix : Place → StepSign → Frame
  Unary : Place → UnaryOperator → Frame
  Sizeof : Place → Frame
  -- `sizeof (` and `(` of a cast, before the type's name
  SizeofType : Place → Frame
  CastType : Place → Frame
  Cast : Place → TypeName → Frame
  Binary : BinaryOperator → Expr → Frame
  Then : Expr → Frame
  Else : Expr → Expr → Frame
  Assign : AssignmentOperator → Expr → Frame
  Comma : Expr → Frame
  -- specifiers before a type specifier with braces or a tag, which is read now
  Specified : Owner → Place → Specifiers → Frame
  Body : Place → StructOrUnion → MayTag → Members → Frame
  Listing : Place → MayTag → Enumerators → Frame
  Valued : Place → List ℕ → Frame
  -- specifiers whose declarator is read now
  Owned : Owner → Place → Specifiers → Frame
  OwnedMembers : Place → Specifiers → Declarators → Frame
  -- a declarator's `*`s, and the `(` of the declarator within it
  Group : Mode → Place → Pointers → Place → Frame
  -- a declarator up to a `[` or `(` after it
  Length : Mode → Place → Pointers → Core → Suffixes → Place → Qualifiers → Frame
  Parameters : Mode → Place → Pointers → Core → Suffixes → Place → Place → ParameterList → Frame
  -- initialisers in braces; `[` of a designator; a designation, whose initialiser is read now
  Braces : Place → Initializers → Frame
  Index : Place → Frame
  Designated : Designation → Frame
  -- an element up to a declaration; its specifiers and declarators up to one that is read now; a
  -- declarator and the `=` after it
  Declares : Standing → Setting → Frame
  Declaring : Place → Specifiers → InitDeclarators → Frame
  Initialized : Declarator → Frame
  -- a statement up to an expression
  Statement : Standing → Part → Frame

-- the level that is wanted in the frame; 16 where no expression is
abbrev pub hole : Frame → ℕ
hole (Parenthesis p) = 0
hole (AfterSizeof p) = 0
hole (Subscript a) = 0
hole (Callee a) = 1
hole (Calling a xs) = 1
hole (Prefix p s) = 14
hole (Unary p op) = 13
hole (Sizeof p) = 14
hole (Cast p t) = 13
hole (Binary op a) = suc (level op)
hole (Then a) = 0
hole (Else a b) = 2
hole (Assign op a) = 1
hole (Comma a) = 1
hole (Valued p n) = 2
hole (Length m p ps c ss q qs) = 1
hole (Index p) = 2
hole (Designated g) = 1
hole (Initialized x) = 1
hole (Statement s c) = wanted c
hole _ = 16

-- the level of the innermost hole
abbrev pub hole_of : List Frame → ℕ
hole_of [] = 0
hole_of (f ∷ stack) = hole f

-- the level of what the frame becomes; 16 where it is no expression
abbrev pub made : Frame → ℕ
made (Parenthesis p) = 15
made (AfterSizeof p) = 15
made (Subscript a) = 15
made (Callee a) = 15
made (Calling a xs) = 15
made (Prefix p s) = 14
made (Unary p op) = 14
made (Sizeof p) = 14
made (SizeofType p) = 14
made (CastType p) = 13
made (Cast p t) = 13
made (Binary op a) = level op
made (Then a) = 2
made (Else a b) = 2
made (Assign op a) = 1
made (Comma a) = 0
made _ = 16

-- how many are open in the frame, where d are open around it
abbrev pub weigh : Frame → ℕ → ℕ
weigh (Parenthesis p) d = suc d
weigh (AfterSizeof p) d = suc d
weigh (Subscript a) d = suc d
weigh (Callee a) d = suc d
weigh (Calling a xs) d = suc d
weigh (Prefix p s) d = suc d
weigh (Unary p op) d = suc d
weigh (Sizeof p) d = suc d
weigh (SizeofType p) d = suc (suc d)
weigh (CastType p) d = suc d
weigh (Cast p t) d = suc d
weigh (Binary op a) d = d
weigh (Then a) d = suc d
weigh (Else a b) d = suc d
weigh (Assign op a) d = suc d
weigh (Comma a) d = d
weigh (Specified o p xs) d = d
weigh (Body p k t ms) d = suc d
weigh (Listing p t es) d = braced d
weigh (Valued p n) d = d
weigh (Owned o p xs) d = d
weigh (OwnedMembers p xs ds) d = d
weigh (Group m p ps q) d = suc (stars ps d)
weigh (Length m p ps c ss q qs) d = suc (stars ps d)
weigh (Parameters m p ps c ss q r xs) d = suc (stars ps d)
weigh (Braces p xs) d = suc d
weigh (Index p) d = suc d
weigh (Designated g) d = d
weigh (Declares s c) d = d
weigh (Declaring p xs ds) d = d
weigh (Initialized x) d = d
weigh (Statement s c) d = d

-- how many are open
abbrev pub depth : List Frame → ℕ
depth [] = 0
depth (f ∷ stack) = weigh f (depth stack)

-- where the tokens of specifiers and declarators stand: in an expression where a type's name is
-- begun
abbrev pub within : List Frame → Role
within [] = outside
within (SizeofType p ∷ stack) = inside
within (CastType p ∷ stack) = inside
within (_ ∷ stack) = within stack

-- whether an operand completes the frame
abbrev pub completes : Frame → Bool
completes (Prefix p s) = true
completes (Unary p op) = true
completes (Sizeof p) = true
completes (Cast p t) = true
completes (Binary op a) = true
completes (Else a b) = true
completes (Assign op a) = true
completes (Comma a) = true
completes _ = false

-- what the frame becomes with the operand
abbrev pub plug : Frame → Expr → Expr
plug (Prefix p s) b = prefix p s b
plug (Unary p op) b = unary p op b
plug (Sizeof p) b = sizeof_expr p b
plug (Cast p t) b = cast p t b
plug (Binary op a) b = binary (place_of a) op a b
plug (Else a b) c = conditional (place_of a) a b c
plug (Assign op a) b = assign (place_of a) op a b
plug (Comma a) b = comma (place_of a) a b
plug _ b = b

-- where the machine is
pub data At : Type 0 where
  -- before an operand; after one of the level; after `.` or `->`
  Want : At
  Have : ℕ → Expr → At
  Selecting : Selector → Expr → At
  -- after specifiers, at least one
  Words : Owner → Place → Specifiers → At
  -- after `struct` or `union`, and a tag; after `enum`, and a tag
  AfterCompound : Place → StructOrUnion → At
  AfterTag : Place → StructOrUnion → Place → List ℕ → At
  AfterEnum : Place → At
  AfterEnumTag : Place → Place → List ℕ → At
  -- before a member; before an enumeration constant; after its name
  MemberStart : At
  EnumeratorStart : At
  AfterEnumerator : Place → List ℕ → At
  -- before the middle of a declarator; after a `(` there, which may begin parameters; after the
  -- middle
  Pointing : Mode → Place → Pointers → At
  Opened : Mode → Place → Pointers → Place → At
  Direct : Mode → Place → Pointers → Core → Suffixes → At
  -- after a `[`, and a `(`, after a declarator; after a comma among parameters, and a `...`
  Bracket : Mode → Place → Pointers → Core → Suffixes → Place → Qualifiers → At
  ParametersStart : Mode → Place → Pointers → Core → Suffixes → Place → At
  ParameterNext : At
  AfterEllipsis : At
  -- before an initialiser; after a `{` or a comma of initialisers; after the `.` of a designator;
  -- after a designator; after an initialiser in braces
  InitializerStart : At
  BracesStart : At
  AfterDot : Place → At
  AfterDesignator : Designation → At
  AfterInitializer : Initializer → At
  -- in an element's own production
  AtSpot : Standing → Spot → At

-- the machine: its frames, innermost first, and where it is
pub record State : Type 0 where
  pub stack : List Frame
  pub at : At

-- what goes on after a left operand
pub data Infix : Type 0 where
  by_operator : BinaryOperator → Infix
  by_assignment : AssignmentOperator → Infix
  by_question : Infix
  by_comma : Infix
  by_bracket : Infix
  by_parenthesis : Infix

-- the level that the left operand has at least
abbrev pub left : Infix → ℕ
left (by_operator op) = level op
left (by_assignment op) = 14
left by_question = 3
left by_comma = 0
left by_bracket = 15
left by_parenthesis = 15

-- the level of what ends before it: `* ( T ) a` ends before `=`, though a cast is no
-- unary-expression
abbrev pub reach : Infix → ℕ
reach (by_operator op) = level op
reach (by_assignment op) = 13
reach by_question = 3
reach by_comma = 0
reach by_bracket = 15
reach by_parenthesis = 15

-- the level of what it makes
abbrev pub makes : Infix → ℕ
makes (by_operator op) = level op
makes (by_assignment op) = 1
makes by_question = 2
makes by_comma = 0
makes by_bracket = 15
makes by_parenthesis = 15

-- the frame that it begins
abbrev pub begun : Infix → Expr → Frame
begun (by_operator op) a = Binary op a
begun (by_assignment op) a = Assign op a
begun by_question a = Then a
begun by_comma a = Comma a
begun by_bracket a = Subscript a
begun by_parenthesis a = Callee a

-- how many are open at it: the right side of an assignment is open from its own first token
abbrev pub weigh_at : Infix → ℕ → ℕ
weigh_at (by_operator op) d = d
weigh_at (by_assignment op) d = d
weigh_at by_question d = suc d
weigh_at by_comma d = d
weigh_at by_bracket d = suc d
weigh_at by_parenthesis d = suc d
