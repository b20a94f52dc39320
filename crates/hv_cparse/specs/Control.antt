-- The control of a state of the pure machine: its frames and its place without what was read, and
-- what a token is to it.
use Rattle.std.specs.Prelude.{◌≡◌, ℕ, suc, Bool, true, false, List, [], ◌∷◌, map, Option, Some, None, cond}
use Rattle.hv_base.specs.declared.why.Why.{Why}
use Rattle.hv_base.specs.declared.why.Why.TheVariants.{Syntax, TooDeep}
use Rattle.hv_ctree.specs.tree.Expressions.{Members, no_members, then_member, Enumerators, no_enumerators, then_enumerator, Pointers, no_pointers, then_pointer}
use Rattle.hv_ctree.specs.tree.Statements.{Initializers, no_initializers, then_initializer, InitDeclarators, no_init_declarators, then_init_declarator}
use Rattle.hv_grammar.specs.Symbols.{Symbol, keyword, name, marked, number, text, sign, hole, foreign, level, Token, token_at}
use Rattle.hv_grammar.specs.Grammar.{symbol_of, RefusesExpression}
use Rattle.hv_grammar.specs.Expressions.{has_type}
use Rattle.hv_grammar.specs.Refusal.{Limits}
use Rattle.hv_grammar.specs.Elements as elements
use Rattle.hv_grammar.specs.machine.Parts as plain_parts
use Rattle.hv_grammar.specs.machine.Frames as plain
use Rattle.hv_grammar.specs.machine.Steps.{Taken}
use Rattle.hv_grammar.specs.machine.Answers.{keeps, operators_after}
use Rattle.hv_toks.specs.declared.stream.Classified.{Classified}
use Rattle.hv_cparse.specs.declared.limits.Limits.{Limits as GivenLimits}
use Rattle.hv_cparse.specs.declared.fault.ParseFault.{ParseFault}
use Rattle.hv_cparse.specs.declared.fault.ParseFault.TheVariants.{Plain, Memory}
use Rattle.hv_cparse.specs.declared.frame.Frame.{Frame}
use Rattle.hv_cparse.specs.declared.frame.Frame.TheVariants.{Parenthesis, AfterSizeof, Subscript, Callee, Calling, Prefix, Unary, Sizeof, SizeofType, CastType, Cast, Binary, Then, Else, Assign, Comma, Specified, Body, Listing, Valued, Owned, OwnedMembers, Group, Length, Parameters, Braces, Index, Designated, Declares, Declaring, Initialized, Statement, Terminal}
use Rattle.hv_cparse.specs.declared.frame.At.{At}
use Rattle.hv_cparse.specs.declared.frame.At.TheVariants.{Want, Have, Selecting, Words, AfterCompound, AfterTag, AfterEnum, AfterEnumTag, MemberStart, EnumeratorStart, AfterEnumerator, Pointing, Opened, Direct, Bracket, ParametersStart, ParameterNext, AfterEllipsis, InitializerStart, BracesStart, AfterDot, AfterDesignator, AfterInitializer, Start, Awaiting, Opening, AfterIf, MayElse, ForOpening, ForStart, Before}
use Rattle.hv_cparse.specs.declared.frame.Owner.{Owner}
use Rattle.hv_cparse.specs.declared.frame.Owner.TheVariants.{TypeName, Parameter, Member, Declaration}
use Rattle.hv_cparse.specs.declared.frame.Mode.{Mode}
use Rattle.hv_cparse.specs.declared.frame.Mode.TheVariants.{Named, Abstract, Either}
use Rattle.hv_cparse.specs.declared.part.Standing.{Standing}
use Rattle.hv_cparse.specs.declared.part.Standing.TheVariants.{External, Item, Nested}
use Rattle.hv_cparse.specs.declared.part.Setting.{Setting}
use Rattle.hv_cparse.specs.declared.part.Setting.TheVariants.{File, Block, For}
use Rattle.hv_cparse.specs.declared.part.Clause.{Clause}
use Rattle.hv_cparse.specs.declared.part.Clause.TheVariants.{ForFirst, ForSecond, ForThird, Return}
use Rattle.hv_cparse.specs.declared.part.Part.{Part}
use Rattle.hv_cparse.specs.declared.part.Part.TheVariants as parts
use Rattle.hv_cparse.specs.declared.part.Fixed.{Fixed}
use Rattle.hv_cparse.specs.declared.part.Fixed.TheVariants as fixed
use Rattle.hv_cparse.specs.declared.class.Class.{Class}
use Rattle.hv_cparse.specs.declared.class.Class.TheVariants.{Keyword, Name, Marked, Number, Text, Sign, Hole, Foreign}

-- what specifiers stand in
abbrev pub owner_of : plain.Owner → Owner
owner_of plain.of_type_name = TypeName
owner_of plain.of_parameter = Parameter
owner_of plain.of_member = Member
owner_of plain.of_declaration = Declaration

-- whether a declarator has a name
abbrev pub mode_of : plain.Mode → Mode
mode_of plain.only_named = Named
mode_of plain.only_abstract = Abstract
mode_of plain.either = Either

-- the number of `*`s
abbrev pub count : Pointers → ℕ
count no_pointers = 0
count (then_pointer ps p qs) = suc (count ps)

-- whether there is a member
abbrev pub has_members : Members → Bool
has_members no_members = false
has_members (then_member ms m) = true

-- whether there is an enumeration constant
abbrev pub has_enumerators : Enumerators → Bool
has_enumerators no_enumerators = false
has_enumerators (then_enumerator es e) = true

-- whether there is an initialiser
abbrev pub has_initializers : Initializers → Bool
has_initializers no_initializers = false
has_initializers (then_initializer xs p g x) = true

-- whether there is a declarator
abbrev pub has_declarators : InitDeclarators → Bool
has_declarators no_init_declarators = false
has_declarators (then_init_declarator ds x) = true

-- where an element stands
abbrev pub standing_of : elements.Standing → Standing
standing_of elements.External = External
standing_of elements.Item = Item
standing_of elements.Nested = Nested

-- where a declaration stands
abbrev pub setting_of : elements.Standing → plain_parts.Setting → Setting
setting_of elements.External plain_parts.alone = File
setting_of s plain_parts.alone = Block
setting_of s (plain_parts.in_for p) = For

-- an expression that may be missing
abbrev pub clause_of : plain_parts.Optional → Clause
clause_of (plain_parts.for_first p) = ForFirst
clause_of (plain_parts.for_second p g) = ForSecond
clause_of (plain_parts.for_third p g a) = ForThird
clause_of (plain_parts.of_return p) = Return

-- an expression of a statement
abbrev pub part_of : plain_parts.Part → Part
part_of (plain_parts.of_case p) = parts.Case
part_of plain_parts.of_expression = parts.Expression
part_of (plain_parts.of_if p) = parts.If
part_of (plain_parts.of_switch p) = parts.Switch
part_of (plain_parts.of_while p) = parts.While
part_of (plain_parts.of_do p) = parts.Do
part_of (plain_parts.optional c) = parts.Optional (clause_of c)

-- a terminal that an element fixes
abbrev pub fixed_of : plain_parts.Fixed → Fixed
fixed_of plain_parts.the_hole = fixed.Hole
fixed_of plain_parts.the_colon = fixed.Colon
fixed_of plain_parts.the_semicolon = fixed.Semicolon
fixed_of plain_parts.the_opening = fixed.Opening
fixed_of plain_parts.the_closing = fixed.Closing
fixed_of plain_parts.the_right_brace = fixed.RightBrace
fixed_of plain_parts.the_while = fixed.While
fixed_of plain_parts.the_else = fixed.Else

-- a frame without what was read
abbrev pub frame_of : plain.Frame → Frame
frame_of (plain.Parenthesis p) = Parenthesis
frame_of (plain.AfterSizeof p) = AfterSizeof
frame_of (plain.Subscript a) = Subscript
frame_of (plain.Callee a) = Callee
frame_of (plain.Calling a xs) = Calling
frame_of (plain.Prefix p s) = Prefix
frame_of (plain.Unary p op) = Unary
frame_of (plain.Sizeof p) = Sizeof
frame_of (plain.SizeofType p) = SizeofType
frame_of (plain.CastType p) = CastType
frame_of (plain.Cast p t) = Cast
frame_of (plain.Binary op a) = Binary (level op)
frame_of (plain.Then a) = Then
frame_of (plain.Else a b) = Else
frame_of (plain.Assign op a) = Assign
frame_of (plain.Comma a) = Comma
frame_of (plain.Specified o p xs) = Specified (owner_of o)
frame_of (plain.Body p k t ms) = Body (has_members ms)
frame_of (plain.Listing p t es) = Listing (has_enumerators es)
frame_of (plain.Valued p n) = Valued
frame_of (plain.Owned o p xs) = Owned (owner_of o)
frame_of (plain.OwnedMembers p xs ds) = OwnedMembers
frame_of (plain.Group m p ps q) = Group (mode_of m) (count ps)
frame_of (plain.Length m p ps c ss q qs) = Length (mode_of m) (count ps)
frame_of (plain.Parameters m p ps c ss q r xs) = Parameters (mode_of m) (count ps)
frame_of (plain.Braces p xs) = Braces (has_initializers xs)
frame_of (plain.Index p) = Index
frame_of (plain.Designated g) = Designated
frame_of (plain.Declares s c) = Declares (setting_of s c)
frame_of (plain.Declaring p xs ds) = Declaring (has_declarators ds)
frame_of (plain.Initialized x) = Initialized
frame_of (plain.Statement s c) = Statement (part_of c)

-- the frames of the control, innermost first
abbrev pub frames_of : List plain.Frame → List Frame
frames_of [] = []
frames_of (f ∷ stack) = frame_of f ∷ frames_of stack

-- the terminals that are still to come
abbrev pub terminals : List plain_parts.Fixed → List Frame
terminals [] = []
terminals (e ∷ es) = Terminal (fixed_of e) ∷ terminals es

-- the frames in an element's own production: nothing else stands open there
abbrev pub spot_frames : plain_parts.Spot → List Frame
spot_frames (plain_parts.Await es k) = terminals es
spot_frames (plain_parts.Opening es c) = terminals es
spot_frames _ = []

-- the frames of the control at the place
abbrev pub frames_at : plain.At → List plain.Frame → List Frame
frames_at (plain.AtSpot s x) stack = spot_frames x
frames_at _ stack = frames_of stack

-- where the control is in an element's own production
abbrev pub spot_of : elements.Standing → plain_parts.Spot → At
spot_of s plain_parts.Start = Start (standing_of s)
spot_of s (plain_parts.Await es k) = Awaiting
spot_of s (plain_parts.Opening es c) = Opening (part_of c)
spot_of s (plain_parts.AfterIf p a) = AfterIf
spot_of s (plain_parts.MayElse p a) = MayElse
spot_of s (plain_parts.ForOpening p) = ForOpening
spot_of s (plain_parts.ForStart p) = ForStart
spot_of s (plain_parts.Before c) = Before (clause_of c)

-- where the control is
abbrev pub at_of : plain.At → At
at_of plain.Want = Want
at_of (plain.Have k a) = Have k
at_of (plain.Selecting s a) = Selecting
at_of (plain.Words o p xs) = Words (owner_of o) (has_type xs)
at_of (plain.AfterCompound p k) = AfterCompound
at_of (plain.AfterTag p k q n) = AfterTag
at_of (plain.AfterEnum p) = AfterEnum
at_of (plain.AfterEnumTag p q n) = AfterEnumTag
at_of plain.MemberStart = MemberStart
at_of plain.EnumeratorStart = EnumeratorStart
at_of (plain.AfterEnumerator p n) = AfterEnumerator
at_of (plain.Pointing m p ps) = Pointing (mode_of m) (count ps)
at_of (plain.Opened m p ps q) = Opened (mode_of m) (count ps)
at_of (plain.Direct m p ps c ss) = Direct (mode_of m) (count ps)
at_of (plain.Bracket m p ps c ss q qs) = Bracket (mode_of m) (count ps)
at_of (plain.ParametersStart m p ps c ss q) = ParametersStart (mode_of m) (count ps)
at_of plain.ParameterNext = ParameterNext
at_of plain.AfterEllipsis = AfterEllipsis
at_of plain.InitializerStart = InitializerStart
at_of plain.BracesStart = BracesStart
at_of (plain.AfterDot p) = AfterDot
at_of (plain.AfterDesignator g) = AfterDesignator
at_of (plain.AfterInitializer x) = AfterInitializer
at_of (plain.AtSpot s x) = spot_of s x

-- what a terminal is to the control
abbrev pub class_of : Symbol → Class
class_of (keyword k) = Keyword k
class_of (name n) = Name
class_of (marked n) = Marked
class_of (number v) = Number
class_of (text b) = Text
class_of (sign p) = Sign p
class_of hole = Hole
class_of foreign = Foreign

-- these frames and this place are the control of the state
pub record IsControl (stack : List Frame) (at : At) (m : plain.State) : Type 0 where
  pub frames : stack ≡ frames_at m.at m.stack
  pub place : at ≡ at_of m.at

-- why a token is refused after n operators, by what the pure machine does with it
abbrev pub cause : Limits → ℕ → Option Taken → Option Why
cause l n None = Some Syntax
cause l n (Some k) = cond (keeps l n k) None (Some TooDeep)

-- the limits of the code are those
abbrev pub limits_of : GivenLimits → Limits
limits_of l =
    record { brackets = l.brackets; operators = l.operators; statements = l.statements }

-- the control after a token that was taken, if it was, after n operators
abbrev pub Follows : ℕ → Option Taken → List Frame → At → ℕ → Type 0
Follows n None stack at c = Unit {0}
Follows n (Some k) stack at c = IsControl stack at k.state × (c ≡ operators_after n k)

-- whether the token was taken
abbrev pub is_taken : Option Taken → Bool
is_taken None = false
is_taken (Some k) = true

-- whether there is a tree
abbrev pub is_whole : {T : Type 0} → Option T → Bool
is_whole None = false
is_whole (Some a) = true

-- a token of one configuration
abbrev pub token_of : Classified → Token
token_of t = token_at t.start.place (symbol_of t.tok t.typedef)

-- tokens of one configuration
abbrev pub tokens_of : List Classified → List Token
tokens_of ts = map token_of ts

-- the fault says the first refusal of the tokens of an expression, or that memory ran out
abbrev pub IsRefusal : Limits → List Token → ParseFault → Type 0
IsRefusal l ts (Plain at why) = RefusesExpression l ts at why
IsRefusal l ts Memory = Unit {0}
