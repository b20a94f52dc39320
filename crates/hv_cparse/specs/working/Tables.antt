-- The tables of the control's frames: those of the pure machine, without trees.
use Rattle.std.specs.Prelude.{ℕ, zero, suc, ◌-◌, Bool, true, false, cond, nat_le, List, [], ◌∷◌, Option, Some, None}
use Rattle.hv_grammar.specs.Expressions.{braced}
use Rattle.hv_cparse.specs.declared.frame.Frame.{Frame}
use Rattle.hv_cparse.specs.declared.frame.Frame.TheVariants.{Parenthesis, AfterSizeof, Subscript, Callee, Calling, Prefix, Unary, Sizeof, SizeofType, CastType, Cast, Binary, Then, Else, Assign, Comma, Specified, Listing, Valued, Owned, OwnedMembers, Group, Length, Parameters, Index, Designated, Declares, Declaring, Initialized, Statement, Terminal}
use Rattle.hv_cparse.specs.declared.frame.Role.{Role}
use Rattle.hv_cparse.specs.declared.frame.Role.TheVariants.{Outside, Inside}
use Rattle.hv_cparse.specs.working.Parts.{wanted}

-- so many are open after n more
abbrev pub many : ℕ → ℕ → ℕ
many zero d = d
many (suc n) d = suc (many n d)

-- the level that is wanted in the frame; 16 where no expression is
abbrev pub hole : Frame → ℕ
hole Parenthesis = 0
hole AfterSizeof = 0
hole Subscript = 0
hole Callee = 1
hole Calling = 1
hole Prefix = 14
hole Unary = 13
hole Sizeof = 14
hole Cast = 13
hole (Binary k) = suc k
hole Then = 0
hole Else = 2
hole Assign = 1
hole Comma = 1
hole Valued = 2
hole (Length m n) = 1
hole Index = 2
hole Designated = 1
hole Initialized = 1
hole (Statement c) = wanted c
hole _ = 16

-- the level of the innermost hole
abbrev pub hole_of : List Frame → ℕ
hole_of [] = 0
hole_of (f ∷ stack) = hole f

-- the level of what the frame becomes; 16 where it is no expression
abbrev pub made : Frame → ℕ
made Parenthesis = 15
made AfterSizeof = 15
made Subscript = 15
made Callee = 15
made Calling = 15
made Prefix = 14
made Unary = 14
made Sizeof = 14
made SizeofType = 14
made CastType = 13
made Cast = 13
made (Binary k) = k
made Then = 2
made Else = 2
made Assign = 1
made Comma = 0
made _ = 16

-- how many are open in the frame, where d are open around it
abbrev pub weigh : Frame → ℕ → ℕ
weigh (Binary k) d = d
weigh Comma d = d
weigh (Specified o) d = d
weigh Valued d = d
weigh (Owned o) d = d
weigh OwnedMembers d = d
weigh SizeofType d = suc (suc d)
weigh (Listing b) d = braced d
weigh (Group m n) d = suc (many n d)
weigh (Length m n) d = suc (many n d)
weigh (Parameters m n) d = suc (many n d)
weigh Designated d = d
weigh (Declares w) d = d
weigh (Declaring b) d = d
weigh Initialized d = d
weigh (Statement c) d = d
weigh (Terminal e) d = d
weigh _ d = suc d

-- how many are open around the frame, where d are open in it
abbrev pub around : Frame → ℕ → ℕ
around (Binary k) d = d
around Comma d = d
around (Specified o) d = d
around Valued d = d
around (Owned o) d = d
around OwnedMembers d = d
around SizeofType d = d - 2
around (Group m n) d = d - 1 - n
around (Length m n) d = d - 1 - n
around (Parameters m n) d = d - 1 - n
around Designated d = d
around (Declares w) d = d
around (Declaring b) d = d
around Initialized d = d
around (Statement c) d = d
around (Terminal e) d = d
around _ d = d - 1

-- how many are open
abbrev pub depth : List Frame → ℕ
depth [] = 0
depth (f ∷ stack) = weigh f (depth stack)

-- whether a type's name stands in the frame
abbrev pub is_type : Frame → Bool
is_type SizeofType = true
is_type CastType = true
is_type _ = false

-- how many type names are open
abbrev pub types : List Frame → ℕ
types [] = 0
types (f ∷ stack) = cond (is_type f) (suc (types stack)) (types stack)

-- how many type names are open around the frame, where n are open in it
abbrev pub types_around : Frame → ℕ → ℕ
types_around f n = cond (is_type f) (n - 1) n

-- where the tokens of specifiers and declarators stand, by the number of type names that are open
abbrev pub role_of : ℕ → Role
role_of zero = Outside
role_of (suc n) = Inside

-- whether an operand completes the frame
abbrev pub completes : Frame → Bool
completes Prefix = true
completes Unary = true
completes Sizeof = true
completes Cast = true
completes (Binary k) = true
completes Else = true
completes Assign = true
completes Comma = true
completes _ = false

-- whether the frame ends before a token whose left operand is of the level
abbrev pub ends : ℕ → Frame → Bool
ends k f = cond (completes f) (nat_le k (made f)) false

-- what is left once frames ended: the frames, and the level of the operand
pub record Reduced : Type 0 where
  pub stack : List Frame
  pub level : ℕ

-- the two of them
abbrev pub reduced : List Frame → ℕ → Reduced
reduced stack l = record { stack = stack; level = l }

-- ends what ends before such a token
abbrev pub reduce : ℕ → List Frame → ℕ → Reduced
reduce k [] l = reduced [] l
reduce k (f ∷ stack) l = cond (ends k f) (reduce k stack (made f)) (reduced (f ∷ stack) l)

-- the innermost frame
abbrev pub first : List Frame → Option Frame
first [] = None
first (f ∷ stack) = Some f

-- whether the innermost frame ends before such a token
abbrev pub ends_first : ℕ → List Frame → Bool
ends_first k [] = false
ends_first k (f ∷ stack) = ends k f
