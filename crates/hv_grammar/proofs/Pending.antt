-- What a step keeps. After a `(` directly after `sizeof`, and nowhere else, it is pending whether it
-- counts, and only there a token says that it did. And the machine stays in its element.
use Rattle.std.proofs.Common.{◌≡◌, ℕ, Bool, true, false, cond, List, [], ◌∷◌, refl, ◌∙◌, Option, Some, None, subst}
use Rattle.std.specs.Prelude.{nat_le}
use Rattle.hv_base.specs.declared.place.Place.{Place}
use Rattle.hv_base.specs.declared.keyword.Keyword.{Keyword}
use Rattle.hv_base.specs.declared.keyword.Keyword.TheVariants as keywords
use Rattle.hv_base.specs.declared.punct.Punct.{Punct}
use Rattle.hv_base.specs.declared.punct.Punct.TheVariants as puncts
use Rattle.hv_ctree.specs.declared.tree.words.Selector.{Selector}
use Rattle.hv_ctree.specs.declared.tree.words.StructOrUnion.{StructOrUnion}
use Rattle.hv_ctree.specs.tree.Expressions.{Expr, Specifiers, no_specifiers, Specifier, then_member, then_enumerator, Declarator, MayDeclarator, some_declarator, Core, Suffixes, Pointers, no_pointers, Qualifiers}
use Rattle.hv_ctree.specs.tree.Statements.{Designation, no_designation, Initializer, then_initializer, InitDeclarators, no_init_declarators}
use Rattle.hv_grammar.specs.Elements.{Standing, External, Item, Nested}
use Rattle.hv_grammar.specs.machine.Parts.{alone, in_for, Optional, for_first, Part, of_expression, optional, Fixed, the_hole, the_opening, the_else, Spot, Start, Await, Opening, AfterIf, MayElse, ForOpening, ForStart, Before, meets, closer}
use Rattle.hv_grammar.specs.Symbols.{Symbol, keyword, name, marked, number, text, sign, Role, inside, right_paren, colon, semicolon}
use Rattle.hv_grammar.specs.Expressions.{has_type}
use Rattle.hv_grammar.specs.machine.Frames.{Owner, of_type_name, of_parameter, of_member, of_declaration, Mode, only_named, only_abstract, either, Frame, Parenthesis, AfterSizeof, Subscript, Callee, Calling, Sizeof, SizeofType, CastType, Then, Specified, Body, Listing, Valued, Owned, OwnedMembers, Group, Length, Parameters, Braces, Index, Designated, Declares, Declaring, Initialized, Statement, hole_of, made, completes, plug, At, Want, Have, Selecting, Words, AfterCompound, AfterTag, AfterEnum, AfterEnumTag, MemberStart, EnumeratorStart, AfterEnumerator, Pointing, Opened, Direct, Bracket, ParametersStart, ParameterNext, AfterEllipsis, InitializerStart, BracesStart, AfterDot, AfterDesignator, AfterInitializer, AtSpot, State, Infix, by_operator, by_assignment, by_question, by_comma, by_bracket, by_parenthesis, left, reach, makes, begun}
use Rattle.hv_grammar.specs.machine.Steps.{want, spot, loosely, declared, initialized_at, part_at, semicolon_at, after_init, body_at, step_initializer, braces_ended, step_braces, step_dot, step_designator, step_initialized, optional_at, statement_at, lone_at, start_at, step_spot, Taken, Reduced, reduced, reduce, lately, infix_of, word_of, may_stand, worded, keyword_word, specifier_at, first_word, paren_at, close_call, want_sign, want_keyword, operand_at, step_want, infix_at, infix_of_level, goes_by, specified, argument_at, close_at, bracket_at, brace_at, colon_at, have_sign, step_have, step_selecting, qualifier_of, may_name, may_lack_name, qualified, after_parameter, after_member, after_type_name, after_group, ended, only_pointers, pointing_qualifier, pointing_keyword, opened_at, pointing_sign, step_pointing, opened_sign, step_opened, step_direct, step_bracket, no_parameters_at, step_parameters, ellipsis_at, step_ellipsis, words_ended, step_words, ended_word, step_compound, step_tag, body_ended, step_enum, step_enum_tag, listing_ended, step_enumerator, enumerator_named, step_enumerator_name, step_at}
use Rattle.hv_grammar.proofs.Reached.{is_sized}

abbrev pub pending_at : List Frame → At → Bool
pending_at stack Want = is_sized stack
pending_at stack _ = false

-- the machine stands after such a `(`
abbrev pub is_pending : State → Bool
is_pending m = pending_at m.stack m.at

-- the element that the frames are of; None in an expression alone
abbrev pub root_of : List Frame → Option Standing
root_of [] = None
root_of (Declares s c ∷ stack) = Some s
root_of (Statement s c ∷ stack) = Some s
root_of (_ ∷ stack) = root_of stack

abbrev pub root_at : List Frame → At → Option Standing
root_at stack (AtSpot s x) = Some s
root_at stack _ = root_of stack

-- the element that the machine is in
abbrev pub root : State → Option Standing
root m = root_at m.stack m.at

-- what was taken says so, in the same element; the truth value says whether it may be late
pub record Steady (b : Bool) (g : Option Standing) (k : Taken) : Type 0 where
  pub late : b ≡ false → k.late ≡ false
  pub pending : is_pending k.state ≡ k.sized
  pub quiet : k.sized ≡ true → k.role ≡ inside
  pub rooted : root k.state ≡ g

abbrev pub Steadily : Bool → Option Standing → Option Taken → Type 0
Steadily b g None = Unit {0}
Steadily b g (Some k) = Steady b g k

plain : {b : Bool} {g : Option Standing} {m : State} {r : Role} {d : ℕ} → is_pending m ≡ false
    → root m ≡ g
    → Steady b g (record { state = m; depth = d; role = r; late = false; sized = false })
plain e f = record { late = λ f. refl; pending = e; quiet = λ f. cc; rooted = f }

either_way : (b : Bool) (g : Option Standing) (c : Bool) (u v : Option Taken) → Steadily b g u
    → Steadily b g v → Steadily b g (cond c u v)
either_way b g true u v h i = h
either_way b g false u v h i = i

------ before an operand

steady_paren : (stack : List Frame) (q : Place) → Steadily false (root_of stack) (paren_at stack q)
steady_paren (Sizeof p ∷ stack) q = record { late = λ e. refl; pending = refl; quiet = λ e. refl; rooted = refl }
steady_paren stack q = plain refl refl

steady_call : (stack : List Frame) → Steadily false (root_of stack) (close_call stack)
steady_call (Callee a ∷ stack) = plain refl refl
steady_call _ = tt

steady_want_sign : (stack : List Frame) (p : Place) (s : Punct)
    → Steadily false (root_of stack) (want_sign stack p s)
steady_want_sign stack p puncts.LeftParenthesis = steady_paren stack p
steady_want_sign stack p puncts.RightParenthesis = steady_call stack
steady_want_sign stack p puncts.PlusPlus = plain refl refl
steady_want_sign stack p puncts.MinusMinus = plain refl refl
steady_want_sign stack p puncts.And = plain refl refl
steady_want_sign stack p puncts.Star = plain refl refl
steady_want_sign stack p puncts.Plus = plain refl refl
steady_want_sign stack p puncts.Minus = plain refl refl
steady_want_sign stack p puncts.Tilde = plain refl refl
steady_want_sign stack p puncts.Not = plain refl refl
steady_want_sign stack p _ = tt

steady_want_keyword : (stack : List Frame) (p : Place) (k : Keyword)
    → Steadily false (root_of stack) (want_keyword stack p k)
steady_want_keyword stack p keywords.Sizeof = plain refl refl
steady_want_keyword stack p _ = tt

steady_operand : (stack : List Frame) (p : Place) (s : Symbol)
    → Steadily false (root_of stack) (operand_at stack p s)
steady_operand stack p (name n) = plain refl refl
steady_operand stack p (number v) = plain refl refl
steady_operand stack p (text b) = plain refl refl
steady_operand stack p (keyword k) = steady_want_keyword stack p k
steady_operand stack p (sign s) = steady_want_sign stack p s
steady_operand stack p _ = tt

steady_lately : (g : Option Standing) (o : Option Taken) → Steadily false g o
    → Steadily true g (lately o)
steady_lately g None h = tt
steady_lately g (Some k) h =
    record { late = λ e. cc; pending = h.pending; quiet = h.quiet; rooted = h.rooted }

------ specifiers

steady_worded : (b : Bool) (o : Owner) (p : Place) (xs : Specifiers) (stack : List Frame)
    (x : Option Specifier) (other : Option Taken) → Steadily b (root_of stack) other
    → Steadily b (root_of stack) (worded o p xs stack x other)
steady_worded b o p xs stack None other h = h
steady_worded b o p xs stack (Some x) other h = either_way b (root_of stack) (may_stand o x) _ other (plain refl refl) h

steady_keyword : (b : Bool) (o : Owner) (p : Place) (xs : Specifiers) (stack : List Frame)
    (q : Place) (k : Keyword) (other : Option Taken) → Steadily b (root_of stack) other
    → Steadily b (root_of stack) (keyword_word o p xs stack q k other)
steady_keyword b o p xs stack q keywords.Struct other h = plain refl refl
steady_keyword b o p xs stack q keywords.Union other h = plain refl refl
steady_keyword b o p xs stack q keywords.Enum other h = plain refl refl
steady_keyword b o p xs stack q k other h = steady_worded b o p xs stack (word_of q k) other h

steady_specifier : (b : Bool) (o : Owner) (p : Place) (xs : Specifiers) (stack : List Frame)
    (q : Place) (s : Symbol) (other : Option Taken) → Steadily b (root_of stack) other
    → Steadily b (root_of stack) (specifier_at o p xs stack q s other)
steady_specifier b o p xs stack q (keyword k) other h = steady_keyword b o p xs stack q k other h
steady_specifier b o p xs stack q (marked n) other h =
    either_way b (root_of stack) (has_type xs) other _ h (plain refl refl)
steady_specifier b o p xs stack q _ other h = h

steady_want : (stack : List Frame) (p : Place) (s : Symbol)
    → Steadily (is_sized stack) (root_of stack) (step_want stack p s)
steady_want (Parenthesis q ∷ stack) p s =
    either_way false (root_of stack) (nat_le (hole_of stack) 13)
    (first_word of_type_name (CastType q ∷ stack) p s (operand_at (Parenthesis q ∷ stack) p s))
    (operand_at (Parenthesis q ∷ stack) p s)
    (steady_specifier false of_type_name p no_specifiers (CastType q ∷ stack) p s
    (operand_at (Parenthesis q ∷ stack) p s) (steady_operand (Parenthesis q ∷ stack) p s))
    (steady_operand (Parenthesis q ∷ stack) p s)
steady_want (AfterSizeof q ∷ Sizeof r ∷ stack) p s =
    steady_specifier true of_type_name p no_specifiers (SizeofType r ∷ stack) p s
    (lately (operand_at (Parenthesis q ∷ Sizeof r ∷ stack) p s))
    (steady_lately (root_of stack) (operand_at (Parenthesis q ∷ Sizeof r ∷ stack) p s)
    (steady_operand (Parenthesis q ∷ Sizeof r ∷ stack) p s))
steady_want stack p s = steady_operand stack p s

------ after an operand

begun_plain : (i : Infix) (a : Expr) (stack : List Frame) → is_sized (begun i a ∷ stack) ≡ false
begun_plain (by_operator op) a stack = refl
begun_plain (by_assignment op) a stack = refl
begun_plain by_question a stack = refl
begun_plain by_comma a stack = refl
begun_plain by_bracket a stack = refl
begun_plain by_parenthesis a stack = refl

begun_rooted : (i : Infix) (a : Expr) (stack : List Frame)
    → root_of (begun i a ∷ stack) ≡ root_of stack
begun_rooted (by_operator op) a stack = refl
begun_rooted (by_assignment op) a stack = refl
begun_rooted by_question a stack = refl
begun_rooted by_comma a stack = refl
begun_rooted by_bracket a stack = refl
begun_rooted by_parenthesis a stack = refl

-- what ends is no root
completed_root : (f : Frame) (stack : List Frame) → completes f ≡ true
    → root_of stack ≡ root_of (f ∷ stack)
completed_root (Declares s c) stack e = cc
completed_root (Statement s c) stack e = cc
completed_root _ stack e = refl

pub reduced_root : (j : ℕ) (stack : List Frame) (k : ℕ) (a : Expr)
    → root_of (reduce j stack k a).stack ≡ root_of stack
reduced_root j [] k a = refl
reduced_root j (f ∷ stack) k a =
    elim (completes f) as (λ b. completes f ≡ b
    → root_of (cond (cond b (nat_le j (made f)) false) (reduce j stack (made f) (plug f a))
    (reduced (f ∷ stack) k a)).stack ≡ root_of (f ∷ stack)) [
      | true ↦ λ c. elim (nat_le j (made f)) as (λ b. root_of
          (cond b (reduce j stack (made f) (plug f a)) (reduced (f ∷ stack) k a)).stack
          ≡ root_of (f ∷ stack)) [
            | true ↦ reduced_root j stack (made f) (plug f a) ∙ completed_root f stack c
            | false ↦ refl
          ]
      | false ↦ λ c. refl
    ] refl

steadily_reduced : (j : ℕ) (stack : List Frame) (k : ℕ) (a : Expr) (o : Option Taken)
    → Steadily false (root_of (reduce j stack k a).stack) o → Steadily false (root_of stack) o
steadily_reduced j stack k a o h =
    subst (λ (g : Option Standing). Steadily false g o) (reduced_root j stack k a) h

steady_infix : (i : Infix) (r : Reduced) (other : Option Taken)
    → Steadily false (root_of r.stack) other
    → Steadily false (root_of r.stack) (infix_at i r other)
steady_infix i r other h =
    either_way false (root_of r.stack) (nat_le (hole_of r.stack) (makes i)) _ other
    (plain (begun_plain i r.operand r.stack) (begun_rooted i r.operand r.stack)) h

steady_level : (i : Infix) (r : Reduced) → Steadily false (root_of r.stack) (infix_of_level i r)
steady_level i r =
    either_way false (root_of r.stack) (nat_le (left i) r.level) (infix_at i r None) None
    (steady_infix i r None tt) tt

steady_goes_by : (o : Option Infix) (k : ℕ) (stack : List Frame) (a : Expr)
    → Steadily false (root_of stack) (goes_by o k stack a)
steady_goes_by None k stack a = tt
steady_goes_by (Some i) k stack a =
    steadily_reduced (reach i) stack k a _ (steady_level i (reduce (reach i) stack k a))

steady_specified : (stack : List Frame) (q : Place) (d : ℕ) (x : Specifier)
    → Steadily false (root_of stack) (specified stack q d x)
steady_specified (Specified o p xs ∷ stack) q d x = plain refl refl
steady_specified _ q d x = tt

-- the `;` of a declaration
steady_declared : (stack : List Frame) (p : Place) (xs : Specifiers) (ds : InitDeclarators)
    → Steadily false (root_of stack) (declared stack p xs ds)
steady_declared (Declares s c ∷ []) p xs ds = plain refl refl
steady_declared _ p xs ds = tt

steady_initialized : (stack : List Frame) (x : Initializer) (s : Punct)
    → Steadily false (root_of stack) (initialized_at stack x s)
steady_initialized (Designated g ∷ Braces q xs ∷ stack) x puncts.Comma = plain refl refl
steady_initialized (Designated g ∷ Braces q xs ∷ stack) x puncts.RightBrace = plain refl refl
steady_initialized (Initialized y ∷ Declaring p xs ds ∷ stack) x puncts.Comma = plain refl refl
steady_initialized (Initialized y ∷ Declaring p xs ds ∷ stack) x puncts.Semicolon =
    steady_declared stack p xs _
steady_initialized _ x s = tt

steady_part : (s : Standing) (c : Part) (b : Expr) (t : Symbol)
    → Steadily false (Some s) (part_at s c b t)
steady_part s c b t = either_way false (Some s) (meets (closer c) t) _ None (plain refl refl) tt

steady_argument : (stack : List Frame) (b : Expr) → Steadily false (root_of stack) (argument_at stack b)
steady_argument (Callee a ∷ stack) b = plain refl refl
steady_argument (Calling a xs ∷ stack) b = plain refl refl
steady_argument (Valued p n ∷ Listing q t es ∷ stack) b = plain refl refl
steady_argument (Designated g ∷ stack) b =
    steady_initialized (Designated g ∷ stack) _ puncts.Comma
steady_argument (Initialized x ∷ stack) b =
    steady_initialized (Initialized x ∷ stack) _ puncts.Comma
steady_argument _ b = tt

steady_close : (stack : List Frame) (b : Expr) → Steadily false (root_of stack) (close_at stack b)
steady_close (Parenthesis p ∷ stack) b = plain refl refl
steady_close (Callee a ∷ stack) b = plain refl refl
steady_close (Calling a xs ∷ stack) b = plain refl refl
steady_close (Statement s c ∷ []) b = steady_part s c b right_paren
steady_close _ b = tt

steady_bracket_at : (stack : List Frame) (b : Expr) → Steadily false (root_of stack) (bracket_at stack b)
steady_bracket_at (Subscript a ∷ stack) b = plain refl refl
steady_bracket_at (Length m p ps c ss q qs ∷ stack) b = plain refl refl
steady_bracket_at (Index p ∷ stack) b = plain refl refl
steady_bracket_at _ b = tt

steady_brace : (stack : List Frame) (b : Expr) → Steadily false (root_of stack) (brace_at stack b)
steady_brace (Valued p n ∷ Listing q t es ∷ stack) b = steady_specified stack q _ _
steady_brace (Designated g ∷ stack) b =
    steady_initialized (Designated g ∷ stack) _ puncts.RightBrace
steady_brace _ b = tt

steady_colon : (stack : List Frame) (b : Expr) → Steadily false (root_of stack) (colon_at stack b)
steady_colon (Then a ∷ stack) b = plain refl refl
steady_colon (Statement s c ∷ []) b = steady_part s c b colon
steady_colon _ b = tt

steady_semicolon : (stack : List Frame) (b : Expr)
    → Steadily false (root_of stack) (semicolon_at stack b)
steady_semicolon (Initialized x ∷ stack) b =
    steady_initialized (Initialized x ∷ stack) _ puncts.Semicolon
steady_semicolon (Statement s c ∷ []) b = steady_part s c b semicolon
steady_semicolon _ b = tt

steady_have : (stack : List Frame) (k : ℕ) (a : Expr) (s : Punct)
    → Steadily false (root_of stack) (have_sign stack k a s)
steady_have stack k a puncts.Comma =
    steadily_reduced 0 stack k a _ (steady_infix by_comma (reduce 0 stack k a) _
    (steady_argument (reduce 0 stack k a).stack (reduce 0 stack k a).operand))
steady_have stack k a puncts.RightParenthesis =
    steadily_reduced 0 stack k a _
    (steady_close (reduce 0 stack k a).stack (reduce 0 stack k a).operand)
steady_have stack k a puncts.RightBracket =
    steadily_reduced 0 stack k a _
    (steady_bracket_at (reduce 0 stack k a).stack (reduce 0 stack k a).operand)
steady_have stack k a puncts.RightBrace =
    steadily_reduced 0 stack k a _
    (steady_brace (reduce 0 stack k a).stack (reduce 0 stack k a).operand)
steady_have stack k a puncts.Colon =
    steadily_reduced 0 stack k a _
    (steady_colon (reduce 0 stack k a).stack (reduce 0 stack k a).operand)
steady_have stack k a puncts.Semicolon =
    steadily_reduced 0 stack k a _
    (steady_semicolon (reduce 0 stack k a).stack (reduce 0 stack k a).operand)
steady_have stack k a puncts.Dot = either_way false (root_of stack) (nat_le 15 k) _ None (plain refl refl) tt
steady_have stack k a puncts.Arrow = either_way false (root_of stack) (nat_le 15 k) _ None (plain refl refl) tt
steady_have stack k a puncts.PlusPlus = either_way false (root_of stack) (nat_le 15 k) _ None (plain refl refl) tt
steady_have stack k a puncts.MinusMinus = either_way false (root_of stack) (nat_le 15 k) _ None (plain refl refl) tt
steady_have stack k a s = steady_goes_by (infix_of s) k stack a

steady_have_at : (stack : List Frame) (k : ℕ) (a : Expr) (s : Symbol)
    → Steadily false (root_of stack) (step_have stack k a s)
steady_have_at stack k a (sign s) = steady_have stack k a s
steady_have_at stack k a _ = tt

steady_selecting : (stack : List Frame) (x : Selector) (a : Expr) (s : Symbol)
    → Steadily false (root_of stack) (step_selecting stack x a s)
steady_selecting stack x a (name n) = plain refl refl
steady_selecting stack x a _ = tt

------ declarators

steady_parameter : (stack : List Frame) (x : MayDeclarator) (s : Punct)
    → Steadily false (root_of stack) (after_parameter stack x s)
steady_parameter (Owned o r xs ∷ Parameters m p ps c ss b first params ∷ stack) x puncts.Comma =
    plain refl refl
steady_parameter (Owned o r xs ∷ Parameters m p ps c ss b first params ∷ stack) x
    puncts.RightParenthesis = plain refl refl
steady_parameter _ x s = tt

steady_after_member : (stack : List Frame) (x : Declarator) (s : Punct)
    → Steadily false (root_of stack) (after_member stack x s)
steady_after_member (OwnedMembers r xs ds ∷ stack) x puncts.Comma = plain refl refl
steady_after_member (OwnedMembers r xs ds ∷ Body q k t ms ∷ stack) x puncts.Semicolon = plain refl refl
steady_after_member _ x s = tt

steady_type_name : (stack : List Frame) (x : MayDeclarator) (s : Punct)
    → Steadily false (root_of stack) (after_type_name stack x s)
steady_type_name (Owned o r xs ∷ CastType p ∷ stack) x puncts.RightParenthesis = plain refl refl
steady_type_name (Owned o r xs ∷ SizeofType p ∷ stack) x puncts.RightParenthesis = plain refl refl
steady_type_name _ x s = tt

steady_group : (stack : List Frame) (x : Declarator) (s : Punct)
    → Steadily false (root_of stack) (after_group stack x s)
steady_group (Group m p ps q ∷ stack) x puncts.RightParenthesis = plain refl refl
steady_group _ x s = tt

steady_after_init : (stack : List Frame) (x : Declarator) (s : Punct)
    → Steadily false (root_of stack) (after_init stack x s)
steady_after_init (Declaring p xs ds ∷ stack) x puncts.Comma = plain refl refl
steady_after_init (Declaring p xs ds ∷ stack) x puncts.Equal = plain refl refl
steady_after_init (Declaring p xs ds ∷ stack) x puncts.Semicolon = steady_declared stack p xs _
steady_after_init _ x s = tt

steady_body_at : (stack : List Frame) (x : Declarator) (q : Place)
    → Steadily false (root_of stack) (body_at stack x q)
steady_body_at (Declaring p xs no_init_declarators ∷ Declares External alone ∷ []) x q =
    plain refl refl
steady_body_at _ x q = tt

steady_ended : (stack : List Frame) (x : MayDeclarator) (s : Punct)
    → Steadily false (root_of stack) (ended stack x s)
steady_ended (Owned of_parameter r xs ∷ stack) x s =
    steady_parameter (Owned of_parameter r xs ∷ stack) x s
steady_ended (Owned of_type_name r xs ∷ stack) x s =
    steady_type_name (Owned of_type_name r xs ∷ stack) x s
steady_ended (OwnedMembers r xs ds ∷ stack) (some_declarator x) s =
    steady_after_member (OwnedMembers r xs ds ∷ stack) x s
steady_ended (Group m p ps q ∷ stack) (some_declarator x) s =
    steady_group (Group m p ps q ∷ stack) x s
steady_ended (Declaring p xs ds ∷ stack) (some_declarator x) s =
    steady_after_init (Declaring p xs ds ∷ stack) x s
steady_ended _ x s = tt

steady_qualifier : (m : Mode) (p : Place) (stack : List Frame) (d : ℕ) (o : Option Pointers)
    → Steadily false (root_of stack) (pointing_qualifier m p stack d o)
steady_qualifier m p stack d None = tt
steady_qualifier m p stack d (Some ps) = plain refl refl

steady_pointing_keyword : (m : Mode) (p : Place) (ps : Pointers) (stack : List Frame) (k : Keyword)
    → Steadily false (root_of stack) (pointing_keyword m p ps stack (qualifier_of k))
steady_pointing_keyword m p ps stack keywords.Const = steady_qualifier m p stack _ (qualified ps _)
steady_pointing_keyword m p ps stack keywords.Restrict =
    steady_qualifier m p stack _ (qualified ps _)
steady_pointing_keyword m p ps stack _ = tt

steady_opened_at : (m : Mode) (p : Place) (ps : Pointers) (q : Place) (stack : List Frame)
    → Steadily false (root_of stack) (opened_at m p ps q stack)
steady_opened_at only_named p ps q stack = plain refl refl
steady_opened_at only_abstract p ps q stack = plain refl refl
steady_opened_at either p ps q stack = plain refl refl

steady_pointing_sign : (m : Mode) (p : Place) (ps : Pointers) (stack : List Frame) (q : Place)
    (s : Punct) → Steadily false (root_of stack) (pointing_sign m p ps stack q s)
steady_pointing_sign m p ps stack q puncts.Star = plain refl refl
steady_pointing_sign m p ps stack q puncts.LeftParenthesis = steady_opened_at m _ ps q stack
steady_pointing_sign m p ps stack q puncts.LeftBracket =
    either_way false (root_of stack) (may_lack_name m) _ None (plain refl refl) tt
steady_pointing_sign m p ps stack q s =
    either_way false (root_of stack) (may_lack_name m) (ended stack (only_pointers p ps) s) None
    (steady_ended stack (only_pointers p ps) s) tt

steady_pointing : (m : Mode) (p : Place) (ps : Pointers) (stack : List Frame) (q : Place)
    (s : Symbol) → Steadily false (root_of stack) (step_pointing m p ps stack q s)
steady_pointing m p ps stack q (name n) = either_way false (root_of stack) (may_name m) _ None (plain refl refl) tt
steady_pointing m p ps stack q (keyword k) = steady_pointing_keyword m p ps stack k
steady_pointing m p ps stack q (sign s) = steady_pointing_sign m p ps stack q s
steady_pointing m p ps stack q _ = tt

steady_opened_sign : (m : Mode) (p : Place) (ps : Pointers) (b : Place) (stack : List Frame)
    (q : Place) (s : Symbol) → Steadily false (root_of stack) (opened_sign m p ps b stack q s)
steady_opened_sign m p ps b stack q (sign puncts.RightParenthesis) = plain refl refl
steady_opened_sign m p ps b stack q s = steady_pointing m q no_pointers (Group m p ps b ∷ stack) q s

steady_opened : (m : Mode) (p : Place) (ps : Pointers) (b : Place) (stack : List Frame) (q : Place)
    (s : Symbol) → Steadily false (root_of stack) (step_opened m p ps b stack q s)
steady_opened m p ps b stack q s =
    steady_specifier false of_parameter q no_specifiers _ q s _
    (steady_opened_sign m p ps b stack q s)

steady_direct : (m : Mode) (p : Place) (ps : Pointers) (c : Core) (ss : Suffixes)
    (stack : List Frame) (q : Place) (s : Symbol)
    → Steadily false (root_of stack) (step_direct m p ps c ss stack q s)
steady_direct m p ps c ss stack q (sign puncts.LeftBracket) = plain refl refl
steady_direct m p ps c ss stack q (sign puncts.LeftParenthesis) = plain refl refl
steady_direct m p ps c ss stack q (sign puncts.LeftBrace) = steady_body_at stack _ q
steady_direct m p ps c ss stack q (sign s) = steady_ended stack _ s
steady_direct m p ps c ss stack q _ = tt

steady_bracket_keyword : (m : Mode) (p : Place) (ps : Pointers) (c : Core) (ss : Suffixes)
    (b : Place) (qs : Qualifiers) (stack : List Frame) (q : Place) (k : Keyword)
    → Steadily false (root_of stack) (step_bracket m p ps c ss b qs stack q (keyword k))
steady_bracket_keyword m p ps c ss b qs stack q keywords.Const = plain refl refl
steady_bracket_keyword m p ps c ss b qs stack q keywords.Restrict = plain refl refl
steady_bracket_keyword m p ps c ss b qs stack q k =
    steady_want_keyword (Length m p ps c ss b qs ∷ stack) q k

steady_bracket : (m : Mode) (p : Place) (ps : Pointers) (c : Core) (ss : Suffixes) (b : Place)
    (qs : Qualifiers) (stack : List Frame) (q : Place) (s : Symbol)
    → Steadily false (root_of stack) (step_bracket m p ps c ss b qs stack q s)
steady_bracket m p ps c ss b qs stack q (sign puncts.RightBracket) = plain refl refl
steady_bracket m p ps c ss b qs stack q (keyword k) =
    steady_bracket_keyword m p ps c ss b qs stack q k
steady_bracket m p ps c ss b qs stack q s = steady_operand (Length m p ps c ss b qs ∷ stack) q s

steady_no_parameters : (m : Mode) (p : Place) (ps : Pointers) (c : Core) (ss : Suffixes) (b : Place)
    (stack : List Frame) (s : Symbol)
    → Steadily false (root_of stack) (no_parameters_at m p ps c ss b stack s)
steady_no_parameters m p ps c ss b stack (sign puncts.RightParenthesis) = plain refl refl
steady_no_parameters m p ps c ss b stack _ = tt

steady_parameters : (m : Mode) (p : Place) (ps : Pointers) (c : Core) (ss : Suffixes) (b : Place)
    (stack : List Frame) (q : Place) (s : Symbol)
    → Steadily false (root_of stack) (step_parameters m p ps c ss b stack q s)
steady_parameters m p ps c ss b stack q s =
    steady_specifier false of_parameter q no_specifiers _ q s _
    (steady_no_parameters m p ps c ss b stack s)

steady_ellipsis_at : (stack : List Frame) (s : Symbol) → Steadily false (root_of stack) (ellipsis_at stack s)
steady_ellipsis_at stack (sign puncts.Ellipsis) = plain refl refl
steady_ellipsis_at stack _ = tt

steady_ellipsis : (stack : List Frame) (s : Symbol) → Steadily false (root_of stack) (step_ellipsis stack s)
steady_ellipsis (Parameters m p ps c ss b first params ∷ stack) (sign puncts.RightParenthesis) =
    plain refl refl
steady_ellipsis _ s = tt

------ after specifiers

steady_words_ended : (o : Owner) (p : Place) (xs : Specifiers) (stack : List Frame) (q : Place)
    (s : Symbol) → Steadily false (root_of stack) (words_ended o p xs stack q s)
steady_words_ended of_type_name p xs stack q s = steady_pointing only_abstract q no_pointers _ q s
steady_words_ended of_parameter p xs stack q s = steady_pointing either q no_pointers _ q s
steady_words_ended of_member p xs stack q s = steady_pointing only_named q no_pointers _ q s
steady_words_ended of_declaration p xs stack q (sign puncts.Semicolon) =
    steady_declared stack p xs no_init_declarators
steady_words_ended of_declaration p xs stack q s =
    steady_pointing only_named q no_pointers (Declaring p xs no_init_declarators ∷ stack) q s

steady_words : (o : Owner) (p : Place) (xs : Specifiers) (stack : List Frame) (q : Place)
    (s : Symbol) → Steadily false (root_of stack) (step_words o p xs stack q s)
steady_words o p xs stack q s =
    steady_specifier false o p xs stack q s _ (steady_words_ended o p xs stack q s)

steady_ended_word : (stack : List Frame) (x : Specifier) (q : Place) (s : Symbol)
    → Steadily false (root_of stack) (ended_word stack x q s)
steady_ended_word (Specified o p xs ∷ stack) x q s = steady_words o p _ stack q s
steady_ended_word _ x q s = tt

steady_compound : (p : Place) (k : StructOrUnion) (stack : List Frame) (q : Place) (s : Symbol)
    → Steadily false (root_of stack) (step_compound p k stack q s)
steady_compound p k stack q (name n) = plain refl refl
steady_compound p k stack q (sign puncts.LeftBrace) = plain refl refl
steady_compound p k stack q _ = tt

steady_tag : (p : Place) (k : StructOrUnion) (r : Place) (n : List ℕ) (stack : List Frame)
    (q : Place) (s : Symbol) → Steadily false (root_of stack) (step_tag p k r n stack q s)
steady_tag p k r n stack q (sign puncts.LeftBrace) = plain refl refl
steady_tag p k r n stack q s = steady_ended_word stack _ q s

steady_body_ended : (stack : List Frame) (s : Symbol) → Steadily false (root_of stack) (body_ended stack s)
steady_body_ended (Body q k t (then_member ms m) ∷ stack) (sign puncts.RightBrace) =
    steady_specified stack q _ _
steady_body_ended _ s = tt

steady_enum : (p : Place) (stack : List Frame) (q : Place) (s : Symbol)
    → Steadily false (root_of stack) (step_enum p stack q s)
steady_enum p stack q (name n) = plain refl refl
steady_enum p stack q (sign puncts.LeftBrace) = plain refl refl
steady_enum p stack q _ = tt

steady_enum_tag : (p r : Place) (n : List ℕ) (stack : List Frame) (q : Place) (s : Symbol)
    → Steadily false (root_of stack) (step_enum_tag p r n stack q s)
steady_enum_tag p r n stack q (sign puncts.LeftBrace) = plain refl refl
steady_enum_tag p r n stack q s = steady_ended_word stack _ q s

steady_listing_ended : (stack : List Frame) → Steadily false (root_of stack) (listing_ended stack)
steady_listing_ended (Listing q t (then_enumerator es e) ∷ stack) = steady_specified stack q _ _
steady_listing_ended _ = tt

steady_enumerator : (stack : List Frame) (q : Place) (s : Symbol)
    → Steadily false (root_of stack) (step_enumerator stack q s)
steady_enumerator stack q (name n) = plain refl refl
steady_enumerator stack q (sign puncts.RightBrace) = steady_listing_ended stack
steady_enumerator stack q _ = tt

steady_enumerator_sign : (stack : List Frame) (p : Place) (n : List ℕ) (s : Punct)
    → Steadily false (root_of stack) (enumerator_named stack p n s)
steady_enumerator_sign (Listing q t es ∷ stack) p n puncts.Equal = plain refl refl
steady_enumerator_sign (Listing q t es ∷ stack) p n puncts.Comma = plain refl refl
steady_enumerator_sign (Listing q t es ∷ stack) p n puncts.RightBrace = steady_specified stack q _ _
steady_enumerator_sign _ p n s = tt

steady_enumerator_name : (p : Place) (n : List ℕ) (stack : List Frame) (s : Symbol)
    → Steadily false (root_of stack) (step_enumerator_name p n stack s)
steady_enumerator_name p n stack (sign s) = steady_enumerator_sign stack p n s
steady_enumerator_name p n stack _ = tt

------ initialisers

steady_initializer : (stack : List Frame) (q : Place) (s : Symbol)
    → Steadily false (root_of stack) (step_initializer stack q s)
steady_initializer stack q (sign puncts.LeftBrace) = plain refl refl
steady_initializer stack q s = steady_operand stack q s

steady_braces_ended : (stack : List Frame) → Steadily false (root_of stack) (braces_ended stack)
steady_braces_ended (Braces q (then_initializer xs p g x) ∷ stack) = plain refl refl
steady_braces_ended _ = tt

steady_braces : (stack : List Frame) (q : Place) (s : Symbol)
    → Steadily false (root_of stack) (step_braces stack q s)
steady_braces stack q (sign puncts.LeftBracket) = plain refl refl
steady_braces stack q (sign puncts.Dot) = plain refl refl
steady_braces stack q (sign puncts.RightBrace) = steady_braces_ended stack
steady_braces stack q s = steady_initializer (Designated no_designation ∷ stack) q s

steady_dot : (p : Place) (stack : List Frame) (s : Symbol)
    → Steadily false (root_of stack) (step_dot p stack s)
steady_dot p stack (name n) = plain refl refl
steady_dot p stack _ = tt

steady_designator : (g : Designation) (stack : List Frame) (s : Symbol)
    → Steadily false (root_of stack) (step_designator g stack s)
steady_designator g stack (sign puncts.Equal) = plain refl refl
steady_designator g stack _ = tt

steady_after_initializer : (stack : List Frame) (x : Initializer) (s : Symbol)
    → Steadily false (root_of stack) (step_initialized stack x s)
steady_after_initializer stack x (sign s) = steady_initialized stack x s
steady_after_initializer stack x _ = tt

------ elements

steady_fixed : (e : Fixed) (m : State) (g : Standing) (t : Symbol) → is_pending m ≡ false
    → root m ≡ Some g → Steadily false (Some g) (cond (meets e t) (loosely m 0) None)
steady_fixed e m g t h i = either_way false (Some g) (meets e t) (loosely m 0) None (plain h i) tt

steady_optional : (s : Standing) (c : Optional) (q : Place) (t : Symbol)
    → Steadily false (Some s) (optional_at s c q t)
steady_optional s c q t =
    either_way false (Some s) (meets (closer (optional c)) t) _
    (operand_at (Statement s (optional c) ∷ []) q t) (plain refl refl)
    (steady_operand (Statement s (optional c) ∷ []) q t)

steady_statement : (s : Standing) (q : Place) (t : Symbol)
    → Steadily false (Some s) (statement_at s q t)
steady_statement s q (keyword keywords.Case) = plain refl refl
steady_statement s q (keyword keywords.Default) = plain refl refl
steady_statement s q (keyword keywords.If) = plain refl refl
steady_statement s q (keyword keywords.Switch) = plain refl refl
steady_statement s q (keyword keywords.While) = plain refl refl
steady_statement s q (keyword keywords.Do) = plain refl refl
steady_statement s q (keyword keywords.For) = plain refl refl
steady_statement s q (keyword keywords.Continue) = plain refl refl
steady_statement s q (keyword keywords.Break) = plain refl refl
steady_statement s q (keyword keywords.Return) = plain refl refl
steady_statement s q (sign puncts.LeftBrace) = plain refl refl
steady_statement s q (sign puncts.Semicolon) = plain refl refl
steady_statement s q t = steady_operand (Statement s of_expression ∷ []) q t

steady_lone : (q : Place) (t : Symbol) → Steadily false (Some External) (lone_at q t)
steady_lone q (sign puncts.Semicolon) = plain refl refl
steady_lone q _ = tt

steady_start : (s : Standing) (q : Place) (t : Symbol) → Steadily false (Some s) (start_at s q t)
steady_start External q t =
    steady_specifier false of_declaration q no_specifiers (Declares External alone ∷ []) q t _
    (steady_lone q t)
steady_start Item q t =
    steady_specifier false of_declaration q no_specifiers (Declares Item alone ∷ []) q t _
    (steady_statement Item q t)
steady_start Nested q t = steady_statement Nested q t

steady_spot : (s : Standing) (y : Spot) (q : Place) (t : Symbol)
    → Steadily false (Some s) (step_spot s y q t)
steady_spot s Start q t = steady_start s q t
steady_spot s (Await [] k) q t = tt
steady_spot s (Await (e ∷ es) k) q t = steady_fixed e (spot s (Await es k)) s t refl refl
steady_spot s (Opening [] c) q t = tt
steady_spot s (Opening (e ∷ []) c) q t = steady_fixed e (want (Statement s c ∷ [])) s t refl refl
steady_spot s (Opening (e ∷ f ∷ es) c) q t =
    steady_fixed e (spot s (Opening (f ∷ es) c)) s t refl refl
steady_spot s (AfterIf p a) q t = steady_fixed the_hole (spot s (MayElse p a)) s t refl refl
steady_spot s (MayElse p a) q t = steady_fixed the_else (spot s _) s t refl refl
steady_spot s (ForOpening p) q t = steady_fixed the_opening (spot s (ForStart p)) s t refl refl
steady_spot s (ForStart p) q t =
    steady_specifier false of_declaration q no_specifiers (Declares s (in_for p) ∷ []) q t _
    (steady_optional s (for_first p) q t)
steady_spot s (Before c) q t = steady_optional s c q t

------ all

pub steady : (stack : List Frame) (m : At) (q : Place) (s : Symbol)
    → Steadily (pending_at stack m) (root_at stack m) (step_at stack m q s)
steady stack Want q s = steady_want stack q s
steady stack (Have k a) q s = steady_have_at stack k a s
steady stack (Selecting x a) q s = steady_selecting stack x a s
steady stack (Words o p xs) q s = steady_words o p xs stack q s
steady stack (AfterCompound p k) q s = steady_compound p k stack q s
steady stack (AfterTag p k r n) q s = steady_tag p k r n stack q s
steady stack (AfterEnum p) q s = steady_enum p stack q s
steady stack (AfterEnumTag p r n) q s = steady_enum_tag p r n stack q s
steady stack MemberStart q s =
    steady_specifier false of_member q no_specifiers stack q s _ (steady_body_ended stack s)
steady stack EnumeratorStart q s = steady_enumerator stack q s
steady stack (AfterEnumerator p n) q s = steady_enumerator_name p n stack s
steady stack (Pointing m p ps) q s = steady_pointing m p ps stack q s
steady stack (Opened m p ps b) q s = steady_opened m p ps b stack q s
steady stack (Direct m p ps c ss) q s = steady_direct m p ps c ss stack q s
steady stack (Bracket m p ps c ss b qs) q s = steady_bracket m p ps c ss b qs stack q s
steady stack (ParametersStart m p ps c ss b) q s = steady_parameters m p ps c ss b stack q s
steady stack ParameterNext q s =
    steady_specifier false of_parameter q no_specifiers stack q s _ (steady_ellipsis_at stack s)
steady stack AfterEllipsis q s = steady_ellipsis stack s
steady stack InitializerStart q s = steady_initializer stack q s
steady stack BracesStart q s = steady_braces stack q s
steady stack (AfterDot p) q s = steady_dot p stack s
steady stack (AfterDesignator g) q s = steady_designator g stack s
steady stack (AfterInitializer x) q s = steady_after_initializer stack x s
steady stack (AtSpot x y) q s = steady_spot x y q s
