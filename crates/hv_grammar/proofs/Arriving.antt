-- What the machine makes of the tokens of an expression, production by production.
use Rattle.std.proofs.Common.{◌≡◌, ℕ, suc, ◌≤◌, Bool, true, false, cond, List, [], ◌∷◌, refl, sym, ap, ◌∙◌, arith, Option, Some, subst}
use Rattle.std.proofs.lemmas.Bool.Decides.{nat_tests}
use Rattle.std.specs.Prelude.{nat_le}
use Rattle.hv_base.specs.declared.place.Place.{Place}
use Rattle.hv_base.specs.declared.keyword.Keyword.TheVariants as keywords
use Rattle.hv_base.specs.declared.punct.Punct.TheVariants as puncts
use Rattle.hv_ctree.specs.declared.tree.words.AssignmentOperator.{AssignmentOperator}
use Rattle.hv_ctree.specs.declared.tree.words.AssignmentOperator.TheVariants as assignments
use Rattle.hv_base.specs.declared.operator.BinaryOperator.{BinaryOperator}
use Rattle.hv_base.specs.declared.operator.BinaryOperator.TheVariants as binaries
use Rattle.hv_ctree.specs.declared.tree.words.Constant.{Constant}
use Rattle.hv_ctree.specs.declared.tree.words.Selector.{Selector}
use Rattle.hv_ctree.specs.declared.tree.words.Selector.TheVariants.{Dot, Arrow}
use Rattle.hv_ctree.specs.declared.tree.words.Step.{Step as StepSign}
use Rattle.hv_ctree.specs.declared.tree.words.Step.TheVariants.{Increment, Decrement}
use Rattle.hv_ctree.specs.declared.tree.words.UnaryOperator.{UnaryOperator}
use Rattle.hv_ctree.specs.declared.tree.words.UnaryOperator.TheVariants.{Address, Indirection, Plus, Minus, Complement, Not}
use Rattle.hv_ctree.specs.tree.Expressions.{Expr, identifier, constant, string, parenthesized, subscript, call, member, postfix, prefix, unary, sizeof_expr, binary, conditional, assign, comma, Arguments, no_arguments, then_argument, TypeName, place_of}
use Rattle.hv_grammar.specs.Symbols.{Symbol, keyword, name, marked, number, text, sign, Role, outside, inside, operator, Marked, at, counted, token_at, left_paren, right_paren, left_bracket, right_bracket, comma_sign, colon, binary_sign, level, unary_sign, assignment_sign, selector_sign, step_sign}
use Rattle.hv_grammar.specs.Symbols as symbols
use Rattle.hv_grammar.specs.machine.Frames.{Frame, Parenthesis, AfterSizeof, Subscript, Callee, Calling, Prefix, Unary, Sizeof, Cast, Binary, Then, Else, Assign, Comma, hole, hole_of, made, depth, completes, plug, State, Want, Selecting, Infix, by_operator, by_assignment, by_question, by_comma, by_bracket, by_parenthesis, left, reach, makes, begun, weigh_at}
use Rattle.hv_grammar.specs.machine.Steps.{state, want, have, Taken, took, quiet, loud, lately, Reduced, reduced, reduce, operand_at, infix_of_level, goes_on, comma_at, close_at, bracket_at, colon_at, after, after_postfix, step, step_at, step_have}
use Rattle.hv_grammar.specs.machine.Moves.{Takes, taken, taken_to_count, Moves, stays, takes}

pub level-least : (op : BinaryOperator) → 3 ≤ level op
level-least binaries.Multiply = omega arith
level-least binaries.Divide = omega arith
level-least binaries.Remainder = omega arith
level-least binaries.Add = omega arith
level-least binaries.Subtract = omega arith
level-least binaries.ShiftLeft = omega arith
level-least binaries.ShiftRight = omega arith
level-least binaries.Less = omega arith
level-least binaries.Greater = omega arith
level-least binaries.LessEqual = omega arith
level-least binaries.GreaterEqual = omega arith
level-least binaries.Equal = omega arith
level-least binaries.NotEqual = omega arith
level-least binaries.And = omega arith
level-least binaries.ExclusiveOr = omega arith
level-least binaries.Or = omega arith
level-least binaries.LogicalAnd = omega arith
level-least binaries.LogicalOr = omega arith

pub level-most : (op : BinaryOperator) → level op ≤ 12
level-most binaries.Multiply = omega arith
level-most binaries.Divide = omega arith
level-most binaries.Remainder = omega arith
level-most binaries.Add = omega arith
level-most binaries.Subtract = omega arith
level-most binaries.ShiftLeft = omega arith
level-most binaries.ShiftRight = omega arith
level-most binaries.Less = omega arith
level-most binaries.Greater = omega arith
level-most binaries.LessEqual = omega arith
level-most binaries.GreaterEqual = omega arith
level-most binaries.Equal = omega arith
level-most binaries.NotEqual = omega arith
level-most binaries.And = omega arith
level-most binaries.ExclusiveOr = omega arith
level-most binaries.Or = omega arith
level-most binaries.LogicalAnd = omega arith
level-most binaries.LogicalOr = omega arith

pub joined : {m n o : State} {x y z : Bool} {ts us vs : List Marked} → Moves m x ts n y us
    → Moves n y us o z vs → Moves m x ts o z vs
joined stays h = h
joined (takes e g) h = takes e (joined g h)

pub one : {m n : State} {x y : Bool} {t : Marked} {ts : List Marked} → Takes m x t n y
    → Moves m x (t ∷ ts) n y ts
one e = takes e stays

-- a step at a token whose marks are as the machine says
pub steps : (m : State) (r : Role) (n : State) {d e : ℕ} (p : Place) (s : Symbol)
    → step m (token_at p s) ≡ took r n e → d ≡ e → Takes m false (at r d p s) n false
steps m r n p s h e = taken false refl (h ∙ ap (took r n) (sym e))

------ where an operand may begin

-- whether the terminal begins an operand
abbrev pub begins_operand : Symbol → Bool
begins_operand (name n) = true
begins_operand (number v) = true
begins_operand (text b) = true
begins_operand (keyword keywords.Sizeof) = true
begins_operand (sign puncts.LeftParenthesis) = true
begins_operand (sign puncts.PlusPlus) = true
begins_operand (sign puncts.MinusMinus) = true
begins_operand (sign puncts.And) = true
begins_operand (sign puncts.Star) = true
begins_operand (sign puncts.Plus) = true
begins_operand (sign puncts.Minus) = true
begins_operand (sign puncts.Tilde) = true
begins_operand (sign puncts.Not) = true
begins_operand _ = false

abbrev pub late_if : Bool → Option Taken → Option Taken
late_if false o = o
late_if true o = lately o

late_took : (x : Bool) (r : Role) (n : State) (d : ℕ)
    → late_if x (took r n d) ≡ Some (record
    { state = n; depth = d; role = r; late = x; sized = false })
late_took false r n d = refl
late_took true r n d = refl

-- a `(` directly after `sizeof`
abbrev pub sized_at : State → ℕ → Option Taken
sized_at n d = Some (record { state = n; depth = d; role = inside; late = false; sized = true })

late_sized : (x : Bool) (n : State) (d : ℕ)
    → late_if x (sized_at n d) ≡ Some (record
    { state = n; depth = d; role = inside; late = x; sized = true })
late_sized false n d = refl
late_sized true n d = refl

-- what begins an operand begins one upon these frames
pub record Entry (m : State) (x : Bool) (before : List Frame) : Type 0 where
  pub enters : (p : Place) (s : Symbol) → begins_operand s ≡ true
      → step_at m.stack m.at p s ≡ late_if x (operand_at before p s)

-- the first token of an operand
pub entered : {m : State} {x : Bool} {before : List Frame} → Entry m x before
    → (p : Place) (s : Symbol) → begins_operand s ≡ true
    → (r : Role) (n : State) {d e : ℕ} → operand_at before p s ≡ took r n e → d ≡ e
    → Takes m x (at r d p s) n false
entered {x = x} g p s b r n {d} {e} h same =
    taken false refl (g.enters p s b
    ∙ (ap (late_if x) (h ∙ ap (took r n) (sym same)) ∙ late_took x r n d))

pub want_prefix : (p : Place) (s : StepSign) (stack : List Frame)
    → Entry (want (Prefix p s ∷ stack)) false (Prefix p s ∷ stack)
want_prefix p s stack = record { enters = λ q t b. refl }

pub want_unary : (p : Place) (op : UnaryOperator) (stack : List Frame)
    → Entry (want (Unary p op ∷ stack)) false (Unary p op ∷ stack)
want_unary p op stack = record { enters = λ q t b. refl }

pub want_sizeof : (p : Place) (stack : List Frame)
    → Entry (want (Sizeof p ∷ stack)) false (Sizeof p ∷ stack)
want_sizeof p stack = record { enters = λ q t b. refl }

pub want_cast : (p : Place) (t : TypeName) (stack : List Frame)
    → Entry (want (Cast p t ∷ stack)) false (Cast p t ∷ stack)
want_cast p t stack = record { enters = λ q s b. refl }

pub want_then : (a b : Expr) (stack : List Frame)
    → Entry (want (Else a b ∷ stack)) false (Else a b ∷ stack)
want_then a b stack = record { enters = λ q s e. refl }

pub want_calling : (a : Expr) (xs : Arguments) (stack : List Frame)
    → Entry (want (Calling a xs ∷ stack)) false (Calling a xs ∷ stack)
want_calling a xs stack = record { enters = λ q s e. refl }

pub want_begun : (i : Infix) (a : Expr) (stack : List Frame)
    → Entry (want (begun i a ∷ stack)) false (begun i a ∷ stack)
want_begun (by_operator op) a stack = record { enters = λ q s b. refl }
want_begun (by_assignment op) a stack = record { enters = λ q s b. refl }
want_begun by_question a stack = record { enters = λ q s b. refl }
want_begun by_comma a stack = record { enters = λ q s b. refl }
want_begun by_bracket a stack = record { enters = λ q s b. refl }
want_begun by_parenthesis a stack = record { enters = λ q s b. refl }

pub want_nothing : Entry (want []) false []
want_nothing = record { enters = λ q s b. refl }

same_branches : {A : Type 0} (b : Bool) (u : A) → cond b u u ≡ u
same_branches true u = refl
same_branches false u = refl

-- after `(` that is no cast's
pub want_parenthesis : (p : Place) (stack : List Frame)
    → Entry (want (Parenthesis p ∷ stack)) false (Parenthesis p ∷ stack)
want_parenthesis p stack = record { enters = go } where
  go : (q : Place) (s : Symbol) → begins_operand s ≡ true
      → step_at (Parenthesis p ∷ stack) Want q s ≡ operand_at (Parenthesis p ∷ stack) q s
  go q (name n) b = same_branches (nat_le (hole_of stack) 13) _
  go q (number v) b = same_branches (nat_le (hole_of stack) 13) _
  go q (text v) b = same_branches (nat_le (hole_of stack) 13) _
  go q (keyword keywords.Sizeof) b = same_branches (nat_le (hole_of stack) 13) _
  go q (sign s) b = same_branches (nat_le (hole_of stack) 13) _
  go q _ b = cc

pub want_sized : (p q : Place) (stack : List Frame)
    → Entry (want (AfterSizeof q ∷ Sizeof p ∷ stack)) true (Parenthesis q ∷ Sizeof p ∷ stack)
want_sized p q stack = record { enters = go } where
  go : (r : Place) (s : Symbol) → begins_operand s ≡ true
      → step_at (AfterSizeof q ∷ Sizeof p ∷ stack) Want r s
      ≡ lately (operand_at (Parenthesis q ∷ Sizeof p ∷ stack) r s)
  go r (name n) b = refl
  go r (number v) b = refl
  go r (text v) b = refl
  go r (keyword keywords.Sizeof) b = refl
  go r (sign s) b = refl
  go r _ b = cc

------ reduction

record Reaches (i : Infix) : Type 0 where
  most : makes i ≤ reach i
  unary_too : 13 ≤ makes i → 15 ≤ reach i
  arm : 2 ≤ makes i → 3 ≤ reach i
  right : 1 ≤ makes i → 2 ≤ reach i

reaches : (i : Infix) → Reaches i
reaches (by_operator op) = let u = level-least op in let v = level-most op in
    record {
      most = omega arith;
      unary_too = λ h. omega arith;
      arm = λ h. omega arith;
      right =
          λ h. omega arith;
    }
reaches (by_assignment op) =
    record {
      most = omega arith;
      unary_too = λ h. omega arith;
      arm = λ h. omega arith;
      right =
          λ h. omega arith;
    }
reaches by_question =
    record {
      most = omega arith;
      unary_too = λ h. omega arith;
      arm = λ h. omega arith;
      right =
          λ h. omega arith;
    }
reaches by_comma =
    record {
      most = omega arith;
      unary_too = λ h. omega arith;
      arm = λ h. omega arith;
      right =
          λ h. omega arith;
    }
reaches by_bracket =
    record {
      most = omega arith;
      unary_too = λ h. omega arith;
      arm = λ h. omega arith;
      right =
          λ h. omega arith;
    }
reaches by_parenthesis =
    record {
      most = omega arith;
      unary_too = λ h. omega arith;
      arm = λ h. omega arith;
      right =
          λ h. omega arith;
    }

below_reach : (i : Infix) (f : Frame) → completes f ≡ true → hole f ≤ makes i
    → suc (made f) ≤ reach i
below_reach i (Prefix p s) c h = (reaches i).unary_too (omega arith)
below_reach i (Unary p op) c h = (reaches i).unary_too h
below_reach i (Sizeof p) c h = (reaches i).unary_too (omega arith)
below_reach i (Cast p t) c h = let e = (reaches i).unary_too h in omega arith
below_reach i (Binary op a) c h = let e = (reaches i).most in omega arith
below_reach i (Else a b) c h = (reaches i).arm h
below_reach i (Assign op a) c h = (reaches i).right h
below_reach i (Comma a) c h = let e = (reaches i).most in omega arith
below_reach i _ c h = cc

-- a token that fits after what is in the frame doesn't end the frame
apart : (i : Infix) (stack : List Frame) (k : ℕ) (a : Expr) → hole_of stack ≤ makes i
    → reduce (reach i) stack k a ≡ reduced stack k a
apart i [] k a h = refl
apart i (f ∷ stack) k a h =
    elim (completes f) as (λ b. completes f ≡ b
    → cond (cond b (nat_le (reach i) (made f)) false) (reduce (reach i) stack (made f) (plug f a))
    (reduced (f ∷ stack) k a) ≡ reduced (f ∷ stack) k a) [
      | true ↦ λ c. let l = below_reach i f c h in let e : nat_le (reach i) (made f) ≡ false =
          grind (arith, nat_tests) in rw e refl
      | false ↦ λ c. refl
    ] refl

-- what completes the frame ends it before a token of a level that is low enough
pub passed : (p : ℕ) (f : Frame) (stack : List Frame) (k : ℕ) (a : Expr) → completes f ≡ true
    → p ≤ made f → reduce p (f ∷ stack) k a ≡ reduce p stack (made f) (plug f a)
passed p f stack k a c h = let e : nat_le p (made f) ≡ true = grind (arith, nat_tests) in
    rw (c, e) refl

-- the machine has read an expression of the level, but for what ends after it
pub record Arrives (m : State) (x : Bool) (k : ℕ) (before : List Frame) (ts us : List Marked)
    (a : Expr) : Type 0 where
  pub stack : List Frame
  pub real : ℕ
  pub last : Expr
  pub final : ℕ
  pub least : k ≤ final
  pub moves : Moves m x ts (have real stack last) false us
  pub ended : (p : ℕ) → p ≤ k → p ≤ 13 → reduce p stack real last ≡ reduce p before final a
  pub exact : 15 ≤ k → reduced stack real last ≡ reduced before final a

pub arrives_leaf : {m : State} {x : Bool} (before : List Frame) (a : Expr) {ts us : List Marked}
    → Moves m x ts (have 15 before a) false us → Arrives m x 15 before ts us a
arrives_leaf before a g =
    record {
      stack = before;
      real = 15;
      last = a;
      final = 15;
      least = omega arith;
      moves = g;
      ended = λ p h l. refl;
      exact = λ h. refl;
    }

-- the same of an expression of level 14
pub arrives_sized : {m : State} {x : Bool} (before : List Frame) (a : Expr) {ts us : List Marked}
    → Moves m x ts (have 14 before a) false us → Arrives m x 14 before ts us a
arrives_sized before a g =
    record {
      stack = before;
      real = 14;
      last = a;
      final = 14;
      least = omega arith;
      moves = g;
      ended = λ p h l. refl;
      exact = λ h. absurd (omega arith);
    }

pub arrives_higher : {m : State} {x : Bool} {k : ℕ} {before : List Frame} {ts us : List Marked}
    {a : Expr} → Arrives m x (suc k) before ts us a → Arrives m x k before ts us a
arrives_higher h =
    record {
      stack = h.stack;
      real = h.real;
      last = h.last;
      final = h.final;
      least = let l = h.least
          in omega arith;
      moves = h.moves;
      ended = λ p l n. h.ended p (omega arith) n;
      exact =
          λ l. h.exact (omega arith);
    }

pub arrives_completed : {m n : State} {x : Bool} (f : Frame) (before : List Frame) (k : ℕ)
    (b : Expr) {ts us vs : List Marked} → completes f ≡ true → made f ≤ 14
    → ((p : ℕ) → p ≤ made f → p ≤ 13 → p ≤ k) → Moves m x ts n false us
    → Arrives n false k (f ∷ before) us vs b → Arrives m x (made f) before ts vs (plug f b)
arrives_completed f before k b c most low g h = record {
  stack = h.stack;
  real = h.real;
  last = h.last;
  final = made f;
  least = omega arith;
  moves = joined g h.moves;
  ended = λ p l n. h.ended p (low p l n) n ∙ passed p f before h.final b c l;
  exact = λ l. absurd (omega arith);
}

settled : (i : Infix) (k : ℕ) {m : State} {x : Bool} {before : List Frame} {ts us : List Marked}
    {a : Expr} → left i ≤ k → (h : Arrives m x k before ts us a)
    → reduce (reach i) h.stack h.real h.last ≡ reduce (reach i) before h.final a
settled (by_operator op) k le h = let l = level-most op in h.ended (level op) le (omega arith)
settled (by_assignment op) k le h = h.ended 13 (omega arith) (omega arith)
settled by_question k le h = h.ended 3 le (omega arith)
settled by_comma k le h = h.ended 0 le (omega arith)
settled by_bracket k le h = ap (λ r. reduce 15 r.stack r.level r.operand) (h.exact le)
settled by_parenthesis k le h = ap (λ r. reduce 15 r.stack r.level r.operand) (h.exact le)

stands : (i : Infix) (l : ℕ) (before : List Frame) (a : Expr) → left i ≤ l
    → hole_of before ≤ makes i
    → infix_of_level i (reduced before l a)
    ≡ loud (want (begun i a ∷ before)) (weigh_at i (depth before))
stands i l before a le fits =
    let e : nat_le (left i) l ≡ true = grind (arith, nat_tests) in
    let f : nat_le (hole_of before) (makes i) ≡ true = grind (arith, nat_tests) in
    rw (e, f) refl

-- the token goes on after a left operand
infix_taken : (i : Infix) (k : ℕ) {m : State} {x : Bool} {before : List Frame} {ts us : List Marked}
    {a : Expr} → left i ≤ k → hole_of before ≤ makes i
    → (h : Arrives m x k before ts us a)
    → goes_on i h.real h.stack h.last
    ≡ loud (want (begun i a ∷ before)) (weigh_at i (depth before))
infix_taken i k {before = before} {a = a} le fits h = let l = h.least in
    ap (infix_of_level i) (settled i k le h ∙ apart i before h.final a fits)
    ∙ stands i h.final before a (omega arith) fits

-- a left operand and the token after it
pub goes : (i : Infix) (k : ℕ) {m : State} {x : Bool} {before : List Frame} {p : Place} {d : ℕ}
    {s : Symbol} {ts us : List Marked} {a : Expr} → left i ≤ k → hole_of before ≤ makes i
    → d ≡ weigh_at i (depth before)
    → ((stack : List Frame) (l : ℕ) (b : Expr) → step_have stack l b s ≡ goes_on i l stack b)
    → Arrives m x k before ts (counted d p s ∷ us) a
    → Moves m x ts (want (begun i a ∷ before)) false us
goes i k {before = before} {p = p} {s = s} {a = a} le fits e f h =
    joined h.moves (one
    (steps (have h.real h.stack h.last) operator (want (begun i a ∷ before)) p s
    (f h.stack h.real h.last ∙ infix_taken i k le fits h) e))

-- after a postfix-expression the machine stands before what was there
pub postfix_moves : {m : State} {x : Bool} {before : List Frame} {ts us : List Marked} {a : Expr}
    → (h : Arrives m x 15 before ts us a) → Moves m x ts (have h.final before a) false us
postfix_moves {m} {x} {before} {ts} {us} h =
    subst (λ (r : Reduced). Moves m x ts (have r.level r.stack r.operand) false us)
    (h.exact (omega arith)) h.moves

pub after_15 : (k : ℕ) (o : Option Taken) → 15 ≤ k → after_postfix k o ≡ o
after_15 k o le = let e : nat_le 15 k ≡ true = grind (arith, nat_tests) in rw e refl

-- the signs of operators
pub binary_goes : (op : BinaryOperator) (stack : List Frame) (l : ℕ) (b : Expr)
    → step_have stack l b (binary_sign op) ≡ goes_on (by_operator op) l stack b
binary_goes binaries.Multiply stack l b = refl
binary_goes binaries.Divide stack l b = refl
binary_goes binaries.Remainder stack l b = refl
binary_goes binaries.Add stack l b = refl
binary_goes binaries.Subtract stack l b = refl
binary_goes binaries.ShiftLeft stack l b = refl
binary_goes binaries.ShiftRight stack l b = refl
binary_goes binaries.Less stack l b = refl
binary_goes binaries.Greater stack l b = refl
binary_goes binaries.LessEqual stack l b = refl
binary_goes binaries.GreaterEqual stack l b = refl
binary_goes binaries.Equal stack l b = refl
binary_goes binaries.NotEqual stack l b = refl
binary_goes binaries.And stack l b = refl
binary_goes binaries.ExclusiveOr stack l b = refl
binary_goes binaries.Or stack l b = refl
binary_goes binaries.LogicalAnd stack l b = refl
binary_goes binaries.LogicalOr stack l b = refl

pub assignment_goes : (op : AssignmentOperator) (stack : List Frame) (l : ℕ) (b : Expr)
    → step_have stack l b (assignment_sign op) ≡ goes_on (by_assignment op) l stack b
assignment_goes assignments.Plain stack l b = refl
assignment_goes assignments.Multiply stack l b = refl
assignment_goes assignments.Divide stack l b = refl
assignment_goes assignments.Remainder stack l b = refl
assignment_goes assignments.Add stack l b = refl
assignment_goes assignments.Subtract stack l b = refl
assignment_goes assignments.ShiftLeft stack l b = refl
assignment_goes assignments.ShiftRight stack l b = refl
assignment_goes assignments.And stack l b = refl
assignment_goes assignments.ExclusiveOr stack l b = refl
assignment_goes assignments.Or stack l b = refl

unary_enters : (op : UnaryOperator) → begins_operand (unary_sign op) ≡ true
unary_enters Address = refl
unary_enters Indirection = refl
unary_enters Plus = refl
unary_enters Minus = refl
unary_enters Complement = refl
unary_enters Not = refl

unary_pushed : (before : List Frame) (p : Place) (op : UnaryOperator)
    → operand_at before p (unary_sign op) ≡ loud (want (Unary p op ∷ before)) (suc (depth before))
unary_pushed before p Address = refl
unary_pushed before p Indirection = refl
unary_pushed before p Plus = refl
unary_pushed before p Minus = refl
unary_pushed before p Complement = refl
unary_pushed before p Not = refl

step_enters : (s : StepSign) → begins_operand (step_sign s) ≡ true
step_enters Increment = refl
step_enters Decrement = refl

step_pushed : (before : List Frame) (p : Place) (s : StepSign)
    → operand_at before p (step_sign s) ≡ loud (want (Prefix p s ∷ before)) (suc (depth before))
step_pushed before p Increment = refl
step_pushed before p Decrement = refl

selects : (stack : List Frame) (k : ℕ) (a : Expr) (s : Selector)
    → step_have stack k a (selector_sign s)
    ≡ after_postfix k (loud (state stack (Selecting s a)) (depth stack))
selects stack k a Dot = refl
selects stack k a Arrow = refl

postfixes : (stack : List Frame) (k : ℕ) (a : Expr) (s : StepSign)
    → step_have stack k a (step_sign s)
    ≡ after_postfix k (loud (have 15 stack (postfix (place_of a) s a)) (depth stack))
postfixes stack k a Increment = refl
postfixes stack k a Decrement = refl

------ the productions

pub arrives_identifier : {m : State} {x : Bool} {before : List Frame} → Entry m x before
    → {d : ℕ} {ts : List Marked} (p : Place) (n : List ℕ) → d ≡ depth before
    → Arrives m x 15 before (symbols.quiet d p (name n) ∷ ts) ts (identifier p n)
arrives_identifier {before = before} g p n e =
    arrives_leaf before (identifier p n)
    (one (entered g p (name n) refl inside (have 15 before (identifier p n)) refl e))

pub arrives_constant : {m : State} {x : Bool} {before : List Frame} → Entry m x before
    → {d : ℕ} {ts : List Marked} (p : Place) (v : Constant) → d ≡ depth before
    → Arrives m x 15 before (symbols.quiet d p (number v) ∷ ts) ts (constant p v)
arrives_constant {before = before} g p v e =
    arrives_leaf before (constant p v)
    (one (entered g p (number v) refl inside (have 15 before (constant p v)) refl e))

pub arrives_string : {m : State} {x : Bool} {before : List Frame} → Entry m x before
    → {d : ℕ} {ts : List Marked} (p : Place) (b : List ℕ) → d ≡ depth before
    → Arrives m x 15 before (symbols.quiet d p (text b) ∷ ts) ts (string p b)
arrives_string {before = before} g p b e =
    arrives_leaf before (string p b)
    (one (entered g p (text b) refl inside (have 15 before (string p b)) refl e))

-- `(`, and the state after it
pub record Opens (m : State) (x : Bool) (before : List Frame) (d : ℕ) (p : Place) : Type 0 where
  pub there : State
  pub pending : Bool
  pub opens : Takes m x (counted (suc d) p left_paren) there pending
  pub entry : Entry there pending (Parenthesis p ∷ before)

opens_plainly : {m : State} {x : Bool} (before : List Frame) {d : ℕ} (p : Place) → Entry m x before
    → d ≡ depth before
    → operand_at before p left_paren ≡ loud (want (Parenthesis p ∷ before)) (suc (depth before))
    → Opens m x before d p
opens_plainly before p g e h = record {
  there = want (Parenthesis p ∷ before);
  pending = false;
  opens = entered g p left_paren refl operator (want (Parenthesis p ∷ before)) h (ap suc e);
  entry = want_parenthesis p before;
}

pub opens_paren : {m : State} {x : Bool} (before : List Frame) {d : ℕ} (p : Place)
    → Entry m x before → d ≡ depth before → Opens m x before d p
opens_paren {x = x} (Sizeof q ∷ stack) {d} p g e = record {
  there = want (AfterSizeof p ∷ Sizeof q ∷ stack);
  pending = true;
  opens =
      taken_to_count refl refl (g.enters p left_paren refl
      ∙ (ap (λ n. late_if x (sized_at (want (AfterSizeof p ∷ Sizeof q ∷ stack)) n)) (sym (ap suc e))
      ∙ late_sized x (want (AfterSizeof p ∷ Sizeof q ∷ stack)) (suc d)));
  entry = want_sized q p stack;
}
opens_paren before p g e = opens_plainly before p g e refl

pub arrives_paren : {m : State} {x : Bool} (before : List Frame) {d : ℕ} (p q : Place)
    {ts us : List Marked} {a : Expr} → d ≡ depth before → (o : Opens m x before d p)
    → Arrives o.there o.pending 0 (Parenthesis p ∷ before) ts
    (symbols.quiet (suc d) q right_paren ∷ us) a
    → Arrives m x 15 before (counted (suc d) p left_paren ∷ ts) us (parenthesized p a)
arrives_paren before p q {a = a} e o h = arrives_leaf before (parenthesized p a)
    (takes o.opens (joined h.moves
    (one (steps (have h.real h.stack h.last) inside (have 15 before (parenthesized p a)) q
    right_paren
    (ap (after close_at) (h.ended 0 (omega arith) (omega arith))) (ap suc e)))))

pub arrives_subscript : {m : State} {x : Bool} (before : List Frame) {d : ℕ} (p q : Place)
    {ts us vs : List Marked} {a b : Expr} → d ≡ depth before → hole_of before ≤ 15
    → Arrives m x 15 before ts (counted (suc d) p left_bracket ∷ us) a
    → Arrives (want (Subscript a ∷ before)) false 0 (Subscript a ∷ before) us
    (symbols.quiet (suc d) q right_bracket ∷ vs) b
    → Arrives m x 15 before ts vs (subscript (place_of a) a b)
arrives_subscript before p q {a = a} {b = b} e fits g h =
    arrives_leaf before (subscript (place_of a) a b)
    (joined (goes by_bracket 15 (omega arith) fits (ap suc e) (λ stack l b. refl) g)
    (joined h.moves (one
    (steps (have h.real h.stack h.last) inside (have 15 before (subscript (place_of a) a b)) q
    right_bracket
    (ap (after bracket_at) (h.ended 0 (omega arith) (omega arith))) (ap suc e)))))

pub arrives_call_none : {m : State} {x : Bool} (before : List Frame) {d : ℕ} (p q : Place)
    {ts us : List Marked} {a : Expr} → d ≡ depth before → hole_of before ≤ 15
    → Arrives m x 15 before ts (counted (suc d) p left_paren ∷ symbols.quiet (suc d) q right_paren ∷
    us) a
    → Arrives m x 15 before ts us (call (place_of a) a no_arguments)
arrives_call_none before p q {a = a} e fits g =
    arrives_leaf before (call (place_of a) a no_arguments)
    (joined (goes by_parenthesis 15 (omega arith) fits (ap suc e) (λ stack l b. refl) g)
    (one (steps (want (Callee a ∷ before)) inside
    (have 15 before (call (place_of a) a no_arguments)) q right_paren refl (ap suc e))))

-- the machine has read arguments, but for what ends after the last one
pub record ArrivesArguments (before : List Frame) (f : Expr) (ts us : List Marked)
    (xs : Arguments) : Type 0 where
  pub stack : List Frame
  pub real : ℕ
  pub last : Expr
  pub moves : Moves (want (Callee f ∷ before)) false ts (have real stack last) false us
  pub next : comma_at (reduce 0 stack real last)
      ≡ quiet (want (Calling f xs ∷ before)) (suc (depth before))
  pub closed : after close_at (reduce 0 stack real last)
      ≡ quiet (have 15 before (call (place_of f) f xs)) (suc (depth before))

pub arrives_first : (before : List Frame) (f : Expr) {ts us : List Marked} {a : Expr}
    → Arrives (want (Callee f ∷ before)) false 1 (Callee f ∷ before) ts us a
    → ArrivesArguments before f ts us (then_argument no_arguments a)
arrives_first before f h = record {
  stack = h.stack;
  real = h.real;
  last = h.last;
  moves = h.moves;
  next = ap comma_at (h.ended 0 (omega arith) (omega arith));
  closed = ap (after close_at) (h.ended 0 (omega arith) (omega arith));
}

pub arrives_next : (before : List Frame) {d : ℕ} (p : Place) (f : Expr) {ts us vs : List Marked}
    {xs : Arguments} {a : Expr} → d ≡ suc (depth before)
    → ArrivesArguments before f ts (symbols.quiet d p comma_sign ∷ us) xs
    → Arrives (want (Calling f xs ∷ before)) false 1 (Calling f xs ∷ before) us vs a
    → ArrivesArguments before f ts vs (then_argument xs a)
arrives_next before p f {xs = xs} e g h = record {
  stack = h.stack;
  real = h.real;
  last = h.last;
  moves =
      joined g.moves (takes
      (steps (have g.real g.stack g.last) inside (want (Calling f xs ∷ before)) p comma_sign g.next
      e) h.moves);
  next = ap comma_at (h.ended 0 (omega arith) (omega arith));
  closed = ap (after close_at) (h.ended 0 (omega arith) (omega arith));
}

pub arrives_call : {m : State} {x : Bool} (before : List Frame) {d : ℕ} (p q : Place)
    {ts us vs : List Marked} {a : Expr} {xs : Arguments} → d ≡ depth before → hole_of before ≤ 15
    → Arrives m x 15 before ts (counted (suc d) p left_paren ∷ us) a
    → ArrivesArguments before a us (symbols.quiet (suc d) q right_paren ∷ vs) xs
    → Arrives m x 15 before ts vs (call (place_of a) a xs)
arrives_call before p q {a = a} {xs = xs} e fits g h = arrives_leaf before (call (place_of a) a xs)
    (joined (goes by_parenthesis 15 (omega arith) fits (ap suc e) (λ stack l b. refl) g)
    (joined h.moves (one
    (steps (have h.real h.stack h.last) inside (have 15 before (call (place_of a) a xs)) q
    right_paren h.closed (ap suc e)))))

pub arrives_member : {m : State} {x : Bool} (before : List Frame) {d : ℕ} (p q : Place) (n : List ℕ)
    (s : Selector) {ts us : List Marked} {a : Expr} → d ≡ depth before
    → Arrives m x 15 before ts (counted d p (selector_sign s) ∷ symbols.quiet d q (name n) ∷ us) a
    → Arrives m x 15 before ts us (member (place_of a) s a n)
arrives_member before p q n s {a = a} e h = arrives_leaf before (member (place_of a) s a n)
    (joined (postfix_moves h)
    (takes (steps (have h.final before a) operator (state before (Selecting s a)) p
    (selector_sign s) (selects before h.final a s ∙ after_15 h.final _ h.least) e)
    (one (steps (state before (Selecting s a)) inside (have 15 before (member (place_of a) s a n)) q
    (name n) refl e))))

pub arrives_postfix : {m : State} {x : Bool} (before : List Frame) {d : ℕ} (p : Place)
    (s : StepSign) {ts us : List Marked} {a : Expr} → d ≡ depth before
    → Arrives m x 15 before ts (counted d p (step_sign s) ∷ us) a
    → Arrives m x 15 before ts us (postfix (place_of a) s a)
arrives_postfix before p s {a = a} e h = arrives_leaf before (postfix (place_of a) s a)
    (joined (postfix_moves h) (one
    (steps (have h.final before a) operator (have 15 before (postfix (place_of a) s a)) p
    (step_sign s) (postfixes before h.final a s ∙ after_15 h.final _ h.least) e)))

pub arrives_prefix : {m : State} {x : Bool} {before : List Frame} → Entry m x before
    → {d : ℕ} (p : Place) (s : StepSign) {ts us : List Marked} {a : Expr} → d ≡ depth before
    → Arrives (want (Prefix p s ∷ before)) false 14 (Prefix p s ∷ before) ts us a
    → Arrives m x 14 before (counted (suc d) p (step_sign s) ∷ ts) us (prefix p s a)
arrives_prefix {before = before} g p s {a = a} e h =
    arrives_completed (Prefix p s) before 14 a refl (omega arith) (λ k u v. omega arith)
    (one (entered g p (step_sign s) (step_enters s) operator (want (Prefix p s ∷ before))
    (step_pushed before p s) (ap suc e))) h

pub arrives_unary : {m : State} {x : Bool} {before : List Frame} → Entry m x before
    → {d : ℕ} (p : Place) (op : UnaryOperator) {ts us : List Marked} {a : Expr} → d ≡ depth before
    → Arrives (want (Unary p op ∷ before)) false 13 (Unary p op ∷ before) ts us a
    → Arrives m x 14 before (counted (suc d) p (unary_sign op) ∷ ts) us (unary p op a)
arrives_unary {before = before} g p op {a = a} e h =
    arrives_completed (Unary p op) before 13 a refl (omega arith) (λ k u v. v)
    (one (entered g p (unary_sign op) (unary_enters op) operator (want (Unary p op ∷ before))
    (unary_pushed before p op) (ap suc e))) h

pub arrives_sizeof : {m : State} {x : Bool} {before : List Frame} → Entry m x before
    → {d : ℕ} (p : Place) {ts us : List Marked} {a : Expr} → d ≡ depth before
    → Arrives (want (Sizeof p ∷ before)) false 14 (Sizeof p ∷ before) ts us a
    → Arrives m x 14 before (counted (suc d) p (keyword keywords.Sizeof) ∷ ts) us (sizeof_expr p a)
arrives_sizeof {before = before} g p {a = a} e h =
    arrives_completed (Sizeof p) before 14 a refl (omega arith) (λ k u v. omega arith)
    (one (entered g p (keyword keywords.Sizeof) refl operator (want (Sizeof p ∷ before)) refl
    (ap suc e))) h

pub arrives_binary : {m : State} {x : Bool} (before : List Frame) {d : ℕ} (p : Place)
    (op : BinaryOperator) {ts us vs : List Marked} {a b : Expr} → d ≡ depth before
    → hole_of before ≤ level op
    → Arrives m x (level op) before ts (counted d p (binary_sign op) ∷ us) a
    → Arrives (want (Binary op a ∷ before)) false (suc (level op)) (Binary op a ∷ before) us vs b
    → Arrives m x (level op) before ts vs (binary (place_of a) op a b)
arrives_binary before p op {a = a} {b = b} e fits g h = let v = level-most op in
    arrives_completed (Binary op a) before (suc (level op)) b refl (omega arith)
    (λ k u w. omega arith)
    (goes (by_operator op) (level op) (omega arith) fits e (binary_goes op) g) h

pub arrives_conditional : {m : State} {x : Bool} (before : List Frame) {d : ℕ} (p q : Place)
    {ts us vs ws : List Marked} {a b c : Expr} → d ≡ depth before → hole_of before ≤ 2
    → Arrives m x 3 before ts (counted (suc d) p (sign puncts.Question) ∷ us) a
    → Arrives (want (Then a ∷ before)) false 0 (Then a ∷ before) us
    (symbols.quiet (suc d) q colon ∷ vs) b
    → Arrives (want (Else a b ∷ before)) false 2 (Else a b ∷ before) vs ws c
    → Arrives m x 2 before ts ws (conditional (place_of a) a b c)
arrives_conditional before p q {a = a} {b = b} {c = c} e fits g h i =
    arrives_completed (Else a b) before 2 c refl (omega arith) (λ k u v. omega arith)
    (joined (goes by_question 3 (omega arith) fits (ap suc e) (λ stack l b. refl) g)
    (joined h.moves (one
    (steps (have h.real h.stack h.last) inside (want (Else a b ∷ before)) q colon
    (ap (after colon_at) (h.ended 0 (omega arith) (omega arith))) (ap suc e))))) i

pub arrives_assign : {m : State} {x : Bool} (before : List Frame) {d : ℕ} (p : Place)
    (op : AssignmentOperator) {ts us vs : List Marked} {a b : Expr} → d ≡ depth before
    → hole_of before ≤ 1
    → Arrives m x 14 before ts (counted d p (assignment_sign op) ∷ us) a
    → Arrives (want (Assign op a ∷ before)) false 1 (Assign op a ∷ before) us vs b
    → Arrives m x 1 before ts vs (assign (place_of a) op a b)
arrives_assign before p op {a = a} {b = b} e fits g h =
    arrives_completed (Assign op a) before 1 b refl (omega arith) (λ k u v. omega arith)
    (goes (by_assignment op) 14 (omega arith) fits e (assignment_goes op) g) h

-- before a comma operator what is of level 0 is ended
comma_goes : {m : State} {x : Bool} (before : List Frame) {ts us : List Marked} {a : Expr}
    → hole_of before ≤ 0 → (h : Arrives m x 0 before ts us a)
    → step_have h.stack h.real h.last comma_sign ≡ loud (want (Comma a ∷ before)) (depth before)
comma_goes before {a = a} fits h =
    let f : nat_le (hole_of before) 0 ≡ true = grind (arith, nat_tests) in
    ap comma_at (h.ended 0 (omega arith) (omega arith) ∙ apart by_comma before h.final a fits)
    ∙ rw f refl

pub arrives_comma : {m : State} {x : Bool} (before : List Frame) {d : ℕ} (p : Place)
    {ts us vs : List Marked} {a b : Expr} → d ≡ depth before → hole_of before ≤ 0
    → Arrives m x 0 before ts (counted d p comma_sign ∷ us) a
    → Arrives (want (Comma a ∷ before)) false 1 (Comma a ∷ before) us vs b
    → Arrives m x 0 before ts vs (comma (place_of a) a b)
arrives_comma before p {a = a} {b = b} e fits g h =
    arrives_completed (Comma a) before 1 b refl (omega arith) (λ k u v. omega arith)
    (joined g.moves (one
    (steps (have g.real g.stack g.last) operator (want (Comma a ∷ before)) p comma_sign
    (comma_goes before fits g) e))) h
