-- The machine reads what the grammar derives, and no other tree.
use Rattle.std.proofs.Common.{◌≡◌, ℕ, zero, suc, ◌≤◌, true, false, List, [], ◌∷◌, ◌++◌, refl, sym, ap, ◌∙◌, append_assoc, arith, Some}
use Rattle.std.proofs.lemmas.List.{append-nil}
use Rattle.std.proofs.lemmas.Bool.Decides.{nat_tests}
use Rattle.std.specs.Prelude.{nat_le, nat_eq, option_and_then}
use Rattle.hv_plain.specs.controlling.Grammar.{Tree, level, sign, Derives, a_number, a_parenthesized, a_unary, a_binary, a_conditional, a_higher, value}
use Rattle.hv_ifexpr.specs.working.Machine.{State, want, have, reduced, reduce, step, run, after_operator, after_question, after_colon, after_close, after_end}
use Rattle.hv_plain.specs.controlling.Values.{binary_value, unary_value, conditional_value}
use Rattle.hv_ifexpr.specs.declared.frame.Frame.{Frame}
use Rattle.hv_ifexpr.specs.declared.frame.Frame.TheVariants.{Parenthesis, Unary, Binary, Then, Else}
use Rattle.hv_plain.specs.declared.controlling.Operand.{Operand}
use Rattle.hv_base.specs.declared.operator.BinaryOperator.{BinaryOperator}
use Rattle.hv_base.specs.declared.operator.BinaryOperator.TheVariants.{Multiply, Divide, Remainder, Add, Subtract, ShiftLeft, ShiftRight, Less, Greater, LessEqual, GreaterEqual, Equal, NotEqual, And, ExclusiveOr, Or, LogicalAnd, LogicalOr}
use Rattle.hv_plain.specs.declared.controlling.Unary.{Unary as UnaryOperator}
use Rattle.hv_plain.specs.declared.controlling.Unary.TheVariants.{Plus, Minus, Complement, Not}
use Rattle.hv_plain.specs.declared.controlling.Symbol.{Symbol}
use Rattle.hv_plain.specs.declared.controlling.Symbol.TheVariants.{Number, Operator, Open, Close, Question, Colon}

pub level-pos : (op : BinaryOperator) → 1 ≤ level op
level-pos Multiply = omega arith
level-pos Divide = omega arith
level-pos Remainder = omega arith
level-pos Add = omega arith
level-pos Subtract = omega arith
level-pos ShiftLeft = omega arith
level-pos ShiftRight = omega arith
level-pos Less = omega arith
level-pos Greater = omega arith
level-pos LessEqual = omega arith
level-pos GreaterEqual = omega arith
level-pos Equal = omega arith
level-pos NotEqual = omega arith
level-pos And = omega arith
level-pos ExclusiveOr = omega arith
level-pos Or = omega arith
level-pos LogicalAnd = omega arith
level-pos LogicalOr = omega arith

pub level-most : (op : BinaryOperator) → level op ≤ 10
level-most Multiply = omega arith
level-most Divide = omega arith
level-most Remainder = omega arith
level-most Add = omega arith
level-most Subtract = omega arith
level-most ShiftLeft = omega arith
level-most ShiftRight = omega arith
level-most Less = omega arith
level-most Greater = omega arith
level-most LessEqual = omega arith
level-most GreaterEqual = omega arith
level-most Equal = omega arith
level-most NotEqual = omega arith
level-most And = omega arith
level-most ExclusiveOr = omega arith
level-most Or = omega arith
level-most LogicalAnd = omega arith
level-most LogicalOr = omega arith

-- no binary operator of such a level, nor a `?`, ends what stands open
pub record Keeps (k : ℕ) (stack : List Frame) : Type 0 where
  pub same : (p : ℕ) (v : Operand) → k ≤ p → 1 ≤ p → p ≤ 10 → reduce p stack v ≡ reduced stack v

-- the machine has read an expression, but for what ends after it
record Arrives (k : ℕ) (before : List Frame) (ts : List Symbol) (v : Operand) : Type 0 where
  stack : List Frame
  last : Operand
  runs : (rest : List Symbol) → run (want before) (ts ++ rest) ≡ run (have stack last) rest
  ended : (p : ℕ) → p ≤ k → reduce p stack last ≡ reduce p before v

keeps_none : (stack : List Frame) → Keeps 11 stack
keeps_none stack = record { same = λ p v a b c. absurd (omega arith) }

keeps_higher : (k : ℕ) (stack : List Frame) → Keeps k stack → Keeps (suc k) stack
keeps_higher k stack h = record { same = λ p v a b c. h.same p v (omega arith) b c }

keeps_open : (k : ℕ) (stack : List Frame) → Keeps k (Parenthesis ∷ stack)
keeps_open k stack = record { same = λ p v a b c. refl }

keeps_then : (k : ℕ) (x : Operand) (stack : List Frame) → Keeps k (Then x ∷ stack)
keeps_then k x stack = record { same = λ p v a b c. refl }

else_kept : (x y v : Operand) (stack : List Frame) (p : ℕ) → 1 ≤ p
    → reduce p (Else x y ∷ stack) v ≡ reduced (Else x y ∷ stack) v
else_kept x y v stack p h = let e : nat_eq p 0 ≡ false = grind (arith, nat_tests) in rw e refl

keeps_else : (k : ℕ) (x y : Operand) (stack : List Frame) → Keeps k (Else x y ∷ stack)
keeps_else k x y stack = record { same = λ p v a b c. else_kept x y v stack p b }

binary_kept : (op : BinaryOperator) (x v : Operand) (stack : List Frame) (p : ℕ)
    → suc (level op) ≤ p → reduce p (Binary op x ∷ stack) v ≡ reduced (Binary op x ∷ stack) v
binary_kept op x v stack p h = let e : nat_le p (level op) ≡ false = grind (arith, nat_tests) in
    rw e refl

keeps_binary : (op : BinaryOperator) (x : Operand) (stack : List Frame)
    → Keeps (suc (level op)) (Binary op x ∷ stack)
keeps_binary op x stack = record { same = λ p v a b c. binary_kept op x v stack p a }

-- a binary operator ends its left side
binary_ended : (op : BinaryOperator) (x v : Operand) (stack : List Frame) (p : ℕ) → p ≤ level op
    → reduce p (Binary op x ∷ stack) v ≡ reduce p stack (binary_value op x v)
binary_ended op x v stack p h = let e : nat_le p (level op) ≡ true = grind (arith, nat_tests) in
    rw e refl

step_sign : (stack : List Frame) (op : UnaryOperator)
    → step (want stack) (sign op) ≡ Some (want (Unary op ∷ stack))
step_sign stack Plus = refl
step_sign stack Minus = refl
step_sign stack Complement = refl
step_sign stack Not = refl

run_step : (m n : State) (symbol : Symbol) (rest : List Symbol) → step m symbol ≡ Some n
    → run m (symbol ∷ rest) ≡ run n rest
run_step m n symbol rest e = ap (option_and_then (λ next. run next rest)) e

arrives_number : (k : ℕ) (before : List Frame) (v : Operand) → Arrives k before (Number v ∷ []) v
arrives_number k before v =
    record { stack = before; last = v; runs = λ rest. refl; ended = λ p h. refl }

arrives_higher : (k : ℕ) (before : List Frame) (ts : List Symbol) (v : Operand)
    → Arrives (suc k) before ts v → Arrives k before ts v
arrives_higher k before ts v a =
    record { stack = a.stack; last = a.last; runs = a.runs; ended = λ p h. a.ended p (omega arith) }

arrives_unary : (before : List Frame) (ts : List Symbol) (op : UnaryOperator) (v : Operand)
    → Arrives 11 (Unary op ∷ before) ts v
    → Arrives 11 before (sign op ∷ ts) (unary_value op v)
arrives_unary before ts op v a = record {
  stack = a.stack;
  last = a.last;
  runs = λ rest. run_step (want before) (want (Unary op ∷ before)) (sign op) (ts ++ rest)
      (step_sign before op) ∙ a.runs rest;
  ended = λ p h. a.ended p h;
}

arrives_parenthesized : (before : List Frame) (ts : List Symbol) (v : Operand)
    → Arrives 0 (Parenthesis ∷ before) ts v → Arrives 11 before (Open ∷ (ts ++ Close ∷ [])) v
arrives_parenthesized before ts v a = record {
  stack = before;
  last = v;
  runs = λ rest. ap (run (want (Parenthesis ∷ before))) (append_assoc ts (Close ∷ []) rest)
      ∙ (a.runs (Close ∷ rest)
      ∙ ap (λ r. option_and_then (λ next. run next rest) (after_close r))
      (a.ended 0 (omega arith)));
  ended = λ p h. refl;
}

arrives_binary : (before : List Frame) (ts us : List Symbol) (op : BinaryOperator) (x y : Operand)
    → Keeps (level op) before → Arrives (level op) before ts x
    → Arrives (suc (level op)) (Binary op x ∷ before) us y
    → Arrives (level op) before (ts ++ Operator op ∷ us) (binary_value op x y)
arrives_binary before ts us op x y keeps a b = record {
  stack = b.stack;
  last = b.last;
  runs = λ rest. ap (run (want before)) (append_assoc ts (Operator op ∷ us) rest)
      ∙ (a.runs (Operator op ∷ (us ++ rest))
      ∙ (ap (λ r. run (after_operator op r) (us ++ rest))
      (a.ended (level op) (omega arith)
      ∙ keeps.same (level op) x (omega arith) (level-pos op) (level-most op))
      ∙ b.runs rest));
  ended = λ p h. b.ended p (omega arith) ∙ binary_ended op x y before p h;
}

none_below : (before : List Frame) (x y v : Operand) (stack : List Frame) (last : Operand)
    → ((p : ℕ) → p ≤ 0 → reduce p stack last ≡ reduce p (Else x y ∷ before) v)
    → (p : ℕ) → p ≤ 0 → reduce p stack last ≡ reduce p before (conditional_value x y v)
none_below before x y v stack last h zero l = h 0 l
none_below before x y v stack last h (suc p) l = absurd (omega arith)

arrives_conditional : (before : List Frame) (cs ts us : List Symbol) (x y z : Operand)
    → Keeps 0 before → Arrives 1 before cs x → Arrives 0 (Then x ∷ before) ts y
    → Arrives 0 (Else x y ∷ before) us z
    → Arrives 0 before (cs ++ Question ∷ (ts ++ Colon ∷ us)) (conditional_value x y z)
arrives_conditional before cs ts us x y z keeps a b c = record {
  stack = c.stack;
  last = c.last;
  runs = λ rest. ap (run (want before)) (append_assoc cs (Question ∷ (ts ++ Colon ∷ us)) rest)
      ∙ (a.runs (Question ∷ ((ts ++ Colon ∷ us) ++ rest))
      ∙ (ap (λ r. run (after_question r) ((ts ++ Colon ∷ us) ++ rest))
      (a.ended 1 (omega arith) ∙ keeps.same 1 x (omega arith) (omega arith) (omega arith))
      ∙ (ap (run (want (Then x ∷ before))) (append_assoc ts (Colon ∷ us) rest)
      ∙ (b.runs (Colon ∷ (us ++ rest))
      ∙ (ap (λ r. option_and_then (λ next. run next (us ++ rest)) (after_colon r))
      (b.ended 0 (omega arith))
      ∙ c.runs rest)))));
  ended = none_below before x y z c.stack c.last c.ended;
}

arrives : {k : ℕ} {ts : List Symbol} {t : Tree} → Derives k ts t → (before : List Frame)
    → Keeps k before → Arrives k before ts (value t)
arrives (a_number v) before h = arrives_number 11 before v
arrives (a_parenthesized {ts = ts} {t = t} d) before h =
    arrives_parenthesized before ts (value t)
    (arrives d (Parenthesis ∷ before) (keeps_open 0 before))
arrives (a_unary {ts = ts} {t = t} op d) before h =
    arrives_unary before ts op (value t)
    (arrives d (Unary op ∷ before) (keeps_none (Unary op ∷ before)))
arrives (a_binary {ts = ts} {us = us} {a = a} {b = b} op d e) before h =
    arrives_binary before ts us op (value a) (value b) h (arrives d before h)
    (arrives e (Binary op (value a) ∷ before) (keeps_binary op (value a) before))
arrives (a_conditional {cs = cs} {ts = ts} {us = us} {c = c} {a = a} {b = b} d e f) before h =
    arrives_conditional before cs ts us (value c) (value a) (value b) h
    (arrives d before (keeps_higher 0 before h))
    (arrives e (Then (value c) ∷ before) (keeps_then 0 (value c) before))
    (arrives f (Else (value c) (value a) ∷ before) (keeps_else 0 (value c) (value a) before))
arrives (a_higher {k = k} {ts = ts} {t = t} d) before h =
    arrives_higher k before ts (value t) (arrives d before (keeps_higher k before h))

-- the machine evaluates each expression
pub run_derived : {ts : List Symbol} {t : Tree} → Derives 0 ts t → run (want []) ts ≡ Some (value t)
run_derived {ts} {t} d =
    let a : Arrives 0 [] ts (value t) = arrives d [] (record { same = λ p v a b c. refl }) in
    ap (run (want [])) (sym (append-nil ts)) ∙ (a.runs [] ∙ ap after_end (a.ended 0 (omega arith)))
