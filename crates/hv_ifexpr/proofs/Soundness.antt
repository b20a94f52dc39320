-- What the machine reads, the grammar derives.
use Rattle.std.proofs.Common.{◌≡◌, ℕ, zero, suc, ◌+◌, ◌-◌, ◌≤◌, true, false, cond, List, [], ◌∷◌, ◌++◌, refl, sym, ap, ◌∙◌, append_assoc, arith, Option, Some, None, subst}
use Rattle.std.proofs.lemmas.List.{append-nil}
use Rattle.std.proofs.lemmas.Bool.Decides.{nat_tests}
use Rattle.std.specs.Prelude.{nat_le, nat_eq, option_and_then}
use Rattle.hv_plain.specs.controlling.Grammar.{Tree, number, unary, binary, conditional, level, sign, Derives, a_number, a_parenthesized, a_unary, a_binary, a_conditional, a_higher, value}
use Rattle.hv_ifexpr.specs.working.Machine.{State, want, Reduced, reduced, reduce, step_at, run, step_wanting, step_having, wanting_sign, sign_of, after_operator, after_question, colon_at, close_at, end_at, finished}
use Rattle.hv_plain.specs.controlling.Values.{binary_value, unary_value, conditional_value}
use Rattle.hv_ifexpr.specs.declared.frame.Frame.{Frame}
use Rattle.hv_ifexpr.specs.declared.frame.Frame.TheVariants.{Parenthesis, Unary, Binary, Then, Else}
use Rattle.hv_plain.specs.declared.controlling.Operand.{Operand}
use Rattle.hv_base.specs.declared.operator.BinaryOperator.{BinaryOperator}
use Rattle.hv_base.specs.declared.operator.BinaryOperator.TheVariants.{Add, Subtract}
use Rattle.hv_plain.specs.declared.controlling.Unary.{Unary as UnaryOperator}
use Rattle.hv_plain.specs.declared.controlling.Unary.TheVariants.{Plus, Minus, Complement, Not}
use Rattle.hv_plain.specs.declared.controlling.Symbol.{Symbol}
use Rattle.hv_plain.specs.declared.controlling.Symbol.TheVariants.{Number, Operator, Open, Close, Question, Colon, Other, Complement as ComplementSign, Not as NotSign}
use Rattle.hv_ifexpr.proofs.Completeness.{level-pos, level-most}

-- an expression of the level may follow what stands open
abbrev Fits : ℕ → List Frame → Type 0
Fits k [] = Unit {0}
Fits k (Parenthesis ∷ stack) = Unit {0}
Fits k (Unary op ∷ stack) = 11 ≤ k
Fits k (Binary op x ∷ stack) = suc (level op) ≤ k
Fits k (Then x ∷ stack) = Unit {0}
Fits k (Else x y ∷ stack) = Unit {0}

-- what stands open was read from these symbols
data Reads : List Frame → List Symbol → Type 0 where
  nothing : Reads [] []
  opened : {stack : List Frame} {before : List Symbol} → Reads stack before
      → Reads (Parenthesis ∷ stack) (before ++ Open ∷ [])
  signed : {stack : List Frame} {before : List Symbol} (op : UnaryOperator) → Reads stack before
      → Reads (Unary op ∷ stack) (before ++ sign op ∷ [])
  left : {stack : List Frame} {before ts : List Symbol} {a : Tree} (op : BinaryOperator)
      → Reads stack before → Derives (level op) ts a → Fits (level op) stack
      → Reads (Binary op (value a) ∷ stack) (before ++ (ts ++ Operator op ∷ []))
  condition : {stack : List Frame} {before cs : List Symbol} {c : Tree} → Reads stack before
      → Derives 1 cs c → Fits 1 stack
      → Reads (Then (value c) ∷ stack) (before ++ (cs ++ Question ∷ []))
  arm : {stack : List Frame} {before cs ts : List Symbol} {c a : Tree} → Reads stack before
      → Derives 1 cs c → Derives 0 ts a → Fits 1 stack
      → Reads (Else (value c) (value a) ∷ stack) (before ++ (cs ++ Question ∷ (ts ++ Colon ∷ [])))

-- after what stands open, an expression of the level with this value was read
record Holds (k : ℕ) (stack : List Frame) (v : Operand) (done : List Symbol) : Type 0 where
  before : List Symbol
  ts : List Symbol
  tree : Tree
  reads : Reads stack before
  derives : Derives k ts tree
  fits : Fits k stack
  all : done ≡ before ++ ts
  is : v ≡ value tree

lowered_by : (d k : ℕ) (ts : List Symbol) (t : Tree) → Derives (d + k) ts t → Derives k ts t
lowered_by zero k ts t h = let e : 0 + k ≡ k = omega arith in subst (λ (n : ℕ). Derives n ts t) e h
lowered_by (suc d) k ts t h = let e : suc d + k ≡ suc (d + k) = omega arith in
    lowered_by d k ts t (a_higher (subst (λ (n : ℕ). Derives n ts t) e h))

lowered : (k l : ℕ) (ts : List Symbol) (t : Tree) → k ≤ l → Derives l ts t → Derives k ts t
lowered k l ts t h d = let e : l ≡ (l - k) + k = omega arith in
    lowered_by (l - k) k ts t (subst (λ (n : ℕ). Derives n ts t) e d)

fits_eleven : (stack : List Frame) → Fits 11 stack
fits_eleven [] = tt
fits_eleven (Parenthesis ∷ stack) = tt
fits_eleven (Unary op ∷ stack) = omega arith
fits_eleven (Binary op x ∷ stack) = omega (arith, level-most op)
fits_eleven (Then x ∷ stack) = tt
fits_eleven (Else x y ∷ stack) = tt

fits_zero : (stack : List Frame) → Fits 1 stack → Fits 0 stack
fits_zero [] h = tt
fits_zero (Parenthesis ∷ stack) h = tt
fits_zero (Unary op ∷ stack) h = absurd (omega arith)
fits_zero (Binary op x ∷ stack) h = absurd (omega (arith, level-pos op))
fits_zero (Then x ∷ stack) h = tt
fits_zero (Else x y ∷ stack) h = tt

-- the same expression at a lower level
holds_lower : (k l : ℕ) (stack : List Frame) (v : Operand) (done : List Symbol) → k ≤ l
    → Fits k stack → Holds l stack v done → Holds k stack v done
holds_lower k l stack v done le fits h = record {
  before = h.before;
  ts = h.ts;
  tree = h.tree;
  reads = h.reads;
  derives = lowered k l h.ts h.tree le h.derives;
  fits = fits;
  all = h.all;
  is = h.is;
}

holds_unary : (op : UnaryOperator) (stack : List Frame) (v : Operand) (done before ts : List Symbol)
    (t : Tree) → Reads (Unary op ∷ stack) before → Derives 11 ts t → done ≡ before ++ ts
    → v ≡ value t → Holds 11 stack (unary_value op v) done
holds_unary op stack v done before ts t (signed {before = q} _ r) d all is = record {
  before = q;
  ts = sign op ∷ ts;
  tree = unary op t;
  reads = r;
  derives = a_unary op d;
  fits = fits_eleven stack;
  all = all ∙ append_assoc q (sign op ∷ []) ts;
  is = ap (unary_value op) is;
}

holds_binary : (op : BinaryOperator) (x : Operand) (stack : List Frame) (v : Operand)
    (done before ts : List Symbol) (t : Tree) → Reads (Binary op x ∷ stack) before
    → Derives (suc (level op)) ts t
    → done ≡ before ++ ts → v ≡ value t → Holds (level op) stack (binary_value op x v) done
holds_binary op x stack v done before ts t (left {before = q} {ts = us} {a = a} _ r e fits) d all
    is = record {
      before = q;
      ts = us ++ Operator op ∷ ts;
      tree = binary op a t;
      reads = r;
      derives = a_binary op e d;
      fits = fits;
      all = all ∙ (append_assoc q (us ++ Operator op ∷ []) ts
          ∙ ap (λ w. q ++ w) (append_assoc us (Operator op ∷ []) ts));
      is = ap (binary_value op (value a)) is;
    }

holds_conditional : (x y : Operand) (stack : List Frame) (v : Operand)
    (done before ts : List Symbol) (t : Tree) → Reads (Else x y ∷ stack) before → Derives 0 ts t
    → done ≡ before ++ ts → v ≡ value t → Holds 0 stack (conditional_value x y v) done
holds_conditional x y stack v done before ts t
    (arm {before = q} {cs = cs} {ts = us} {c = c} {a = a} r e f fits) d all is = record {
      before = q;
      ts = cs ++ Question ∷ (us ++ Colon ∷ ts);
      tree = conditional c a t;
      reads = r;
      derives = a_conditional e f d;
      fits = fits_zero stack fits;
      all = all ∙ (append_assoc q (cs ++ Question ∷ (us ++ Colon ∷ [])) ts
          ∙ ap (λ w. q ++ w) (append_assoc cs (Question ∷ (us ++ Colon ∷ [])) ts
          ∙ ap (λ w. cs ++ Question ∷ w) (append_assoc us (Colon ∷ []) ts)));
      is = ap (conditional_value (value c) (value a)) is;
    }

abbrev HoldsReduced : ℕ → Reduced → List Symbol → Type 0
HoldsReduced k r done = Holds k r.stack r.operand done

-- what ends before a symbol is read whole
reduce_holds : (stack : List Frame) (k l : ℕ) (v : Operand) (done : List Symbol) → k ≤ l → k ≤ 11
    → Holds l stack v done → HoldsReduced k (reduce k stack v) done
reduce_holds [] k l v done le most h = holds_lower k l [] v done le tt h
reduce_holds (Parenthesis ∷ stack) k l v done le most h =
    holds_lower k l (Parenthesis ∷ stack) v done le tt h
reduce_holds (Then x ∷ stack) k l v done le most h = holds_lower k l (Then x ∷ stack) v done le tt h
reduce_holds (Unary op ∷ stack) k l v done le most h =
    reduce_holds stack k 11 (unary_value op v) done most most
    (holds_unary op stack v done h.before h.ts h.tree h.reads
    (lowered 11 l h.ts h.tree h.fits h.derives) h.all h.is)
reduce_holds (Binary op x ∷ stack) k l v done le most h =
    elim (nat_le k (level op)) as (λ b. nat_le k (level op) ≡ b
    → HoldsReduced k (cond b (reduce k stack (binary_value op x v))
    (reduced (Binary op x ∷ stack) v)) done) [
      | true ↦ λ e. let below : k ≤ level op = grind (arith, nat_tests) in
          reduce_holds stack k (level op) (binary_value op x v) done below most
          (holds_binary op x stack v done h.before h.ts h.tree h.reads
          (lowered (suc (level op)) l h.ts h.tree h.fits h.derives) h.all h.is)
      | false ↦ λ e. let above : suc (level op) ≤ k = grind (arith, nat_tests) in
          holds_lower k l (Binary op x ∷ stack) v done le above h
    ] refl
reduce_holds (Else x y ∷ stack) k l v done le most h =
    elim (nat_eq k 0) as (λ b. nat_eq k 0 ≡ b
    → HoldsReduced k (cond b (reduce k stack (conditional_value x y v))
    (reduced (Else x y ∷ stack) v)) done) [
      | true ↦ λ e. let none : k ≤ 0 = grind (arith, nat_tests) in
          reduce_holds stack k 0 (conditional_value x y v) done none most
          (holds_conditional x y stack v done h.before h.ts h.tree h.reads
          (lowered 0 l h.ts h.tree (omega arith) h.derives) h.all h.is)
      | false ↦ λ e. holds_lower k l (Else x y ∷ stack) v done le tt h
    ] refl

-- what the machine has read
abbrev ReadsAt : List Frame → Option Operand → List Symbol → Type 0
ReadsAt stack None done = Reads stack done
ReadsAt stack (Some v) done = Holds 11 stack v done

abbrev ReadsState : State → List Symbol → Type 0
ReadsState m done = ReadsAt m.stack m.operand done

-- where there is a next state, it has read the symbols
abbrev ReadsNext : Option State → List Symbol → Type 0
ReadsNext None done = Unit {0}
ReadsNext (Some m) done = ReadsState m done

retold : (stack : List Frame) (a b : List Symbol) → a ≡ b → Reads stack a → Reads stack b
retold stack a b e r = subst (Reads stack) e r

number_read : (stack : List Frame) (v : Operand) (done : List Symbol) → Reads stack done
    → Holds 11 stack v (done ++ Number v ∷ [])
number_read stack v done r = record {
  before = done;
  ts = Number v ∷ [];
  tree = number v;
  reads = r;
  derives = a_number v;
  fits = fits_eleven stack;
  all = refl;
  is = refl;
}

operator_read : (op : BinaryOperator) (r : Reduced) (done : List Symbol)
    → HoldsReduced (level op) r done → ReadsState (after_operator op r) (done ++ Operator op ∷ [])
operator_read op r done h =
    subst (λ (x : Operand). Reads (Binary op x ∷ r.stack) (done ++ Operator op ∷ [])) (sym h.is)
    (retold _ _ _ (sym (append_assoc h.before h.ts (Operator op ∷ []))
    ∙ ap (λ w. w ++ Operator op ∷ []) (sym h.all)) (left op h.reads h.derives h.fits))

question_read : (r : Reduced) (done : List Symbol) → HoldsReduced 1 r done
    → ReadsState (after_question r) (done ++ Question ∷ [])
question_read r done h =
    subst (λ (x : Operand). Reads (Then x ∷ r.stack) (done ++ Question ∷ [])) (sym h.is)
    (retold _ _ _ (sym (append_assoc h.before h.ts (Question ∷ []))
    ∙ ap (λ w. w ++ Question ∷ []) (sym h.all)) (condition h.reads h.derives h.fits))

arm_read : (x : Operand) (stack : List Frame) (v : Operand) (done before ts : List Symbol)
    (t : Tree) → Reads (Then x ∷ stack) before → Derives 0 ts t → done ≡ before ++ ts → v ≡ value t
    → Reads (Else x v ∷ stack) (done ++ Colon ∷ [])
arm_read x stack v done before ts t (condition {before = q} {cs = cs} {c = c} r e fits) d all is =
    subst (λ (y : Operand). Reads (Else (value c) y ∷ stack) (done ++ Colon ∷ [])) (sym is)
    (retold _ _ _ (sym (ap (λ w. w ++ Colon ∷ []) all
    ∙ (append_assoc (q ++ (cs ++ Question ∷ [])) ts (Colon ∷ [])
    ∙ (append_assoc q (cs ++ Question ∷ []) (ts ++ Colon ∷ [])
    ∙ ap (λ w. q ++ w) (append_assoc cs (Question ∷ []) (ts ++ Colon ∷ [])))))) (arm r e d fits))

colon_read : (stack : List Frame) (v : Operand) (done : List Symbol) → Holds 0 stack v done
    → ReadsNext (colon_at stack v) (done ++ Colon ∷ [])
colon_read [] v done h = tt
colon_read (Parenthesis ∷ stack) v done h = tt
colon_read (Unary op ∷ stack) v done h = tt
colon_read (Binary op x ∷ stack) v done h = tt
colon_read (Then x ∷ stack) v done h =
    arm_read x stack v done h.before h.ts h.tree h.reads h.derives h.all h.is
colon_read (Else x y ∷ stack) v done h = tt

parenthesized_read : (stack : List Frame) (v : Operand) (done before ts : List Symbol) (t : Tree)
    → Reads (Parenthesis ∷ stack) before → Derives 0 ts t → done ≡ before ++ ts → v ≡ value t
    → Holds 11 stack v (done ++ Close ∷ [])
parenthesized_read stack v done before ts t (opened {before = q} r) d all is = record {
  before = q;
  ts = Open ∷ (ts ++ Close ∷ []);
  tree = t;
  reads = r;
  derives = a_parenthesized d;
  fits = fits_eleven stack;
  all = ap (λ w. w ++ Close ∷ []) all
      ∙ (append_assoc (q ++ Open ∷ []) ts (Close ∷ [])
      ∙ append_assoc q (Open ∷ []) (ts ++ Close ∷ []));
  is = is;
}

close_read : (stack : List Frame) (v : Operand) (done : List Symbol) → Holds 0 stack v done
    → ReadsNext (close_at stack v) (done ++ Close ∷ [])
close_read [] v done h = tt
close_read (Parenthesis ∷ stack) v done h =
    parenthesized_read stack v done h.before h.ts h.tree h.reads h.derives h.all h.is
close_read (Unary op ∷ stack) v done h = tt
close_read (Binary op x ∷ stack) v done h = tt
close_read (Then x ∷ stack) v done h = tt
close_read (Else x y ∷ stack) v done h = tt

sign_read : (stack : List Frame) (symbol : Symbol) (done : List Symbol) → Reads stack done
    → ReadsNext (wanting_sign stack (sign_of symbol)) (done ++ symbol ∷ [])
sign_read stack (Operator Add) done r = signed Plus r
sign_read stack (Operator Subtract) done r = signed Minus r
sign_read stack ComplementSign done r = signed Complement r
sign_read stack NotSign done r = signed Not r
sign_read stack _ done r = tt

wanting_read : (stack : List Frame) (symbol : Symbol) (done : List Symbol) → Reads stack done
    → ReadsNext (step_wanting stack symbol) (done ++ symbol ∷ [])
wanting_read stack (Number v) done r = number_read stack v done r
wanting_read stack (Operator op) done r = sign_read stack (Operator op) done r
wanting_read stack ComplementSign done r = signed Complement r
wanting_read stack NotSign done r = signed Not r
wanting_read stack Open done r = opened r
wanting_read stack Close done r = tt
wanting_read stack Question done r = tt
wanting_read stack Colon done r = tt
wanting_read stack Other done r = tt

having_read : (stack : List Frame) (v : Operand) (symbol : Symbol) (done : List Symbol)
    → Holds 11 stack v done → ReadsNext (step_having stack v symbol) (done ++ symbol ∷ [])
having_read stack v (Number w) done h = tt
having_read stack v (Operator op) done h = let most = level-most op in
    operator_read op (reduce (level op) stack v) done
    (reduce_holds stack (level op) 11 v done (omega (arith, most)) (omega (arith, most)) h)
having_read stack v ComplementSign done h = tt
having_read stack v NotSign done h = tt
having_read stack v Open done h = tt
having_read stack v Close done h =
    let r : HoldsReduced 0 (reduce 0 stack v) done =
    reduce_holds stack 0 11 v done (omega arith) (omega arith) h in
    close_read (reduce 0 stack v).stack (reduce 0 stack v).operand done r
having_read stack v Question done h =
    question_read (reduce 1 stack v) done
    (reduce_holds stack 1 11 v done (omega arith) (omega arith) h)
having_read stack v Colon done h =
    let r : HoldsReduced 0 (reduce 0 stack v) done =
    reduce_holds stack 0 11 v done (omega arith) (omega arith) h in
    colon_read (reduce 0 stack v).stack (reduce 0 stack v).operand done r
having_read stack v Other done h = tt

step_read : (stack : List Frame) (o : Option Operand) (symbol : Symbol) (done : List Symbol)
    → ReadsAt stack o done → ReadsNext (step_at stack o symbol) (done ++ symbol ∷ [])
step_read stack None symbol done r = wanting_read stack symbol done r
step_read stack (Some v) symbol done r = having_read stack v symbol done r

-- the symbols are an expression with this value
pub record Derived (ts : List Symbol) (v : Operand) : Type 0 where
  pub tree : Tree
  pub derives : Derives 0 ts tree
  pub is : v ≡ value tree

whole_read : (v : Operand) (done before ts : List Symbol) (t : Tree) → Reads [] before
    → Derives 0 ts t → done ≡ before ++ ts → v ≡ value t → Derived (done ++ []) v
whole_read v done before ts t nothing d all is = record {
  tree = t;
  derives = subst (λ (w : List Symbol). Derives 0 w t) (sym (append-nil done ∙ all)) d;
  is = is;
}

end_read : (stack : List Frame) (w v : Operand) (done : List Symbol) → Holds 0 stack w done
    → end_at stack w ≡ Some v → Derived (done ++ []) v
end_read [] w v done h e = let same : v ≡ w = cc in
    whole_read v done h.before h.ts h.tree h.reads h.derives h.all (same ∙ h.is)
end_read (f ∷ stack) w v done h e = cc

abbrev at : List Frame → Option Operand → State
at stack o = record { stack = stack; operand = o }

finished_read : (stack : List Frame) (o : Option Operand) (v : Operand) (done : List Symbol)
    → ReadsAt stack o done → finished (at stack o) ≡ Some v → Derived (done ++ []) v
finished_read stack None v done r e = cc
finished_read stack (Some w) v done r e =
    let h : HoldsReduced 0 (reduce 0 stack w) done =
    reduce_holds stack 0 11 w done (omega arith) (omega arith) r in
    end_read (reduce 0 stack w).stack (reduce 0 stack w).operand v done h e

next_read : (o : Option State) (v : Operand) (done rest : List Symbol) → ReadsNext o done
    → ((m : State) → ReadsState m done → run m rest ≡ Some v → Derived (done ++ rest) v)
    → option_and_then (λ next. run next rest) o ≡ Some v → Derived (done ++ rest) v
next_read None v done rest r f e = cc
next_read (Some m) v done rest r f e = f m r e

run_read : (rest : List Symbol) (stack : List Frame) (o : Option Operand) (v : Operand)
    (done : List Symbol) → ReadsAt stack o done → run (at stack o) rest ≡ Some v
    → Derived (done ++ rest) v
run_read [] stack o v done r e = finished_read stack o v done r e
run_read (symbol ∷ rest) stack o v done r e =
    let d =
    next_read (step_at stack o symbol) v (done ++ symbol ∷ []) rest
    (step_read stack o symbol done r)
    (λ m h f. run_read rest m.stack m.operand v (done ++ symbol ∷ []) h f) e in
    subst (λ (w : List Symbol). Derived w v) (append_assoc done (symbol ∷ []) rest) d

-- what the machine evaluates is an expression with this value
pub derived_run : (ts : List Symbol) (v : Operand) → run (want []) ts ≡ Some v → Derived ts v
derived_run ts v e = run_read ts [] None v [] nothing e
