-- Symbols that are parted, and the signs at which they are.
use Rattle.std.proofs.Common.{◌≡◌, ℕ, Bool, true, false, List, [], ◌∷◌, ◌++◌, map, refl, sym, ap, subst, inl, Option, Some, None, ◌==◌}
use Rattle.std.proofs.lemmas.Bool.{eqb-true, eq-eqb}
use Rattle.hv_base.specs.declared.operator.BinaryOperator.{BinaryOperator}
use Rattle.hv_base.specs.declared.operator.BinaryOperator.TheVariants.{Multiply, Divide, Remainder, Add, Subtract, ShiftLeft, ShiftRight, Less, Greater, LessEqual, GreaterEqual, Equal, NotEqual, And, ExclusiveOr, Or, LogicalAnd, LogicalOr}
use Rattle.hv_plain.specs.controlling.Grammar.{level, sign}
use Rattle.hv_plain.specs.declared.controlling.Symbol.{Symbol}
use Rattle.hv_plain.specs.declared.controlling.Symbol.TheVariants.{Number, Operator, Complement, Not, Open, Close, Question, Colon, Other}
use Rattle.hv_plain.specs.declared.controlling.Unary.{Unary}
use Rattle.hv_plain.specs.declared.controlling.Unary.TheVariants.{Plus, Minus, Complement as ComplementOf, Not as NotOf}
use Rattle.hv_plainpp.specs.Expressions.{Parting, at_first, with_symbol, partings, close, question, colon, operator, unary_of, prefix}
use Rattle.hv_plainpp.proofs.Items.{Each, Has, each_append, each_map, has_left, has_right, has_map}

------ partings

-- what is said of the value in a `Some`
abbrev pub Holds : {X : Type 0} → (X → Type 0) → Option X → Type 0
Holds P None = Unit {0}
Holds P (Some x) = P x

-- the symbols are parted so, at one that fits
abbrev pub IsParting : {X : Type 0} → (Symbol → X → Type 0) → List Symbol → Parting X → Type 0
IsParting P all p = (s : Symbol) × P s p.at × (all ≡ p.before ++ s ∷ p.behind)

pub first_parts : {X : Type 0} (P : Symbol → X → Type 0) (s : Symbol) (o : Option X)
    → Holds (P s) o → (ts : List Symbol) → Each (IsParting P (s ∷ ts)) (at_first o ts)
first_parts P s None h ts = tt
first_parts P s (Some x) h ts = ((s, h, refl), tt)

pub partings_part : {X : Type 0} (test : Symbol → Option X) (P : Symbol → X → Type 0)
    → ((s : Symbol) → Holds (P s) (test s)) → (ts : List Symbol)
    → Each (IsParting P ts) (partings test ts)
partings_part test P h [] = tt
partings_part {X} test P h (s ∷ ts) =
    each_append (IsParting P (s ∷ ts)) (at_first (test s) ts)
    (map (with_symbol s) (partings test ts))
    (first_parts P s (test s) (h s) ts)
    (each_map (IsParting P ts) (IsParting P (s ∷ ts)) (with_symbol s)
    (λ p q. (q.0, q.1, ap (λ (r : List Symbol). s ∷ r) q.2)) (partings test ts)
    (partings_part test P h ts))

-- the parting at a symbol
abbrev pub parting : {X : Type 0} → List Symbol → X → List Symbol → Parting X
parting ts x us = record { before = ts; at = x; behind = us }

pub partings_all : {X : Type 0} (test : Symbol → Option X) (s : Symbol) (x : X) → test s ≡ Some x
    → (ts us : List Symbol) → Has (parting ts x us) (partings test (ts ++ s ∷ us))
partings_all test s x e [] us =
    has_left (parting [] x us) (at_first (test s) us) (map (with_symbol s) (partings test us))
    (subst (λ o. Has (parting [] x us) (at_first o us)) (sym e) (inl refl))
partings_all test s x e (v ∷ ts) us =
    has_right (parting (v ∷ ts) x us) (at_first (test v) (ts ++ s ∷ us))
    (map (with_symbol v) (partings test (ts ++ s ∷ us)))
    (has_map (with_symbol v) (parting ts x us) (partings test (ts ++ s ∷ us))
    (partings_all test s x e ts us))

------ signs

abbrev pub IsClose : Symbol → Unit {0} → Type 0
IsClose s u = s ≡ Close

pub close_fits : (s : Symbol) → Holds (IsClose s) (close s)
close_fits Close = refl
close_fits (Number v) = tt
close_fits (Operator op) = tt
close_fits Complement = tt
close_fits Not = tt
close_fits Open = tt
close_fits Question = tt
close_fits Colon = tt
close_fits Other = tt

abbrev pub IsQuestion : Symbol → Unit {0} → Type 0
IsQuestion s u = s ≡ Question

pub question_fits : (s : Symbol) → Holds (IsQuestion s) (question s)
question_fits Question = refl
question_fits (Number v) = tt
question_fits (Operator op) = tt
question_fits Complement = tt
question_fits Not = tt
question_fits Open = tt
question_fits Close = tt
question_fits Colon = tt
question_fits Other = tt

abbrev pub IsColon : Symbol → Unit {0} → Type 0
IsColon s u = s ≡ Colon

pub colon_fits : (s : Symbol) → Holds (IsColon s) (colon s)
colon_fits Colon = refl
colon_fits (Number v) = tt
colon_fits (Operator op) = tt
colon_fits Complement = tt
colon_fits Not = tt
colon_fits Open = tt
colon_fits Close = tt
colon_fits Question = tt
colon_fits Other = tt

abbrev pub IsOperator : ℕ → Symbol → BinaryOperator → Type 0
IsOperator k s op = (s ≡ Operator op) × (level op ≡ k)

pub operator_of_level : (k : ℕ) (op : BinaryOperator) (b : Bool) → (level op == k) ≡ b
    → Holds (IsOperator k (Operator op)) (elim b [ true ↦ Some op | false ↦ None ])
operator_of_level k op true e = (refl, eqb-true (level op) k e)
operator_of_level k op false e = tt

pub operator_fits : (k : ℕ) (s : Symbol) → Holds (IsOperator k s) (operator k s)
operator_fits k (Operator op) = operator_of_level k op (level op == k) refl
operator_fits k (Number v) = tt
operator_fits k Complement = tt
operator_fits k Not = tt
operator_fits k Open = tt
operator_fits k Close = tt
operator_fits k Question = tt
operator_fits k Colon = tt
operator_fits k Other = tt

pub operator_at : (op : BinaryOperator) → operator (level op) (Operator op) ≡ Some op
operator_at op =
    ap (λ (b : Bool). elim b [ true ↦ Some op | false ↦ None ])
    (eq-eqb (level op) (level op) refl)

abbrev pub IsSign : Symbol → Unary → Type 0
IsSign s op = s ≡ sign op

pub unary_fits : (op : BinaryOperator) → Holds (IsSign (Operator op)) (unary_of op)
unary_fits Add = refl
unary_fits Subtract = refl
unary_fits Multiply = tt
unary_fits Divide = tt
unary_fits Remainder = tt
unary_fits ShiftLeft = tt
unary_fits ShiftRight = tt
unary_fits Less = tt
unary_fits Greater = tt
unary_fits LessEqual = tt
unary_fits GreaterEqual = tt
unary_fits Equal = tt
unary_fits NotEqual = tt
unary_fits And = tt
unary_fits ExclusiveOr = tt
unary_fits Or = tt
unary_fits LogicalAnd = tt
unary_fits LogicalOr = tt

pub prefix_fits : (s : Symbol) → Holds (IsSign s) (prefix s)
prefix_fits (Operator op) = unary_fits op
prefix_fits Complement = refl
prefix_fits Not = refl
prefix_fits (Number v) = tt
prefix_fits Open = tt
prefix_fits Close = tt
prefix_fits Question = tt
prefix_fits Colon = tt
prefix_fits Other = tt

pub prefix_at : (op : Unary) → prefix (sign op) ≡ Some op
prefix_at Plus = refl
prefix_at Minus = refl
prefix_at ComplementOf = refl
prefix_at NotOf = refl
