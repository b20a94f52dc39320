-- The machine that evaluates controlling expressions: it goes over the symbols once, and keeps what
-- is not ended yet.
use Rattle.std.specs.Prelude.{◌≡◌, ℕ, Bool, true, false, cond, nat_le, nat_eq, List, [], ◌∷◌, Option, Some, None, option_and_then}
use Rattle.hv_plain.specs.controlling.Grammar.{level}
use Rattle.hv_plain.specs.controlling.Values.{binary_value, unary_value, conditional_value}
use Rattle.hv_ifexpr.specs.declared.frame.Frame.{Frame}
use Rattle.hv_ifexpr.specs.declared.machine.Machine.{Machine}
use Rattle.hv_ifexpr.specs.declared.frame.Frame.TheVariants.{Parenthesis, Unary, Binary, Then, Else}
use Rattle.hv_plain.specs.declared.controlling.Operand.{Operand}
use Rattle.hv_base.specs.declared.operator.BinaryOperator.{BinaryOperator}
use Rattle.hv_base.specs.declared.operator.BinaryOperator.TheVariants.{Add, Subtract}
use Rattle.hv_plain.specs.declared.controlling.Unary.{Unary as UnaryOperator}
use Rattle.hv_plain.specs.declared.controlling.Unary.TheVariants.{Plus, Minus, Complement, Not}
use Rattle.hv_plain.specs.declared.controlling.Symbol.{Symbol}
use Rattle.hv_plain.specs.declared.controlling.Symbol.TheVariants.{Number, Operator, Open, Close, Question, Colon, Complement as ComplementSign, Not as NotSign}

-- what stands open, the innermost first, and the operand after it, if one is complete
pub record State : Type 0 where
  pub stack : List Frame
  pub operand : Option Operand

-- what stands open, and an operand is wanted
abbrev pub want : List Frame → State
want stack = record { stack = stack; operand = None }

-- what stands open, and an operand that is complete
abbrev pub have : List Frame → Operand → State
have stack v = record { stack = stack; operand = Some v }

-- whether what stands open ends before a symbol that makes expressions of this level
abbrev pub ends : ℕ → Frame → Bool
ends k Parenthesis = false
ends k (Unary op) = true
ends k (Binary op a) = nat_le k (level op)
ends k (Then c) = false
ends k (Else c a) = nat_eq k 0

-- the value of what a frame makes with the operand after it
abbrev pub applied : Frame → Operand → Operand
applied Parenthesis v = v
applied (Unary op) v = unary_value op v
applied (Binary op a) v = binary_value op a v
applied (Then c) v = v
applied (Else c a) v = conditional_value c a v

-- what is left of what stands open, and the operand after it
pub record Reduced : Type 0 where
  pub stack : List Frame
  pub operand : Operand

-- what stands open, and the operand after it
abbrev pub reduced : List Frame → Operand → Reduced
reduced stack v = record { stack = stack; operand = v }

-- ends what ends before a symbol that makes expressions of this level, the innermost first
abbrev pub reduce : ℕ → List Frame → Operand → Reduced
reduce k [] v = reduced [] v
reduce k (f ∷ stack) v = cond (ends k f) (reduce k stack (applied f v)) (reduced (f ∷ stack) v)

-- the unary operator that a symbol is; `None` where it isn't one (6.5.3)
abbrev pub sign_of : Symbol → Option UnaryOperator
sign_of (Operator Add) = Some Plus
sign_of (Operator Subtract) = Some Minus
sign_of ComplementSign = Some Complement
sign_of NotSign = Some Not
sign_of _ = None

-- after a symbol before an operand, by the unary operator that it is; `None` where it isn't one
abbrev pub wanting_sign : List Frame → Option UnaryOperator → Option State
wanting_sign stack None = None
wanting_sign stack (Some op) = Some (want (Unary op ∷ stack))

-- after a symbol where an operand is wanted; `None` where it can't stand there
abbrev pub step_wanting : List Frame → Symbol → Option State
step_wanting stack (Number v) = Some (have stack v)
step_wanting stack Open = Some (want (Parenthesis ∷ stack))
step_wanting stack symbol = wanting_sign stack (sign_of symbol)

-- after a binary operator, which ends its left side
abbrev pub after_operator : BinaryOperator → Reduced → State
after_operator op r = want (Binary op r.operand ∷ r.stack)

-- after `?`, which ends its condition
abbrev pub after_question : Reduced → State
after_question r = want (Then r.operand ∷ r.stack)

-- after `:`, which needs an open `?`; `None` where there isn't one
abbrev pub colon_at : List Frame → Operand → Option State
colon_at (Then c ∷ stack) v = Some (want (Else c v ∷ stack))
colon_at _ v = None

-- after `)`, which needs an open `(`; `None` where there isn't one
abbrev pub close_at : List Frame → Operand → Option State
close_at (Parenthesis ∷ stack) v = Some (have stack v)
close_at _ v = None

-- after `:`, once the arm before it has ended
abbrev pub after_colon : Reduced → Option State
after_colon r = colon_at r.stack r.operand

-- after `)`, once the expression before it has ended
abbrev pub after_close : Reduced → Option State
after_close r = close_at r.stack r.operand

-- after a symbol that follows an operand; `None` where it can't stand there
abbrev pub step_having : List Frame → Operand → Symbol → Option State
step_having stack v (Operator op) = Some (after_operator op (reduce (level op) stack v))
step_having stack v Question = Some (after_question (reduce 1 stack v))
step_having stack v Colon = after_colon (reduce 0 stack v)
step_having stack v Close = after_close (reduce 0 stack v)
step_having stack v _ = None

-- after a symbol, by whether an operand is complete
abbrev pub step_at : List Frame → Option Operand → Symbol → Option State
step_at stack None symbol = step_wanting stack symbol
step_at stack (Some v) symbol = step_having stack v symbol

-- after a symbol; `None` where it can't stand there
abbrev pub step : State → Symbol → Option State
step m symbol = step_at m.stack m.operand symbol

-- the operand at the end of the tokens; `None` where something stands open
abbrev pub end_at : List Frame → Operand → Option Operand
end_at [] v = Some v
end_at (_ ∷ _) v = None

-- the value at the end, once all that ends there has ended
abbrev pub after_end : Reduced → Option Operand
after_end r = end_at r.stack r.operand

-- the value at the end; `None` where an operand is wanted or something stands open
abbrev pub finished_at : List Frame → Option Operand → Option Operand
finished_at stack None = None
finished_at stack (Some v) = after_end (reduce 0 stack v)

-- the value of the tokens where they end; `None` where they aren't an expression
abbrev pub finished : State → Option Operand
finished m = finished_at m.stack m.operand

-- what the machine makes of the symbols; `None` where they aren't an expression
abbrev pub run : State → List Symbol → Option Operand
run m [] = finished m
run m (symbol ∷ rest) = option_and_then (λ next. run next rest) (step m symbol)

-- a step was taken, or there is none
abbrev pub IsTaken : Option State → Bool → State → Type 0
IsTaken o true m = o ≡ Some m
IsTaken o false m = o ≡ None

-- the state that the machine of the code is in
abbrev pub state_of : Machine → State
state_of m = record { stack = m.stack; operand = m.operand }
