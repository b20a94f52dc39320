-- The machine that reads rules: it goes over the tokens once, and keeps what is not ended yet.
use Rattle.std.specs.Prelude.{◌≡◌, ℕ, zero, suc, Bool, true, false, cond, ◌+◌, nat_lt, List, [], ◌∷◌, length, Option, Some, None, option_and_then}
use Rattle.hv_model.specs.Grammar.{place_of}
use Rattle.hv_model.specs.Name.{is_name}
use Rattle.hv_model.specs.Rule.{Rule, option}
use Rattle.hv_model.specs.declared.code.Step.{Step}
use Rattle.hv_model.specs.working.Steps.{Item, value, rule_of, conjoined, disjoined, negated, supposed, supposed_too, closed, rule_on}
use Rattle.hv_model.specs.Token.{Token, implies, either, both, negate, open_, close, word}
use Rattle.hv_model.specs.declared.parser.Frame.{Frame}
use Rattle.hv_model.specs.declared.parser.TheConstants.{MOST_NESTED}

-- what the machine waits for, what stands open in the innermost parentheses and in those around it,
-- and the stack
pub record Machine : Type 0 where
  pub wants : Bool
  pub top : Frame
  pub outer : List Frame
  pub items : List Item

-- how much of a rule stands before an operand: `!`, `&&`, `||` and `=>`
abbrev pub frame : ℕ → Bool → Bool → Bool → Frame
frame negations conjunct disjunct premise =
    record { negations = negations; conjunct = conjunct; disjunct = disjunct; premise = premise }

-- an operand comes next
abbrev pub want : Frame → List Frame → List Item → Machine
want top outer items = record { wants = true; top = top; outer = outer; items = items }

-- an operand is complete
abbrev pub have : Frame → List Frame → List Item → Machine
have top outer items = record { wants = false; top = top; outer = outer; items = items }

-- before the first token
abbrev pub start : Machine
start = want (frame 0 false false false) [] []

-- the last item negated so many times
abbrev pub negated_times : ℕ → List Item → List Item
negated_times zero items = items
negated_times (suc n) items = negated_times n (negated items)

-- an operand after these `!` and `&&`
abbrev pub completed : Frame → List Frame → List Item → Machine
completed f outer items = have (frame 0 false f.disjunct f.premise) outer
    (cond f.conjunct (conjoined (negated_times f.negations items))
    (negated_times f.negations items))

-- the right side of `||`
abbrev pub or_done : Frame → List Item → List Item
or_done f items = cond f.disjunct (disjoined items) items

-- the right side of `=>`
abbrev pub expr_done : Frame → List Item → List Item
expr_done f items = cond f.premise (closed (or_done f items)) (or_done f items)

-- after a closing parenthesis; `None` where none is open
abbrev pub after_close : List Frame → List Item → Option Machine
after_close [] items = None
after_close (g ∷ outer) items = Some (completed g outer items)

-- a token where an operand is wanted; `None` where it may not stand there
abbrev pub step_wanting : List (List ℕ) → Frame → List Frame → List Item → Token → Option Machine
step_wanting names f outer items (word name) = cond
    (is_name name) (Some (completed f outer (value (option (place_of names name)) ∷ items))) None
step_wanting names f outer items negate =
    Some (want (frame (f.negations + 1) f.conjunct f.disjunct f.premise) outer items)
step_wanting names f outer items open_ = Some (want (frame 0 false false false) (f ∷ outer) items)
step_wanting names f outer items _ = None

-- a token after an operand; `None` where it may not stand there
abbrev pub step_having : Frame → List Frame → List Item → Token → Option Machine
step_having f outer items both = Some (want (frame 0 true f.disjunct f.premise) outer items)
step_having f outer items either =
    Some (want (frame 0 false true f.premise) outer (or_done f items))
step_having f outer items implies = Some (want (frame 0 false false true) outer
    (cond f.premise (supposed_too (or_done f items)) (supposed (or_done f items))))
step_having f outer items close = after_close outer (expr_done f items)
step_having f outer items _ = None

-- a token; `None` where it may not stand there
abbrev pub step : List (List ℕ) → Machine → Token → Option Machine
step names m token =
    cond m.wants (step_wanting names m.top m.outer m.items token)
    (step_having m.top m.outer m.items token)

-- the rule at the end of the tokens; `None` where a parenthesis is open
abbrev pub finished_at : List Frame → List Item → Option Rule
finished_at [] items = Some (rule_on items)
finished_at (_ ∷ _) items = None

-- the rule at the end of the tokens; `None` where it may not end there
abbrev pub finished : Machine → Option Rule
finished m = cond m.wants None (finished_at m.outer (expr_done m.top m.items))

-- the rule that the tokens say to the machine
abbrev pub run : List (List ℕ) → Machine → List Token → Option Rule
run names m [] = finished m
run names m (token ∷ tokens) = option_and_then (λ next. run names next tokens) (step names m token)

-- whether the limits allow the next token
abbrev pub is_allowed : Machine → Token → Bool
is_allowed m open_ = nat_lt (length m.outer) MOST_NESTED
is_allowed m negate = nat_lt m.top.negations MOST_NESTED
is_allowed m _ = true

-- a token within the limits; `None` where it may not stand there
abbrev pub limited_step : List (List ℕ) → Machine → Token → Option Machine
limited_step names m token = cond (is_allowed m token) (step names m token) None

-- the rule that the tokens say to the machine within the limits; `None` where they say none
abbrev pub limited_run : List (List ℕ) → Machine → List Token → Option Rule
limited_run names m [] = finished m
limited_run names m (token ∷ tokens) = option_and_then
    (λ next. limited_run names next tokens) (limited_step names m token)

-- a step of the machine was taken, or there is none
abbrev pub IsTaken : Option Machine → Bool → Machine → Type 0
IsTaken o true m = o ≡ Some m
IsTaken o false m = o ≡ None

-- a rule was read, or there is none
abbrev pub IsSaid : Option Rule → Option (List Step) → Type 0
IsSaid o (Some steps) = o ≡ Some (rule_of steps)
IsSaid o None = o ≡ None
