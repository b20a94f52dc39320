-- What the control answers of a token is what the pure machine does with it.
use Rattle.std.specs.Prelude.{nat_le}
use Rattle.std.proofs.Common.{◌≡◌, ℕ, Bool, false, cond, List, [], ◌∷◌, Option, Some, None, Result, Ok, Err, IfOk, refl, sym, ap, ◌∙◌, subst}
use Rattle.hv_base.specs.declared.memory.Memory.{Memory}
use Rattle.hv_base.specs.declared.place.Place.{Place}
use Rattle.hv_base.specs.declared.why.Why.{Why}
use Rattle.hv_base.specs.declared.why.Why.TheVariants.{TooDeep}
use Rattle.hv_ctree.specs.tree.Expressions.{Expr}
use Rattle.hv_ctree.specs.tree.Statements.{Skeleton}
use Rattle.hv_grammar.specs.Elements as elements
use Rattle.hv_grammar.specs.Symbols as symbols
use Rattle.hv_grammar.specs.Symbols.{Token, token_at, marked}
use Rattle.hv_grammar.specs.Refusal.{Limits, operators_with}
use Rattle.hv_grammar.specs.machine.Parts as plain_parts
use Rattle.hv_grammar.specs.machine.Frames as plain
use Rattle.hv_grammar.specs.machine.Frames.{State}
use Rattle.hv_grammar.specs.machine.Steps as plain_steps
use Rattle.hv_grammar.specs.machine.Steps.{Taken}
use Rattle.hv_grammar.specs.machine.Answers.{operators_before}
use Rattle.hv_cparse.specs.declared.frame.Frame.{Frame}
use Rattle.hv_cparse.specs.declared.frame.At.{At}
use Rattle.hv_cparse.specs.declared.class.Class.{Class}
use Rattle.hv_cparse.specs.declared.class.Class.TheVariants.{Marked}
use Rattle.hv_cparse.specs.Control as control
use Rattle.hv_cparse.specs.Control.{IsControl, frames_of, frames_at, terminals, at_of, class_of}
use Rattle.hv_cparse.specs.working.Counts as counts
use Rattle.hv_cparse.specs.working.Tables.{reduced}
use Rattle.hv_cparse.specs.working.Steps as steps
use Rattle.hv_cparse.specs.working.Seen.{seen, role_in}
use Rattle.hv_cparse.proofs.Shadows.{reduce_seen}
use Rattle.hv_cparse.proofs.DeclaratorsSeen.{step_seen}

after_seen : (n : ℕ) (r : symbols.Role) → counts.with_role n (role_in r) ≡ operators_with n r
after_seen n symbols.outside = refl
after_seen n symbols.inside = refl
after_seen n symbols.operator = refl

cause_seen : (l : Limits) (n : ℕ) (o : Option Taken)
    → counts.cause l n (seen o) ≡ control.cause l n o
cause_seen l n None = refl
cause_seen l n (Some k) =
    ap (λ (x : ℕ). cond (cond (nat_le k.depth l.brackets)
    (cond (nat_le (operators_before n k.late) l.operators) (nat_le x l.operators) false) false)
    None (Some TooDeep)) (after_seen (operators_before n k.late) k.role)

follows_seen : (n : ℕ) (o : Option Taken) (stack : List Frame) (a : At) (c : ℕ)
    → counts.Follows n (seen o) stack a c → control.Follows n o stack a c
follows_seen n None stack a c h = tt
follows_seen n (Some k) stack a c h =
    (record { frames = h.0; place = h.1 }, h.2 ∙ after_seen (operators_before n k.late) k.role)

step_shown : (stack : List Frame) (a : At) (class : Class) (m : State) (t : Token)
    → IsControl stack a m → class_of t.symbol ≡ class
    → steps.step stack a class ≡ seen (plain_steps.step m t)
step_shown stack a class m t h e =
    ap (λ (x : List Frame). steps.step x a class) h.frames
    ∙ (ap (λ (x : At). steps.step (frames_at m.at m.stack) x class) h.place
    ∙ (ap (λ (x : Class). steps.step (frames_at m.at m.stack) (at_of m.at) x) (sym e)
    ∙ sym (step_seen m.stack m.at t.place t.symbol)))

pub take_cause : (r : Result (Option Why) Memory) (l : Limits) (n : ℕ) (stack : List Frame) (a : At)
    (class : Class) → IfOk r (λ why. why ≡ counts.cause l n (steps.step stack a class))
    → IfOk r (λ why. (m : State) (t : Token) → IsControl stack a m → class_of t.symbol ≡ class
    → why ≡ control.cause l n (plain_steps.step m t))
take_cause (Ok why) l n stack a class h =
    λ m t i e. h ∙ (ap (counts.cause l n) (step_shown stack a class m t i e)
    ∙ cause_seen l n (plain_steps.step m t))
take_cause (Err x) l n stack a class h = h

pub take_taken : (r : Result (Option Why) Memory) (n : ℕ) (stack : List Frame) (a : At)
    (class : Class) (after : List Frame) (b : At) (c : ℕ)
    → IfOk r (λ why. why ≡ None → counts.Follows n (steps.step stack a class) after b c)
    → IfOk r (λ why. (m : State) (t : Token) → IsControl stack a m → class_of t.symbol ≡ class
    → why ≡ None → control.Follows n (plain_steps.step m t) after b c)
take_taken (Ok why) n stack a class after b c h =
    λ m t i e none. follows_seen n (plain_steps.step m t) after b c
    (subst (λ (o : Option steps.Moved). counts.Follows n o after b c)
    (step_shown stack a class m t i e) (h none))
take_taken (Err x) n stack a class after b c h = h

taken_seen : (o : Option Taken) → steps.is_moved (seen o) ≡ control.is_taken o
taken_seen None = refl
taken_seen (Some k) = refl

pub type_taken : (r : Result Bool Memory) (stack : List Frame) (a : At)
    → IfOk r (λ b. b ≡ steps.is_moved (steps.step stack a Marked))
    → IfOk r (λ b. (m : State) (p : Place) (n : List ℕ) → IsControl stack a m
    → b ≡ control.is_taken (plain_steps.step m (token_at p (marked n))))
type_taken (Ok b) stack a h =
    λ m p n i. h ∙ (ap steps.is_moved (step_shown stack a Marked m (token_at p (marked n)) i refl)
    ∙ taken_seen (plain_steps.step m (token_at p (marked n))))
type_taken (Err x) stack a h = h

end_seen : (stack : List plain.Frame) (l : ℕ) (e : Expr)
    → steps.is_end (reduced (frames_of stack) l) ≡ control.is_whole (plain_steps.end_at stack e)
end_seen [] l e = refl
end_seen (f ∷ stack) l e = refl

spot_unfinished : (s : elements.Standing) (x : plain_parts.Spot)
    → steps.finished (frames_at (plain.AtSpot s x) []) (at_of (plain.AtSpot s x)) ≡ false
spot_unfinished s plain_parts.Start = refl
spot_unfinished s _ = refl

finished_seen : (stack : List plain.Frame) (a : plain.At)
    → steps.finished (frames_at a stack) (at_of a)
    ≡ control.is_whole (plain_steps.finished_at stack a)
finished_seen stack (plain.Have k e) =
    ap steps.is_end (sym (reduce_seen 0 stack k e))
    ∙ end_seen (plain_steps.reduce 0 stack k e).stack (plain_steps.reduce 0 stack k e).level
    (plain_steps.reduce 0 stack k e).operand
finished_seen stack (plain.AtSpot s x) = spot_unfinished s x
finished_seen stack _ = refl

pub may_end : (b : Bool) (stack : List Frame) (a : At) → b ≡ steps.finished stack a
    → (m : State) → IsControl stack a m → b ≡ control.is_whole (plain_steps.finished m)
may_end b stack a h m i =
    h ∙ (ap (λ (x : List Frame). steps.finished x a) i.frames
    ∙ (ap (λ (x : At). steps.finished (frames_at m.at m.stack) x) i.place
    ∙ finished_seen m.stack m.at))

none_left : (es : List plain_parts.Fixed) (k : Skeleton)
    → steps.is_empty (terminals es) ≡ control.is_whole (plain_steps.whole_at (plain_parts.Await es k))
none_left [] k = refl
none_left (e ∷ es) k = refl

element_seen : (a : plain.At) (stack : List plain.Frame)
    → steps.element_ended (frames_at a stack) (at_of a)
    ≡ control.is_whole (plain_steps.element_at a)
element_seen (plain.AtSpot s (plain_parts.Await es k)) stack = none_left es k
element_seen (plain.AtSpot s plain_parts.Start) stack = refl
element_seen (plain.AtSpot s _) stack = refl
element_seen _ stack = refl

pub element_may_end : (b : Bool) (stack : List Frame) (a : At) → b ≡ steps.element_ended stack a
    → (m : State) → IsControl stack a m → b ≡ control.is_whole (plain_steps.finished_element m)
element_may_end b stack a h m i =
    h ∙ (ap (λ (x : List Frame). steps.element_ended x a) i.frames
    ∙ (ap (λ (x : At). steps.element_ended (frames_at m.at m.stack) x) i.place
    ∙ element_seen m.at m.stack))
