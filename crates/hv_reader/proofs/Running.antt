-- A turn of the loop over tokens: the control and a state of the pure machine go on together.
use Rattle.std.proofs.Common.{◌≡◌, ℕ, suc, ◌+◌, ◌<◌, Bool, true, false, cond, List, [], ◌∷◌, length, map, get_or, drop, drop-cons, Option, Some, None, refl, sym, ap, ◌∙◌, arith}
use Rattle.std.proofs.lemmas.Option.{none-some}
use Rattle.hv_base.specs.declared.why.Why.{Why}
use Rattle.hv_base.specs.declared.why.Why.TheVariants.{Syntax, TooDeep}
use Rattle.hv_grammar.specs.Symbols.{Token}
use Rattle.hv_grammar.specs.Refusal.{Limits}
use Rattle.hv_grammar.specs.machine.Frames.{State}
use Rattle.hv_grammar.specs.machine.Steps.{Taken, step}
use Rattle.hv_grammar.specs.machine.Answers.{AnswerOf, Accepted, Refused, keeps, operators_after, at_end, answers}
use Rattle.hv_cparse.specs.declared.frame.Frame.{Frame}
use Rattle.hv_cparse.specs.declared.frame.At.{At}
use Rattle.hv_cparse.specs.Control.{IsControl, Follows, cause, is_whole}
use Rattle.hv_reader.specs.working.States.{Comes}

-- the answer by what the pure machine does with the next token
abbrev answer_by : {T : Type 0} → (State → Option T) → Limits → ℕ → ℕ → List Token → Option Taken
    → AnswerOf T
answer_by f l n i ts o = elim o [
  | None ↦ Refused i Syntax
  | Some k ↦ cond (keeps l n k) (answers f l k.state (operators_after n k) (suc i) ts)
      (Refused i TooDeep)
]

-- the state has this control, and answers so to the tokens that are left
pub record Runs (T : Type 0) (f : State → Option T) (l : Limits) (a : AnswerOf T) (m : State)
    (stack : List Frame) (at : At) (n i : ℕ) (ts : List Token) : Type 0 where
  pub is_control : IsControl stack at m
  pub answer : a ≡ answers f l m n i ts

kept : (b : Bool) → None ≡ cond b None (Some TooDeep) → b ≡ true
kept true e = refl
kept false e = absurd (none-some _ e)

-- the state after a token that was taken
abbrev pub next : State → Option Taken → State
next m None = m
next m (Some k) = k.state

pub comes_next : (m : State) (o : Option Taken) → Comes o (next m o)
comes_next m None = tt
comes_next m (Some k) = refl

turned_by : (T : Type 0) (f : State → Option T) (l : Limits) (n i : ℕ) (ts : List Token)
    (o : Option Taken) (m : State) (stack : List Frame) (at : At) (c : ℕ)
    → None ≡ cause l n o → Follows n o stack at c → Comes o m
    → Runs T f l (answer_by f l n i ts o) m stack at c (suc i) ts
turned_by T f l n i ts None m stack at c e g h = absurd (none-some _ e)
turned_by T f l n i ts (Some k) m stack at c e g h =
    let b : keeps l n k ≡ true = kept (keeps l n k) e in
    record {
      is_control = rw h g.0;
      answer = rw b (rw h (ap (λ (x : ℕ). answers f l k.state x (suc i) ts) (sym g.1)));
    }

refused_by : (T : Type 0) (f : State → Option T) (l : Limits) (n i : ℕ) (ts : List Token)
    (o : Option Taken) (why : Why) → Some why ≡ cause l n o
    → answer_by f l n i ts o ≡ Refused i why
refused_by T f l n i ts None why e = cc
refused_by T f l n i ts (Some k) why e =
    elim (keeps l n k) as (λ b. Some why ≡ cond b None (Some TooDeep)
    → cond b (answers f l k.state (operators_after n k) (suc i) ts) (Refused i TooDeep)
    ≡ Refused i why) [
      | true ↦ λ h. absurd (none-some _ (sym h))
      | false ↦ λ h. cc
    ] e

dropped : (X : Type 0) (of : X → Token) (ts : List X) (j : ℕ) (d : X) → j < length ts
    → d ≡ get_or ts j d → map of (drop j ts) ≡ of d ∷ map of (drop (j + 1) ts)
dropped X of ts j d h same =
    let one : j + 1 ≡ suc j = omega arith in
    ap (map of) (drop-cons ts j d h)
    ∙ (ap (λ (x : X). of x ∷ map of (drop (suc j) ts)) (sym same)
    ∙ ap (λ (x : ℕ). of d ∷ map of (drop x ts)) (sym one))

-- a token was taken
pub turned : (T : Type 0) (f : State → Option T) (X : Type 0) (of : X → Token) (l : Limits)
    (a : AnswerOf T) (ts : List X) (j : ℕ) (d : X) (m o : State) (old new : List Frame) (at to : At)
    (n c i : ℕ) (why : Option Why) → j < length ts → d ≡ get_or ts j d
    → Runs T f l a m old at n i (map of (drop j ts)) → why ≡ cause l n (step m (of d))
    → (why ≡ None → Follows n (step m (of d)) new to c) → why ≡ None → Comes (step m (of d)) o
    → Runs T f l a o new to c (i + 1) (map of (drop (j + 1) ts))
turned T f X of l a ts j d m o old new at to n c i why h same s e g none comes =
    let t = of d in
    let r = turned_by T f l n i (map of (drop (j + 1) ts)) (step m t) o new to c (sym none ∙ e)
    (g none) comes in
    let one : i + 1 ≡ suc i = omega arith in
    record {
      is_control = r.is_control;
      answer = s.answer ∙ (ap (answers f l m n i) (dropped X of ts j d h same)
          ∙ (r.answer ∙ ap (λ (x : ℕ). answers f l o c x (map of (drop (j + 1) ts))) (sym one)));
    }

-- a token was refused
pub refused : (T : Type 0) (f : State → Option T) (X : Type 0) (of : X → Token) (l : Limits)
    (a : AnswerOf T) (ts : List X) (j : ℕ) (d : X) (m : State) (old : List Frame) (at : At)
    (n i : ℕ) (o : Option Why) (why : Why) → j < length ts → d ≡ get_or ts j d
    → Runs T f l a m old at n i (map of (drop j ts)) → o ≡ cause l n (step m (of d))
    → o ≡ Some why → a ≡ Refused i why
refused T f X of l a ts j d m old at n i o why h same s e some =
    s.answer ∙ (ap (answers f l m n i) (dropped X of ts j d h same)
    ∙ refused_by T f l n i (map of (drop (j + 1) ts)) (step m (of d)) why (sym some ∙ e))

ends_so : (T : Type 0) (i : ℕ) (o : Option T) → true ≡ is_whole o
    → (tree : T) × (at_end i o ≡ Accepted tree)
ends_so T i None e = absurd (cc)
ends_so T i (Some tree) e = (tree, refl)

ends_early : (T : Type 0) (i : ℕ) (o : Option T) → false ≡ is_whole o
    → at_end i o ≡ Refused i Syntax
ends_early T i None e = refl
ends_early T i (Some tree) e = absurd (cc)

-- the tokens end where they may
pub ended : (T : Type 0) (f : State → Option T) (l : Limits) (a : AnswerOf T) (m : State)
    (stack : List Frame) (at : At) (n i : ℕ) (b : Bool) → Runs T f l a m stack at n i []
    → b ≡ is_whole (f m) → b ≡ true → (tree : T) × (a ≡ Accepted tree)
ended T f l a m stack at n i b s e h =
    let g = ends_so T i (f m) (sym h ∙ e) in
    (g.0, s.answer ∙ g.1)

-- the tokens end too early
pub ended_early : (T : Type 0) (f : State → Option T) (l : Limits) (a : AnswerOf T) (m : State)
    (stack : List Frame) (at : At) (n i : ℕ) (b : Bool) → Runs T f l a m stack at n i []
    → b ≡ is_whole (f m) → b ≡ false → a ≡ Refused i Syntax
ended_early T f l a m stack at n i b s e h = s.answer ∙ ends_early T i (f m) (sym h ∙ e)
