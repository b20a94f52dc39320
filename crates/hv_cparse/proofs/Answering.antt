-- A turn of the loop over the tokens.
use Rattle.std.proofs.Common.{◌≡◌, ℕ, suc, ◌+◌, ◌<◌, Bool, true, false, cond, List, [], ◌∷◌, length, get_or, drop, drop-cons, Option, Some, None, refl, sym, ap, ◌∙◌, arith}
use Rattle.std.proofs.lemmas.Option.{none-some}
use Rattle.hv_base.specs.declared.why.Why.{Why}
use Rattle.hv_base.specs.declared.why.Why.TheVariants.{Syntax, TooDeep}
use Rattle.hv_ctree.specs.tree.Expressions.{Expr}
use Rattle.hv_toks.specs.declared.stream.Classified.{Classified}
use Rattle.hv_grammar.specs.Symbols.{Token}
use Rattle.hv_grammar.specs.Refusal.{Limits}
use Rattle.hv_grammar.specs.machine.Frames.{State}
use Rattle.hv_grammar.specs.machine.Steps.{Taken, step, finished}
use Rattle.hv_grammar.specs.machine.Answers.{Answer, Accepted, Refused, keeps, operators_after, at_end, answer}
use Rattle.hv_cparse.specs.declared.frame.Frame.{Frame}
use Rattle.hv_cparse.specs.declared.frame.At.{At}
use Rattle.hv_cparse.specs.Control.{IsControl, Follows, cause, is_whole, token_of, tokens_of}

-- the answer by what the pure machine does with the next token
abbrev answer_by : Limits → ℕ → ℕ → List Token → Option Taken → Answer
answer_by l n i ts o = elim o [
  | None ↦ Refused i Syntax
  | Some k ↦ cond (keeps l n k) (answer l k.state (operators_after n k) (suc i) ts)
      (Refused i TooDeep)
]

-- a state whose control this is, and that answers so to the tokens that are left
pub record Stands (l : Limits) (a : Answer) (stack : List Frame) (at : At) (n i : ℕ)
    (ts : List Token) : Type 0 where
  pub state : State
  pub is_control : IsControl stack at state
  pub answers : a ≡ answer l state n i ts

kept : (b : Bool) → None ≡ cond b None (Some TooDeep) → b ≡ true
kept true e = refl
kept false e = absurd (none-some _ e)

turned_by : (l : Limits) (n i : ℕ) (ts : List Token) (o : Option Taken) (stack : List Frame)
    (at : At) (c : ℕ) → None ≡ cause l n o → Follows n o stack at c
    → Stands l (answer_by l n i ts o) stack at c (suc i) ts
turned_by l n i ts None stack at c e f = absurd (none-some _ e)
turned_by l n i ts (Some k) stack at c e f =
    let b : keeps l n k ≡ true = kept (keeps l n k) e in
    record {
      state = k.state;
      is_control = f.0;
      answers = rw b (ap (λ (x : ℕ). answer l k.state x (suc i) ts) (sym f.1));
    }

refused_by : (l : Limits) (n i : ℕ) (ts : List Token) (o : Option Taken) (why : Why)
    → Some why ≡ cause l n o → answer_by l n i ts o ≡ Refused i why
refused_by l n i ts None why e = cc
refused_by l n i ts (Some k) why e =
    elim (keeps l n k) as (λ b. Some why ≡ cond b None (Some TooDeep)
    → cond b (answer l k.state (operators_after n k) (suc i) ts) (Refused i TooDeep)
    ≡ Refused i why) [
      | true ↦ λ h. absurd (none-some _ (sym h))
      | false ↦ λ h. cc
    ] e

dropped : (ts : List Classified) (j : ℕ) (d : Classified) → j < length ts → d ≡ get_or ts j d
    → tokens_of (drop j ts) ≡ token_of d ∷ tokens_of (drop (j + 1) ts)
dropped ts j d h same =
    let one : j + 1 ≡ suc j = omega arith in
    ap tokens_of (drop-cons ts j d h)
    ∙ (ap (λ (x : Classified). token_of x ∷ tokens_of (drop (suc j) ts)) (sym same)
    ∙ ap (λ (x : ℕ). token_of d ∷ tokens_of (drop x ts)) (sym one))

pub turned : (l : Limits) (a : Answer) (ts : List Classified) (j : ℕ) (d : Classified)
    (old new : List Frame) (at to : At) (n c i : ℕ) (why : Option Why) → j < length ts
    → d ≡ get_or ts j d → Stands l a old at n i (tokens_of (drop j ts))
    → ((m : State) → IsControl old at m → why ≡ cause l n (step m (token_of d)))
    → ((m : State) → IsControl old at m → why ≡ None → Follows n (step m (token_of d)) new to c)
    → why ≡ None
    → Stands l a new to c (i + 1) (tokens_of (drop (j + 1) ts))
turned l a ts j d old new at to n c i why h same s e f none =
    let t = token_of d in
    let next = turned_by l n i (tokens_of (drop (j + 1) ts)) (step s.state t) new to c
    (sym none ∙ e s.state s.is_control) (f s.state s.is_control none) in
    let one : i + 1 ≡ suc i = omega arith in
    record {
      state = next.state;
      is_control = next.is_control;
      answers = s.answers ∙ (ap (answer l s.state n i) (dropped ts j d h same)
          ∙ (next.answers ∙ ap (λ (x : ℕ). answer l next.state c x (tokens_of (drop (j + 1) ts)))
          (sym one)));
    }

pub refused : (l : Limits) (a : Answer) (ts : List Classified) (j : ℕ) (d : Classified)
    (old : List Frame) (at : At) (n i : ℕ) (o : Option Why) (why : Why) → j < length ts
    → d ≡ get_or ts j d → Stands l a old at n i (tokens_of (drop j ts))
    → ((m : State) → IsControl old at m → o ≡ cause l n (step m (token_of d)))
    → o ≡ Some why → a ≡ Refused i why
refused l a ts j d old at n i o why h same s e some =
    s.answers ∙ (ap (answer l s.state n i) (dropped ts j d h same)
    ∙ refused_by l n i (tokens_of (drop (j + 1) ts)) (step s.state (token_of d)) why
    (sym some ∙ e s.state s.is_control))

ends_so : (i : ℕ) (o : Option Expr) → true ≡ is_whole o
    → (tree : Expr) × (at_end i o ≡ Accepted tree)
ends_so i None e = absurd (cc)
ends_so i (Some tree) e = (tree, refl)

ends_early : (i : ℕ) (o : Option Expr) → false ≡ is_whole o → at_end i o ≡ Refused i Syntax
ends_early i None e = refl
ends_early i (Some tree) e = absurd (cc)

pub ended : (l : Limits) (a : Answer) (stack : List Frame) (at : At) (n i : ℕ) (b : Bool)
    → Stands l a stack at n i [] → ((m : State) → IsControl stack at m → b ≡ is_whole (finished m))
    → b ≡ true → (tree : Expr) × (a ≡ Accepted tree)
ended l a stack at n i b s e h =
    let g = ends_so i (finished s.state) (sym h ∙ e s.state s.is_control) in
    (g.0, s.answers ∙ g.1)

pub ended_early : (l : Limits) (a : Answer) (stack : List Frame) (at : At) (n i : ℕ) (b : Bool)
    → Stands l a stack at n i [] → ((m : State) → IsControl stack at m → b ≡ is_whole (finished m))
    → b ≡ false → a ≡ Refused i Syntax
ended_early l a stack at n i b s e h =
    s.answers ∙ ends_early i (finished s.state) (sym h ∙ e s.state s.is_control)
