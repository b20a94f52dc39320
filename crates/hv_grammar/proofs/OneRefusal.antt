-- The first refusal of tokens is the machine's answer, so they have one at most, and none where they
-- derive a tree.
use Rattle.std.proofs.Common.{◌≡◌, ℕ, suc, ◌+◌, true, false, cond, List, [], ◌∷◌, ◌++◌, length, refl, sym, ap, ◌∙◌, append_assoc, arith, Option, Some, None, subst}
use Rattle.std.proofs.lemmas.List.{append-nil}
use Rattle.hv_base.specs.declared.why.Why.{Why}
use Rattle.hv_base.specs.declared.why.Why.TheVariants.{Syntax, TooDeep}
use Rattle.hv_grammar.specs.Symbols.{Token, Marked}
use Rattle.hv_grammar.specs.Refusal.{Limits, operators_with, KeepsLimits, Derives, Begins, BeginsWithin, Refuses, wrong, deep, early}
use Rattle.hv_grammar.specs.Elements.{Standing}
use Rattle.hv_grammar.specs.machine.Frames.{State}
use Rattle.hv_grammar.specs.machine.Steps.{Taken, step}
use Rattle.hv_grammar.specs.machine.Moves.{takes, stays}
use Rattle.hv_grammar.specs.machine.Answers.{AnswerOf, Refused, operators_after, keeps, at_end, answers}
use Rattle.hv_grammar.proofs.Languages.{start_of, finish, WholeOf, whole_by, sound_of}
use Rattle.hv_grammar.proofs.Verdict.{token_of, tokens_of, appended, marked_by, kept, Stand, start, based_for, one_token, quietly, stand_next, begins_within, begins_from, refused, too_deep, answer_step}

------ what begins whole begins at each token

record Parts (ms : List Marked) (xs : List Token) : Type 0 where
  first : List Marked
  rest : List Marked
  whole : first ++ rest ≡ ms
  tokens : tokens_of first ≡ xs

parts_more : {x : Token} {xs : List Token} {ms : List Marked} (m : Marked) → m.token ≡ x
    → Parts ms xs → Parts (m ∷ ms) (x ∷ xs)
parts_more {x = x} m e p = record {
  first = m ∷ p.first;
  rest = p.rest;
  whole = ap (λ (ts : List Marked). m ∷ ts) p.whole;
  tokens = ap (λ (t : Token). t ∷ tokens_of p.first) e ∙ ap (λ (ts : List Token). x ∷ ts) p.tokens;
}

parts : (xs ys : List Token) (ms : List Marked) → tokens_of ms ≡ xs ++ ys → Parts ms xs
parts [] ys ms e = record { first = []; rest = ms; whole = refl; tokens = refl }
parts (x ∷ xs) ys [] e = cc
parts (x ∷ xs) ys (m ∷ ms) e =
    let head : m.token ≡ x = cc in
    let tail : tokens_of ms ≡ xs ++ ys = cc in
    parts_more m head (parts xs ys ms tail)

keeps_first : (l : Limits) (n : ℕ) (ts us : List Marked) → KeepsLimits l n (ts ++ us)
    → KeepsLimits l n ts
keeps_first l n [] us h = tt
keeps_first l n (t ∷ ts) us h = (h.0, h.1, h.2, keeps_first l (operators_with n t.role) ts us h.3)

prefix : (kind : Option Standing) {l : Limits} (xs ys : List Token)
    → BeginsWithin l token_of (WholeOf kind) (xs ++ ys)
    → BeginsWithin l token_of (WholeOf kind) xs
prefix kind {l} xs ys b = go (parts xs ys b.first b.tokens) where
  go : Parts b.first xs → BeginsWithin l token_of (WholeOf kind) xs
  go p = record {
    first = p.first;
    rest = p.rest ++ b.rest;
    tokens = p.tokens;
    whole =
        subst (λ (ts : List Marked). WholeOf kind ts)
        (ap (λ (ts : List Marked). ts ++ b.rest) (sym p.whole) ∙ append_assoc p.first p.rest b.rest)
        b.whole;
    limits =
        keeps_first l 0 p.first p.rest
        (subst (λ (ts : List Marked). KeepsLimits l 0 ts) (sym p.whole) b.limits);
  }

within_begins : (kind : Option Standing) {l : Limits} {ts : List Token}
    → BeginsWithin l token_of (WholeOf kind) ts
    → Begins token_of (WholeOf kind) ts
within_begins kind b = record { first = b.first; rest = b.rest; tokens = b.tokens; whole = b.whole }

------ where the machine stands after what begins whole

record Reaches (kind : Option Standing) (l : Limits) (m : State) (n i : ℕ) (done before : List Token) : Type 0 where
  there : State
  operators : ℕ
  stand : Stand kind l there operators (done ++ before)
  same : (rest : List Token) → answers (finish kind) l m n i (before ++ rest)
      ≡ answers (finish kind) l there operators (i + length before) rest

reaches_none : (kind : Option Standing) (l : Limits) (m : State) (n i : ℕ) (done : List Token) → Stand kind l m n done
    → Reaches kind l m n i done []
reaches_none kind l m n i done s =
    let e : i ≡ i + 0 = omega arith in
    record {
      there = m;
      operators = n;
      stand = subst (λ (ts : List Token). Stand kind l m n ts) (sym (append-nil done)) s;
      same = λ rest. ap (λ (j : ℕ). answers (finish kind) l m n j rest) e;
    }

reaches_more : (kind : Option Standing) (l : Limits) (m : State) (n i : ℕ) (done before : List Token) (t : Token) (k : Taken)
    → step m t ≡ Some k → keeps l n k ≡ true
    → Reaches kind l k.state (operators_after n k) (suc i) (done ++ t ∷ []) before
    → Reaches kind l m n i done (t ∷ before)
reaches_more kind l m n i done before t k f g r =
    let e : suc i + length before ≡ i + suc (length before) = omega arith in
    record {
      there = r.there;
      operators = r.operators;
      stand =
          subst (λ (ts : List Token). Stand kind l r.there r.operators ts)
          (append_assoc done (t ∷ []) before) r.stand;
      same = λ rest. answer_step (finish kind) l m n i t (before ++ rest) k f g
          ∙ (r.same rest ∙ ap (λ (j : ℕ). answers (finish kind) l r.there r.operators j rest) e);
    }

reaches : (kind : Option Standing) (l : Limits) (before done : List Token) (m : State) (n i : ℕ) → Stand kind l m n done
    → BeginsWithin l token_of (WholeOf kind) (done ++ before)
    → Reaches kind l m n i done before
reaches kind l [] done m n i s b = reaches_none kind l m n i done s
reaches kind l (t ∷ before) done m n i s b =
    elim (step m t) as (λ o. step m t ≡ o → Reaches kind l m n i done (t ∷ before)) [
      | None ↦ λ f. absurd (refused t s f (within_begins kind (prefix kind (done ++ t ∷ []) before whole)))
      | Some k ↦ λ f. elim (keeps l n k) as (λ c. keeps l n k ≡ c
          → Reaches kind l m n i done (t ∷ before)) [
            | true ↦ λ g. reaches_more kind l m n i done before t k f g
                (reaches kind l before (done ++ t ∷ []) k.state (operators_after n k) (suc i)
                (stand_next t k s f (kept l n k g)) whole)
            | false ↦ λ g. absurd (too_deep t k s f g (prefix kind (done ++ t ∷ []) before whole))
          ] refl
    ] refl where
      whole : BeginsWithin l token_of (WholeOf kind) ((done ++ t ∷ []) ++ before)
      whole =
          subst (λ (ts : List Token). BeginsWithin l token_of (WholeOf kind) ts)
          (sym (append_assoc done (t ∷ []) before)) b

------ the refusals

-- something begins with a token that the machine takes
taken_begins : {kind : Option Standing} {l : Limits} {m : State} {n : ℕ} {before : List Token} (t : Token) (k : Taken)
    → Stand kind l m n before → step m t ≡ Some k
    → Begins token_of (WholeOf kind) (before ++ t ∷ [])
taken_begins {kind} t k s f =
    begins_from kind ((based_for t k s f).done ++ marked_by k t false ∷ [])
    (one_token (based_for t k s f).done (marked_by k t false) (based_for t k s f).tokens)
    (appended (based_for t k s f).moves (takes (quietly t k f) stays))

-- what the machine answers at a token that it refuses
answer_none : {T : Type 0} (q : State → Option T) (l : Limits) (m : State) (n i : ℕ) (t : Token) (ts : List Token) → step m t ≡ None
    → answers q l m n i (t ∷ ts) ≡ Refused i Syntax
answer_none {T} q l m n i t ts e = ap (λ o. next o) e where
  next : Option Taken → AnswerOf T
  next None = Refused i Syntax
  next (Some k) =
      cond (keeps l n k) (answers q l k.state (operators_after n k) (suc i) ts) (Refused i TooDeep)

answer_deep : {T : Type 0} (q : State → Option T) (l : Limits) (m : State) (n i : ℕ) (t : Token) (ts : List Token) (k : Taken)
    → step m t ≡ Some k → keeps l n k ≡ false
    → answers q l m n i (t ∷ ts) ≡ Refused i TooDeep
answer_deep {T} q l m n i t ts k e f = ap (λ o. next o) e
    ∙ ap (λ b. cond b (answers q l k.state (operators_after n k) (suc i) ts) (Refused i TooDeep)) f
  where
    next : Option Taken → AnswerOf T
    next None = Refused i Syntax
    next (Some k) =
        cond (keeps l n k) (answers q l k.state (operators_after n k) (suc i) ts) (Refused i TooDeep)

wrong_at : (kind : Option Standing) (l : Limits) (m : State) (n i : ℕ) (before rest : List Token) (t : Token)
    → Stand kind l m n before → (Begins token_of (WholeOf kind) (before ++ t ∷ []) → ⊥)
    → answers (finish kind) l m n i (t ∷ rest) ≡ Refused i Syntax
wrong_at kind l m n i before rest t s none =
    elim (step m t) as (λ o. step m t ≡ o → answers (finish kind) l m n i (t ∷ rest) ≡ Refused i Syntax) [
      | None ↦ λ f. answer_none (finish kind) l m n i t rest f
      | Some k ↦ λ f. absurd (none (taken_begins t k s f))
    ] refl

deep_at : (kind : Option Standing) (l : Limits) (m : State) (n i : ℕ) (before rest : List Token) (t : Token)
    → Stand kind l m n before → Begins token_of (WholeOf kind) (before ++ t ∷ [])
    → (BeginsWithin l token_of (WholeOf kind) (before ++ t ∷ []) → ⊥)
    → answers (finish kind) l m n i (t ∷ rest) ≡ Refused i TooDeep
deep_at kind l m n i before rest t s some none =
    elim (step m t) as (λ o. step m t ≡ o → answers (finish kind) l m n i (t ∷ rest) ≡ Refused i TooDeep) [
      | None ↦ λ f. absurd (refused t s f some)
      | Some k ↦ λ f. elim (keeps l n k) as (λ c. keeps l n k ≡ c → answers (finish kind) l m n i (t ∷ rest)
          ≡ Refused i TooDeep) [
            | true ↦ λ g. absurd (none (begins_within (stand_next t k s f (kept l n k g))))
            | false ↦ λ g. answer_deep (finish kind) l m n i t rest k f g
          ] refl
    ] refl

early_at : (kind : Option Standing) (l : Limits) (m : State) (n i : ℕ) (ts : List Token) → Stand kind l m n ts
    → (Derives l token_of (WholeOf kind) ts → ⊥)
    → at_end i (finish kind m) ≡ Refused i Syntax
early_at kind l m n i ts s none =
    elim (finish kind m) as (λ o. finish kind m ≡ o → at_end i o ≡ Refused i Syntax) [
      | None ↦ λ f. refl
      | Some a ↦ λ f. absurd (none (record {
        first = s.base.done;
        tokens = s.base.tokens;
        whole = whole_by kind s.base.done a (sound_of kind s.base.moves f);
        limits = s.base.limits s.few;
      }))
    ] refl

first_at : (kind : Option Standing) (l : Limits) (before rest : List Token) (why : Why)
    → BeginsWithin l token_of (WholeOf kind) before
    → ((m : State) (n : ℕ) → Stand kind l m n before → (i : ℕ) → answers (finish kind) l m n i rest ≡ Refused i why)
    → answers (finish kind) l (start_of kind) 0 0 (before ++ rest) ≡ Refused (length before) why
first_at kind l before rest why b f =
    let r = reaches kind l before [] (start_of kind) 0 0 (start kind l) b in
    let e : 0 + length before ≡ length before = omega arith in
    r.same rest ∙ (f r.there r.operators r.stand (0 + length before)
    ∙ ap (λ (j : ℕ). Refused j why) e)

-- a first refusal is the machine's answer
pub refused_answer : (kind : Option Standing) (l : Limits) {ts : List Token} {i : ℕ} {why : Why}
    → Refuses l token_of (WholeOf kind) ts i why
    → answers (finish kind) l (start_of kind) 0 0 ts ≡ Refused i why
refused_answer kind l (wrong before rest t b none) =
    first_at kind l before (t ∷ rest) Syntax b (λ m n s i. wrong_at kind l m n i before rest t s none)
refused_answer kind l (deep before rest t b some none) =
    first_at kind l before (t ∷ rest) TooDeep b (λ m n s i. deep_at kind l m n i before rest t s some none)
refused_answer kind l (early ts b none) =
    ap (answers (finish kind) l (start_of kind) 0 0) (sym (append-nil ts))
    ∙ first_at kind l ts [] Syntax b (λ m n s i. early_at kind l m n i ts s none)
