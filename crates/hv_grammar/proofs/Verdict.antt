-- What the machine answers is so: the tree that the tokens derive, or their first refusal; and what
-- they derive is the answer.
use Rattle.std.proofs.Common.{◌≡◌, ℕ, suc, ◌≤◌, Bool, true, false, cond, List, [], ◌∷◌, ◌++◌, length, map, refl, sym, ap, ◌∙◌, append_assoc, arith, Option, Some, None, subst}
use Rattle.std.proofs.lemmas.List.{append-nil, length-append}
use Rattle.std.proofs.lemmas.Bool.Decides.{nat_tests}
use Rattle.std.specs.Prelude.{nat_le}
use Rattle.hv_base.specs.declared.why.Why.TheVariants.{Syntax, TooDeep}
use Rattle.hv_grammar.specs.Symbols.{Token, Role, inside, operator, Marked}
use Rattle.hv_grammar.specs.Refusal.{Limits, operators_with, KeepsLimits, Derives, Begins, BeginsWithin, Refuses, wrong, deep, early}
use Rattle.hv_ctree.specs.tree.Expressions.{Expr}
use Rattle.hv_ctree.specs.tree.Statements.{Skeleton}
use Rattle.hv_grammar.specs.Elements.{Standing, ReadsElement}
use Rattle.hv_grammar.specs.Grammar.{DerivesExpression, DerivesElement}
use Rattle.hv_grammar.specs.Laws.{Says, SaysOfElement}
use Rattle.hv_grammar.specs.machine.Frames.{State}
use Rattle.hv_grammar.specs.machine.Steps.{Taken, step, begin, finished_element}
use Rattle.hv_grammar.specs.machine.Moves.{Takes, taken, taken_to_count, Moves, stays, takes}
use Rattle.hv_grammar.specs.machine.Answers.{AnswerOf, Accepted, Refused, operators_before, operators_after, keeps, at_end, answers}
use Rattle.hv_grammar.proofs.Languages.{start_of, Tree, finish, ReadsAs, WholeOf, tree_of, reads_of, whole_by, not_pending, sound_of, Finishes, complete_of, EndsIn, ends_of}
use Rattle.hv_grammar.proofs.Pending.{root, is_pending, Steady, Steadily, steady}

abbrev pub token_of : Marked → Token
token_of t = t.token

abbrev pub tokens_of : List Marked → List Token
tokens_of ts = map (λ t. t.token) ts

------ moves over a list and what stands after it

pub appended : {m n o : State} {x y z : Bool} {ts us : List Marked} → Moves m x ts n y []
    → Moves n y us o z [] → Moves m x (ts ++ us) o z []
appended stays g = g
appended (takes e h) g = takes e (appended h g)

record SplitAt (m : State) (x : Bool) (first rest : List Marked) (o : State) (z : Bool) : Type 0
  where
    there : State
    pending : Bool
    before : Moves m x first there pending []
    after : Moves there pending rest o z []

split_more : {m n o : State} {x y z : Bool} {t : Marked} {first rest : List Marked}
    → Takes m x t n y → SplitAt n y first rest o z → SplitAt m x (t ∷ first) rest o z
split_more e s =
    record { there = s.there; pending = s.pending; before = takes e s.before; after = s.after }

split_at : (first rest : List Marked) {m o : State} {x z : Bool} → Moves m x (first ++ rest) o z []
    → SplitAt m x first rest o z
split_at [] rest {m} {o} {x} {z} h = record { there = m; pending = x; before = stays; after = h }
split_at (t ∷ first) rest (takes e h) = split_more e (split_at first rest h)

------ what the machine makes of tokens, as functions

abbrev reached : State → List Token → Option State
reached m [] = Some m
reached m (t ∷ ts) = elim (step m t) [
  | None ↦ None
  | Some k ↦ reached k.state ts
]

reached_step : (m : State) (t : Token) (ts : List Token) (k : Taken) → step m t ≡ Some k
    → reached m (t ∷ ts) ≡ reached k.state ts
reached_step m t ts k e = ap (λ o. next o) e where
  next : Option Taken → Option State
  next None = None
  next (Some k) = reached k.state ts

reached_run : (us : List Token) {m n : State} {x y : Bool} {ts : List Marked} → Moves m x ts n y []
    → reached m (tokens_of ts ++ us) ≡ reached n us
reached_run us stays = refl
reached_run us (takes {m = m} {t = t} {ts = ts} (taken b z e) g) =
    reached_step m t.token (tokens_of ts ++ us) _ e ∙ reached_run us g
reached_run us (takes {m = m} {t = t} {ts = ts} (taken_to_count r z e) g) =
    reached_step m t.token (tokens_of ts ++ us) _ e ∙ reached_run us g

reached_all : {m n : State} {x y : Bool} {ts : List Marked} → Moves m x ts n y []
    → reached m (tokens_of ts) ≡ Some n
reached_all {m} {ts = ts} g = ap (reached m) (sym (append-nil (tokens_of ts))) ∙ reached_run [] g

-- whether a token says that the `(` before it counted
abbrev late_of : Option Taken → Bool
late_of None = false
late_of (Some k) = k.late

-- whether what stands after a `(` says so; the truth value is for the end
abbrev late_next : State → List Token → Bool → Bool
late_next m [] w = w
late_next m (t ∷ ts) w = late_of (step m t)

abbrev pub role_by : Taken → Bool → Role
role_by k false = k.role
role_by k true = cond k.sized operator k.role

abbrev pub marked_by : Taken → Token → Bool → Marked
marked_by k t b = record { token = t; depth = k.depth; role = role_by k b; statements = 0 }

abbrev marks_of : State → List Token → Bool → List Marked
marks_of m [] w = []
marks_of m (t ∷ ts) w = elim (step m t) [
  | None ↦ []
  | Some k ↦ marked_by k t (late_next k.state ts w) ∷ marks_of k.state ts w
]

marks_step : (m : State) (t : Token) (ts : List Token) (w : Bool) (k : Taken) → step m t ≡ Some k
    → marks_of m (t ∷ ts) w ≡ marked_by k t (late_next k.state ts w) ∷ marks_of k.state ts w
marks_step m t ts w k e = ap (λ o. next o) e where
  next : Option Taken → List Marked
  next None = []
  next (Some k) = marked_by k t (late_next k.state ts w) ∷ marks_of k.state ts w

late_run : (us : List Token) (w : Bool) {m n : State} {x y : Bool} {ts : List Marked}
    → Moves m x ts n y [] → late_next n us w ≡ y
    → late_next m (tokens_of ts ++ us) w ≡ x
late_run us w stays e = e
late_run us w (takes (taken b z f) g) e = ap late_of f
late_run us w (takes (taken_to_count r z f) g) e = ap late_of f

-- a token with no open statements, as the machine marks it
same_quiet : (t : Marked) (n : State) (x b : Bool) → t.statements ≡ 0
    → marked_by (record { state = n; depth = t.depth; role = t.role; late = x; sized = b }) t.token
    false ≡ t
same_quiet t n x b e =
    ap (λ (i : ℕ). record { token = t.token; depth = t.depth; role = t.role; statements = i })
    (sym e)

same_counted : (t : Marked) (n : State) (x : Bool) → t.role ≡ operator → t.statements ≡ 0
    → marked_by (record { state = n; depth = t.depth; role = inside; late = x; sized = true })
    t.token true ≡ t
same_counted t n x r e =
    ap (λ (o : Role). record { token = t.token; depth = t.depth; role = o; statements = 0 }) (sym r)
    ∙ ap (λ (i : ℕ). record { token = t.token; depth = t.depth; role = t.role; statements = i })
    (sym e)

-- the marks of the tokens are those that the machine gives them
marks_run : (us : List Token) (w : Bool) {m n : State} {x y : Bool} {ts : List Marked}
    → Moves m x ts n y [] → late_next n us w ≡ y
    → marks_of m (tokens_of ts ++ us) w ≡ ts ++ marks_of n us w
marks_run us w stays e = refl
marks_run us w (takes {m = m} {n = o} {x = x} {t = t} {ts = ts} (taken b z f) g) e =
    marks_step m t.token (tokens_of ts ++ us) w
    (record { state = o; depth = t.depth; role = t.role; late = x; sized = b }) f
    ∙ (ap (λ c. marked_by (record
    { state = o; depth = t.depth; role = t.role; late = x; sized = b }) t.token c ∷
    marks_of o (tokens_of ts ++ us) w) (late_run us w g e)
    ∙ (ap (λ v. v ∷ marks_of o (tokens_of ts ++ us) w) (same_quiet t o x b z)
    ∙ ap (λ (vs : List Marked). t ∷ vs) (marks_run us w g e)))
marks_run us w (takes {m = m} {n = o} {x = x} {t = t} {ts = ts} (taken_to_count r z f) g) e =
    marks_step m t.token (tokens_of ts ++ us) w
    (record { state = o; depth = t.depth; role = inside; late = x; sized = true }) f
    ∙ (ap (λ c. marked_by (record
    { state = o; depth = t.depth; role = inside; late = x; sized = true }) t.token c ∷
    marks_of o (tokens_of ts ++ us) w) (late_run us w g e)
    ∙ (ap (λ v. v ∷ marks_of o (tokens_of ts ++ us) w) (same_counted t o x r z)
    ∙ ap (λ (vs : List Marked). t ∷ vs) (marks_run us w g e)))

------ limits

abbrev count : ℕ → List Marked → ℕ
count n [] = n
count n (t ∷ ts) = count (operators_with n t.role) ts

keeps_more : (l : Limits) (n : ℕ) (ts us : List Marked) → KeepsLimits l n ts
    → KeepsLimits l (count n ts) us → KeepsLimits l n (ts ++ us)
keeps_more l n [] us h g = g
keeps_more l n (t ∷ ts) us h g = (h.0, h.1, h.2, keeps_more l (operators_with n t.role) ts us h.3 g)

keeps_last : (l : Limits) (n : ℕ) (ts us : List Marked) → KeepsLimits l n (ts ++ us)
    → KeepsLimits l (count n ts) us
keeps_last l n [] us h = h
keeps_last l n (t ∷ ts) us h = keeps_last l (operators_with n t.role) ts us h.3

few_first : (l : Limits) (n : ℕ) (ts us : List Marked) → KeepsLimits l n (ts ++ us)
    → n ≤ l.operators → count n ts ≤ l.operators
few_first l n [] us h f = f
few_first l n (t ∷ ts) us h f = few_first l (operators_with n t.role) ts us h.3 h.2

count_more : (n : ℕ) (ts us : List Marked) → count n (ts ++ us) ≡ count (count n ts) us
count_more n [] us = refl
count_more n (t ∷ ts) us = count_more (operators_with n t.role) ts us

tokens_more : (ts us : List Marked) → tokens_of (ts ++ us) ≡ tokens_of ts ++ tokens_of us
tokens_more [] us = refl
tokens_more (t ∷ ts) us = ap (λ x. t.token ∷ x) (tokens_more ts us)

-- a token keeps the limits
pub record Kept (l : Limits) (n : ℕ) (k : Taken) : Type 0 where
  shallow : k.depth ≤ l.brackets
  few : operators_before n k.late ≤ l.operators
  fewer : operators_after n k ≤ l.operators

pub kept : (l : Limits) (n : ℕ) (k : Taken) → keeps l n k ≡ true → Kept l n k
kept l n k e =
    elim (nat_le k.depth l.brackets) as (λ b. nat_le k.depth l.brackets ≡ b
    → cond b (cond (nat_le (operators_before n k.late) l.operators)
    (nat_le (operators_after n k) l.operators) false) false ≡ true → Kept l n k) [
      | true ↦ λ d f. elim (nat_le (operators_before n k.late) l.operators) as (λ b. nat_le
          (operators_before n k.late) l.operators ≡ b
          → cond b (nat_le (operators_after n k) l.operators) false ≡ true → Kept l n k) [
            | true ↦ λ g h.
                let shallow : k.depth ≤ l.brackets = grind (arith, nat_tests) in
                let few : operators_before n k.late ≤ l.operators = grind (arith, nat_tests) in
                let fewer : operators_after n k ≤ l.operators = grind (arith, nat_tests) in
                record { shallow = shallow; few = few; fewer = fewer }
            | false ↦ λ g h. cc
          ] refl f
      | false ↦ λ d f. cc
    ] refl e

keeps_so : (l : Limits) (n : ℕ) (k : Taken) → Kept l n k → keeps l n k ≡ true
keeps_so l n k h =
    let d : nat_le k.depth l.brackets ≡ true = let le = h.shallow in grind (arith, nat_tests) in
    let f : nat_le (operators_before n k.late) l.operators ≡ true = let le = h.few in
    grind (arith, nat_tests) in
    let g : nat_le (operators_after n k) l.operators ≡ true = let le = h.fewer in
    grind (arith, nat_tests) in
    rw (d, f, g) refl

------ what stands before the machine

-- the machine comes so from the first tokens; n of them count
pub record Based (kind : Option Standing) (l : Limits) (m : State) (x : Bool) (n : ℕ) (before : List Token) : Type 0 where
  pub done : List Marked
  pub tokens : tokens_of done ≡ before
  pub moves : Moves (start_of kind) false done m x []
  pub counts : count 0 done ≡ n
  pub limits : n ≤ l.operators → KeepsLimits l 0 done

-- the machine stands after the first tokens; where a `(` is pending, n is without it
pub record Stand (kind : Option Standing) (l : Limits) (m : State) (n : ℕ) (before : List Token) : Type 0 where
  pub base : Based kind l m false n before
  pub few : n ≤ l.operators
  pub pending : is_pending m ≡ true → Based kind l m true (suc n) before

pub start : (kind : Option Standing) (l : Limits) → Stand kind l (start_of kind) 0 []
start kind l = record {
  base = record { done = []; tokens = refl; moves = stays; counts = refl; limits = λ f. tt };
  few = omega arith;
  pending = λ e. let no = not_pending kind in cc;
}

steady_step : (m : State) (t : Token) (k : Taken) → step m t ≡ Some k
    → Steady (is_pending m) (root m) k
steady_step m t k e =
    subst (λ (o : Option Taken). Steadily (is_pending m) (root m) o) e
    (steady m.stack m.at t.place t.symbol)

-- the way to the state that the next token wants
pub based_for : {kind : Option Standing} {l : Limits} {m : State} {n : ℕ} {before : List Token} (t : Token) (k : Taken)
    → Stand kind l m n before → step m t ≡ Some k
    → Based kind l m k.late (operators_before n k.late) before
based_for {kind} {l} {m} {n} {before} t k s e = pick (is_pending m) k.late refl refl where
  h : Steady (is_pending m) (root m) k
  h = steady_step m t k e

  pick : (b c : Bool) → is_pending m ≡ b → k.late ≡ c → Based kind l m c (operators_before n c) before
  pick b false p q = s.base
  pick true true p q = s.pending p
  pick false true p q = let late : k.late ≡ false = h.late p in cc

pub one_token : (done : List Marked) (t : Marked) {before : List Token} → tokens_of done ≡ before
    → tokens_of (done ++ t ∷ []) ≡ before ++ t.token ∷ []
one_token done t e = tokens_more done (t ∷ []) ∙ ap (λ (ts : List Token). ts ++ t.token ∷ []) e

based_next : {kind : Option Standing} {l : Limits} {m n : State} {x y : Bool} {i : ℕ} {before : List Token} (t : Marked)
    → Based kind l m x i before → Takes m x t n y → i ≤ l.operators
    → t.depth ≤ l.brackets → t.statements ≤ l.statements
    → Based kind l n y (operators_with i t.role) (before ++ t.token ∷ [])
based_next {l} {i = i} t b e few shallow flat = record {
  done = b.done ++ t ∷ [];
  tokens = one_token b.done t b.tokens;
  moves = appended b.moves (takes e stays);
  counts = count_more 0 b.done (t ∷ []) ∙ ap (λ (j : ℕ). operators_with j t.role) b.counts;
  limits =
      λ f. keeps_more l 0 b.done (t ∷ []) (b.limits few)
      (subst (λ (j : ℕ). KeepsLimits l j (t ∷ [])) (sym b.counts) (shallow, flat, f, tt));
}

-- the token as it is, where it doesn't count as a pending `(`
pub quietly : {m : State} (t : Token) (k : Taken) → step m t ≡ Some k
    → Takes m k.late (marked_by k t false) k.state false
quietly t k e = taken k.sized refl e

counting : {m : State} (t : Token) (k : Taken) → step m t ≡ Some k → k.sized ≡ true
    → k.role ≡ inside
    → Takes m k.late (record { token = t; depth = k.depth; role = operator; statements = 0 })
    k.state true
counting {m} t k e sized quiet =
    taken_to_count refl refl (e
    ∙ (ap (λ (r : Role). Some (record
    { state = k.state; depth = k.depth; role = r; late = k.late; sized = k.sized })) quiet
    ∙ ap (λ (b : Bool). Some (record
    { state = k.state; depth = k.depth; role = inside; late = k.late; sized = b })) sized))

-- the next token is taken
pub stand_next : {kind : Option Standing} {l : Limits} {m : State} {n : ℕ} {before : List Token} (t : Token) (k : Taken)
    → Stand kind l m n before → step m t ≡ Some k → Kept l n k
    → Stand kind l k.state (operators_after n k) (before ++ t ∷ [])
stand_next {kind} {l} {m} {n} {before} t k s e q = record {
  base = based_next (marked_by k t false) (based_for t k s e) (quietly t k e) q.few q.shallow
      (omega arith);
  few = q.fewer;
  pending = λ p. counted (sym h.pending ∙ p);
} where
  h : Steady (is_pending m) (root m) k
  h = steady_step m t k e

  counted : k.sized ≡ true → Based kind l k.state true (suc (operators_after n k)) (before ++ t ∷ [])
  counted sized =
      let quiet : k.role ≡ inside = h.quiet sized in
      let same : operators_before n k.late ≡ operators_after n k =
      ap (λ (r : Role). operators_with (operators_before n k.late) r) (sym quiet) in
      subst (λ (i : ℕ). Based kind l k.state true (suc i) (before ++ t ∷ [])) same
      (based_next (record { token = t; depth = k.depth; role = operator; statements = 0 })
      (based_for t k s e) (counting t k e sized quiet) q.few q.shallow (omega arith))

------ what can follow

whole_of : (kind : Option Standing) {m : State} {done : List Marked}
    → Moves (start_of kind) false done m false [] → (e : EndsIn kind m)
    → WholeOf kind (done ++ e.rest)
whole_of kind {done = done} g e =
    whole_by kind (done ++ e.rest) e.tree (sound_of kind (appended g e.moves) e.is)

pub begins_within : {kind : Option Standing} {l : Limits} {m : State} {n : ℕ} {before : List Token} → Stand kind l m n before
    → BeginsWithin l token_of (WholeOf kind) before
begins_within {kind} s = record {
  first = s.base.done;
  rest = (ends_of kind s.base.moves).rest;
  tokens = s.base.tokens;
  whole = whole_of kind s.base.moves (ends_of kind s.base.moves);
  limits = s.base.limits s.few;
}

pub begins_from : (kind : Option Standing) {m : State} (done : List Marked) {before : List Token} → tokens_of done ≡ before
    → Moves (start_of kind) false done m false [] → Begins token_of (WholeOf kind) before
begins_from kind done e g =
    record { first = done; rest = (ends_of kind g).rest; tokens = e; whole = whole_of kind g (ends_of kind g) }

-- what an expression begins with, the machine takes
record Came (kind : Option Standing) (first : List Marked) : Type 0 where
  there : State
  pending : Bool
  moves : Moves (start_of kind) false first there pending []

came : (kind : Option Standing) (first rest : List Marked) → WholeOf kind (first ++ rest)
    → Came kind first
came kind first rest w = go (complete_of kind (reads_of kind (first ++ rest) w)) where
  go : Finishes kind (first ++ rest) [] (tree_of kind (first ++ rest) w) → Came kind first
  go h = let s = split_at first rest h.moves in
      record { there = s.there; pending = s.pending; moves = s.before }

-- no expression begins with a token that the machine refuses
pub refused : {kind : Option Standing} {l : Limits} {m : State} {n : ℕ} {before : List Token} (t : Token)
    → Stand kind l m n before → step m t ≡ None → Begins token_of (WholeOf kind) (before ++ t ∷ []) → ⊥
refused {kind} {m = m} {before = before} t s e b =
    let c = came kind b.first b.rest b.whole in
    let some : reached (start_of kind) (tokens_of b.first) ≡ Some c.there = reached_all c.moves in
    let here : reached (start_of kind) (tokens_of s.base.done ++ t ∷ []) ≡ reached m (t ∷ []) =
    reached_run (t ∷ []) s.base.moves in
    let no : reached m (t ∷ []) ≡ None = rw (e, reached) refl in
    let same : reached (start_of kind) (tokens_of b.first)
    ≡ reached (start_of kind) (tokens_of s.base.done ++ t ∷ []) =
    ap (reached (start_of kind)) (b.tokens
    ∙ ap (λ (ts : List Token). ts ++ t ∷ []) (sym s.base.tokens)) in
    cc

-- the marks of what begins so are those of the machine
same_first : {kind : Option Standing} {l : Limits} {m : State} {n : ℕ} {before : List Token} (t : Token) (k : Taken)
    → step m t ≡ Some k → (s : Based kind l m k.late n before)
    → (b : BeginsWithin l token_of (WholeOf kind) (before ++ t ∷ [])) → (c : Came kind b.first)
    → b.first ≡ s.done ++ marked_by k t c.pending ∷ []
same_first {kind} {m = m} t k e s b c =
    sym (append-nil b.first) ∙ (sym (marks_run [] c.pending c.moves refl)
    ∙ (ap (λ (ts : List Token). marks_of (start_of kind) ts c.pending)
    (append-nil (tokens_of b.first)
    ∙ (b.tokens ∙ ap (λ (ts : List Token). ts ++ t ∷ []) (sym s.tokens)))
    ∙ (marks_run (t ∷ []) c.pending s.moves (ap late_of e)
    ∙ ap (λ (ts : List Marked). s.done ++ ts) (marks_step m t [] c.pending k e))))

-- a pending `(` counts for no fewer operators than one that isn't
no_fewer : (n o : ℕ) (k : Taken) (b : Bool) → (k.sized ≡ true → k.role ≡ inside)
    → operators_with n (role_by k b) ≤ o → n ≤ o → operators_with n k.role ≤ o
no_fewer n o k false q f g = f
no_fewer n o k true q f g = go k.sized refl f where
  go : (b : Bool) → k.sized ≡ b → operators_with n (cond b operator k.role) ≤ o
      → operators_with n k.role ≤ o
  go false e h = h
  go true e h = subst (λ (r : Role). operators_with n r ≤ o) (sym (q e)) g

pub too_deep : {kind : Option Standing} {l : Limits} {m : State} {n : ℕ} {before : List Token} (t : Token) (k : Taken)
    → Stand kind l m n before → step m t ≡ Some k → keeps l n k ≡ false
    → BeginsWithin l token_of (WholeOf kind) (before ++ t ∷ []) → ⊥
too_deep {kind} {l} {m} {n} {before} t k s e f b =
    go (based_for t k s e) (came kind b.first b.rest b.whole) where
      go : Based kind l m k.late (operators_before n k.late) before → Came kind b.first → ⊥
      go d c =
          let all : KeepsLimits l 0 (d.done ++ marked_by k t c.pending ∷ []) =
          subst (λ (ts : List Marked). KeepsLimits l 0 ts) (same_first t k e d b c) b.limits in
          let few : operators_before n k.late ≤ l.operators =
          subst (λ (i : ℕ). i ≤ l.operators) d.counts
          (few_first l 0 d.done (marked_by k t c.pending ∷ []) all (omega arith)) in
          let last : KeepsLimits l (operators_before n k.late) (marked_by k t c.pending ∷ []) =
          subst (λ (i : ℕ). KeepsLimits l i (marked_by k t c.pending ∷ [])) d.counts
          (keeps_last l 0 d.done (marked_by k t c.pending ∷ []) all) in
          let yes : keeps l n k ≡ true = keeps_so l n k (record {
            shallow = last.0;
            few = few;
            fewer =
                no_fewer (operators_before n k.late) l.operators k c.pending (steady_step m t k e).quiet
                last.2 few;
          }) in
          cc

-- an end that the machine doesn't accept is too early
too_early : {kind : Option Standing} {l : Limits} {m : State} {n : ℕ} {before : List Token} → Stand kind l m n before
    → finish kind m ≡ None → Derives l token_of (WholeOf kind) before → ⊥
too_early {kind} {m = m} {before = before} s e d =
    go (complete_of kind (reads_of kind d.first d.whole)) where
      go : Finishes kind d.first [] (tree_of kind d.first d.whole) → ⊥
      go h =
          let there : reached (start_of kind) (tokens_of d.first) ≡ Some h.there = reached_all h.moves in
          let here : reached (start_of kind) (tokens_of s.base.done) ≡ Some m = reached_all s.base.moves in
          let same : reached (start_of kind) (tokens_of d.first) ≡ reached (start_of kind) (tokens_of s.base.done) =
          ap (reached (start_of kind)) (d.tokens ∙ sym s.base.tokens) in
          let one : m ≡ h.there = cc in
          let both : finish kind m ≡ finish kind h.there =
          subst (λ (n : State). finish kind m ≡ finish kind n) one refl in
          let is = h.ends in
          cc

------ the answer

-- tokens derive this tree
pub record DerivedIn (kind : Option Standing) (l : Limits) (ts : List Token) (a : Tree kind)
    : Type 0 where
  pub first : List Marked
  pub tokens : tokens_of first ≡ ts
  pub reads : ReadsAs kind first [] a
  pub limits : KeepsLimits l 0 first

-- what an answer says of the tokens
abbrev pub SaysIn : (kind : Option Standing) → Limits → List Token → AnswerOf (Tree kind) → Type 0
SaysIn kind l ts (Accepted a) = DerivedIn kind l ts a
SaysIn kind l ts (Refused i why) = Refuses l token_of (WholeOf kind) ts i why

ended : {kind : Option Standing} {l : Limits} {m : State} {n : ℕ} {before : List Token} (i : ℕ) → Stand kind l m n before
    → length before ≡ i → SaysIn kind l before (at_end i (finish kind m))
ended {kind} {l} {m} {n} {before} i s e =
    elim (finish kind m) as (λ o. finish kind m ≡ o → SaysIn kind l before (at_end i o)) [
      | None ↦ λ f. subst (λ (j : ℕ). Refuses l token_of (WholeOf kind) before j Syntax) e
          (early before (begins_within s) (λ d. too_early s f d))
      | Some a ↦ λ f. record {
        first = s.base.done;
        tokens = s.base.tokens;
        reads =
            sound_of kind s.base.moves f;
        limits = s.base.limits s.few;
      }
    ] refl

judged : (kind : Option Standing) (l : Limits) (ts before : List Token) (m : State) (n i : ℕ) → Stand kind l m n before
    → length before ≡ i → SaysIn kind l (before ++ ts) (answers (finish kind) l m n i ts)
judged kind l [] before m n i s e =
    subst (λ (us : List Token). SaysIn kind l us (at_end i (finish kind m))) (sym (append-nil before))
    (ended i s e)
judged kind l (t ∷ ts) before m n i s e =
    elim (step m t) as (λ o. step m t ≡ o → SaysIn kind l (before ++ t ∷ ts) (elim o [
      | None ↦ Refused i Syntax
      | Some k ↦ cond (keeps l n k) (answers (finish kind) l k.state (operators_after n k) (suc i) ts)
          (Refused i TooDeep)
    ])) [
      | None ↦ λ f. subst (λ (j : ℕ). Refuses l token_of (WholeOf kind) (before ++ t ∷ ts) j
          Syntax) e (wrong before ts t (begins_within s) (refused t s f))
      | Some k ↦ λ f. elim (keeps l n k) as (λ b. keeps l n k ≡ b
          → SaysIn kind l (before ++ t ∷ ts) (cond b (answers (finish kind) l k.state (operators_after n k) (suc i) ts)
          (Refused i TooDeep))) [
            | true ↦ λ g. subst (λ (us : List Token). SaysIn kind l us
                (answers (finish kind) l k.state (operators_after n k) (suc i) ts)) (append_assoc before (t ∷ []) ts)
                (judged kind l ts (before ++ t ∷ []) k.state (operators_after n k) (suc i)
                (stand_next t k s f (kept l n k g))
                (length-append before (t ∷ []) ∙ (let h = e in omega arith)))
            | false ↦ λ g. subst (λ (j : ℕ). Refuses l token_of (WholeOf kind) (before ++ t ∷ ts) j
                TooDeep) e (deep before ts t (begins_within s)
                (begins_from kind ((based_for t k s f).done ++ marked_by k t false ∷ [])
                (one_token (based_for t k s f).done (marked_by k t false) (based_for t k s f).tokens)
                (appended (based_for t k s f).moves (takes (quietly t k f) stays)))
                (too_deep t k s f g))
          ] refl
    ] refl

-- the answer is the tree that the tokens derive, or their first refusal
pub answered : (kind : Option Standing) (l : Limits) (ts : List Token)
    → SaysIn kind l ts (answers (finish kind) l (start_of kind) 0 0 ts)
answered kind l ts = judged kind l ts [] (start_of kind) 0 0 (start kind l) refl

------ what is derived

pub answer_step : {T : Type 0} (f : State → Option T) (l : Limits) (m : State) (n i : ℕ) (t : Token) (ts : List Token) (k : Taken)
    → step m t ≡ Some k → keeps l n k ≡ true
    → answers f l m n i (t ∷ ts) ≡ answers f l k.state (operators_after n k) (suc i) ts
answer_step {T} f l m n i t ts k e h = ap (λ o. next o) e
    ∙ ap (λ b. cond b (answers f l k.state (operators_after n k) (suc i) ts) (Refused i TooDeep)) h
  where
    next : Option Taken → AnswerOf T
    next None = Refused i Syntax
    next (Some k) =
        cond (keeps l n k) (answers f l k.state (operators_after n k) (suc i) ts) (Refused i TooDeep)

answer_run : {T : Type 0} (w : State → Option T) (l : Limits) {m o : State} {x z : Bool} {ts : List Marked} (n i : ℕ) (a : T)
    → Moves m x ts o z [] → z ≡ false → KeepsLimits l (operators_before n x) ts
    → operators_before n x ≤ l.operators → w o ≡ Some a
    → answers w l m n i (tokens_of ts) ≡ Accepted a
answer_run w l n i a stays v h f e = ap (at_end i) e
answer_run w l n i a (takes {m = m} {n = o} {x = x} {t = t} {ts = ts} (taken b z g) r) v h f e =
    answer_step w l m n i t.token (tokens_of ts)
    (record { state = o; depth = t.depth; role = t.role; late = x; sized = b }) g
    (keeps_so l n (record { state = o; depth = t.depth; role = t.role; late = x; sized = b })
    (record { shallow = h.0; few = f; fewer = h.2 }))
    ∙ answer_run w l (operators_with (operators_before n x) t.role) (suc i) a r v h.3 h.2 e
answer_run w l n i a (takes {m = m} {n = o} {x = x} {t = t} {ts = ts} (taken_to_count c z g) r) v h
    f e =
    let same : operators_with (operators_before n x) t.role ≡ suc (operators_before n x) =
    ap (λ (p : Role). operators_with (operators_before n x) p) c in
    answer_step w l m n i t.token (tokens_of ts)
    (record { state = o; depth = t.depth; role = inside; late = x; sized = true }) g
    (keeps_so l n (record { state = o; depth = t.depth; role = inside; late = x; sized = true })
    (record { shallow = h.0; few = f; fewer = f }))
    ∙ answer_run w l (operators_before n x) (suc i) a r v
    (subst (λ (j : ℕ). KeepsLimits l j ts) same h.3)
    (subst (λ (j : ℕ). j ≤ l.operators) same h.2) e

-- what the tokens derive is the answer, so no other tree is derived
pub derived_answer : (kind : Option Standing) (l : Limits) (ts : List Token) (a : Tree kind)
    → DerivedIn kind l ts a → answers (finish kind) l (start_of kind) 0 0 ts ≡ Accepted a
derived_answer kind l ts a d = go (complete_of kind d.reads) where
  go : Finishes kind d.first [] a → answers (finish kind) l (start_of kind) 0 0 ts ≡ Accepted a
  go h = ap (answers (finish kind) l (start_of kind) 0 0) (sym d.tokens)
      ∙ answer_run (finish kind) l 0 0 a h.moves refl d.limits (omega arith) h.ends

------ expressions and elements

-- the same, said of an expression's tokens
pub says_expression : (l : Limits) (ts : List Token) (r : AnswerOf Expr) → SaysIn None l ts r
    → Says l ts r
says_expression l ts (Accepted a) h =
    record { first = h.first; tokens = h.tokens; reads = h.reads; limits = h.limits }
says_expression l ts (Refused i why) h = h

pub derived_expression : {l : Limits} {ts : List Token} {a : Expr} → DerivesExpression l ts a
    → DerivedIn None l ts a
derived_expression h =
    record { first = h.first; tokens = h.tokens; reads = h.reads; limits = h.limits }

-- and of an element's
pub says_element : (s : Standing) (l : Limits) (ts : List Token) (r : AnswerOf Skeleton)
    → SaysIn (Some s) l ts r → SaysOfElement l s ts r
says_element s l ts (Accepted k) h =
    record { first = h.first; tokens = h.tokens; reads = h.reads; limits = h.limits }
says_element s l ts (Refused i why) h = h

pub derived_element : {s : Standing} {l : Limits} {ts : List Token} {k : Skeleton}
    → DerivesElement l s ts k → DerivedIn (Some s) l ts k
derived_element h =
    record { first = h.first; tokens = h.tokens; reads = h.reads; limits = h.limits }

pub element_tree : (s : Standing) (ts us : List Marked) (j k : Skeleton)
    → map (λ t. t.token) ts ≡ map (λ t. t.token) us
    → ReadsElement s ts [] j → ReadsElement s us [] k → j ≡ k
element_tree s ts us j k e r q =
    let g = complete_of (Some s) r in
    let h = complete_of (Some s) q in
    let first : reached (begin s) (tokens_of ts) ≡ Some g.there = reached_all g.moves in
    let second : reached (begin s) (tokens_of us) ≡ Some h.there = reached_all h.moves in
    let same : reached (begin s) (tokens_of ts) ≡ reached (begin s) (tokens_of us) =
    ap (reached (begin s)) e in
    let one : g.there ≡ h.there = cc in
    let both : finished_element g.there ≡ finished_element h.there = ap finished_element one in
    let left = g.ends in
    let right = h.ends in
    cc
