-- Lemmas on the connective of two conditions.
use Rattle.std.proofs.Common.{◌≡◌, ◌==◌, ◌+◌, ◌<◌, ◌≤◌, ℕ, Bool, true, false, cond, ◌&&◌, ◌||◌, List, length, Some, None, refl, sym, ap, ◌∙◌, inl, inr, ⊎_elim, ◌⊎◌, subst, arith, set, nat_lt, eq-eqb}
use Rattle.std.specs.Option.{is_some}
use Rattle.std.proofs.lemmas.Bool.{cond-true, cond-false, cases_Bool, and_parts, and_from, eqb-true, false_from_ne_true}
use Rattle.hv_cond.specs.declared.conditions.Cond.{Cond}
use Rattle.hv_cond.specs.declared.connectives.Connective.{Connective}
use Rattle.hv_cond.specs.declared.connectives.Connective.TheVariants.{And, Or}
use Rattle.hv_cond.specs.declared.nodes.Decision.{Decision}
use Rattle.hv_cond.specs.declared.nodes.Nodes.{Nodes}
use Rattle.hv_cond.specs.declared.results.Results.{Results}
use Rattle.hv_cond.specs.Diagram.{top, holds_in, value_of}
use Rattle.hv_cond.specs.working.Nodes.{newest_first, level, Extends, Within, IsClosed, IsHalves, IsOrdered, IsReduced, MayBranch}
use Rattle.hv_cond.specs.working.Results.{known, is_same_pair, ordered_pair}
use Rattle.hv_cond.specs.working.Connectives.{apply, absorbing, neutral, AreAnswers, Grows, IsAnswer}
use Rattle.hv_cond.proofs.Branches.{Cond-same, holds_in-terminal, holds_in-set, level-le}
use Rattle.hv_cond.proofs.Canonical.{level_from_meaning}
use Rattle.hv_cond.proofs.Counts.{open_pairs-answered}
use Rattle.hv_cond.proofs.Tables.{Extends-trans, Extends-node, Extends-holds, Extends-level, Extends-closed}

-- truth holds, and falsity does not
pub truth_holds : (ds : List Decision) (v : List Bool) → holds_in ds (record { index = 1 }) v ≡ true
truth_holds ds v = holds_in-terminal ds (record { index = 1 }) v (omega arith)

pub falsity_fails : (ds : List Decision) (v : List Bool) → holds_in ds (record { index = 0 }) v ≡ false
falsity_fails ds v = holds_in-terminal ds (record { index = 0 }) v (omega arith)

and_true : (x : Bool) → (x && true) ≡ x
and_true true = refl
and_true false = refl

and_false : (x : Bool) → (x && false) ≡ false
and_false true = refl
and_false false = refl

and_same : (x : Bool) → (x && x) ≡ x
and_same true = refl
and_same false = refl

or_true : (x : Bool) → (x || true) ≡ true
or_true true = refl
or_true false = refl

or_false : (x : Bool) → (x || false) ≡ x
or_false true = refl
or_false false = refl

or_same : (x : Bool) → (x || x) ≡ x
or_same true = refl
or_same false = refl

swapped : (k : Connective) (x y : Bool) → apply k x y ≡ apply k y x
swapped And true true = refl
swapped And true false = refl
swapped And false true = refl
swapped And false false = refl
swapped Or true true = refl
swapped Or true false = refl
swapped Or false true = refl
swapped Or false false = refl

-- the order of the two does not matter
pub IsAnswer-swap : (k : Connective) (ds : List Decision) (a b c : Cond) → IsAnswer k ds a b c → IsAnswer k ds b a c
IsAnswer-swap k ds a b c h =
    record { first = h.second; second = h.first; node = h.node; meaning = λ v. h.meaning v ∙ swapped k (holds_in ds a v) (holds_in ds b v) }

-- the answers that are seen at once
answer_same : (k : Connective) (ds : List Decision) (a : Cond) → a.index < top ds → IsAnswer k ds a a a
answer_same And ds a l = record { first = l; second = l; node = l; meaning = λ v. sym (and_same (holds_in ds a v)) }
answer_same Or ds a l = record { first = l; second = l; node = l; meaning = λ v. sym (or_same (holds_in ds a v)) }

answer_neutral : (k : Connective) (ds : List Decision) (a : Cond) → a.index < top ds → IsAnswer k ds a (neutral k) a
answer_neutral And ds a l = record { first = l; second = omega arith; node = l; meaning = λ v. sym (ap (λ (x : Bool). holds_in ds a v && x) (truth_holds ds v) ∙ and_true (holds_in ds a v)) }
answer_neutral Or ds a l = record { first = l; second = omega arith; node = l; meaning = λ v. sym (ap (λ (x : Bool). holds_in ds a v || x) (falsity_fails ds v) ∙ or_false (holds_in ds a v)) }

answer_absorbing : (k : Connective) (ds : List Decision) (a : Cond) → a.index < top ds → IsAnswer k ds a (absorbing k) (absorbing k)
answer_absorbing And ds a l = record { first = l; second = omega arith; node = omega arith; meaning = λ v. falsity_fails ds v ∙ sym (ap (λ (x : Bool). holds_in ds a v && x) (falsity_fails ds v) ∙ and_false (holds_in ds a v)) }
answer_absorbing Or ds a l = record { first = l; second = omega arith; node = omega arith; meaning = λ v. truth_holds ds v ∙ sym (ap (λ (x : Bool). holds_in ds a v || x) (truth_holds ds v) ∙ or_true (holds_in ds a v)) }

-- the first is the answer
pub answer_first : (k : Connective) (ds : List Decision) (a b : Cond) → a.index < top ds → b.index < top ds → (a ≡ b) ⊎ ((a ≡ absorbing k) ⊎ (b ≡ neutral k)) → IsAnswer k ds a b a
answer_first k ds a b l m h =
    ⊎_elim (λ (e : a ≡ b). subst (λ (x : Cond). IsAnswer k ds a x a) e (answer_same k ds a l))
    (λ (r : (a ≡ absorbing k) ⊎ (b ≡ neutral k)). ⊎_elim (λ (e : a ≡ absorbing k). subst (λ (x : Cond). IsAnswer k ds x b x) (sym e) (IsAnswer-swap k ds b (absorbing k) (absorbing k) (answer_absorbing k ds b m)))
    (λ (e : b ≡ neutral k). subst (λ (x : Cond). IsAnswer k ds a x a) (sym e) (answer_neutral k ds a l)) r) h

-- the second is the answer
pub answer_second : (k : Connective) (ds : List Decision) (a b : Cond) → a.index < top ds → b.index < top ds → (b ≡ absorbing k) ⊎ (a ≡ neutral k) → IsAnswer k ds a b b
answer_second k ds a b l m h = IsAnswer-swap k ds b a b (answer_first k ds b a m l (inr h))

-- an answer stays one
pub Extends-answer : {old new : Nodes} → Extends old new → (k : Connective) (a b c : Cond) → IsAnswer k (newest_first old) a b c → IsAnswer k (newest_first new) a b c
Extends-answer {old} {new} e k a b c h =
    record {
      first = Extends-node e a h.first;
      second = Extends-node e b h.second;
      node = Extends-node e c h.node;
      meaning = λ v. let f = Extends-holds e a v h.first in let g = Extends-holds e b v h.second in Extends-holds e c v h.node ∙ h.meaning v ∙ sym (ap (λ (x : Bool). apply k x (holds_in (newest_first new) b v)) f ∙ ap (λ (x : Bool). apply k (holds_in (newest_first old) a v) x) g);
    }

pub Extends-answers : {old new : Nodes} → Extends old new → (k : Connective) (r : Results) → AreAnswers k (newest_first old) r → AreAnswers k (newest_first new) r
Extends-answers e k r h = record { each = λ a b c kn. Extends-answer e k a b c (h.each a b c kn) }

-- an answer depends on no variable on which neither depends
pub answer_later : (n : ℕ) (ds : List Decision) → IsOrdered n ds → (k : Connective) (a b c : Cond) → IsAnswer k ds a b c → (i : ℕ) → i < level n ds a → i < level n ds b → i < level n ds c
answer_later n ds o k a b c h i before_a before_b =
    let most = level-le n ds o a in
    let from : i + 1 ≤ level n ds c = level_from_meaning n ds o c h.node (i + 1) (omega arith) (λ j v x l.
    let at_a = holds_in-set n ds o a h.first j (omega arith) v x in
    let at_b = holds_in-set n ds o b h.second j (omega arith) v x in
    h.meaning (set v j x) ∙ ap (λ (y : Bool). apply k y (holds_in ds b (set v j x))) at_a ∙ ap (λ (y : Bool). apply k (holds_in ds a v) y) at_b ∙ sym (h.meaning v)) in
    omega arith

-- a pair is the same as itself
is_same_pair-self : (a b : Cond) → is_same_pair a b a b ≡ true
unfolding is_same_pair
is_same_pair-self a b = let p = ordered_pair a b in and_from (p.0.index == p.0.index) (p.1.index == p.1.index) (eq-eqb p.0.index p.0.index refl) (eq-eqb p.1.index p.1.index refl)

abbrev SamePair : Cond → Cond → Cond → Cond → Type 0
SamePair a b x y = ((x ≡ a) × (y ≡ b)) ⊎ ((x ≡ b) × (y ≡ a))

-- what the parts of an ordered pair are
pair_cases : (a b : Cond) → (ordered_pair a b ≡ (b, a)) ⊎ (ordered_pair a b ≡ (a, b))
pair_cases a b = ⊎_elim (λ (e : nat_lt b.index a.index ≡ true). inl (cond-true _ _ _ e)) (λ (e : nat_lt b.index a.index ≡ false). inr (cond-false _ _ _ e)) (cases_Bool (nat_lt b.index a.index))

is_same_pair-from : (a b x y : Cond) → is_same_pair a b x y ≡ true → SamePair a b x y
unfolding is_same_pair
is_same_pair-from a b x y s =
    let p = ordered_pair a b in
    let q = ordered_pair x y in
    let both = and_parts (p.0.index == q.0.index) (p.1.index == q.1.index) s in
    let first : p.0 ≡ q.0 = Cond-same _ _ (eqb-true p.0.index q.0.index both.0) in
    let second : p.1 ≡ q.1 = Cond-same _ _ (eqb-true p.1.index q.1.index both.1) in
    ⊎_elim (λ (e : ordered_pair a b ≡ (b, a)).
    let p0 : (ordered_pair a b).0 ≡ b = ap (λ (z : Cond × Cond). z.0) e in
    let p1 : (ordered_pair a b).1 ≡ a = ap (λ (z : Cond × Cond). z.1) e in
    ⊎_elim (λ (f : ordered_pair x y ≡ (y, x)). inl (sym (ap (λ (z : Cond × Cond). z.1) f) ∙ sym second ∙ p1, sym (ap (λ (z : Cond × Cond). z.0) f) ∙ sym first ∙ p0))
    (λ (f : ordered_pair x y ≡ (x, y)). inr (sym (ap (λ (z : Cond × Cond). z.0) f) ∙ sym first ∙ p0, sym (ap (λ (z : Cond × Cond). z.1) f) ∙ sym second ∙ p1)) (pair_cases x y))
    (λ (e : ordered_pair a b ≡ (a, b)).
    let p0 : (ordered_pair a b).0 ≡ a = ap (λ (z : Cond × Cond). z.0) e in
    let p1 : (ordered_pair a b).1 ≡ b = ap (λ (z : Cond × Cond). z.1) e in
    ⊎_elim (λ (f : ordered_pair x y ≡ (y, x)). inr (sym (ap (λ (z : Cond × Cond). z.1) f) ∙ sym second ∙ p1, sym (ap (λ (z : Cond × Cond). z.0) f) ∙ sym first ∙ p0))
    (λ (f : ordered_pair x y ≡ (x, y)). inl (sym (ap (λ (z : Cond × Cond). z.0) f) ∙ sym first ∙ p0, sym (ap (λ (z : Cond × Cond). z.1) f) ∙ sym second ∙ p1)) (pair_cases x y))
    (pair_cases a b)

-- a younger pair is another one
is_same_pair-later : (a b x y : Cond) → a.index + b.index < x.index + y.index → is_same_pair a b x y ≡ false
is_same_pair-later a b x y l =
    false_from_ne_true _ (λ s. ⊎_elim (λ (e : (x ≡ a) × (y ≡ b)). let p = ap (λ (z : Cond). z.index) e.0 in let q = ap (λ (z : Cond). z.index) e.1 in omega arith)
    (λ (e : (x ≡ b) × (y ≡ a)). let p = ap (λ (z : Cond). z.index) e.0 in let q = ap (λ (z : Cond). z.index) e.1 in omega arith) (is_same_pair-from a b x y s))

-- the answers are those from before, and one more
abbrev pub Records : Results → Results → Cond → Cond → Cond → Type 0
Records before after a b answer = (x y : Cond) → known after x y ≡ cond (is_same_pair a b x y) (Some answer) (known before x y)

Records-fills : (before after : Results) (a b c : Cond) → Records before after a b c → (x y : Cond) → is_some (known before x y) ≡ true → is_some (known after x y) ≡ true
Records-fills before after a b c r x y h =
    ap is_some (r x y) ∙ ⊎_elim (λ (s : is_same_pair a b x y ≡ true). ap is_some (cond-true (is_same_pair a b x y) (Some c) (known before x y) s))
    (λ (s : is_same_pair a b x y ≡ false). ap is_some (cond-false (is_same_pair a b x y) (Some c) (known before x y) s) ∙ h) (cases_Bool (is_same_pair a b x y))

pub Records-answers : (k : Connective) (ds : List Decision) (before after : Results) (a b c : Cond) → Records before after a b c → AreAnswers k ds before → IsAnswer k ds a b c → AreAnswers k ds after
Records-answers k ds before after a b c r answers answer =
    record {
      each = λ x y z kn. ⊎_elim (λ (s : is_same_pair a b x y ≡ true).
          let found : Some c ≡ Some z = sym (cond-true (is_same_pair a b x y) (Some c) (known before x y) s) ∙ sym (r x y) ∙ kn in
          let same : c ≡ z = cc in
          let here : IsAnswer k ds a b z = subst (IsAnswer k ds a b) same answer in
          ⊎_elim (λ (e : (x ≡ a) × (y ≡ b)). subst (λ (w : Cond). IsAnswer k ds w y z) (sym e.0) (subst (λ (w : Cond). IsAnswer k ds a w z) (sym e.1) here))
          (λ (e : (x ≡ b) × (y ≡ a)). IsAnswer-swap k ds y x z (subst (λ (w : Cond). IsAnswer k ds w x z) (sym e.1) (subst (λ (w : Cond). IsAnswer k ds a w z) (sym e.0) here))) (is_same_pair-from a b x y s))
          (λ (s : is_same_pair a b x y ≡ false). answers.each x y z (sym (cond-false (is_same_pair a b x y) (Some c) (known before x y) s) ∙ sym (r x y) ∙ kn)) (cases_Bool (is_same_pair a b x y));
    }

-- a branch was added at most, and the pair has its answer
pub Grows-enter : (k : Connective) (old new : Nodes) (before after : Results) (a b c : Cond) → IsReduced new → Extends old new → length (newest_first new) ≤ length (newest_first old) + 1 → AreAnswers k (newest_first old) before
    → IsAnswer k (newest_first new) a b c → known before a b ≡ None → Records before after a b c → 2 ≤ a.index → 2 ≤ b.index → Grows k old new before after a b
Grows-enter k old new before after a b c reduced extends grows answers answer unknown r first second =
    record {
      reduced = reduced;
      extends = extends;
      answers = Records-answers k (newest_first new) before after a b c r (Extends-answers extends k before answers) answer;
      later = λ x y l. r x y ∙ cond-false _ _ _ (is_same_pair-later a b x y l);
      bound = λ xs ys cx cy wx wy.
          let less = open_pairs-answered (known before) (known after) (Records-fills before after a b c r) a b unknown (ap is_some (r a b ∙ cond-true _ _ _ (is_same_pair-self a b))) xs ys (wx first) (wy second) in
          omega arith;
    }

-- the pair is among those reached from another
pub record IsBelow (ds : List Decision) (a b x y : Cond) : Type 0 where
  pub older : x.index + y.index ≤ a.index + b.index
  pub first : (xs : List Cond) → IsClosed ds xs → Within xs a → Within xs x
  pub second : (ys : List Cond) → IsClosed ds ys → Within ys b → Within ys y

pub Grows-below : (k : Connective) (old new : Nodes) (before after : Results) (a b x y : Cond) → IsBelow (newest_first old) a b x y → Grows k old new before after x y → Grows k old new before after a b
Grows-below k old new before after a b x y below g =
    record {
      reduced = g.reduced;
      extends = g.extends;
      answers = g.answers;
      later = λ v w l. g.later v w (let o = below.older in omega arith);
      bound = λ xs ys cx cy wx wy. g.bound xs ys cx cy (below.first xs cx wx) (below.second ys cy wy);
    }

pub Grows-then : (k : Connective) (old mid new : Nodes) (before between after : Results) (a b x y : Cond) → Grows k old mid before between a b → IsBelow (newest_first old) a b x y → Grows k mid new between after x y → Grows k old new before after a b
Grows-then k old mid new before between after a b x y g below h =
    record {
      reduced = h.reduced;
      extends = Extends-trans old mid new g.extends h.extends;
      answers = h.answers;
      later = λ v w l. h.later v w (let o = below.older in omega arith) ∙ g.later v w l;
      bound = λ xs ys cx cy wx wy.
          let one = g.bound xs ys cx cy wx wy in
          let two = h.bound xs ys (Extends-closed g.extends xs cx) (Extends-closed g.extends ys cy) (below.first xs cx wx) (below.second ys cy wy) in
          omega arith;
    }

-- a pair is below itself
pub IsBelow-refl : (ds : List Decision) (a b : Cond) → IsBelow ds a b a b
IsBelow-refl ds a b = record { older = omega arith; first = λ xs cx w. w; second = λ ys cy w. w }

-- the branch of the answers for both halves is the answer
pub answer_made : {old new : Nodes} → Extends old new → (k : Connective) (a b c : Cond) → a.index < top (newest_first old) → b.index < top (newest_first old) → c.index < top (newest_first new)
    → ((v : List Bool) → holds_in (newest_first new) c v ≡ apply k (holds_in (newest_first old) a v) (holds_in (newest_first old) b v)) → IsAnswer k (newest_first new) a b c
answer_made {old} {new} e k a b c first second node meaning =
    record {
      first = Extends-node e a first;
      second = Extends-node e b second;
      node = node;
      meaning = λ v. let f = Extends-holds e a v first in let g = Extends-holds e b v second in meaning v ∙ sym (ap (λ (x : Bool). apply k x (holds_in (newest_first new) b v)) f ∙ ap (λ (x : Bool). apply k (holds_in (newest_first old) a v) x) g);
    }

-- the halves of two conditions are below them
pub IsBelow-low : (n : ℕ) (ds : List Decision) (a b : Cond) (i : ℕ) (al ah bl bh : Cond) → IsHalves n ds a i al ah → IsHalves n ds b i bl bh → IsBelow ds a b al bl
IsBelow-low n ds a b i al ah bl bh ha hb =
    record {
      older = let p = ha.low_older in let q = hb.low_older in omega arith;
      first = λ xs cx w. (ha.within xs cx w).0;
      second = λ ys cy w. (hb.within ys cy w).0;
    }

pub IsBelow-high : (n : ℕ) (ds : List Decision) (a b : Cond) (i : ℕ) (al ah bl bh : Cond) → IsHalves n ds a i al ah → IsHalves n ds b i bl bh → IsBelow ds a b ah bh
IsBelow-high n ds a b i al ah bl bh ha hb =
    record {
      older = let p = ha.high_older in let q = hb.high_older in omega arith;
      first = λ xs cx w. (ha.within xs cx w).1;
      second = λ ys cy w. (hb.within ys cy w).1;
    }

-- what the two calls on the halves have left
pub record HalvesAnswered (k : Connective) (old mid new : Nodes) (a b : Cond) (i : ℕ) (low high : Cond) : Type 0 where
  pub first : a.index < top (newest_first old)
  pub second : b.index < top (newest_first old)
  pub in_range : i < old.variables
  pub a_low : Cond
  pub a_high : Cond
  pub b_low : Cond
  pub b_high : Cond
  pub a_halves : IsHalves old.variables (newest_first old) a i a_low a_high
  pub b_halves : IsHalves old.variables (newest_first old) b i b_low b_high
  pub to_mid : Extends old mid
  pub to_new : Extends mid new
  pub mid_reduced : IsReduced mid
  pub new_reduced : IsReduced new
  pub low_answer : IsAnswer k (newest_first mid) a_low b_low low
  pub high_answer : IsAnswer k (newest_first new) a_high b_high high

later_lifts : {old new : Nodes} → Extends old new → (c : Cond) (i : ℕ) → c.index < top (newest_first old) → i < level old.variables (newest_first old) c → i < level new.variables (newest_first new) c
later_lifts e c i l h = let same = Extends-level e c l in omega arith

-- the answers of the halves may be halves of a branch
pub halves_may_branch : (k : Connective) (old mid new : Nodes) (a b : Cond) (i : ℕ) (low high : Cond) → HalvesAnswered k old mid new a b i low high → MayBranch new (record { variable = i; low = low; high = high })
halves_may_branch k old mid new a b i low high h =
    let first = h.first in
    let second = h.second in
    let e : Extends old new = Extends-trans old mid new h.to_mid h.to_new in
    let a_low : h.a_low.index < top (newest_first old) = (let p = h.a_halves.low_older in omega arith) in
    let b_low : h.b_low.index < top (newest_first old) = (let p = h.b_halves.low_older in omega arith) in
    let a_high : h.a_high.index < top (newest_first old) = (let p = h.a_halves.high_older in omega arith) in
    let b_high : h.b_high.index < top (newest_first old) = (let p = h.b_halves.high_older in omega arith) in
    let low_later = answer_later mid.variables (newest_first mid) h.mid_reduced.ordered k h.a_low h.b_low low h.low_answer i (later_lifts h.to_mid h.a_low i a_low h.a_halves.low_later) (later_lifts h.to_mid h.b_low i b_low h.b_halves.low_later) in
    record {
      in_range = (let p = e.variables in let q = h.in_range in omega arith);
      low_node = Extends-node h.to_new low h.low_answer.node;
      high_node = h.high_answer.node;
      low_later = later_lifts h.to_new low i h.low_answer.node low_later;
      high_later = answer_later new.variables (newest_first new) h.new_reduced.ordered k h.a_high h.b_high high h.high_answer i (later_lifts e h.a_high i a_high h.a_halves.high_later) (later_lifts e h.b_high i b_high h.b_halves.high_later);
    }

choice_of_answers : (k : Connective) (t p q r s : Bool) → cond t (apply k p q) (apply k r s) ≡ apply k (cond t p r) (cond t q s)
choice_of_answers k true p q r s = refl
choice_of_answers k false p q r s = refl

-- the branch of the answers of the halves means the answer
pub halves_meaning : (k : Connective) (old mid new : Nodes) (a b : Cond) (i : ℕ) (low high : Cond) → HalvesAnswered k old mid new a b i low high → (v : List Bool)
    → cond (value_of v i) (holds_in (newest_first new) high v) (holds_in (newest_first new) low v) ≡ apply k (holds_in (newest_first new) a v) (holds_in (newest_first new) b v)
halves_meaning k old mid new a b i low high h v =
    let first = h.first in
    let second = h.second in
    let e : Extends old new = Extends-trans old mid new h.to_mid h.to_new in
    let a_low : h.a_low.index < top (newest_first old) = (let p = h.a_halves.low_older in omega arith) in
    let b_low : h.b_low.index < top (newest_first old) = (let p = h.b_halves.low_older in omega arith) in
    let a_high : h.a_high.index < top (newest_first old) = (let p = h.a_halves.high_older in omega arith) in
    let b_high : h.b_high.index < top (newest_first old) = (let p = h.b_halves.high_older in omega arith) in
    let low_is : holds_in (newest_first new) low v ≡ apply k (holds_in (newest_first old) h.a_low v) (holds_in (newest_first old) h.b_low v) =
    Extends-holds h.to_new low v h.low_answer.node ∙ h.low_answer.meaning v
    ∙ ap (λ (x : Bool). apply k x (holds_in (newest_first mid) h.b_low v)) (Extends-holds h.to_mid h.a_low v a_low) ∙ ap (λ (x : Bool). apply k (holds_in (newest_first old) h.a_low v) x) (Extends-holds h.to_mid h.b_low v b_low) in
    let high_is : holds_in (newest_first new) high v ≡ apply k (holds_in (newest_first old) h.a_high v) (holds_in (newest_first old) h.b_high v) =
    h.high_answer.meaning v
    ∙ ap (λ (x : Bool). apply k x (holds_in (newest_first new) h.b_high v)) (Extends-holds e h.a_high v a_high) ∙ ap (λ (x : Bool). apply k (holds_in (newest_first old) h.a_high v) x) (Extends-holds e h.b_high v b_high) in
    let a_is : holds_in (newest_first new) a v ≡ cond (value_of v i) (holds_in (newest_first old) h.a_high v) (holds_in (newest_first old) h.a_low v) = Extends-holds e a v h.first ∙ h.a_halves.meaning v in
    let b_is : holds_in (newest_first new) b v ≡ cond (value_of v i) (holds_in (newest_first old) h.b_high v) (holds_in (newest_first old) h.b_low v) = Extends-holds e b v h.second ∙ h.b_halves.meaning v in
    ap (λ (x : Bool). cond (value_of v i) x (holds_in (newest_first new) low v)) high_is
    ∙ ap (λ (x : Bool). cond (value_of v i) (apply k (holds_in (newest_first old) h.a_high v) (holds_in (newest_first old) h.b_high v)) x) low_is
    ∙ choice_of_answers k (value_of v i) _ _ _ _
    ∙ ap (λ (x : Bool). apply k x (cond (value_of v i) (holds_in (newest_first old) h.b_high v) (holds_in (newest_first old) h.b_low v))) (sym a_is)
    ∙ ap (λ (x : Bool). apply k (holds_in (newest_first new) a v) x) (sym b_is)
