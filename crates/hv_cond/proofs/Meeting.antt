-- Lemmas on whether two conditions hold together somewhere.
use Rattle.std.proofs.Common.{◌≡◌, ◌==◌, ◌<◌, ℕ, Bool, true, false, cond, not, ◌&&◌, List, [], ◌∷◌, length, set, Result, Ok, Err, IfOk, refl, sym, ap, ◌∙◌, inl, inr, ◌⊎◌, arith, suc, zero, eq-eqb, IsTrue, ◌↔◌}
use Rattle.std.specs.declared.alloc.AllocError.{AllocError}
use Rattle.std.proofs.lemmas.Bool.{and_parts, both_ways, cond-true, cond-false, eqb-true, true≢false}
use Rattle.std.proofs.lemmas.List.{get_or-set_same, length-set}
use Rattle.hv_cond.specs.declared.conditions.Cond.{Cond}
use Rattle.hv_cond.specs.declared.connectives.Connective.TheVariants.{And}
use Rattle.hv_cond.specs.declared.nodes.Decision.{Decision}
use Rattle.hv_cond.specs.declared.nodes.Nodes.{Nodes}
use Rattle.hv_cond.specs.declared.orders.Order.{Order}
use Rattle.hv_cond.specs.declared.results.Results.{Results}
use Rattle.hv_cond.specs.Diagram.{AreDisjoint, IsNode, Meet, holds, holds_in, top, value_of}
use Rattle.hv_cond.specs.working.Connectives.{AreAnswers, IsAnswer}
use Rattle.hv_cond.specs.working.Meetings.{IsMeeting}
use Rattle.hv_cond.specs.working.Nodes.{newest_first, IsHalves, IsOrdered, IsReduced}
use Rattle.hv_cond.specs.working.Orders.{IsOrder, by_position, seen}
use Rattle.hv_cond.proofs.Branches.{Cond-same, holds_in-set}
use Rattle.hv_cond.proofs.Canonical.{canonical}
use Rattle.hv_cond.proofs.Combining.{Records, Records-answers, falsity_fails}
use Rattle.hv_cond.proofs.Seen.{IsNode-in, by_number, by_position-by_number, holds-seen, length-by_number}

at_none : (p : List Bool → Bool) (b : Bool) → p [] ≡ b
    → ((values : List Bool) × (length values ≡ 0) × (p values ≡ true)) ⊎ ((values : List Bool) → length values ≡ 0 → p values ≡ false)
at_none p true e = inl ([], refl, e)
at_none p false e = inr none_holds
  where
    none_holds : (values : List Bool) → length values ≡ 0 → p values ≡ false
    none_holds [] len = e
    none_holds (value ∷ values) len = absurd (omega arith)

-- a test on so many values passes for some, or for none
pub some_or_none : (n : ℕ) (p : List Bool → Bool)
    → ((values : List Bool) × (length values ≡ n) × (p values ≡ true)) ⊎ ((values : List Bool) → length values ≡ n → p values ≡ false)
some_or_none zero p = at_none p (p []) refl
some_or_none (suc n) p = elim (some_or_none n (λ values. p (true ∷ values))) [
  | inl found ↦ inl (true ∷ found.0, ap suc found.1, found.2)
  | inr on ↦ elim (some_or_none n (λ values. p (false ∷ values))) [
    | inl found ↦ inl (false ∷ found.0, ap suc found.1, found.2)
    | inr off ↦ inr (λ values len. neither values len on off)
  ]
]
  where
    neither : (values : List Bool) → length values ≡ suc n → ((more : List Bool) → length more ≡ n → p (true ∷ more) ≡ false) → ((more : List Bool) → length more ≡ n → p (false ∷ more) ≡ false) → p values ≡ false
    neither [] len on off = absurd (omega arith)
    neither (true ∷ values) len on off = on values (omega (arith, len))
    neither (false ∷ values) len on off = off values (omega (arith, len))

not_false : (b : Bool) → not b ≡ false → b ≡ true
not_false true e = refl
not_false false e = absurd (true≢false e)

-- the conjunction tells, which is falsity or holds somewhere
pub told_by_answer : (n : ℕ) (ds : List Decision) → IsOrdered n ds → (a b c : Cond) → IsAnswer And ds a b c
    → (met : Bool) → met ≡ not (c.index == 0) → IsMeeting n ds a b met
told_by_answer n ds o a b c h met is =
    record {
      apart = λ f v.
          let zero_is : c ≡ record { index = 0 } = Cond-same _ _ (eqb-true c.index 0 (not_false (c.index == 0) (sym is ∙ f))) in
          sym (h.meaning v) ∙ ap (λ (x : Cond). holds_in ds x v) zero_is ∙ falsity_fails ds v;
      together = λ t. elim (some_or_none n (holds_in ds c)) [
        | inl found ↦ (found.0, found.1, sym (h.meaning found.0) ∙ found.2)
        | inr none ↦
            let zero_is : c ≡ record { index = 0 } = canonical n ds o c (record { index = 0 }) h.node (omega arith) (λ v len. none v len ∙ sym (falsity_fails ds v)) in
            absurd (both_ways met (is ∙ ap not (eq-eqb c.index 0 (ap (λ (x : Cond). x.index) zero_is))) t)
      ];
    }

-- where a variable is false a condition means its low half
at_low : (n : ℕ) (ds : List Decision) → IsOrdered n ds → (c : Cond) (i : ℕ) (low high : Cond) → c.index < top ds → i < n
    → IsHalves n ds c i low high → (w : List Bool) → length w ≡ n → holds_in ds c (set w i false) ≡ holds_in ds low w
at_low n ds o c i low high node in_range h w len =
    let older = h.low_older in
    h.meaning (set w i false)
    ∙ cond-false (value_of (set w i false) i) _ _ (get_or-set_same w i false false (omega arith))
    ∙ holds_in-set n ds o low (omega arith) i h.low_later w false

-- where it is true its high half
at_high : (n : ℕ) (ds : List Decision) → IsOrdered n ds → (c : Cond) (i : ℕ) (low high : Cond) → c.index < top ds → i < n
    → IsHalves n ds c i low high → (w : List Bool) → length w ≡ n → holds_in ds c (set w i true) ≡ holds_in ds high w
at_high n ds o c i low high node in_range h w len =
    let older = h.high_older in
    h.meaning (set w i true)
    ∙ cond-true (value_of (set w i true) i) _ _ (get_or-set_same w i true false (omega arith))
    ∙ holds_in-set n ds o high (omega arith) i h.high_later w true

-- conditions whose low halves hold together do
pub together_low : (n : ℕ) (ds : List Decision) → IsOrdered n ds → (a b : Cond) (i : ℕ) (al ah bl bh : Cond)
    → a.index < top ds → b.index < top ds → i < n → IsHalves n ds a i al ah → IsHalves n ds b i bl bh
    → IsMeeting n ds al bl true → IsMeeting n ds a b true
together_low n ds o a b i al ah bl bh first second in_range ha hb m =
    record {
      apart = λ f. absurd (true≢false f);
      together = λ t.
          let found = m.together refl in
          let v = set found.0 i false in (
            v,
            length-set found.0 i false ∙ found.1,
            rw (at_low n ds o a i al ah first in_range ha found.0 found.1, at_low n ds o b i bl bh second in_range hb found.0 found.1) found.2,
          );
    }

-- conditions whose high halves hold together do
pub together_high : (n : ℕ) (ds : List Decision) → IsOrdered n ds → (a b : Cond) (i : ℕ) (al ah bl bh : Cond)
    → a.index < top ds → b.index < top ds → i < n → IsHalves n ds a i al ah → IsHalves n ds b i bl bh
    → IsMeeting n ds ah bh true → IsMeeting n ds a b true
together_high n ds o a b i al ah bl bh first second in_range ha hb m =
    record {
      apart = λ f. absurd (true≢false f);
      together = λ t.
          let found = m.together refl in
          let v = set found.0 i true in (
            v,
            length-set found.0 i true ∙ found.1,
            rw (at_high n ds o a i al ah first in_range ha found.0 found.1, at_high n ds o b i bl bh second in_range hb found.0 found.1) found.2,
          );
    }

apart_choice : (t p q r s : Bool) → (p && q) ≡ false → (r && s) ≡ false → (cond t p r && cond t q s) ≡ false
apart_choice true p q r s h l = h
apart_choice false p q r s h l = l

-- conditions whose halves are apart are
pub apart_halves : (n : ℕ) (ds : List Decision) (a b : Cond) (i : ℕ) (al ah bl bh : Cond)
    → IsHalves n ds a i al ah → IsHalves n ds b i bl bh
    → IsMeeting n ds al bl false → IsMeeting n ds ah bh false → IsMeeting n ds a b false
apart_halves n ds a b i al ah bl bh ha hb low high =
    record {
      apart = λ f v. rw (ha.meaning v, hb.meaning v)
          (apart_choice (value_of v i) (holds_in ds ah v) (holds_in ds bh v) (holds_in ds al v) (holds_in ds bl v) (high.apart refl v) (low.apart refl v));
      together = λ t. absurd (true≢false (sym t));
    }

-- falsity is the conjunction of conditions that are apart, and may be kept
pub apart_kept : (n : ℕ) (ds : List Decision) (before after : Results) (a b : Cond)
    → a.index < top ds → b.index < top ds → IsMeeting n ds a b false
    → Records before after a b (record { index = 0 }) → AreAnswers And ds before → AreAnswers And ds after
apart_kept n ds before after a b first second m r answers =
    Records-answers And ds before after a b (record { index = 0 }) r answers (record {
      first = first;
      second = second;
      node = omega arith;
      meaning = λ v. falsity_fails ds v ∙ sym (m.apart refl v);
    })

------ what a caller is told

-- conditions that hold together somewhere by position do so by number
meets_seen : (order : Order) (t : Nodes) → IsOrder t.variables order → IsReduced t → (a b : Cond)
    → IsNode (seen order t) a → IsNode (seen order t) b → IsMeeting t.variables (newest_first t) a b true → Meet (seen order t) a b
meets_seen order t io r a b first second m =
    let found = m.together refl in
    let v = by_number order found.0 in
    let ds = newest_first t in
    let back = by_position-by_number t.variables order io found.0 found.1 in
    let parts = and_parts (holds_in ds a found.0) (holds_in ds b found.0) found.2 in (
      v,
      length-by_number t.variables order io found.0,
      holds-seen order t io r a (IsNode-in order t a first) v ∙ ap (holds_in ds a) back ∙ parts.0,
      holds-seen order t io r b (IsNode-in order t b second) v ∙ ap (holds_in ds b) back ∙ parts.1,
    )

and_second : (x y : Bool) → (x && y) ≡ false → x ≡ true → y ≡ false
and_second true y e is = e
and_second false y e is = absurd (true≢false (sym is))

-- conditions that are apart by position are so by number
disjoint_seen : (order : Order) (t : Nodes) → IsOrder t.variables order → IsReduced t → (a b : Cond)
    → IsNode (seen order t) a → IsNode (seen order t) b → IsMeeting t.variables (newest_first t) a b false → AreDisjoint (seen order t) a b
disjoint_seen order t io r a b first second m =
    λ v len h.
    let w = by_position order.variables.items v in
    let ds = newest_first t in
    holds-seen order t io r b (IsNode-in order t b second) v
    ∙ and_second (holds_in ds a w) (holds_in ds b w) (m.apart refl w) (sym (holds-seen order t io r a (IsNode-in order t a first) v) ∙ h)

-- the answer is yes exactly where both hold somewhere, and no exactly where they are disjoint
pub told : (order : Order) (t : Nodes) → IsOrder t.variables order → IsReduced t → (a b : Cond) (met : Bool)
    → IsNode (seen order t) a → IsNode (seen order t) b → IsMeeting t.variables (newest_first t) a b met
    → (IsTrue met ↔ Meet (seen order t) a b) × ((met ≡ false) ↔ AreDisjoint (seen order t) a b)
told order t io r a b true first second m =
    let is = meets_seen order t io r a b first second m in (
      (λ h. is, λ h. refl),
      (λ h. absurd (true≢false h), λ disjoint. absurd (both_ways (holds (seen order t) b is.0) (disjoint is.0 is.1 is.2) is.3)),
    )
told order t io r a b false first second m =
    let is = disjoint_seen order t io r a b first second m in (
      (λ h. absurd (true≢false (sym h)), λ found. absurd (both_ways (holds (seen order t) b found.0) (is found.0 found.1 found.2) found.3)),
      (λ h. is, λ h. refl),
    )

pub told_ok : (order : Order) (t : Nodes) → IsOrder t.variables order → IsReduced t → (a b : Cond) (r : Result Bool AllocError)
    → IsNode (seen order t) a → IsNode (seen order t) b → IfOk r (IsMeeting t.variables (newest_first t) a b)
    → IfOk r (λ met. IsTrue met ↔ Meet (seen order t) a b) × IfOk r (λ met. (met ≡ false) ↔ AreDisjoint (seen order t) a b)
told_ok order t io r a b (Ok met) first second m = told order t io r a b met first second m
told_ok order t io r a b (Err e) first second m = (tt, tt)
