-- Lemmas on the order in which branches test variables.
use Rattle.std.proofs.Common.{◌≡◌, ◌==◌, ◌+◌, ◌<◌, ◌≤◌, ℕ, Bool, true, false, cond, ◌&&◌, ◌||◌, not, List, [], ◌∷◌, ◌++◌, length, get_or, set, suc, zero, refl, sym, ap, ◌∙◌, subst, ⊎_elim, arith, eq-eqb, nat_lt, zero-add}
use Rattle.std.specs.Prelude.{nat_eq}
use Rattle.std.specs.List.{All, IsDistinct, list_any, range_with_len}
use Rattle.std.proofs.lemmas.Bool.{both_ways, cases_eq, lt-ltb, ltb-true, ne_eqb, true≢false}
use Rattle.std.proofs.lemmas.Cmp.{nat_eq_equiv}
use Rattle.std.proofs.lemmas.List.FromFn.{get_or-range_with_len, length-range_with_len}
use Rattle.std.proofs.lemmas.Map.Made.{length-le_from_is_member}
use Rattle.std.proofs.lemmas.List.{get_or-set_same, get_or-set_other, length-set}
use Rattle.std.proofs.lemmas.List.Elements.{All-push}
use Rattle.std.proofs.lemmas.List.Folds.{list_any-append, list_any_at}
use Rattle.std.proofs.lemmas.Map.Keys.{IsDistinct-from_apart, IsDistinct-push, apart_from_distinct}
use Rattle.hv_cond.specs.declared.orders.Order.{Order}
use Rattle.hv_cond.specs.Order.{order_from, with, with_all}
use Rattle.hv_cond.specs.working.Orders.{IsOrder, IsPlacing}

-- one more variable is placed
pub IsPlacing-push : (vars : ℕ) (xs : List ℕ) (placed : List Bool) (i : ℕ) → IsPlacing vars xs placed
    → i < vars → get_or placed i false ≡ false → IsPlacing vars (xs ++ i ∷ []) (set placed i true)
IsPlacing-push vars xs placed i p l free =
    record {
      all = length-set placed i true ∙ p.all;
      marks = λ j below.
          let all = p.all in
          let more : list_any (λ x. j == x) (xs ++ i ∷ []) ≡ (list_any (λ x. j == x) xs || ((j == i) || false)) =
          list_any-append (λ x. j == x) xs (i ∷ []) in
          ⊎_elim
          (λ (e : j ≡ i).
          ap (λ (k : ℕ). get_or (set placed i true) k false) e ∙ get_or-set_same placed i true false (omega arith)
          ∙ sym (more ∙ ap (λ (b : Bool). list_any (λ x. j == x) xs || (b || false)) (eq-eqb j i e) ∙ or_true (list_any (λ x. j == x) xs)))
          (λ (ne : j ≡ i → ⊥).
          get_or-set_other placed i j true false ne ∙ p.marks j below
          ∙ sym (more ∙ ap (λ (b : Bool). list_any (λ x. j == x) xs || (b || false)) (ne_eqb j i ne) ∙ or_false (list_any (λ x. j == x) xs)))
          (cases_eq j i);
      distinct = IsDistinct-push nat_eq_equiv xs i p.distinct (sym (p.marks i l) ∙ free);
      below = All-push (λ (x : ℕ). x < vars) xs i p.below l;
    }
  where
    or_true : (b : Bool) → (b || true) ≡ true
    or_true true = refl
    or_true false = refl

    or_false : (b : Bool) → (b || false) ≡ b
    or_false true = refl
    or_false false = refl

-- no variable is placed
pub IsPlacing-none : (vars : ℕ) (xs : List ℕ) (placed : List Bool) → xs ≡ [] → length placed ≡ vars
    → ((i : ℕ) → i < vars → get_or placed i false ≡ false) → IsPlacing vars xs placed
IsPlacing-none vars xs placed none len unmarked =
    let nothing_distinct : IsDistinct nat_eq [] = IsDistinct-from_apart nat_eq [] (λ i j d l m. absurd (omega arith)) in
    rw none (record { all = len; marks = unmarked; distinct = nothing_distinct; below = λ k d l. absurd (omega arith) })

-- variables are placed one after the other
pub with_all-more : (vars : ℕ) (order xs : List ℕ) (i : ℕ) → with_all vars order (xs ++ i ∷ []) ≡ with vars (with_all vars order xs) i
with_all-more vars order [] i = refl
with_all-more vars order (x ∷ xs) i = with_all-more vars (with vars order x) xs i

-- a range has one more number at its end
pub range-more : (a n : ℕ) → range_with_len a (suc n) ≡ range_with_len a n ++ (a + n) ∷ []
range-more a zero = ap (λ (k : ℕ). k ∷ []) (omega arith)
range-more a (suc n) =
    let at : a + 1 + n ≡ a + suc n = omega arith in
    ap (λ (xs : List ℕ). a ∷ xs) (range-more (a + 1) n ∙ ap (λ (k : ℕ). range_with_len (a + 1) n ++ k ∷ []) at)

------ the order has each variable once

-- whether an order has a variable
abbrev pub has : List ℕ → ℕ → Bool
has order i = list_any (λ j. i == j) order

-- an order of distinct variables
pub record IsPart (vars : ℕ) (order : List ℕ) : Type 0 where
  pub distinct : IsDistinct nat_eq order
  pub below : All (λ i. i < vars) order

has-push : (order : List ℕ) (i j : ℕ) → has (order ++ i ∷ []) j ≡ (has order j || ((j == i) || false))
has-push order i j = list_any-append (λ x. j == x) order (i ∷ [])

with-part : (vars : ℕ) (order : List ℕ) (i : ℕ) → IsPart vars order → IsPart vars (with vars order i)
with-part vars order i p = either (nat_lt i vars) (has order i) refl refl
  where
    either : (b h : Bool) → b ≡ nat_lt i vars → h ≡ has order i
        → IsPart vars (cond (b && not h) (order ++ i ∷ []) order)
    either true false e f = record {
      distinct = IsDistinct-push nat_eq_equiv order i p.distinct (sym f);
      below = All-push (λ (x : ℕ). x < vars) order i p.below (ltb-true i vars (sym e));
    }
    either true true e f = p
    either false h e f = p

pub with_all-part : (vars : ℕ) (order xs : List ℕ) → IsPart vars order → IsPart vars (with_all vars order xs)
with_all-part vars order [] p = p
with_all-part vars order (x ∷ xs) p = with_all-part vars (with vars order x) xs (with-part vars order x p)

with-keeps : (vars : ℕ) (order : List ℕ) (i j : ℕ) → has order j ≡ true → has (with vars order i) j ≡ true
with-keeps vars order i j h = either (nat_lt i vars && not (has order i))
  where
    either : (b : Bool) → has (cond b (order ++ i ∷ []) order) j ≡ true
    either true = has-push order i j ∙ ap (λ (b : Bool). b || ((j == i) || false)) h
    either false = h

with_all-keeps : (vars : ℕ) (order xs : List ℕ) (j : ℕ) → has order j ≡ true → has (with_all vars order xs) j ≡ true
with_all-keeps vars order [] j h = h
with_all-keeps vars order (x ∷ xs) j h = with_all-keeps vars (with vars order x) xs j (with-keeps vars order x j h)

with-has : (vars : ℕ) (order : List ℕ) (i : ℕ) → i < vars → has (with vars order i) i ≡ true
with-has vars order i l = either (nat_lt i vars) (has order i) (lt-ltb i vars l) refl
  where
    or_true : (b : Bool) → (b || true) ≡ true
    or_true true = refl
    or_true false = refl

    either : (b h : Bool) → b ≡ true → h ≡ has order i → has (cond (b && not h) (order ++ i ∷ []) order) i ≡ true
    either true true e f = sym f
    either true false e f = has-push order i i ∙ ap (λ (b : Bool). has order i || (b || false)) (eq-eqb i i refl) ∙ or_true (has order i)
    either false h e f = absurd (true≢false (sym e))

with_all-has : (vars : ℕ) (order xs : List ℕ) (j k : ℕ) → j < vars → k < length xs → get_or xs k 0 ≡ j → has (with_all vars order xs) j ≡ true
with_all-has vars order [] j k below l at = absurd (omega arith)
with_all-has vars order (x ∷ xs) j zero below l at =
    let here : x ≡ j = at in
    with_all-keeps vars (with vars order x) xs j (ap (λ (i : ℕ). has (with vars order i) j) here ∙ with-has vars order j below)
with_all-has vars order (x ∷ xs) j (suc k) below l at = with_all-has vars (with vars order x) xs j k below (omega arith) at

pub order_from-part : (vars : ℕ) (first : List ℕ) → IsPart vars (order_from vars first)
order_from-part vars first =
    let empty : IsPart vars [] = record { distinct = nothing_distinct; below = λ k d l. absurd (omega arith) } in
    with_all-part vars (with_all vars [] first) (range_with_len 0 vars) (with_all-part vars [] first empty)
  where
    nothing_distinct : IsDistinct nat_eq []
    nothing_distinct = IsDistinct-from_apart nat_eq [] (λ i j d l m. absurd (omega arith))

pub order_from-has : (vars : ℕ) (first : List ℕ) (i : ℕ) → i < vars → has (order_from vars first) i ≡ true
order_from-has vars first i l =
    let len = length-range_with_len 0 vars in
    with_all-has vars (with_all vars [] first) (range_with_len 0 vars) i i l (omega arith) (get_or-range_with_len 0 vars i 0 l ∙ zero-add i)

-- a range has the numbers in it
range-has : (vars q : ℕ) → q < vars → has (range_with_len 0 vars) q ≡ true
range-has vars q l =
    let len = length-range_with_len 0 vars in
    list_any_at (λ j. q == j) (range_with_len 0 vars) q 0 (omega arith) (eq-eqb q _ (sym (get_or-range_with_len 0 vars q 0 l ∙ zero-add q)))

-- where an order has a variable
pub place_in : (order : List ℕ) (q : ℕ) → has order q ≡ true → (k : ℕ) × (k < length order) × (get_or order k 0 ≡ q)
place_in (x ∷ order) q h =
    ⊎_elim (λ (e : q ≡ x). (0, omega arith, sym e))
    (λ (ne : q ≡ x → ⊥).
    let later = place_in order q (sym (ap (λ (b : Bool). b || has order q) (ne_eqb q x ne)) ∙ h) in
    let below = later.1 in
    (suc later.0, omega arith, later.2))
    (cases_eq q x)
place_in [] q h = absurd (true≢false (sym h))

range-only : (vars q : ℕ) → has (range_with_len 0 vars) q ≡ true → q < vars
range-only vars q h =
    let at = place_in (range_with_len 0 vars) q h in
    let len = length-range_with_len 0 vars in
    let below = at.1 in
    let is = sym (get_or-range_with_len 0 vars at.0 0 (omega arith)) ∙ at.2 in
    omega arith

range-distinct : (vars : ℕ) → IsDistinct nat_eq (range_with_len 0 vars)
range-distinct vars =
    let len = length-range_with_len 0 vars in
    IsDistinct-from_apart nat_eq (range_with_len 0 vars) (λ i j d l m.
    let first = get_or-range_with_len 0 vars i d (omega arith) in
    let second = get_or-range_with_len 0 vars j d (omega arith) in
    ne_eqb _ _ (λ (e : get_or (range_with_len 0 vars) i d ≡ get_or (range_with_len 0 vars) j d). omega arith))

-- an order has as many places as there are variables
pub length-order_from : (vars : ℕ) (first : List ℕ) → length (order_from vars first) ≡ vars
length-order_from vars first =
    let order = order_from vars first in
    let part = order_from-part vars first in
    let len = length-range_with_len 0 vars in
    let most : length order ≤ length (range_with_len 0 vars) =
    length-le_from_is_member nat_eq_equiv order (range_with_len 0 vars) part.distinct (λ q h.
    let at = place_in order q h in
    range-has vars q (subst (λ (i : ℕ). i < vars) at.2 (part.below at.0 0 at.1))) in
    let least : length (range_with_len 0 vars) ≤ length order =
    length-le_from_is_member nat_eq_equiv (range_with_len 0 vars) order (range-distinct vars) (λ q h. order_from-has vars first q (range-only vars q h)) in
    omega arith

-- the positions of one place's variable after another
pub inverse-more : (vars : ℕ) (variables positions : List ℕ) (at : ℕ) → length variables ≡ vars → length positions ≡ vars
    → ((k : ℕ) → k < vars → get_or variables k 0 < vars) → IsDistinct nat_eq variables → at < vars
    → ((k : ℕ) → k < at → get_or positions (get_or variables k 0) 0 ≡ k)
    → (k : ℕ) → k < at + 1 → get_or (set positions (get_or variables at 0) at) (get_or variables k 0) 0 ≡ k
inverse-more vars variables positions at all all_positions below distinct in_range before k l =
    ⊎_elim
    (λ (e : k ≡ at).
    let within = below at in_range in
    ap (λ (i : ℕ). get_or (set positions (get_or variables at 0) at) (get_or variables i 0) 0) e
    ∙ get_or-set_same positions (get_or variables at 0) at 0 (omega arith) ∙ sym e)
    (λ (ne : k ≡ at → ⊥).
    let apart = apart_from_distinct nat_eq variables k at 0 distinct (omega arith) (omega arith) in
    get_or-set_other positions (get_or variables at 0) (get_or variables k 0) at 0
    (λ (e : get_or variables k 0 ≡ get_or variables at 0). both_ways _ apart (eq-eqb _ _ e))
    ∙ before k (omega arith))
    (cases_eq k at)

-- an order with its positions is one
pub IsOrder-made : (vars : ℕ) (first : List ℕ) (order : Order) → order.variables.items ≡ order_from vars first
    → length order.positions.items ≡ vars
    → ((k : ℕ) → k < vars → get_or order.positions.items (get_or order.variables.items k 0) 0 ≡ k) → IsOrder vars order
IsOrder-made vars first order is all_positions inverse =
    let all : length order.variables.items ≡ vars = ap length is ∙ length-order_from vars first in
    let part : IsPart vars order.variables.items = subst (IsPart vars) (sym is) (order_from-part vars first) in
    let each = λ (i : ℕ) (l : i < vars). place_in order.variables.items i (ap (λ (xs : List ℕ). has xs i) is ∙ order_from-has vars first i l) in
    record {
      all = all;
      all_positions = all_positions;
      variable = λ k l. part.below k 0 (omega arith);
      position = λ i l.
          let at = each i l in
          let below = at.1 in
          let there = ap (λ (j : ℕ). get_or order.positions.items j 0) (sym at.2) ∙ inverse at.0 (omega arith) in
          omega arith;
      position_of = inverse;
      variable_at = λ i l.
          let at = each i l in
          let below = at.1 in
          let there = ap (λ (j : ℕ). get_or order.positions.items j 0) (sym at.2) ∙ inverse at.0 (omega arith) in
          ap (λ (j : ℕ). get_or order.variables.items j 0) there ∙ at.2;
    }

-- what the order by number is
with-next : (vars k : ℕ) → k < vars → with vars (range_with_len 0 k) k ≡ range_with_len 0 (suc k)
with-next vars k l =
    either (nat_lt k vars) (has (range_with_len 0 k) k) (lt-ltb k vars l) (λ h. let below = range-only k k h in omega arith)
  where
    either : (b h : Bool) → b ≡ true → (h ≡ true → ⊥)
        → cond (b && not h) (range_with_len 0 k ++ k ∷ []) (range_with_len 0 k) ≡ range_with_len 0 (suc k)
    either true false e none =
        sym (range-more 0 k ∙ ap (λ (i : ℕ). range_with_len 0 k ++ i ∷ []) (zero-add k))
    either true true e none = absurd (none refl)
    either false h e none = absurd (true≢false (sym e))

with_all-range : (vars k n : ℕ) → k + n ≡ vars → with_all vars (range_with_len 0 k) (range_with_len k n) ≡ range_with_len 0 vars
with_all-range vars k zero e = ap (range_with_len 0) (omega arith)
with_all-range vars k (suc n) e =
    let next : suc k ≡ k + 1 = omega arith in
    ap (λ (xs : List ℕ). with_all vars xs (range_with_len (k + 1) n)) (with-next vars k (omega arith) ∙ ap (range_with_len 0) next)
    ∙ with_all-range vars (k + 1) n (omega arith)

pub order_from-none : (vars : ℕ) → order_from vars [] ≡ range_with_len 0 vars
order_from-none vars = with_all-range vars 0 vars (zero-add vars)
