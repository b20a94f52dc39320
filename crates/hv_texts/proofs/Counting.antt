-- How many conditions of a list an assignment satisfies.
use Rattle.std.proofs.Common.{◌≡◌, ◌+◌, ◌<◌, ◌≤◌, ◌⊎◌, inl, inr, ℕ, zero, suc, Bool, true, false, cond, List, [], ◌∷◌, length, refl, ap, arith}
use Rattle.std.specs.Prelude.{slice_index_or}
use Rattle.std.proofs.lemmas.List.Sums.{sum_by-cons}
use Rattle.hv_base.specs.declared.place.Place.{Place}
use Rattle.hv_base.specs.declared.why.Why.{Why}
use Rattle.hv_cond.specs.Diagram.{AllNodes, Diagram, IsNode, holds}
use Rattle.hv_cond.specs.Parts.{count_satisfied}
use Rattle.hv_cond.specs.declared.conditions.Cond.{Cond}
use Rattle.hv_given.specs.Refusals.{IsRefusedAt, Refuses}
use Rattle.hv_toks.specs.Division.{conditions}
use Rattle.hv_toks.specs.declared.parted.Failing.{Failing}

-- one where this is so
abbrev pub bit : Bool → ℕ
bit b = cond b 1 0

-- the first, and the others
pub count_cons : (d : Diagram) (c : Cond) (conds : List Cond) (values : List Bool)
    → count_satisfied d (c ∷ conds) values
    ≡ bit (holds d c values) + count_satisfied d conds values
count_cons d c conds values = sum_by-cons (λ (x : Cond). bit (holds d x values)) c conds

pub one_if : (b : Bool) → b ≡ true → bit b ≡ 1
one_if b e = ap bit e

pub none_if : (b : Bool) → b ≡ false → bit b ≡ 0
none_if b e = ap bit e

pub if_one : (b : Bool) → 1 ≤ bit b → b ≡ true
if_one true l = refl
if_one false l = absurd (omega arith)

pub if_at_most : (b : Bool) (n : ℕ) → n ≡ bit b → n ≤ 1
if_at_most true n e = omega arith
if_at_most false n e = omega arith

-- one that is satisfied counts
pub count_at : (d : Diagram) (values : List Bool) (conds : List Cond) (k : ℕ) (x : Cond)
    → k < length conds → holds d (slice_index_or conds k x) values ≡ true
    → 1 ≤ count_satisfied d conds values
count_at d values [] k x l h = absurd (omega arith)
count_at d values (c ∷ conds) zero x l h =
    let all = count_cons d c conds values in
    let one = one_if (holds d c values) h in
    omega arith
count_at d values (c ∷ conds) (suc k) x l h =
    let all = count_cons d c conds values in
    let more = count_at d values conds k x (omega arith) h in
    omega arith

-- and where some are satisfied there is one
pub count_some : (d : Diagram) (values : List Bool) (conds : List Cond)
    → 1 ≤ count_satisfied d conds values
    → (k : ℕ) × (k < length conds)
    × ((x : Cond) → holds d (slice_index_or conds k x) values ≡ true)
count_some d values [] l = absurd (omega arith)
count_some d values (c ∷ conds) l =
    step (holds d c values) refl (λ m. count_some d values conds m)
  where
    step : (b : Bool) → holds d c values ≡ b
        → (1 ≤ count_satisfied d conds values
        → (k : ℕ) × (k < length conds)
        × ((x : Cond) → holds d (slice_index_or conds k x) values ≡ true))
        → (k : ℕ) × (k < length (c ∷ conds))
        × ((x : Cond) → holds d (slice_index_or (c ∷ conds) k x) values ≡ true)
    step true e rest = (0, omega arith, λ x. e)
    step false e rest =
        let all = count_cons d c conds values in
        let none = none_if (holds d c values) e in
        let found = rest (omega arith) in
        (suc found.0, omega (arith, found.1), found.2)

-- where one is satisfied at most, it is one
pub count_once : (d : Diagram) (values : List Bool) (conds : List Cond) (i j : ℕ) (x : Cond)
    → count_satisfied d conds values ≤ 1
    → i < length conds → j < length conds
    → holds d (slice_index_or conds i x) values ≡ true
    → holds d (slice_index_or conds j x) values ≡ true → i ≡ j
count_once d values [] i j x most li lj hi hj = absurd (omega arith)
count_once d values (c ∷ conds) zero zero x most li lj hi hj = refl
count_once d values (c ∷ conds) zero (suc j) x most li lj hi hj =
    let all = count_cons d c conds values in
    let one = one_if (holds d c values) hi in
    let more = count_at d values conds j x (omega arith) hj in
    absurd (omega arith)
count_once d values (c ∷ conds) (suc i) zero x most li lj hi hj =
    let all = count_cons d c conds values in
    let one = one_if (holds d c values) hj in
    let more = count_at d values conds i x (omega arith) hi in
    absurd (omega arith)
count_once d values (c ∷ conds) (suc i) (suc j) x most li lj hi hj =
    let all = count_cons d c conds values in
    ap suc (count_once d values conds i j x (omega arith) (omega arith) (omega arith) hi hj)

-- the node at an index
pub node_at : (d : Diagram) (conds : List Cond) (k : ℕ) (x : Cond) → AllNodes d conds
    → k < length conds → IsNode d (slice_index_or conds k x)
node_at d [] k x nodes l = absurd (omega arith)
node_at d (c ∷ conds) zero x nodes l = nodes.0
node_at d (c ∷ conds) (suc k) x nodes l = node_at d conds k x nodes.1 (omega arith)

------ refusals

-- a refusal counts
pub count_refused : (d : Diagram) (values : List Bool) (failing : List Failing) (place : Place)
    (why : Why) → IsRefusedAt d failing values place why
    → 1 ≤ count_satisfied d (conditions failing) values
count_refused d values [] place why r = absurd r
count_refused d values (f ∷ failing) place why r =
    step r (λ h. count_refused d values failing place why h)
  where
    step : Refuses d f values place why ⊎ IsRefusedAt d failing values place why
        → (IsRefusedAt d failing values place why
        → 1 ≤ count_satisfied d (conditions failing) values)
        → 1 ≤ count_satisfied d (conditions (f ∷ failing)) values
    step (inl h) rest =
        let all = count_cons d f.cond (conditions failing) values in
        let one = one_if (holds d f.cond values) h.here in
        omega arith
    step (inr h) rest =
        let all = count_cons d f.cond (conditions failing) values in
        let more = rest h in
        omega arith

-- and where some count there is one
pub some_refused : (d : Diagram) (values : List Bool) (failing : List Failing)
    → 1 ≤ count_satisfied d (conditions failing) values
    → (place : Place) × (why : Why) × IsRefusedAt d failing values place why
some_refused d values [] l = absurd (omega arith)
some_refused d values (f ∷ failing) l =
    step (holds d f.cond values) refl (λ m. some_refused d values failing m)
  where
    step : (b : Bool) → holds d f.cond values ≡ b
        → (1 ≤ count_satisfied d (conditions failing) values
        → (place : Place) × (why : Why) × IsRefusedAt d failing values place why)
        → (place : Place) × (why : Why) × IsRefusedAt d (f ∷ failing) values place why
    step true e rest =
        (f.place, f.why, inl (record { same_place = refl; same_cause = refl; here = e }))
    step false e rest =
        let all = count_cons d f.cond (conditions failing) values in
        let none = none_if (holds d f.cond values) e in
        let found = rest (omega arith) in
        (found.0, found.1, inr found.2)
