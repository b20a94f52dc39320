-- Lemmas on the search for values that satisfy a condition.
use Rattle.std.proofs.Common.{◌≡◌, ◌+◌, ◌<◌, ◌≤◌, ℕ, Bool, true, false, cond, List, get_or, set, refl, sym, ap, ◌∙◌, ⊎_elim, subst, arith}
use Rattle.std.proofs.lemmas.Bool.{both_ways, cases_Bool, cases_eq, cases_lt}
use Rattle.std.proofs.lemmas.List.{get_or-set_other}
use Rattle.hv_cond.specs.declared.conditions.Cond.{Cond}
use Rattle.hv_cond.specs.declared.nodes.Decision.{Decision}
use Rattle.hv_cond.specs.declared.orders.Order.{Order}
use Rattle.hv_cond.specs.Diagram.{IsBefore, holds_in, value_of}
use Rattle.hv_cond.specs.working.Nodes.{IsBranch}
use Rattle.hv_cond.specs.working.Orders.{IsOrder, by_position}
use Rattle.hv_cond.specs.working.Paths.{Agrees, AreHopeless, IsHopeless, half}
use Rattle.hv_cond.proofs.Branches.{Cond-same}
use Rattle.hv_cond.proofs.Seen.{value-by_position}

pub Agrees-trans : (fixed : ℕ) (u v w : List Bool) → Agrees fixed u v → Agrees fixed v w → Agrees fixed u w
Agrees-trans fixed u v w first second = λ i l. first i l ∙ second i l

-- a branch means one of its halves
branch_half : (order : Order) (n : ℕ) (ds : List Decision) (c : Cond) (d : Decision) → IsOrder n order → IsBranch n ds c d
    → (v : List Bool) (b : Bool) → value_of v (get_or order.variables.items d.variable 0) ≡ b
    → holds_in ds c (by_position order.variables.items v) ≡ holds_in ds (half d b) (by_position order.variables.items v)
branch_half order n ds c d io f v b is =
    let w = by_position order.variables.items v in
    let in_range = f.in_range in
    let all = io.all in
    f.meaning w
    ∙ ap (λ (x : Bool). cond x (holds_in ds d.high w) (holds_in ds d.low w)) (value-by_position order.variables.items v d.variable (omega arith) ∙ is)
    ∙ either b w
  where
    either : (b : Bool) (w : List Bool) → cond b (holds_in ds d.high w) (holds_in ds d.low w) ≡ holds_in ds (half d b) w
    either true w = refl
    either false w = refl

-- values that satisfy a half, with its value, satisfy the branch
pub branch_found : (order : Order) (n : ℕ) (ds : List Decision) (c : Cond) (d : Decision) → IsOrder n order → IsBranch n ds c d
    → (v : List Bool) (b : Bool) → value_of v (get_or order.variables.items d.variable 0) ≡ b
    → holds_in ds (half d b) (by_position order.variables.items v) ≡ true
    → holds_in ds c (by_position order.variables.items v) ≡ true
branch_found order n ds c d io f v b is h = branch_half order n ds c d io f v b is ∙ h

-- a branch both of whose halves are hopeless is
pub hopeless_by_halves : (order : Order) (n : ℕ) (ds : List Decision) (c : Cond) (d : Decision) → IsOrder n order → IsBranch n ds c d
    → (fixed : ℕ) (values mid : List Bool) → Agrees fixed mid values
    → ((others : List Bool) → Agrees fixed others values → value_of others (get_or order.variables.items d.variable 0) ≡ false
    → holds_in ds (half d false) (by_position order.variables.items others) ≡ false)
    → ((others : List Bool) → Agrees fixed others mid → value_of others (get_or order.variables.items d.variable 0) ≡ true
    → holds_in ds (half d true) (by_position order.variables.items others) ≡ false)
    → IsHopeless order.variables.items ds fixed values c
hopeless_by_halves order n ds c d io f fixed values mid same low high =
    λ others agrees.
    ⊎_elim
    (λ (t : value_of others (get_or order.variables.items d.variable 0) ≡ true).
    branch_half order n ds c d io f others true t
    ∙ high others (λ i l. agrees i l ∙ sym (same i l)) t)
    (λ (e : value_of others (get_or order.variables.items d.variable 0) ≡ false).
    branch_half order n ds c d io f others false e ∙ low others agrees e)
    (cases_Bool (value_of others (get_or order.variables.items d.variable 0)))

-- one more condition is marked
pub hopeless-mark : (order : List ℕ) (ds : List Decision) (fixed : ℕ) (values marks : List Bool) (c : Cond)
    → AreHopeless order ds fixed values marks → IsHopeless order ds fixed values c
    → AreHopeless order ds fixed values (set marks c.index true)
hopeless-mark order ds fixed values marks c others_are is =
    λ x h.
    ⊎_elim
    (λ (e : x.index ≡ c.index). subst (IsHopeless order ds fixed values) (sym (Cond-same x c e)) is)
    (λ (ne : x.index ≡ c.index → ⊥). others_are x (sym (get_or-set_other marks c.index x.index true false ne) ∙ h))
    (cases_eq x.index c.index)

-- once a variable was lowered, no assignment that satisfies the condition comes before at this variable or an earlier one
pub lowered_first : (order : List ℕ) (ds : List Decision) (c : Cond) (i : ℕ) (values lowered : List Bool)
    → ((others : List Bool) → holds_in ds c (by_position order others) ≡ true → (before : IsBefore others values) → i ≤ before.place)
    → Agrees i lowered values
    → (value_of lowered i ≡ true → (others : List Bool) → Agrees i others values → value_of others i ≡ false
    → holds_in ds c (by_position order others) ≡ false)
    → (others : List Bool) → holds_in ds c (by_position order others) ≡ true → (before : IsBefore others lowered) → i + 1 ≤ before.place
lowered_first order ds c i values lowered first same least others h before =
    ⊎_elim
    (λ (early : before.place < i).
    let earlier : i ≤ before.place = first others h (record {
      place = before.place;
      same_until = λ j l. before.same_until j l ∙ same j (omega arith);
      left_false = before.left_false;
      right_true = sym (same before.place early) ∙ before.right_true;
    }) in
    omega arith)
    (λ (late : i ≤ before.place).
    ⊎_elim
    (λ (here : before.place ≡ i).
    let fails = least (ap (value_of lowered) (sym here) ∙ before.right_true) others (λ j l. before.same_until j (omega arith) ∙ same j l) (ap (value_of others) (sym here) ∙ before.left_false) in
    absurd (both_ways _ fails h))
    (λ (ne : before.place ≡ i → ⊥). omega arith)
    (cases_eq before.place i))
    (cases_lt before.place i)
