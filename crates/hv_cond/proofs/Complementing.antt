-- Lemmas on the complement of a condition.
use Rattle.std.proofs.Common.{◌≡◌, ◌==◌, ◌+◌, ◌<◌, ◌≤◌, ℕ, Bool, true, false, cond, not, List, length, Option, Some, None, refl, sym, ap, ◌∙◌, ⊎_elim, subst, arith, set, eq-eqb}
use Rattle.std.specs.Option.{is_some}
use Rattle.std.proofs.lemmas.Bool.{cond-true, cond-false, cases_Bool, eqb-true, ne_eqb, false_from_ne_true, both_ways}
use Rattle.hv_cond.specs.declared.complements.Complements.{Complements}
use Rattle.hv_cond.specs.declared.conditions.Cond.{Cond}
use Rattle.hv_cond.specs.declared.nodes.Decision.{Decision}
use Rattle.hv_cond.specs.declared.nodes.Nodes.{Nodes}
use Rattle.hv_cond.specs.working.Complements.{complement_of, same_cond, AreComplements, GrowsBy, IsComplement}
use Rattle.hv_cond.specs.Diagram.{top, holds_in, value_of}
use Rattle.hv_cond.specs.working.Nodes.{newest_first, level, Extends, Within, IsBranch, IsClosed, IsOrdered, IsReduced, MayBranch}
use Rattle.hv_cond.proofs.Branches.{Cond-same, holds_in-terminal, holds_in-set, level-le}
use Rattle.hv_cond.proofs.Canonical.{level_from_meaning}
use Rattle.hv_cond.proofs.Counts.{open_among-answered}
use Rattle.hv_cond.proofs.Tables.{Extends-trans, Extends-node, Extends-holds, Extends-level, Extends-closed}

not_not : (x y : Bool) → x ≡ not y → y ≡ not x
not_not x true e = sym (ap not e)
not_not x false e = sym (ap not e)

-- each is the complement of the other
pub IsComplement-swap : (ds : List Decision) (a c : Cond) → IsComplement ds a c → IsComplement ds c a
IsComplement-swap ds a c h = record { first = h.node; node = h.first; meaning = λ v. not_not (holds_in ds c v) (holds_in ds a v) (h.meaning v) }

opposite_tests : (i j : ℕ) → i < 2 → j + i ≡ 1 → (j == 1) ≡ not (i == 1)
opposite_tests i j l e = ⊎_elim (λ (one : (i == 1) ≡ true). let f : i ≡ 1 = eqb-true i 1 one in let z : (j == 1) ≡ false = ne_eqb j 1 (λ (g : j ≡ 1). omega arith) in z ∙ sym (ap not one))
    (λ (other : (i == 1) ≡ false). ⊎_elim (λ (one : (j == 1) ≡ true). one ∙ sym (ap not other)) (λ (no : (j == 1) ≡ false). let jn : j ≡ 1 → ⊥ = (λ g. both_ways (j == 1) no (eq-eqb j 1 g)) in let in_ : i ≡ 1 → ⊥ = (λ g. both_ways (i == 1) other (eq-eqb i 1 g)) in absurd (omega arith)) (cases_Bool (j == 1))) (cases_Bool (i == 1))

-- the two terminals are the complements of each other
pub complement_terminal : (ds : List Decision) (a c : Cond) → a.index < 2 → c.index + a.index ≡ 1 → IsComplement ds a c
complement_terminal ds a c l e =
    record { first = omega arith; node = omega arith; meaning = λ v. holds_in-terminal ds c v (omega arith) ∙ opposite_tests a.index c.index l e ∙ sym (ap not (holds_in-terminal ds a v l)) }

-- a complement stays one
pub Extends-complement : {old new : Nodes} → Extends old new → (a c : Cond) → IsComplement (newest_first old) a c → IsComplement (newest_first new) a c
Extends-complement e a c h =
    record { first = Extends-node e a h.first; node = Extends-node e c h.node; meaning = λ v. Extends-holds e c v h.node ∙ h.meaning v ∙ sym (ap not (Extends-holds e a v h.first)) }

pub Extends-complements : {old new : Nodes} → Extends old new → (r : Complements) → AreComplements (newest_first old) r → AreComplements (newest_first new) r
Extends-complements e r h = record { each = λ a c kn. Extends-complement e a c (h.each a c kn) }

-- a complement depends on no variable on which the condition does not depend
pub complement_later : (n : ℕ) (ds : List Decision) → IsOrdered n ds → (a c : Cond) → IsComplement ds a c → level n ds a ≤ level n ds c
complement_later n ds o a c h =
    level_from_meaning n ds o c h.node (level n ds a) (level-le n ds o a) (λ j v x l. h.meaning (set v j x) ∙ ap not (holds_in-set n ds o a h.first j l v x) ∙ sym (h.meaning v))

-- the complements are those from before, and one more in both directions
abbrev pub Records : Complements → Complements → Cond → Cond → Type 0
Records before after a c = (x : Cond) → complement_of after x ≡ cond (same_cond c x) (Some a) (cond (same_cond a x) (Some c) (complement_of before x))

same_from : (a b : Cond) → same_cond a b ≡ true → a ≡ b
same_from a b s = Cond-same a b (eqb-true a.index b.index s)

apart_from : (a b : Cond) → (a ≡ b → ⊥) → same_cond a b ≡ false
apart_from a b h = false_from_ne_true (same_cond a b) (λ s. h (same_from a b s))

some_cond : (t : Bool) (a : Cond) (o : Option Cond) → is_some o ≡ true → is_some (cond t (Some a) o) ≡ true
some_cond true a o h = refl
some_cond false a o h = h

Records-fills : (before after : Complements) (a c : Cond) → Records before after a c → (x : Cond) → is_some (complement_of before x) ≡ true → is_some (complement_of after x) ≡ true
Records-fills before after a c r x h = ap is_some (r x) ∙ some_cond (same_cond c x) a _ (some_cond (same_cond a x) c (complement_of before x) h)

Records-here : (before after : Complements) (a c : Cond) → Records before after a c → is_some (complement_of after a) ≡ true
Records-here before after a c r = ap is_some (r a) ∙ some_cond (same_cond c a) a _ (ap is_some (cond-true (same_cond a a) (Some c) (complement_of before a) (eq-eqb a.index a.index refl)))

Records-answers : (ds : List Decision) (before after : Complements) (a c : Cond) → Records before after a c → AreComplements ds before → IsComplement ds a c → AreComplements ds after
Records-answers ds before after a c r answers h =
    record {
      each = λ x z kn.
          ⊎_elim (λ (s : same_cond c x ≡ true).
          let found : Some a ≡ Some z = sym (cond-true (same_cond c x) (Some a) (cond (same_cond a x) (Some c) (complement_of before x)) s) ∙ sym (r x) ∙ kn in
          let same : a ≡ z = cc in
          subst (λ (w : Cond). IsComplement ds w z) (same_from c x s) (subst (IsComplement ds c) same (IsComplement-swap ds a c h)))
          (λ (other : same_cond c x ≡ false).
          let rest : cond (same_cond a x) (Some c) (complement_of before x) ≡ Some z = sym (cond-false (same_cond c x) (Some a) (cond (same_cond a x) (Some c) (complement_of before x)) other) ∙ sym (r x) ∙ kn in
          ⊎_elim (λ (s : same_cond a x ≡ true).
          let found : Some c ≡ Some z = sym (cond-true (same_cond a x) (Some c) (complement_of before x) s) ∙ rest in
          let same : c ≡ z = cc in
          subst (λ (w : Cond). IsComplement ds w z) (same_from a x s) (subst (IsComplement ds a) same h))
          (λ (f : same_cond a x ≡ false). answers.each x z (sym (cond-false (same_cond a x) (Some c) (complement_of before x) f) ∙ rest)) (cases_Bool (same_cond a x)))
          (cases_Bool (same_cond c x));
    }

-- a branch was added at most, and the condition has its complement
pub GrowsBy-enter : (old new : Nodes) (before after : Complements) (a c : Cond) → IsReduced new → Extends old new → length (newest_first new) ≤ length (newest_first old) + 1 → AreComplements (newest_first old) before
    → a.index < top (newest_first old) → IsComplement (newest_first new) a c → complement_of before a ≡ None → Records before after a c → 2 ≤ a.index → GrowsBy old new before after a
GrowsBy-enter old new before after a c reduced extends grows answers node h unknown r is_branch =
    record {
      reduced = reduced;
      extends = extends;
      answers = Records-answers (newest_first new) before after a c r (Extends-complements extends before answers) h;
      earlier = λ x l before_a.
          let at_x = Extends-level extends x l in
          let at_a = Extends-level extends a node in
          let at_c = complement_later new.variables (newest_first new) reduced.ordered a c h in
          let not_c : same_cond c x ≡ false = apart_from c x (λ (e : c ≡ x). let f = ap (λ (z : Cond). level new.variables (newest_first new) z) e in omega arith) in
          let not_a : same_cond a x ≡ false = apart_from a x (λ (e : a ≡ x). let f = ap (λ (z : Cond). level new.variables (newest_first new) z) e in omega arith) in
          r x ∙ cond-false _ _ _ not_c ∙ cond-false _ _ _ not_a;
      bound = λ xs cx wx.
          let less = open_among-answered (complement_of before) (complement_of after) (Records-fills before after a c r) a unknown (Records-here before after a c r) xs (wx is_branch) in
          omega arith;
    }

-- the condition is among those reached from another
pub record IsUnder (n : ℕ) (ds : List Decision) (a x : Cond) : Type 0 where
  pub node : x.index < top ds
  pub later : level n ds a ≤ level n ds x
  pub within : (xs : List Cond) → IsClosed ds xs → Within xs a → Within xs x

pub IsUnder-refl : (n : ℕ) (ds : List Decision) (a : Cond) → a.index < top ds → IsUnder n ds a a
IsUnder-refl n ds a l = record { node = l; later = omega arith; within = λ xs cx w. w }

pub IsUnder-low : (n : ℕ) (ds : List Decision) (a : Cond) (d : Decision) → a.index < top ds → 2 ≤ a.index → IsBranch n ds a d → IsUnder n ds a d.low
IsUnder-low n ds a d l t f =
    record {
      node = (let p = f.low_older in omega arith);
      later = (let p = f.level_is in let q = f.low_later in omega arith);
      within = λ xs cx w. (cx.children a d.variable d.low d.high (w t) f.is).0;
    }

pub IsUnder-high : (n : ℕ) (ds : List Decision) (a : Cond) (d : Decision) → a.index < top ds → 2 ≤ a.index → IsBranch n ds a d → IsUnder n ds a d.high
IsUnder-high n ds a d l t f =
    record {
      node = (let p = f.high_older in omega arith);
      later = (let p = f.level_is in let q = f.high_later in omega arith);
      within = λ xs cx w. (cx.children a d.variable d.low d.high (w t) f.is).1;
    }

pub GrowsBy-under : (old new : Nodes) (before after : Complements) (a x : Cond) → IsUnder old.variables (newest_first old) a x → GrowsBy old new before after x → GrowsBy old new before after a
GrowsBy-under old new before after a x under g =
    record {
      reduced = g.reduced;
      extends = g.extends;
      answers = g.answers;
      earlier = λ z l b. g.earlier z l (let p = under.later in omega arith);
      bound = λ xs cx wx. g.bound xs cx (under.within xs cx wx);
    }

pub GrowsBy-then : (old mid new : Nodes) (before between after : Complements) (a x : Cond) → GrowsBy old mid before between a → IsUnder old.variables (newest_first old) a x → GrowsBy mid new between after x → GrowsBy old new before after a
GrowsBy-then old mid new before between after a x g under h =
    record {
      reduced = h.reduced;
      extends = Extends-trans old mid new g.extends h.extends;
      answers = h.answers;
      earlier = λ z l b.
          let at_z = Extends-level g.extends z l in
          let at_x = Extends-level g.extends x under.node in
          let p = under.later in
          h.earlier z (Extends-node g.extends z l) (omega arith) ∙ g.earlier z l b;
      bound = λ xs cx wx.
          let one = g.bound xs cx wx in
          let two = h.bound xs (Extends-closed g.extends xs cx) (under.within xs cx wx) in
          omega arith;
    }

-- the branch of the complements of both halves is the complement
pub complement_made : {old new : Nodes} → Extends old new → (a c : Cond) → a.index < top (newest_first old) → c.index < top (newest_first new)
    → ((v : List Bool) → holds_in (newest_first new) c v ≡ not (holds_in (newest_first old) a v)) → IsComplement (newest_first new) a c
complement_made e a c first node meaning =
    record { first = Extends-node e a first; node = node; meaning = λ v. meaning v ∙ sym (ap not (Extends-holds e a v first)) }

-- what the two calls on the halves have left
pub record HalvesComplemented (old mid new : Nodes) (a : Cond) (d : Decision) (low high : Cond) : Type 0 where
  pub node : a.index < top (newest_first old)
  pub branch : IsBranch old.variables (newest_first old) a d
  pub to_mid : Extends old mid
  pub to_new : Extends mid new
  pub mid_reduced : IsReduced mid
  pub new_reduced : IsReduced new
  pub low_answer : IsComplement (newest_first mid) d.low low
  pub high_answer : IsComplement (newest_first new) d.high high

later_lifts : {old new : Nodes} → Extends old new → (c : Cond) (i : ℕ) → c.index < top (newest_first old) → i < level old.variables (newest_first old) c → i < level new.variables (newest_first new) c
later_lifts e c i l h = let same = Extends-level e c l in omega arith

pub complements_may_branch : (old mid new : Nodes) (a : Cond) (d : Decision) (low high : Cond) → HalvesComplemented old mid new a d low high → MayBranch new (record { variable = d.variable; low = low; high = high })
complements_may_branch old mid new a d low high h =
    let node = h.node in
    let e : Extends old new = Extends-trans old mid new h.to_mid h.to_new in
    let d_low : d.low.index < top (newest_first old) = (let p = h.branch.low_older in omega arith) in
    let d_high : d.high.index < top (newest_first old) = (let p = h.branch.high_older in omega arith) in
    let low_at = later_lifts h.to_mid d.low d.variable d_low h.branch.low_later in
    let high_at = later_lifts e d.high d.variable d_high h.branch.high_later in
    let low_le = complement_later mid.variables (newest_first mid) h.mid_reduced.ordered d.low low h.low_answer in
    let high_le = complement_later new.variables (newest_first new) h.new_reduced.ordered d.high high h.high_answer in
    record {
      in_range = (let p = e.variables in let q = h.branch.in_range in omega arith);
      low_node = Extends-node h.to_new low h.low_answer.node;
      high_node = h.high_answer.node;
      low_later = later_lifts h.to_new low d.variable h.low_answer.node (omega arith);
      high_later = omega arith;
    }

not_choice : (t p r : Bool) → cond t (not p) (not r) ≡ not (cond t p r)
not_choice true p r = refl
not_choice false p r = refl

pub complements_meaning : (old mid new : Nodes) (a : Cond) (d : Decision) (low high : Cond) → HalvesComplemented old mid new a d low high → (v : List Bool)
    → cond (value_of v d.variable) (holds_in (newest_first new) high v) (holds_in (newest_first new) low v) ≡ not (holds_in (newest_first new) a v)
complements_meaning old mid new a d low high h v =
    let node = h.node in
    let e : Extends old new = Extends-trans old mid new h.to_mid h.to_new in
    let d_low : d.low.index < top (newest_first old) = (let p = h.branch.low_older in omega arith) in
    let d_high : d.high.index < top (newest_first old) = (let p = h.branch.high_older in omega arith) in
    let low_is : holds_in (newest_first new) low v ≡ not (holds_in (newest_first old) d.low v) = Extends-holds h.to_new low v h.low_answer.node ∙ h.low_answer.meaning v ∙ ap not (Extends-holds h.to_mid d.low v d_low) in
    let high_is : holds_in (newest_first new) high v ≡ not (holds_in (newest_first old) d.high v) = h.high_answer.meaning v ∙ ap not (Extends-holds e d.high v d_high) in
    let a_is : holds_in (newest_first new) a v ≡ cond (value_of v d.variable) (holds_in (newest_first old) d.high v) (holds_in (newest_first old) d.low v) = Extends-holds e a v h.node ∙ h.branch.meaning v in
    ap (λ (x : Bool). cond (value_of v d.variable) x (holds_in (newest_first new) low v)) high_is
    ∙ ap (λ (x : Bool). cond (value_of v d.variable) (not (holds_in (newest_first old) d.high v)) x) low_is
    ∙ not_choice (value_of v d.variable) _ _
    ∙ ap not (sym a_is)
