-- Lemmas on lists of branches, the newest first.
use Rattle.std.proofs.Common.{◌≡◌, ◌≢◌, ◌==◌, ◌<◌, ◌≤◌, ℕ, Bool, true, false, cond, ◌&&◌, List, [], ◌∷◌, Some, None, refl, sym, ap, ◌∙◌, subst, ⊎_elim, arith, eq-eqb, set}
use Rattle.std.proofs.lemmas.Bool.{cond-true, cond-false, cond_both, ne_eqb, eqb-true, cases_eq, cases_lt, and_parts, and_from, cases_Bool}
use Rattle.std.proofs.lemmas.List.{get_or-set_other}
use Rattle.hv_cond.specs.declared.conditions.Cond.{Cond}
use Rattle.hv_cond.specs.declared.conditions.Node.TheVariants.{Truth, Falsity, Branch}
use Rattle.hv_cond.specs.declared.nodes.Decision.{Decision}
use Rattle.hv_cond.specs.Diagram.{top, value_of, node_in, holds_in}
use Rattle.hv_cond.specs.working.Nodes.{choice, level, place_of, same_decision, IsDecision, IsOrdered, IsBranch}

pub Cond-same : (a b : Cond) → a.index ≡ b.index → a ≡ b
Cond-same a b e = ap (λ (i : ℕ). let c : Cond = record { index = i } in c) e

-- a node among the older branches is not the one before them
pub apart : (c : Cond) (older : List Decision) → c.index < top older → (c.index == top older) ≡ false
apart c older l = ne_eqb c.index (top older) (λ (e : c.index ≡ top older). omega arith)

pub holds_in-top : (d : Decision) (older : List Decision) (c : Cond) (v : List Bool) → c.index ≡ top older → holds_in (d ∷ older) c v ≡ choice older d v
unfolding holds_in
holds_in-top d older c v e = cond-true _ _ _ (eq-eqb _ _ e)

pub holds_in-below : (d : Decision) (older : List Decision) (c : Cond) (v : List Bool) → c.index < top older → holds_in (d ∷ older) c v ≡ holds_in older c v
unfolding holds_in
holds_in-below d older c v l = cond-false _ _ _ (apart c older l)

pub level-top : (n : ℕ) (d : Decision) (older : List Decision) (c : Cond) → c.index ≡ top older → level n (d ∷ older) c ≡ d.variable
unfolding level
level-top n d older c e = cond-true _ _ _ (eq-eqb _ _ e)

pub level-below : (n : ℕ) (d : Decision) (older : List Decision) (c : Cond) → c.index < top older → level n (d ∷ older) c ≡ level n older c
unfolding level
level-below n d older c l = cond-false _ _ _ (apart c older l)

pub node_in-top : (d : Decision) (older : List Decision) (c : Cond) → c.index ≡ top older → node_in (d ∷ older) c ≡ Branch d.variable d.low d.high
unfolding node_in
node_in-top d older c e = cond-true _ _ _ (eq-eqb _ _ e)

pub node_in-below : (d : Decision) (older : List Decision) (c : Cond) → c.index < top older → node_in (d ∷ older) c ≡ node_in older c
unfolding node_in
node_in-below d older c l = cond-false _ _ _ (apart c older l)

pub later-lifts : (n : ℕ) (d : Decision) (older : List Decision) (c : Cond) (i : ℕ) → c.index < top older → i < level n older c → i < level n (d ∷ older) c
later-lifts n d older c i l h = let e = level-below n d older c l in omega arith

-- the two terminals
pub holds_in-terminal : (ds : List Decision) (c : Cond) (v : List Bool) → c.index < 2 → holds_in ds c v ≡ (c.index == 1)
unfolding holds_in
holds_in-terminal [] c v l = refl
holds_in-terminal (d ∷ older) c v l = holds_in-below d older c v (omega arith) ∙ holds_in-terminal older c v l

pub level-terminal : (n : ℕ) (ds : List Decision) (c : Cond) → c.index < 2 → level n ds c ≡ n
unfolding level
level-terminal n [] c l = refl
level-terminal n (d ∷ older) c l = level-below n d older c (omega arith) ∙ level-terminal n older c l

pub node_in-terminal : (ds : List Decision) (c : Cond) → c.index < 2 → node_in ds c ≡ cond (c.index == 1) Truth Falsity
unfolding node_in
node_in-terminal [] c l = refl
node_in-terminal (d ∷ older) c l = node_in-below d older c (omega arith) ∙ node_in-terminal older c l

-- a branch is made of its parts
make : ℕ → Cond → Cond → Decision
make v l h = record { variable = v; low = l; high = h }

pub Decision-same : (d e : Decision) → d.variable ≡ e.variable → d.low ≡ e.low → d.high ≡ e.high → d ≡ e
unfolding make
Decision-same d e v l h =
    ap (λ (x : ℕ). make x d.low d.high) v ∙ ap (λ (x : Cond). make e.variable x d.high) l ∙ ap (λ (x : Cond). make e.variable e.low x) h

pub same_decision-from : (d e : Decision) → same_decision d e ≡ true → d ≡ e
same_decision-from d e s =
    let p = and_parts (d.variable == e.variable) (d.low.index == e.low.index && d.high.index == e.high.index) s in
    let q = and_parts (d.low.index == e.low.index) (d.high.index == e.high.index) p.1 in
    Decision-same d e (eqb-true d.variable e.variable p.0) (Cond-same _ _ (eqb-true d.low.index e.low.index q.0)) (Cond-same _ _ (eqb-true d.high.index e.high.index q.1))

pub same_decision-self : (d : Decision) → same_decision d d ≡ true
same_decision-self d =
    and_from (d.variable == d.variable) (d.low.index == d.low.index && d.high.index == d.high.index) (eq-eqb d.variable d.variable refl)
    (and_from (d.low.index == d.low.index) (d.high.index == d.high.index) (eq-eqb d.low.index d.low.index refl) (eq-eqb d.high.index d.high.index refl))

-- a newer branch changes no choice among the older ones
pub choice-lifts : (d : Decision) (older : List Decision) (e : Decision) (v : List Bool) → e.low.index < top older → e.high.index < top older → choice (d ∷ older) e v ≡ choice older e v
choice-lifts d older e v l h = rw (holds_in-below d older e.low v l, holds_in-below d older e.high v h) refl

-- a branch that stands among the older ones is not a fresh one
fresh_apart : (d : Decision) (older : List Decision) (e : Decision) {c : Cond} → place_of older d ≡ None → place_of older e ≡ Some c → same_decision d e ≡ false
fresh_apart d older e {c} fresh placed =
    ⊎_elim (λ (s : same_decision d e ≡ true). let same : d ≡ e = same_decision-from d e s in let clash : place_of older d ≡ place_of older e = ap (place_of older) same in cc) (λ (f : same_decision d e ≡ false). f) (cases_Bool (same_decision d e))

-- the newest branch is one
IsBranch-top : (n : ℕ) (d : Decision) (older : List Decision) → IsDecision n older d → (c : Cond) → c.index ≡ top older → IsBranch n (d ∷ older) c d
unfolding place_of
IsBranch-top n d older o c e =
    record {
      is = node_in-top d older c e;
      in_range = o.in_range;
      low_older = let h = o.low_older in omega arith;
      high_older = let h = o.high_older in omega arith;
      different = o.different;
      level_is = level-top n d older c e;
      low_later = later-lifts n d older d.low _ o.low_older o.low_later;
      high_later = later-lifts n d older d.high _ o.high_older o.high_later;
      meaning = λ v. holds_in-top d older c v e ∙ sym (choice-lifts d older d v o.low_older o.high_older);
      placed = cond-true _ _ _ (same_decision-self d) ∙ ap Some (Cond-same _ _ (sym e));
    }

-- an older branch stays one
IsBranch-below : (n : ℕ) (d : Decision) (older : List Decision) → place_of older d ≡ None → (c : Cond) (e : Decision) → c.index < top older → IsBranch n older c e → IsBranch n (d ∷ older) c e
unfolding place_of
IsBranch-below n d older fresh c e below f =
    let low : e.low.index < top older = (let h = f.low_older in omega arith) in
    let high : e.high.index < top older = (let h = f.high_older in omega arith) in
    record {
      is = node_in-below d older c below ∙ f.is;
      in_range = f.in_range;
      low_older = f.low_older;
      high_older = f.high_older;
      different = f.different;
      level_is = level-below n d older c below ∙ f.level_is;
      low_later = later-lifts n d older e.low _ low f.low_later;
      high_later = later-lifts n d older e.high _ high f.high_later;
      meaning = λ v. holds_in-below d older c v below ∙ f.meaning v ∙ sym (choice-lifts d older e v low high);
      placed = cond-false _ _ _ (fresh_apart d older e fresh f.placed) ∙ f.placed;
    }

-- each node that is no terminal is a branch
pub branch_of : (n : ℕ) (ds : List Decision) → IsOrdered n ds → (c : Cond) → c.index < top ds → 2 ≤ c.index → (d : Decision) × IsBranch n ds c d
branch_of n [] o c l t = absurd (omega arith)
branch_of n (d ∷ older) o c l t =
    ⊎_elim (λ (e : c.index ≡ top older). (d, IsBranch-top n d older o.0 c e))
    (λ (ne : c.index ≡ top older → ⊥).
    let below : c.index < top older = omega arith in
    let found = branch_of n older o.1 c below t in
    (found.0, IsBranch-below n d older o.0.fresh c found.0 below found.1))
    (cases_eq c.index (top older))

none_some : (c : Cond) → None ≡ Some c → ⊥
none_some c e = cc

-- a branch that has a place is the node there
pub placed : (n : ℕ) (ds : List Decision) → IsOrdered n ds → (d : Decision) (c : Cond) → place_of ds d ≡ Some c → (c.index < top ds) × IsBranch n ds c d
unfolding place_of
placed n [] o d c at = absurd (none_some c at)
placed n (e ∷ older) o d c at =
    let t : Cond = record { index = top older } in
    ⊎_elim (λ (s : same_decision e d ≡ true).
    let same : e ≡ d = same_decision-from e d s in
    let found : cond (same_decision e d) (Some t) (place_of older d) ≡ Some t = cond-true _ _ _ s in
    let here : c ≡ t = (let both : Some c ≡ Some t = sym at ∙ found in cc) in
    let index : c.index ≡ top older = ap (λ (x : Cond). x.index) here in
    (omega arith, subst (IsBranch n (e ∷ older) c) same (IsBranch-top n e older o.0 c index)))
    (λ (f : same_decision e d ≡ false).
    let found : place_of older d ≡ Some c = sym (cond-false (same_decision e d) (Some t) (place_of older d) f) ∙ at in
    let inner = placed n older o.1 d c found in
    let below = inner.0 in
    (omega arith, IsBranch-below n e older o.0.fresh c d below inner.1))
    (cases_Bool (same_decision e d))

-- no condition depends on a variable before its level
pub holds_in-set : (n : ℕ) (ds : List Decision) → IsOrdered n ds → (c : Cond) → c.index < top ds → (i : ℕ) → i < level n ds c → (v : List Bool) (b : Bool) → holds_in ds c (set v i b) ≡ holds_in ds c v
holds_in-set n [] o c l i before v b = holds_in-terminal [] c (set v i b) l ∙ sym (holds_in-terminal [] c v l)
holds_in-set n (d ∷ older) o c l i before v b =
    ⊎_elim (λ (e : c.index ≡ top older).
    let at : level n (d ∷ older) c ≡ d.variable = level-top n d older c e in
    let low_later = o.0.low_later in
    let high_later = o.0.high_later in
    let low = holds_in-set n older o.1 d.low o.0.low_older i (omega arith) v b in
    let high = holds_in-set n older o.1 d.high o.0.high_older i (omega arith) v b in
    let other : d.variable ≢ i = omega arith in
    let value : value_of (set v i b) d.variable ≡ value_of v d.variable = get_or-set_other v i d.variable b false other in
    holds_in-top d older c (set v i b) e ∙ rw (value, low, high) refl ∙ sym (holds_in-top d older c v e))
    (λ (ne : c.index ≡ top older → ⊥).
    let below : c.index < top older = omega arith in
    let at = level-below n d older c below in
    holds_in-below d older c (set v i b) below ∙ holds_in-set n older o.1 c below i (omega arith) v b ∙ sym (holds_in-below d older c v below))
    (cases_eq c.index (top older))

-- the level of a condition is at most the number of variables
pub level-le : (n : ℕ) (ds : List Decision) → IsOrdered n ds → (c : Cond) → level n ds c ≤ n
unfolding level
level-le n [] o c = omega arith
level-le n (d ∷ older) o c = let older_le = level-le n older o.1 c in let in_range = o.0.in_range in cond_both (c.index == top older) d.variable (level n older c) (λ x. x ≤ n) (λ _. omega arith) (λ _. older_le)

-- a terminal depends on no variable, and a branch on one
pub branch_at_level : (n : ℕ) (ds : List Decision) → IsOrdered n ds → (c : Cond) → c.index < top ds → level n ds c < n → (d : Decision) × IsBranch n ds c d
branch_at_level n ds o c l below =
    branch_of n ds o c l (⊎_elim (λ (t : c.index < 2). let e = level-terminal n ds c t in absurd (omega arith)) (λ t. t) (cases_lt c.index 2))

-- a branch depends on a variable
pub level-branch : (n : ℕ) (ds : List Decision) → IsOrdered n ds → (c : Cond) → c.index < top ds → 2 ≤ c.index → level n ds c < n
level-branch n ds o c l t =
    let found = branch_of n ds o c l t in
    let f : IsBranch n ds c found.0 = found.1 in
    let e = f.level_is in
    let b = f.in_range in
    omega arith

-- a branch is no terminal
pub branch_index : {n : ℕ} {ds : List Decision} {c : Cond} {d : Decision} → IsBranch n ds c d → 2 ≤ c.index
branch_index {c} {d} f =
    ⊎_elim (λ (l : c.index < 2).
    let low = f.low_older in
    let high = f.high_older in
    absurd (f.different (Cond-same d.low d.high (omega arith))))
    (λ (t : 2 ≤ c.index). t) (cases_lt c.index 2)
