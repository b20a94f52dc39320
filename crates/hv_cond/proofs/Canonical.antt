-- In an ordered list of branches, conditions that mean the same are the same.
use Rattle.std.proofs.Common.{◌≡◌, ◌≢◌, ◌==◌, ◌<◌, ◌≤◌, ℕ, Bool, true, false, List, [], ◌∷◌, length, replicate, Some, refl, sym, ap, ◌∙◌, ⊎_elim, arith, set}
use Rattle.std.proofs.lemmas.Bool.{cond-true, cond-false, cases_eq, cases_lt}
use Rattle.std.proofs.lemmas.Bool.Decides.{nat_tests}
use Rattle.std.proofs.lemmas.List.{get_or-set_same, get_or-set_other, length-set, length-replicate}
use Rattle.hv_cond.specs.declared.conditions.Cond.{Cond}
use Rattle.hv_cond.specs.declared.nodes.Decision.{Decision}
use Rattle.hv_cond.specs.Diagram.{top, value_of, holds_in}
use Rattle.hv_cond.specs.working.Nodes.{choice, level, place_of, IsDecision, IsOrdered, IsBranch}
use Rattle.hv_cond.proofs.Branches.{Cond-same, Decision-same, holds_in-top, holds_in-below, holds_in-terminal, holds_in-set, branch_at_level}

-- the two terminals differ
same_terminal : (i j : ℕ) → i < 2 → j < 2 → (i == 1) ≡ (j == 1) → i ≡ j
same_terminal i j k l e = grind (arith, nat_tests)

-- two conditions mean the same
abbrev pub SameMeaning : ℕ → List Decision → Cond → Cond → Type 0
SameMeaning n ds a b = (v : List Bool) → length v ≡ n → holds_in ds a v ≡ holds_in ds b v

-- conditions that mean the same are the same
abbrev pub IsCanonical : ℕ → List Decision → Type 0
IsCanonical n ds = (a b : Cond) → a.index < top ds → b.index < top ds → SameMeaning n ds a b → a ≡ b

-- where a branch's variable is false it means `low`
pub low_half : (n : ℕ) (ds : List Decision) → IsOrdered n ds → (d : Decision) → d.low.index < top ds → d.variable < n → d.variable < level n ds d.low → (v : List Bool) → length v ≡ n → choice ds d (set v d.variable false) ≡ holds_in ds d.low v
low_half n ds o d node in_range later v len =
    let within : d.variable < length v = omega arith in
    cond-false (value_of (set v d.variable false) d.variable) _ _ (get_or-set_same v d.variable false false within) ∙ holds_in-set n ds o d.low node d.variable later v false

-- where a branch's variable is true it means `high`
pub high_half : (n : ℕ) (ds : List Decision) → IsOrdered n ds → (d : Decision) → d.high.index < top ds → d.variable < n → d.variable < level n ds d.high → (v : List Bool) → length v ≡ n → choice ds d (set v d.variable true) ≡ holds_in ds d.high v
high_half n ds o d node in_range later v len =
    let within : d.variable < length v = omega arith in
    cond-true (value_of (set v d.variable true) d.variable) _ _ (get_or-set_same v d.variable true false within) ∙ holds_in-set n ds o d.high node d.variable later v true

-- a branch depends on no variable before its own
choice-set : (n : ℕ) (ds : List Decision) → IsOrdered n ds → (d : Decision) → IsDecision n ds d → (i : ℕ) → i < d.variable → (v : List Bool) (b : Bool) → choice ds d (set v i b) ≡ choice ds d v
choice-set n ds o d od i before v b =
    let low_later = od.low_later in
    let high_later = od.high_later in
    let low = holds_in-set n ds o d.low od.low_older i (omega arith) v b in
    let high = holds_in-set n ds o d.high od.high_older i (omega arith) v b in
    let other : d.variable ≢ i = omega arith in
    let value : value_of (set v i b) d.variable ≡ value_of v d.variable = get_or-set_other v i d.variable b false other in
    rw (value, low, high) refl

-- a new branch means what an older condition means
abbrev Repeats : ℕ → List Decision → Decision → Cond → Type 0
Repeats n ds d b = (v : List Bool) → length v ≡ n → choice ds d v ≡ holds_in ds b v

-- no new branch means a condition that does not depend on its variable
apart_later : (n : ℕ) (ds : List Decision) → IsOrdered n ds → IsCanonical n ds → (d : Decision) → IsDecision n ds d → (b : Cond) → b.index < top ds → Repeats n ds d b → d.variable < level n ds b → ⊥
apart_later n ds o canonical d od b node same later =
    let low : d.low ≡ b = canonical d.low b od.low_older node (λ v len.
    sym (low_half n ds o d od.low_older od.in_range od.low_later v len) ∙ same (set v d.variable false) (length-set v d.variable false ∙ len) ∙ holds_in-set n ds o b node d.variable later v false) in
    let high : d.high ≡ b = canonical d.high b od.high_older node (λ v len.
    sym (high_half n ds o d od.high_older od.in_range od.high_later v len) ∙ same (set v d.variable true) (length-set v d.variable true ∙ len) ∙ holds_in-set n ds o b node d.variable later v true) in
    od.different (low ∙ sym high)

-- no new branch means an older one of its variable
apart_here : (n : ℕ) (ds : List Decision) → IsOrdered n ds → IsCanonical n ds → (d : Decision) → IsDecision n ds d → (b : Cond) → b.index < top ds → Repeats n ds d b → (e : Decision) → IsBranch n ds b e → e.variable ≡ d.variable → ⊥
apart_here n ds o canonical d od b node same e f ev =
    let e_low : e.low.index < top ds = let h = f.low_older in omega arith in
    let e_high : e.high.index < top ds = let h = f.high_older in omega arith in
    let low : d.low ≡ e.low = canonical d.low e.low od.low_older e_low (λ v len.
    sym (low_half n ds o d od.low_older od.in_range od.low_later v len) ∙ same (set v d.variable false) (length-set v d.variable false ∙ len) ∙ f.meaning (set v d.variable false)
    ∙ ap (λ (i : ℕ). choice ds e (set v i false)) (sym ev) ∙ low_half n ds o e e_low f.in_range f.low_later v len) in
    let high : d.high ≡ e.high = canonical d.high e.high od.high_older e_high (λ v len.
    sym (high_half n ds o d od.high_older od.in_range od.high_later v len) ∙ same (set v d.variable true) (length-set v d.variable true ∙ len) ∙ f.meaning (set v d.variable true)
    ∙ ap (λ (i : ℕ). choice ds e (set v i true)) (sym ev) ∙ high_half n ds o e e_high f.in_range f.high_later v len) in
    let same_branch : d ≡ e = Decision-same d e (sym ev) low high in
    let placed : place_of ds d ≡ Some b = ap (place_of ds) same_branch ∙ f.placed in
    let fresh = od.fresh in
    cc

-- no new branch means an older one of a variable before its own
apart_before : (n : ℕ) (ds : List Decision) → IsOrdered n ds → IsCanonical n ds → (d : Decision) → IsDecision n ds d → (b : Cond) → b.index < top ds → Repeats n ds d b → (e : Decision) → IsBranch n ds b e → e.variable < d.variable → ⊥
apart_before n ds o canonical d od b node same e f before =
    let e_low : e.low.index < top ds = let h = f.low_older in omega arith in
    let e_high : e.high.index < top ds = let h = f.high_older in omega arith in
    f.different (canonical e.low e.high e_low e_high (λ v len.
    sym (low_half n ds o e e_low f.in_range f.low_later v len) ∙ sym (f.meaning (set v e.variable false)) ∙ sym (same (set v e.variable false) (length-set v e.variable false ∙ len))
    ∙ choice-set n ds o d od e.variable before v false ∙ sym (choice-set n ds o d od e.variable before v true)
    ∙ same (set v e.variable true) (length-set v e.variable true ∙ len) ∙ f.meaning (set v e.variable true) ∙ high_half n ds o e e_high f.in_range f.high_later v len))

-- no new branch means an older condition
apart_from_older : (n : ℕ) (ds : List Decision) → IsOrdered n ds → IsCanonical n ds → (d : Decision) → IsDecision n ds d → (b : Cond) → b.index < top ds → Repeats n ds d b → ⊥
apart_from_older n ds o canonical d od b node same =
    ⊎_elim (apart_later n ds o canonical d od b node same)
    (λ (at : level n ds b ≤ d.variable).
    let in_range = od.in_range in
    let found = branch_at_level n ds o b node (omega arith) in
    let e = found.0 in
    let f : IsBranch n ds b e = found.1 in
    let level_is = f.level_is in
    ⊎_elim (λ (before : e.variable < d.variable). apart_before n ds o canonical d od b node same e f before)
    (λ (reached : d.variable ≤ e.variable). apart_here n ds o canonical d od b node same e f (omega arith)) (cases_lt e.variable d.variable))
    (cases_lt d.variable (level n ds b))

-- conditions of one ordered list that mean the same are the same
pub canonical : (n : ℕ) (ds : List Decision) → IsOrdered n ds → IsCanonical n ds
canonical n [] o a b a_node b_node same =
    let v = replicate n false in
    let e : (a.index == 1) ≡ (b.index == 1) = sym (holds_in-terminal [] a v a_node) ∙ same v (length-replicate n false) ∙ holds_in-terminal [] b v b_node in
    Cond-same a b (same_terminal a.index b.index a_node b_node e)
canonical n (d ∷ older) o a b a_node b_node same =
    let older_canonical = canonical n older o.1 in
    ⊎_elim
    (λ (a_top : a.index ≡ top older). ⊎_elim (λ (b_top : b.index ≡ top older). Cond-same a b (a_top ∙ sym b_top))
    (λ (ne : b.index ≡ top older → ⊥).
    let b_below : b.index < top older = omega arith in
    absurd (apart_from_older n older o.1 older_canonical d o.0 b b_below (λ v len. sym (holds_in-top d older a v a_top) ∙ same v len ∙ holds_in-below d older b v b_below)))
    (cases_eq b.index (top older)))
    (λ (a_ne : a.index ≡ top older → ⊥).
    let a_below : a.index < top older = omega arith in
    ⊎_elim (λ (b_top : b.index ≡ top older).
    absurd (apart_from_older n older o.1 older_canonical d o.0 a a_below (λ v len. sym (holds_in-top d older b v b_top) ∙ sym (same v len) ∙ holds_in-below d older a v a_below)))
    (λ (ne : b.index ≡ top older → ⊥).
    let b_below : b.index < top older = omega arith in
    older_canonical a b a_below b_below (λ v len. sym (holds_in-below d older a v a_below) ∙ same v len ∙ holds_in-below d older b v b_below))
    (cases_eq b.index (top older)))
    (cases_eq a.index (top older))

-- a condition that depends on no variable before k has a level from k on
pub level_from_meaning : (n : ℕ) (ds : List Decision) → IsOrdered n ds → (c : Cond) → c.index < top ds → (k : ℕ) → k ≤ n → ((i : ℕ) (v : List Bool) (b : Bool) → i < k → holds_in ds c (set v i b) ≡ holds_in ds c v) → k ≤ level n ds c
level_from_meaning n ds o c node k most free =
    ⊎_elim (λ (below : level n ds c < k).
    let found = branch_at_level n ds o c node (omega arith) in
    let d = found.0 in
    let f : IsBranch n ds c d = found.1 in
    let level_is = f.level_is in
    let before : d.variable < k = omega arith in
    let d_low : d.low.index < top ds = let h = f.low_older in omega arith in
    let d_high : d.high.index < top ds = let h = f.high_older in omega arith in
    absurd (f.different (canonical n ds o d.low d.high d_low d_high (λ v len.
    sym (low_half n ds o d d_low f.in_range f.low_later v len) ∙ sym (f.meaning (set v d.variable false)) ∙ free d.variable v false before
    ∙ sym (free d.variable v true before) ∙ f.meaning (set v d.variable true) ∙ high_half n ds o d d_high f.in_range f.high_later v len))))
    (λ (above : k ≤ level n ds c). above)
    (cases_lt (level n ds c) k)
