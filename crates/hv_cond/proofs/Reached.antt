-- The branches that are reached from a condition.
use Rattle.std.proofs.Common.{◌≡◌, ◌==◌, ◌+◌, ◌<◌, ◌≤◌, ℕ, Bool, true, false, cond, ◌||◌, List, [], ◌∷◌, length, zero, suc, refl, sym, ap, ◌∙◌, inl, inr, ⊎_elim, ◌⊎◌, subst, arith, eq-eqb, count_by, ◌++◌, length-append, zero-add}
use Rattle.std.specs.List.{range_with_len}
use Rattle.std.proofs.lemmas.Bool.{cond-true, cond-false, cases_eq, eqb-true, or_cases, or_left, or_right, both_ways, ne_eqb, cases_Bool}
use Rattle.std.proofs.lemmas.List.Sums.{sum_by-cons}
use Rattle.hv_cond.specs.declared.conditions.Cond.{Cond}
use Rattle.hv_cond.specs.declared.conditions.Node.TheVariants.{Branch}
use Rattle.hv_cond.specs.declared.nodes.Decision.{Decision}
use Rattle.hv_cond.specs.Diagram.{top, node_in, reaches_in}
use Rattle.hv_cond.specs.working.Nodes.{Among, Within, IsClosed, IsOrdered}
use Rattle.hv_cond.proofs.Lifts.{node_lifts}
use Rattle.hv_cond.proofs.Branches.{apart, Cond-same, node_in-top, node_in-below}

-- the conditions of the indices that pass the test
abbrev pub passing : (ℕ → Bool) → List ℕ → List Cond
passing test [] = []
passing test (i ∷ is) = cond (test i) ((record { index = i }) ∷ passing test is) (passing test is)

length-pass : (b : Bool) (c : Cond) (cs : List Cond) → length (cond b (c ∷ cs) cs) ≡ cond b 1 0 + length cs
length-pass true c cs = omega arith
length-pass false c cs = omega arith

pub length-passing : (test : ℕ → Bool) (is : List ℕ) → length (passing test is) ≡ count_by test is
length-passing test [] = refl
length-passing test (i ∷ is) = length-pass (test i) (record { index = i }) (passing test is) ∙ ap (λ (n : ℕ). cond (test i) 1 0 + n) (length-passing test is) ∙ sym (sum_by-cons (λ (x : ℕ). cond (test x) 1 0) i is)

Among-pass : (b : Bool) (x : Cond) (cs : List Cond) (c : Cond) → Among (cond b (x ∷ cs) cs) c → ((b ≡ true) × (x ≡ c)) ⊎ Among cs c
Among-pass true x cs c h = ⊎_elim (λ (e : x ≡ c). inl (refl, e)) (λ (r : Among cs c). inr r) h
Among-pass false x cs c h = inr h

-- a condition among them passes the test
pub passes : (test : ℕ → Bool) (is : List ℕ) (c : Cond) → Among (passing test is) c → test c.index ≡ true
passes test [] c h = absurd h
passes test (i ∷ is) c h =
    ⊎_elim (λ (e : (test i ≡ true) × ((record { index = i }) ≡ c)). ap (λ (x : Cond). test x.index) (sym e.1) ∙ e.0) (λ (r : Among (passing test is) c). passes test is c r) (Among-pass (test i) (record { index = i }) (passing test is) c h)

Among-here : (b : Bool) (x : Cond) (cs : List Cond) → b ≡ true → Among (cond b (x ∷ cs) cs) x
Among-here true x cs e = inl refl
Among-here false x cs e = absurd (both_ways false refl e)

Among-there : (b : Bool) (x : Cond) (cs : List Cond) (c : Cond) → Among cs c → Among (cond b (x ∷ cs) cs) c
Among-there true x cs c h = inr h
Among-there false x cs c h = h

-- a condition of the range that passes the test is among them
pub Among-passing : (test : ℕ → Bool) (n a : ℕ) (c : Cond) → a ≤ c.index → c.index < a + n → test c.index ≡ true → Among (passing test (range_with_len a n)) c
Among-passing test zero a c l h t = absurd (omega arith)
Among-passing test (suc n) a c l h t =
    let x : Cond = record { index = a } in
    ⊎_elim (λ (e : a ≡ c.index). subst (λ (z : Cond). Among (passing test (range_with_len a (suc n))) z) (Cond-same x c e) (Among-here (test a) x (passing test (range_with_len (a + 1) n)) (ap test e ∙ t)))
    (λ (ne : a ≡ c.index → ⊥). Among-there (test a) x (passing test (range_with_len (a + 1) n)) c (Among-passing test n (a + 1) c (omega arith) (omega arith) t)) (cases_eq a c.index)

-- what is reached from the newest branch, and from an older node
reaches-top : (d : Decision) (older : List Decision) (c : Cond) (i : ℕ) → c.index ≡ top older → reaches_in (d ∷ older) c i ≡ ((i == c.index) || (reaches_in older d.low i || reaches_in older d.high i))
unfolding reaches_in
reaches-top d older c i e = cond-true _ _ _ (eq-eqb _ _ e)

reaches-below : (d : Decision) (older : List Decision) (c : Cond) (i : ℕ) → c.index < top older → reaches_in (d ∷ older) c i ≡ reaches_in older c i
unfolding reaches_in
reaches-below d older c i l = cond-false _ _ _ (apart c older l)

reaches-other : (d : Decision) (older : List Decision) (c : Cond) (i : ℕ) → (c.index ≡ top older → ⊥) → reaches_in (d ∷ older) c i ≡ reaches_in older c i
unfolding reaches_in
reaches-other d older c i ne = cond-false _ _ _ (ne_eqb c.index (top older) ne)

reaches-none : (c : Cond) (i : ℕ) → reaches_in [] c i ≡ false
unfolding reaches_in
reaches-none c i = refl

-- only branches are reached
pub reaches-range : (n : ℕ) (ds : List Decision) → IsOrdered n ds → (c : Cond) (i : ℕ) → c.index < top ds → reaches_in ds c i ≡ true → (2 ≤ i) × (i ≤ c.index)
reaches-range n [] o c i l h = absurd (both_ways (reaches_in [] c i) (reaches-none c i) h)
reaches-range n (d ∷ older) o c i l h =
    ⊎_elim (λ (e : c.index ≡ top older).
    ⊎_elim (λ (here : (i == c.index) ≡ true). let same : i ≡ c.index = eqb-true i c.index here in (omega arith, omega arith))
    (λ (r : (reaches_in older d.low i || reaches_in older d.high i) ≡ true).
    ⊎_elim (λ (low : reaches_in older d.low i ≡ true). let p = reaches-range n older o.1 d.low i o.0.low_older low in let q = o.0.low_older in let p0 = p.0 in let p1 = p.1 in (omega arith, omega arith))
    (λ (high : reaches_in older d.high i ≡ true). let p = reaches-range n older o.1 d.high i o.0.high_older high in let q = o.0.high_older in let p0 = p.0 in let p1 = p.1 in (omega arith, omega arith)) (or_cases _ _ r))
    (or_cases _ _ (sym (reaches-top d older c i e) ∙ h)))
    (λ (ne : c.index ≡ top older → ⊥).
    let below : c.index < top older = omega arith in
    reaches-range n older o.1 c i below (sym (reaches-below d older c i below) ∙ h))
    (cases_eq c.index (top older))

-- a branch reaches itself
pub reaches-self : (ds : List Decision) (c : Cond) → c.index < top ds → 2 ≤ c.index → reaches_in ds c c.index ≡ true
reaches-self [] c l t = absurd (omega arith)
reaches-self (d ∷ older) c l t =
    ⊎_elim (λ (e : c.index ≡ top older). reaches-top d older c c.index e ∙ or_left (c.index == c.index) _ (eq-eqb c.index c.index refl))
    (λ (ne : c.index ≡ top older → ⊥). let below : c.index < top older = omega arith in reaches-below d older c c.index below ∙ reaches-self older c below t)
    (cases_eq c.index (top older))

-- a node that is a child of a branch
abbrev IsChild : List Decision → Cond → Cond → Type 0
IsChild ds x y = (i : ℕ) × (low : Cond) × (high : Cond) × (node_in ds x ≡ Branch i low high) × ((y ≡ low) ⊎ (y ≡ high))

-- with a branch its children are reached
pub reaches-child : (n : ℕ) (ds : List Decision) → IsOrdered n ds → (c x y : Cond) (i : ℕ) (low high : Cond) → c.index < top ds → reaches_in ds c x.index ≡ true → node_in ds x ≡ Branch i low high → (y ≡ low) ⊎ (y ≡ high) → 2 ≤ y.index → reaches_in ds c y.index ≡ true
reaches-child n [] o c x y i low high l h is child t = absurd (both_ways (reaches_in [] c x.index) (reaches-none c x.index) h)
reaches-child n (d ∷ older) o c x y i low high l h is child t =
    let older_is = λ (below : x.index < top older). sym (node_in-below d older x below) ∙ is in
    ⊎_elim (λ (e : c.index ≡ top older).
    reaches-top d older c y.index e ∙ or_right (y.index == c.index) _
    (⊎_elim (λ (here : (x.index == c.index) ≡ true).
    let x_top : x.index ≡ top older = eqb-true x.index c.index here ∙ e in
    let same : Branch d.variable d.low d.high ≡ Branch i low high = sym (node_in-top d older x x_top) ∙ is in
    let low_same : d.low ≡ low = cc in
    let high_same : d.high ≡ high = cc in
    ⊎_elim (λ (f : y ≡ low). let g : d.low ≡ y = low_same ∙ sym f in let at : d.low.index ≡ y.index = ap (λ (z : Cond). z.index) g in or_left _ _ (ap (λ (k : ℕ). reaches_in older d.low k) (sym at) ∙ reaches-self older d.low o.0.low_older (omega arith)))
    (λ (f : y ≡ high). let g : d.high ≡ y = high_same ∙ sym f in let at : d.high.index ≡ y.index = ap (λ (z : Cond). z.index) g in or_right _ _ (ap (λ (k : ℕ). reaches_in older d.high k) (sym at) ∙ reaches-self older d.high o.0.high_older (omega arith))) child)
    (λ (r : (reaches_in older d.low x.index || reaches_in older d.high x.index) ≡ true).
    ⊎_elim (λ (at_low : reaches_in older d.low x.index ≡ true).
    let p = (reaches-range n older o.1 d.low x.index o.0.low_older at_low).1 in
    let q = o.0.low_older in
    or_left _ _ (reaches-child n older o.1 d.low x y i low high o.0.low_older at_low (older_is (omega arith)) child t))
    (λ (at_high : reaches_in older d.high x.index ≡ true).
    let p = (reaches-range n older o.1 d.high x.index o.0.high_older at_high).1 in
    let q = o.0.high_older in
    or_right _ _ (reaches-child n older o.1 d.high x y i low high o.0.high_older at_high (older_is (omega arith)) child t)) (or_cases _ _ r))
    (or_cases _ _ (sym (reaches-top d older c x.index e) ∙ h))))
    (λ (ne : c.index ≡ top older → ⊥).
    let below : c.index < top older = omega arith in
    let inner : reaches_in older c x.index ≡ true = sym (reaches-below d older c x.index below) ∙ h in
    let p = (reaches-range n older o.1 c x.index below inner).1 in
    reaches-below d older c y.index below ∙ reaches-child n older o.1 c x y i low high below inner (older_is (omega arith)) child t)
    (cases_eq c.index (top older))

-- the branches reached from a condition
abbrev pub reached : List Decision → Cond → List Cond
reached ds c = passing (reaches_in ds c) (range_with_len 2 (length ds))

pub reached-within : (ds : List Decision) (c : Cond) → c.index < top ds → Within (reached ds c) c
reached-within ds c l = λ t. Among-passing (reaches_in ds c) (length ds) 2 c t (omega arith) (reaches-self ds c l t)

pub reached-closed : (n : ℕ) (ds : List Decision) → IsOrdered n ds → (c : Cond) → c.index < top ds → IsClosed ds (reached ds c)
reached-closed n ds o c l =
    record {
      nodes = λ x among. (let p = (reaches-range n ds o c x.index l (passes (reaches_in ds c) _ x among)).1 in omega arith);
      children = λ x i low high among is.
          let h = passes (reaches_in ds c) (range_with_len 2 (length ds)) x among in
          let below = λ (y : Cond) (t : reaches_in ds c y.index ≡ true). (let p = (reaches-range n ds o c y.index l t).1 in let r : y.index < 2 + length ds = omega arith in r) in (
            λ t. let z = reaches-child n ds o c x low i low high l h is (inl refl) t in Among-passing (reaches_in ds c) (length ds) 2 low t (below low z) z,
            λ t. let z = reaches-child n ds o c x high i low high l h is (inr refl) t in Among-passing (reaches_in ds c) (length ds) 2 high t (below high z) z,
          );
    }

-- only branches of the list are reached
reaches-inside : (ds : List Decision) (c : Cond) (i : ℕ) → reaches_in ds c i ≡ true → i < top ds
reaches-inside [] c i h = absurd (both_ways (reaches_in [] c i) (reaches-none c i) h)
reaches-inside (d ∷ older) c i h =
    ⊎_elim (λ (e : c.index ≡ top older).
    ⊎_elim (λ (here : (i == c.index) ≡ true). let same : i ≡ c.index = eqb-true i c.index here in omega arith)
    (λ (r : (reaches_in older d.low i || reaches_in older d.high i) ≡ true).
    ⊎_elim (λ (low : reaches_in older d.low i ≡ true). let p = reaches-inside older d.low i low in omega arith) (λ (high : reaches_in older d.high i ≡ true). let p = reaches-inside older d.high i high in omega arith) (or_cases _ _ r))
    (or_cases _ _ (sym (reaches-top d older c i e) ∙ h)))
    (λ (ne : c.index ≡ top older → ⊥). let p = reaches-inside older c i (sym (reaches-other d older c i ne) ∙ h) in omega arith)
    (cases_eq c.index (top older))

-- newer branches are not reached from an older node
reaches-append : (added ds : List Decision) (c : Cond) (i : ℕ) → c.index < top ds → reaches_in (added ++ ds) c i ≡ reaches_in ds c i
reaches-append [] ds c i l = refl
reaches-append (d ∷ added) ds c i l = reaches-below d (added ++ ds) c i (node_lifts added ds c l) ∙ reaches-append added ds c i l

count-same : (p q : ℕ → Bool) → ((i : ℕ) → p i ≡ q i) → (is : List ℕ) → count_by p is ≡ count_by q is
count-same p q h [] = refl
count-same p q h (i ∷ is) =
    sum_by-cons (λ (x : ℕ). cond (p x) 1 0) i is ∙ ap (λ (b : Bool). cond b 1 0 + count_by p is) (h i) ∙ ap (λ (n : ℕ). cond (q i) 1 0 + n) (count-same p q h is) ∙ sym (sum_by-cons (λ (x : ℕ). cond (q x) 1 0) i is)

count-none : (p : ℕ → Bool) (m a : ℕ) → ((i : ℕ) → a ≤ i → p i ≡ false) → count_by p (range_with_len a m) ≡ 0
count-none p zero a h = refl
count-none p (suc m) a h =
    let first : cond {A = ℕ} (p a) 1 0 ≡ 0 = cond-false (p a) 1 0 (h a (omega arith)) in
    let rest = count-none p m (a + 1) (λ i l. h i (omega arith)) in
    sum_by-cons (λ (x : ℕ). cond (p x) 1 0) a (range_with_len (a + 1) m) ∙ omega arith

-- what lies past the end is not counted
count-past : (p : ℕ → Bool) (n m a : ℕ) → ((i : ℕ) → a + n ≤ i → p i ≡ false) → count_by p (range_with_len a (n + m)) ≡ count_by p (range_with_len a n)
count-past p zero m a h = rw (zero-add m) (count-none p m a (λ i l. h i (omega arith)))
count-past p (suc n) m a h =
    let shift : suc n + m ≡ suc (n + m) = omega arith in
    ap (λ (k : ℕ). count_by p (range_with_len a k)) shift ∙ sum_by-cons (λ (x : ℕ). cond (p x) 1 0) a (range_with_len (a + 1) (n + m))
    ∙ ap (λ (k : ℕ). cond (p a) 1 0 + k) (count-past p n m (a + 1) (λ i l. h i (omega arith))) ∙ sym (sum_by-cons (λ (x : ℕ). cond (p x) 1 0) a (range_with_len (a + 1) n))

-- as many branches are reached as before
pub reached-append : (added ds : List Decision) (c : Cond) → c.index < top ds → count_by (reaches_in (added ++ ds) c) (range_with_len 2 (length (added ++ ds))) ≡ count_by (reaches_in ds c) (range_with_len 2 (length ds))
reached-append added ds c l =
    let len : length (added ++ ds) ≡ length ds + length added = (let e = length-append added ds in omega arith) in
    count-same (reaches_in (added ++ ds) c) (reaches_in ds c) (λ i. reaches-append added ds c i l) (range_with_len 2 (length (added ++ ds)))
    ∙ ap (λ (k : ℕ). count_by (reaches_in ds c) (range_with_len 2 k)) len
    ∙ count-past (reaches_in ds c) (length ds) (length added) 2 (λ i far. ⊎_elim (λ (t : reaches_in ds c i ≡ true). let p = reaches-inside ds c i t in absurd (omega arith)) (λ (f : reaches_in ds c i ≡ false). f) (cases_Bool (reaches_in ds c i)))
