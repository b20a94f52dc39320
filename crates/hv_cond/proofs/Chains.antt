-- Lemmas on the buckets in which branches are found.
use Rattle.std.proofs.Common.{◌≡◌, ◌+◌, ◌-◌, ◌<◌, ◌≤◌, ℕ, true, false, List, [], ◌∷◌, ◌++◌, length, length-append, get_or, reverse, set, Some, None, refl, sym, ap, ◌∙◌, inl, inr, ⊎_elim, ◌⊎◌, arith, eq-eqb}
use Rattle.std.proofs.lemmas.Bool.{cases_Bool, cases_eq, cond-true, cond-false, ne_eqb}
use Rattle.std.proofs.lemmas.List.{append_assoc, get_or-set_other, get_or-set_same, get_or_append_left, length-reverse, length-set}
use Rattle.std.proofs.lemmas.Grind.{get_or_default_zero}
use Rattle.std.proofs.Math.Seq.{get_or-append_seam}
use Rattle.hv_cond.specs.declared.nodes.Decision.{Decision}
use Rattle.hv_cond.specs.declared.places.Places.{Places}
use Rattle.hv_cond.specs.Diagram.{top}
use Rattle.hv_cond.specs.working.Nodes.{place_of, same_decision}
use Rattle.hv_cond.specs.working.Places.{bucket, buckets, newest_in, IsPlaced}
use Rattle.hv_cond.proofs.Branches.{Cond-same, same_decision-from}
use Rattle.hv_cond.proofs.Tables.{at_index}

newest_in-here : (n b : ℕ) (d : Decision) (older : List Decision) → bucket n d ≡ b → newest_in n b (d ∷ older) ≡ top older
unfolding newest_in
newest_in-here n b d older e = cond-true _ _ _ (eq-eqb _ _ e)

newest_in-older : (n b : ℕ) (d : Decision) (older : List Decision) → (bucket n d ≡ b → ⊥) → newest_in n b (d ∷ older) ≡ newest_in n b older
unfolding newest_in
newest_in-older n b d older e = cond-false _ _ _ (ne_eqb (bucket n d) b e)

-- a branch of another bucket is another one
place_of-other : (n : ℕ) (x d : Decision) (older : List Decision) → (bucket n x ≡ bucket n d → ⊥) → place_of (x ∷ older) d ≡ place_of older d
unfolding place_of
place_of-other n x d older other = ⊎_elim
    (λ (s : same_decision x d ≡ true). absurd (other (ap (bucket n) (same_decision-from x d s))))
    (λ (f : same_decision x d ≡ false). cond-false (same_decision x d) (Some (record { index = top older })) (place_of older d) f)
    (cases_Bool (same_decision x d))

-- where the search for a branch has come to: to the end in vain, or to a branch of its bucket, from
-- which on it has to be found
pub record IsOn (n : ℕ) (ds : List Decision) (d : Decision) (index : ℕ) : Type 0 where
  pub newer : List Decision
  pub older : List Decision
  pub here : Decision
  pub split : ds ≡ newer ++ here ∷ older
  pub index_is : index ≡ top older
  pub same_bucket : bucket n here ≡ bucket n d
  pub left : place_of ds d ≡ place_of (here ∷ older) d

abbrev pub IsSearching : ℕ → List Decision → Decision → ℕ → Type 0
IsSearching n ds d index = ((index ≡ 0) × (place_of ds d ≡ None)) ⊎ IsOn n ds d index

-- the search begins with the newest branch of the bucket
pub searching : (n : ℕ) (ds : List Decision) (d : Decision) → IsSearching n ds d (newest_in n (bucket n d) ds)
unfolding newest_in place_of
searching n [] d = inl (refl, refl)
searching n (x ∷ xs) d = ⊎_elim
    (λ (e : bucket n x ≡ bucket n d). inr (record {
      newer = [];
      older = xs;
      here = x;
      split = refl;
      index_is = newest_in-here n (bucket n d) x xs e;
      same_bucket = e;
      left = refl;
    }))
    (λ (ne : bucket n x ≡ bucket n d → ⊥).
    let same = newest_in-older n (bucket n d) x xs ne in
    let place = place_of-other n x d xs ne in
    ⊎_elim
    (λ (end : (newest_in n (bucket n d) xs ≡ 0) × (place_of xs d ≡ None)). inl (same ∙ end.0, place ∙ end.1))
    (λ (on : IsOn n xs d (newest_in n (bucket n d) xs)). inr (record {
      newer = x ∷ on.newer;
      older = on.older;
      here = on.here;
      split = ap (λ (ys : List Decision). x ∷ ys) on.split;
      index_is = same ∙ on.index_is;
      same_bucket = on.same_bucket;
      left = place ∙ on.left;
    }))
    (searching n xs d))
    (cases_eq (bucket n x) (bucket n d))

-- and goes on with the next older one
pub searching-on : (n : ℕ) (ds : List Decision) (d : Decision) (index next : ℕ) → (on : IsOn n ds d index)
    → same_decision on.here d ≡ false → next ≡ newest_in n (bucket n on.here) on.older → IsSearching n ds d next
unfolding place_of
searching-on n ds d index next on other is =
    let left : place_of ds d ≡ place_of on.older d = on.left ∙ cond-false (same_decision on.here d) (Some (record { index = top on.older })) (place_of on.older d) other in
    let is_next : next ≡ newest_in n (bucket n d) on.older = is ∙ ap (λ (b : ℕ). newest_in n b on.older) on.same_bucket in
    ⊎_elim
    (λ (end : (newest_in n (bucket n d) on.older ≡ 0) × (place_of on.older d ≡ None)). inl (is_next ∙ end.0, left ∙ end.1))
    (λ (then : IsOn n on.older d (newest_in n (bucket n d) on.older)). inr (record {
      newer = on.newer ++ on.here ∷ then.newer;
      older = then.older;
      here = then.here;
      split = on.split ∙ ap (λ (ys : List Decision). on.newer ++ on.here ∷ ys) then.split ∙ sym (append_assoc on.newer (on.here ∷ then.newer) (then.here ∷ then.older));
      index_is = is_next ∙ then.index_is;
      same_bucket = then.same_bucket;
      left = left ∙ then.left;
    }))
    (searching n on.older d)

-- it has found the branch
pub searching-found : (n : ℕ) (ds : List Decision) (d : Decision) (index : ℕ) → (on : IsOn n ds d index)
    → same_decision on.here d ≡ true → place_of ds d ≡ Some (record { index = index })
unfolding place_of
searching-found n ds d index on same =
    on.left ∙ cond-true (same_decision on.here d) (Some (record { index = top on.older })) (place_of on.older d) same
    ∙ ap Some (Cond-same (record { index = top on.older }) (record { index = index }) (sym on.index_is))

-- one more branch is entered
pub IsPlaced-enter : (old new : Places) (d : Decision) (ds : List Decision) (index : ℕ)
    → IsPlaced old ds → length ds < buckets old → index ≡ top ds
    → new.heads.items ≡ set old.heads.items (bucket (buckets old) d) index → bucket (buckets old) d < buckets old
    → new.before.items ≡ old.before.items ++ get_or old.heads.items (bucket (buckets old) d) 0 ∷ []
    → IsPlaced new (d ∷ ds)
IsPlaced-enter old new d ds index p room is heads below before =
    let n = buckets old in
    let b = bucket n d in
    let same : buckets new ≡ n = ap length heads ∙ length-set old.heads.items b index in
    let all = p.all in
    record {
      room = omega arith;
      all = ap length before ∙ length_one old.before.items (get_or old.heads.items b 0) ∙ ap (λ (k : ℕ). k + 1) p.all ∙ omega arith;
      heads = λ c l.
          ap (λ (xs : List ℕ). get_or xs c 0) heads
          ∙ ⊎_elim
          (λ (e : b ≡ c). ap (λ (k : ℕ). get_or (set old.heads.items b index) k 0) (sym e) ∙ get_or-set_same old.heads.items b index 0 below ∙ is
          ∙ sym (newest_in-here n c d ds e) ∙ ap (λ (k : ℕ). newest_in k c (d ∷ ds)) (sym same))
          (λ (ne : b ≡ c → ⊥). get_or-set_other old.heads.items b c index 0 (λ (e : c ≡ b). ne (sym e)) ∙ p.heads c (omega arith)
          ∙ sym (newest_in-older n c d ds ne) ∙ ap (λ (k : ℕ). newest_in k c (d ∷ ds)) (sym same))
          (cases_eq b c);
      chains = λ newer older e split.
          ap (λ (xs : List ℕ). get_or xs (length older) 0) before
          ∙ chain newer older e split
          ∙ ap (λ (k : ℕ). newest_in k (bucket k e) older) (sym same);
    }
  where
    length_one : (xs : List ℕ) (x : ℕ) → length (xs ++ x ∷ []) ≡ length xs + 1
    length_one [] x = refl
    length_one (y ∷ ys) x = omega (arith, length_one ys x)

    chain : (newer older : List Decision) (e : Decision) → d ∷ ds ≡ newer ++ e ∷ older
        → get_or (old.before.items ++ get_or old.heads.items (bucket (buckets old) d) 0 ∷ []) (length older) 0 ≡ newest_in (buckets old) (bucket (buckets old) e) older
    chain [] older e split =
        let parts_d : d ≡ e = cc in
        let parts_ds : ds ≡ older = cc in
        ap (λ (xs : List Decision). get_or (old.before.items ++ get_or old.heads.items (bucket (buckets old) d) 0 ∷ []) (length xs) 0) (sym parts_ds)
        ∙ ap (λ (k : ℕ). get_or (old.before.items ++ get_or old.heads.items (bucket (buckets old) d) 0 ∷ []) k 0) (sym p.all)
        ∙ get_or-append_seam old.before.items (get_or old.heads.items (bucket (buckets old) d) 0) [] 0
        ∙ p.heads (bucket (buckets old) d) below
        ∙ ap (λ (x : Decision). newest_in (buckets old) (bucket (buckets old) x) ds) parts_d
        ∙ ap (λ (xs : List Decision). newest_in (buckets old) (bucket (buckets old) e) xs) parts_ds
    chain (x ∷ newer) older e split =
        let rest : ds ≡ newer ++ e ∷ older = cc in
        let len : length ds ≡ length newer + (length older + 1) = ap length rest ∙ length-append newer (e ∷ older) ∙ omega arith in
        let all = p.all in
        get_or_append_left old.before.items (get_or old.heads.items (bucket (buckets old) d) 0 ∷ []) 0 (length older) (omega arith)
        ∙ p.chains newer older e rest

-- the buckets of no branch
pub IsPlaced-none : (places : Places) → length places.before.items ≡ 0 → ((b : ℕ) → b < buckets places → get_or places.heads.items b 0 ≡ 0) → IsPlaced places []
unfolding newest_in
IsPlaced-none places none heads =
    record {
      room = omega arith;
      all = none;
      heads = heads;
      chains = λ newer older e split. absurd (no_split newer older e split);
    }
  where
    no_split : (newer older : List Decision) (e : Decision) → [] ≡ newer ++ e ∷ older → ⊥
    no_split [] older e split = cc
    no_split (x ∷ newer) older e split = cc

-- the buckets are the same
pub IsPlaced-same : (old new : Places) (ds : List Decision) → new.heads.items ≡ old.heads.items → new.before.items ≡ old.before.items → IsPlaced old ds → IsPlaced new ds
IsPlaced-same old new ds heads before p =
    record {
      room = rw heads p.room;
      all = rw before p.all;
      heads = rw heads p.heads;
      chains = rw (heads, before) p.chains;
    }

-- the first branch looked at
pub newest_is : (places : Places) (ds : List Decision) (d : Decision) → IsPlaced places ds → bucket (buckets places) d < buckets places
    → get_or places.heads.items (bucket (buckets places) d) 0 ≡ newest_in (buckets places) (bucket (buckets places) d) ds
newest_is places ds d p below = p.heads (bucket (buckets places) d) below

pub newest_of_none : (places : Places) (ds : List Decision) (b : ℕ) → IsPlaced places ds → buckets places ≡ 0 → newest_in (buckets places) b ds ≡ 0
unfolding newest_in
newest_of_none places [] b p none = refl
newest_of_none places (d ∷ ds) b p none = absurd (let room = p.room in omega arith)

------ what a step of the search reads

-- a branch is looked at, unless the search has come to the end
pub is_on : (n : ℕ) (ds : List Decision) (d : Decision) (index : ℕ) → IsSearching n ds d index → 0 < index → IsOn n ds d index
is_on n ds d index at some = ⊎_elim (λ (end : (index ≡ 0) × (place_of ds d ≡ None)). absurd (let e = end.0 in omega arith)) (λ (on : IsOn n ds d index). on) at

-- and at the end the branch is in no place
pub at_end : (n : ℕ) (ds : List Decision) (d : Decision) (index : ℕ) → IsSearching n ds d index → index ≡ 0 → None ≡ place_of ds d
at_end n ds d index at end = ⊎_elim (λ (e : (index ≡ 0) × (place_of ds d ≡ None)). sym e.1) (λ (on : IsOn n ds d index). absurd (let i = on.index_is in omega arith)) at

newest_in-below : (n b : ℕ) (ds : List Decision) → newest_in n b ds < top ds
unfolding newest_in
newest_in-below n b [] = omega arith
newest_in-below n b (d ∷ older) = ⊎_elim
    (λ (e : bucket n d ≡ b). let at = newest_in-here n b d older e in omega arith)
    (λ (ne : bucket n d ≡ b → ⊥). let at = newest_in-older n b d older ne in let below = newest_in-below n b older in omega arith)
    (cases_eq (bucket n d) b)

-- what is read is the next older branch of the bucket
pub next_is : (places : Places) (ds : List Decision) (d : Decision) (index next : ℕ) → IsPlaced places ds → (on : IsOn (buckets places) ds d index)
    → next ≡ get_or places.before.items (index - 2) next → next ≡ newest_in (buckets places) (bucket (buckets places) on.here) on.older
next_is places ds d index next p on read =
    let at = on.index_is in
    let all = p.all in
    let len : length ds ≡ length on.newer + (length on.older + 1) = ap length on.split ∙ length-append on.newer (on.here ∷ on.older) ∙ omega arith in
    let place : index - 2 ≡ length on.older = omega arith in
    read ∙ get_or_default_zero places.before.items (index - 2) next (omega arith)
    ∙ ap (λ (i : ℕ). get_or places.before.items i 0) place
    ∙ p.chains on.newer on.older on.here on.split

pub next_smaller : (places : Places) (ds : List Decision) (d : Decision) (index next : ℕ) → IsPlaced places ds → IsOn (buckets places) ds d index
    → next ≡ get_or places.before.items (index - 2) next → next < index
next_smaller places ds d index next p on read =
    let is = next_is places ds d index next p on read in
    let below = newest_in-below (buckets places) (bucket (buckets places) on.here) on.older in
    let at = on.index_is in
    omega arith

-- the branch that is looked at
pub here_is : (xs : List Decision) (n : ℕ) (d : Decision) (index : ℕ) (x : Decision) → (on : IsOn n (reverse xs) d index)
    → x ≡ get_or xs (index - 2) x → x ≡ on.here
here_is xs n d index x on read =
    let at = on.index_is in
    let place : index - 2 ≡ length on.older = omega arith in
    at_index xs on.newer on.older on.here x on.split (read ∙ ap (λ (i : ℕ). get_or xs i x) place)

pub here_within : (xs : List Decision) (n : ℕ) (d : Decision) (index : ℕ) → IsOn n (reverse xs) d index → (2 ≤ index) × (index < length xs + 2)
here_within xs n d index on =
    let at = on.index_is in
    let all = length-reverse xs in
    let len : length (reverse xs) ≡ length on.newer + (length on.older + 1) = ap length on.split ∙ length-append on.newer (on.here ∷ on.older) ∙ omega arith in
    (omega arith, omega arith)
