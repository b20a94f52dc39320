-- Refusals are added one after the other.
use Rattle.std.proofs.Common.{◌≡◌, ◌↔◌, ◌⊎◌, ◌<◌, ◌≤◌, ◌+◌, ◌++◌, zero, suc, ℕ, Bool, true, false, cond, List, [], ◌∷◌, length, take, get_or, refl, sym, ◌∙◌, ap, subst, subst₂, inl, inr, arith, add-zero}
use Rattle.std.specs.Prelude.{map, if◌then◌else◌, IfOk, Result, Ok, Err}
use Rattle.std.proofs.lemmas.List.{take_all, take_more}
use Rattle.hv_base.specs.declared.memory.Memory.{Memory}
use Rattle.hv_base.specs.declared.place.Place.{Place}
use Rattle.hv_base.specs.declared.why.Why.{Why}
use Rattle.hv_cond.specs.Diagram.{AllNodes, Diagram, IsNode, Keeps, holds}
use Rattle.hv_cond.specs.Laws.{AllNodes-append, count_satisfied-append}
use Rattle.hv_cond.specs.Parts.{count_satisfied}
use Rattle.hv_cond.specs.declared.conditions.Cond.{Cond}
use Rattle.hv_given.specs.Refusals.{CountsMore, IsRefusedAt, Refuses, RefusesMore}
use Rattle.hv_preproc.proofs.Divisions.{count-cons, one_if}
use Rattle.hv_preproc.specs.working.Wholes.{CountsBoth, RefusesBoth}
use Rattle.hv_toks.specs.Division.{conditions}
use Rattle.hv_toks.specs.declared.parted.Failing.{Failing}

------ one more entry at the end

refused_last : (d : Diagram) (xs : List Failing) (f : Failing) (values : List Bool) (place : Place)
    (why : Why) → IsRefusedAt d (xs ++ f ∷ []) values place why
    → IsRefusedAt d xs values place why ⊎ Refuses d f values place why
refused_last d [] f values place why (inl r) = inr r
refused_last d [] f values place why (inr r) = absurd r
refused_last d (x ∷ xs) f values place why (inl r) = inl (inl r)
refused_last d (x ∷ xs) f values place why (inr r) =
    cases (refused_last d xs f values place why r)
  where
    cases : IsRefusedAt d xs values place why ⊎ Refuses d f values place why
        → IsRefusedAt d (x ∷ xs) values place why ⊎ Refuses d f values place why
    cases (inl s) = inl (inr s)
    cases (inr s) = inr s

refused_before : (d : Diagram) (xs : List Failing) (f : Failing) (values : List Bool)
    (place : Place) (why : Why) → IsRefusedAt d xs values place why
    → IsRefusedAt d (xs ++ f ∷ []) values place why
refused_before d [] f values place why r = absurd r
refused_before d (x ∷ xs) f values place why (inl r) = inl r
refused_before d (x ∷ xs) f values place why (inr r) =
    inr (refused_before d xs f values place why r)

refused_at_last : (d : Diagram) (xs : List Failing) (f : Failing) (values : List Bool)
    (place : Place) (why : Why) → Refuses d f values place why
    → IsRefusedAt d (xs ++ f ∷ []) values place why
refused_at_last d [] f values place why r = inl r
refused_at_last d (x ∷ xs) f values place why r =
    inr (refused_at_last d xs f values place why r)

conditions-append : (xs ys : List Failing)
    → conditions (xs ++ ys) ≡ conditions xs ++ conditions ys
conditions-append [] ys = refl
conditions-append (x ∷ xs) ys = ap (λ (cs : List Cond). x.cond ∷ cs) (conditions-append xs ys)

count_last : (d : Diagram) (xs : List Failing) (f : Failing) (values : List Bool)
    → count_satisfied d (conditions (xs ++ f ∷ [])) values
    ≡ count_satisfied d (conditions xs) values + one_if (holds d f.cond values)
count_last d xs f values =
    ap (λ (cs : List Cond). count_satisfied d cs values) (conditions-append xs (f ∷ []))
    ∙ (count_satisfied-append d (conditions xs) (f.cond ∷ []) values
    ∙ ap (λ (n : ℕ). count_satisfied d (conditions xs) values + n)
    (count-cons d f.cond [] values ∙ add-zero (one_if (holds d f.cond values))))

------ one step

module _ (old mid new : Diagram) (keeps : Keeps old mid) (before done now after : List Failing)
    (f : Failing) (node : IsNode old f.cond) where
  refuses_last : RefusesBoth old mid before done now
      → RefusesMore mid new now after f.place f.why f.cond
      → RefusesBoth old new before (done ++ f ∷ []) after
  refuses_last both more = λ values place why. (
    λ r. first values place why ((more values place why).0 r),
    λ r. (more values place why).1 (back values place why r),
  )
    where
      old_step : (values : List Bool) (place : Place) (why : Why)
          → IsRefusedAt old before values place why ⊎ IsRefusedAt old done values place why
          → IsRefusedAt old before values place why
          ⊎ IsRefusedAt old (done ++ f ∷ []) values place why
      old_step values place why (inl r) = inl r
      old_step values place why (inr r) = inr (refused_before old done f values place why r)

      first : (values : List Bool) (place : Place) (why : Why)
          → IsRefusedAt mid now values place why
          ⊎ ((f.place ≡ place) × (f.why ≡ why) × (holds mid f.cond values ≡ true))
          → IsRefusedAt old before values place why
          ⊎ IsRefusedAt old (done ++ f ∷ []) values place why
      first values place why (inl r) = old_step values place why ((both values place why).0 r)
      first values place why (inr r) =
          inr (refused_at_last old done f values place why (record {
            same_place = r.0;
            same_cause = r.1;
            here = sym (keeps.meaning f.cond node values) ∙ r.2;
          }))

      last : (values : List Bool) (place : Place) (why : Why)
          → IsRefusedAt old done values place why ⊎ Refuses old f values place why
          → IsRefusedAt mid now values place why
          ⊎ ((f.place ≡ place) × (f.why ≡ why) × (holds mid f.cond values ≡ true))
      last values place why (inl r) = inl ((both values place why).1 (inr r))
      last values place why (inr r) =
          inr (r.same_place, r.same_cause, keeps.meaning f.cond node values ∙ r.here)

      back : (values : List Bool) (place : Place) (why : Why)
          → IsRefusedAt old before values place why
          ⊎ IsRefusedAt old (done ++ f ∷ []) values place why
          → IsRefusedAt mid now values place why
          ⊎ ((f.place ≡ place) × (f.why ≡ why) × (holds mid f.cond values ≡ true))
      back values place why (inl r) = inl ((both values place why).1 (inl r))
      back values place why (inr r) = last values place why (refused_last old done f values place why r)

  counts_last : CountsBoth old mid before done now → CountsMore mid new now after f.cond
      → CountsBoth old new before (done ++ f ∷ []) after
  counts_last both more = λ values most.
      let more_one : count_satisfied old (conditions (done ++ f ∷ [])) values
      ≡ count_satisfied old (conditions done) values + one_if (holds old f.cond values) =
      count_last old done f values in
      let so_far : count_satisfied mid (conditions now) values
      ≡ count_satisfied old (conditions before) values
      + count_satisfied old (conditions done) values =
      both values (omega (arith, more_one, most)) in
      let same : one_if (holds mid f.cond values) ≡ one_if (holds old f.cond values) =
      ap one_if (keeps.meaning f.cond node values) in
      let all : count_satisfied new (conditions after) values
      ≡ count_satisfied mid (conditions now) values + one_if (holds mid f.cond values) =
      more values (λ h.
      let one : one_if (holds mid f.cond values) ≡ 1 = ap one_if h in
      omega (arith, one, same, more_one, most, so_far)) in
      omega (arith, all, same, more_one, so_far)

------ a list of entries

node_at : (d : Diagram) (xs : List Failing) (i : ℕ) (f : Failing) → AllNodes d (conditions xs)
    → i < length xs → IsNode d (get_or xs i f).cond
node_at d [] i f nodes l = absurd (omega arith)
node_at d (x ∷ xs) zero f nodes l = nodes.0
node_at d (x ∷ xs) (suc i) f nodes l = node_at d xs i f nodes.1 (omega (arith, l))

module _ (old : Diagram) (failing : List Failing) (nodes : AllNodes old (conditions failing))
    (i : ℕ) (f : Failing) (within : i < length failing) (is : f ≡ get_or failing i f) where
  pub entry_node : IsNode old f.cond
  entry_node = subst (λ (x : Failing). IsNode old x.cond) (sym is) (node_at old failing i f nodes within)

  taken : take (i + 1) failing ≡ take i failing ++ f ∷ []
  taken = take_more failing i f within
      ∙ ap (λ (x : Failing). take i failing ++ x ∷ []) (sym is)

  pub refuses_next : (mid new : Diagram) → Keeps old mid → (before now after : List Failing)
      → RefusesBoth old mid before (take i failing) now
      → RefusesMore mid new now after f.place f.why f.cond
      → RefusesBoth old new before (take (i + 1) failing) after
  refuses_next mid new keeps before now after both more =
      subst (λ (done : List Failing). RefusesBoth old new before done after) (sym taken)
      (refuses_last old mid new keeps before (take i failing) now after f entry_node both more)

  pub counts_next : (mid new : Diagram) → Keeps old mid → (before now after : List Failing)
      → CountsBoth old mid before (take i failing) now → CountsMore mid new now after f.cond
      → CountsBoth old new before (take (i + 1) failing) after
  counts_next mid new keeps before now after both more =
      subst (λ (done : List Failing). CountsBoth old new before done after) (sym taken)
      (counts_last old mid new keeps before (take i failing) now after f entry_node both more)

-- before any is added
pub refuses_none : (d : Diagram) (before : List Failing) → RefusesBoth d d before [] before
refuses_none d before = λ values place why. (λ r. inl r, λ r. only values place why r)
  where
    only : (values : List Bool) (place : Place) (why : Why)
        → IsRefusedAt d before values place why ⊎ IsRefusedAt d [] values place why
        → IsRefusedAt d before values place why
    only values place why (inl r) = r
    only values place why (inr r) = absurd r

pub counts_none : (d : Diagram) (before : List Failing) → CountsBoth d d before [] before
counts_none d before = λ values most. sym (add-zero (count_satisfied d (conditions before) values))

-- after all
pub counts_all : (old new : Diagram) (before failing now : List Failing) (i : ℕ)
    (r : Result (List Failing) Memory) → length failing ≤ i
    → IfOk r (λ (all : List Failing). all ≡ now) → CountsBoth old new before (take i failing) now
    → IfOk r (λ (all : List Failing). CountsBoth old new before failing all)
counts_all old new before failing now i (Ok all) l e counts =
    subst₂ (λ (xs ys : List Failing). CountsBoth old new before xs ys) (take_all i failing l) (sym e)
    counts
counts_all old new before failing now i (Err fault) l e counts = tt
