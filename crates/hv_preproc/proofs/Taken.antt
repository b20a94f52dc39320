-- What is refused by one entry after another.
use Rattle.std.proofs.Common.{◌≡◌, ◌<◌, ◌≤◌, ◌+◌, ◌⊎◌, ◌||◌, Bool, true, false, cond, ℕ, List, [], ◌∷◌, ◌++◌, length, get_or, take, refl, sym, ap, ap₂, inl, inr, ◌∙◌, arith, subst, take_all, add-zero, zero, suc, true≢false}
use Rattle.std.proofs.lemmas.List.{map-append, take_more}
use Rattle.std.proofs.lemmas.List.Sums.{sum_by-cons}
use Rattle.hv_base.specs.declared.place.Place.{Place}
use Rattle.hv_base.specs.declared.why.Why.{Why}
use Rattle.hv_cond.specs.Diagram.{AllNodes, Diagram, IsNode, Keeps, holds}
use Rattle.hv_cond.specs.Laws.{Keeps-refl, Keeps-trans, count_satisfied-append, count_satisfied-kept}
use Rattle.hv_cond.specs.Parts.{count_satisfied}
use Rattle.hv_cond.specs.declared.conditions.Cond.{Cond}
use Rattle.hv_given.specs.Laws.{IsRefusedAt-before, IsRefusedAt-kept}
use Rattle.hv_given.specs.Refusals.{AreRefusals, CountsMore, IsRefusedAt, Refuses, RefusesMore}
use Rattle.hv_preproc.specs.working.Taking.{RefusesAll, any_holds}
use Rattle.hv_toks.specs.Division.{conditions}
use Rattle.hv_toks.specs.declared.parted.Failing.{Failing}

-- the condition of an entry that was read
pub entry_node : (d : Diagram) (failing : List Failing) (i : ℕ) (f : Failing)
    → AllNodes d (conditions failing) → i < length failing → f ≡ get_or failing i f
    → IsNode d f.cond
entry_node d failing i f nodes l is =
    subst (λ (g : Failing). IsNode d g.cond) (sym is) (at failing i nodes l)
  where
    at : (failing : List Failing) (i : ℕ) → AllNodes d (conditions failing) → i < length failing
        → IsNode d (get_or failing i f).cond
    at [] i nodes l = absurd (omega (arith, l))
    at (g ∷ failing) zero nodes l = nodes.0
    at (g ∷ failing) (suc i) nodes l = at failing i nodes.1 (omega (arith, l))

-- the entries up to one that was read, and this one
one_more : (failing : List Failing) (i : ℕ) (f : Failing) → i < length failing
    → f ≡ get_or failing i f → take (i + 1) failing ≡ take i failing ++ f ∷ []
one_more failing i f l is = take_more failing i f l
    ∙ ap (λ (g : Failing). take i failing ++ g ∷ []) (sym is)

------ where some entry holds

any_holds-push : (d : Diagram) (failing : List Failing) (f : Failing) (values : List Bool)
    → any_holds d (failing ++ f ∷ []) values ≡ (any_holds d failing values || holds d f.cond values)
any_holds-push d [] f values = or_false (holds d f.cond values)
  where
    or_false : (b : Bool) → (b || false) ≡ b
    or_false true = refl
    or_false false = refl
any_holds-push d (g ∷ failing) f values =
    ap (λ (b : Bool). holds d g.cond values || b) (any_holds-push d failing f values)
    ∙ or_assoc (holds d g.cond values) (any_holds d failing values) (holds d f.cond values)
  where
    or_assoc : (a b c : Bool) → (a || (b || c)) ≡ ((a || b) || c)
    or_assoc true b c = refl
    or_assoc false b c = refl

-- a condition holds exactly where some of the first entries does
pub record IsAnyOf (old now : Diagram) (failing : List Failing) (i : ℕ) (c : Cond) : Type 0 where
  pub keeps : Keeps old now
  pub node : IsNode now c
  pub meaning : (values : List Bool)
      → holds now c values ≡ any_holds old (take i failing) values

pub any_start : (store : Diagram) (failing : List Failing) (c : Cond) → IsNode store c
    → ((values : List Bool) → holds store c values ≡ false) → IsAnyOf store store failing 0 c
any_start store failing c node never =
    record { keeps = Keeps-refl store; node = node; meaning = never }

pub any_more : (old mid now : Diagram) (failing : List Failing) (i : ℕ) (f : Failing) (c both : Cond)
    → IsAnyOf old mid failing i c → AllNodes old (conditions failing) → i < length failing
    → f ≡ get_or failing i f → Keeps mid now → IsNode now both
    → ((values : List Bool)
    → holds now both values ≡ (holds mid c values || holds mid f.cond values))
    → IsAnyOf old now failing (i + 1) both
any_more old mid now failing i f c both any nodes l is grows node means = record {
  keeps = Keeps-trans any.keeps grows;
  node = node;
  meaning = λ values. means values
      ∙ ap₂ (λ (a b : Bool). a || b) (any.meaning values)
      (any.keeps.meaning f.cond (entry_node old failing i f nodes l is) values)
      ∙ sym (any_holds-push old (take i failing) f values)
      ∙ ap (λ (fs : List Failing). any_holds old fs values) (sym (one_more failing i f l is));
}

pub any_end : (old now : Diagram) (failing : List Failing) (i : ℕ) (c : Cond)
    → IsAnyOf old now failing i c → length failing ≤ i
    → (values : List Bool) → holds now c values ≡ any_holds old failing values
any_end old now failing i c any l values = any.meaning values
    ∙ ap (λ (fs : List Failing). any_holds old fs values) (take_all i failing l)

------ refusals

refused_first : (d : Diagram) (xs ys : List Failing) (values : List Bool) (place : Place) (why : Why)
    → IsRefusedAt d xs values place why → IsRefusedAt d (xs ++ ys) values place why
refused_first d [] ys values place why r = absurd r
refused_first d (x ∷ xs) ys values place why (inl r) = inl r
refused_first d (x ∷ xs) ys values place why (inr r) =
    inr (refused_first d xs ys values place why r)

refused_last : (d : Diagram) (xs : List Failing) (f : Failing) (values : List Bool) (place : Place)
    (why : Why) → Refuses d f values place why
    → IsRefusedAt d (xs ++ f ∷ []) values place why
refused_last d [] f values place why r = inl r
refused_last d (x ∷ xs) f values place why r = inr (refused_last d xs f values place why r)

refused_cases : (d : Diagram) (xs : List Failing) (f : Failing) (values : List Bool) (place : Place)
    (why : Why) → IsRefusedAt d (xs ++ f ∷ []) values place why
    → IsRefusedAt d xs values place why ⊎ Refuses d f values place why
refused_cases d [] f values place why (inl r) = inr r
refused_cases d [] f values place why (inr r) = absurd r
refused_cases d (x ∷ xs) f values place why (inl r) = inl (inl r)
refused_cases d (x ∷ xs) f values place why (inr r) =
    behind (refused_cases d xs f values place why r)
  where
    behind : IsRefusedAt d xs values place why ⊎ Refuses d f values place why
        → IsRefusedAt d (x ∷ xs) values place why ⊎ Refuses d f values place why
    behind (inl s) = inl (inr s)
    behind (inr s) = inr s

-- the configurations of the first entries are refused
pub record IsRefusing (old now : Diagram) (before present failing : List Failing) (i : ℕ)
    : Type 0 where
  pub keeps : Keeps old now
  pub entries : AreRefusals now present
  pub all : RefusesAll old now before present (take i failing)

pub refusing_start : (store : Diagram) (before failing : List Failing) → AreRefusals store before
    → IsRefusing store store before before failing 0
refusing_start store before failing entries = record {
  keeps = Keeps-refl store;
  entries = entries;
  all = record {
    refused = λ values place why. (λ r. inl r, none values place why);
    counted = λ values most. sym (add-zero (count_satisfied store (conditions before) values));
  };
}
  where
    none : (values : List Bool) (place : Place) (why : Why)
        → IsRefusedAt store before values place why ⊎ ⊥
        → IsRefusedAt store before values place why
    none values place why (inl r) = r
    none values place why (inr r) = absurd r

count_push : (d : Diagram) (failing : List Failing) (f : Failing) (values : List Bool)
    → count_satisfied d (conditions (failing ++ f ∷ [])) values
    ≡ count_satisfied d (conditions failing) values + cond (holds d f.cond values) 1 0
count_push d failing f values =
    ap (λ (cs : List Cond). count_satisfied d cs values)
    (map-append (λ (g : Failing). g.cond) failing (f ∷ []))
    ∙ count_satisfied-append d (conditions failing) (f.cond ∷ []) values
    ∙ ap (λ (n : ℕ). count_satisfied d (conditions failing) values + n)
    (sum_by-cons (λ (c : Cond). cond (holds d c values) 1 0) f.cond []
    ∙ add-zero (cond (holds d f.cond values) 1 0))

-- counting goes on with one more entry
counts_on : (h k : Bool) (before first between after all : ℕ) → h ≡ k
    → (before + first ≤ 1 → between ≡ before + first)
    → ((h ≡ true → between ≡ 0) → after ≡ between + cond h 1 0)
    → all ≡ first + cond k 1 0 → before + all ≤ 1 → after ≡ before + all
counts_on true true before first between after all same counted more is most =
    let was = counted (omega (arith, is, most)) in
    let none : between ≡ 0 = omega (arith, was, is, most) in
    let now = more (λ e. none) in
    omega (arith, was, now, is)
counts_on true false before first between after all same counted more is most =
    absurd (true≢false same)
counts_on false true before first between after all same counted more is most =
    absurd (true≢false (sym same))
counts_on false false before first between after all same counted more is most =
    let was = counted (omega (arith, is, most)) in
    let now = more (λ e. absurd (true≢false (sym e))) in
    omega (arith, was, now, is)

pub refusing_more : (old mid now : Diagram) (before between after failing : List Failing) (i : ℕ)
    (f : Failing) → IsRefusing old mid before between failing i
    → AllNodes old (conditions failing) → i < length failing → f ≡ get_or failing i f
    → Keeps mid now → AreRefusals now after
    → RefusesMore mid now between after f.place f.why f.cond
    → CountsMore mid now between after f.cond
    → IsRefusing old now before after failing (i + 1)
refusing_more old mid now before between after failing i f r nodes l is grows entries more counts =
    record {
      keeps = Keeps-trans r.keeps grows;
      entries = entries;
      all = subst (λ (fs : List Failing). RefusesAll old now before after fs)
          (sym (one_more failing i f l is)) (record {
            refused = λ values place why. (to values place why, from values place why);
            counted = λ values most. counts_on (holds mid f.cond values) (holds old f.cond values)
                (count_satisfied old (conditions before) values)
                (count_satisfied old (conditions (take i failing)) values)
                (count_satisfied mid (conditions between) values)
                (count_satisfied now (conditions after) values)
                (count_satisfied old (conditions (take i failing ++ f ∷ [])) values)
                (r.keeps.meaning f.cond (entry_node old failing i f nodes l is) values)
                (r.all.counted values) (counts values)
                (count_push old (take i failing) f values) most;
          });
    }
  where
    before_it : (values : List Bool) (place : Place) (why : Why)
        → IsRefusedAt old before values place why ⊎ IsRefusedAt old (take i failing) values place why
        → IsRefusedAt old before values place why
        ⊎ IsRefusedAt old (take i failing ++ f ∷ []) values place why
    before_it values place why (inl s) = inl s
    before_it values place why (inr s) =
        inr (refused_first old (take i failing) (f ∷ []) values place why s)

    split : (values : List Bool) (place : Place) (why : Why)
        → IsRefusedAt mid between values place why
        ⊎ ((f.place ≡ place) × (f.why ≡ why) × (holds mid f.cond values ≡ true))
        → IsRefusedAt old before values place why
        ⊎ IsRefusedAt old (take i failing ++ f ∷ []) values place why
    split values place why (inl s) = before_it values place why ((r.all.refused values place why).0 s)
    split values place why (inr s) =
        inr (refused_last old (take i failing) f values place why (record {
          same_place = s.0;
          same_cause = s.1;
          here = sym (r.keeps.meaning f.cond (entry_node old failing i f nodes l is) values) ∙ s.2;
        }))

    to : (values : List Bool) (place : Place) (why : Why)
        → IsRefusedAt now after values place why
        → IsRefusedAt old before values place why
        ⊎ IsRefusedAt old (take i failing ++ f ∷ []) values place why
    to values place why s = split values place why ((more values place why).0 s)

    last : (values : List Bool) (place : Place) (why : Why)
        → IsRefusedAt old (take i failing) values place why ⊎ Refuses old f values place why
        → IsRefusedAt mid between values place why
        ⊎ ((f.place ≡ place) × (f.why ≡ why) × (holds mid f.cond values ≡ true))
    last values place why (inl s) = inl ((r.all.refused values place why).1 (inr s))
    last values place why (inr s) = inr (
      s.same_place,
      s.same_cause,
      r.keeps.meaning f.cond (entry_node old failing i f nodes l is) values ∙ s.here,
    )

    from : (values : List Bool) (place : Place) (why : Why)
        → IsRefusedAt old before values place why
        ⊎ IsRefusedAt old (take i failing ++ f ∷ []) values place why
        → IsRefusedAt now after values place why
    from values place why (inl s) =
        (more values place why).1 (inl ((r.all.refused values place why).1 (inl s)))
    from values place why (inr s) = (more values place why).1
        (last values place why (refused_cases old (take i failing) f values place why s))

pub refusing_end : (old now : Diagram) (before after failing : List Failing) (i : ℕ)
    → IsRefusing old now before after failing i → length failing ≤ i
    → RefusesAll old now before after failing
refusing_end old now before after failing i r l =
    subst (λ (fs : List Failing). RefusesAll old now before after fs) (take_all i failing l) r.all

-- from an earlier store on
pub refuses_all_from : (old mid new : Diagram) (before after failing : List Failing)
    → Keeps old mid → AllNodes old (conditions before) → AllNodes old (conditions failing)
    → RefusesAll mid new before after failing → RefusesAll old new before after failing
refuses_all_from old mid new before after failing keeps nodes more r = record {
  refused = λ values place why. (
    λ s. back values place why ((r.refused values place why).0 s),
    λ s. (r.refused values place why).1 (forth values place why s),
  );
  counted = λ values most.
      r.counted values (subst (λ (n : ℕ). n ≤ 1) (sym (same values)) most) ∙ same values;
}
  where
    same : (values : List Bool) → count_satisfied mid (conditions before) values
        + count_satisfied mid (conditions failing) values
        ≡ count_satisfied old (conditions before) values
        + count_satisfied old (conditions failing) values
    same values = ap₂ (λ (m n : ℕ). m + n)
        (count_satisfied-kept keeps (conditions before) nodes values)
        (count_satisfied-kept keeps (conditions failing) more values)

    back : (values : List Bool) (place : Place) (why : Why)
        → IsRefusedAt mid before values place why ⊎ IsRefusedAt mid failing values place why
        → IsRefusedAt old before values place why ⊎ IsRefusedAt old failing values place why
    back values place why (inl s) =
        inl (IsRefusedAt-before keeps before nodes values place why s)
    back values place why (inr s) =
        inr (IsRefusedAt-before keeps failing more values place why s)

    forth : (values : List Bool) (place : Place) (why : Why)
        → IsRefusedAt old before values place why ⊎ IsRefusedAt old failing values place why
        → IsRefusedAt mid before values place why ⊎ IsRefusedAt mid failing values place why
    forth values place why (inl s) =
        inl (IsRefusedAt-kept keeps before nodes values place why s)
    forth values place why (inr s) =
        inr (IsRefusedAt-kept keeps failing more values place why s)
