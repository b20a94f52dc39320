-- An entry that is put among others, in the place of the one of its place and cause or at the end.
use Rattle.std.proofs.Common.{◌≡◌, ◌⊎◌, ◌||◌, ◌+◌, ℕ, Bool, true, false, cond, List, [], ◌∷◌, refl, sym, ◌∙◌, ap, subst, arith, inl, inr, zero-add, eqb}
use Rattle.std.specs.Prelude.{Option, Some, None, IfSome, map}
use Rattle.std.specs.Bool.{Decides}
use Rattle.std.specs.Cmp.Lexicographic.{pointwise}
use Rattle.std.specs.List.{All}
use Rattle.std.specs.Map.{lookup}
use Rattle.std.proofs.lemmas.Bool.{false≢true}
use Rattle.std.proofs.lemmas.List.Elements.{All-cons, All-head, All-tail, All-weaker}
use Rattle.std.proofs.lemmas.List.Sums.{sum_by-cons}
use Rattle.std.proofs.lemmas.Slice.Eq.{bytes_eq-Decides}
use Rattle.indexmap.specs.IndexMap.{insert_entry}
use Rattle.hv_base.specs.declared.place.Place.{Place}
use Rattle.hv_base.specs.declared.why.Why.{Why}
use Rattle.hv_cond.specs.Diagram.{AllNodes, Diagram, IsNever, IsNode, Keeps, holds}
use Rattle.hv_cond.specs.Laws.{AllNodes-kept, NoneFalse-kept, count_satisfied-kept}
use Rattle.hv_cond.specs.Parts.{NoneFalse, count_satisfied}
use Rattle.hv_cond.specs.declared.conditions.Cond.{Cond}
use Rattle.hv_given.proofs.KeysLemmas.{key_cause, key_place}
use Rattle.hv_given.specs.Laws.{IsRefusedAt-before, IsRefusedAt-kept}
use Rattle.hv_given.specs.Refusals.{AreRefusals, CountsMore, IsRefusedAt, Refuses, RefusesMore}
use Rattle.hv_given.specs.working.Keys.{AreKeyed, found_holds, key_of}
use Rattle.hv_toks.specs.Division.{AreDistinct, SameCause, conditions}
use Rattle.hv_toks.specs.declared.parted.Failing.{Failing}

-- after this entry is put there, in the place of the one that was found
abbrev pub IsPut : Option Failing → Failing → (before after : List Failing) → Type 0
IsPut found v [] after = (found ≡ None) × (after ≡ v ∷ [])
IsPut found v (f ∷ before) after =
    ((found ≡ Some f) × SameCause f v × (after ≡ v ∷ before))
    ⊎ ((SameCause f v → ⊥)
    × ((rest : List Failing) × (after ≡ f ∷ rest) × IsPut found v before rest))

------ by keys

module _ {K : Type 0} (numbers : K → List ℕ) (key : K) (v : Failing)
    (own : numbers key ≡ key_of v.place v.why) where
  abbrev entered : List (K × Failing) → List (K × Failing)
  entered es = insert_entry (λ x y. pointwise eqb (numbers x) (numbers y)) es key v

  abbrev sought : List (K × Failing) → Option Failing
  sought es = lookup (λ k. pointwise eqb (numbers key) (numbers k)) es

  pub keyed : (es : List (K × Failing)) → AreKeyed numbers es → AreKeyed numbers (entered es)
  keyed [] all = (own, tt)
  keyed (e ∷ es) all =
      step (pointwise eqb (numbers key) (numbers e.0)) (bytes_eq-Decides (numbers key) (numbers e.0))
      (keyed es all.1)
    where
      step : (b : Bool) → Decides b (numbers key ≡ numbers e.0) → AreKeyed numbers (entered es)
          → AreKeyed numbers (cond b ((e.0, v) ∷ es) (e ∷ entered es))
      step true same rest = (sym (same.0 refl) ∙ own, all.1)
      step false same rest = (all.0, rest)

  pub put : (es : List (K × Failing)) → AreKeyed numbers es
      → IsPut (sought es) v (map (λ e. e.1) es) (map (λ e. e.1) (entered es))
  put [] all = (refl, refl)
  put (e ∷ es) all =
      step (pointwise eqb (numbers key) (numbers e.0)) (bytes_eq-Decides (numbers key) (numbers e.0))
      (put es all.1)
    where
      other : (numbers key ≡ numbers e.0 → false ≡ true) → SameCause e.1 v → ⊥
      other apart same = false≢true (apart
          (own ∙ (ap (λ (p : Place). key_of p v.why) (sym same.0)
          ∙ (ap (λ (w : Why). key_of e.1.place w) (sym same.1) ∙ sym all.0))))

      step : (b : Bool) → Decides b (numbers key ≡ numbers e.0)
          → IsPut (sought es) v (map (λ e. e.1) es) (map (λ e. e.1) (entered es))
          → IsPut (cond b (Some e.1) (sought es)) v (map (λ e. e.1) (e ∷ es))
          (map (λ e. e.1) (cond b ((e.0, v) ∷ es) (e ∷ entered es)))
      step true same rest =
          let numbers_same : key_of e.1.place e.1.why ≡ key_of v.place v.why =
          sym all.0 ∙ (sym (same.0 refl) ∙ own) in
          inl (
            refl,
            (
              key_place e.1.place v.place e.1.why v.why numbers_same,
              key_cause e.1.place v.place e.1.why v.why numbers_same,
            ),
            refl,
          )
      step false same rest = inr (other same.1, (map (λ e. e.1) (entered es), refl, rest))

------ what is so of each stays so

module _ (found : Option Failing) (v : Failing) where
  put_nodes : (d : Diagram) → IsNode d v.cond → (before after : List Failing)
      → IsPut found v before after → AllNodes d (conditions before) → AllNodes d (conditions after)
  put_nodes d node [] after p nodes = rw p.1 (node, tt)
  put_nodes d node (f ∷ before) after (inl p) nodes = rw p.2 (node, nodes.1)
  put_nodes d node (f ∷ before) after (inr p) nodes =
      rw p.1.1 (nodes.0, put_nodes d node before p.1.0 p.1.2 nodes.1)

  put_none_false : (d : Diagram) → (IsNever d v.cond → ⊥) → (before after : List Failing)
      → IsPut found v before after → NoneFalse d (conditions before)
      → NoneFalse d (conditions after)
  put_none_false d some [] after p none = rw p.1 (some, tt)
  put_none_false d some (f ∷ before) after (inl p) none = rw p.2 (some, none.1)
  put_none_false d some (f ∷ before) after (inr p) none =
      rw p.1.1 (none.0, put_none_false d some before p.1.0 p.1.2 none.1)

  put_all : (P : Failing → Type 0) → P v → (before after : List Failing)
      → IsPut found v before after → All P before → All P after
  put_all P here [] after p all = rw p.1 (All-cons P v [] here all)
  put_all P here (f ∷ before) after (inl p) all =
      rw p.2 (All-cons P v before here (All-tail P f before all))
  put_all P here (f ∷ before) after (inr p) all =
      rw p.1.1 (All-cons P f p.1.0 (All-head P f before all)
      (put_all P here before p.1.0 p.1.2 (All-tail P f before all)))

  put_distinct : (before after : List Failing) → IsPut found v before after
      → AreDistinct before → AreDistinct after
  put_distinct [] after p distinct = rw p.1 ((λ k d l. absurd (omega arith)), tt)
  put_distinct (f ∷ before) after (inl p) distinct = rw p.2 (
    All-weaker (λ other. SameCause f other → ⊥) (λ other. SameCause v other → ⊥)
        (λ other apart same. apart (p.1.0 ∙ same.0, p.1.1 ∙ same.1)) before distinct.0,
    distinct.1,
  )
  put_distinct (f ∷ before) after (inr p) distinct = rw p.1.1 (
    put_all (λ other. SameCause f other → ⊥) p.0 before p.1.0 p.1.2 distinct.0,
    put_distinct before p.1.0 p.1.2 distinct.1,
  )

------ what is refused, and how many entries hold

or_left : (x y : Bool) → (x || y) ≡ true → (x ≡ true) ⊎ (y ≡ true)
or_left true y e = inl refl
or_left false y e = inr e

or_true : (x y : Bool) → x ≡ true → (x || y) ≡ true
or_true true y e = refl
or_true false y e = absurd (false≢true e)

or_too : (x y : Bool) → y ≡ true → (x || y) ≡ true
or_too true y e = refl
or_too false y e = e

module _ (d : Diagram) (v : Failing) (of : Bool) (values : List Bool) where
  -- the place and cause of the entry, where the condition holds
  abbrev IsHere : Place → Why → Type 0
  IsHere at cause = (v.place ≡ at) × (v.why ≡ cause) × (of ≡ true)

  put_refused : (found : Option Failing)
      → holds d v.cond values ≡ (found_holds d found values || of)
      → (before after : List Failing) → IsPut found v before after
      → (at : Place) (cause : Why)
      → IsRefusedAt d after values at cause
      → IsRefusedAt d before values at cause ⊎ IsHere at cause
  put_refused found means [] after p at cause r =
      first (subst (λ (fs : List Failing). IsRefusedAt d fs values at cause) p.1 r)
    where
      first : Refuses d v values at cause ⊎ ⊥ → ⊥ ⊎ IsHere at cause
      first (inl h) = inr (
        h.same_place,
        h.same_cause,
        sym (ap (λ (x : Option Failing). found_holds d x values || of) p.0) ∙ (sym means ∙ h.here),
      )
      first (inr h) = absurd h
  put_refused found means (f ∷ before) after (inl p) at cause r =
      first (subst (λ (fs : List Failing). IsRefusedAt d fs values at cause) p.2 r)
    where
      whose : Refuses d v values at cause → (holds d f.cond values ≡ true) ⊎ (of ≡ true)
          → IsRefusedAt d (f ∷ before) values at cause ⊎ IsHere at cause
      whose h (inl e) = inl (inl (record {
        same_place = p.1.0 ∙ h.same_place;
        same_cause = p.1.1 ∙ h.same_cause;
        here = e;
      }))
      whose h (inr e) = inr (h.same_place, h.same_cause, e)

      first : Refuses d v values at cause ⊎ IsRefusedAt d before values at cause
          → IsRefusedAt d (f ∷ before) values at cause ⊎ IsHere at cause
      first (inl h) = whose h (or_left (holds d f.cond values) of
          (sym (ap (λ (x : Option Failing). found_holds d x values || of) p.0)
          ∙ (sym means ∙ h.here)))
      first (inr h) = inl (inr h)
  put_refused found means (f ∷ before) after (inr p) at cause r =
      first (λ h. put_refused found means before p.1.0 p.1.2 at cause h)
      (subst (λ (fs : List Failing). IsRefusedAt d fs values at cause) p.1.1 r)
    where
      later : IsRefusedAt d before values at cause ⊎ IsHere at cause
          → IsRefusedAt d (f ∷ before) values at cause ⊎ IsHere at cause
      later (inl h) = inl (inr h)
      later (inr h) = inr h

      first : (IsRefusedAt d p.1.0 values at cause
          → IsRefusedAt d before values at cause ⊎ IsHere at cause)
          → Refuses d f values at cause ⊎ IsRefusedAt d p.1.0 values at cause
          → IsRefusedAt d (f ∷ before) values at cause ⊎ IsHere at cause
      first rest (inl h) = inl (inl h)
      first rest (inr h) = later (rest h)

  put_stays : (found : Option Failing)
      → holds d v.cond values ≡ (found_holds d found values || of)
      → (before after : List Failing) → IsPut found v before after
      → (at : Place) (cause : Why)
      → IsRefusedAt d before values at cause ⊎ IsHere at cause
      → IsRefusedAt d after values at cause
  put_stays found means [] after p at cause (inl r) = absurd r
  put_stays found means [] after p at cause (inr r) =
      subst (λ (fs : List Failing). IsRefusedAt d fs values at cause) (sym p.1) (inl (record {
        same_place = r.0;
        same_cause = r.1;
        here = means ∙ or_too (found_holds d found values) of r.2;
      }))
  put_stays found means (f ∷ before) after (inl p) at cause r =
      subst (λ (fs : List Failing). IsRefusedAt d fs values at cause) (sym p.2) (which r)
    where
      found_true : holds d f.cond values ≡ true → found_holds d found values ≡ true
      found_true e = ap (λ (x : Option Failing). found_holds d x values) p.0 ∙ e

      which : IsRefusedAt d (f ∷ before) values at cause ⊎ IsHere at cause
          → Refuses d v values at cause ⊎ IsRefusedAt d before values at cause
      which (inl (inl h)) = inl (record {
        same_place = sym p.1.0 ∙ h.same_place;
        same_cause = sym p.1.1 ∙ h.same_cause;
        here = means ∙ or_true (found_holds d found values) of (found_true h.here);
      })
      which (inl (inr h)) = inr h
      which (inr h) = inl (record {
        same_place = h.0;
        same_cause = h.1;
        here = means ∙ or_too (found_holds d found values) of h.2;
      })
  put_stays found means (f ∷ before) after (inr p) at cause r =
      subst (λ (fs : List Failing). IsRefusedAt d fs values at cause) (sym p.1.1)
      (which (λ h. put_stays found means before p.1.0 p.1.2 at cause h) r)
    where
      which : (IsRefusedAt d before values at cause ⊎ IsHere at cause
          → IsRefusedAt d p.1.0 values at cause)
          → IsRefusedAt d (f ∷ before) values at cause ⊎ IsHere at cause
          → Refuses d f values at cause ⊎ IsRefusedAt d p.1.0 values at cause
      which rest (inl (inl h)) = inl h
      which rest (inl (inr h)) = inr (rest (inl h))
      which rest (inr h) = inr (rest (inr h))

  count_cons : (f : Failing) (fs : List Failing)
      → count_satisfied d (conditions (f ∷ fs)) values
      ≡ cond (holds d f.cond values) 1 0 + count_satisfied d (conditions fs) values
  count_cons f fs = sum_by-cons (λ (x : Cond). cond (holds d x values) 1 0) f.cond (conditions fs)

  put_counted : (found : Option Failing)
      → holds d v.cond values ≡ (found_holds d found values || of)
      → (before after : List Failing) → IsPut found v before after
      → (of ≡ true → count_satisfied d (conditions before) values ≡ 0)
      → count_satisfied d (conditions after) values
      ≡ count_satisfied d (conditions before) values + cond of 1 0
  put_counted found means [] after p none =
      let one = ap (λ (fs : List Failing). count_satisfied d (conditions fs) values) p.1 in
      let own = count_cons v [] in
      let same : holds d v.cond values ≡ of =
      means ∙ ap (λ (x : Option Failing). found_holds d x values || of) p.0 in
      let counts = ap {B = ℕ} (λ (b : Bool). cond b 1 0) same in
      omega (arith, one, own, counts)
  put_counted found means (f ∷ before) after (inl p) none =
      let new = ap (λ (fs : List Failing). count_satisfied d (conditions fs) values) p.2 in
      let own = count_cons v before in
      let old = count_cons f before in
      let same : holds d v.cond values ≡ (holds d f.cond values || of) =
      means ∙ ap (λ (x : Option Failing). found_holds d x values || of) p.0 in
      let counts = ap {B = ℕ} (λ (b : Bool). cond b 1 0) same in
      let sums = either (holds d f.cond values) of (count_satisfied d (conditions before) values)
      (λ e. sym old ∙ none e) in
      omega (arith, new, own, old, counts, sums)
    where
      either : (x y : Bool) (n : ℕ) → (y ≡ true → cond x 1 0 + n ≡ 0)
          → cond (x || y) 1 0 ≡ cond x 1 0 + cond y 1 0
      either true true n h = let no = h refl in absurd (omega arith)
      either true false n h = refl
      either false y n h = sym (zero-add (cond y 1 0))
  put_counted found means (f ∷ before) after (inr p) none =
      let new = ap (λ (fs : List Failing). count_satisfied d (conditions fs) values) p.1.1 in
      let own = count_cons f p.1.0 in
      let old = count_cons f before in
      let rest = put_counted found means before p.1.0 p.1.2
      (λ e. let no = none e in omega (arith, no, old)) in
      omega (arith, new, own, old, rest)

------ the whole

-- what one more refusal makes of entries, over a store that has grown
module _ {old new : Diagram} (keeps : Keeps old new) (found : Option Failing) (v : Failing)
    (given : Cond) (before after : List Failing) (all : AreRefusals old before)
    (node : IsNode new v.cond) (given_node : IsNode old given) (some : IsNever old given → ⊥)
    (means : (values : List Bool) → holds new v.cond values
    ≡ (found_holds old found values || holds old given values))
    (p : IsPut found v before after) where
  -- an entry that was found is one of those before
  found_kept : (fs gs : List Failing) → IsPut found v fs gs → AllNodes old (conditions fs)
      → (values : List Bool) → found_holds new found values ≡ found_holds old found values
  found_kept [] gs q nodes values =
      ap (λ (x : Option Failing). found_holds new x values) q.0
      ∙ sym (ap (λ (x : Option Failing). found_holds old x values) q.0)
  found_kept (f ∷ fs) gs (inl q) nodes values =
      ap (λ (x : Option Failing). found_holds new x values) q.0
      ∙ (keeps.meaning f.cond nodes.0 values
      ∙ sym (ap (λ (x : Option Failing). found_holds old x values) q.0))
  found_kept (f ∷ fs) gs (inr q) nodes values = found_kept fs q.1.0 q.1.2 nodes.1 values

  now : (values : List Bool) → holds new v.cond values
      ≡ (found_holds new found values || holds old given values)
  now values = means values ∙ ap (λ (b : Bool). b || holds old given values)
      (sym (found_kept before after p all.nodes values))

  possible : IsNever new v.cond → ⊥
  possible never = some (λ values len. no (found_holds old found values) (holds old given values)
      (sym (means values) ∙ never values (len ∙ sym keeps.variables)))
    where
      no : (x y : Bool) → (x || y) ≡ false → y ≡ false
      no true y e = absurd (false≢true (sym e))
      no false y e = e

  pub refusals : AreRefusals new after
  refusals =
      record {
        nodes = put_nodes found v new node before after p
            (AllNodes-kept keeps (conditions before) all.nodes);
        none_false = put_none_false found v new possible before after p
            (NoneFalse-kept keeps (conditions before) all.nodes all.none_false);
        distinct = put_distinct found v before after p all.distinct;
      }

  pub refuses_more : RefusesMore old new before after v.place v.why given
  refuses_more values at cause = (
    λ r. back (put_refused new v (holds old given values) values found (now values) before after p
        at cause r),
    λ r. put_stays new v (holds old given values) values found (now values) before after p
        at cause (there r),
  )
    where
      back : IsRefusedAt new before values at cause
          ⊎ ((v.place ≡ at) × (v.why ≡ cause) × (holds old given values ≡ true))
          → IsRefusedAt old before values at cause
          ⊎ ((v.place ≡ at) × (v.why ≡ cause) × (holds old given values ≡ true))
      back (inl h) = inl (IsRefusedAt-before keeps before all.nodes values at cause h)
      back (inr h) = inr h

      there : IsRefusedAt old before values at cause
          ⊎ ((v.place ≡ at) × (v.why ≡ cause) × (holds old given values ≡ true))
          → IsRefusedAt new before values at cause
          ⊎ ((v.place ≡ at) × (v.why ≡ cause) × (holds old given values ≡ true))
      there (inl h) = inl (IsRefusedAt-kept keeps before all.nodes values at cause h)
      there (inr h) = inr h

  pub counts_more : CountsMore old new before after given
  counts_more values none =
      let kept = count_satisfied-kept keeps (conditions before) all.nodes values in
      put_counted new v (holds old given values) values found (now values) before after p
      (λ e. kept ∙ none e)
      ∙ ap (λ (n : ℕ). n + cond (holds old given values) 1 0) kept

-- the same by what a map does
module _ {K : Type 0} (numbers : K → List ℕ) {old new : Diagram} (keeps : Keeps old new) (key : K)
    (slice : List ℕ) (given : Cond) (v : Failing) (place : Place) (why : Why)
    (es after : List (K × Failing)) (seen : List Failing) (seen_is : seen ≡ map (λ e. e.1) es)
    (all_keyed : AreKeyed numbers es) (slice_is : slice ≡ numbers key)
    (key_is : numbers key ≡ key_of place why) (place_is : v.place ≡ place) (why_is : v.why ≡ why)
    (entered_is : after
    ≡ insert_entry (λ x y. pointwise eqb (numbers x) (numbers y)) es key v) where
  own : numbers key ≡ key_of v.place v.why
  own = key_is ∙ (ap (λ (q : Place). key_of q why) (sym place_is)
      ∙ ap (λ (w : Why). key_of v.place w) (sym why_is))

  pub add_keyed : AreKeyed numbers after
  add_keyed = rw entered_is (keyed numbers key v own es all_keyed)

  add_put : IsPut (lookup (λ k. pointwise eqb slice (numbers k)) es) v seen (map (λ e. e.1) after)
  add_put = rw (seen_is, entered_is, slice_is) (put numbers key v own es all_keyed)

  module _ (all : AreRefusals old seen) (node : IsNode new v.cond) (given_node : IsNode old given)
      (some : IsNever old given → ⊥)
      (means : (values : List Bool) → holds new v.cond values
      ≡ (found_holds old (lookup (λ k. pointwise eqb slice (numbers k)) es) values
      || holds old given values)) where
    pub add_refusals : AreRefusals new (map (λ e. e.1) after)
    add_refusals = refusals keeps _ v given seen (map (λ e. e.1) after) all node given_node some
        means add_put

    pub add_refuses : RefusesMore old new seen (map (λ e. e.1) after) place why given
    add_refuses =
        subst (λ (q : Place). RefusesMore old new seen (map (λ e. e.1) after) q why given) place_is
        (subst (λ (w : Why). RefusesMore old new seen (map (λ e. e.1) after) v.place w given) why_is
        (refuses_more keeps _ v given seen (map (λ e. e.1) after) all node given_node some means
        add_put))

    pub add_counts : CountsMore old new seen (map (λ e. e.1) after) given
    add_counts = counts_more keeps _ v given seen (map (λ e. e.1) after) all node given_node some
        means add_put

-- an entry that is found is a node
pub found_node : {K : Type 0} (d : Diagram) (test : K → Bool) (es : List (K × Failing))
    → AllNodes d (conditions (map (λ e. e.1) es))
    → IfSome (lookup test es) (λ f. IsNode d f.cond)
found_node d test [] nodes = tt
found_node {K} d test (e ∷ es) nodes = step (test e.0) (found_node d test es nodes.1)
  where
    step : (b : Bool) → IfSome (lookup test es) (λ f. IsNode d f.cond)
        → IfSome (cond b (Some e.1) (lookup test es)) (λ f. IsNode d f.cond)
    step true rest = nodes.0
    step false rest = rest

-- nothing is refused where a condition never holds
pub refuses_no_more : (d : Diagram) (failing : List Failing) (place : Place) (why : Why) (given : Cond)
    → ((values : List Bool) → holds d given values ≡ false)
    → RefusesMore d d failing failing place why given
refuses_no_more d failing place why given never values at cause = (
  λ r. inl r,
  λ r. same r,
)
  where
    same : IsRefusedAt d failing values at cause
        ⊎ ((place ≡ at) × (why ≡ cause) × (holds d given values ≡ true))
        → IsRefusedAt d failing values at cause
    same (inl h) = h
    same (inr h) = absurd (false≢true (sym (never values) ∙ h.2))

pub counts_no_more : (d : Diagram) (failing : List Failing) (given : Cond)
    → ((values : List Bool) → holds d given values ≡ false)
    → CountsMore d d failing failing given
counts_no_more d failing given never values none =
    let no = ap {B = ℕ} (λ (b : Bool). cond b 1 0) (never values) in omega (arith, no)
