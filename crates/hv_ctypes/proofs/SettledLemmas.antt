-- The promise on kept layouts, kept while structures and unions are added and completed.
use Rattle.std.proofs.Common.{◌≡◌, ℕ, zero, suc, ◌+◌, ◌≤◌, Bool, true, false, cond, Option, None, Some, List, [], ◌∷◌, ◌++◌, length, map, nat_eq, refl, ap, sym, ◌∙◌, arith, subst, inl, inr, ◌⊎◌}
use Rattle.std.specs.Prelude.{slice_get, slice_set, OnOk, OnErr, Ok, Err}
use Rattle.std.specs.declared.result.Result.{Result}
use Rattle.hv_base.specs.declared.memory.Memory.{Memory}
use Rattle.std.specs.Option.{option_and_then, option_map}
use Rattle.std.proofs.lemmas.Bool.Decides.{eqb_tells, leb_tells}
use Rattle.std.proofs.lemmas.Option.{none-some, same_Some, slice_get-map}
use Rattle.std.proofs.Math.Nat.{ℕ_set}
use Rattle.std.proofs.Math.Bool.{Bool-set}
use Rattle.std.proofs.Math.Logic.{∥∥₁_elim, ∥∥₁_map}
use Rattle.hv_base.specs.declared.limits.TheConstants.{MOST_OBJECT_BYTES}
use Rattle.hv_ctree.specs.declared.types.Layout.{Layout}
use Rattle.hv_ctree.specs.declared.types.Member.{Member}
use Rattle.hv_ctree.specs.declared.types.CompoundType.{CompoundType}
use Rattle.hv_ctree.specs.types.Plain.{PlainMember, PlainCompound}
use Rattle.hv_ctree.specs.types.Erasure.{member_of, compound_of}
use Rattle.hv_ctree.specs.types.Layouts.{within_limit, laid_out, member_layouts, compound_layout_by, compound_layout}
use Rattle.hv_ctree.specs.types.Settled.{kept_layout, members_at, counted, complete_count, IsSettled}
use Rattle.hv_ctypes.specs.Compounds.{layouts_in, unless_complete, incomplete_kind, with_members, layout_of_members}
use Rattle.hv_ctypes.proofs.LayoutsLemmas.{within-some}
use Rattle.hv_ctypes.proofs.DepthLemmas.{Below, listed, laid_below, members_below, deeper, at_least, Extends, extended, no_layout, count_within}

------ within_limit

pub within : (l : Layout) → l.size ≤ MOST_OBJECT_BYTES → within_limit (Some l) ≡ Some l
within l h =
    elim (leb_tells l.size MOST_OBJECT_BYTES) [
      | inl (is, k) ↦ rw is refl
      | inr (isnt, k) ↦ absurd (omega arith)
    ]

pub within-small : (o : Option Layout) (l : Layout) → within_limit o ≡ Some l → l.size ≤ MOST_OBJECT_BYTES
within-small None l e = absurd (none-some l e)
within-small (Some k) l e =
    elim (leb_tells k.size MOST_OBJECT_BYTES) [
      | inl (is, h) ↦
          let same : k ≡ l = same_Some k l (sym (ap (λ b. cond b (Some k) None) is) ∙ e) in
          subst (λ x. x.size ≤ MOST_OBJECT_BYTES) same h
      | inr (isnt, h) ↦ absurd (none-some l (sym (ap (λ b. cond b (Some k) None) isnt) ∙ e))
    ]

------ kept layouts

abbrev plain_compounds : List CompoundType → List PlainCompound
plain_compounds compounds = map compound_of compounds

module _ (compounds : List CompoundType) (s : IsSettled compounds) where
  -- the kept layout is the one of the definition
  whole_layout : (n : ℕ) (l : Layout) → kept_layout compounds n ≡ Some l →
      layouts_in (plain_compounds compounds) n ≡ Some l
  whole_layout n l e =
      at_least (plain_compounds compounds) (complete_count (plain_compounds compounds)) (length (plain_compounds compounds))
      n (count_within (plain_compounds compounds)) l (s.right n l e)

  kept_some : (n : ℕ) (o : Option Layout) → kept_layout compounds n ≡ o →
      o ≡ within_limit (layouts_in (plain_compounds compounds) n)
  kept_some n None e =
      sym (ap within_limit (no_layout (plain_compounds compounds) (length (plain_compounds compounds)) n (s.every n e)))
  kept_some n (Some l) e = sym (ap within_limit (whole_layout n l e) ∙ within l (s.small n l e))

  pub kept_is : (n : ℕ) → kept_layout compounds n ≡ within_limit (layouts_in (plain_compounds compounds) n)
  kept_is n = kept_some n (kept_layout compounds n) refl

  -- as many structures and unions within one another as are complete are enough
  enough_for : (n : ℕ) (o : Option Layout) → kept_layout compounds n ≡ o →
      Below (layouts_in (plain_compounds compounds) n)
      (compound_layout (plain_compounds compounds) (complete_count (plain_compounds compounds)) n)
  enough_for n None e =
      λ l some. absurd (none-some l
      (sym (no_layout (plain_compounds compounds) (length (plain_compounds compounds)) n (s.every n e)) ∙ some))
  enough_for n (Some k) e =
      λ l some.
      let same : k ≡ l = same_Some k l (sym (whole_layout n k e) ∙ some) in
      s.right n k e ∙ ap Some same

  pub enough : (n : ℕ) → Below (layouts_in (plain_compounds compounds) n)
      (compound_layout (plain_compounds compounds) (complete_count (plain_compounds compounds)) n)
  enough n = enough_for n (kept_layout compounds n) refl

-- two layouts are equal where their parts are
abbrev has_layout : Option Layout → Bool
has_layout None = false
has_layout (Some l) = true

abbrev size_of_some : Option Layout → ℕ
size_of_some None = 0
size_of_some (Some l) = l.size

abbrev align_of_some : Option Layout → ℕ
align_of_some None = 0
align_of_some (Some l) = l.align

by_parts : (a b : Option Layout) → has_layout a ≡ has_layout b → size_of_some a ≡ size_of_some b →
    align_of_some a ≡ align_of_some b → a ≡ b
by_parts None None h p q = refl
by_parts None (Some l) h p q = cc
by_parts (Some k) None h p q = cc
by_parts (Some k) (Some l) h p q = λ i. Some (record { size = p i; align = q i })

pub kept_whole : (compounds : List CompoundType) → ∥ IsSettled compounds ∥₁ → (n : ℕ) →
    kept_layout compounds n ≡ within_limit (layouts_in (plain_compounds compounds) n)
kept_whole compounds s n =
    by_parts (kept_layout compounds n) (within_limit (layouts_in (plain_compounds compounds) n))
    (∥∥₁_elim s (Bool-set _ _) (λ x. ap has_layout (kept_is compounds x n)))
    (∥∥₁_elim s (ℕ_set _ _) (λ x. ap size_of_some (kept_is compounds x n)))
    (∥∥₁_elim s (ℕ_set _ _) (λ x. ap align_of_some (kept_is compounds x n)))

------ one more

pub empty_settled : IsSettled []
empty_settled =
    record {
      right = λ n l e. absurd (none-some l e);
      small = λ n l e. absurd (none-some l e);
      every = λ n e. refl;
    }

module _ (c : CompoundType) (no_layout_yet : c.layout ≡ None) (no_members : c.members ≡ None) where
  kept_added : (cs : List CompoundType) (n : ℕ) → kept_layout (cs ++ c ∷ []) n ≡ kept_layout cs n
  kept_added [] zero = no_layout_yet
  kept_added [] (suc n) = refl
  kept_added (x ∷ cs) zero = refl
  kept_added (x ∷ cs) (suc n) = kept_added cs n

  members_added : (cs : List CompoundType) (n : ℕ) →
      members_at (plain_compounds (cs ++ c ∷ [])) n ≡ members_at (plain_compounds cs) n
  members_added [] zero = ap (option_map (map member_of)) no_members
  members_added [] (suc n) = refl
  members_added (x ∷ cs) zero = refl
  members_added (x ∷ cs) (suc n) = members_added cs n

  count_added : (cs : List CompoundType) →
      complete_count (plain_compounds (cs ++ c ∷ [])) ≡ complete_count (plain_compounds cs)
  count_added [] = ap (λ o. counted (option_map (map member_of) o) + 0) no_members
  count_added (x ∷ cs) = ap (λ k. counted (compound_of x).members + k) (count_added cs)

  same_slot : (cs : List CompoundType) (n : ℕ) (d : PlainCompound) →
      slice_get (plain_compounds cs) n ≡ Some d → slice_get (plain_compounds (cs ++ c ∷ [])) n ≡ Some d
  same_slot [] n d e = absurd (none-some d e)
  same_slot (x ∷ cs) zero d e = e
  same_slot (x ∷ cs) (suc n) d e = same_slot cs n d e

  right_added : (cs : List CompoundType) → IsSettled cs → (n : ℕ) (l : Layout) →
      kept_layout (cs ++ c ∷ []) n ≡ Some l →
      compound_layout (plain_compounds (cs ++ c ∷ [])) (complete_count (plain_compounds (cs ++ c ∷ []))) n ≡ Some l
  right_added cs s n l e =
      ap (λ k. compound_layout (plain_compounds (cs ++ c ∷ [])) k n) (count_added cs)
      ∙ extended (plain_compounds cs) (plain_compounds (cs ++ c ∷ [])) (λ m d ms is _. same_slot cs m d is)
      (complete_count (plain_compounds cs)) n l (s.right n l (sym (kept_added cs n) ∙ e))

  -- an incomplete structure or union is added
  pub added_settled : (cs : List CompoundType) → IsSettled cs → IsSettled (cs ++ c ∷ [])
  added_settled cs s =
      record {
        right = right_added cs s;
        small = λ n l e. s.small n l (sym (kept_added cs n) ∙ e);
        every = λ n e. members_added cs n ∙ s.every n (sym (kept_added cs n) ∙ e);
      }

------ one completed

get_set : {X : Type 0} (xs : List X) (k : ℕ) (x y : X) → slice_get xs k ≡ Some x → slice_get (slice_set xs k y) k ≡ Some y
get_set [] k x y e = absurd (none-some x e)
get_set (z ∷ xs) zero x y e = refl
get_set (z ∷ xs) (suc k) x y e = get_set xs k x y e

get_set-else : {X : Type 0} (xs : List X) (k n : ℕ) (y : X) → (n ≡ k → ⊥) → slice_get (slice_set xs k y) n ≡ slice_get xs n
get_set-else [] k n y h = refl
get_set-else (z ∷ xs) zero zero y h = absurd (h refl)
get_set-else (z ∷ xs) zero (suc n) y h = refl
get_set-else (z ∷ xs) (suc k) zero y h = refl
get_set-else (z ∷ xs) (suc k) (suc n) y h = get_set-else xs k n y (λ e. h (ap suc e))

map-set : {X Y : Type 0} (f : X → Y) (xs : List X) (k : ℕ) (y : X) → map f (slice_set xs k y) ≡ slice_set (map f xs) k (f y)
map-set f [] k y = refl
map-set f (x ∷ xs) zero y = refl
map-set f (x ∷ xs) (suc k) y = ap (λ r. f x ∷ r) (map-set f xs k y)

count_set : (ps : List PlainCompound) (k : ℕ) (old new : PlainCompound) (ms : List PlainMember) →
    slice_get ps k ≡ Some old → old.members ≡ None → new.members ≡ Some ms →
    complete_count (slice_set ps k new) ≡ suc (complete_count ps)
count_set [] k old new ms e h i = absurd (none-some old e)
count_set (p ∷ ps) zero old new ms e h i =
    let was : counted p.members ≡ 0 = ap (λ c. counted c.members) (same_Some p old e) ∙ ap counted h in
    let is : counted new.members ≡ 1 = ap counted i in
    omega arith
count_set (p ∷ ps) (suc k) old new ms e h i =
    let rest = count_set ps k old new ms e h i in
    omega arith

some_isnt_none : {X : Type 0} (x : X) (o : Option X) → o ≡ Some x → o ≡ None → ⊥
some_isnt_none x o e h = none-some x (sym h ∙ e)

pub set-set : {X : Type 0} (xs : List X) (k : ℕ) (x y : X) → slice_set (slice_set xs k x) k y ≡ slice_set xs k y
set-set [] k x y = refl
set-set (z ∷ xs) zero x y = refl
set-set (z ∷ xs) (suc k) x y = ap (λ r. z ∷ r) (set-set xs k x y)

-- the table and its definition change alike
pub with_set : (ps : List PlainCompound) (k : ℕ) (p : PlainCompound) (ms : List PlainMember) →
    slice_get ps k ≡ Some p →
    slice_set ps k (record { is_union = p.is_union; tag = p.tag; members = Some ms }) ≡ with_members ps k ms
with_set [] k p ms e = refl
with_set (q ∷ ps) zero p ms e =
    ap (λ c. record { is_union = c.is_union; tag = c.tag; members = Some ms } ∷ ps) (sym (same_Some q p e))
with_set (q ∷ ps) (suc k) p ms e = ap (λ r. q ∷ r) (with_set ps k p ms e)

-- the structure or union `old` with the number k is replaced by `new`, which has members and the
-- layout that they give it
module _ (cs : List CompoundType) (s : IsSettled cs) (k : ℕ) (old new : CompoundType)
    (there : slice_get cs k ≡ Some old) (unfilled : (compound_of old).members ≡ None)
    (ms : List PlainMember) (members : (compound_of new).members ≡ Some ms)
    (l : Layout) (layout : new.layout ≡ Some l)
    (laid : layout_of_members (map compound_of cs) new.is_union ms ≡ Some l) where
  abbrev before : List PlainCompound
  before = map compound_of cs

  abbrev after : List PlainCompound
  after = slice_set (map compound_of cs) k (compound_of new)

  abbrev count : ℕ
  count = complete_count (map compound_of cs)

  slot_before : slice_get before k ≡ Some (compound_of old)
  slot_before = slice_get-map compound_of cs k ∙ ap (option_map compound_of) there

  slot_after : slice_get after k ≡ Some (compound_of new)
  slot_after = get_set before k (compound_of old) (compound_of new) slot_before

  grows_at : (n : ℕ) (c : PlainCompound) (is : List PlainMember) → (nat_eq n k ≡ true) × (n ≡ k) ⊎ (nat_eq n k ≡ false) × (n ≡ k → ⊥) →
      slice_get before n ≡ Some c → c.members ≡ Some is → slice_get after n ≡ Some c
  grows_at n c is (inl (_, same)) e complete =
      let here : slice_get before k ≡ Some c = subst (λ m. slice_get before m ≡ Some c) same e in
      let one : compound_of old ≡ c = same_Some _ _ (sym slot_before ∙ here) in
      absurd (some_isnt_none is c.members complete (sym (ap (λ x. x.members) one) ∙ unfilled))
  grows_at n c is (inr (_, other)) e complete = get_set-else before k n (compound_of new) other ∙ e

  grows : Extends before after
  grows n c is e complete = grows_at n c is (eqb_tells n k) e complete

  lifted : (n : ℕ) → Below (layouts_in before n) (compound_layout after count n)
  lifted n = λ x e. extended before after grows count n x (enough cs s n x e)

  -- what is completed has its layout
  new_laid : compound_layout after (suc count) k ≡ Some l
  new_laid =
      ap (option_and_then (compound_layout_by (compound_layout after count))) slot_after
      ∙ (ap (listed (compound_layout after count) new.is_union) members
      ∙ laid_below new.is_union (member_layouts (layouts_in before) ms) (member_layouts (compound_layout after count) ms)
      (members_below (layouts_in before) (compound_layout after count) lifted ms) l
      (within-some _ l (sym laid)))

  kept_new : kept_layout (slice_set cs k new) k ≡ Some l
  kept_new = ap (option_and_then (λ c. c.layout)) (get_set cs k old new there) ∙ layout

  kept_else : (n : ℕ) → (n ≡ k → ⊥) → kept_layout (slice_set cs k new) n ≡ kept_layout cs n
  kept_else n other = ap (option_and_then (λ c. c.layout)) (get_set-else cs k n new other)

  right_at : (n : ℕ) (x : Layout) → (nat_eq n k ≡ true) × (n ≡ k) ⊎ (nat_eq n k ≡ false) × (n ≡ k → ⊥) →
      kept_layout (slice_set cs k new) n ≡ Some x → compound_layout after (suc count) n ≡ Some x
  right_at n x (inl (_, same)) e =
      let here : kept_layout (slice_set cs k new) k ≡ Some x = subst (λ m. kept_layout (slice_set cs k new) m ≡ Some x) same e in
      let one : l ≡ x = same_Some l x (sym kept_new ∙ here) in
      subst (λ m. compound_layout after (suc count) m ≡ Some x) (sym same) (new_laid ∙ ap Some one)
  right_at n x (inr (_, other)) e =
      deeper after count n x (extended before after grows count n x (s.right n x (sym (kept_else n other) ∙ e)))

  small_at : (n : ℕ) (x : Layout) → (nat_eq n k ≡ true) × (n ≡ k) ⊎ (nat_eq n k ≡ false) × (n ≡ k → ⊥) →
      kept_layout (slice_set cs k new) n ≡ Some x → x.size ≤ MOST_OBJECT_BYTES
  small_at n x (inl (_, same)) e =
      let here : kept_layout (slice_set cs k new) k ≡ Some x = subst (λ m. kept_layout (slice_set cs k new) m ≡ Some x) same e in
      within-small (option_and_then (laid_out new.is_union) (member_layouts (layouts_in (map compound_of cs)) ms)) x
      (laid ∙ (sym kept_new ∙ here))
  small_at n x (inr (_, other)) e = s.small n x (sym (kept_else n other) ∙ e)

  every_at : (n : ℕ) → (nat_eq n k ≡ true) × (n ≡ k) ⊎ (nat_eq n k ≡ false) × (n ≡ k → ⊥) →
      kept_layout (slice_set cs k new) n ≡ None → members_at after n ≡ None
  every_at n (inl (_, same)) e =
      let here : kept_layout (slice_set cs k new) k ≡ None = subst (λ m. kept_layout (slice_set cs k new) m ≡ None) same e in
      absurd (some_isnt_none l _ kept_new here)
  every_at n (inr (_, other)) e =
      ap (option_and_then (λ c. c.members)) (get_set-else before k n (compound_of new) other)
      ∙ s.every n (sym (kept_else n other) ∙ e)

  count_after : complete_count after ≡ suc count
  count_after = count_set before k (compound_of old) (compound_of new) ms slot_before unfilled members

  right_after : (n : ℕ) (x : Layout) → kept_layout (slice_set cs k new) n ≡ Some x →
      compound_layout after (complete_count after) n ≡ Some x
  right_after n x e = ap (λ d. compound_layout after d n) count_after ∙ right_at n x (eqb_tells n k) e

  abbrev mapped : map compound_of (slice_set cs k new) ≡ after
  mapped = map-set compound_of cs k new

  pub completed_settled : IsSettled (slice_set cs k new)
  completed_settled =
      record {
        right =
            λ n x e.
            subst (λ ps. compound_layout ps (complete_count ps) n ≡ Some x) (sym mapped) (right_after n x e);
        small = λ n x e. small_at n x (eqb_tells n k) e;
        every = λ n e. subst (λ ps. members_at ps n ≡ None) (sym mapped) (every_at n (eqb_tells n k) e);
      }

------ put_members

was_open : (b u : Bool) (o : Option (List PlainMember)) → unless_complete b o ≡ Some u → (o ≡ None) × (b ≡ u)
was_open b u None e = (refl, same_Some b u e)
was_open b u (Some ms) e = absurd (none-some u e)

-- `old` with these members and this layout
abbrev pub complete : CompoundType → Bool → List Member → Layout → CompoundType
complete old is_union ms l = record { is_union = is_union; tag = old.tag; members = Some ms; layout = Some l }

module _ (cs : List CompoundType) (k : ℕ) (old : CompoundType) (is_union : Bool) (ms : List Member) (l : Layout)
    (there : slice_get cs k ≡ Some old) (kind : incomplete_kind (plain_compounds cs) k ≡ Some is_union) where
  plain_there : slice_get (plain_compounds cs) k ≡ Some (compound_of old)
  plain_there = slice_get-map compound_of cs k ∙ ap (option_map compound_of) there

  kind_of_old : ((compound_of old).members ≡ None) × (old.is_union ≡ is_union)
  kind_of_old =
      was_open old.is_union is_union (compound_of old).members
      (sym (ap (option_and_then (λ c. unless_complete c.is_union c.members)) plain_there) ∙ kind)

  pub put_settled : ∥ IsSettled cs ∥₁ → layout_of_members (plain_compounds cs) is_union (map member_of ms) ≡ Some l →
      ∥ IsSettled (slice_set cs k (complete old is_union ms l)) ∥₁
  put_settled s laid =
      ∥∥₁_map s (λ x.
      completed_settled cs x k old (complete old is_union ms l) there kind_of_old.0 (map member_of ms) refl l refl laid)

  pub put_plain : plain_compounds (slice_set cs k (complete old is_union ms l))
      ≡ with_members (plain_compounds cs) k (map member_of ms)
  put_plain =
      map-set compound_of cs k (complete old is_union ms l)
      ∙ (ap (λ b.
      slice_set (plain_compounds cs) k (record { is_union = b; tag = old.tag; members = Some (map member_of ms) }))
      (sym kind_of_old.1)
      ∙ with_set (plain_compounds cs) k (compound_of old) (map member_of ms) plain_there)

------ declare_compound

pub one_more_settled : (cs new : List CompoundType) (c : CompoundType) (r : Result (Unit {0}) Memory) →
    c.layout ≡ None → c.members ≡ None → ∥ IsSettled cs ∥₁ →
    OnOk r (new ≡ cs ++ c ∷ []) → OnErr r (new ≡ cs) → ∥ IsSettled new ∥₁
one_more_settled cs new c (Ok x) no_layout_yet no_members s ok unchanged =
    subst (λ xs. ∥ IsSettled xs ∥₁) (sym ok) (∥∥₁_map s (added_settled c no_layout_yet no_members cs))
one_more_settled cs new c (Err x) no_layout_yet no_members s ok unchanged =
    subst (λ xs. ∥ IsSettled xs ∥₁) (sym unchanged) s
