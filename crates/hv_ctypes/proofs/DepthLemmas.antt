-- Layouts of structures and unions under a larger depth, and in a table that has more of them: what
-- has a layout keeps it.
use Rattle.std.proofs.Common.{◌≡◌, ℕ, zero, suc, ◌+◌, ◌-◌, ◌≤◌, Bool, Option, None, Some, List, [], ◌∷◌, length, refl, ap, sym, ◌∙◌, arith, subst}
use Rattle.std.specs.Prelude.{slice_get}
use Rattle.std.specs.Option.{option_and_then, option_map}
use Rattle.std.proofs.lemmas.Option.{none-some}
use Rattle.hv_ctree.specs.declared.types.Layout.{Layout}
use Rattle.hv_ctree.specs.types.Plain.{PlainType, plain, PlainShape, void, integer, enumeration, compound, pointer, array, function, PlainMember, PlainCompound}
use Rattle.hv_ctree.specs.types.Layouts.{repeated, layout_by, shape_layout_by, laid_out, member_layouts, compound_layout_by, compound_layout}
use Rattle.hv_ctree.specs.types.Settled.{members_at, counted, complete_count}

-- what the first has, the second has too
abbrev pub Below : {A : Type 0} → Option A → Option A → Type 0
Below {A} a b = (x : A) → a ≡ Some x → b ≡ Some x

------ one step

repeated_below : (count : Option ℕ) (a b : Option Layout) → Below a b → Below (repeated count a) (repeated count b)
repeated_below None a b h = λ l e. e
repeated_below (Some n) None b h = λ l e. absurd (none-some l e)
repeated_below (Some n) (Some k) b h = λ l e. ap (repeated (Some n)) (h k refl) ∙ e

abbrev added : Option (List Layout) → Layout → Option (List Layout)
added rest first = option_map (λ others. first ∷ others) rest

first_below : (a b : Option Layout) (r s : Option (List Layout)) → Below a b → Below r s →
    Below (option_and_then (λ first. option_map (λ others. first ∷ others) r) a)
    (option_and_then (λ first. option_map (λ others. first ∷ others) s) b)
first_below None b r s h k = λ ls e. absurd (none-some ls e)
first_below (Some l) b None s h k = λ ls e. absurd (none-some ls e)
first_below (Some l) b (Some rs) s h k =
    λ ls e. ap (option_and_then (added s)) (h l refl) ∙ (ap (λ o. added o l) (k rs refl) ∙ e)

pub laid_below : (is_union : Bool) (r s : Option (List Layout)) → Below r s →
    Below (option_and_then (laid_out is_union) r) (option_and_then (laid_out is_union) s)
laid_below is_union None s h = λ l e. absurd (none-some l e)
laid_below is_union (Some rs) s h = λ l e. ap (option_and_then (laid_out is_union)) (h rs refl) ∙ e

-- the layout of a structure or union by the list of its members
abbrev pub listed : (ℕ → Option Layout) → Bool → Option (List PlainMember) → Option Layout
listed of is_union members = option_and_then (λ ms. option_and_then (laid_out is_union) (member_layouts of ms)) members

module _ (f g : ℕ → Option Layout) (h : (n : ℕ) → Below (f n) (g n)) where
  mutual
    pub type_below : (t : PlainType) → Below (layout_by f t) (layout_by g t)
    type_below (plain constant shape) = shape_below shape

    shape_below : (s : PlainShape) → Below (shape_layout_by f s) (shape_layout_by g s)
    shape_below void = λ l e. e
    shape_below (integer kind) = λ l e. e
    shape_below (enumeration number) = λ l e. e
    shape_below (compound number) = h number
    shape_below (pointer t) = λ l e. e
    shape_below (array t count) = repeated_below count (layout_by f t) (layout_by g t) (type_below t)
    shape_below (function result parameters variadic) = λ l e. e

  pub members_below : (ms : List PlainMember) → Below (member_layouts f ms) (member_layouts g ms)
  members_below [] = λ ls e. e
  members_below (m ∷ ms) =
      first_below (layout_by f m.type) (layout_by g m.type) (member_layouts f ms) (member_layouts g ms)
      (type_below m.type) (members_below ms)

  listed_below : (is_union : Bool) (o : Option (List PlainMember)) → Below (listed f is_union o) (listed g is_union o)
  listed_below is_union None = λ l e. absurd (none-some l e)
  listed_below is_union (Some ms) = laid_below is_union (member_layouts f ms) (member_layouts g ms) (members_below ms)

  slot_below : (o : Option PlainCompound) →
      Below (option_and_then (compound_layout_by f) o) (option_and_then (compound_layout_by g) o)
  slot_below None = λ l e. absurd (none-some l e)
  slot_below (Some c) = listed_below c.is_union c.members

  -- a structure or union that is complete in both tables
  slot_complete : (c : PlainCompound) (p : Option PlainCompound) (m : Option (List PlainMember)) → c.members ≡ m →
      ((ms : List PlainMember) → c.members ≡ Some ms → p ≡ Some c) →
      Below (compound_layout_by f c) (option_and_then (compound_layout_by g) p)
  slot_complete c p None is k = λ l e. absurd (none-some l (sym (ap (listed f c.is_union) is) ∙ e))
  slot_complete c p (Some ms) is k =
      λ l e. ap (option_and_then (compound_layout_by g)) (k ms is) ∙ listed_below c.is_union c.members l e

  slot_extended : (o p : Option PlainCompound) →
      ((c : PlainCompound) (ms : List PlainMember) → o ≡ Some c → c.members ≡ Some ms → p ≡ Some c) →
      Below (option_and_then (compound_layout_by f) o) (option_and_then (compound_layout_by g) p)
  slot_extended None p k = λ l e. absurd (none-some l e)
  slot_extended (Some c) p k = slot_complete c p c.members refl (λ ms is. k c ms refl is)

------ more depth

pub deeper : (compounds : List PlainCompound) (d n : ℕ) →
    Below (compound_layout compounds d n) (compound_layout compounds (suc d) n)
deeper compounds zero n = λ l e. absurd (none-some l e)
deeper compounds (suc d) n =
    slot_below (compound_layout compounds d) (compound_layout compounds (suc d)) (deeper compounds d)
    (slice_get compounds n)

much_deeper : (compounds : List PlainCompound) (d k m n : ℕ) → m ≡ k + d →
    Below (compound_layout compounds d n) (compound_layout compounds m n)
much_deeper compounds d zero m n e =
    let same : d ≡ m = omega arith in
    subst (λ x. Below (compound_layout compounds d n) (compound_layout compounds x n)) same (λ l is. is)
much_deeper compounds d (suc k) m n e =
    let same : suc (k + d) ≡ m = omega arith in
    subst (λ x. Below (compound_layout compounds d n) (compound_layout compounds x n)) same
    (λ l is. deeper compounds (k + d) n l (much_deeper compounds d k (k + d) n refl l is))

pub at_least : (compounds : List PlainCompound) (d m n : ℕ) → d ≤ m →
    Below (compound_layout compounds d n) (compound_layout compounds m n)
at_least compounds d m n h = much_deeper compounds d (m - d) m n (omega arith)

------ more structures and unions

-- what is complete in the first table is the same in the second
abbrev pub Extends : List PlainCompound → List PlainCompound → Type 0
Extends before after =
    (n : ℕ) (c : PlainCompound) (ms : List PlainMember) →
    slice_get before n ≡ Some c → c.members ≡ Some ms → slice_get after n ≡ Some c

pub extended : (before after : List PlainCompound) → Extends before after → (d n : ℕ) →
    Below (compound_layout before d n) (compound_layout after d n)
extended before after h zero n = λ l e. absurd (none-some l e)
extended before after h (suc d) n =
    slot_extended (compound_layout before d) (compound_layout after d) (extended before after h d)
    (slice_get before n) (slice_get after n) (h n)

------ incomplete ones

no_slot : (f : ℕ → Option Layout) (o : Option PlainCompound) → option_and_then (λ c. c.members) o ≡ None →
    option_and_then (compound_layout_by f) o ≡ None
no_slot f None e = refl
no_slot f (Some c) e = ap (listed f c.is_union) e

pub no_layout : (compounds : List PlainCompound) (d n : ℕ) → members_at compounds n ≡ None →
    compound_layout compounds d n ≡ None
no_layout compounds zero n e = refl
no_layout compounds (suc d) n e = no_slot (compound_layout compounds d) (slice_get compounds n) e

------ how many are complete

at_most_one : (o : Option (List PlainMember)) → counted o ≤ 1
at_most_one None = omega arith
at_most_one (Some ms) = omega arith

pub count_within : (compounds : List PlainCompound) → complete_count compounds ≤ length compounds
count_within [] = omega arith
count_within (c ∷ cs) =
    let one = at_most_one c.members in
    let rest = count_within cs in
    omega arith
