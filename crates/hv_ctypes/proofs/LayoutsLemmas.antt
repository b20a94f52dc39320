-- Layouts within the limit, as the walk over types computes them.
use Rattle.std.proofs.Common.{◌≡◌, ℕ, zero, suc, ◌+◌, ◌*◌, ◌<◌, ◌≤◌, max, Bool, true, false, cond, Option, None, Some, List, [], ◌∷◌, length, get_or, drop, drop-cons, add-one, map, refl, ap, sym, ◌∙◌, arith, inl, inr, ◌⊎◌}
use Rattle.std.specs.Option.{option_and_then, option_map}
use Rattle.std.proofs.lemmas.Bool.Decides.{leb_tells, eqb_tells}
use Rattle.std.proofs.lemmas.Bool.{lt-leb}
use Rattle.hv_ctree.specs.declared.types.Layout.{Layout}
use Rattle.hv_ctree.specs.declared.types.Member.{Member}
use Rattle.hv_ctree.specs.types.Erasure.{type_of, member_of}
use Rattle.hv_base.specs.declared.limits.TheConstants.{MOST_OBJECT_BYTES}
use Rattle.hv_ctree.specs.types.Plain.{PlainType, plain, PlainShape, void, integer, enumeration, compound, pointer, array, function, PlainMember}
use Rattle.hv_ctree.specs.types.Layouts.{within_limit, repeated, layout_by, shape_layout_by, rounded_up, laid_out, member_layouts, end_from, largest_size, largest_align, taken}
use Rattle.hv_ctypes.specs.working.Walks.{innermost, innermost_shape, taken_after, laid_from}

------ within_limit

-- a layout beyond the limit
pub beyond : (l : Layout) → MOST_OBJECT_BYTES < l.size → within_limit (Some l) ≡ None
beyond l h = rw (lt-leb l.size MOST_OBJECT_BYTES h) refl

none_is_no_some : (l : Layout) → Some l ≡ None → ⊥
none_is_no_some l e = cc

-- what is answered within the limit is the layout itself
pub within-some : (o : Option Layout) (l : Layout) → Some l ≡ within_limit o → o ≡ Some l
within-some None l e = sym e
within-some (Some k) l e =
    elim (leb_tells k.size MOST_OBJECT_BYTES) [
      | inl (is, h) ↦ sym (e ∙ ap (λ b. cond b (Some k) None) is)
      | inr (isnt, h) ↦ absurd (none_is_no_some l (e ∙ ap (λ b. cond b (Some k) None) isnt))
    ]

-- and else there is none, or it is beyond
pub within-none : (o : Option Layout) → None ≡ within_limit o →
    (o ≡ None) ⊎ ((l : Layout) × (o ≡ Some l) × (MOST_OBJECT_BYTES < l.size))
within-none None e = inl refl
within-none (Some k) e =
    elim (leb_tells k.size MOST_OBJECT_BYTES) [
      | inl (is, h) ↦ absurd (none_is_no_some k (sym (e ∙ ap (λ b. cond b (Some k) None) is)))
      | inr (isnt, h) ↦ inr (k, refl, h)
    ]

pub within_twice : (o : Option Layout) → within_limit (within_limit o) ≡ within_limit o
within_twice None = refl
within_twice (Some k) =
    elim (leb_tells k.size MOST_OBJECT_BYTES) [
      | inl (is, h) ↦ rw (is, is) refl
      | inr (isnt, h) ↦ rw isnt refl
    ]

------ layout_around

as_large : (n size : ℕ) → (n ≡ 0 → ⊥) → MOST_OBJECT_BYTES < size → MOST_OBJECT_BYTES < n * size
as_large zero size some h = absurd (some refl)
as_large (suc n) size some h = omega arith

many_beyond : (n : ℕ) (l : Layout) → MOST_OBJECT_BYTES < l.size → within_limit (repeated (Some n) (Some l)) ≡ None
many_beyond n l h =
    elim (eqb_tells n 0) [
      | inl (is, e) ↦ rw is refl
      | inr (isnt, some) ↦
          rw isnt (beyond (record { size = n * l.size; align = l.align }) (as_large n l.size some h))
    ]

-- an array of elements beyond the limit is beyond it
pub repeated_within : (count : Option ℕ) (element : Option Layout) →
    within_limit (repeated count (within_limit element)) ≡ within_limit (repeated count element)
repeated_within None element = refl
repeated_within (Some n) None = refl
repeated_within (Some n) (Some l) =
    elim (leb_tells l.size MOST_OBJECT_BYTES) [
      | inl (is, h) ↦ rw is refl
      | inr (isnt, h) ↦ rw isnt (sym (many_beyond n l h))
    ]

-- the layouts of structures and unions are asked for at most one of them
mutual
  pub around : (of : ℕ → Option Layout) (t : PlainType) →
      layout_by of t ≡ layout_by (λ _. option_and_then of (innermost t)) t
  around of (plain constant shape) = around_shape of shape

  pub around_shape : (of : ℕ → Option Layout) (shape : PlainShape) →
      shape_layout_by of shape ≡ shape_layout_by (λ _. option_and_then of (innermost_shape shape)) shape
  around_shape of void = refl
  around_shape of (integer kind) = refl
  around_shape of (enumeration number) = refl
  around_shape of (compound number) = refl
  around_shape of (pointer t) = refl
  around_shape of (array t count) = ap (repeated count) (around of t)
  around_shape of (function result parameters variadic) = refl

-- one beyond the limit makes what holds it none
mutual
  pub around_within : (o : Option Layout) (t : PlainType) →
      within_limit (layout_by (λ _. within_limit o) t) ≡ within_limit (layout_by (λ _. o) t)
  around_within o (plain constant shape) = around_shape_within o shape

  pub around_shape_within : (o : Option Layout) (shape : PlainShape) →
      within_limit (shape_layout_by (λ _. within_limit o) shape) ≡ within_limit (shape_layout_by (λ _. o) shape)
  around_shape_within o void = refl
  around_shape_within o (integer kind) = refl
  around_shape_within o (enumeration number) = refl
  around_shape_within o (compound number) = within_twice o
  around_shape_within o (pointer t) = refl
  around_shape_within o (array t count) =
      sym (repeated_within count (layout_by (λ _. within_limit o) t))
      ∙ ap (λ e. within_limit (repeated count e)) (around_within o t)
      ∙ repeated_within count (layout_by (λ _. o) t)
  around_shape_within o (function result parameters variadic) = refl

------ members_layout

-- one more member takes no less
more : (is_union : Bool) (taken : ℕ) (l : Layout) → MOST_OBJECT_BYTES < taken →
    MOST_OBJECT_BYTES < taken_after is_union taken l
more true taken l h = omega arith
more false taken l h = omega arith

-- and no less than the member
over : (is_union : Bool) (taken : ℕ) (l : Layout) → MOST_OBJECT_BYTES < l.size →
    MOST_OBJECT_BYTES < taken_after is_union taken l
over true taken l h = omega arith
over false taken l h = omega arith

module _ (of : ℕ → Option Layout) (is_union : Bool) where
  one_more : (bytes align : ℕ) (ms : List PlainMember) (o : Option Layout) →
      ((b c : ℕ) → MOST_OBJECT_BYTES < b → within_limit (laid_from of is_union b c ms) ≡ None) →
      MOST_OBJECT_BYTES < bytes →
      within_limit
      (option_and_then (λ l. laid_from of is_union (taken_after is_union bytes l) (max align l.align) ms) o)
      ≡ None
  one_more bytes align ms None rest h = refl
  one_more bytes align ms (Some l) rest h = rest (taken_after is_union bytes l) (max align l.align) (more is_union bytes l h)

  -- members that take more than the limit
  pub too_large : (bytes align : ℕ) (ms : List PlainMember) → MOST_OBJECT_BYTES < bytes →
      within_limit (laid_from of is_union bytes align ms) ≡ None
  too_large bytes align [] h = beyond (record { size = rounded_up bytes align; align = align }) (omega arith)
  too_large bytes align (m ∷ ms) h =
      one_more bytes align ms (layout_by of m.type) (λ b c k. too_large b c ms k) h

  -- a member beyond the limit, or without a layout
  pub member-none : (bytes align : ℕ) (m : PlainMember) (ms : List PlainMember) →
      None ≡ within_limit (layout_by of m.type) →
      within_limit (laid_from of is_union bytes align (m ∷ ms)) ≡ None
  member-none bytes align m ms e =
      elim (within-none (layout_by of m.type) e) [
        | inl none ↦ rw none refl
        | inr (l, some, large) ↦
            rw some (too_large (taken_after is_union bytes l) (max align l.align) ms (over is_union bytes l large))
      ]

  pub member-some : (bytes align : ℕ) (m : PlainMember) (ms : List PlainMember) (l : Layout) →
      Some l ≡ within_limit (layout_by of m.type) →
      laid_from of is_union bytes align (m ∷ ms)
      ≡ laid_from of is_union (taken_after is_union bytes l) (max align l.align) ms
  member-some bytes align m ms l e = rw (within-some (layout_by of m.type) l e) refl

-- what members take, with what stands before them
abbrev taken_from : Bool → ℕ → List Layout → ℕ
taken_from is_union bytes ls = cond is_union (max bytes (largest_size ls)) (end_from bytes ls)

abbrev made : ℕ → ℕ → Layout
made bytes align = record { size = rounded_up bytes align; align = align }

-- a structure or union by the layouts of all its members
abbrev whole_from : Bool → ℕ → ℕ → List Layout → Layout
whole_from is_union bytes align ls = made (taken_from is_union bytes ls) (max align (largest_align ls))

same_made : (p q a b : ℕ) → p ≡ q → a ≡ b → made p a ≡ made q b
same_made p q a b e f = ap (λ x. made x a) e ∙ ap (λ x. made q x) f

whole_from-empty : (is_union : Bool) (bytes align : ℕ) → 1 ≤ align →
    made bytes align ≡ whole_from is_union bytes align []
whole_from-empty true bytes align h = same_made _ _ _ _ (omega arith) (omega arith)
whole_from-empty false bytes align h = same_made _ _ _ _ refl (omega arith)

whole_from-more : (is_union : Bool) (bytes align : ℕ) (l : Layout) (ls : List Layout) →
    whole_from is_union (taken_after is_union bytes l) (max align l.align) ls
    ≡ whole_from is_union bytes align (l ∷ ls)
whole_from-more true bytes align l ls = same_made _ _ _ _ (omega arith) (omega arith)
whole_from-more false bytes align l ls = same_made _ _ _ _ refl (omega arith)

largest_align_positive : (ls : List Layout) → 1 ≤ largest_align ls
largest_align_positive [] = omega arith
largest_align_positive (l ∷ ls) = let h : 1 ≤ largest_align ls = largest_align_positive ls in omega arith

whole_from-first : (is_union : Bool) (l : Layout) (ls : List Layout) →
    Some (whole_from is_union 0 1 (l ∷ ls)) ≡ laid_out is_union (l ∷ ls)
whole_from-first true l ls =
    let h : 1 ≤ largest_align (l ∷ ls) = largest_align_positive (l ∷ ls) in
    ap Some (same_made _ _ _ _ (omega arith) (omega arith))
whole_from-first false l ls =
    let h : 1 ≤ largest_align (l ∷ ls) = largest_align_positive (l ∷ ls) in
    ap Some (same_made _ _ _ _ refl (omega arith))

module _ (of : ℕ → Option Layout) (is_union : Bool) where
  mapped_more : (bytes align : ℕ) (l : Layout) (ls : Option (List Layout)) →
      option_map (whole_from is_union (taken_after is_union bytes l) (max align l.align)) ls
      ≡ option_map (whole_from is_union bytes align) (option_map (λ others. l ∷ others) ls)
  mapped_more bytes align l None = refl
  mapped_more bytes align l (Some ls) = ap Some (whole_from-more is_union bytes align l ls)

  laid_step : (bytes align : ℕ) (ms : List PlainMember) (o : Option Layout) → 1 ≤ align →
      ((b a : ℕ) → 1 ≤ a →
      laid_from of is_union b a ms ≡ option_map (whole_from is_union b a) (member_layouts of ms)) →
      option_and_then (λ l. laid_from of is_union (taken_after is_union bytes l) (max align l.align) ms) o
      ≡ option_map (whole_from is_union bytes align)
      (option_and_then (λ first. option_map (λ others. first ∷ others) (member_layouts of ms)) o)
  laid_step bytes align ms None h rest = refl
  laid_step bytes align ms (Some l) h rest =
      rest (taken_after is_union bytes l) (max align l.align) (omega arith)
      ∙ mapped_more bytes align l (member_layouts of ms)

  laid : (bytes align : ℕ) (ms : List PlainMember) → 1 ≤ align →
      laid_from of is_union bytes align ms
      ≡ option_map (whole_from is_union bytes align) (member_layouts of ms)
  laid bytes align [] h = ap Some (whole_from-empty is_union bytes align h)
  laid bytes align (m ∷ ms) h =
      laid_step bytes align ms (layout_by of m.type) h (λ b a k. laid b a ms k)

  first_of_all : (o : Option Layout) (ls : Option (List Layout)) →
      option_map (whole_from is_union 0 1)
      (option_and_then (λ first. option_map (λ others. first ∷ others) ls) o)
      ≡ option_and_then (laid_out is_union)
      (option_and_then (λ first. option_map (λ others. first ∷ others) ls) o)
  first_of_all None ls = refl
  first_of_all (Some l) None = refl
  first_of_all (Some l) (Some ls) = whole_from-first is_union l ls

  -- the walk gives the layout of the structure or union
  pub laid_whole : (m : PlainMember) (ms : List PlainMember) →
      laid_from of is_union 0 1 (m ∷ ms) ≡ option_and_then (laid_out is_union) (member_layouts of (m ∷ ms))
  laid_whole m ms =
      laid 0 1 (m ∷ ms) (omega arith) ∙ first_of_all (layout_by of m.type) (member_layouts of ms)

  -- the same of declared members
  pub laid_members : (members : List Member) → (length members ≡ 0 → ⊥) →
      within_limit (laid_from of is_union 0 1 (map member_of members))
      ≡ within_limit (option_and_then (laid_out is_union) (member_layouts of (map member_of members)))
  laid_members [] some = absurd (some refl)
  laid_members (m ∷ ms) some = ap within_limit (laid_whole (member_of m) (map member_of ms))

  -- the walk at the member with an index
  member_at : (bytes align : ℕ) (members : List Member) (i : ℕ) (m : Member) → i < length members →
      m ≡ get_or members i m →
      laid_from of is_union bytes align (map member_of (drop i members))
      ≡ laid_from of is_union bytes align (member_of m ∷ map member_of (drop (i + 1) members))
  member_at bytes align members i m h e =
      ap (λ xs. laid_from of is_union bytes align (map member_of xs)) (drop-cons members i m h)
      ∙ (ap (λ x. laid_from of is_union bytes align (member_of x ∷ map member_of (drop (suc i) members))) (sym e)
      ∙ ap (λ n. laid_from of is_union bytes align (member_of m ∷ map member_of (drop n members))) (sym (add-one i)))

  pub item-none : (bytes align : ℕ) (members : List Member) (i : ℕ) (m : Member) → i < length members →
      m ≡ get_or members i m → None ≡ within_limit (layout_by of (type_of m.of)) →
      within_limit (laid_from of is_union bytes align (map member_of (drop i members))) ≡ None
  item-none bytes align members i m h e none =
      ap within_limit (member_at bytes align members i m h e)
      ∙ member-none of is_union bytes align (member_of m) (map member_of (drop (i + 1) members)) none

  pub item-some : (bytes align : ℕ) (members : List Member) (i : ℕ) (m : Member) (l : Layout) →
      i < length members → m ≡ get_or members i m → Some l ≡ within_limit (layout_by of (type_of m.of)) →
      laid_from of is_union bytes align (map member_of (drop i members))
      ≡ laid_from of is_union (taken_after is_union bytes l) (max align l.align)
      (map member_of (drop (i + 1) members))
  item-some bytes align members i m l h e some =
      member_at bytes align members i m h e
      ∙ member-some of is_union bytes align (member_of m) (map member_of (drop (i + 1) members)) l some

------ type_layout

pub around_all : (compounds : ℕ → Option Layout) (t : PlainType) (of : Option Layout) →
    of ≡ within_limit (option_and_then compounds (innermost t)) →
    within_limit (layout_by (λ _. of) t) ≡ within_limit (layout_by compounds t)
around_all compounds t of e =
    ap (λ o. within_limit (layout_by (λ _. o) t)) e
    ∙ (around_within (option_and_then compounds (innermost t)) t
    ∙ ap within_limit (sym (around compounds t)))
