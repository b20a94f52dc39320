-- Offsets as the walk over members gathers them.
use Rattle.std.proofs.Common.{◌≡◌, ℕ, suc, ◌+◌, ◌<◌, ◌≤◌, max, Bool, true, false, cond, Option, None, Some, List, [], ◌∷◌, ◌++◌, length, get_or, drop, drop-cons, add-one, map, refl, ap, sym, ◌∙◌, arith, subst, append_assoc}
use Rattle.std.specs.Prelude.{IsSome}
use Rattle.std.specs.Option.{option_and_then, option_map}
use Rattle.std.proofs.lemmas.Option.{none-some, same_Some}
use Rattle.hv_base.specs.declared.limits.TheConstants.{MOST_OBJECT_BYTES}
use Rattle.hv_ctree.specs.declared.types.Layout.{Layout}
use Rattle.hv_ctree.specs.declared.types.Member.{Member}
use Rattle.hv_ctree.specs.types.Erasure.{type_of, member_of}
use Rattle.hv_ctree.specs.types.Plain.{PlainMember}
use Rattle.hv_ctree.specs.types.Layouts.{within_limit, layout_by, rounded_up, laid_out, member_layouts, offsets_from, end_from, largest_size, largest_align, taken}
use Rattle.hv_ctree.specs.types.Offsets.{offsets}
use Rattle.hv_ctypes.specs.working.Walks.{taken_after, bytes_from, offset_after, placed_from}
use Rattle.hv_ctypes.proofs.LayoutsLemmas.{within-some}
use Rattle.hv_ctypes.proofs.SettledLemmas.{within, within-small}

-- the offsets of a union's members
abbrev pub zeros : List Layout → List ℕ
zeros ls = map (λ member. 0) ls

module _ (of : ℕ → Option Layout) (is_union : Bool) where
  ------ bytes_from

  step_least : (bytes : ℕ) (l : Layout) → bytes ≤ taken_after is_union bytes l
  step_least bytes l =
      elim is_union as (λ u. bytes ≤ taken_after u bytes l) [ true ↦ omega arith | false ↦ omega arith ]

  member_least : (bytes : ℕ) (l : Layout) → l.size ≤ taken_after is_union bytes l
  member_least bytes l =
      elim is_union as (λ u. l.size ≤ taken_after u bytes l) [ true ↦ omega arith | false ↦ omega arith ]

  least_after : (bytes : ℕ) (ms : List PlainMember) (end : ℕ) (o : Option Layout) →
      ((b : ℕ) → bytes_from of is_union b ms ≡ Some end → b ≤ end) →
      option_and_then (λ l. bytes_from of is_union (taken_after is_union bytes l) ms) o ≡ Some end → bytes ≤ end
  least_after bytes ms end None rest e = absurd (none-some end e)
  least_after bytes ms end (Some l) rest e =
      let after = rest (taken_after is_union bytes l) e in
      let here = step_least bytes l in
      omega arith

  pub bytes_least : (bytes : ℕ) (ms : List PlainMember) (end : ℕ) → bytes_from of is_union bytes ms ≡ Some end → bytes ≤ end
  bytes_least bytes [] end e = let same : bytes ≡ end = same_Some bytes end e in omega arith
  bytes_least bytes (m ∷ ms) end e =
      least_after bytes ms end (layout_by of m.type) (λ b h. bytes_least b ms end h) e

  -- members end within the limit
  abbrev pub Fits : ℕ → List PlainMember → Type 0
  Fits bytes ms = (end : ℕ) × (bytes_from of is_union bytes ms ≡ Some end) × (end ≤ MOST_OBJECT_BYTES)

  -- so the first of them has a layout within the limit, and the others fit after it
  abbrev pub FitsFirst : ℕ → List PlainMember → Option Layout → Type 0
  FitsFirst bytes ms o =
      (l : Layout) × (o ≡ Some l) × (l.size ≤ MOST_OBJECT_BYTES) × (taken_after is_union bytes l ≤ MOST_OBJECT_BYTES)
      × Fits (taken_after is_union bytes l) ms

  fits_after : (bytes : ℕ) (ms : List PlainMember) (o : Option Layout) (end : ℕ) →
      option_and_then (λ l. bytes_from of is_union (taken_after is_union bytes l) ms) o ≡ Some end →
      end ≤ MOST_OBJECT_BYTES → FitsFirst bytes ms o
  fits_after bytes ms None end e h = absurd (none-some end e)
  fits_after bytes ms (Some l) end e h =
      let rest = bytes_least (taken_after is_union bytes l) ms end e in
      let here = member_least bytes l in
      (l, refl, (omega arith), (omega arith), (end, e, h))

  pub fits_first : (bytes : ℕ) (m : PlainMember) (ms : List PlainMember) → Fits bytes (m ∷ ms) →
      FitsFirst bytes ms (layout_by of m.type)
  fits_first bytes m ms (end, e, h) = fits_after bytes ms (layout_by of m.type) end e h

  ------ what members take by their layouts

  abbrev total_from : ℕ → List Layout → ℕ
  total_from bytes ls = cond is_union (max bytes (largest_size ls)) (end_from bytes ls)

  total_more : (bytes : ℕ) (l : Layout) (ls : List Layout) →
      total_from (taken_after is_union bytes l) ls ≡ total_from bytes (l ∷ ls)
  total_more bytes l ls =
      elim is_union as (λ u. cond u (max (taken_after u bytes l) (largest_size ls)) (end_from (taken_after u bytes l) ls)
      ≡ cond u (max bytes (largest_size (l ∷ ls))) (end_from bytes (l ∷ ls))) [ true ↦ omega arith | false ↦ refl ]

  mapped_total : (bytes : ℕ) (l : Layout) (ls : Option (List Layout)) →
      option_map (total_from (taken_after is_union bytes l)) ls
      ≡ option_map (total_from bytes) (option_map (λ others. l ∷ others) ls)
  mapped_total bytes l None = refl
  mapped_total bytes l (Some ls) = ap Some (total_more bytes l ls)

  bytes_step : (bytes : ℕ) (ms : List PlainMember) (o : Option Layout) →
      ((b : ℕ) → bytes_from of is_union b ms ≡ option_map (total_from b) (member_layouts of ms)) →
      option_and_then (λ l. bytes_from of is_union (taken_after is_union bytes l) ms) o
      ≡ option_map (total_from bytes)
      (option_and_then (λ first. option_map (λ others. first ∷ others) (member_layouts of ms)) o)
  bytes_step bytes ms None rest = refl
  bytes_step bytes ms (Some l) rest =
      rest (taken_after is_union bytes l) ∙ mapped_total bytes l (member_layouts of ms)

  pub bytes_are : (bytes : ℕ) (ms : List PlainMember) →
      bytes_from of is_union bytes ms ≡ option_map (total_from bytes) (member_layouts of ms)
  bytes_are bytes [] = ap Some (elim is_union as (λ u. bytes ≡ cond u (max bytes 0) bytes) [ true ↦ omega arith | false ↦ refl ])
  bytes_are bytes (m ∷ ms) = bytes_step bytes ms (layout_by of m.type) (λ b. bytes_are b ms)

  ------ offsets

  abbrev rest_from : ℕ → List Layout → List ℕ
  rest_from bytes ls = cond is_union (zeros ls) (offsets_from bytes ls)

  rest_more : (bytes : ℕ) (l : Layout) (ls : List Layout) →
      offset_after is_union bytes l ∷ rest_from (taken_after is_union bytes l) ls ≡ rest_from bytes (l ∷ ls)
  rest_more bytes l ls =
      elim is_union as (λ u. offset_after u bytes l ∷ cond u (zeros ls) (offsets_from (taken_after u bytes l) ls)
      ≡ cond u (zeros (l ∷ ls)) (offsets_from bytes (l ∷ ls))) [ true ↦ refl | false ↦ refl ]

  mapped_rest : (bytes : ℕ) (l : Layout) (ls : Option (List Layout)) →
      option_map (λ others. offset_after is_union bytes l ∷ others)
      (option_map (rest_from (taken_after is_union bytes l)) ls)
      ≡ option_map (rest_from bytes) (option_map (λ others. l ∷ others) ls)
  mapped_rest bytes l None = refl
  mapped_rest bytes l (Some ls) = ap Some (rest_more bytes l ls)

  no_rest : (bytes : ℕ) → [] ≡ rest_from bytes []
  no_rest bytes = elim is_union as (λ u. [] ≡ cond u (zeros []) (offsets_from bytes [])) [ true ↦ refl | false ↦ refl ]

  placed_step : (bytes : ℕ) (ms : List PlainMember) (o : Option Layout) →
      ((b : ℕ) → placed_from of is_union b ms ≡ option_map (rest_from b) (member_layouts of ms)) →
      option_and_then
      (λ l.
      option_map (λ others. offset_after is_union bytes l ∷ others)
      (placed_from of is_union (taken_after is_union bytes l) ms))
      o
      ≡ option_map (rest_from bytes)
      (option_and_then (λ first. option_map (λ others. first ∷ others) (member_layouts of ms)) o)
  placed_step bytes ms None rest = refl
  placed_step bytes ms (Some l) rest =
      ap (option_map (λ others. offset_after is_union bytes l ∷ others)) (rest (taken_after is_union bytes l))
      ∙ mapped_rest bytes l (member_layouts of ms)

  placed_are : (bytes : ℕ) (ms : List PlainMember) →
      placed_from of is_union bytes ms ≡ option_map (rest_from bytes) (member_layouts of ms)
  placed_are bytes [] = ap Some (no_rest bytes)
  placed_are bytes (m ∷ ms) = placed_step bytes ms (layout_by of m.type) (λ b. placed_are b ms)

  -- the walk gives the offsets
  pub placed_all : (ms : List PlainMember) →
      placed_from of is_union 0 ms ≡ option_map (offsets is_union) (member_layouts of ms)
  placed_all ms = placed_are 0 ms

  -- one more offset
  pub placed_more : (bytes : ℕ) (l : Layout) (m : PlainMember) (ms : List PlainMember) (found : List ℕ) →
      layout_by of m.type ≡ Some l →
      option_map (λ rest. (found ++ offset_after is_union bytes l ∷ []) ++ rest)
      (placed_from of is_union (taken_after is_union bytes l) ms)
      ≡ option_map (λ rest. found ++ rest) (placed_from of is_union bytes (m ∷ ms))
  placed_more bytes l m ms found e =
      more (placed_from of is_union (taken_after is_union bytes l) ms)
      ∙ ap (λ o. option_map (λ rest. found ++ rest)
      (option_and_then
      (λ k.
      option_map (λ others. offset_after is_union bytes k ∷ others)
      (placed_from of is_union (taken_after is_union bytes k) ms))
      o)) (sym e)
    where
      more : (o : Option (List ℕ)) →
          option_map (λ rest. (found ++ offset_after is_union bytes l ∷ []) ++ rest) o
          ≡ option_map (λ rest. found ++ rest) (option_map (λ others. offset_after is_union bytes l ∷ others) o)
      more None = refl
      more (Some rest) = ap Some (append_assoc found (offset_after is_union bytes l ∷ []) rest)

------ members that have a layout together fit

rounded_least : (is_union : Bool) (ls : List Layout) (whole : Layout) → laid_out is_union ls ≡ Some whole →
    taken is_union ls ≤ whole.size
rounded_least is_union [] whole e = absurd (none-some whole e)
rounded_least is_union (l ∷ ls) whole e =
    let same : rounded_up (taken is_union (l ∷ ls)) (largest_align (l ∷ ls)) ≡ whole.size =
    ap (λ w. w.size) (same_Some _ whole e) in
    omega arith

total_taken : (of : ℕ → Option Layout) (is_union : Bool) (ls : List Layout) →
    cond is_union (max 0 (largest_size ls)) (end_from 0 ls) ≡ taken is_union ls
total_taken of true ls = omega arith
total_taken of false ls = refl

fit_together : (of : ℕ → Option Layout) (is_union : Bool) (ms : List PlainMember) (o : Option (List Layout)) (whole : Layout) →
    member_layouts of ms ≡ o → within_limit (option_and_then (laid_out is_union) o) ≡ Some whole → Fits of is_union 0 ms
fit_together of is_union ms None whole e h = absurd (none-some whole h)
fit_together of is_union ms (Some ls) whole e h =
    let bound = within-small (laid_out is_union ls) whole h in
    let laid : laid_out is_union ls ≡ Some whole = within-some (laid_out is_union ls) whole (sym h) in
    let least = rounded_least is_union ls whole laid in (
      taken is_union ls,
      bytes_are of is_union 0 ms ∙ (ap (option_map (λ ls. cond is_union (max 0 (largest_size ls)) (end_from 0 ls))) e ∙ ap Some (total_taken of is_union ls)),
      (omega arith),
    )

pub fit : (of : ℕ → Option Layout) (is_union : Bool) (ms : List PlainMember) (whole : Layout) →
    within_limit (option_and_then (laid_out is_union) (member_layouts of ms)) ≡ Some whole → Fits of is_union 0 ms
fit of is_union ms whole h = fit_together of is_union ms (member_layouts of ms) whole refl h

fit_if : (of : ℕ → Option Layout) (is_union : Bool) (ms : List PlainMember) (o : Option Layout) →
    within_limit (option_and_then (laid_out is_union) (member_layouts of ms)) ≡ o → IsSome o → Fits of is_union 0 ms
fit_if of is_union ms None e some = cc
fit_if of is_union ms (Some whole) e some = fit of is_union ms whole e

pub fit_some : (of : ℕ → Option Layout) (is_union : Bool) (ms : List PlainMember) →
    IsSome (within_limit (option_and_then (laid_out is_union) (member_layouts of ms))) → Fits of is_union 0 ms
fit_some of is_union ms some = fit_if of is_union ms _ refl some

------ declared members, from the one with an index on

module _ (of : ℕ → Option Layout) (is_union : Bool) (members : List Member) where
  pub placed_start : (start : List ℕ) → start ≡ [] →
      option_map (λ rest. start ++ rest) (placed_from of is_union 0 (map member_of members))
      ≡ option_map (offsets is_union) (member_layouts of (map member_of members))
  placed_start start e =
      ap (λ xs. option_map (λ rest. xs ++ rest) (placed_from of is_union 0 (map member_of members))) e
      ∙ (nothing_before (placed_from of is_union 0 (map member_of members))
      ∙ placed_all of is_union (map member_of members))
    where
      nothing_before : (o : Option (List ℕ)) → option_map (λ rest. [] ++ rest) o ≡ o
      nothing_before None = refl
      nothing_before (Some rest) = refl

  module _ (i : ℕ) (m : Member) (inside : i < length members) (is : m ≡ get_or members i m) where
    abbrev after : List PlainMember
    after = map member_of (drop (i + 1) members)

    pub items : map member_of (drop i members) ≡ member_of m ∷ map member_of (drop (i + 1) members)
    items =
        ap (map member_of) (drop-cons members i m inside)
        ∙ (ap (λ x. member_of x ∷ map member_of (drop (suc i) members)) (sym is)
        ∙ ap (λ n. member_of m ∷ map member_of (drop n members)) (sym (add-one i)))

    pub first_item : (bytes : ℕ) → Fits of is_union bytes (map member_of (drop i members)) →
        FitsFirst of is_union bytes (map member_of (drop (i + 1) members)) (layout_by of (type_of m.of))
    first_item bytes fits =
        fits_first of is_union bytes (member_of m) after (subst (Fits of is_union bytes) items fits)

    none_fails : (o : Option Layout) (bytes : ℕ) → FitsFirst of is_union bytes after o → None ≡ within_limit o → ⊥
    none_fails o bytes (l, some, small, within_it, rest) e = none-some l (e ∙ (ap within_limit some ∙ within l small))

    -- the next member has a layout
    pub item_has : (bytes : ℕ) → Fits of is_union bytes (map member_of (drop i members)) →
        None ≡ within_limit (layout_by of (type_of m.of)) → ⊥
    item_has bytes fits e = none_fails (layout_by of (type_of m.of)) bytes (first_item bytes fits) e

    module _ (bytes : ℕ) (l : Layout) (some : Some l ≡ within_limit (layout_by of (type_of m.of)))
        (now : ℕ) (now_is : now ≡ taken_after is_union bytes l) where
      abbrev has : layout_by of (type_of m.of) ≡ Some l
      has = within-some (layout_by of (type_of m.of)) l some

      rest_fits : (o : Option Layout) → FitsFirst of is_union bytes after o → o ≡ Some l →
          (taken_after is_union bytes l ≤ MOST_OBJECT_BYTES) × Fits of is_union (taken_after is_union bytes l) after
      rest_fits o (k, is_k, small, within_it, rest) is_l =
          let same : k ≡ l = same_Some k l (sym is_k ∙ is_l) in
          subst (λ x. (taken_after is_union bytes x ≤ MOST_OBJECT_BYTES) × Fits of is_union (taken_after is_union bytes x) after) same (within_it, rest)

      -- and the others fit after it
      pub item_fits : Fits of is_union bytes (map member_of (drop i members)) →
          (now ≤ MOST_OBJECT_BYTES) × Fits of is_union now (map member_of (drop (i + 1) members))
      item_fits fits =
          subst (λ b. (b ≤ MOST_OBJECT_BYTES) × Fits of is_union b after) (sym now_is)
          (rest_fits (layout_by of (type_of m.of)) (first_item bytes fits) has)

      pub item_placed : (found more : List ℕ) (offset : ℕ) → offset ≡ offset_after is_union bytes l →
          more ≡ found ++ offset ∷ [] →
          option_map (λ rest. more ++ rest) (placed_from of is_union now (map member_of (drop (i + 1) members)))
          ≡ option_map (λ rest. found ++ rest) (placed_from of is_union bytes (map member_of (drop i members)))
      item_placed found more offset offset_is more_is =
          ap (λ xs. option_map (λ rest. xs ++ rest) (placed_from of is_union now after)) (more_is ∙ ap (λ x. found ++ x ∷ []) offset_is)
          ∙ (ap (λ b. option_map (λ rest. (found ++ offset_after is_union bytes l ∷ []) ++ rest) (placed_from of is_union b after)) now_is
          ∙ (placed_more of is_union bytes l (member_of m) after found has
          ∙ ap (λ ms. option_map (λ rest. found ++ rest) (placed_from of is_union bytes ms)) (sym items)))
