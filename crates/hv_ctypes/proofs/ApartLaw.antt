-- Members of a structure don't overlap, and lie within it at multiples of their alignments.
use Rattle.std.proofs.Common.{◌≡◌, ℕ, zero, suc, ◌+◌, ◌<◌, ◌≤◌, ◌%◌, Bool, true, false, Option, None, Some, List, [], ◌∷◌, length, map, refl, ap, sym, ◌∙◌, arith, subst}
use Rattle.std.specs.Prelude.{slice_get, is_some}
use Rattle.std.specs.Option.{option_and_then, option_map}
use Rattle.std.proofs.lemmas.Option.{none-some, same_Some, slice_get-map}
use Rattle.hv_ctree.specs.declared.types.Layout.{Layout}
use Rattle.hv_ctree.specs.declared.types.Member.{Member}
use Rattle.hv_ctree.specs.declared.types.CompoundType.{CompoundType}
use Rattle.hv_ctree.specs.types.Erasure.{member_of, compound_of}
use Rattle.hv_ctree.specs.types.Plain.{PlainMember, PlainCompound}
use Rattle.hv_ctree.specs.types.Layouts.{within_limit, rounded_up, laid_out, member_layouts, offsets_from, end_from, largest_size, largest_align, taken, compound_layout_by}
use Rattle.hv_ctree.specs.types.Offsets.{offsets, LieApart}
use Rattle.hv_ctypes.specs.Compounds.{layouts_in, layout_of_members}
use Rattle.hv_ctypes.specs.Members.{offsets_of, offsets_at, LieApartAt}
use Rattle.hv_ctypes.proofs.LayoutsLemmas.{within-some}
use Rattle.hv_ctypes.proofs.SettledLemmas.{within, within-small}
use Rattle.hv_ctypes.proofs.OffsetsLemmas.{zeros}
use Rattle.hv_ctypes.proofs.DepthLemmas.{deeper, listed}
use Rattle.hv_ctypes.proofs.LayoutLaws.{IsAlign, is_1, is_2, is_4, is_8, All, EachList, no_remainder, align_whole, rounded_whole, members_whole, compound_whole}

------ structures

offset_least : (position : ℕ) (ls : List Layout) (j later : ℕ) → slice_get (offsets_from position ls) j ≡ Some later → position ≤ later
offset_least position [] j later e = absurd (none-some later e)
offset_least position (l ∷ ls) zero later e =
    let same : rounded_up position l.align ≡ later = same_Some _ later e in
    omega arith
offset_least position (l ∷ ls) (suc j) later e =
    let rest = offset_least (rounded_up position l.align + l.size) ls j later e in
    omega arith

end_least : (position : ℕ) (ls : List Layout) → position ≤ end_from position ls
end_least position [] = omega arith
end_least position (l ∷ ls) =
    let rest = end_least (rounded_up position l.align + l.size) ls in
    omega arith

count_offsets : (position : ℕ) (ls : List Layout) → length (offsets_from position ls) ≡ length ls
count_offsets position [] = refl
count_offsets position (l ∷ ls) = ap suc (count_offsets (rounded_up position l.align + l.size) ls)

ends_inside : (position : ℕ) (ls : List Layout) (i : ℕ) (m : Layout) (at : ℕ) →
    slice_get ls i ≡ Some m → slice_get (offsets_from position ls) i ≡ Some at → at + m.size ≤ end_from position ls
ends_inside position [] i m at e f = absurd (none-some m e)
ends_inside position (l ∷ ls) zero m at e f =
    let one : rounded_up position l.align ≡ at = same_Some _ at f in
    let size : l.size ≡ m.size = ap (λ x. x.size) (same_Some l m e) in
    let rest = end_least (rounded_up position l.align + l.size) ls in
    omega arith
ends_inside position (l ∷ ls) (suc i) m at e f = ends_inside (rounded_up position l.align + l.size) ls i m at e f

apart_from : (position : ℕ) (ls : List Layout) (i j : ℕ) (m : Layout) (at later : ℕ) → i < j →
    slice_get ls i ≡ Some m → slice_get (offsets_from position ls) i ≡ Some at →
    slice_get (offsets_from position ls) j ≡ Some later → at + m.size ≤ later
apart_from position [] i j m at later h e f g = absurd (none-some m e)
apart_from position (l ∷ ls) i zero m at later h e f g = absurd (omega arith)
apart_from position (l ∷ ls) zero (suc j) m at later h e f g =
    let one : rounded_up position l.align ≡ at = same_Some _ at f in
    let size : l.size ≡ m.size = ap (λ x. x.size) (same_Some l m e) in
    let rest = offset_least (rounded_up position l.align + l.size) ls j later g in
    omega arith
apart_from position (l ∷ ls) (suc i) (suc j) m at later h e f g =
    apart_from (rounded_up position l.align + l.size) ls i j m at later (omega arith) e f g

aligned_from : (position : ℕ) (ls : List Layout) → All ls → (i : ℕ) (m : Layout) (at : ℕ) →
    slice_get ls i ≡ Some m → slice_get (offsets_from position ls) i ≡ Some at → at % m.align ≡ 0
aligned_from position [] w i m at e f = absurd (none-some m e)
aligned_from position (l ∷ ls) w zero m at e f =
    let here : rounded_up position l.align % l.align ≡ 0 =
    no_remainder _ _ (rounded_whole position l.align (align_whole l.size l.align w.0)) in
    sym (ap (λ x. rounded_up position l.align % x) (ap (λ x. x.align) (same_Some l m e))
    ∙ ap (λ x. x % m.align) (same_Some _ at f)) ∙ here
aligned_from position (l ∷ ls) w (suc i) m at e f =
    aligned_from (rounded_up position l.align + l.size) ls w.1 i m at e f

------ unions

at_beginning : (ls : List Layout) (i at : ℕ) → slice_get (zeros ls) i ≡ Some at → at ≡ 0
at_beginning [] i at e = absurd (none-some at e)
at_beginning (l ∷ ls) zero at e = sym (same_Some 0 at e)
at_beginning (l ∷ ls) (suc i) at e = at_beginning ls i at e

count_zeros : (ls : List Layout) → length (zeros ls) ≡ length ls
count_zeros [] = refl
count_zeros (l ∷ ls) = ap suc (count_zeros ls)

size_within : (ls : List Layout) (i : ℕ) (m : Layout) → slice_get ls i ≡ Some m → m.size ≤ largest_size ls
size_within [] i m e = absurd (none-some m e)
size_within (l ∷ ls) zero m e =
    let same : l.size ≡ m.size = ap (λ x. x.size) (same_Some l m e) in
    omega arith
size_within (l ∷ ls) (suc i) m e =
    let rest = size_within ls i m e in
    omega arith

no_rest_of_zero : (a : ℕ) → IsAlign a → 0 % a ≡ 0
no_rest_of_zero _ is_1 = refl
no_rest_of_zero _ is_2 = refl
no_rest_of_zero _ is_4 = refl
no_rest_of_zero _ is_8 = refl

align_at : (ls : List Layout) → All ls → (i : ℕ) (m : Layout) → slice_get ls i ≡ Some m → IsAlign m.align
align_at [] w i m e = absurd (none-some m e)
align_at (l ∷ ls) w zero m e = subst IsAlign (ap (λ x. x.align) (same_Some l m e)) (align_whole l.size l.align w.0)
align_at (l ∷ ls) w (suc i) m e = align_at ls w.1 i m e

------ both

padding : (is_union : Bool) (ls : List Layout) (whole : Layout) → laid_out is_union ls ≡ Some whole →
    taken is_union ls ≤ whole.size
padding is_union [] whole e = absurd (none-some whole e)
padding is_union (l ∷ ls) whole e =
    let same : rounded_up (taken is_union (l ∷ ls)) (largest_align (l ∷ ls)) ≡ whole.size =
    ap (λ w. w.size) (same_Some _ whole e) in
    omega arith

lie_apart : (is_union : Bool) (ls : List Layout) (whole : Layout) → All ls → laid_out is_union ls ≡ Some whole →
    LieApart is_union ls (offsets is_union ls) whole.size
lie_apart false ls whole w e =
    let padded = padding false ls whole e in
    record {
      each = count_offsets 0 ls;
      aligned = aligned_from 0 ls w;
      inside = λ i m at is here. let ends = ends_inside 0 ls i m at is here in omega arith;
      apart = λ _ i j m at later h is here there. apart_from 0 ls i j m at later h is here there;
    }
lie_apart true ls whole w e =
    let padded = padding true ls whole e in
    record {
      each = count_zeros ls;
      aligned =
          λ i m at is here.
          ap (λ x. x % m.align) (at_beginning ls i at here) ∙ no_rest_of_zero m.align (align_at ls w i m is);
      inside =
          λ i m at is here.
          let zero_at = at_beginning ls i at here in
          let bound = size_within ls i m is in
          omega arith;
      apart = λ never. absurd (true_isnt_false never);
    }
  where
    true_isnt_false : true ≡ false → ⊥
    true_isnt_false never = cc

------ at a number

all_members : (compounds : List PlainCompound) (ms : List PlainMember) (o : Option (List Layout)) (ls : List Layout) →
    member_layouts (layouts_in compounds) ms ≡ o → o ≡ Some ls → All ls
all_members compounds ms o ls e f =
    subst EachList (e ∙ f)
    (members_whole (layouts_in compounds) (compound_whole compounds (length compounds)) ms)

-- a layout is that of the members
pub opened : (compounds : List PlainCompound) (number : ℕ) (c : PlainCompound) (ms : List PlainMember) (whole : Layout) →
    slice_get compounds number ≡ Some c → c.members ≡ Some ms → layouts_in compounds number ≡ Some whole →
    option_and_then (laid_out c.is_union) (member_layouts (layouts_in compounds) ms) ≡ Some whole
opened compounds number c ms whole there is e =
    sym (ap (option_and_then (compound_layout_by (layouts_in compounds))) there
    ∙ ap (listed (layouts_in compounds) c.is_union) is)
    ∙ deeper compounds (length compounds) number whole e

which_offsets : (o : Option Layout) (found : List ℕ) (rest : Option (List ℕ)) →
    Some found ≡ option_and_then (λ whole. rest) o → Some found ≡ rest
which_offsets None found rest e = absurd (none-some found (sym e))
which_offsets (Some whole) found rest e = e

pub offsets_apart : (compounds : List PlainCompound) (number : ℕ) (found : List ℕ) →
    Some found ≡ offsets_at compounds number → LieApartAt compounds number found
offsets_apart compounds number found e c ms members whole there complete laid whole_is =
    let chosen = which_offsets _ found (option_and_then (offsets_of compounds) (slice_get compounds number)) e in
    let these : Some found ≡ Some (offsets c.is_union members) =
    chosen
    ∙ (ap (option_and_then (offsets_of compounds)) there
    ∙ (ap (option_and_then (λ ms. option_map (offsets c.is_union) (member_layouts (layouts_in compounds) ms))) complete
    ∙ ap (option_map (offsets c.is_union)) laid)) in
    let whole_of : laid_out c.is_union members ≡ Some whole =
    sym (ap (option_and_then (laid_out c.is_union)) laid) ∙ opened compounds number c ms whole there complete whole_is in
    subst (λ os. LieApart c.is_union members os whole.size) (sym (same_Some _ _ these))
    (lie_apart c.is_union members whole (all_members compounds ms _ members refl laid) whole_of)

------ member_offsets

offsets_none : (o : Option Layout) → None ≡ option_and_then {U = List ℕ} (λ whole. None) o
offsets_none None = refl
offsets_none (Some whole) = refl

nothing_at : (compounds : List PlainCompound) (number : ℕ) →
    option_and_then (offsets_of compounds) (slice_get compounds number) ≡ None → None ≡ offsets_at compounds number
nothing_at compounds number e =
    offsets_none (within_limit (layouts_in compounds number))
    ∙ ap (λ o. option_and_then (λ whole. o) (within_limit (layouts_in compounds number))) (sym e)

module _ (cs : List CompoundType) (number : ℕ) where
  abbrev compounds : List PlainCompound
  compounds = map compound_of cs

  pub absent : slice_get cs number ≡ None → None ≡ offsets_at (map compound_of cs) number
  absent e =
      nothing_at compounds number
      (ap (option_and_then (offsets_of compounds)) (slice_get-map compound_of cs number ∙ ap (option_map compound_of) e))

  module _ (x : CompoundType) (there : slice_get cs number ≡ Some x) where
    slot : slice_get (map compound_of cs) number ≡ Some (compound_of x)
    slot = slice_get-map compound_of cs number ∙ ap (option_map compound_of) there

    abbrev by_members : Option (List Member) → Option (List ℕ)
    by_members o =
        option_and_then (λ ms. option_map (offsets x.is_union) (member_layouts (layouts_in compounds) ms))
        (option_map (map member_of) o)

    pub unfilled : x.members ≡ None → None ≡ offsets_at (map compound_of cs) number
    unfilled e = nothing_at compounds number (ap (option_and_then (offsets_of compounds)) slot ∙ ap by_members e)

    module _ (ms : List Member) (filled : x.members ≡ Some ms) (whole : Layout)
        (kept : Some whole ≡ within_limit (layouts_in (map compound_of cs) number)) where
      pub together : layout_of_members (map compound_of cs) x.is_union (map member_of ms) ≡ Some whole
      together =
          ap within_limit
          (opened compounds number (compound_of x) (map member_of ms) whole slot (ap (option_map (map member_of)) filled)
          (within-some (layouts_in compounds number) whole kept))
          ∙ within whole (within-small (layouts_in compounds number) whole (sym kept))

      pub found_at : (found : List ℕ) →
          option_map (offsets x.is_union) (member_layouts (layouts_in (map compound_of cs)) (map member_of ms)) ≡ Some found →
          Some found ≡ offsets_at (map compound_of cs) number
      found_at found e =
          sym (ap (option_and_then (λ w. option_and_then (offsets_of compounds) (slice_get compounds number))) (sym kept)
          ∙ (ap (option_and_then (offsets_of compounds)) slot ∙ (ap by_members filled ∙ e)))

pub some_layout : (o : Option Layout) → is_some o ≡ true → (whole : Layout) × (o ≡ Some whole)
some_layout None e = cc
some_layout (Some whole) e = (whole, refl)
