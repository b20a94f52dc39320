-- A layout's alignment is 1, 2, 4 or 8, and its size is a multiple of it.
use Rattle.std.proofs.Common.{◌≡◌, ℕ, zero, suc, ◌+◌, ◌*◌, ◌/◌, ◌%◌, max, Bool, true, false, cond, Option, None, Some, List, [], ◌∷◌, length, nat_eq, refl, sym, ◌∙◌, IsTrue, inl, inr, arith, subst}
use Rattle.std.specs.Option.{option_and_then, option_map}
use Rattle.std.specs.Prelude.{slice_get, IfSome}
use Rattle.std.proofs.lemmas.Bool.Decides.{eqb_tells, leb_tells}
use Rattle.hv_base.specs.declared.limits.TheConstants.{MOST_OBJECT_BYTES}
use Rattle.hv_ctree.specs.declared.types.Layout.{Layout}
use Rattle.hv_ctree.specs.declared.types.IntKind.{IntKind}
use Rattle.hv_ctree.specs.declared.types.IntKind.TheVariants.{Boolean, Char, SignedChar, UnsignedChar, Short, UnsignedShort, Int, UnsignedInt, Long, UnsignedLong, LongLong, UnsignedLongLong}
use Rattle.hv_ctree.specs.types.Kinds.{kind_size}
use Rattle.hv_ctree.specs.types.Plain.{PlainType, plain, PlainShape, void, integer, enumeration, compound, pointer, array, function, PlainMember, PlainCompound}
use Rattle.hv_ctree.specs.types.Layouts.{layout, within_limit, repeated, layout_by, shape_layout_by, rounded_up, laid_out, member_layouts, compound_layout_by, compound_layout, largest_align, taken, is_alignment}

-- how often the alignment goes into the size
pub data IsWhole : ℕ → ℕ → Type 0 where
  by_1 : (k : ℕ) → IsWhole k 1
  by_2 : (k : ℕ) → IsWhole (k * 2) 2
  by_4 : (k : ℕ) → IsWhole (k * 4) 4
  by_8 : (k : ℕ) → IsWhole (k * 8) 8

pub no_remainder : (size align : ℕ) → IsWhole size align → size % align ≡ 0
no_remainder _ _ (by_1 k) = omega arith
no_remainder _ _ (by_2 k) = omega arith
no_remainder _ _ (by_4 k) = omega arith
no_remainder _ _ (by_8 k) = omega arith

-- the same of a layout, where there is one
abbrev Each : Option Layout → Type 0
Each None = Unit {0}
Each (Some l) = IsWhole l.size l.align

abbrev pub All : List Layout → Type 0
All [] = Unit {0}
All (l ∷ ls) = IsWhole l.size l.align × All ls

abbrev pub EachList : Option (List Layout) → Type 0
EachList None = Unit {0}
EachList (Some ls) = All ls

------ scalars and arrays

kind_whole : (kind : IntKind) → IsWhole (kind_size kind) (kind_size kind)
kind_whole Boolean = by_1 1
kind_whole Char = by_1 1
kind_whole SignedChar = by_1 1
kind_whole UnsignedChar = by_1 1
kind_whole Short = by_2 1
kind_whole UnsignedShort = by_2 1
kind_whole Int = by_4 1
kind_whole UnsignedInt = by_4 1
kind_whole Long = by_8 1
kind_whole UnsignedLong = by_8 1
kind_whole LongLong = by_8 1
kind_whole UnsignedLongLong = by_8 1

many_whole : (n size align : ℕ) → IsWhole size align → IsWhole (n * size) align
many_whole n _ _ (by_1 k) = by_1 (n * k)
many_whole n _ _ (by_2 k) = let e : (n * k) * 2 ≡ n * (k * 2) = omega arith in subst (λ s. IsWhole s 2) e (by_2 (n * k))
many_whole n _ _ (by_4 k) = let e : (n * k) * 4 ≡ n * (k * 4) = omega arith in subst (λ s. IsWhole s 4) e (by_4 (n * k))
many_whole n _ _ (by_8 k) = let e : (n * k) * 8 ≡ n * (k * 8) = omega arith in subst (λ s. IsWhole s 8) e (by_8 (n * k))

some_whole : (n : ℕ) (l : Layout) (none : Bool) → IsWhole l.size l.align →
    Each (cond none None (Some (record { size = n * l.size; align = l.align })))
some_whole n l true w = tt
some_whole n l false w = many_whole n l.size l.align w

repeated_whole : (count : Option ℕ) (element : Option Layout) → Each element → Each (repeated count element)
repeated_whole None element w = tt
repeated_whole (Some n) None w = tt
repeated_whole (Some n) (Some l) w = some_whole n l (nat_eq n 0) w

------ structures and unions

pub data IsAlign : ℕ → Type 0 where
  is_1 : IsAlign 1
  is_2 : IsAlign 2
  is_4 : IsAlign 4
  is_8 : IsAlign 8

pub align_whole : (size align : ℕ) → IsWhole size align → IsAlign align
align_whole _ _ (by_1 k) = is_1
align_whole _ _ (by_2 k) = is_2
align_whole _ _ (by_4 k) = is_4
align_whole _ _ (by_8 k) = is_8

max_align : (a b : ℕ) → IsAlign a → IsAlign b → IsAlign (max a b)
max_align _ _ is_1 is_1 = is_1
max_align _ _ is_1 is_2 = is_2
max_align _ _ is_1 is_4 = is_4
max_align _ _ is_1 is_8 = is_8
max_align _ _ is_2 is_1 = is_2
max_align _ _ is_2 is_2 = is_2
max_align _ _ is_2 is_4 = is_4
max_align _ _ is_2 is_8 = is_8
max_align _ _ is_4 is_1 = is_4
max_align _ _ is_4 is_2 = is_4
max_align _ _ is_4 is_4 = is_4
max_align _ _ is_4 is_8 = is_8
max_align _ _ is_8 is_1 = is_8
max_align _ _ is_8 is_2 = is_8
max_align _ _ is_8 is_4 = is_8
max_align _ _ is_8 is_8 = is_8

largest_whole : (ls : List Layout) → All ls → IsAlign (largest_align ls)
largest_whole [] w = is_1
largest_whole (l ∷ ls) w = max_align l.align (largest_align ls) (align_whole l.size l.align w.0) (largest_whole ls w.1)

pub rounded_whole : (p a : ℕ) → IsAlign a → IsWhole (rounded_up p a) a
rounded_whole p _ is_1 = by_1 (rounded_up p 1)
rounded_whole p _ is_2 =
    let e : (p + 1) / 2 * 2 ≡ rounded_up p 2 = omega arith in subst (λ s. IsWhole s 2) e (by_2 ((p + 1) / 2))
rounded_whole p _ is_4 =
    let e : (p + 3) / 4 * 4 ≡ rounded_up p 4 = omega arith in subst (λ s. IsWhole s 4) e (by_4 ((p + 3) / 4))
rounded_whole p _ is_8 =
    let e : (p + 7) / 8 * 8 ≡ rounded_up p 8 = omega arith in subst (λ s. IsWhole s 8) e (by_8 ((p + 7) / 8))

laid_out_whole : (is_union : Bool) (ls : List Layout) → All ls → Each (laid_out is_union ls)
laid_out_whole is_union [] w = tt
laid_out_whole is_union (l ∷ ls) w =
    rounded_whole (taken is_union (l ∷ ls)) (largest_align (l ∷ ls)) (largest_whole (l ∷ ls) w)

laid_whole : (is_union : Bool) (o : Option (List Layout)) → EachList o → Each (option_and_then (laid_out is_union) o)
laid_whole is_union None w = tt
laid_whole is_union (Some ls) w = laid_out_whole is_union ls w

first_whole : (o : Option Layout) (rest : Option (List Layout)) → Each o → EachList rest →
    EachList (option_and_then (λ first. option_map (λ others. first ∷ others) rest) o)
first_whole None rest w v = tt
first_whole (Some l) None w v = tt
first_whole (Some l) (Some ls) w v = (w, v)

module _ (of : ℕ → Option Layout) (each : (n : ℕ) → Each (of n)) where
  mutual
    type_whole : (t : PlainType) → Each (layout_by of t)
    type_whole (plain constant shape) = shape_whole shape

    shape_whole : (s : PlainShape) → Each (shape_layout_by of s)
    shape_whole void = tt
    shape_whole (integer kind) = kind_whole kind
    shape_whole (enumeration number) = by_4 1
    shape_whole (compound number) = each number
    shape_whole (pointer t) = by_8 1
    shape_whole (array t count) = repeated_whole count (layout_by of t) (type_whole t)
    shape_whole (function result parameters variadic) = tt

  pub members_whole : (ms : List PlainMember) → EachList (member_layouts of ms)
  members_whole [] = tt
  members_whole (m ∷ ms) = first_whole (layout_by of m.type) (member_layouts of ms) (type_whole m.type) (members_whole ms)

  listed_whole : (is_union : Bool) (o : Option (List PlainMember)) →
      Each (option_and_then (λ ms. option_and_then (laid_out is_union) (member_layouts of ms)) o)
  listed_whole is_union None = tt
  listed_whole is_union (Some ms) = laid_whole is_union (member_layouts of ms) (members_whole ms)

  found_whole : (o : Option PlainCompound) → Each (option_and_then (compound_layout_by of) o)
  found_whole None = tt
  found_whole (Some c) = listed_whole c.is_union c.members

pub compound_whole : (compounds : List PlainCompound) (depth number : ℕ) → Each (compound_layout compounds depth number)
compound_whole compounds zero number = tt
compound_whole compounds (suc depth) number =
    found_whole (compound_layout compounds depth) (compound_whole compounds depth) (slice_get compounds number)

limited : (o : Option Layout) → Each o → IfSome (within_limit o) (λ l. l.size % l.align ≡ 0)
limited None w = tt
limited (Some l) w =
    elim (leb_tells l.size MOST_OBJECT_BYTES) [
      | inl (is, h) ↦ rw is (no_remainder l.size l.align w)
      | inr (isnt, h) ↦ rw isnt tt
    ]

-- the size of each layout within the limit is a multiple of its alignment
pub layout_whole : (compounds : List PlainCompound) (t : PlainType) →
    IfSome (within_limit (layout compounds t)) (λ l. l.size % l.align ≡ 0)
layout_whole compounds t =
    limited (layout compounds t)
    (type_whole (compound_layout compounds (length compounds)) (compound_whole compounds (length compounds)) t)

------ kept_layout

align_true : (size align : ℕ) → IsWhole size align → IsTrue (is_alignment align)
align_true _ _ (by_1 k) = refl
align_true _ _ (by_2 k) = refl
align_true _ _ (by_4 k) = refl
align_true _ _ (by_8 k) = refl

limited_align : (o : Option Layout) → Each o → IfSome (within_limit o) (λ l. IsTrue (is_alignment l.align))
limited_align None w = tt
limited_align (Some l) w =
    elim (leb_tells l.size MOST_OBJECT_BYTES) [
      | inl (is, h) ↦ rw is (align_true l.size l.align w)
      | inr (isnt, h) ↦ rw isnt tt
    ]

pub kept_aligned : (compounds : List PlainCompound) (number : ℕ) →
    IfSome (within_limit (compound_layout compounds (length compounds) number)) (λ l. IsTrue (is_alignment l.align))
kept_aligned compounds number = limited_align _ (compound_whole compounds (length compounds) number)

------ next_offset

none_of_them : (n : ℕ) → nat_eq n 1 ≡ false → nat_eq n 2 ≡ false → nat_eq n 4 ≡ false → nat_eq n 8 ≡ false →
    IsTrue (is_alignment n) → ⊥
none_of_them n a b c d h =
    let e : is_alignment n ≡ false = rw (a, b, c, d) refl in
    let wrong : false ≡ true = sym e ∙ h in
    cc

alignment : (n : ℕ) → IsTrue (is_alignment n) → IsAlign n
alignment n h =
    elim (eqb_tells n 1) [
      | inl (is, e) ↦ subst IsAlign (sym e) is_1
      | inr (isnt_1, _) ↦
          elim (eqb_tells n 2) [
            | inl (is, e) ↦ subst IsAlign (sym e) is_2
            | inr (isnt_2, _) ↦
                elim (eqb_tells n 4) [
                  | inl (is, e) ↦ subst IsAlign (sym e) is_4
                  | inr (isnt_4, _) ↦
                      elim (eqb_tells n 8) [
                        | inl (is, e) ↦ subst IsAlign (sym e) is_8
                        | inr (isnt_8, _) ↦ absurd (none_of_them n isnt_1 isnt_2 isnt_4 isnt_8 h)
                      ]
                ]
          ]
    ]

pub next_offset_whole : (position align : ℕ) → IsTrue (is_alignment align) → rounded_up position align % align ≡ 0
next_offset_whole position align h = no_remainder _ _ (rounded_whole position align (alignment align h))
