-- What bytes mean.
use Rattle.std.proofs.Common.{◌≡◌, ℕ, suc, ◌+◌, ◌-◌, ◌*◌, ◌^◌, ◌<◌, ◌≤◌, List, ◌∷◌, length, take, drop, get_or, refl, sym, ap, ◌∙◌, arith}
use Rattle.std.proofs.Math.Nat.{pow-le-pow_right}
use Rattle.std.specs.Prelude.{◌/◌, ◌%◌, pos, slice_set, Bool, true, false, cond, Some, None, ◌&&◌, IfOk, Result, Ok, Err}
use Rattle.std.specs.List.{list_any}
use Rattle.hv_mem.specs.declared.kind.Kind.{Kind}
use Rattle.hv_mem.specs.declared.kind.Kind.TheVariants.{Mixed, Indeterminate}
use Rattle.hv_mem.specs.declared.value.Byte.{Byte}
use Rattle.hv_mem.specs.declared.value.Byte.TheVariants as bytes
use Rattle.hv_mem.specs.declared.value.Pointer.{Pointer}
use Rattle.hv_mem.specs.Memory.{spliced}
use Rattle.hv_mem.specs.Scalars.{little_endian, is_part, is_indeterminate, low_bytes, number_in, parts_from, are_parts, begun_by, is_part_of, whole_from, whole_pointer}
use Rattle.hv_mem.specs.working.Reading.{with_lower}
use Rattle.hv_mem.proofs.SplicedLemmas.{put-step, part-more}

-- what is below a power of seven bytes or fewer is below that of seven
pub below_top : (r : Result ℕ Kind) (m : ℕ) → m ≤ 7 → IfOk r (λ n. n < 256 ^ m) → IfOk r (λ n. n < 2 ^ 56)
below_top (Ok n) m few h =
    let le : 256 ^ m ≤ 256 ^ 7 = pow-le-pow_right {n = 256} (omega arith) {i = m} {j = 7} few in
    omega arith
below_top (Err e) m few h = h

------ numbers

-- one more byte is stored
pub number-step : (o k count n : ℕ) (bs final : List Byte) → k < count → o + count ≤ length bs
    → spliced (pos (o + k)) (low_bytes (count - k) n) bs ≡ final
    → spliced (pos (o + (k + 1))) (low_bytes (count - (k + 1)) (n / 256)) (slice_set bs (o + k) (bytes.Number (n % 256))) ≡ final
number-step o k count n bs final lt fits e =
    let s : count - k ≡ suc (count - (k + 1)) = omega arith in
    put-step o k (bytes.Number (n % 256)) (low_bytes (count - (k + 1)) (n / 256)) bs final (omega arith)
    (ap (λ m. spliced (pos (o + k)) (low_bytes m n) bs) (sym s) ∙ e)

-- what a byte means together with those after it
pub number_in-cons : (b : Byte) (bs : List Byte) → number_in (b ∷ bs) ≡ with_lower b (number_in bs)
number_in-cons (bytes.Part pointer index) bs = refl
number_in-cons (bytes.Number n) bs =
    elim (list_any is_part bs) as (λ p. cond p (Err Mixed) (cond (list_any is_indeterminate bs) (Err Indeterminate) (Ok (n + 256 * little_endian bs))) ≡ with_lower (bytes.Number n) (cond p (Err Mixed) (cond (list_any is_indeterminate bs) (Err Indeterminate) (Ok (little_endian bs))))) [
      | true ↦ refl
      | false ↦ elim (list_any is_indeterminate bs) as (λ u. cond u (Err Indeterminate) (Ok (n + 256 * little_endian bs)) ≡ with_lower (bytes.Number n) (cond u (Err Indeterminate) (Ok (little_endian bs)))) [
        | true ↦ refl
        | false ↦ let e : n + 256 * little_endian bs ≡ little_endian bs * 256 + n = omega arith in ap Ok e
      ]
    ]
number_in-cons bytes.Indeterminate bs =
    elim (list_any is_part bs) as (λ p. cond p (Err Mixed) (Err Indeterminate) ≡ with_lower bytes.Indeterminate (cond p (Err Mixed) (cond (list_any is_indeterminate bs) (Err Indeterminate) (Ok (little_endian bs))))) [
      | true ↦ refl
      | false ↦ elim (list_any is_indeterminate bs) as (λ u. Err Indeterminate ≡ with_lower bytes.Indeterminate (cond u (Err Indeterminate) (Ok (little_endian bs)))) [
        | true ↦ refl
        | false ↦ refl
      ]
    ]

------ pointers

-- one more part is stored
pub part-step : (o k : ℕ) (pointer : Pointer) (bs final : List Byte) → k < 8 → o + 8 ≤ length bs
    → spliced (pos (o + k)) (parts_from pointer k (8 - k)) bs ≡ final
    → spliced (pos (o + (k + 1))) (parts_from pointer (k + 1) (8 - (k + 1))) (slice_set bs (o + k) (bytes.Part pointer k)) ≡ final
part-step o k pointer bs final lt fits e =
    let s : 8 - k ≡ suc (8 - (k + 1)) = omega arith in
    put-step o k (bytes.Part pointer k) (parts_from pointer (k + 1) (8 - (k + 1))) bs final (omega arith)
    (ap (λ m. spliced (pos (o + k)) (parts_from pointer k m) bs) (sym s) ∙ e)

-- so many bytes from one of them on
pub left-more : (o k count : ℕ) (bs : List Byte) (d : Byte) → k < count → o + count ≤ length bs
    → take (count - k) (drop (o + k) bs) ≡ get_or bs (o + k) d ∷ take (count - (k + 1)) (drop (o + (k + 1)) bs)
left-more o k count bs d lt fits =
    let n : count - k ≡ count - (k + 1) + 1 = omega arith in
    let index : o + k + 1 ≡ o + (k + 1) = omega arith in
    ap (λ m. take m (drop (o + k) bs)) n
    ∙ part-more (o + k) (count - (k + 1)) bs d (omega arith)
    ∙ ap (λ i. get_or bs (o + k) d ∷ take (count - (k + 1)) (drop i bs)) index

------ the steps of reading

-- one byte more is read, before those that were
pub read-step : (o k count : ℕ) (bs : List Byte) (byte : Byte) (above now : Result ℕ Kind) → k < count → o + count ≤ length bs
    → byte ≡ get_or bs (o + k) bytes.Indeterminate
    → above ≡ number_in (take (count - (k + 1)) (drop (o + (k + 1)) bs))
    → now ≡ with_lower byte above
    → now ≡ number_in (take (count - k) (drop (o + k) bs))
read-step o k count bs byte above now lt fits eb ea en =
    let left : List Byte = take (count - (k + 1)) (drop (o + (k + 1)) bs) in
    en
    ∙ ap (with_lower byte) ea
    ∙ sym (number_in-cons byte left)
    ∙ ap (λ b. number_in (b ∷ left)) eb
    ∙ ap number_in (sym (left-more o k count bs bytes.Indeterminate lt fits))

-- one part more is read
pub parts-step : (o k : ℕ) (bs : List Byte) (p : Pointer) (final : Bool) → k < 8 → o + 8 ≤ length bs
    → is_part_of p k (get_or bs (o + k) bytes.Indeterminate) ≡ true
    → are_parts p k (take (8 - k) (drop (o + k) bs)) ≡ final
    → are_parts p (k + 1) (take (8 - (k + 1)) (drop (o + (k + 1)) bs)) ≡ final
parts-step o k bs p final lt fits e inv =
    let left : List Byte = take (8 - (k + 1)) (drop (o + (k + 1)) bs) in
    ap (λ t. t && are_parts p (k + 1) left) (sym e)
    ∙ ap (are_parts p k) (sym (left-more o k 8 bs bytes.Indeterminate lt fits))
    ∙ inv

-- where one isn't the part that it must be, the whole isn't a pointer
pub parts-stop : (o k : ℕ) (bs : List Byte) (p : Pointer) → k < 8 → o + 8 ≤ length bs
    → is_part_of p k (get_or bs (o + k) bytes.Indeterminate) ≡ false
    → are_parts p k (take (8 - k) (drop (o + k) bs)) ≡ false
parts-stop o k bs p lt fits e =
    let left : List Byte = take (8 - (k + 1)) (drop (o + (k + 1)) bs) in
    ap (are_parts p k) (left-more o k 8 bs bytes.Indeterminate lt fits)
    ∙ ap (λ t. t && are_parts p (k + 1) left) e

pub whole-read : (o : ℕ) (bs : List Byte) (p : Pointer) (t : Bool) → o + 8 ≤ length bs
    → begun_by (get_or bs o bytes.Indeterminate) ≡ Some p
    → are_parts p 1 (take 7 (drop (o + 1) bs)) ≡ t
    → whole_pointer (take 8 (drop o bs)) ≡ cond t (Some p) None
whole-read o bs p t fits begun e =
    let rest : List Byte = take 7 (drop (o + 1) bs) in
    ap whole_pointer (part-more o 7 bs bytes.Indeterminate (omega arith))
    ∙ ap (λ m. whole_from m rest) begun
    ∙ ap (λ (u : Bool). cond u (Some p) None) e

-- where no pointer begins
pub none-read : (o : ℕ) (bs : List Byte) → o + 8 ≤ length bs → begun_by (get_or bs o bytes.Indeterminate) ≡ None
    → whole_pointer (take 8 (drop o bs)) ≡ None
none-read o bs fits begun =
    let rest : List Byte = take 7 (drop (o + 1) bs) in
    ap whole_pointer (part-more o 7 bs bytes.Indeterminate (omega arith)) ∙ ap (λ m. whole_from m rest) begun
