-- Bytes with other ones from an offset on.
use Rattle.std.proofs.Common.{◌≡◌, ℕ, suc, ◌+◌, ◌-◌, ◌<◌, ◌≤◌, List, [], ◌∷◌, ◌++◌, length, take, drop, get_or, refl, sym, ap, ◌∙◌, arith, add-zero, append_assoc, take-append-drop, length-append}
use Rattle.std.specs.Prelude.{pos, slice_set}
use Rattle.std.proofs.lemmas.List.{append-nil, take_more_set, drop-set-lt, take-set-le, drop-set, drop_more, take_more, get_or-drop, length-drop, length-take, drop-take, length-take-le, drop_at, take_at, get_or_append_left, get_or-append_right, get_or-take}
use Rattle.hv_mem.specs.declared.value.Byte.{Byte}
use Rattle.hv_mem.specs.Memory.{spliced}

pub spliced-none : (o : ℕ) (bs : List Byte) → spliced (pos o) [] bs ≡ bs
spliced-none o bs = rw (append-nil (take o bs), add-zero o) (take-append-drop o bs)

-- the first of the new bytes is put first
pub spliced-cons : (o : ℕ) (x : Byte) (new bs : List Byte) → o < length bs
    → spliced (pos o) (x ∷ new) bs ≡ spliced (pos (o + 1)) new (slice_set bs o x)
spliced-cons o x new bs h =
    let front : take (o + 1) (slice_set bs o x) ≡ take o bs ++ x ∷ [] = take_more_set bs o x h in
    let back : drop (o + 1 + length new) (slice_set bs o x) ≡ drop (o + 1 + length new) bs =
    drop-set-lt (o + 1 + length new) bs o x (omega arith) in
    let index : o + suc (length new) ≡ o + 1 + length new = omega arith in
    let grouped : (take o bs ++ x ∷ []) ++ new ≡ take o bs ++ (x ∷ new) = append_assoc (take o bs) (x ∷ []) new in
    ap (λ n. (take o bs ++ (x ∷ new)) ++ drop n bs) index
    ∙ ap (λ f. f ++ drop (o + 1 + length new) bs) (sym grouped)
    ∙ ap (λ f. (f ++ new) ++ drop (o + 1 + length new) bs) (sym front)
    ∙ ap (λ d. (take (o + 1) (slice_set bs o x) ++ new) ++ d) (sym back)

-- the last of the new bytes is put first
pub spliced-snoc : (o : ℕ) (new : List Byte) (x : Byte) (bs : List Byte) → o + length new < length bs
    → spliced (pos o) (new ++ x ∷ []) bs ≡ spliced (pos o) new (slice_set bs (o + length new) x)
spliced-snoc o new x bs h =
    let front : take o (slice_set bs (o + length new) x) ≡ take o bs =
    take-set-le o bs (o + length new) x (omega arith) in
    let back : drop (o + length new) (slice_set bs (o + length new) x) ≡ x ∷ drop (o + length new + 1) bs =
    drop-set bs (o + length new) x h in
    let index : o + length (new ++ x ∷ []) ≡ o + length new + 1 = omega (arith, length-append new (x ∷ [])) in
    ap (λ n. (take o bs ++ (new ++ x ∷ [])) ++ drop n bs) index
    ∙ ap (λ f. f ++ drop (o + length new + 1) bs) (sym (append_assoc (take o bs) new (x ∷ [])))
    ∙ append_assoc (take o bs ++ new) (x ∷ []) (drop (o + length new + 1) bs)
    ∙ ap (λ d. (take o bs ++ new) ++ d) (sym back)
    ∙ ap (λ f. (f ++ new) ++ drop (o + length new) (slice_set bs (o + length new) x)) (sym front)

-- one more of so many bytes from an offset on
pub part-more : (o count : ℕ) (bs : List Byte) (d : Byte) → o < length bs
    → take (count + 1) (drop o bs) ≡ get_or bs o d ∷ take count (drop (o + 1) bs)
part-more o count bs d h =
    let e : drop o bs ≡ get_or bs o d ∷ drop (o + 1) bs = drop_more bs o d h in
    let n : count + 1 ≡ suc count = omega arith in
    rw (n, e) refl

pub part-last : (o count : ℕ) (bs : List Byte) (d : Byte) → o + count < length bs
    → take (count + 1) (drop o bs) ≡ take count (drop o bs) ++ get_or bs (o + count) d ∷ []
part-last o count bs d h =
    let l : count < length (drop o bs) = omega (arith, length-drop o bs) in
    take_more (drop o bs) count d l ∙ ap (λ x. take count (drop o bs) ++ x ∷ []) (get_or-drop o bs count d)

pub part-length : (o count : ℕ) (bs : List Byte) → o + count ≤ length bs → length (take count (drop o bs)) ≡ count
part-length o count bs h = omega (arith, length-take count (drop o bs), length-drop o bs)

-- a byte after so many bytes from an offset on isn't one of them
pub part-set : (o count : ℕ) (bs : List Byte) (i : ℕ) (x : Byte) → o + count ≤ i
    → take count (drop o (slice_set bs i x)) ≡ take count (drop o bs)
part-set o count bs i x h =
    let back : take (o + count) (slice_set bs i x) ≡ take (o + count) bs = take-set-le (o + count) bs i x h in
    sym (drop-take o count (slice_set bs i x)) ∙ ap (drop o) back ∙ drop-take o count bs

------ the steps of loops that put one byte after another

-- the first of the bytes that are left is put
pub put-step : (o k : ℕ) (x : Byte) (new bs final : List Byte) → o + k < length bs
    → spliced (pos (o + k)) (x ∷ new) bs ≡ final
    → spliced (pos (o + (k + 1))) new (slice_set bs (o + k) x) ≡ final
put-step o k x new bs final h e =
    let index : o + (k + 1) ≡ o + k + 1 = omega arith in
    rw index (sym (spliced-cons (o + k) x new bs h) ∙ e)

-- bytes of another list are copied, the first of them first
pub copy-step : (from to k count : ℕ) (source bs final : List Byte) (d : Byte) → k < count
    → from + count ≤ length source → to + count ≤ length bs
    → spliced (pos (to + k)) (take (count - k) (drop (from + k) source)) bs ≡ final
    → spliced (pos (to + (k + 1))) (take (count - (k + 1)) (drop (from + (k + 1)) source)) (slice_set bs (to + k) (get_or source (from + k) d)) ≡ final
copy-step from to k count source bs final d lt s t e =
    let n : count - k ≡ count - (k + 1) + 1 = omega arith in
    let index : from + (k + 1) ≡ from + k + 1 = omega arith in
    let more : take (count - k) (drop (from + k) source) ≡ get_or source (from + k) d ∷ take (count - (k + 1)) (drop (from + (k + 1)) source) =
    ap (λ m. take m (drop (from + k) source)) n
    ∙ part-more (from + k) (count - (k + 1)) source d (omega arith)
    ∙ ap (λ i. get_or source (from + k) d ∷ take (count - (k + 1)) (drop i source)) (sym index) in
    put-step to k _ _ bs final (omega arith) (ap (λ xs. spliced (pos (to + k)) xs bs) (sym more) ∙ e)

-- bytes of one list are moved down, the first of them first
pub down-step : (from to k count : ℕ) (bs final : List Byte) (d : Byte) → k < count → to ≤ from
    → from + count ≤ length bs
    → spliced (pos (to + k)) (take (count - k) (drop (from + k) bs)) bs ≡ final
    → spliced (pos (to + (k + 1))) (take (count - (k + 1)) (drop (from + (k + 1)) (slice_set bs (to + k) (get_or bs (from + k) d)))) (slice_set bs (to + k) (get_or bs (from + k) d)) ≡ final
down-step from to k count bs final d lt down s e =
    let same : drop (from + (k + 1)) (slice_set bs (to + k) (get_or bs (from + k) d)) ≡ drop (from + (k + 1)) bs =
    drop-set-lt (from + (k + 1)) bs (to + k) (get_or bs (from + k) d) (omega arith) in
    ap (λ xs. spliced (pos (to + (k + 1))) (take (count - (k + 1)) xs) (slice_set bs (to + k) (get_or bs (from + k) d))) same
    ∙ copy-step from to k count bs bs final d lt s (omega arith) e

-- bytes of one list are moved up, the last of them first
pub up-step : (from to k : ℕ) (bs final : List Byte) (d : Byte) → from ≤ to → to + k < length bs
    → spliced (pos to) (take (k + 1) (drop from bs)) bs ≡ final
    → spliced (pos to) (take k (drop from (slice_set bs (to + k) (get_or bs (from + k) d)))) (slice_set bs (to + k) (get_or bs (from + k) d)) ≡ final
up-step from to k bs final d up s e =
    let x : Byte = get_or bs (from + k) d in
    let n : length (take k (drop from bs)) ≡ k = part-length from k bs (omega arith) in
    let same : take k (drop from (slice_set bs (to + k) x)) ≡ take k (drop from bs) =
    part-set from k bs (to + k) x (omega arith) in
    let last : spliced (pos to) (take k (drop from bs) ++ x ∷ []) bs ≡ spliced (pos to) (take k (drop from bs)) (slice_set bs (to + length (take k (drop from bs))) x) =
    spliced-snoc to (take k (drop from bs)) x bs (omega arith) in
    ap (λ xs. spliced (pos to) xs (slice_set bs (to + k) x)) same
    ∙ ap (λ m. spliced (pos to) (take k (drop from bs)) (slice_set bs (to + m) x)) (sym n)
    ∙ sym last
    ∙ ap (λ xs. spliced (pos to) xs bs) (sym (part-last from k bs d (omega arith)))
    ∙ e

------ the bytes of a splice

pub spliced-length : (o : ℕ) (new bs : List Byte) → o + length new ≤ length bs → length (spliced (pos o) new bs) ≡ length bs
spliced-length o new bs h =
    omega (arith, length-append (take o bs ++ new) (drop (o + length new) bs), length-append (take o bs) new, length-take o bs, length-drop (o + length new) bs)

-- what was put is there
pub spliced-part : (o : ℕ) (new bs : List Byte) → o ≤ length bs → take (length new) (drop o (spliced (pos o) new bs)) ≡ new
spliced-part o new bs h =
    let rest : List Byte = drop (o + length new) bs in
    ap (λ xs. take (length new) (drop o xs)) (append_assoc (take o bs) new rest)
    ∙ ap (take (length new)) (drop_at (take o bs) (new ++ rest) o (length-take-le o bs h))
    ∙ take_at new rest (length new) refl

-- what lies before it is as it was
pub spliced-before : (o : ℕ) (new bs : List Byte) (k : ℕ) (d : Byte) → o ≤ length bs → k < o → get_or (spliced (pos o) new bs) k d ≡ get_or bs k d
spliced-before o new bs k d h lt =
    let n : length (take o bs) ≡ o = length-take-le o bs h in
    get_or_append_left (take o bs ++ new) (drop (o + length new) bs) d k (omega (arith, length-append (take o bs) new))
    ∙ get_or_append_left (take o bs) new d k (omega arith)
    ∙ get_or-take o bs k d lt

-- and what lies after it
pub spliced-after : (o : ℕ) (new bs : List Byte) (k : ℕ) (d : Byte) → o ≤ length bs → o + length new ≤ k → get_or (spliced (pos o) new bs) k d ≡ get_or bs k d
spliced-after o new bs k d h le =
    let n : length (take o bs ++ new) ≡ o + length new = omega (arith, length-append (take o bs) new, length-take-le o bs h) in
    let index : o + length new + (k - (o + length new)) ≡ k = omega arith in
    get_or-append_right (take o bs ++ new) (drop (o + length new) bs) (o + length new) k d n le
    ∙ get_or-drop (o + length new) bs (k - (o + length new)) d
    ∙ ap (λ i. get_or bs i d) index
