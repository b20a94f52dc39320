-- The splicing of lines, one splice on.
use Rattle.std.proofs.Common.{◌≡◌, ℕ, zero, suc, ◌+◌, ◌-◌, List, [], ◌∷◌, refl, sym, ◌∙◌, ap, arith, length, map, take, drop, add-zero}
use Rattle.std.proofs.lemmas.List.{take_rest, drop-drop}
use Rattle.hv_toks.specs.Splices.{marks_from, splice_len}

marks_from-deleted : (k offset : ℕ) (bytes : List ℕ)
    → marks_from k offset bytes ≡ marks_from 0 (offset + k) (drop k bytes)
marks_from-deleted zero offset bytes = ap (λ n. marks_from 0 n bytes) (sym (add-zero offset))
marks_from-deleted (suc k) offset [] = refl
marks_from-deleted (suc k) offset (byte ∷ bytes) = marks_from-deleted k (offset + 1) bytes
    ∙ ap (λ n. marks_from 0 n (drop k bytes)) (omega arith)

marks_from-splice : (offset n : ℕ) (bytes : List ℕ) → (n ≡ 0 → ⊥) → n ≡ splice_len bytes
    → marks_from 0 offset bytes ≡ marks_from 0 (offset + n) (drop n bytes)
marks_from-splice offset zero bytes some e = absurd (some refl)
marks_from-splice offset (suc k) [] some e = absurd (some e)
marks_from-splice offset (suc k) (byte ∷ bytes) some e =
    let f : splice_len (byte ∷ bytes) ≡ suc k = sym e in
    rw (f, marks_from) (marks_from-deleted k (offset + 1) bytes
    ∙ ap (λ n. marks_from 0 n (drop k bytes)) (omega arith))

pub marks_from-step : (bytes : List ℕ) (at n : ℕ) → (n ≡ 0 → ⊥)
    → n ≡ splice_len (take (length bytes - at) (drop at bytes))
    → marks_from 0 at (drop at bytes) ≡ marks_from 0 (at + n) (drop (at + n) bytes)
marks_from-step bytes at n some e =
    let f = rw take_rest at e in
    marks_from-splice at n (drop at bytes) some f
    ∙ ap (λ bs. marks_from 0 (at + n) bs) (drop-drop n at bytes)

-- the offsets alone
abbrev pub places : ℕ → ℕ → List ℕ → List ℕ
places deleted offset bytes = map (λ mark. mark.offset) (marks_from deleted offset bytes)

pub places-shown : (offset byte : ℕ) (bytes : List ℕ) (n : ℕ) → splice_len (byte ∷ bytes) ≡ n
    → places 0 offset (byte ∷ bytes)
    ≡ elim n [ zero ↦ offset ∷ places 0 (offset + 1) bytes | suc k ↦ places k (offset + 1) bytes ]
places-shown offset byte bytes zero e = rw (e, marks_from) refl
places-shown offset byte bytes (suc k) e = rw (e, marks_from) refl
