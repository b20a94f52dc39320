-- After the splicing of lines a file is as the standard says.
use Rattle.std.proofs.Common.{◌≡◌, ℕ, zero, suc, ◌+◌, ◌≤◌, Bool, true, false, List, [], ◌∷◌, refl, ap, arith, length, map}
use Rattle.std.specs.Prelude.{nat_eq}
use Rattle.std.specs.List.{starts_with}
use Rattle.hv_toks.specs.Splices.{IsSpliced, all, splice, long_splice, keep, marks_from, splice_len, spliced, offsets}
use Rattle.hv_lexer.proofs.ByteTests.{not_both, not_three, two, three}

abbrev text_of : ℕ → List ℕ → List ℕ
text_of offset bytes = map (λ mark. mark.byte) (marks_from 0 offset bytes)

abbrev places_of : ℕ → List ℕ → List ℕ
places_of offset bytes = map (λ mark. mark.offset) (marks_from 0 offset bytes)

abbrev Spliced : ℕ → List ℕ → Type 0
Spliced offset bytes = IsSpliced offset bytes (text_of offset bytes) (places_of offset bytes)

short-shape : (bytes : List ℕ) → starts_with nat_eq bytes (92 ∷ 10 ∷ []) ≡ true → (rest : List ℕ)
    × (bytes ≡ 92 ∷ 10 ∷ rest)
short-shape [] e = absurd (cc)
short-shape (b ∷ []) e = absurd (not_both _ e)
short-shape (b ∷ c ∷ rest) e = let p = two 92 10 b c e in (rest, rw (p.0, p.1) refl)

long-shape : (bytes : List ℕ) → starts_with nat_eq bytes (92 ∷ 13 ∷ 10 ∷ []) ≡ true
    → (rest : List ℕ) × (bytes ≡ 92 ∷ 13 ∷ 10 ∷ rest)
long-shape [] e = absurd (cc)
long-shape (b ∷ []) e = absurd (not_both _ e)
long-shape (b ∷ c ∷ []) e = absurd (not_three _ _ e)
long-shape (b ∷ c ∷ d ∷ rest) e = let p = three 92 13 10 b c d e in (rest, rw (p.0, p.1, p.2) refl)

module _ (n : ℕ) (deeper : (offset : ℕ) (bytes : List ℕ) → length bytes ≤ n → Spliced offset bytes)
  where
    short-of : (offset : ℕ) (bytes rest : List ℕ) → length bytes ≤ suc n → bytes ≡ 92 ∷ 10 ∷ rest
        → Spliced offset bytes
    short-of offset bytes rest h e =
        let len : length rest ≤ n = omega (arith, ap length e) in
        let far : offset + 1 + 1 ≡ offset + 2 = omega arith in
        rw (e, far) (splice (deeper (offset + 2) rest len))

    long-of : (offset : ℕ) (bytes rest : List ℕ) → length bytes ≤ suc n → bytes ≡ 92 ∷ 13 ∷ 10 ∷ rest
        → Spliced offset bytes
    long-of offset bytes rest h e =
        let len : length rest ≤ n = omega (arith, ap length e) in
        let far : offset + 1 + 1 + 1 ≡ offset + 3 = omega arith in
        rw (e, far) (long_splice (deeper (offset + 3) rest len))

    byte-of : (offset b : ℕ) (bytes : List ℕ) → length (b ∷ bytes) ≤ suc n
        → splice_len (b ∷ bytes) ≡ 0 → Spliced offset (b ∷ bytes)
    byte-of offset b bytes h e =
        rw (e, marks_from) (keep b e (deeper (offset + 1) bytes (omega arith)))

    prefix-of : (offset b : ℕ) (bytes : List ℕ) (short long : Bool) → length (b ∷ bytes) ≤ suc n
        → starts_with nat_eq (b ∷ bytes) (92 ∷ 10 ∷ []) ≡ short
        → starts_with nat_eq (b ∷ bytes) (92 ∷ 13 ∷ 10 ∷ []) ≡ long
        → Spliced offset (b ∷ bytes)
    prefix-of offset b bytes true long h e f = let p = short-shape (b ∷ bytes) e in
        short-of offset (b ∷ bytes) p.0 h p.1
    prefix-of offset b bytes false true h e f = let p = long-shape (b ∷ bytes) f in
        long-of offset (b ∷ bytes) p.0 h p.1
    prefix-of offset b bytes false false h e f = byte-of offset b bytes h (rw (e, f) refl)

spliced-from : (n offset : ℕ) (bytes : List ℕ) → length bytes ≤ n → Spliced offset bytes
spliced-from n offset [] h = all
spliced-from zero offset (b ∷ bytes) h = absurd (omega arith)
spliced-from (suc n) offset (b ∷ bytes) h =
    prefix-of n (spliced-from n) offset b bytes _ _ h refl refl

pub is_spliced : (bytes : List ℕ) → IsSpliced 0 bytes (spliced bytes) (offsets bytes)
is_spliced bytes = spliced-from (length bytes) 0 bytes (omega arith)
