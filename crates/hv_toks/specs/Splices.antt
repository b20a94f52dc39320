-- The splicing of lines, translation phase 2 (5.1.1.2): a backslash directly before a newline is
-- deleted with it. A carriage return directly before a newline belongs to the newline.
use Rattle.std.specs.Prelude.{◌≡◌, ℕ, zero, suc, ◌+◌, cond, nat_eq, List, [], ◌∷◌, map}
use Rattle.std.specs.List.{starts_with}

-- a byte of a file, and its offset in the file as it was read
pub record Mark : Type 0 where
  pub byte : ℕ
  pub offset : ℕ

-- how many bytes the text begins with that are deleted together
abbrev pub splice_len : List ℕ → ℕ
splice_len text =
    cond (starts_with nat_eq text (92 ∷ 10 ∷ [])) 2
    (cond (starts_with nat_eq text (92 ∷ 13 ∷ 10 ∷ [])) 3 0)

-- the bytes that stay of a text that begins at `offset`, where the first `deleted` bytes are the
-- rest of a splice
abbrev pub marks_from : ℕ → ℕ → List ℕ → List Mark
marks_from deleted offset [] = []
marks_from (suc deleted) offset (byte ∷ bytes) = marks_from deleted (offset + 1) bytes
marks_from zero offset (byte ∷ bytes) = elim (splice_len (byte ∷ bytes)) [
  | zero ↦ record { byte = byte; offset = offset } ∷ marks_from 0 (offset + 1) bytes
  | suc deleted ↦ marks_from deleted (offset + 1) bytes
]

-- a file after phase 2
abbrev pub spliced : List ℕ → List ℕ
spliced bytes = map (λ mark. mark.byte) (marks_from 0 0 bytes)

-- the offset of each of its bytes
abbrev pub offsets : List ℕ → List ℕ
offsets bytes = map (λ mark. mark.offset) (marks_from 0 0 bytes)

-- `text` is what is left of bytes that begin at `offset` where each backslash directly before a
-- newline is deleted with it (5.1.1.2), and `places` are the offsets of its bytes
pub data IsSpliced : (offset : ℕ) → (bytes text places : List ℕ) → Type 0 where
  all : {offset : ℕ} → IsSpliced offset [] [] []
  splice : {offset : ℕ} {bytes text places : List ℕ} → IsSpliced (offset + 2) bytes text places
      → IsSpliced offset (92 ∷ 10 ∷ bytes) text places
  long_splice : {offset : ℕ} {bytes text places : List ℕ} → IsSpliced (offset + 3) bytes text places
      → IsSpliced offset (92 ∷ 13 ∷ 10 ∷ bytes) text places
  keep : {offset : ℕ} {bytes text places : List ℕ} (b : ℕ) → splice_len (b ∷ bytes) ≡ 0
      → IsSpliced (offset + 1) bytes text places
      → IsSpliced offset (b ∷ bytes) (b ∷ text) (offset ∷ places)
