-- The order in which a bundle is walked through: a place is reached by the offsets of the includes
-- that lead to it and its own, so those of an included file stand after its `#include` and before
-- what follows that.
use Rattle.std.specs.Prelude.{ℕ, ◌+◌, ◌<◌, ◌≤◌, ◌≡◌, ◌⊎◌, List, [], ◌∷◌, ◌++◌}
use Rattle.hv_base.specs.declared.limits.TheConstants.{OPTIONS_FILE, PREDEFINED_FILE}
use Rattle.hv_base.specs.declared.place.Place.{Place}
use Rattle.hv_plainpp.specs.Files.{Entered}
use Rattle.hv_plainpp.specs.Lines.{Piece, text, directive}
use Rattle.hv_toks.specs.declared.token.PpTok.{PpTok}

-- one list of offsets stands before another
abbrev pub IsBefore : List ℕ → List ℕ → Type 0
IsBefore [] [] = ⊥
IsBefore [] (y ∷ ys) = Unit {0}
IsBefore (x ∷ xs) [] = ⊥
IsBefore (x ∷ xs) (y ∷ ys) = (x < y) ⊎ ((x ≡ y) × IsBefore xs ys)

-- how a place is reached
abbrev pub key : Place → List ℕ
key p = p.stack ++ p.offset ∷ []

-- how an offset of an entered file is reached
abbrev pub reached : Entered → ℕ → List ℕ
reached at offset = at.stack ++ offset ∷ []

-- one list of offsets stands before another, or is it
abbrev pub IsUntil : List ℕ → List ℕ → Type 0
IsUntil here there = (here ≡ there) ⊎ IsBefore here there

-- the number of the options or of the predefined macros, which no file has
abbrev pub IsOfInitial : (file : ℕ) → Type 0
IsOfInitial file = (file ≡ OPTIONS_FILE) ⊎ (file ≡ PREDEFINED_FILE)

-- a macro that is there before any file is read
abbrev pub IsInitial : Place → Type 0
IsInitial p = IsOfInitial p.file

-- tokens begin at rising offsets, from `low` on and below `high`
abbrev pub Rises : (low high : ℕ) → List PpTok → Type 0
Rises low high [] = low ≤ high
Rises low high (t ∷ tokens) = (low ≤ t.span.start) × Rises (t.span.start + 1) high tokens

-- the tokens of a piece
abbrev pub tokens_in : Piece → List PpTok
tokens_in (text run ends) = run
tokens_in (directive hash line) = hash ∷ line
