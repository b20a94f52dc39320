-- The longest prefix of a text, where a byte after its first bytes goes into none.
use Rattle.std.proofs.Common.{◌≡◌, ℕ, zero, suc, ◌<◌, ◌≤◌, Bool, true, false, List, [], ◌∷◌, ◌++◌, refl, arith, length}
use Rattle.hv_toks.specs.Lexical.{longest}
use Rattle.hv_lexer.proofs.LongestLemmas.{longest-none, shift}

-- no prefix that passes goes beyond `start`, where this byte follows
abbrev pub Stops : (List ℕ → Bool) → List ℕ → ℕ → Type 0
Stops p start byte = (f : List ℕ) → p (start ++ byte ∷ f) ≡ false

none-here : (p : List ℕ → Bool) (byte : ℕ) (rest : List ℕ) → Stops p [] byte
    → longest p (byte ∷ rest) ≡ 0
none-here p byte rest h = rw (longest-none (λ f. p (byte ∷ f)) rest (λ y f. h (y ∷ f)), h []) refl

most : (alone : Bool) (n k : ℕ) → n ≤ k → shift alone n ≤ suc k
most true zero k h = omega arith
most false zero k h = omega arith
most alone (suc n) k h = omega arith

less : (alone : Bool) (n k : ℕ) → n < suc k → shift alone n < suc (suc k)
less true zero k h = omega arith
less false zero k h = omega arith
less alone (suc n) k h = omega arith

same : (alone : Bool) (n k : ℕ) → n ≡ suc k → shift alone n ≡ suc (suc k)
same alone n k e = rw e refl

pub stopped-most : (p : List ℕ → Bool) (start : List ℕ) (byte : ℕ) (rest : List ℕ)
    → Stops p start byte
    → longest p (start ++ byte ∷ rest) ≤ length start
stopped-most p [] byte rest h = rw (none-here p byte rest h) (omega arith)
stopped-most p (x ∷ start) byte rest h =
    most (p (x ∷ [])) _ (length start) (stopped-most (λ f. p (x ∷ f)) start byte rest h)

pub stopped-less : (p : List ℕ → Bool) (start : List ℕ) (byte : ℕ) (rest : List ℕ)
    → Stops p start byte → p start ≡ false → 0 < length start
    → longest p (start ++ byte ∷ rest) < length start
stopped-less p [] byte rest h e some = absurd (omega arith)
stopped-less p (x ∷ []) byte rest h e some =
    rw (none-here (λ f. p (x ∷ f)) byte rest h, e) (omega arith)
stopped-less p (x ∷ y ∷ start) byte rest h e some =
    less (p (x ∷ [])) _ (length start)
    (stopped-less (λ f. p (x ∷ f)) (y ∷ start) byte rest h e (omega arith))

pub stopped-whole : (p : List ℕ → Bool) (start : List ℕ) (byte : ℕ) (rest : List ℕ)
    → Stops p start byte → p start ≡ true → 0 < length start
    → longest p (start ++ byte ∷ rest) ≡ length start
stopped-whole p [] byte rest h e some = absurd (omega arith)
stopped-whole p (x ∷ []) byte rest h e some = rw (none-here (λ f. p (x ∷ f)) byte rest h, e) refl
stopped-whole p (x ∷ y ∷ start) byte rest h e some =
    same (p (x ∷ [])) _ (length start)
    (stopped-whole (λ f. p (x ∷ f)) (y ∷ start) byte rest h e (omega arith))
