-- The first file with which a limit is passed, among more files.
use Rattle.std.proofs.Common.{◌≡◌, ◌∙◌, ◌+◌, ◌-◌, ◌^◌, ◌<◌, ◌≤◌, ◌⊎◌, inl, inr, ◌||◌, ℕ, Bool, true, false, cond, List, [], ◌∷◌, ◌++◌, Option, Some, None, refl, sym, ap, arith, length, min}
use Rattle.std.specs.Prelude.{nat_lt}
use Rattle.std.proofs.lemmas.Bool.{le-ltb, lt-ltb}
use Rattle.hv_base.specs.declared.held.Held.{Held}
use Rattle.hv_base.specs.declared.held.Held.TheVariants.{Bytes, Absent}
use Rattle.hv_base.specs.declared.limits.TheConstants.{MOST_FILE_BYTES, MOST_BUNDLE_BYTES}
use Rattle.hv_gather.specs.Limits.{Beyond, beyond_at, first_beyond, is_beyond, size_of, total_of}

------ total_of

pub total_of-append : (xs ys : List (List ℕ × Held)) → total_of (xs ++ ys) ≡ total_of xs + total_of ys
total_of-append [] ys = omega arith
total_of-append (x ∷ xs) ys = omega (arith, total_of-append xs ys)

-- one more file
pub total_of-file : (entries : List (List ℕ × Held)) (name bytes : List ℕ)
    → total_of (entries ++ (name, Bytes bytes) ∷ []) ≡ total_of entries + length bytes
total_of-file entries name bytes = omega (arith, total_of-append entries ((name, Bytes bytes) ∷ []))

-- one more name without a file
pub total_of-absent : (entries : List (List ℕ × Held)) (name : List ℕ)
    → total_of (entries ++ (name, Absent) ∷ []) ≡ total_of entries
total_of-absent entries name = omega (arith, total_of-append entries ((name, Absent) ∷ []))

------ first_beyond

cond-none : (test : Bool) (this : Beyond) (later : Option Beyond) → cond test (Some this) later ≡ None → (test ≡ false) × (later ≡ None)
cond-none true this later e = absurd cc
cond-none false this later e = (refl, e)

beyond_at-none : (name : List ℕ) (held : Held) (n total : ℕ) (f g h : ℕ → Option Beyond)
    → ((m : ℕ) → f m ≡ None → g m ≡ h (m + total))
    → beyond_at name held n f ≡ None → beyond_at name held n g ≡ h (n + (size_of held + total))
beyond_at-none name Absent n total f g h more e = more n e ∙ ap h (omega arith)
beyond_at-none name (Bytes bytes) n total f g h more e =
    let parts = cond-none (is_beyond (length bytes) (n + length bytes)) _ _ e in
    rw parts.0 (more (n + length bytes) parts.1 ∙ ap h (omega arith))

-- after files within the limits the rest decides
pub none-append : (xs ys : List (List ℕ × Held)) (n : ℕ) → first_beyond xs n ≡ None
    → first_beyond (xs ++ ys) n ≡ first_beyond ys (n + total_of xs)
none-append [] ys n e = ap (first_beyond ys) (omega arith)
none-append (x ∷ xs) ys n e =
    beyond_at-none x.0 x.1 n (total_of xs) (first_beyond xs) (first_beyond (xs ++ ys)) (first_beyond ys) (none-append xs ys) e

cond-some : (test : Bool) (this f g : Option Beyond) (beyond : Beyond) → (f ≡ Some beyond → g ≡ Some beyond)
    → cond test this f ≡ Some beyond → cond test this g ≡ Some beyond
cond-some true this f g beyond more e = e
cond-some false this f g beyond more e = more e

beyond_at-some : (name : List ℕ) (held : Held) (n : ℕ) (beyond : Beyond) (f g : ℕ → Option Beyond)
    → ((m : ℕ) → f m ≡ Some beyond → g m ≡ Some beyond)
    → beyond_at name held n f ≡ Some beyond → beyond_at name held n g ≡ Some beyond
beyond_at-some name Absent n beyond f g more e = more n e
beyond_at-some name (Bytes bytes) n beyond f g more e =
    cond-some (is_beyond (length bytes) (n + length bytes)) _ _ _ beyond (more (n + length bytes)) e

-- the first one stays the first
pub some-append : (xs ys : List (List ℕ × Held)) (n : ℕ) (beyond : Beyond) → first_beyond xs n ≡ Some beyond
    → first_beyond (xs ++ ys) n ≡ Some beyond
some-append [] ys n beyond e = absurd cc
some-append (x ∷ xs) ys n beyond e =
    beyond_at-some x.0 x.1 n beyond (first_beyond xs) (first_beyond (xs ++ ys)) (λ m. some-append xs ys m beyond) e

-- one more file, within the limits
pub none-file : (entries : List (List ℕ × Held)) (name bytes : List ℕ) → first_beyond entries 0 ≡ None
    → length bytes ≤ MOST_FILE_BYTES → total_of entries + length bytes ≤ MOST_BUNDLE_BYTES
    → first_beyond (entries ++ (name, Bytes bytes) ∷ []) 0 ≡ None
none-file entries name bytes none small all =
    let last = none-append entries ((name, Bytes bytes) ∷ []) 0 none in
    let a : nat_lt MOST_FILE_BYTES (length bytes) ≡ false = le-ltb _ _ small in
    let b : nat_lt MOST_BUNDLE_BYTES (0 + total_of entries + length bytes) ≡ false = le-ltb _ _ (omega arith) in
    last ∙ rw (a, b) refl

-- one more name without a file
pub none-absent : (entries : List (List ℕ × Held)) (name : List ℕ) → first_beyond entries 0 ≡ None
    → first_beyond (entries ++ (name, Absent) ∷ []) 0 ≡ None
none-absent entries name none = none-append entries ((name, Absent) ∷ []) 0 none

or-left : (a b : Bool) → a ≡ true → (a || b) ≡ true
or-left a b e = rw e refl

or-right : (a b : Bool) → b ≡ true → (a || b) ≡ true
or-right true b e = refl
or-right false b e = e

-- one more file, with which a limit is passed
pub some-file : (entries : List (List ℕ × Held)) (name bytes : List ℕ) → first_beyond entries 0 ≡ None
    → ((MOST_FILE_BYTES < length bytes) ⊎ (MOST_BUNDLE_BYTES < total_of entries + length bytes))
    → first_beyond (entries ++ (name, Bytes bytes) ∷ []) 0
    ≡ Some (record { name = name; size = length bytes; total = total_of entries + length bytes })
some-file entries name bytes none passed =
    let last = none-append entries ((name, Bytes bytes) ∷ []) 0 none in
    let test : is_beyond (length bytes) (0 + total_of entries + length bytes) ≡ true = elim passed [
      | inl large ↦ or-left _ _ (lt-ltb _ _ large)
      | inr all ↦ or-right _ _ (lt-ltb MOST_BUNDLE_BYTES (0 + total_of entries + length bytes) (omega arith))
    ] in
    let found : ℕ → Option Beyond = λ total. Some (record { name = name; size = length bytes; total = total }) in
    let sum : 0 + total_of entries + length bytes ≡ total_of entries + length bytes = omega arith in
    last ∙ rw test (ap found sum)
