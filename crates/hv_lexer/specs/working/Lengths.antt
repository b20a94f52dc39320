-- Lengths of prefixes of a text, where 0 says that there is none.
use Rattle.std.specs.Prelude.{ℕ, zero, suc, ◌≡◌, ◌<◌, ◌≤◌, Bool, true, false, ◌&&◌, nat_le, List, length, take}
use Rattle.hv_toks.specs.Lexical.{is_punctuator}

-- of a prefix that one more byte stands before
abbrev pub one_more : ℕ → ℕ
one_more zero = 0
one_more (suc n) = suc (suc n)

-- whether the first `n` bytes of a text are a punctuator
abbrev pub begins_with_punctuator : ℕ → List ℕ → Bool
begins_with_punctuator n text = nat_le n (length text) && is_punctuator (take n text)

-- the prefix of this length passes the test, and no longer one does; 0 where no prefix does but
-- perhaps the empty one
abbrev pub IsLongest : (List ℕ → Bool) → List ℕ → ℕ → Type 0
IsLongest test text n =
    (0 < n → test (take n text) ≡ true)
    × ((k : ℕ) → n < k → k ≤ length text → test (take k text) ≡ false)
