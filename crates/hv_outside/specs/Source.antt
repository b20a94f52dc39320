-- What a source is to contracts, and what a read of input takes.
use Rattle.std.specs.Prelude.{ℕ, ◌≡◌, ◌≤◌, ◌↔◌, List, [], length, take, drop, Option, Some, None, Result, MatchResult}
use Rattle.hv_outside.specs.declared.source.Failed.{Failed}

-- the bytes that are left, where they are told, and how many reads failed
pub record SourceState : Type 0 where
  pub left : Option (List ℕ)
  pub faults : ℕ

-- with these bytes left before and after, a read gave this answer, and the buffer begins with what
-- it gave; no byte is taken by a read that failed, and none is given exactly where none was left
abbrev pub TakesPrefix : Option (List ℕ) → Option (List ℕ) → Result ℕ Failed → List ℕ → Type 0
TakesPrefix None left answer buffer = left ≡ None
TakesPrefix (Some bytes) left answer buffer =
    MatchResult answer
    (λ n. (left ≡ Some (drop n bytes))
    × (n ≤ length bytes)
    × (take n buffer ≡ take n bytes)
    × ((n ≡ 0) ↔ (bytes ≡ [])))
    (λ _. left ≡ Some bytes)
