-- What a sink is to contracts, and what a write adds to it.
use Rattle.std.specs.Prelude.{ℕ, ◌≡◌, Bool, true, false, List, [], ◌++◌, take, Option, Result, Ok, Err}
use Rattle.std.specs.Option.{option_map}
use Rattle.hv_outside.specs.declared.sink.SinkFault.{SinkFault}
use Rattle.hv_outside.specs.declared.sink.SinkFault.TheVariants.{Failed, Memory}

-- the bytes so far, where they are told, and how many writes failed
pub record SinkState : Type 0 where
  pub written : Option (List ℕ)
  pub faults : ℕ

-- the write failed
abbrev pub is_fault : {T : Type 0} → Result T SinkFault → Bool
is_fault (Ok _) = false
is_fault (Err Failed) = true
is_fault (Err Memory) = false

-- these bytes were added after those so far, where these are told; and what is told stays told
abbrev pub Adds : Option (List ℕ) → Option (List ℕ) → List ℕ → Type 0
Adds before now bytes = now ≡ option_map (λ so_far. so_far ++ bytes) before

-- a prefix of these bytes was added
abbrev pub AddsPrefix : Option (List ℕ) → Option (List ℕ) → List ℕ → Type 0
AddsPrefix before now bytes = (n : ℕ) × Adds before now (take n bytes)

-- the bytes of a piece that a write took: none where it failed
abbrev pub taken : Result ℕ SinkFault → List ℕ → List ℕ
taken (Ok n) piece = take n piece
taken (Err _) piece = []
