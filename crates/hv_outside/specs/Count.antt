-- Counts of faults and of absences. They say that the outside failed, so a call may answer a fault
-- only where its count rose; code over a trait can't raise it.
use Rattle.std.specs.Prelude.{ℕ, ◌+◌, ◌-◌, ◌^◌, ◌≤◌, ◌≡◌, Bool, true, false, min}

-- the count rose, or stands at the last value of its type
abbrev pub Rose : ℕ → ℕ → Type 0
Rose before now = min (before + 1) (2 ^ 64 - 1) ≤ now

-- the count rose where this is so, and is as before where it isn't
abbrev pub RoseIf : Bool → ℕ → ℕ → Type 0
RoseIf true before now = Rose before now
RoseIf false before now = now ≡ before
