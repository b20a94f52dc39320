-- What files are to contracts, and what a read of a file answers.
-- What a real folder holds is not defined here: its files are not told.
use Rattle.std.specs.Prelude.{ℕ, ◌≡◌, ◌≢◌, ◌<◌, ◌≤◌, Bool, true, false, List, length, Option, Some, None, Result, Ok, Err}
use Rattle.hv_outside.specs.declared.files.FileFault.{FileFault}
use Rattle.hv_outside.specs.declared.files.FileFault.TheVariants.{Failed, Memory}
use Rattle.hv_outside.specs.declared.files.Got.{Got}
use Rattle.hv_outside.specs.declared.files.Got.TheVariants.{Bytes, Absent, TooBig}
use Rattle.hv_base.specs.declared.limits.TheConstants.{MOST_FILE_BYTES}

-- whether it is told what the files hold, and the bytes under each name, which say nothing where it
-- isn't told; how many reads failed, how many found no file, and the name of the latest read that
-- failed
pub record FileState : Type 0 where
  pub told : Bool
  pub held : List ℕ → Option (List ℕ)
  pub faults : ℕ
  pub absences : ℕ
  pub failed_name : Option (List ℕ)

-- the read failed
abbrev pub is_fault : Result Got FileFault → Bool
is_fault (Ok _) = false
is_fault (Err Failed) = true
is_fault (Err Memory) = false

-- the read found no file
abbrev pub is_absence : Result Got FileFault → Bool
is_absence (Ok (Bytes _)) = false
is_absence (Ok Absent) = true
is_absence (Ok (TooBig _)) = false
is_absence (Err _) = false

-- the answer is the one for a name under which this is held
abbrev pub GivesHeld : Option (List ℕ) → Got → Type 0
GivesHeld held (Bytes bytes) = held ≡ Some bytes
GivesHeld held Absent = held ≡ None
GivesHeld held (TooBig size) = (bytes : List ℕ) × (held ≡ Some bytes) × (length bytes ≡ size)

-- a file is given up to the limit on one file, and is too big beyond it
abbrev pub IsWithinLimit : Got → Type 0
IsWithinLimit (Bytes bytes) = length bytes ≤ MOST_FILE_BYTES
IsWithinLimit Absent = Unit {0}
IsWithinLimit (TooBig size) = MOST_FILE_BYTES < size

-- the files hold and tell what they did before, and no count fell
pub record Keeps (before now : FileState) : Type 0 where
  pub told : now.told ≡ before.told
  pub held : (name : List ℕ) → now.held name ≡ before.held name
  pub faults : before.faults ≤ now.faults
  pub absences : before.absences ≤ now.absences

-- these bytes are held under this name now, and under each other name what was held before
abbrev pub Puts : (before now : List ℕ → Option (List ℕ)) → (name bytes : List ℕ) → Type 0
Puts before now name bytes =
    (now name ≡ Some bytes)
    × ((other : List ℕ) → other ≢ name → now other ≡ before other)

-- what is held under each name stays
abbrev pub SameHeld : (before now : List ℕ → Option (List ℕ)) → Type 0
SameHeld before now = (other : List ℕ) → now other ≡ before other
