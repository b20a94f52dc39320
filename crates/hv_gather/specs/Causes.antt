-- What gathering answers, and why it ends without a bundle.
use Rattle.std.specs.Prelude.{ℕ, ◌-◌, ◌^◌, ◌≡◌, ◌<◌, ◌≤◌, ◌⊎◌, min, List, length, Option, Some, None, Result, Ok, Err, IsTrue}
use Rattle.hv_base.specs.Bundles.{NamedFiles}
use Rattle.hv_base.specs.declared.limits.TheConstants.{MOST_FILE_BYTES, MOST_BUNDLE_BYTES}
use Rattle.hv_outside.specs.Count.{Rose}
use Rattle.hv_outside.specs.Files.{FileState}
use Rattle.hv_gather.specs.declared.fault.GatherFault.{GatherFault}
use Rattle.hv_gather.specs.declared.fault.GatherFault.TheVariants.{Read, MainAbsent, TooBig, Memory}
use Rattle.hv_gather.specs.Limits.{Beyond, first_beyond}
use Rattle.hv_plain.specs.gathering.Told.{told}

-- a read failed, and this is the name of the latest one
abbrev pub IsUnread : (before now : FileState) → (name : List ℕ) → Type 0
IsUnread before now name = Rose before.faults now.faults × (now.failed_name ≡ Some name)

-- a file of `size` bytes is too big, or all files up to it are, which have `total` bytes; where it
-- is told what the files hold, the file of this name has this length
abbrev pub IsTooBig : FileState → (name : List ℕ) → (size total : ℕ) → Type 0
IsTooBig state name size total =
    ((MOST_FILE_BYTES < size) ⊎ (MOST_BUNDLE_BYTES < total))
    × (IsTrue state.told
    → (bytes : List ℕ) × (state.held name ≡ Some bytes) × (length bytes ≡ size))

-- no file of this name was found
abbrev pub IsAbsent : (before now : FileState) → (name : List ℕ) → Type 0
IsAbsent before now name =
    Rose before.absences now.absences × (IsTrue before.told → before.held name ≡ None)

-- the fault has its cause; out of memory needs none
abbrev pub IsCaused : (main : List ℕ) → (before now : FileState) → GatherFault → Type 0
IsCaused main before now (Read name) = IsUnread before now name
IsCaused main before now MainAbsent = IsAbsent before now main
IsCaused main before now (TooBig name size total) = IsTooBig before name size total
IsCaused main before now Memory = Unit {0}

-- there is no main file, or memory ran out
abbrev pub IsMainAbsent : {T : Type 0} → Result T GatherFault → Type 0
IsMainAbsent (Ok _) = ⊥
IsMainAbsent (Err (Read _)) = ⊥
IsMainAbsent (Err MainAbsent) = Unit {0}
IsMainAbsent (Err (TooBig _ _ _)) = ⊥
IsMainAbsent (Err Memory) = Unit {0}

-- the fault that names this file. Its total stands still at the last value of its type
abbrev pub too_big : Beyond → GatherFault
too_big beyond = TooBig beyond.name beyond.size (min beyond.total (2 ^ 64 - 1))

-- the bundle that was found, or the first file of it with which a limit is passed
abbrev pub within_limits : (found : NamedFiles) → Result NamedFiles GatherFault
within_limits found = elim (first_beyond found.entries 0) [
  | Some beyond ↦ Err (too_big beyond)
  | None ↦ Ok found
]

-- what gathering answers where `held` tells what each name holds, no read fails and memory lasts:
-- there is no main file, or a limit is passed, or else the bundle that the search finds
abbrev pub told_answer : (held : List ℕ → Option (List ℕ)) → (main : List ℕ)
    → (dirs : List (List ℕ))
    → Result NamedFiles GatherFault
told_answer held main dirs = elim (held main) [
  | None ↦ Err MainAbsent
  | Some _ ↦ within_limits (told held main dirs)
]

-- the answer is this one, unless a read failed or memory ran out
abbrev pub Answers : (told : Result NamedFiles GatherFault)
    → (answer : Result NamedFiles GatherFault)
    → Type 0
Answers told (Ok bundle) = told ≡ Ok bundle
Answers told (Err (Read _)) = Unit {0}
Answers told (Err MainAbsent) = told ≡ Err MainAbsent
Answers told (Err (TooBig name size total)) = told ≡ Err (TooBig name size total)
Answers told (Err Memory) = Unit {0}
