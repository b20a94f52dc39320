-- What the steps of the search do.
use Rattle.std.specs.Prelude.{ℕ, ◌-◌, ◌^◌, ◌≡◌, ◌<◌, Bool, true, false, List, [], ◌∷◌, ◌++◌, length, min, Result, Ok, Err, Option, Some, None, IsTrue}
use Rattle.hv_base.specs.Bundles.{NamedFiles}
use Rattle.hv_base.specs.declared.held.Held.{Held}
use Rattle.hv_base.specs.declared.held.Held.TheVariants.{Bytes}
use Rattle.hv_base.specs.declared.limits.TheConstants.{MOST_BUNDLE_BYTES}
use Rattle.hv_outside.specs.Files.{FileState}
use Rattle.hv_gather.specs.declared.fault.GatherFault.{GatherFault}
use Rattle.hv_gather.specs.declared.fault.GatherFault.TheVariants.{Read, MainAbsent, TooBig, Memory}
use Rattle.hv_gather.specs.declared.search.Search.{Search}
use Rattle.hv_gather.specs.Causes.{IsAbsent, IsTooBig, IsUnread, too_big}
use Rattle.hv_gather.specs.Limits.{Beyond, first_beyond, total_of}
use Rattle.hv_plain.specs.gathering.Told as telling

-- how far the search is
abbrev pub search_of : Search → telling.Search
search_of search = record {
  entries = search.bundle.entries;
  headers = search.headers;
  waiting = search.waiting;
}

-- the files tell that they hold this
abbrev pub Tells : FileState → (List ℕ → Option (List ℕ)) → Type 0
Tells state held = IsTrue state.told × ((name : List ℕ) → state.held name ≡ held name)

-- what a read of a name found, by whether there is a file
abbrev pub IsRead : Bool → (name : List ℕ) → (held : Option (List ℕ))
    → (before now : telling.Search)
    → Type 0
IsRead true name held before now =
    (bytes : List ℕ) × (held ≡ Some bytes) × (now ≡ telling.with_file name bytes before)
IsRead false name held before now = (held ≡ None) × (now ≡ telling.with_absent name before)

-- where there is no file, the count of absences says so
abbrev pub IsAbsentIf : Bool → (before now : FileState) → (name : List ℕ) → Type 0
IsAbsentIf true before now name = Unit {0}
IsAbsentIf false before now name = IsAbsent before now name

-- a search that ends here, or goes on
abbrev pub Leads : Bool → (asked : telling.Search) → (go_on : telling.Search → telling.Search)
    → (now : telling.Search) → Type 0
Leads true asked go_on now = asked ≡ now
Leads false asked go_on now = asked ≡ go_on now

-- names were added, and nothing else changed
pub record Grows (before now : NamedFiles) : Type 0 where
  pub main : now.main ≡ before.main
  pub dirs : now.dirs ≡ before.dirs
  pub more : List (List ℕ × Held)
  pub entries : now.entries ≡ before.entries ++ more

-- the fault of a step has its cause
abbrev pub IsCausedByStep : (before now : FileState) → GatherFault → Type 0
IsCausedByStep before now (Read name) = IsUnread before now name
IsCausedByStep before now MainAbsent = ⊥
IsCausedByStep before now (TooBig name size total) = IsTooBig before name size total
IsCausedByStep before now Memory = Unit {0}

-- the total is that of all files so far, and no limit was passed with one of them
pub record IsWithin (total : ℕ) (entries : List (List ℕ × Held)) : Type 0 where
  pub counted : total ≡ total_of entries
  pub none : first_beyond entries 0 ≡ None

-- where a limit is passed, it is so with the first of these entries with which one is passed
abbrev pub NamesFirst : (entries : List (List ℕ × Held)) → GatherFault → Type 0
NamesFirst entries (Read _) = Unit {0}
NamesFirst entries MainAbsent = Unit {0}
NamesFirst entries (TooBig name size total) =
    (beyond : Beyond) × (first_beyond entries 0 ≡ Some beyond)
    × (TooBig name size total ≡ too_big beyond)
NamesFirst entries Memory = Unit {0}

-- where a limit is passed, a file is held under this name, and it is so with this file after those
-- so far
abbrev pub NamesThis : (name : List ℕ) → (held : Option (List ℕ))
    → (entries : List (List ℕ × Held))
    → GatherFault → Type 0
NamesThis name held entries (Read _) = Unit {0}
NamesThis name held entries MainAbsent = Unit {0}
NamesThis name held entries (TooBig file size total) =
    (bytes : List ℕ) × (held ≡ Some bytes)
    × NamesFirst (entries ++ (name, Bytes bytes) ∷ []) (TooBig file size total)
NamesThis name held entries Memory = Unit {0}

-- all files are too big with this one, which is the first with which it is so, or memory ran out
abbrev pub IsTooBigWith : (name bytes : List ℕ) → (entries : List (List ℕ × Held))
    → GatherFault → Type 0
IsTooBigWith name bytes entries (Read _) = ⊥
IsTooBigWith name bytes entries MainAbsent = ⊥
IsTooBigWith name bytes entries (TooBig file size total) =
    (file ≡ name) × (size ≡ length bytes) × (MOST_BUNDLE_BYTES < total)
    × NamesFirst (entries ++ (name, Bytes bytes) ∷ []) (TooBig file size total)
IsTooBigWith name bytes entries Memory = Unit {0}

-- there is no file, or memory ran out
abbrev pub IsNoFile : Result Bool GatherFault → Type 0
IsNoFile (Ok true) = ⊥
IsNoFile (Ok false) = Unit {0}
IsNoFile (Err (Read _)) = ⊥
IsNoFile (Err MainAbsent) = ⊥
IsNoFile (Err (TooBig _ _ _)) = ⊥
IsNoFile (Err Memory) = Unit {0}
