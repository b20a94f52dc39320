-- Files that are all told, in a bundle.
use Rattle.std.specs.Prelude.{ℕ, List, Option, Some, None}
use Rattle.hv_base.specs.Bundles.{NamedFiles, held_at}
use Rattle.hv_base.specs.declared.held.Held.{Held}
use Rattle.hv_base.specs.declared.held.Held.TheVariants.{Bytes, Absent}

-- the bytes of what is held; `None` where nothing is
abbrev pub bytes_of : Option Held → Option (List ℕ)
bytes_of None = None
bytes_of (Some Absent) = None
bytes_of (Some (Bytes bytes)) = Some bytes

-- what each name holds, where a bundle has all files; `None` where there is no file of this name
abbrev pub bytes_in : NamedFiles → List ℕ → Option (List ℕ)
bytes_in all name = bytes_of (held_at all name)
