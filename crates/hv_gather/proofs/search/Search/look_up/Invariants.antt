use Rattle.std.proofs.Common.{◌≡◌, ℕ, List, Option, drop, map}
use Rattle.std.specs.String.{string_bytes}
use Rattle.hv_outside.specs.Files.{Keeps}
use Rattle.hv_plain.specs.gathering.Told as telling
use Rattle.hv_gather.specs.working.Steps.{Grows, IsWithin, Tells, search_of}
use Rattle.hv_gather.proofs.search.Search.look_up.Given as goal

-- the search goes on with the names that are left
abbrev pub invariant-loop-name : goal.invariant-loop-name
invariant-loop-name g l =
    Keeps (g.F.Files.state l.initial.files) (g.F.Files.state l.files)
    × Grows l.initial.self.bundle l.self.bundle
    × ((held : List ℕ → Option (List ℕ)) → Tells (g.F.Files.state l.initial.files) held
    → telling.look_up held l.header.name (map string_bytes l.name-items) (search_of l.initial.self)
    ≡ telling.look_up held l.header.name (map string_bytes (drop l.name-index l.name-items)) (search_of l.self))
    × IsWithin l.self.total l.self.bundle.entries
