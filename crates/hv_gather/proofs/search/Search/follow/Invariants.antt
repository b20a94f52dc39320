use Rattle.std.proofs.Common.{◌≡◌, ℕ, List, Option, take}
use Rattle.hv_outside.specs.Files.{Keeps}
use Rattle.hv_plain.specs.gathering.Told as telling
use Rattle.hv_gather.specs.working.Steps.{Grows, IsWithin, Tells, search_of}
use Rattle.hv_gather.proofs.search.Search.follow.Given as goal

-- the search for each header so far
abbrev pub invariant-loop-header : goal.invariant-loop-header
invariant-loop-header g l =
    Keeps (g.F.Files.state l.initial.files) (g.F.Files.state l.files)
    × Grows l.initial.self.bundle l.self.bundle
    × ((held : List ℕ → Option (List ℕ)) → Tells (g.F.Files.state l.initial.files) held
    → search_of l.self ≡ telling.follow held l.initial.self.bundle.dirs l.reached.name (take l.header-index l.header-items) (search_of l.initial.self))
    × IsWithin l.self.total l.self.bundle.entries
