use Rattle.std.proofs.Common.{◌≡◌, ℕ, List, Option, take}
use Rattle.hv_outside.specs.Files.{Keeps}
use Rattle.hv_plain.specs.gathering.Told as telling
use Rattle.hv_gather.specs.working.Steps.{Grows, IsWithin, Tells, search_of}
use Rattle.hv_gather.proofs.search.Search.deepen.Given as goal

-- the search for what each one so far mentions
abbrev pub invariant-loop-reached : goal.invariant-loop-reached
invariant-loop-reached g l =
    Keeps (g.F.Files.state l.initial.files) (g.F.Files.state l.files)
    × Grows l.initial.self.bundle l.self.bundle
    × ((held : List ℕ → Option (List ℕ)) → Tells (g.F.Files.state l.initial.files) held
    → search_of l.self ≡ telling.follow_all held l.initial.self.bundle.dirs (take l.reached-index l.reached-items) (search_of l.initial.self))
    × IsWithin l.self.total l.self.bundle.entries
