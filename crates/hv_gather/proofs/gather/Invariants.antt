use Rattle.std.proofs.Common.{◌≡◌, ◌+◌, ℕ, List, Option}
use Rattle.hv_base.specs.declared.limits.TheConstants.{MOST_INCLUDES}
use Rattle.hv_outside.specs.Files.{Keeps}
use Rattle.hv_plain.specs.gathering.Told as telling
use Rattle.hv_gather.specs.working.Steps.{Grows, IsWithin, Tells, search_of}
use Rattle.hv_gather.proofs.gather.Given as goal

-- so many mentions deeper than at first
abbrev pub invariant-loop : goal.invariant-loop
invariant-loop g l =
    Keeps (g.F.Files.state l.initial.files) (g.F.Files.state l.files)
    × Grows l.initial.search.bundle l.search.bundle
    × ((held : List ℕ → Option (List ℕ)) → Tells (g.F.Files.state l.initial.files) held
    → (left : ℕ) × (left + l.counter ≡ MOST_INCLUDES)
    × (telling.deepen MOST_INCLUDES held l.initial.search.bundle.dirs (search_of l.initial.search)
    ≡ telling.deepen left held l.initial.search.bundle.dirs (search_of l.search)))
    × IsWithin l.search.total l.search.bundle.entries
