use Rattle.std.proofs.Common.{◌≡◌, ◌+◌, ℕ}
use Rattle.hv_base.specs.declared.limits.TheConstants.{MOST_INCLUDES}
use Rattle.hv_plain.specs.gathering.Told as telling
use Rattle.hv_gather.specs.Plain.{bytes_in}
use Rattle.hv_gather.specs.working.Steps.{Grows, search_of}
use Rattle.hv_gather.proofs.search.plain.gather_plainly.Given as goal

-- so many mentions deeper than at first
abbrev pub invariant-loop : goal.invariant-loop
invariant-loop l =
    Grows l.initial.search.bundle l.search.bundle
    × ((left : ℕ) × (left + l.counter ≡ MOST_INCLUDES)
    × (telling.deepen MOST_INCLUDES (bytes_in l.all) l.initial.search.bundle.dirs (search_of l.initial.search)
    ≡ telling.deepen left (bytes_in l.all) l.initial.search.bundle.dirs (search_of l.search)))
