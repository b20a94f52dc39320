use Rattle.std.proofs.Common.{◌≡◌, take}
use Rattle.hv_plain.specs.gathering.Told as telling
use Rattle.hv_gather.specs.Plain.{bytes_in}
use Rattle.hv_gather.specs.working.Steps.{Grows, search_of}
use Rattle.hv_gather.proofs.search.Search.deepen_among.Given as goal

-- the search for what each one so far mentions
abbrev pub invariant-loop-reached : goal.invariant-loop-reached
invariant-loop-reached l =
    Grows l.initial.self.bundle l.self.bundle
    × (search_of l.self
    ≡ telling.follow_all (bytes_in l.all) l.initial.self.bundle.dirs (take l.reached-index l.reached-items) (search_of l.initial.self))
