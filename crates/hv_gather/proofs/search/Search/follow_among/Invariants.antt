use Rattle.std.proofs.Common.{◌≡◌, take}
use Rattle.hv_plain.specs.gathering.Told as telling
use Rattle.hv_gather.specs.Plain.{bytes_in}
use Rattle.hv_gather.specs.working.Steps.{Grows, search_of}
use Rattle.hv_gather.proofs.search.Search.follow_among.Given as goal

-- the search for each header so far
abbrev pub invariant-loop-header : goal.invariant-loop-header
invariant-loop-header l =
    Grows l.initial.self.bundle l.self.bundle
    × (search_of l.self
    ≡ telling.follow (bytes_in l.all) l.initial.self.bundle.dirs l.reached.name (take l.header-index l.header-items) (search_of l.initial.self))
