use Rattle.std.proofs.Common.{◌≡◌, drop, map}
use Rattle.std.specs.String.{string_bytes}
use Rattle.hv_plain.specs.gathering.Told as telling
use Rattle.hv_gather.specs.Plain.{bytes_in}
use Rattle.hv_gather.specs.working.Steps.{Grows, search_of}
use Rattle.hv_gather.proofs.search.Search.look_up_among.Given as goal

-- the search goes on with the names that are left
abbrev pub invariant-loop-name : goal.invariant-loop-name
invariant-loop-name l =
    Grows l.initial.self.bundle l.self.bundle
    × (telling.look_up (bytes_in l.all) l.header.name (map string_bytes l.name-items) (search_of l.initial.self)
    ≡ telling.look_up (bytes_in l.all) l.header.name (map string_bytes (drop l.name-index l.name-items)) (search_of l.self))
