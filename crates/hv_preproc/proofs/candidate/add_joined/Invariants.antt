use Rattle.std.proofs.Common.{◌≡◌, ◌++◌, map, take}
use Rattle.std.specs.String.{string_bytes}
use Rattle.hv_plain.specs.gathering.SearchOrder as order
use Rattle.hv_preproc.proofs.candidate.add_joined.Given as goal

-- the name within each folder so far
abbrev pub invariant-loop-dir : goal.invariant-loop-dir
invariant-loop-dir l =
    map string_bytes l.names.items ≡ map string_bytes l.initial.names.items
    ++ map (λ dir. order.joined dir l.name) (map string_bytes (take l.dir-index l.dirs))
