use Rattle.std.proofs.Common.{◌≡◌, drop, map}
use Rattle.std.specs.String.{string_bytes}
use Rattle.hv_plainpp.specs.Files.{first_there}
use Rattle.hv_preproc.proofs.page.Pages.first_there.Given as goal

-- no candidate before is there
abbrev pub invariant-loop-name : goal.invariant-loop-name
invariant-loop-name l =
    first_there l.self.bundle.now l.header (drop l.name-index (map string_bytes l.names))
    ≡ first_there l.self.bundle.now l.header (map string_bytes l.names)
