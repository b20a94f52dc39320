use Rattle.std.proofs.Common.{Some, map, take}
use Rattle.hv_preproc.specs.working.Pages.{ArePagesFor}
use Rattle.hv_preproc.proofs.page.header_pages.Given as goal

-- the pages so far
abbrev pub invariant-loop-source : goal.invariant-loop-source
invariant-loop-source l =
    ArePagesFor (map Some (take l.source-index l.sources)) (map Some l.pages.items)
