use Rattle.std.proofs.Common.{take}
use Rattle.hv_preproc.specs.working.Pages.{ArePagesFor}
use Rattle.hv_preproc.proofs.page.file_pages.Given as goal

-- the pages so far
abbrev pub invariant-loop-source : goal.invariant-loop-source
invariant-loop-source l = ArePagesFor (take l.source-index l.sources) l.pages.items
