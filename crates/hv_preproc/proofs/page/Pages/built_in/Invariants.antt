use Rattle.std.proofs.Common.{◌≡◌, drop}
use Rattle.hv_preproc.specs.working.Parts.{page_named}
use Rattle.hv_preproc.proofs.page.Pages.built_in.Given as goal

-- no page before has the name
abbrev pub invariant-loop-page : goal.invariant-loop-page
invariant-loop-page l = page_named l.name (drop l.page-index l.self.headers.items)
    ≡ page_named l.name l.self.headers.items
