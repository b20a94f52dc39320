use Rattle.std.proofs.Common.{List, Option, Some, map, subst}
use Rattle.hv_preproc.proofs.PageLemmas.{are_pages}
use Rattle.hv_preproc.specs.declared.source.Source.{Source}
use Rattle.hv_preproc.specs.working.Pages.{ArePagesFor}
use Rattle.hv_preproc.proofs.page.Pages.new.Goals as goal

pub returns-clause-right : goal.returns-clause-right
returns-clause-right c = are_pages _ c.args.sources.now c.requires
    (subst (λ (sources : List (Option Source)).
    ArePagesFor sources c.in_ok-file_pages.field-0.items) c.deref.ensures.value
    c.in_ok-file_pages.ensures)
    (subst (λ (sources : List Source).
    ArePagesFor (map Some sources) (map Some c.in_ok-header_pages.field-0.items))
    c.deref-2.ensures.value c.in_ok-header_pages.ensures)
