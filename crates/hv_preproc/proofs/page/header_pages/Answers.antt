use Rattle.hv_preproc.proofs.PageLemmas.{ArePagesFor-header}
use Rattle.hv_preproc.proofs.page.header_pages.Goals as goal

pub loop-source-preserved : goal.loop-source-preserved
loop-source-preserved c =
    ArePagesFor-header c.args.sources.now c.loop-source.pages.items c.push.new.self.items
    c.loop-source.source-index c.source-item.result c.in_ok-new.field-0
    c.loop-source-test.true c.source-item.is c.loop-source.invariant c.in_ok-new.ensures
    c.in_ok-push.ensures.items
