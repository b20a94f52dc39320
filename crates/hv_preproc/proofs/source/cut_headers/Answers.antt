use Rattle.std.proofs.Common.{◌+◌, ◌<◌, List, arith, subst, sym, take}
use Rattle.hv_plainpp.specs.Files.{header_names}
use Rattle.hv_preproc.proofs.SourceLemmas.{AreHeadersOf-row, row-below}
use Rattle.hv_preproc.specs.declared.source.Source.{Source}
use Rattle.hv_preproc.specs.working.Sources.{AreHeadersOf}
use Rattle.hv_preproc.proofs.source.cut_headers.Goals as goal

pub loop-name-preserved : goal.loop-name-preserved
loop-name-preserved c =
    let below : c.loop-name.row < 7 = row-below c.loop-name.row c.in-Some.name.now c.in-Some.ensures in
    record {
      made = subst (λ (sources : List Source).
          AreHeadersOf sources (take (c.loop-name.row + 1) header_names))
          (sym {A = List Source} c.in_ok-push.ensures.items)
          (AreHeadersOf-row c.loop-name.headers.items c.in_ok-cut_header.field-0 c.loop-name.row
          c.in-Some.name.now c.in-Some.ensures c.loop-name.invariant.made c.in_ok-cut_header.ensures);
      within = omega (arith, below);
    }
