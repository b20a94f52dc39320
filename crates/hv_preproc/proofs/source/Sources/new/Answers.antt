use Rattle.std.proofs.Common.{[], ◌∷◌, List, Option, ap, arith, length, length-append, subst, sym}
use Rattle.hv_preproc.specs.declared.source.Source.{Source}
use Rattle.hv_preproc.proofs.SourceLemmas.{AreFilesOf, AreFilesOf-add}
use Rattle.hv_preproc.proofs.source.Sources.new.Goals as goal

pub loop-number-preserved : goal.loop-number-preserved
loop-number-preserved c =
    let items = c.in_ok-push.ensures.items in
    record {
      count = omega (
        arith,
        ap length items,
        length-append c.loop-number.files.items (c.in_ok-cut_file.field-0 ∷ []),
        c.loop-number.invariant.count,
      );
      made = subst (λ (sources : List (Option Source)). AreFilesOf c.args.bundle.now sources)
          (sym items)
          (AreFilesOf-add c.args.bundle.now c.loop-number.files.items c.in_ok-cut_file.field-0
          c.loop-number.number c.loop-number.invariant.made c.loop-number.invariant.count
          c.in_ok-cut_file.ensures);
    }
