use Rattle.std.proofs.Common.{◌∙◌, arith}
use Rattle.std.proofs.lemmas.List.{length-set}
use Rattle.hv_mem.specs.declared.value.Byte.TheVariants.{Indeterminate}
use Rattle.hv_mem.proofs.SplicedLemmas.{copy-step}
use Rattle.hv_mem.proofs.moves.copy_between.Goals as goal

pub loop-k-preserved : goal.loop-k-preserved
loop-k-preserved c =
    rw (c.put.ensures, c.get-byte.ensures) (
      length-set _ _ _ ∙ c.loop-k.invariant.0,
      copy-step c.args.from c.args.to c.loop-k.k c.args.count c.args.source.now c.loop-k.target _ Indeterminate (omega arith) (omega arith) (omega arith) c.loop-k.invariant.1,
    )
