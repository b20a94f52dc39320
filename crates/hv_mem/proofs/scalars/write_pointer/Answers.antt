use Rattle.std.proofs.Common.{◌∙◌, arith}
use Rattle.std.proofs.lemmas.List.{length-set}
use Rattle.hv_mem.proofs.ScalarsLemmas.{part-step}
use Rattle.hv_mem.proofs.scalars.write_pointer.Goals as goal

pub loop-k-preserved : goal.loop-k-preserved
loop-k-preserved c =
    rw c.put.ensures (
      length-set _ _ _ ∙ c.loop-k.invariant.0,
      part-step c.args.offset c.loop-k.k c.args.pointer c.loop-k.bytes _ (omega arith) (omega arith) c.loop-k.invariant.1,
    )
