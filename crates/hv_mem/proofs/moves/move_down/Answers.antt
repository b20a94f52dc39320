use Rattle.std.proofs.Common.{◌∙◌, arith}
use Rattle.std.proofs.lemmas.List.{length-set}
use Rattle.hv_mem.specs.declared.value.Byte.TheVariants.{Indeterminate}
use Rattle.hv_mem.proofs.SplicedLemmas.{down-step}
use Rattle.hv_mem.proofs.moves.move_down.Goals as goal

pub loop-k-preserved : goal.loop-k-preserved
loop-k-preserved c =
    rw (c.put.ensures, c.get-byte.ensures) (
      length-set _ _ _ ∙ c.loop-k.invariant.0,
      down-step c.args.from c.args.to c.loop-k.k c.args.count c.loop-k.bytes _ Indeterminate (omega arith) (omega arith) (omega arith) c.loop-k.invariant.1,
    )
