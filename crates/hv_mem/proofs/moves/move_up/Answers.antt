use Rattle.std.proofs.Common.{◌∙◌, ◌≡◌, ◌+◌, ◌-◌, arith}
use Rattle.std.proofs.lemmas.List.{length-set}
use Rattle.hv_mem.specs.declared.value.Byte.TheVariants.{Indeterminate}
use Rattle.hv_mem.proofs.SplicedLemmas.{up-step}
use Rattle.hv_mem.proofs.moves.move_up.Goals as goal

pub loop-k-preserved : goal.loop-k-preserved
loop-k-preserved c =
    let back : c.loop-k.k ≡ c.loop-k.k - 1 + 1 = omega arith in
    rw (c.put.ensures, c.get-byte.ensures) (
      omega arith,
      length-set _ _ _ ∙ c.loop-k.invariant.1,
      up-step c.args.from c.args.to (c.loop-k.k - 1) c.loop-k.bytes _ Indeterminate (omega arith) (omega arith) (rw back at c.loop-k.invariant.2),
    )
