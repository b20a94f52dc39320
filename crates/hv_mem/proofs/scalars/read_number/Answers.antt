use Rattle.std.proofs.Common.{◌≡◌, ◌+◌, ◌-◌, arith}
use Rattle.hv_mem.proofs.ScalarsLemmas.{below_top, read-step}
use Rattle.hv_mem.proofs.scalars.read_number.Goals as goal

pub with_lower-read-requires : goal.with_lower-read-requires
with_lower-read-requires c =
    below_top c.loop-k.read (c.args.count - c.loop-k.k) (omega arith) c.loop-k.invariant.2

pub loop-k-preserved : goal.loop-k-preserved
loop-k-preserved c =
    let back : c.loop-k.k ≡ c.loop-k.k - 1 + 1 = omega arith in
    let index : c.args.count - c.loop-k.k + 1 ≡ c.args.count - (c.loop-k.k - 1) = omega arith in (
      omega arith,
      read-step c.args.offset (c.loop-k.k - 1) c.args.count c.args.bytes.now c.get-byte.result c.loop-k.read _ (omega arith) (omega arith) c.get-byte.ensures (rw back at c.loop-k.invariant.1) c.with_lower-read.ensures.value,
      rw index at (c.with_lower-read.ensures.below (c.args.count - c.loop-k.k) c.loop-k.invariant.2),
    )
