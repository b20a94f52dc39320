use Rattle.std.proofs.Common.{◌≡◌, ◌+◌, ◌-◌, ◌^◌, ◌<◌, ◌≤◌, take, drop}
use Rattle.std.specs.Prelude.{IfOk}
use Rattle.hv_mem.specs.Scalars.{number_in}
use Rattle.hv_mem.proofs.scalars.read_number.Given as goal

-- what the bytes from k on make up
abbrev pub invariant-loop-k : goal.invariant-loop-k
invariant-loop-k l =
    (l.k ≤ l.count)
    × (l.read ≡ number_in (take (l.count - l.k) (drop (l.offset + l.k) l.bytes)))
    × IfOk l.read (λ n. n < 256 ^ (l.count - l.k))

abbrev pub decreases-loop-k : goal.decreases-loop-k
decreases-loop-k l = l.k
