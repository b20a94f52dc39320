use Rattle.std.proofs.Common.{◌≡◌, ◌+◌, ◌-◌, length}
use Rattle.std.specs.Prelude.{pos}
use Rattle.hv_mem.specs.Memory.{spliced}
use Rattle.hv_mem.specs.Scalars.{low_bytes}
use Rattle.hv_mem.proofs.scalars.write_number.Given as goal

-- the bytes that are left to be written lead to what all lead to
abbrev pub invariant-loop-k : goal.invariant-loop-k
invariant-loop-k l =
    (length l.bytes ≡ length l.initial.bytes)
    × (spliced (pos (l.offset + l.k)) (low_bytes (l.count - l.k) l.rest) l.bytes
    ≡ spliced (pos l.offset) (low_bytes l.count l.number) l.initial.bytes)
