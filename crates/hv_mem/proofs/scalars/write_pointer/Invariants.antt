use Rattle.std.proofs.Common.{◌≡◌, ◌+◌, ◌-◌, length}
use Rattle.std.specs.Prelude.{pos}
use Rattle.hv_mem.specs.Memory.{spliced}
use Rattle.hv_mem.specs.Scalars.{parts, parts_from}
use Rattle.hv_mem.proofs.scalars.write_pointer.Given as goal

-- the parts that are left to be written lead to what all lead to
abbrev pub invariant-loop-k : goal.invariant-loop-k
invariant-loop-k l =
    (length l.bytes ≡ length l.initial.bytes)
    × (spliced (pos (l.offset + l.k)) (parts_from l.pointer l.k (8 - l.k)) l.bytes
    ≡ spliced (pos l.offset) (parts l.pointer) l.initial.bytes)
