use Rattle.std.proofs.Common.{◌≡◌, ◌+◌, ◌-◌, take, drop}
use Rattle.hv_mem.specs.Scalars.{are_parts}
use Rattle.hv_mem.proofs.scalars.read_pointer.Given as goal

-- what is left to be read decides
abbrev pub invariant-loop-k : goal.invariant-loop-k
invariant-loop-k l =
    are_parts l.pointer l.k (take (8 - l.k) (drop (l.offset + l.k) l.bytes))
    ≡ are_parts l.pointer 1 (take 7 (drop (l.offset + 1) l.bytes))
