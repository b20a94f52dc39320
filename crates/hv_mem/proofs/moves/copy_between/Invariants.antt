use Rattle.std.proofs.Common.{◌≡◌, ◌+◌, ◌-◌, length, take, drop}
use Rattle.std.specs.Prelude.{pos}
use Rattle.hv_mem.specs.Memory.{spliced}
use Rattle.hv_mem.proofs.moves.copy_between.Given as goal

-- the bytes that are left to be copied lead to what all lead to
abbrev pub invariant-loop-k : goal.invariant-loop-k
invariant-loop-k l =
    (length l.target ≡ length l.initial.target)
    × (spliced (pos (l.to + l.k)) (take (l.count - l.k) (drop (l.from + l.k) l.source)) l.target
    ≡ spliced (pos l.to) (take l.count (drop l.from l.source)) l.initial.target)
