use Rattle.std.proofs.Common.{◌≡◌, ◌≤◌, length, drop, None}
use Rattle.hv_plain.specs.gathering.SearchOrder as order
use Rattle.hv_preproc.proofs.candidate.folder_of.Given as goal

-- no `/` stands from here on
abbrev pub invariant-loop-end : goal.invariant-loop-end
invariant-loop-end l = (order.folder_of (drop l.end l.file) ≡ None) × (l.end ≤ length l.file)

abbrev pub decreases-loop-end : goal.decreases-loop-end
decreases-loop-end l = l.end
