-- The undefined events by their numbers.
use Rattle.std.specs.Prelude.{ℕ}
use Rattle.hv_mem.specs.declared.kind.Kind.{Kind}
use Rattle.hv_mem.specs.declared.kind.Kind.TheVariants.{SignedOverflow, ZeroDivisor, ShiftCount, OutsideObject, DeadObject, NullAccess, Indeterminate, Mixed, ReadOnly, BadCall, NoValue, BadFormat, BadFree, Overlap, Misaligned}

-- the number of an event
-- SAME: undefined events
abbrev pub number : Kind → ℕ
number SignedOverflow = 1
number ZeroDivisor = 2
number ShiftCount = 3
number OutsideObject = 4
number DeadObject = 5
number NullAccess = 6
number Indeterminate = 7
number Mixed = 8
number ReadOnly = 9
number BadCall = 10
number NoValue = 11
number BadFormat = 12
number BadFree = 13
number Overlap = 14
number Misaligned = 15
