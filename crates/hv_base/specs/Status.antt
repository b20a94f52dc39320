-- The statuses with which the program ends.
use Rattle.std.specs.Prelude.{ℕ}
use Rattle.hv_base.specs.declared.status.Status.{Status}
use Rattle.hv_base.specs.declared.status.Status.TheVariants.{Done, Refused, BadWords, Unread, Unwritten, Memory, TooMany, BadModel, Undefined, OutOfSteps}

-- the exit status
-- SAME: statuses
abbrev pub code_of : Status → ℕ
code_of Done = 0
code_of Refused = 1
code_of BadWords = 2
code_of Unread = 3
code_of Unwritten = 4
code_of Memory = 5
code_of TooMany = 6
code_of BadModel = 7
code_of Undefined = 8
code_of OutOfSteps = 9
