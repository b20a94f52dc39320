-- The state of the pure machine that a token comes to.
use Rattle.std.specs.Prelude.{◌≡◌, Option, Some, None}
use Rattle.hv_grammar.specs.machine.Frames.{State}
use Rattle.hv_grammar.specs.machine.Steps.{Taken}

-- a token that was taken came to this state; where it wasn't, nothing is said
abbrev pub Comes : Option Taken → State → Type 0
Comes None m = Unit {0}
Comes (Some k) m = m ≡ k.state
