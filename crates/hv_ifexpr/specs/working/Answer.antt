-- The answer to what the machine makes of an expression.
use Rattle.std.specs.Prelude.{ℕ, Bool, Option, Some, None, Result, Ok, Err}
use Rattle.hv_plain.specs.controlling.Values.{is_nonzero}
use Rattle.hv_ifexpr.specs.declared.fault.IfFault.{IfFault}
use Rattle.hv_ifexpr.specs.declared.fault.IfFault.TheVariants.{Bad}
use Rattle.hv_plain.specs.declared.controlling.Operand.{Operand}

-- the answer for these bits: whether they are other than zero, and `Bad` where there are none
abbrev pub decided_by : Option ℕ → Result Bool IfFault
decided_by None = Err Bad
decided_by (Some bits) = Ok (is_nonzero bits)

-- the answer for what the tokens come to, and `Bad` where they aren't an expression
abbrev pub decided : Option Operand → Result Bool IfFault
decided None = Err Bad
decided (Some v) = decided_by v.bits
