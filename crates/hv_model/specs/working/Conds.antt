-- A stack of conditions.
use Rattle.std.specs.Prelude.{Bool, List, map}
use Rattle.hv_cond.specs.Diagram.{Diagram, holds}
use Rattle.hv_cond.specs.declared.conditions.Cond.{Cond}

-- whether the conditions hold where the variables have these values
abbrev pub held : Diagram → List Bool → List Cond → List Bool
held diagram values conds = map (λ c. holds diagram c values) conds
