use Rattle.std.proofs.Common.{◌≡◌, length}
use Rattle.hv_plainpp.specs.Definitions.{some_parameters}
use Rattle.hv_directives.specs.working.Steps.{with_names}
use Rattle.hv_directives.proofs.parameters.some_parameters.Given as goal

-- the parameters so far stand before those of the tokens that are left
abbrev pub invariant-loop-rest : goal.invariant-loop-rest
invariant-loop-rest l = some_parameters l.tokens ≡ with_names l.names (some_parameters l.rest)

abbrev pub decreases-loop-rest : goal.decreases-loop-rest
decreases-loop-rest l = length l.rest
