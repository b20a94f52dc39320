use Rattle.std.proofs.Common.{◌≡◌, length}
use Rattle.hv_plainpp.specs.Definitions.{quotes_parameters}
use Rattle.hv_directives.specs.working.ParameterSet.{names_of}
use Rattle.hv_directives.proofs.parameter_set.ParameterSet.are_quoted.Given as goal

-- the tokens so far are well
abbrev pub invariant-loop-rest : goal.invariant-loop-rest
invariant-loop-rest l =
    quotes_parameters (names_of l.self) l.tokens ≡ quotes_parameters (names_of l.self) l.rest

abbrev pub decreases-loop-rest : goal.decreases-loop-rest
decreases-loop-rest l = length l.rest
