use Rattle.std.proofs.Common.{◌≡◌, ◌++◌, map, length}
use Rattle.hv_plain.specs.episode.Bodies.{nothing, parts_after}
use Rattle.hv_rescan.specs.Values.{part_of}
use Rattle.hv_rescan.specs.working.Steps.{before_of, parameters_of}
use Rattle.hv_rescan.proofs.part.parts_of.Given as goal

abbrev pub invariant-loop-rest : goal.invariant-loop-rest
invariant-loop-rest l = map part_of l.parts.items ++ parts_after (parameters_of l.parameters) (before_of l.before) l.rest
    ≡ parts_after (parameters_of l.parameters) nothing l.tokens

abbrev pub decreases-loop-rest : goal.decreases-loop-rest
decreases-loop-rest l = length l.rest
