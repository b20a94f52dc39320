use Rattle.std.proofs.Common.{◌≡◌, drop}
use Rattle.hv_plain.specs.episode.Bodies.{index_of}
use Rattle.hv_rescan.specs.working.Steps.{shifted}
use Rattle.hv_rescan.proofs.part.index_in.Given as goal

abbrev pub invariant-loop-i : goal.invariant-loop-i
invariant-loop-i l = shifted l.i (index_of (drop l.i l.names) l.name) ≡ index_of l.names l.name
