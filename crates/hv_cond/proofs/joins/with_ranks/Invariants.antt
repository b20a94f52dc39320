use Rattle.std.proofs.Common.{◌≡◌, map, take}
use Rattle.hv_cond.specs.working.Joins.{cond_in}
use Rattle.hv_cond.proofs.joins.with_ranks.Given as goal

abbrev pub invariant-loop-cond : goal.invariant-loop-cond
invariant-loop-cond l = map cond_in l.found.items ≡ take l.cond-index l.parts
