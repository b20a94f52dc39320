use Rattle.std.proofs.Common.{◌+◌}
use Rattle.hv_cond.proofs.connectives.+combine.Given as goal

abbrev pub decreases-combine : goal.decreases-combine
decreases-combine l = l.a.index + l.b.index
