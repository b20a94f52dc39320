use Rattle.std.proofs.Common.{◌+◌}
use Rattle.hv_cond.proofs.meetings.+meet.Given as goal

abbrev pub decreases-meet : goal.decreases-meet
decreases-meet l = l.a.index + l.b.index
