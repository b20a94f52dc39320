use Rattle.std.proofs.Common.{◌-◌}
use Rattle.hv_cond.proofs.tests.+build.Given as goal

abbrev pub decreases-build : goal.decreases-build
decreases-build l = 3 - l.i
