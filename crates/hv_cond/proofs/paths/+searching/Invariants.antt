use Rattle.std.proofs.Common.{◌+◌, ◌*◌, max}
use Rattle.hv_cond.proofs.paths.+searching.Given as goal

abbrev pub decreases-search : goal.decreases-search
decreases-search l = 2 * l.c.index

abbrev pub decreases-search_half : goal.decreases-search_half
decreases-search_half l = 2 * max l.decision.low.index l.decision.high.index + 1
