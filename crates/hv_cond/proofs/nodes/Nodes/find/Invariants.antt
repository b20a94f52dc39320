use Rattle.hv_cond.specs.working.Nodes.{newest_first}
use Rattle.hv_cond.specs.working.Places.{buckets}
use Rattle.hv_cond.proofs.Chains.{IsSearching}
use Rattle.hv_cond.proofs.nodes.Nodes.find.Given as goal

abbrev pub invariant-loop-index : goal.invariant-loop-index
invariant-loop-index l = IsSearching (buckets l.self.places) (newest_first l.self) l.decision l.index

abbrev pub decreases-loop-index : goal.decreases-loop-index
decreases-loop-index l = l.index
