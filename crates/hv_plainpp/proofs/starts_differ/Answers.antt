use Rattle.hv_plainpp.proofs.Starts.{starts_differ}
use Rattle.hv_plainpp.proofs.starts_differ.Goals as goal

pub returns : goal.returns
returns c = starts_differ
