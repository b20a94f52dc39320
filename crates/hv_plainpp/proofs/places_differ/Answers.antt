use Rattle.hv_plainpp.proofs.FilePlacement.{places_differ}
use Rattle.hv_plainpp.proofs.places_differ.Goals as goal

pub returns : goal.returns
returns c = places_differ
