use Rattle.hv_plainpp.proofs.ExpressionTrees.{truth_is_derived}
use Rattle.hv_plainpp.proofs.truth_is_derived.Goals as goal

pub returns : goal.returns
returns c = truth_is_derived
