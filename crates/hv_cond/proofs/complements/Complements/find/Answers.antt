use Rattle.std.proofs.Common.{◌∙◌}
use Rattle.hv_cond.specs.working.Complements.{complement_of}
use Rattle.hv_cond.proofs.complements.Complements.find.Goals as goal

pub returns : goal.returns
unfolding complement_of
returns c = c.copied.ensures ∙ c.get.ensures.value
