use Rattle.std.proofs.Common.{ap, ◌∙◌}
use Rattle.std.specs.HashMap.{get}
use Rattle.hv_cond.specs.declared.conditions.Cond.{Cond}
use Rattle.hv_cond.specs.working.Results.{known, same_pair}
use Rattle.hv_cond.proofs.results.Results.find.Goals as goal

pub returns : goal.returns
unfolding known
returns c = c.copied.ensures ∙ c.get.ensures.value ∙ ap (λ (k : Cond × Cond). get same_pair c.args.self.now.answers k) c.ordered-key.ensures
