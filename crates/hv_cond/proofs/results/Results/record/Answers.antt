use Rattle.std.proofs.Common.{cond, Some, ap, ◌∙◌}
use Rattle.std.specs.HashMap.{get}
use Rattle.hv_cond.specs.declared.conditions.Cond.{Cond}
use Rattle.hv_cond.specs.working.Results.{known, ordered_pair, same_pair, is_same_pair}
use Rattle.hv_cond.proofs.results.Results.record.Goals as goal

pub returns : goal.returns
unfolding known is_same_pair
returns c = λ x y.
    c.in-Ok.ensures.updates.0 (ordered_pair x y) ∙ ap (λ (k : Cond × Cond). cond (same_pair k (ordered_pair x y)) (Some c.args.answer) (get same_pair c.args.self.now.answers (ordered_pair x y))) c.ordered.ensures
