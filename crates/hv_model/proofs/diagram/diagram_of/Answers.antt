use Rattle.std.proofs.Common.{◌∙◌, sym, subst}
use Rattle.hv_model.specs.working.Steps.{AllFit}
use Rattle.hv_model.proofs.diagram.diagram_of.Goals as goal

pub joined-requires : goal.joined-requires
joined-requires c =
    subst (λ n. AllFit n c.rules-2.result.now)
    (sym (c.in_ok-store.ensures.variables ∙ c.options-2.ensures.count)) c.rules-2.ensures.fit
