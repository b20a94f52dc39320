use Rattle.std.proofs.Common.{◌∙◌, sym, ap, refl, Some}
use Rattle.hv_base.proofs.Booleans.{and_left}
use Rattle.hv_words.proofs.ValuesLemmas.{values_given, values_refused}
use Rattle.hv_words.proofs.words.matches.Goals as goal

pub returns-in-Ok : goal.returns-in-Ok
returns-in-Ok c =
    ap Some (c.in-Ok.ensures.matches (and_left _ _ c.requires)).0
    ∙ sym (values_given _ _ (c.in-Ok.ensures.kinds c.requires))

pub returns : goal.returns
returns c =
    sym (values_refused _ _ c.in-Err.error _ refl (c.in-Err.ensures.kinds c.requires)
    (λ e. c.in_default.not-OutOfMemory (c.kind.ensures ∙ e)))
