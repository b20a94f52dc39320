-- Laws for proofs above.
use Rattle.std.proofs.Common.{◌∙◌}
use Rattle.hv_cond.specs.Diagram.{Diagram, Keeps}
use Rattle.hv_cond.specs.declared.conditions.Cond.{Cond}
use Rattle.hv_model.specs.Rule.{Features}
use Rattle.hv_model.specs.Valid.{IsValidIn}

-- what a store grows into has the same valid configurations at the same node
pub valid-kept : (model : Features) (old new : Diagram) (valid : Cond) → Keeps old new
    → IsValidIn model old valid → IsValidIn model new valid
valid-kept model old new valid kept h =
    record {
      variables = kept.variables ∙ h.variables;
      node = kept.stays valid h.node;
      meaning = λ values. kept.meaning valid h.node values ∙ h.meaning values;
    }
