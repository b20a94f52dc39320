-- The diagram of the valid configurations: variable i is option i.
use Rattle.std.specs.Prelude.{◌≡◌, Bool, List, length}
use Rattle.hv_cond.specs.Diagram.{Diagram, IsNode, holds}
use Rattle.hv_cond.specs.declared.conditions.Cond.{Cond}
use Rattle.hv_model.specs.Rule.{Features, meets_all}

-- the node holds exactly where the options' values meet every rule
pub record IsValidIn (model : Features) (diagram : Diagram) (valid : Cond) : Type 0 where
  pub variables : diagram.variables ≡ length model.names
  pub node : IsNode diagram valid
  pub meaning : (values : List Bool) → holds diagram valid values ≡ meets_all values model.rules
