-- The first of the configurations that some entry refuses.
use Rattle.std.specs.Prelude.{◌≡◌, true, Bool, List, [], Contains, length, Option, None, Some}
use Rattle.hv_base.specs.declared.config.Config.{Config}
use Rattle.hv_cond.specs.Diagram.{Diagram, IsBefore, holds}
use Rattle.hv_preproc.specs.working.Taking.{any_holds}
use Rattle.hv_toks.specs.declared.parted.Failing.{Failing}

-- this entry refuses the first of all configurations that some entry refuses, which is this one
pub record IsFirstOf (diagram : Diagram) (failing : List Failing) (values : List Bool)
    (entry : Failing) : Type 0 where
  pub among : Contains failing entry
  pub all_options : length values ≡ diagram.variables
  pub here : holds diagram entry.cond values ≡ true
  pub first : (others : List Bool) → length others ≡ diagram.variables
      → any_holds diagram failing others ≡ true → ¬ IsBefore others values

-- the same where there is an entry; there is none otherwise
abbrev pub IsLeastOf : Diagram → List Failing → Option (Config × Failing) → Type 0
IsLeastOf diagram failing None = failing ≡ []
IsLeastOf diagram failing (Some found) = IsFirstOf diagram failing found.0.on found.1
