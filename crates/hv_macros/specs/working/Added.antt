-- What adding an alternative does to a list of them.
use Rattle.std.specs.Prelude.{◌≡◌, ◌≢◌, ◌++◌, Bool, List, [], ◌∷◌, if◌then◌else◌}
use Rattle.std.specs.List.{AllPairs}
use Rattle.hv_cond.specs.Diagram.{AllNodes, Diagram, holds}
use Rattle.hv_cond.specs.declared.conditions.Cond.{Cond}
use Rattle.hv_cond.specs.Parts.{NoneFalse}
use Rattle.hv_toks.specs.Macro.{Macro}
use Rattle.hv_macros.specs.Alternatives.{MeansOther, NoneMeans, conditions, meaning_or, meanings}
use Rattle.hv_macros.specs.declared.alternatives.Alternative.{Alternative}

-- the new alternatives are the old ones and, after them, this macro under this condition, where
-- that can hold
pub record IsAdded (diagram : Diagram) (old new : List Alternative) (cond : Cond) (macro : Macro)
    : Type 0 where
  pub nodes : AllNodes diagram (conditions old) → AllNodes diagram (conditions new)
  pub none_false : NoneFalse diagram (conditions old) → NoneFalse diagram (conditions new)
  pub distinct : NoneMeans macro old → AllPairs MeansOther old → AllPairs MeansOther new
  pub only : (other : Macro) → macro ≢ other → NoneMeans other old → NoneMeans other new
  pub meaning : (values : List Bool) (otherwise : Macro)
      → meaning_or diagram values new otherwise
      ≡ meaning_or diagram values old (if holds diagram cond values then macro else otherwise)
  pub meanings : (values : List Bool) → meanings diagram values new
      ≡ meanings diagram values old ++ (if holds diagram cond values then macro ∷ [] else [])
