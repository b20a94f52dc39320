-- What the loop over faces has found when it ends.
use Rattle.std.specs.Prelude.{◌≤◌, Bool, List, length}
use Rattle.hv_base.specs.declared.limits.TheConstants.{MOST_FACES}
use Rattle.hv_cond.specs.Diagram.{Diagram}
use Rattle.hv_cond.specs.declared.conditions.Cond.{Cond}
use Rattle.hv_faces.specs.Faces.{AreClasses, AreTooMany}
use Rattle.hv_faces.specs.declared.classes.Gathered.{Gathered}
use Rattle.hv_faces.specs.declared.classes.Gathered.TheVariants as gathered

-- all classes, and no more than are allowed, or the proof that there are too many
abbrev pub IsGathering : {V : Type 0} → Diagram → Cond → (List Bool → List Bool → Type 0)
    → (V → List Bool → Type 0) → Gathered V → Type 0
IsGathering diagram c same is_right (gathered.Classes classes) =
    AreClasses diagram c same is_right classes × (length classes ≤ MOST_FACES)
IsGathering diagram c same is_right (gathered.TooMany conds) = AreTooMany diagram c same conds
