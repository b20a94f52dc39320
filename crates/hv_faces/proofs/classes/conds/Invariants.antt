use Rattle.std.proofs.Common.{◌≡◌, take}
use Rattle.hv_faces.specs.Faces.{conditions}
use Rattle.hv_faces.proofs.classes.conds.Given as goal

abbrev pub invariant-loop-class : goal.invariant-loop-class
invariant-loop-class g l = l.conds ≡ conditions (take l.class-index l.classes)
