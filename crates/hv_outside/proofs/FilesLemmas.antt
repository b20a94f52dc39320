-- What calls in a row leave of files.
use Rattle.std.proofs.Common.{◌∙◌, refl, arith}
use Rattle.hv_outside.specs.Files.{FileState, Keeps}

-- no call changes nothing
pub Keeps-refl : (state : FileState) → Keeps state state
Keeps-refl state = record {
  told = refl;
  held = λ name. refl;
  faults = omega arith;
  absences = omega arith;
}

-- two calls in a row keep what each keeps
pub Keeps-trans : (before middle now : FileState) → Keeps before middle → Keeps middle now
    → Keeps before now
Keeps-trans before middle now first second = record {
  told = second.told ∙ first.told;
  held = λ name. second.held name ∙ first.held name;
  faults = omega arith;
  absences = omega arith;
}
