use Rattle.std.proofs.Common.{◌≡◌, Option, Some, None, refl}
use Rattle.hv_cond.specs.declared.conditions.Cond.{Cond}
use Rattle.hv_cond.specs.declared.complements.Complements.{Complements}
use Rattle.hv_cond.specs.working.Complements.{complement_of}
use Rattle.hv_cond.proofs.complements.Complements.trim.Goals as goal

none_some : (o : Option Cond) (z : Cond) → o ≡ None → o ≡ Some z → ⊥
none_some o z e f = cc

pub returns-then-len-most : goal.returns-then-len-most
unfolding complement_of
returns-then-len-most c =
    λ x z h.
    let after : Complements = record { answers = c.clear.new.self } in
    let none : complement_of after x ≡ None = rw c.clear.ensures.empty refl in
    absurd (none_some (complement_of after x) z none h)
