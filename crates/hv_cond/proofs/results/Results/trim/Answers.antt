use Rattle.std.proofs.Common.{◌≡◌, Option, Some, None, refl}
use Rattle.hv_cond.specs.declared.conditions.Cond.{Cond}
use Rattle.hv_cond.specs.declared.results.Results.{Results}
use Rattle.hv_cond.specs.working.Results.{known}
use Rattle.hv_cond.proofs.results.Results.trim.Goals as goal

none_some : (o : Option Cond) (z : Cond) → o ≡ None → o ≡ Some z → ⊥
none_some o z e f = cc

pub returns-then-len-most : goal.returns-then-len-most
unfolding known
returns-then-len-most c =
    λ x y z h.
    let after : Results = record { answers = c.clear.new.self } in
    let none : known after x y ≡ None = rw c.clear.ensures.empty refl in
    absurd (none_some (known after x y) z none h)
