-- What is said of a fault at the exit of a question mark.
use Rattle.std.proofs.Common.{◌≡◌, List, Result, sym, subst}
use Rattle.std.specs.Prelude.{IfErr}
use Rattle.std.specs.Result.{IsErrAnd}
use Rattle.std.proofs.lemmas.Result.{err_from_is_err_and}
use Rattle.hv_base.specs.declared.place.Place.{Place}
use Rattle.hv_cond.specs.declared.conditions.Cond.{Cond}
use Rattle.hv_preproc.proofs.Faulting.{stops_passed, stops_weaker}
use Rattle.hv_preproc.specs.declared.fault.WalkFault.{WalkFault}
use Rattle.hv_preproc.specs.working.Faults.{IfStops, passed_on}
use Rattle.hv_texts.specs.Faces.{IfTooMany}
use Rattle.hv_texts.specs.declared.came.TextFault.{TextFault}

-- what a text says where it doesn't come, the step that reads it says
pub exit_of_text : {T : Type 0} (r : Result T WalkFault) (P Q : Place → List Cond → Type 0)
    (fault : TextFault) → IsErrAnd r (λ e. e ≡ passed_on fault) → IfTooMany Q fault
    → ((place : Place) (conds : List Cond) → Q place conds → P place conds)
    → IfErr r (IfStops P)
exit_of_text {T} r P Q fault is q more =
    let p = err_from_is_err_and r is in
    subst (λ (x : Result T WalkFault). IfErr x (IfStops P)) (sym p.1)
    (subst (IfStops P) (sym p.2) (stops_passed Q P fault more q))

-- and what a step says, the one that it is part of says
pub exit_of_step : {T : Type 0} (r : Result T WalkFault) (P Q : Place → List Cond → Type 0)
    (fault : WalkFault) → IsErrAnd r (λ e. e ≡ fault) → IfStops Q fault
    → ((place : Place) (conds : List Cond) → Q place conds → P place conds)
    → IfErr r (IfStops P)
exit_of_step {T} r P Q fault is q more =
    let p = err_from_is_err_and r is in
    subst (λ (x : Result T WalkFault). IfErr x (IfStops P)) (sym p.1)
    (subst (IfStops P) (sym p.2) (stops_weaker Q P fault more q))
