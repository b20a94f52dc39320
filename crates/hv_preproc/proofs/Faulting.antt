-- What the walk says where it stops.
use Rattle.std.specs.Prelude.{Err, IfOk, List, Ok, Result}
use Rattle.hv_base.specs.declared.place.Place.{Place}
use Rattle.hv_cond.specs.declared.conditions.Cond.{Cond}
use Rattle.hv_preproc.specs.declared.fault.WalkFault.{WalkFault}
use Rattle.hv_preproc.specs.declared.fault.WalkFault.TheVariants.{TooMany, Memory}
use Rattle.hv_preproc.specs.working.Faults.{IfStops, passed_on}
use Rattle.hv_texts.specs.Faces.{IfTooMany}
use Rattle.hv_texts.specs.declared.came.TextFault.{TextFault}
use Rattle.hv_texts.specs.declared.came.TextFault.TheVariants as text_fault

-- what a text or a line says where it doesn't come, the walk says
pub stops_passed : (P Q : Place → List Cond → Type 0) (fault : TextFault)
    → ((place : Place) (conds : List Cond) → P place conds → Q place conds)
    → IfTooMany P fault → IfStops Q (passed_on fault)
stops_passed P Q (text_fault.TooMany place conds) weaker h = weaker place conds h
stops_passed P Q text_fault.Memory weaker h = tt

-- and what a step says, one that it is part of says
pub stops_weaker : (P Q : Place → List Cond → Type 0) (fault : WalkFault)
    → ((place : Place) (conds : List Cond) → P place conds → Q place conds)
    → IfStops P fault → IfStops Q fault
stops_weaker P Q (TooMany place conds) weaker h = weaker place conds h
stops_weaker P Q Memory weaker h = tt

-- what follows from two clauses on one result
pub ok_from_both : {T E : Type 0} (r : Result T E) (P Q R : T → Type 0) → IfOk r P → IfOk r Q
    → ((value : T) → P value → Q value → R value) → IfOk r R
ok_from_both (Ok value) P Q R p q make = make value p q
ok_from_both (Err e) P Q R p q make = tt
