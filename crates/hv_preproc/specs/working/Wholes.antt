-- What a whole unit comes to: its tokens of C, and the fault of one that has too many faces.
use Rattle.std.specs.Prelude.{◌≡◌, ◌+◌, ◌≤◌, ◌↔◌, ◌⊎◌, Bool, true, List, length}
use Rattle.hv_base.specs.declared.config.Config.{Config}
use Rattle.hv_base.specs.declared.place.Place.{Place}
use Rattle.hv_base.specs.declared.why.Why.{Why}
use Rattle.hv_cond.specs.Diagram.{AllNodes, Diagram, holds}
use Rattle.hv_cond.specs.Parts.{NoneFalse, count_satisfied}
use Rattle.hv_cond.specs.declared.conditions.Cond.{Cond}
use Rattle.hv_ctoks.specs.declared.reserved.ReservedNames.{ReservedNames}
use Rattle.hv_given.specs.Refusals.{IsRefusedAt}
use Rattle.hv_plainpp.specs.Reading.{Reading}
use Rattle.hv_preproc.specs.Plain.{Plain, parts_ending}
use Rattle.hv_preproc.specs.Preprocessed.{StartsAgree}
use Rattle.hv_preproc.specs.declared.fault.PreFault.{PreFault}
use Rattle.hv_preproc.specs.declared.fault.PreFault.TheVariants as pre
use Rattle.hv_preproc.specs.declared.fault.WalkFault.{WalkFault}
use Rattle.hv_preproc.specs.declared.fault.WalkFault.TheVariants as walk
use Rattle.hv_preproc.specs.working.Firsts.{AreFirst}
use Rattle.hv_preproc.specs.working.Walk.{SoFar}
use Rattle.hv_toks.specs.Division.{conditions}
use Rattle.hv_toks.specs.MacroState.{Entry}
use Rattle.hv_toks.specs.declared.parted.Failing.{Failing}
use Rattle.hv_toks.specs.declared.stream.StreamTok.{StreamTok}

------ tokens of C

-- the tokens of C of readings, string literals not joined
abbrev pub parts_in : ReservedNames → SoFar → Plain
parts_in reserved so_far values =
    let r : Reading (List Entry) = so_far values in
    record { met = r.met; ending = parts_ending reserved r }

-- tokens of any two configurations of a condition come from one start exactly where they have one
-- identity
abbrev pub StartsAgreeIn : Plain → Diagram → (good : Cond) → List StreamTok → Type 0
StartsAgreeIn plain diagram good stream = (values others : List Bool)
    → length values ≡ diagram.variables → length others ≡ diagram.variables
    → holds diagram good values ≡ true → holds diagram good others ≡ true
    → StartsAgree plain diagram stream values others

------ refusals of two steps

-- refused is who some entry of two lists refused
abbrev pub RefusesBoth : (old new : Diagram) → (before more after : List Failing) → Type 0
RefusesBoth old new before more after = (values : List Bool) (place : Place) (why : Why)
    → IsRefusedAt new after values place why
    ↔ (IsRefusedAt old before values place why ⊎ IsRefusedAt old more values place why)

-- where no configuration is refused twice, each entry of the two lists is counted
abbrev pub CountsBoth : (old new : Diagram) → (before more after : List Failing) → Type 0
CountsBoth old new before more after = (values : List Bool)
    → count_satisfied old (conditions before) values + count_satisfied old (conditions more) values
    ≤ 1
    → count_satisfied new (conditions after) values
    ≡ count_satisfied old (conditions before) values + count_satisfied old (conditions more) values

------ too many faces

-- each of these conditions can hold
abbrev pub CanHold : Diagram → Place → List Cond → Type 0
CanHold diagram place conds = AllNodes diagram conds × NoneFalse diagram conds

-- a fault says what this one of the walk says, by the first configuration of each condition; memory
-- may have run out besides
abbrev pub IsFaultOf : Diagram → WalkFault → PreFault → Type 0
IsFaultOf diagram fault pre.Memory = Unit {0}
IsFaultOf diagram walk.Memory (pre.TooMany place configs) = ⊥
IsFaultOf diagram (walk.TooMany at conds) (pre.TooMany place configs) =
    (at ≡ place) × AreFirst diagram conds configs
