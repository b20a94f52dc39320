-- The reading of a part that changes no macro.
use Rattle.std.proofs.Common.{◌≡◌, List, append-nil, refl, ap}
use Rattle.hv_base.specs.declared.place.Place.{Place}
use Rattle.hv_base.specs.declared.why.Why.{Why}
use Rattle.hv_plainpp.specs.Reading.{Ending, Met, reaches, refused}
use Rattle.hv_preproc.specs.working.Parts.{keeping}
use Rattle.hv_toks.specs.MacroState.{Entry}

pub keeping-met : {A : Type 0} (met : List Met) (o : Ending A) (macros : List Entry)
    → (keeping (record { met = met; ending = o }) macros).met ≡ met
keeping-met met (reaches value) macros = append-nil met
keeping-met met (refused why place) macros = refl

pub keeping-reaches : {A : Type 0} (met : List Met) (o : Ending A) (macros : List Entry) (value : A)
    → o ≡ reaches value
    → (keeping (record { met = met; ending = o }) macros).ending ≡ reaches macros
keeping-reaches {A} met o macros value e =
    ap (λ (o : Ending A). (keeping (record { met = met; ending = o }) macros).ending) e

pub keeping-refused : {A : Type 0} (met : List Met) (o : Ending A) (macros : List Entry) (why : Why)
    (place : Place) → o ≡ refused why place
    → (keeping (record { met = met; ending = o }) macros).ending ≡ refused why place
keeping-refused {A} met o macros why place e =
    ap (λ (o : Ending A). (keeping (record { met = met; ending = o }) macros).ending) e
