-- Readings one after another.
use Rattle.std.proofs.Common.{◌≡◌, List, [], ◌∷◌, ◌++◌, refl, ap}
use Rattle.std.proofs.lemmas.List.{append-nil, append_assoc}
use Rattle.hv_base.specs.declared.place.Place.{Place}
use Rattle.hv_base.specs.declared.why.Why.{Why}
use Rattle.hv_plainpp.specs.Reading.{Ending, Met, Reading, and_then, continued, reaches, reading, refused}

------ and_then

abbrev pub read_so : {A : Type 0} → Ending A → List Met → Reading A
read_so o met = record { met = met; ending = o }

continued-end : {A B : Type 0} (before met : List Met) (o : Ending A) (g : A → Reading B)
    → and_then (record { met = before ++ met; ending = o }) g
    ≡ continued before (and_then (record { met = met; ending = o }) g)
continued-end {A} {B} before met (reaches v) g =
    ap (read_so (g v).ending)
    (append_assoc before met (g v).met)
continued-end before met (refused why place) g = refl

assoc-end : {A B C : Type 0} (met : List Met) (o : Ending A) (f : A → Reading B)
    (g : B → Reading C) → and_then (and_then (record { met = met; ending = o }) f) g
    ≡ and_then (record { met = met; ending = o }) (λ value. and_then (f value) g)
assoc-end met (reaches v) f g = continued-end met (f v).met (f v).ending g
assoc-end met (refused why place) f g = refl

-- what is read after two readings is read after the first, by what the second comes to
pub and_then-assoc : {A B C : Type 0} (r : Reading A) (f : A → Reading B) (g : B → Reading C)
    → and_then (and_then r f) g ≡ and_then r (λ value. and_then (f value) g)
and_then-assoc r f g = assoc-end r.met r.ending f g

unit-end : {A : Type 0} (met : List Met) (o : Ending A)
    → and_then (record { met = met; ending = o }) (λ value. reading value)
    ≡ record { met = met; ending = o }
unit-end {A} met (reaches v) =
    ap (read_so (reaches v)) (append-nil met)
unit-end met (refused why place) = refl

-- a value that is only passed on changes nothing
pub and_then-reading : {A : Type 0} (r : Reading A) → and_then r (λ value. reading value) ≡ r
and_then-reading r = unit-end r.met r.ending
