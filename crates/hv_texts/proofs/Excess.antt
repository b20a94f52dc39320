-- Too many faces of an episode are too many of its place.
use Rattle.std.proofs.Common.{◌≡◌, Bool, true, List, [], ◌∷◌}
use Rattle.std.specs.Prelude.{All}
use Rattle.std.proofs.lemmas.List.Elements.{All-cons, All-nil}
use Rattle.hv_base.specs.declared.place.Place.{Place}
use Rattle.hv_cond.specs.Diagram.{Diagram, holds}
use Rattle.hv_cond.specs.declared.conditions.Cond.{Cond}
use Rattle.hv_faces.specs.Faces.{AllDiffer, AllWithin, AreTooMany, DiffersFromAll, IsWithin}
use Rattle.hv_plainpp.specs.Reading.{Reading}
use Rattle.hv_texts.specs.Faces.{HasTooMany, HaveOneFaceAt, Meets}

module _ (d : Diagram) (c : Cond) (same others_same : List Bool → List Bool → Type 0)
    (then : (values others : List Bool) → holds d c values ≡ true → holds d c others ≡ true
    → others_same values others → same values others) where
  one_differs : (x : Cond) (conds : List Cond) → IsWithin d (λ values. holds d c values) x
      → AllWithin d (λ values. holds d c values) conds
      → DiffersFromAll d same x conds → DiffersFromAll d others_same x conds
  one_differs x [] w ws differ = tt
  one_differs x (y ∷ conds) w ws differ = (
    λ values others first second both. differ.0 values others first second
        (then values others (w.within values first) (ws.0.within others second) both),
    one_differs x conds w ws.1 differ.1,
  )

  all_differ : (conds : List Cond) → AllWithin d (λ values. holds d c values) conds
      → AllDiffer d same conds → AllDiffer d others_same conds
  all_differ [] ws differ = tt
  all_differ (x ∷ conds) ws differ =
      (one_differs x conds ws.0 ws.1 differ.0, all_differ conds ws.1 differ.1)

more_within : (d : Diagram) (c whole : Cond)
    → ((values : List Bool) → holds d c values ≡ true → holds d whole values ≡ true)
    → (conds : List Cond) → AllWithin d (λ values. holds d c values) conds
    → AllWithin d (λ values. holds d whole values) conds
more_within d c whole wider [] ws = tt
more_within d c whole wider (x ∷ conds) ws = (
  record {
    node = ws.0.node;
    possible = ws.0.possible;
    within = λ values h. wider values (ws.0.within values h);
  },
  more_within d c whole wider conds ws.1,
)

each_within : (d : Diagram) (c : Cond) (P : List Bool → Type 0)
    → ((values : List Bool) → holds d c values ≡ true → P values)
    → (conds : List Cond) → AllWithin d (λ values. holds d c values) conds
    → All (λ (x : Cond). (values : List Bool) → holds d x values ≡ true → P values) conds
each_within d c P so [] ws = All-nil _
each_within d c P so (x ∷ conds) ws =
    All-cons (λ (x : Cond). (values : List Bool) → holds d x values ≡ true → P values) x conds
    (λ values h. so values (ws.0.within values h)) (each_within d c P so conds ws.1)

pub has_too_many : {A : Type 0} (d : Diagram) (c whole : Cond) (read : List Bool → Reading A)
    (place : Place) (same : List Bool → List Bool → Type 0) (conds : List Cond)
    → AreTooMany d c same conds
    → ((values : List Bool) → holds d c values ≡ true → holds d whole values ≡ true)
    → ((values others : List Bool) → holds d c values ≡ true → holds d c others ≡ true
    → HaveOneFaceAt read place values others → same values others)
    → ((values : List Bool) → holds d c values ≡ true → Meets read place values)
    → HasTooMany d whole read place conds
has_too_many d c whole read place same conds many wider then meets =
    record {
      many = record {
        count = many.count;
        within = more_within d c whole wider conds many.within;
        differ = all_differ d c same (HaveOneFaceAt read place) then conds many.within many.differ;
      };
      there = each_within d c (Meets read place) meets conds many.within;
    }
