-- What a unit takes in of a part that was read.
use Rattle.std.specs.Prelude.{◌≡◌, ◌+◌, ◌≤◌, ◌↔◌, ◌⊎◌, ◌&&◌, ◌||◌, Bool, false, not, List, [], ◌∷◌, ◌++◌}
use Rattle.hv_base.specs.declared.place.Place.{Place}
use Rattle.hv_base.specs.declared.why.Why.{Why}
use Rattle.hv_cond.specs.Diagram.{Diagram, holds}
use Rattle.hv_cond.specs.Parts.{count_satisfied}
use Rattle.hv_given.specs.Refusals.{IsRefusedAt}
use Rattle.hv_given.specs.declared.given.Given.{Given}
use Rattle.hv_preproc.specs.declared.unit.Unit.{Unit as UnitSoFar}
use Rattle.hv_toks.specs.Division.{conditions}
use Rattle.hv_toks.specs.declared.parted.Failing.{Failing}

-- whether some entry holds where the options have these values
abbrev pub any_holds : Diagram → List Failing → List Bool → Bool
any_holds diagram [] values = false
any_holds diagram (f ∷ failing) values =
    holds diagram f.cond values || any_holds diagram failing values

-- refused is what was refused before, and the configurations of each entry
pub record RefusesAll (old new : Diagram) (before after failing : List Failing) : Type 0 where
  pub refused : (values : List Bool) (place : Place) (why : Why)
      → IsRefusedAt new after values place why
      ↔ (IsRefusedAt old before values place why ⊎ IsRefusedAt old failing values place why)
  -- where no configuration is refused twice, each entry is one more
  pub counted : (values : List Bool)
      → count_satisfied old (conditions before) values
      + count_satisfied old (conditions failing) values ≤ 1
      → count_satisfied new (conditions after) values
      ≡ count_satisfied old (conditions before) values
      + count_satisfied old (conditions failing) values

-- a unit has more episodes and refusals, and what is refused lives no more
pub record TakesIn (old new : Diagram) (before after : UnitSoFar) (given : List Given)
    (failing : List Failing) : Type 0 where
  pub table : after.table ≡ before.table
  pub gives : after.given ≡ before.given ++ given
  pub lives : (values : List Bool) → holds new after.live values
      ≡ (holds old before.live values && not (any_holds old failing values))
  pub refused : (values : List Bool) (place : Place) (why : Why)
      → IsRefusedAt new after.refusals values place why
      ↔ (IsRefusedAt old before.refusals values place why
      ⊎ IsRefusedAt old failing values place why)
  -- where no configuration is refused twice, each entry is one more
  pub counted : (values : List Bool)
      → count_satisfied old (conditions before.refusals) values
      + count_satisfied old (conditions failing) values ≤ 1
      → count_satisfied new (conditions after.refusals) values
      ≡ count_satisfied old (conditions before.refusals) values
      + count_satisfied old (conditions failing) values
