-- The configurations that are refused so far, by place and cause.
-- Not in here: which refusal is right, and that no configuration is refused twice.
use Rattle.std.specs.Prelude.{◌≡◌, ◌+◌, ◌↔◌, ◌⊎◌, true, Bool, List, [], ◌∷◌, if◌then◌else◌}
use Rattle.hv_base.specs.declared.place.Place.{Place}
use Rattle.hv_base.specs.declared.why.Why.{Why}
use Rattle.hv_cond.specs.Diagram.{AllNodes, Diagram, holds}
use Rattle.hv_cond.specs.Parts.{NoneFalse, count_satisfied}
use Rattle.hv_cond.specs.declared.conditions.Cond.{Cond}
use Rattle.hv_toks.specs.Division.{AreDistinct, conditions}
use Rattle.hv_toks.specs.declared.parted.Failing.{Failing}

-- an entry is of this place and cause, and holds where the options have these values
pub record Refuses (diagram : Diagram) (f : Failing) (values : List Bool) (place : Place)
    (why : Why) : Type 0 where
  pub same_place : f.place ≡ place
  pub same_cause : f.why ≡ why
  pub here : holds diagram f.cond values ≡ true

-- some entry of this place and cause holds where the options have these values
abbrev pub IsRefusedAt : Diagram → List Failing → List Bool → Place → Why → Type 0
IsRefusedAt diagram [] values place why = ⊥
IsRefusedAt diagram (f ∷ failing) values place why =
    Refuses diagram f values place why ⊎ IsRefusedAt diagram failing values place why

-- entries by place and cause: each can hold, and no two have one place and one cause
pub record AreRefusals (diagram : Diagram) (failing : List Failing) : Type 0 where
  pub nodes : AllNodes diagram (conditions failing)
  pub none_false : NoneFalse diagram (conditions failing)
  pub distinct : AreDistinct failing

-- refused is exactly what was refused before, and a condition at this place for this cause
abbrev pub RefusesMore : (old new : Diagram) → (before after : List Failing) → Place → Why → Cond
    → Type 0
RefusesMore old new before after place why cond = (values : List Bool) (at : Place) (cause : Why)
    → IsRefusedAt new after values at cause
    ↔ (IsRefusedAt old before values at cause
    ⊎ ((place ≡ at) × (why ≡ cause) × (holds old cond values ≡ true)))

-- where a condition meets no entry, one more entry holds exactly where it does
abbrev pub CountsMore : (old new : Diagram) → (before after : List Failing) → Cond → Type 0
CountsMore old new before after cond = (values : List Bool)
    → (holds old cond values ≡ true → count_satisfied old (conditions before) values ≡ 0)
    → count_satisfied new (conditions after) values
    ≡ count_satisfied old (conditions before) values + (if holds old cond values then 1 else 0)
