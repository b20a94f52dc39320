-- Whether two conditions hold together somewhere.
use Rattle.std.specs.Prelude.{◌≡◌, ℕ, Bool, true, false, ◌&&◌, List, length}
use Rattle.hv_cond.specs.declared.conditions.Cond.{Cond}
use Rattle.hv_cond.specs.declared.nodes.Decision.{Decision}
use Rattle.hv_cond.specs.Diagram.{holds_in}

-- where the answer is no, no values satisfy both conditions; where it is yes, some values do
pub record IsMeeting (variables : ℕ) (ds : List Decision) (a b : Cond) (met : Bool) : Type 0 where
  pub apart : met ≡ false → (v : List Bool) → (holds_in ds a v && holds_in ds b v) ≡ false
  pub together : met ≡ true → (v : List Bool) × (length v ≡ variables)
      × ((holds_in ds a v && holds_in ds b v) ≡ true)
