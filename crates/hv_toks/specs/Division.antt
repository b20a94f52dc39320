-- How an answer for many configurations divides them: those of `good`, and the failing ones, each
-- with its refusal. What a good configuration gets, and which refusal is right, each call says for
-- itself: `Sorts`.
use Rattle.std.specs.Prelude.{◌≡◌, ℕ, Bool, true, List, [], ◌∷◌, map, length, All, if◌then◌else◌}
use Rattle.hv_base.specs.declared.place.Place.{Place}
use Rattle.hv_base.specs.declared.why.Why.{Why}
use Rattle.hv_cond.specs.declared.conditions.Cond.{Cond}
use Rattle.hv_cond.specs.Diagram.{AllNodes, Diagram, holds}
use Rattle.hv_cond.specs.Parts.{NoneFalse, count_satisfied}
use Rattle.hv_toks.specs.declared.parted.Failing.{Failing}
use Rattle.hv_toks.specs.declared.parted.Parted.{Parted}

-- two entries refuse for one cause at one place
abbrev pub SameCause : Failing → Failing → Type 0
SameCause a b = (a.place ≡ b.place) × (a.why ≡ b.why)

-- no two entries have one place and one cause
abbrev pub AreDistinct : List Failing → Type 0
AreDistinct [] = Unit {0}
AreDistinct (f ∷ failing) = All (λ other. ¬ SameCause f other) failing × AreDistinct failing

-- the conditions of the entries
abbrev pub conditions : List Failing → List Cond
conditions failing = map (λ f. f.cond) failing

-- each configuration of `valid`, and no other one, is in `good` or in one entry, and not in two of
-- them; each entry has some configuration, while `good` may have none; no two entries have one
-- place and one cause
pub record Divides (diagram : Diagram) (valid good : Cond) (failing : List Failing) : Type 0 where
  pub nodes : AllNodes diagram (good ∷ conditions failing)
  pub none_false : NoneFalse diagram (conditions failing)
  pub one : (values : List Bool) → count_satisfied diagram (good ∷ conditions failing) values
      ≡ (if holds diagram valid values then 1 else 0)
  pub distinct : AreDistinct failing

-- an answer divides the valid configurations; in each of `good` its value is right, and in each of
-- an entry the refusal is right, as these two say for one configuration
pub record Sorts {T : Type 0} (diagram : Diagram) (valid : Cond) (IsRight : List Bool → T → Type 0)
    (IsRefused : List Bool → Place → Why → Type 0) (answer : Parted T) : Type 0 where
  pub divides : Divides diagram valid answer.good answer.failing
  pub right : (values : List Bool) → length values ≡ diagram.variables
      → holds diagram answer.good values ≡ true → IsRight values answer.value
  pub refused : All (λ f. (values : List Bool) → length values ≡ diagram.variables
      → holds diagram f.cond values ≡ true → IsRefused values f.place f.why) answer.failing
