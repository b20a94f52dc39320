-- When a place has too many faces.
use Rattle.std.specs.Prelude.{◌≡◌, true, All, Bool, List}
use Rattle.hv_base.specs.declared.place.Place.{Place}
use Rattle.hv_cond.specs.Diagram.{Diagram, holds}
use Rattle.hv_cond.specs.declared.conditions.Cond.{Cond}
use Rattle.hv_faces.specs.Faces.{AreTooMany}
use Rattle.hv_plain.specs.episode.Expansion.{Event}
use Rattle.hv_plainpp.specs.Plainpp.{HasFace}
use Rattle.hv_plainpp.specs.Reading.{Reading}
use Rattle.hv_texts.specs.declared.came.TextFault.{TextFault}
use Rattle.hv_texts.specs.declared.came.TextFault.TheVariants.{TooMany, Memory}

-- two configurations meet an episode at this place, with one face
abbrev pub HaveOneFaceAt : {A : Type 0} → (read : List Bool → Reading A) → Place
    → (values others : List Bool) → Type 0
HaveOneFaceAt read place values others =
    (face : List Event) × HasFace (read values) place face × HasFace (read others) place face

-- a configuration meets an episode at this place
abbrev pub Meets : {A : Type 0} → (read : List Bool → Reading A) → Place → List Bool → Type 0
Meets read place values = (face : List Event) × HasFace (read values) place face

-- the configurations of a condition have too many faces at this place: so many conditions hold
-- within it whose configurations all meet an episode there, and those of two of them never have one
-- face
pub record HasTooMany {A : Type 0} (diagram : Diagram) (cond : Cond)
    (read : List Bool → Reading A) (place : Place) (conds : List Cond) : Type 0 where
  pub many : AreTooMany diagram cond (HaveOneFaceAt read place) conds
  pub there : All (λ (c : Cond). (values : List Bool) → holds diagram c values ≡ true
      → Meets read place values) conds

-- what is said of the place and the conditions of `TooMany`; nothing where memory ran out
abbrev pub IfTooMany : (Place → List Cond → Type 0) → TextFault → Type 0
IfTooMany P (TooMany place conds) = P place conds
IfTooMany P Memory = Unit {0}
