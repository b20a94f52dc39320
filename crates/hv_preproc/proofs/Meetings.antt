-- Faces are told by the episodes that a reading meets, whatever it comes to.
use Rattle.std.proofs.Common.{◌≡◌, Bool, true, List, sym, subst}
use Rattle.std.specs.List.{Contains}
use Rattle.std.proofs.lemmas.List.Elements.{All-weaker}
use Rattle.hv_base.specs.declared.config.Config.{Config}
use Rattle.hv_base.specs.declared.place.Place.{Place}
use Rattle.hv_cond.specs.Diagram.{Diagram}
use Rattle.hv_cond.specs.declared.conditions.Cond.{Cond}
use Rattle.hv_plain.specs.episode.Expansion.{Event}
use Rattle.hv_plainpp.specs.Plainpp.{HasFace}
use Rattle.hv_plainpp.specs.Reading.{Met}
use Rattle.hv_preproc.specs.Plain.{Plain}
use Rattle.hv_preproc.specs.Preprocessed.{AreTooManyAt, HasFewFaces, IfTooMany, IsMetIn}
use Rattle.hv_preproc.specs.declared.fault.PreFault.{PreFault}
use Rattle.hv_preproc.specs.declared.fault.PreFault.TheVariants.{TooMany, Memory}
use Rattle.hv_texts.specs.Faces.{HaveOneFaceAt}

-- two ways of reading that meet the same episodes
module _ (plain other : Plain)
    (same : (values : List Bool) → (plain values).met ≡ (other values).met) where
  face_there : (values : List Bool) (place : Place) (face : List Event)
      → HasFace (plain values) place face → HasFace (other values) place face
  face_there values place face has = (
    has.0,
    subst (λ (met : List Met). Contains met has.0) (same values) has.1,
    has.2,
    has.3,
  )

  face_here : (values : List Bool) (place : Place) (face : List Event)
      → HasFace (other values) place face → HasFace (plain values) place face
  face_here values place face has = (
    has.0,
    subst (λ (met : List Met). Contains met has.0) (sym (same values)) has.1,
    has.2,
    has.3,
  )

  one_face_here : (place : Place) (values others : List Bool)
      → HaveOneFaceAt other place values others → HaveOneFaceAt plain place values others
  one_face_here place values others one = (
    one.0,
    face_here values place one.0 one.1,
    face_here others place one.0 one.2,
  )

  -- have too many faces in the same configurations
  pub too_many_there : (d : Diagram) (valid : Cond) (place : Place) (configs : List Config)
      → AreTooManyAt plain d valid place configs → AreTooManyAt other d valid place configs
  too_many_there d valid place configs many = (
    many.0,
    record {
      each = All-weaker (IsMetIn plain d valid place) (IsMetIn other d valid place)
          (λ c m. record {
            all_options = m.all_options;
            is_valid = m.is_valid;
            meets = (m.meets.0, face_there c.on place m.meets.0 m.meets.1);
          }) configs many.1.each;
      differ = λ i j x before within one.
          many.1.differ i j x before within (one_face_here place _ _ one);
    },
  )

  pub fault_there : (d : Diagram) (valid : Cond) (fault : PreFault)
      → IfTooMany (AreTooManyAt plain d valid) fault → IfTooMany (AreTooManyAt other d valid) fault
  fault_there d valid (TooMany place configs) many = too_many_there d valid place configs many
  fault_there d valid Memory many = tt

  pub few_here : (d : Diagram) (valid : Cond) → HasFewFaces other d valid
      → HasFewFaces plain d valid
  few_here d valid few place configs many =
      few place configs (too_many_there d valid place configs many)
