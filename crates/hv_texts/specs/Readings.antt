-- What reading a part of a file under all configurations of a condition comes to: the episodes that
-- are met, each in the configurations of one face, and how the reading ends in each configuration.
-- A part is read in one configuration by `hv_plainpp`; here `read` gives that reading by the values
-- of the options.
use Rattle.std.specs.Prelude.{◌≡◌, ◌<◌, Bool, true, false, not, List, [], ◌∷◌, All, map, zip}
use Rattle.hv_base.specs.declared.limits.TheConstants.{MOST_FACES}
use Rattle.hv_cond.specs.Diagram.{AllNodes, Diagram, IsNode, holds}
use Rattle.hv_cond.specs.declared.conditions.Cond.{Cond}
use Rattle.hv_given.specs.Given.{AllAgree, AreEpisodes, given_in}
use Rattle.hv_given.specs.declared.given.Given.{Given}
use Rattle.hv_plainpp.specs.Files.{Entered}
use Rattle.hv_plainpp.specs.Reading.{Reading, reaches, refused}
use Rattle.hv_texts.specs.declared.came.Truths.{Truths}
use Rattle.hv_texts.specs.declared.origin.Origin.{Origin}
use Rattle.hv_toks.specs.Division.{Divides}
use Rattle.hv_toks.specs.declared.parted.Failing.{Failing}
use Rattle.hv_toks.specs.declared.token.PpTok.{PpTok}

-- this is where the tokens of an entered file stand
pub record IsOriginOf (origin : Origin) (at : Entered) : Type 0 where
  pub file : origin.file ≡ at.file.number
  pub stack : origin.stack ≡ at.stack

------ which episodes are met

-- the conditions of entries, in order
abbrev pub conditions_of : List Given → List Cond
conditions_of given = map (λ (g : Given). g.cond) given

-- these entries are the episodes of these readings: in each configuration of the condition those
-- that its reading meets, also those before a refusal, and none elsewhere
pub record AreMet {A : Type 0} (diagram : Diagram) (cond : Cond) (given : List Given)
    (read : List Bool → Reading A) : Type 0 where
  pub nodes : AllNodes diagram (conditions_of given)
  pub there : (values : List Bool) → holds diagram cond values ≡ true
      → AreEpisodes (given_in diagram given values) (read values).met
  pub elsewhere : (values : List Bool) → holds diagram cond values ≡ false
      → given_in diagram given values ≡ []

-- two configurations of the condition have one number at a place exactly where they have one face
-- there
abbrev pub AreByFace : {A : Type 0} → Diagram → Cond → List Given → (read : List Bool → Reading A)
    → Type 0
AreByFace diagram cond given read = (values others : List Bool)
    → holds diagram cond values ≡ true → holds diagram cond others ≡ true
    → AllAgree (zip (given_in diagram given values) (read values).met)
    (zip (given_in diagram given others) (read others).met)

-- the numbers of faces are below the most faces of a place
abbrev pub AreFew : List Given → Type 0
AreFew given = All (λ (g : Given). g.face < MOST_FACES) given

-- no token of these begins where this one does
abbrev pub IsApart : PpTok → List PpTok → Type 0
IsApart t [] = Unit {0}
IsApart t (u ∷ tokens) = ¬ (t.span.start ≡ u.span.start) × IsApart t tokens

-- no two tokens begin at one offset
abbrev pub AreApart : List PpTok → Type 0
AreApart [] = Unit {0}
AreApart (t ∷ tokens) = IsApart t tokens × AreApart tokens

------ how they end

-- the readings end so: in the configurations of `good` with a value that is right, and in those of
-- an entry with its refusal
pub record Ends {A : Type 0} (diagram : Diagram) (cond good : Cond) (failing : List Failing)
    (IsRight : List Bool → A → Type 0) (read : List Bool → Reading A) : Type 0 where
  pub divides : Divides diagram cond good failing
  pub right : (values : List Bool) → holds diagram good values ≡ true
      → (value : A) × ((read values).ending ≡ reaches value) × IsRight values value
  pub refused_there : All (λ (f : Failing). (values : List Bool)
      → holds diagram f.cond values ≡ true
      → (read values).ending ≡ refused f.why f.place) failing

-- where the options have these values the truth is this: of the two conditions the one for it holds
abbrev pub HasTruth : Diagram → Truths → List Bool → Bool → Type 0
HasTruth diagram truths values truth = (holds diagram truths.holds values ≡ truth)
    × (holds diagram truths.fails values ≡ not truth)

-- the two conditions of a truth hold only in good configurations
pub record AreWithin (diagram : Diagram) (good : Cond) (truths : Truths) : Type 0 where
  pub holds_node : IsNode diagram truths.holds
  pub fails_node : IsNode diagram truths.fails
  pub outside : (values : List Bool) → holds diagram good values ≡ false
      → (holds diagram truths.holds values ≡ false) × (holds diagram truths.fails values ≡ false)
