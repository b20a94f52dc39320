-- What the reading of the files of a command gives, and what the bytes of its files make.
use Rattle.std.specs.Prelude.{ℕ, ◌≡◌, Bool, List}
use Rattle.hv_base.specs.Bundles.{HasMain, NamedFiles}
use Rattle.hv_base.specs.declared.place.Place.{Place}
use Rattle.hv_base.specs.declared.token.CTok.{CTok}
use Rattle.hv_base.specs.declared.why.Why.{Why}
use Rattle.hv_base.specs.declared.why.Why.TheVariants as whys
use Rattle.hv_gather.specs.declared.fault.GatherFault.{GatherFault}
use Rattle.hv_gather.specs.declared.fault.GatherFault.TheVariants as fault
use Rattle.hv_model.specs.Config.{text_of}
use Rattle.hv_model.specs.Lines.{Says, fault as faulty}
use Rattle.hv_model.specs.Model.{IsModelOf}
use Rattle.hv_model.specs.Rule.{Features, IsLeastValid}
use Rattle.hv_plain.specs.Source.{SourceLine, IsSmallSource}
use Rattle.hv_plain.specs.Run.{Encodes}
use Rattle.hv_plainpp.specs.Reading.{refused}
use Rattle.hv_print.specs.Shown.{shown}
use Rattle.hv_variant.specs.Variants.{HasTokens}
use Rattle.hv_words.specs.Commands.{Command, Sources}
use Rattle.hv_cli.specs.declared.answer.Answer.{Answer}
use Rattle.hv_cli.specs.declared.answer.Answer.TheVariants.{Encoded, Options, Variant, Fails, BadWords, BadConfig, CannotRead, NoFile, TooBig, BadModel}
use Rattle.hv_cli.specs.declared.position.Position.{Position}
use Rattle.hv_cli.specs.declared.read.Gathering.{Gathering}
use Rattle.hv_cli.specs.declared.read.Gathering.TheVariants as gathering
use Rattle.hv_cli.specs.declared.read.Reading.{Reading}
use Rattle.hv_cli.specs.declared.read.Reading.TheVariants.{Bytes, Refused}
use Rattle.hv_cli.specs.declared.read.Role.{Role}
use Rattle.hv_cli.specs.Definitions.{IsConfig, definitions_of}
use Rattle.hv_cli.specs.Due.{IsDueTo, variant_of}
use Rattle.hv_cli.specs.Files.{IsGathered, IsRead, Reads, name_of}
use Rattle.hv_cli.specs.Positions.{position_of, start_of}

-- the bytes of the file, or the answer that is due because of it
abbrev pub IsFound : Reads → Command → Role → Reading → Type 0
IsFound reads command role (Bytes bytes) = IsRead reads (name_of command role) bytes
IsFound reads command role (Refused answer) = IsDueTo reads command answer

-- the bundle of the sources, or the answer that is due because of them
abbrev pub AreFound : Reads → Command → Sources → Gathering → Type 0
AreFound reads command sources (gathering.Bundle bundle) = IsGathered reads sources bundle
AreFound reads command sources (gathering.Refused answer) = IsDueTo reads command answer

-- a bundle has its main file
abbrev pub HasMainFile : Gathering → Type 0
HasMainFile (gathering.Bundle bundle) = HasMain bundle
HasMainFile (gathering.Refused answer) = Unit {0}

-- the answer says this fault of gathering, where the main file has this name; out of memory has
-- none
abbrev pub SaysFault : (main : List ℕ) → GatherFault → Answer → Type 0
SaysFault main (fault.Read name) answer = answer ≡ CannotRead name
SaysFault main fault.MainAbsent answer = answer ≡ NoFile main
SaysFault main (fault.TooBig name size total) answer = answer ≡ TooBig name size total
SaysFault main fault.Memory answer = ⊥

-- the configuration is the text of the least valid one, the position is the start of the main file,
-- and the cause that it is left out
pub record IsLeastMessage (model : Features) (main config : List ℕ) (position : Position)
    (why : Why) : Type 0 where
  pub values : List Bool
  pub least : IsLeastValid model values
  pub config_is : config ≡ text_of model.names values
  pub position_is : position ≡ start_of main
  pub why_is : why ≡ whys.LeftOut

-- the answer blames the main file, and names the least valid configuration
abbrev pub IsLeftOutOf : Features → List ℕ → Answer → Type 0
IsLeftOutOf model main (Fails config position why) = IsLeastMessage model main config position why
IsLeftOutOf model main _ = ⊥

-- the answer of `encode` for these bytes of the two files
abbrev pub IsEncodedOf : List ℕ → List ℕ → List ℕ → Answer → Type 0
IsEncodedOf model_file source main (Encoded text) =
    (model : Features) × (body : List SourceLine) × IsModelOf model_file model
    × IsSmallSource model.names source body × Encodes model source text
IsEncodedOf model_file source main (Fails config position why) =
    (model : Features) × IsModelOf model_file model
    × IsLeastMessage model main config position why
    × ((body : List SourceLine)
    → IsSmallSource model.names source body → ⊥)
IsEncodedOf model_file source main (BadModel found) =
    Says model_file (faulty found.line found.kind)
IsEncodedOf model_file source main _ = ⊥

-- the answer of `options` for these bytes of the model file and this text of a configuration
abbrev pub IsDefinedOf : List ℕ → List ℕ → Answer → Type 0
IsDefinedOf model_file config (Options text) =
    (model : Features) × (values : List Bool) × IsModelOf model_file model
    × IsConfig model config values × (text ≡ definitions_of model.names values)
IsDefinedOf model_file config BadConfig =
    (model : Features) × IsModelOf model_file model
    × ((values : List Bool) → IsConfig model config values → ⊥)
IsDefinedOf model_file config (BadModel found) = Says model_file (faulty found.line found.kind)
IsDefinedOf model_file config _ = ⊥

-- the answer for the variant of a bundle in a configuration of this model
abbrev pub IsVariantAnswer : NamedFiles → Features → List Bool → Answer → Type 0
IsVariantAnswer bundle model values (Variant text) =
    (toks : List CTok) × HasTokens (variant_of bundle model values) toks × (text ≡ shown toks)
IsVariantAnswer bundle model values (Fails config position why) =
    (place : Place) × ((variant_of bundle model values).ending ≡ refused why place)
    × (config ≡ text_of model.names values) × (position ≡ position_of bundle place)
IsVariantAnswer bundle model values _ = ⊥

-- the answer of `variant` for a model that its model file says, in this valid configuration
pub record IsPreprocessedIn (model_file config : List ℕ) (bundle : NamedFiles)
    (answer : Answer) : Type 0 where
  pub model : Features
  pub accepted : IsModelOf model_file model
  pub values : List Bool
  pub configuration : IsConfig model config values
  pub answers : IsVariantAnswer bundle model values answer

-- the answer of `variant` for these bytes of the model file, this bundle and this text of a
-- configuration
abbrev pub IsPreprocessedOf : List ℕ → NamedFiles → List ℕ → Answer → Type 0
IsPreprocessedOf model_file bundle config (Variant text) =
    IsPreprocessedIn model_file config bundle (Variant text)
IsPreprocessedOf model_file bundle config (Fails least position why) =
    IsPreprocessedIn model_file config bundle (Fails least position why)
IsPreprocessedOf model_file bundle config BadConfig =
    (model : Features) × IsModelOf model_file model
    × ((values : List Bool) → IsConfig model config values → ⊥)
IsPreprocessedOf model_file bundle config (BadModel found) =
    Says model_file (faulty found.line found.kind)
IsPreprocessedOf model_file bundle config _ = ⊥
