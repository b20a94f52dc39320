-- Which answer is due, by the words, the files, the model, the configuration and the source.
use Rattle.std.specs.Prelude.{ℕ, ◌≡◌, ◌⊎◌, Bool, List, Option, Some, None}
use Rattle.hv_base.specs.Bundles.{NamedFiles}
use Rattle.hv_base.specs.declared.place.Place.{Place}
use Rattle.hv_base.specs.declared.token.CTok.{CTok}
use Rattle.hv_base.specs.declared.why.Why.{Why}
use Rattle.hv_base.specs.declared.why.Why.TheVariants as whys
use Rattle.hv_ctoks.specs.declared.reserved.ReservedNames.TheVariants as reserved
use Rattle.hv_model.specs.Config.{text_of}
use Rattle.hv_model.specs.Lines.{Says, fault}
use Rattle.hv_model.specs.Model.{IsModelOf}
use Rattle.hv_model.specs.Rule.{Features, IsLeastValid}
use Rattle.hv_model.specs.declared.faults.ModelKind.{ModelKind}
use Rattle.hv_plain.specs.Source.{SourceLine, IsSmallSource}
use Rattle.hv_plain.specs.Run.{Encodes}
use Rattle.hv_plainpp.specs.CTokens.{Identity}
use Rattle.hv_plainpp.specs.Plainpp.{plainpp}
use Rattle.hv_plainpp.specs.Reading.{Reading, refused}
use Rattle.hv_print.specs.Shown.{shown}
use Rattle.hv_variant.specs.Variants.{HasTokens}
use Rattle.hv_words.specs.Commands.{Command, Sources, command_of, encode, options, variant}
use Rattle.hv_cli.specs.declared.read.Role.TheVariants.{Model, Main}
use Rattle.hv_cli.specs.declared.answer.Answer.{Answer}
use Rattle.hv_cli.specs.declared.answer.Answer.TheVariants.{Encoded, Options, Variant, Fails, BadWords, BadConfig, CannotRead, NoFile, TooBig, BadModel}
use Rattle.hv_cli.specs.declared.position.Position.{Position}
use Rattle.hv_cli.specs.Definitions.{IsConfig, definitions_of}
use Rattle.hv_cli.specs.Files.{AreGathered, IsAbsent, IsGathered, IsRead, IsTooBig, IsUnreadable, IsUntouched, Reads, config_text, name_of}
use Rattle.hv_cli.specs.Positions.{position_of, start_of}

-- every file of the command was read, and the model file is refused
pub record IsBadModel (reads : Reads) (command : Command) (line : ℕ)
    (kind : ModelKind) : Type 0 where
  pub bytes : List ℕ
  pub model_file : IsRead reads (name_of command Model) bytes
  pub source : List ℕ
  pub main : IsRead reads (name_of command Main) source
  pub gathered : AreGathered reads command
  pub refused : Says bytes (fault line kind)

-- every file of the command was read: the model file says this model, and the main file holds these
-- bytes
pub record IsInput (reads : Reads) (command : Command) (model : Features)
    (source : List ℕ) : Type 0 where
  pub bytes : List ℕ
  pub model_file : IsRead reads (name_of command Model) bytes
  pub accepted : IsModelOf bytes model
  pub main : IsRead reads (name_of command Main) source
  pub gathered : AreGathered reads command

-- every file of the command was read, the model is accepted, and the text of the configuration
-- means no valid one
pub record IsBadConfig (reads : Reads) (command : Command) : Type 0 where
  pub model : Features
  pub source : List ℕ
  pub input : IsInput reads command model source
  pub text : List ℕ
  pub text_is : config_text command ≡ Some text
  pub no_config : (values : List Bool) → ¬ (IsConfig model text values)

------ `encode`

-- the command is `encode`, the main file is no small source, and the configuration is the least
-- valid one
pub record IsLeftOut (reads : Reads) (command : Command) (config : List ℕ) (position : Position)
    (why : Why) : Type 0 where
  pub sources : Sources
  pub command_is : command ≡ encode sources
  pub model : Features
  pub source : List ℕ
  pub input : IsInput reads command model source
  pub values : List Bool
  pub least : IsLeastValid model values
  pub config_is : config ≡ text_of model.names values
  pub position_is : position ≡ start_of sources.file
  pub why_is : why ≡ whys.LeftOut
  pub no_small_source : (body : List SourceLine) → ¬ (IsSmallSource model.names source body)

-- the command is `encode`, and the text is the metaproduct of the main file for the model
pub record IsEncoded (reads : Reads) (command : Command) (text : List ℕ) : Type 0 where
  pub sources : Sources
  pub command_is : command ≡ encode sources
  pub model : Features
  pub source : List ℕ
  pub input : IsInput reads command model source
  pub body : List SourceLine
  pub small : IsSmallSource model.names source body
  pub encodes : Encodes model source text

------ `variant`

-- the command is `variant`; the main file was gathered with all its headers, the model file says
-- this model, and the text of the configuration means this valid one
pub record IsChosen (reads : Reads) (command : Command) (bundle : NamedFiles) (model : Features)
    (values : List Bool) : Type 0 where
  pub sources : Sources
  pub config : List ℕ
  pub command_is : command ≡ variant sources config
  pub source : List ℕ
  pub input : IsInput reads command model source
  pub gathered : IsGathered reads sources bundle
  pub configuration : IsConfig model config values

-- what plain preprocessing comes to in a configuration, names that begin with `hv_` refused
abbrev pub variant_of : NamedFiles → Features → List Bool → Reading (List (CTok × Identity))
variant_of bundle model values = plainpp bundle model.names values reserved.Refused

-- the command is `variant`, and the text is the printed form of the tokens of the variant
pub record IsPreprocessed (reads : Reads) (command : Command) (text : List ℕ) : Type 0 where
  pub bundle : NamedFiles
  pub model : Features
  pub values : List Bool
  pub chosen : IsChosen reads command bundle model values
  pub toks : List CTok
  pub tokens : HasTokens (variant_of bundle model values) toks
  pub text_is : text ≡ shown toks

-- the command is `variant`, and the variant is refused for this cause at this position
pub record IsRefusedIn (reads : Reads) (command : Command) (config : List ℕ) (position : Position)
    (why : Why) : Type 0 where
  pub bundle : NamedFiles
  pub model : Features
  pub values : List Bool
  pub chosen : IsChosen reads command bundle model values
  pub place : Place
  pub is_refused : (variant_of bundle model values).ending ≡ refused why place
  pub config_is : config ≡ text_of model.names values
  pub position_is : position ≡ position_of bundle place

------ `options`

-- the command is `options`, its configuration's text means a valid configuration of the model, and
-- the text defines each option variable as it has it
pub record IsDefined (reads : Reads) (command : Command) (text : List ℕ) : Type 0 where
  pub model_name : Option (List ℕ)
  pub config : List ℕ
  pub command_is : command ≡ options model_name config
  pub model : Features
  pub source : List ℕ
  pub input : IsInput reads command model source
  pub values : List Bool
  pub configuration : IsConfig model config values
  pub text_is : text ≡ definitions_of model.names values

------ all commands

-- the answer is due to this command
abbrev pub IsDueTo : Reads → Command → Answer → Type 0
IsDueTo reads command (Encoded text) = IsEncoded reads command text
IsDueTo reads command (Options text) = IsDefined reads command text
IsDueTo reads command (Variant text) = IsPreprocessed reads command text
IsDueTo reads command (Fails config position why) =
    IsLeftOut reads command config position why ⊎ IsRefusedIn reads command config position why
IsDueTo reads command BadWords = ⊥
IsDueTo reads command BadConfig = IsBadConfig reads command
IsDueTo reads command (CannotRead name) = IsUnreadable reads command name
IsDueTo reads command (NoFile name) = IsAbsent reads command name
IsDueTo reads command (TooBig name size total) = IsTooBig reads command name size total
IsDueTo reads command (BadModel found) = IsBadModel reads command found.line found.kind

-- the answer is due to a command, or is that there is none; then no read failed or found no file
abbrev pub IsDueFor : Reads → Option Command → Answer → Type 0
IsDueFor reads (Some command) answer = IsDueTo reads command answer
IsDueFor reads None answer = (answer ≡ BadWords) × IsUntouched reads

-- the answer is due to these words
abbrev pub IsDue : Reads → List (List ℕ) → Answer → Type 0
IsDue reads words answer = IsDueFor reads (command_of words) answer
