-- What the words of a call mean.
use Rattle.std.specs.Prelude.{ℕ, cond, List, [], ◌∷◌, map, codes, Option, Some, None, option_and_then, option_map, unwrap_or}
use Rattle.std.specs.Str.{bytes_eq}
use Rattle.std.specs.String.{string_bytes}
use Rattle.clap.specs.Words.{App, Kinds, Row, first_of, matches_of, fault_of}
use Rattle.hv_words.specs.Descriptions as described
use Rattle.hv_words.specs.Folders.{folders}
use Rattle.hv_words.specs.declared.command.Sources.{Sources as Given}
use Rattle.hv_words.specs.declared.command.Command.{Command as GivenCommand}
use Rattle.hv_words.specs.declared.command.Command.TheVariants.{Encode, Variant, Options}

-- where a product line is read from: the model file, the include folders and the main file
pub record Sources : Type 0 where
  pub model : Option (List ℕ)
  pub dirs : List (List ℕ)
  pub file : List ℕ

-- a command, with the text of its configuration, which is empty where every option is off
pub data Command : Type 0 where
  encode : Sources → Command
  variant : Sources → (config : List ℕ) → Command
  options : (model : Option (List ℕ)) → (config : List ℕ) → Command

-- these values, where there is no fault
abbrev pub given_unless : Kinds → List Row → Option (List Row)
given_unless [] rows = Some rows
given_unless (k ∷ kinds) rows = None

-- the values that clap's definition gives for the words of a command of this description, the first
-- of which is the command; `None` where it refuses them
unfoldable pub values_of : App → List (List ℕ) → Option (List Row)
values_of app words = given_unless (fault_of app words) (matches_of app words)

-- the folders that the values give: none without the option
abbrev pub folders_of : Option (List ℕ) → Option (List (List ℕ))
folders_of None = Some []
folders_of (Some text) = folders text

-- the sources that the values give; `None` where the folders are none that may be
abbrev pub sources_of : List Row → Option Sources
sources_of rows = option_map (λ dirs. record {
  model = first_of (codes "model") rows;
  dirs = dirs;
  file = unwrap_or (first_of (codes "file") rows) [];
}) (folders_of (first_of (codes "dirs") rows))

-- the configuration's text that the values give
abbrev pub config_in : List Row → List ℕ
config_in rows = unwrap_or (first_of (codes "config") rows) []

-- the command that the words give after its name, and where that name is a command's; `None` where
-- they give none
abbrev pub command_named : (name : List ℕ) → (words : List (List ℕ)) → Option Command
command_named name words =
    cond (bytes_eq name (codes "encode"))
    (option_map encode (option_and_then sources_of (values_of described.encode words)))
    (cond (bytes_eq name (codes "variant"))
    (option_and_then (λ rows. option_map (λ s. variant s (config_in rows)) (sources_of rows))
    (values_of described.variant words))
    (cond (bytes_eq name (codes "options"))
    (option_map (λ rows. options (first_of (codes "model") rows) (config_in rows))
    (values_of described.options words))
    None))

-- the command that these words give, the first of which names it; `None` where they give none
abbrev pub command_of : List (List ℕ) → Option Command
command_of [] = None
command_of (name ∷ more) = command_named name (name ∷ more)

------ what the code's types mean

-- the sources as texts
abbrev pub sources_meant : Given → Sources
sources_meant s = record {
  model = option_map string_bytes s.model;
  dirs = map string_bytes s.dirs.items;
  file = string_bytes s.file;
}

-- the command as texts
abbrev pub meaning_of : GivenCommand → Command
meaning_of (Encode s) = encode (sources_meant s)
meaning_of (Variant s config) = variant (sources_meant s) (string_bytes config)
meaning_of (Options model config) = options (option_map string_bytes model) (string_bytes config)
