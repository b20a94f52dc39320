-- What `clap` is told of each command: options that take one value and are given once, and at most
-- one positional, which has to be there. What it accepts for a description is clap's own
-- definition: `--model M` and `--model=M`, `-I D`, `-ID` and `-I=D`, in any order and on either
-- side of the positional; after `--` words are positionals. It refuses a repeated option, an
-- unknown one, an option in the place of a value, a second positional, and requests for help.
-- `proofs/Rows` computes these.
use Rattle.std.specs.Prelude.{ℕ, true, List, Some, codes}
use Rattle.clap.specs.Words.{App, Rule, new_app, new_rule, with_rule}

-- an option with a long name, which is its id too
abbrev pub long_option : List ℕ → Rule
long_option name = record (new_rule name) { long = Some name }

-- `--model M`: the name of the model file
abbrev pub model : Rule
model = long_option (codes "model")

-- `-I DIRS`: the include folders
abbrev pub dirs : Rule
dirs = record (new_rule (codes "dirs")) { short = Some 73 }

-- `--config K`: the text of a configuration
abbrev pub config : Rule
config = long_option (codes "config")

-- the name of the main file
abbrev pub file : Rule
file = record (new_rule (codes "file")) { required = true }

-- `encode --model M -I DIRS FILE`
abbrev pub encode : App
encode = with_rule (with_rule (with_rule (new_app (codes "encode")) model) dirs) file

-- `variant --model M -I DIRS --config K FILE`
abbrev pub variant : App
variant =
    with_rule (with_rule (with_rule (with_rule (new_app (codes "variant")) model) dirs) config) file

-- `options --model M --config K`
abbrev pub options : App
options = with_rule (with_rule (new_app (codes "options")) model) config
