-- What `options` writes: a definition in C for each option variable.
use Rattle.std.specs.Prelude.{ℕ, ◌≡◌, Bool, cond, List, [], ◌∷◌, ◌++◌, codes}
use Rattle.hv_model.specs.Config.{config_of, config as said}
use Rattle.hv_model.specs.Rule.{Features, IsValid}
use Rattle.hv_plain.specs.Run.{variable_of}

-- the definition of an option's variable, `int hv_opt_NAME = V;` and a newline: V is 1 where the
-- option is on, else 0
abbrev pub definition_of : List ℕ → Bool → List ℕ
definition_of name value =
    codes "int " ++ variable_of name ++ codes " = " ++ cond value (codes "1") (codes "0")
    ++ codes ";\n"

-- one definition after the other, in the order of the options
abbrev pub definitions_of : List (List ℕ) → List Bool → List ℕ
definitions_of [] _ = []
definitions_of (name ∷ names) [] = []
definitions_of (name ∷ names) (value ∷ values) =
    definition_of name value ++ definitions_of names values

-- the text means this valid configuration of the model
pub record IsConfig (model : Features) (text : List ℕ) (values : List Bool) : Type 0 where
  pub means : config_of model.names text ≡ said values
  pub valid : IsValid model values
