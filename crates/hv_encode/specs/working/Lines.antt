-- Lines as the code holds them, where options go by their numbers.
use Rattle.std.specs.Prelude.{ℕ, ◌≡◌, ◌<◌, List, [], ◌∷◌, ◌++◌, length, map, codes, Some, Contains}
use Rattle.std.specs.List.{slice_index_or, position, slice_split}
use Rattle.std.specs.Str.{bytes_eq}
use Rattle.hv_base.specs.Ascii.{is_newline}
use Rattle.hv_plain.specs.Bytes.{trimmed}
use Rattle.hv_plain.specs.Source as source
use Rattle.hv_encode.specs.declared.small.line.BodyLine.{BodyLine}
use Rattle.hv_encode.specs.declared.small.line.BodyLine.TheVariants.{Put, IfDefined, IfNotDefined, Else, EndIf}

-- the name of the option of this number
abbrev pub name_at : List (List ℕ) → ℕ → List ℕ
name_at names option = slice_index_or names option []

-- the number is the first one of an option of its name
pub record IsOption (names : List (List ℕ)) (option : ℕ) : Type 0 where
  pub within : option < length names
  pub first : position (bytes_eq (name_at names option)) names ≡ Some option

-- the line, with names for numbers
abbrev pub plain : List (List ℕ) → BodyLine → source.SourceLine
plain names (Put byte) = source.put byte
plain names (IfDefined option) = source.if_defined (name_at names option)
plain names (IfNotDefined option) = source.if_not_defined (name_at names option)
plain names Else = source.otherwise
plain names EndIf = source.end_if

-- the line speaks of options of the model
abbrev pub IsKnown : List (List ℕ) → BodyLine → Type 0
IsKnown names (Put byte) = byte < 256
IsKnown names (IfDefined option) = IsOption names option
IsKnown names (IfNotDefined option) = IsOption names option
IsKnown names Else = Unit {0}
IsKnown names EndIf = Unit {0}

-- each of these lines, blanks at its ends aside, is ended by a newline, and no byte follows
pub record IsCutInto (text : List ℕ) (lines : List (List ℕ)) : Type 0 where
  pub texts : List (List ℕ)
  pub cut : slice_split is_newline text ≡ texts ++ [] ∷ []
  pub is_trimmed : map trimmed texts ≡ lines

-- no option has the name of a function of small sources
pub record IsFree (names : List (List ℕ)) : Type 0 where
  pub main : ¬ (Contains names (codes "main"))
  pub putchar : ¬ (Contains names (codes "putchar"))
