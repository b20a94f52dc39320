-- Texts that are made, with open digits.
use Rattle.std.specs.Prelude.{ℕ, Bool, true, false, List, [], ◌∷◌, ◌++◌}
use Rattle.hv_toks.specs.Macro.{Macro, undefined}
use Rattle.hv_plain.specs.episode.Episode.{digit}
use Rattle.hv_plain.specs.episode.Substitution.{escaped}
use Rattle.hv_rescan.specs.Values.{digits_of}
use Rattle.hv_rescan.specs.declared.draft.Draft.{Draft}
use Rattle.hv_rescan.specs.declared.spelling.Digit.{Digit}

-- the text that a draft is so far
abbrev pub draft_of : (macros : List ℕ → Macro) → Draft → List ℕ
draft_of macros d = digits_of macros d.digits ++ d.tail

-- the macro state in which no name is defined
abbrev pub nothing : List ℕ → Macro
nothing name = undefined

-- a text as it stands, or as it is spelled within a string literal (6.10.3.2)
abbrev pub within : (is_quoted : Bool) → List ℕ → List ℕ
within true text = escaped text
within false text = text

-- texts, each followed by the answer to a question, as they stand or within a string literal
abbrev pub digits_within : (is_quoted : Bool) → (macros : List ℕ → Macro) → List Digit → List ℕ
digits_within is_quoted macros [] = []
digits_within is_quoted macros (d ∷ ds) =
    within is_quoted d.before ++ digit (macros d.name) ∷ digits_within is_quoted macros ds
