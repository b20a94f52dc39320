-- The macro state of one configuration (6.10.3): a list of definitions and removals.
-- How lines become entries, and which names a source may not define, is not defined here.
use Rattle.std.specs.Prelude.{ℕ, true, false, List, [], ◌∷◌, map, if◌then◌else◌}
use Rattle.std.specs.Str.{bytes_eq}
use Rattle.hv_base.specs.declared.place.Place.{Place}
use Rattle.hv_toks.specs.Macro.{Macro, undefined, defined}
use Rattle.hv_toks.specs.declared.macros.Body.TheVariants.{Object}
use Rattle.hv_toks.specs.declared.token.PpKind.TheVariants.{Number}
use Rattle.hv_toks.specs.declared.token.PpTok.{PpTok}

-- from here on the name means this
pub record Entry : Type 0 where
  pub name : List ℕ
  pub macro : Macro

-- what a name means after these entries, where it meant this before them: its latest entry counts
abbrev pub meaning_after : Macro → List Entry → List ℕ → Macro
meaning_after before [] name = before
meaning_after before (e ∷ entries) name =
    meaning_after (if bytes_eq e.name name then e.macro else before) entries name

-- what a name means in a macro state
abbrev pub meaning_of : List Entry → List ℕ → Macro
meaning_of entries name = meaning_after undefined entries name

-- a pp-number, after white space, that is made of no byte of a source
abbrev pub number_token : List ℕ → Place → PpTok
number_token text place = record {
  kind = Number;
  span = record { file = place.file; start = place.offset; end = place.offset };
  text = text;
  space = true;
  first = false;
}

-- an object-like macro that one pp-number replaces
abbrev pub number_macro : List ℕ → Place → Macro
number_macro text place = defined place (Object (number_token text place ∷ []))

-- what a name, the spelling of a number and a place define
abbrev pub entry_of : List ℕ × List ℕ × Place → Entry
entry_of definition = record { name = definition.0; macro = number_macro definition.1 definition.2 }

-- the macro state in which a translation unit begins that these define
abbrev pub entries_of : List (List ℕ × List ℕ × Place) → List Entry
entries_of definitions = map entry_of definitions
