-- What a table of macros means under one assignment of the options (6.10.3), and how a table
-- differs from an earlier one. Its conditions are those of a diagram.
-- Not in here: which names a source may define, and which redefinitions it may write.
use Rattle.std.specs.Prelude.{◌≡◌, ◌&&◌, ℕ, Bool, true, List, [], unwrap_or, length, if◌then◌else◌}
use Rattle.std.specs.HashMap.{get_by}
use Rattle.std.specs.Str.{bytes_eq}
use Rattle.hv_base.specs.declared.place.Place.{Place}
use Rattle.hv_cond.specs.Diagram.{Diagram, holds}
use Rattle.hv_cond.specs.declared.conditions.Cond.{Cond}
use Rattle.hv_toks.specs.declared.macros.Body.{Body}
use Rattle.hv_toks.specs.Macro.{Macro, defined, undefined}
use Rattle.hv_macros.specs.Alternatives.{AreAlternatives, meaning_or}
use Rattle.hv_macros.specs.declared.alternatives.Alternative.{Alternative}
use Rattle.hv_macros.specs.declared.tables.MacroTable.{MacroTable}

-- what the table keeps of a name
abbrev pub kept : MacroTable → List ℕ → List Alternative
kept table name = unwrap_or (get_by (λ k. bytes_eq name k.items) table.names) []

-- what a name means where the options have these values
unfoldable pub meaning_in : Diagram → MacroTable → List Bool → List ℕ → Macro
meaning_in diagram table values name = meaning_or diagram values (kept table name) undefined

-- the table is one over the diagram: of each name it keeps alternatives that are macros, can hold,
-- and have different meanings
unfoldable pub IsTableOf : Diagram → MacroTable → Type 0
IsTableOf diagram table = (name : List ℕ) → AreAlternatives diagram (kept table name)

-- under this condition the name now means this; elsewhere, and for other names, nothing changed
abbrev pub SetsUnder : (old new : Diagram) (before after : MacroTable) → List ℕ → Cond → Macro
    → Type 0
SetsUnder old new before after name cond macro = (values : List Bool) (other : List ℕ)
    → meaning_in new after values other ≡ (if bytes_eq name other && holds old cond values
    then macro else meaning_in old before values other)

-- each name means what it meant
abbrev pub SetsNothing : (old new : Diagram) (before after : MacroTable) → Type 0
SetsNothing old new before after = (values : List Bool) (other : List ℕ)
    → meaning_in new after values other ≡ meaning_in old before values other

-- the name is no macro in any configuration
abbrev pub IsNoMacro : Diagram → MacroTable → List ℕ → Type 0
IsNoMacro diagram table name = (values : List Bool) → length values ≡ diagram.variables
    → meaning_in diagram table values name ≡ undefined

-- definitions of one place have one name and one body, in whatever configurations they are met
unfoldable pub HasOneBody : Diagram → MacroTable → Type 0
HasOneBody diagram table =
    (values others : List Bool) (name other : List ℕ) (place : Place) (body second : Body)
    → meaning_in diagram table values name ≡ defined place body
    → meaning_in diagram table others other ≡ defined place second
    → (name ≡ other) × (body ≡ second)

-- nothing is defined at the place, unless it is this name with this body
unfoldable pub IsFreeFor : Diagram → MacroTable → Place → List ℕ → Body → Type 0
IsFreeFor diagram table place name body =
    (values : List Bool) (other : List ℕ) (second : Body)
    → meaning_in diagram table values other ≡ defined place second
    → (other ≡ name) × (second ≡ body)
