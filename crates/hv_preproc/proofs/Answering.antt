-- What is said of the steps of a question and of a directive that makes groups.
use Rattle.std.proofs.Common.{◌∷◌, ℕ, List}
use Rattle.hv_base.specs.declared.place.Place.{Place}
use Rattle.hv_cond.specs.Diagram.{Diagram}
use Rattle.hv_cond.specs.declared.conditions.Cond.{Cond}
use Rattle.hv_macros.specs.Table.{meaning_in}
use Rattle.hv_macros.specs.declared.tables.MacroTable.{MacroTable}
use Rattle.hv_plainpp.specs.Directives.{Conditional, Question}
use Rattle.hv_plainpp.specs.Files.{Entered, place_of}
use Rattle.hv_plainpp.specs.Groups.{answer, regrouped}
use Rattle.hv_preproc.specs.declared.groups.Groups.{Groups}
use Rattle.hv_preproc.specs.declared.unit.Unit.{Unit as UnitSoFar}
use Rattle.hv_preproc.specs.working.Keys.{Rises, reached}
use Rattle.hv_preproc.specs.working.OpenGroups.{groups_in}
use Rattle.hv_preproc.specs.working.Parts.{AreRegrouped, AreTruths, group_part, keeping, tokens_asked, tokens_on}
use Rattle.hv_preproc.specs.working.Walk.{IsSound, Reads, Stops}
use Rattle.hv_texts.specs.Readings.{IsOriginOf}
use Rattle.hv_texts.specs.declared.came.Truths.{Truths}
use Rattle.hv_texts.specs.declared.origin.Origin.{Origin}
use Rattle.hv_toks.specs.MacroState.{meaning_of}
use Rattle.hv_toks.specs.declared.token.PpTok.{PpTok}

-- the step reads what the question asks
abbrev pub AnswerReads : (old new : Diagram) → (before now : UnitSoFar) → Origin → (hash : Place)
    → Cond → Question → Type 0
AnswerReads old new before now origin hash own q = (at : Entered) (low high : ℕ)
    → IsOriginOf origin at → Rises low high (tokens_asked q) → IsSound old before (reached at low)
    → Reads old new before now (reached at low) (reached at high) own
    (λ values macros. keeping (answer at (meaning_of macros) hash q) macros)

-- and finds where it is so
abbrev pub AnswerTruths : (old new : Diagram) → (live : Cond) → MacroTable → Origin → (hash : Place)
    → Cond → Truths → Question → Type 0
AnswerTruths old new live table origin hash own truths q = (at : Entered) → IsOriginOf origin at
    → AreTruths old new live own truths (λ values. answer at (meaning_in old table values) hash q)

-- or stops
abbrev pub AnswerStops : (old new : Diagram) → UnitSoFar → Origin → (hash : Place) → Cond → Question
    → Place → List Cond → Type 0
AnswerStops old new before origin hash own q place conds = (at : Entered) (low high : ℕ)
    → IsOriginOf origin at → Rises low high (tokens_asked q)
    → Stops old new before (reached at low) own
    (λ values macros. keeping (answer at (meaning_of macros) hash q) macros) place conds

-- the step reads a directive that makes groups
abbrev pub GroupReads : (old new : Diagram) → (before now : UnitSoFar) → Origin → Groups
    → (hash : PpTok) → Conditional → Type 0
GroupReads old new before now origin groups hash d = (at : Entered) (low high : ℕ)
    → IsOriginOf origin at → Rises low high (hash ∷ tokens_on d) → IsSound old before (reached at
    low)
    → Reads old new before now (reached at low) (reached at high) groups.cond
    (λ values. group_part at (groups_in old groups values) hash d)

-- and makes the groups that it makes
abbrev pub GroupsFollow : (old new : Diagram) → (before now : Groups) → (live : Cond) → MacroTable
    → Origin → (hash : PpTok) → Conditional → Type 0
GroupsFollow old new before now live table origin hash d = (at : Entered) → IsOriginOf origin at
    → AreRegrouped old new before now live
    (λ values. regrouped at (meaning_in old table values) (place_of at hash) d)

-- or stops
abbrev pub GroupStops : (old new : Diagram) → UnitSoFar → Origin → Groups → (hash : PpTok)
    → Conditional → Place → List Cond → Type 0
GroupStops old new before origin groups hash d place conds = (at : Entered) (low high : ℕ)
    → IsOriginOf origin at → Rises low high (hash ∷ tokens_on d)
    → Stops old new before (reached at low) groups.cond
    (λ values. group_part at (groups_in old groups values) hash d) place conds
