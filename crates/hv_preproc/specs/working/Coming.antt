-- What came of a part that was read in the configurations of a condition.
use Rattle.std.specs.Prelude.{ℕ, ◌≡◌, Bool, true, false, cond, List, All}
use Rattle.hv_cond.specs.Diagram.{Diagram, holds}
use Rattle.hv_cond.specs.declared.conditions.Cond.{Cond}
use Rattle.hv_given.specs.declared.given.Given.{Given}
use Rattle.hv_macros.specs.Table.{meaning_in}
use Rattle.hv_macros.specs.declared.tables.MacroTable.{MacroTable}
use Rattle.hv_plainpp.specs.Reading.{Met, Reading, reading}
use Rattle.hv_preproc.specs.working.Keys.{IsBefore, IsUntil, key}
use Rattle.hv_preproc.specs.working.Parts.{keeping}
use Rattle.hv_preproc.specs.working.Walk.{Part}
use Rattle.hv_texts.specs.Readings.{AreByFace, AreFew, AreMet, Ends}
use Rattle.hv_toks.specs.Macro.{Macro}
use Rattle.hv_toks.specs.MacroState.{Entry, meaning_of}
use Rattle.hv_toks.specs.declared.parted.Failing.{Failing}

-- a part that is read only in the configurations of a condition
abbrev pub part_in : Diagram → (within : Cond) → Part → Part
part_in diagram within part values macros =
    cond (holds diagram within values) (part values macros) (reading macros)

-- what came of a part that was read in the configurations of a condition, between two places; its
-- macros are those of a table of the store in which it was read
pub record Comes {A : Type 0} (mid came : Diagram) (table : MacroTable) (cond good : Cond)
    (given : List Given) (failing : List Failing) (IsRight : List Bool → A → Type 0)
    (read : (List ℕ → Macro) → Reading A) (here there : List ℕ) : Type 0 where
  pub met : AreMet came cond given (λ values. read (meaning_in mid table values))
  pub faces : AreByFace came cond given (λ values. read (meaning_in mid table values))
  pub few : AreFew given
  pub ends : Ends came cond good failing IsRight (λ values. read (meaning_in mid table values))
  pub between : (macros : List ℕ → Macro)
      → All (λ (m : Met). IsUntil here (key m.place) × IsBefore (key m.place) there)
      (read macros).met

-- a part comes to this reading in the configurations of a condition, and to nothing in the others
-- that live
pub record IsPartIn {A : Type 0} (old mid : Diagram) (live within cond : Cond)
    (read : (List ℕ → Macro) → Reading A) (part : Part) : Type 0 where
  pub inside : (values : List Bool) → holds mid cond values ≡ true
      → (holds old within values ≡ true) × (holds old live values ≡ true)
  pub read_there : (values : List Bool) (macros : List Entry) → holds mid cond values ≡ true
      → part values macros ≡ keeping (read (meaning_of macros)) macros
  pub nothing_else : (values : List Bool) (macros : List Entry) → holds mid cond values ≡ false
      → holds old within values ≡ true → holds old live values ≡ true
      → part values macros ≡ reading macros
