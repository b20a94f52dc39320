-- What is known of a family of macros between calls.
-- Not in here: which macros it has.
use Rattle.std.specs.Prelude.{ℕ, ◌≡◌, ◌<◌, Bool, List}
use Rattle.hv_base.specs.declared.place.Place.{Place}
use Rattle.hv_cond.specs.Diagram.{Diagram}
use Rattle.hv_macros.specs.Table.{HasOneBody, IsTableOf, meaning_in}
use Rattle.hv_macros.specs.declared.tables.MacroTable.{MacroTable}
use Rattle.hv_toks.specs.Macro.{defined}
use Rattle.hv_toks.specs.declared.macros.Body.{Body}
use Rattle.hv_expand_bench.specs.declared.family.Family.{Family}

-- each definition in file 0 stands before this offset
unfoldable pub AllBefore : Diagram → MacroTable → (next : ℕ) → Type 0
AllBefore diagram table next = (values : List Bool) (name : List ℕ) (place : Place) (body : Body)
    → meaning_in diagram table values name ≡ defined place body → place.file ≡ 0
    → place.offset < next

-- the store has a variable for each option, the table is one over the store, definitions of one
-- place are one, and those in file 0 stand before the place of the next
pub record IsFamily (family : Family) : Type 0 where
  pub variables : family.store.variables ≡ family.options
  pub table : IsTableOf family.store family.table
  pub one_body : HasOneBody family.store family.table
  pub before : AllBefore family.store family.table family.next
