-- Where a name is a macro, by the meanings that it has.
use Rattle.std.specs.Prelude.{◌≡◌, ◌||◌, Bool, not, List, if◌then◌else◌}
use Rattle.std.specs.List.{list_any}
use Rattle.hv_cond.specs.Diagram.{Diagram, IsNode, holds}
use Rattle.hv_cond.specs.declared.conditions.Cond.{Cond}
use Rattle.hv_plainpp.specs.Groups.{is_defined}
use Rattle.hv_texts.specs.declared.came.Truths.{Truths}
use Rattle.hv_toks.specs.Macro.{Macro}

-- some of these meanings is a macro
abbrev pub some_macro : List Macro → Bool
some_macro macros = list_any is_defined macros

-- some of these meanings is none
abbrev pub some_none : List Macro → Bool
some_none macros = list_any (λ (m : Macro). not (is_defined m)) macros

-- the one condition holds where some meaning is a macro, the other where some is none
pub record AreTruthsOf (diagram : Diagram) (truths : Truths) (means : List Bool → List Macro)
    : Type 0 where
  pub holds_node : IsNode diagram truths.holds
  pub fails_node : IsNode diagram truths.fails
  pub holds_so : (values : List Bool)
      → holds diagram truths.holds values ≡ some_macro (means values)
  pub fails_so : (values : List Bool) → holds diagram truths.fails values ≡ some_none (means values)

-- a condition with another where this is so
abbrev pub joined_if : Bool → (before more : Bool) → Bool
joined_if b before more = if b then (before || more) else before

-- the configurations of one more meaning
pub record IsOneMore (old new : Diagram) (before after : Truths) (cond : Cond) (macro : Macro)
    : Type 0 where
  pub holds_node : IsNode new after.holds
  pub fails_node : IsNode new after.fails
  pub holds_so : (values : List Bool) → holds new after.holds values
      ≡ joined_if (is_defined macro) (holds old before.holds values) (holds old cond values)
  pub fails_so : (values : List Bool) → holds new after.fails values
      ≡ joined_if (not (is_defined macro)) (holds old before.fails values) (holds old cond values)
