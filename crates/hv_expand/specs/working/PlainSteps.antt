-- The steps of the plain function, in the macro state of one configuration.
use Rattle.std.specs.Prelude.{ℕ, ◌≡◌, Bool, List, [], ◌∷◌, Option, Some, None}
use Rattle.hv_plain.specs.episode.Expansion.{Deed as PlainDeed}
use Rattle.hv_rescan.specs.Pending.{IsAt, is_macro}
use Rattle.hv_rescan.specs.Values.{open_names, state_of}
use Rattle.hv_rescan.specs.declared.machine.Machine.{Machine}
use Rattle.hv_toks.specs.Macro.{Macro}
use Rattle.hv_expand.specs.declared.moves.Deed.{Deed}
use Rattle.hv_expand.specs.declared.plain.PlainTurn.{PlainTurn}
use Rattle.hv_expand.specs.declared.plain.PlainTurn.TheVariants as turn
use Rattle.hv_expand.specs.working.Going.{does}
use Rattle.hv_expand.specs.working.Moves.{EndsSo, Says}

-- whether the first name is defined that is asked for; none is where there is no answer
abbrev pub IsPlainDigit : (macros : List ℕ → Macro) → Machine → Option Bool → Type 0
IsPlainDigit macros machine None = open_names machine ≡ []
IsPlainDigit macros machine (Some b) = (name : List ℕ) × (names : List (List ℕ))
    × (open_names machine ≡ name ∷ names) × (is_macro (macros name) ≡ b)

-- this is done with the token that is next
pub record DoesPlainly (macros : List ℕ → Macro) (machine : Machine) (d : Deed) : Type 0 where
  pub deed : PlainDeed
  pub says : Says d deed
  pub pends : IsAt (state_of macros machine)
  pub does : does machine.run.ends (state_of macros machine) macros ≡ deed

-- what is next in an episode that begins at this position
abbrev pub IsPlainTurn : (macros : List ℕ → Macro) → Machine → (at : ℕ) → PlainTurn → Type 0
IsPlainTurn macros machine at (turn.Ends ending) =
    EndsSo machine.run.tokens.now at ending (state_of macros machine)
IsPlainTurn macros machine at (turn.Does d) = DoesPlainly macros machine d
