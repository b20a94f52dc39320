-- The steps of the code: an open digit, a token whose spelling is settled, and a whole run.
use Rattle.std.specs.Prelude.{ℕ, ◌≡◌, ◌≢◌, ◌<◌, Bool, List, [], ◌∷◌, length, Option, Some, None}
use Rattle.hv_cond.specs.Diagram.{Diagram, IsNever, IsNode, holds}
use Rattle.hv_cond.specs.declared.conditions.Cond.{Cond}
use Rattle.hv_faces.specs.declared.class.Class.{Class}
use Rattle.hv_macros.specs.Table.{HasOneBody, IsTableOf, meaning_in}
use Rattle.hv_plain.specs.declared.episode.RunEnd.TheVariants.{Line}
use Rattle.hv_plain.specs.episode.Episode.{episode}
use Rattle.hv_plain.specs.episode.Expansion.{State}
use Rattle.hv_rescan.specs.Pending.{IsAt, is_macro}
use Rattle.hv_rescan.specs.Values.{open_names, state_of}
use Rattle.hv_rescan.specs.declared.machine.Machine.{Machine}
use Rattle.hv_toks.specs.Macro.{Macro}
use Rattle.hv_expand.specs.declared.episodes.Digit.{Digit}
use Rattle.hv_expand.specs.declared.episodes.Episodes.{Episodes}
use Rattle.hv_expand.specs.declared.episodes.Part.{Part}
use Rattle.hv_expand.specs.declared.episodes.Turn.{Turn}
use Rattle.hv_expand.specs.declared.episodes.Turn.TheVariants as turn
use Rattle.hv_base.specs.declared.why.Why.{Why}
use Rattle.hv_base.specs.declared.why.Why.TheVariants.{DirectiveInArguments, EpisodeTooLong}
use Rattle.hv_expand.specs.declared.moves.Deed.{Deed}
use Rattle.hv_expand.specs.declared.moves.Deed.TheVariants as deed
use Rattle.hv_expand.specs.declared.moves.Move.{Move}
use Rattle.hv_expand.specs.declared.outcome.Ending.{Ending}
use Rattle.hv_expand.specs.declared.questions.Question.TheVariants.{Defined}
use Rattle.hv_expand.specs.working.Going.{IsOver, IsSettled, text_in}
use Rattle.hv_expand.specs.working.Moves.{EndsSo, IsEnding, IsMove}
use Rattle.hv_expand.specs.working.Questions.{IsAnswered}

-- what a machine is under each configuration, where each gives names these meanings
abbrev pub states : (macros : List Bool → List ℕ → Macro) → Machine → List Bool → State
states macros machine values = state_of (macros values) machine

-- an episode can be run: its first token is there, and its table is one over the diagram in which
-- definitions of one place have one body
pub record IsGood (diagram : Diagram) (e : Episodes) : Type 0 where
  pub table : IsTableOf diagram e.table.now
  pub one_body : HasOneBody diagram e.table.now
  pub within : e.at < length e.run.now
  pub line : e.ends ≡ Line → e.at ≡ 0

-- a machine is over the episode's run. But on a controlling line its state is the same whatever
-- names mean
pub record IsMachineOf (e : Episodes) (machine : Machine) : Type 0 where
  pub ends : machine.run.ends ≡ e.ends
  pub tokens : machine.run.tokens.now ≡ e.run.now
  pub fixed : e.ends ≢ Line → (macros others : List ℕ → Macro)
      → state_of macros machine ≡ state_of others machine

-- the first open digit of the token that is next, and the configurations that answer alike
pub record IsDigit (old new : Diagram) (e : Episodes) (machine : Machine) (c : Cond)
    (digit : Digit) : Type 0 where
  pub name : List ℕ
  pub names : List (List ℕ)
  pub macro : Macro
  pub node : IsNode new digit.cond
  pub open_digits : open_names machine ≡ name ∷ names
  pub answered : IsAnswered old.variables (λ v. holds old c v) (λ v. holds new digit.cond v)
      (λ v. meaning_in old e.table.now v name) Defined macro
  pub told : is_macro macro ≡ digit.is_defined
  pub pends : (macros : List ℕ → Macro) → IsAt (state_of macros machine)
  pub tells : (macros others : List ℕ → Macro)
      → text_in (state_of macros machine) ≡ text_in (state_of others machine)
      → is_macro (macros name) ≡ is_macro (others name)

-- the same; none is open where there is no answer
abbrev pub IsDigitOf : (old new : Diagram) → Episodes → Machine → Cond → Option Digit → Type 0
IsDigitOf old new e machine c None = open_names machine ≡ []
IsDigitOf old new e machine c (Some digit) = IsDigit old new e machine c digit

-- the configurations of the part have no open digit left
pub record IsPart (old new : Diagram) (e : Episodes) (machine : Machine) (c : Cond) (part : Part)
    : Type 0 where
  pub node : IsNode new part.cond
  pub possible : ¬ IsNever new part.cond
  pub machine_of : IsMachineOf e part.machine
  pub none_open : open_names part.machine ≡ []
  pub settled : IsSettled e.ends (λ v. holds old c v) (λ v. holds new part.cond v)
      (states (meaning_in old e.table.now) machine)
      (states (meaning_in old e.table.now) part.machine)

-- a part moves on
pub record DoesMove (old new : Diagram) (e : Episodes) (part : Part) (found : Move) : Type 0 where
  pub pends : (macros : List ℕ → Macro) → IsAt (state_of macros part.machine)
  pub moves : IsMove new e.ends (meaning_in old e.table.now) (λ v. holds old part.cond v)
      (states (meaning_in old e.table.now) part.machine) found

-- what is next in the configurations of a part
abbrev pub IsTurnOf : (old new : Diagram) → Episodes → Part → Turn → Type 0
IsTurnOf old new e part (turn.Ends ending) =
    (macros : List ℕ → Macro) → EndsSo e.run.now e.at ending (state_of macros part.machine)
IsTurnOf old new e part (turn.Moves found) = DoesMove old new e part found

-- why an episode is refused where so many more events may come; `None` where it isn't
abbrev pub IsRefusal : Deed → (left : ℕ) → Option Why → Type 0
IsRefusal d left None = (d ≢ deed.Stop) × (0 < left)
IsRefusal deed.Stop left (Some why) = why ≡ DirectiveInArguments
IsRefusal deed.Give left (Some why) = (why ≡ EpisodeTooLong) × (left ≡ 0)
IsRefusal (deed.Use body) left (Some why) = (why ≡ EpisodeTooLong) × (left ≡ 0)

-- the configurations of one face among those of a condition, and what the episode comes to there
pub record IsFound (old new : Diagram) (e : Episodes) (c : Cond) (found : Class Ending)
    : Type 0 where
  pub node : IsNode new found.cond
  pub possible : ¬ IsNever new found.cond
  pub over : IsOver (λ v. holds old c v) (λ v. holds new found.cond v)
      (λ v. episode e.ends e.run.now e.at (meaning_in old e.table.now v))
      (IsEnding e.run.now e.at found.value)
