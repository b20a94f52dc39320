-- What the expansion of macros from a token on comes to under all configurations of a condition.
-- Not in here: what an episode is, and what a macro table means under one configuration.
use Rattle.std.specs.Prelude.{ℕ, ◌≡◌, ◌+◌, ◌↔◌, Bool, true, List, [], ◌∷◌, map}
use Rattle.hv_cond.specs.Diagram.{Diagram, holds}
use Rattle.hv_cond.specs.declared.conditions.Cond.{Cond}
use Rattle.hv_macros.specs.Table.{meaning_in}
use Rattle.hv_macros.specs.declared.tables.MacroTable.{MacroTable}
use Rattle.hv_plain.specs.declared.episode.RunEnd.{RunEnd}
use Rattle.hv_plain.specs.episode.Episode.{episode, goes_on}
use Rattle.hv_plain.specs.episode.Expansion.{Result, expands, fails}
use Rattle.hv_toks.specs.Macro.{Macro}
use Rattle.hv_toks.specs.Spelled.{all_spelled}
use Rattle.hv_toks.specs.declared.token.PpTok.{PpTok}
use Rattle.hv_expand.specs.declared.outcome.ExpandFault.{ExpandFault}
use Rattle.hv_expand.specs.declared.outcome.ExpandFault.TheVariants.{TooMany, Memory}
use Rattle.hv_expand.specs.declared.outcome.Expanded.{Expanded}
use Rattle.hv_expand.specs.declared.outcome.Expanded.TheVariants.{Tokens, Fails}
use Rattle.hv_expand.specs.declared.outcome.Outcome.{Outcome}

------ one configuration

-- an expansion is what an episode comes to: tokens of the same kinds and spellings with the same
-- white space before them, or the same refusal
abbrev pub IsResult : Expanded → Result → Type 0
IsResult (Tokens tokens) (expands given unread) = all_spelled tokens ≡ given
IsResult (Tokens tokens) (fails why) = ⊥
IsResult (Fails why) (expands given unread) = ⊥
IsResult (Fails why) (fails cause) = why ≡ cause

-- the episode that begins at a position of a run, where each name means this, comes to this
-- expansion, and goes on at this position
pub record ComesTo (ends : RunEnd) (run : List PpTok) (at : ℕ) (macros : List ℕ → Macro)
    (result : Expanded) (end : ℕ) : Type 0 where
  pub right : IsResult result (episode ends run at macros).result
  pub goes : goes_on run at (episode ends run at macros).result ≡ end

------ all configurations

-- two configurations give an episode one face: the same events
abbrev pub HaveOneFace : RunEnd → (run : List PpTok) → (at : ℕ) → Diagram → MacroTable
    → (values others : List Bool) → Type 0
HaveOneFace ends run at diagram table values others =
    (episode ends run at (meaning_in diagram table values)).face
    ≡ (episode ends run at (meaning_in diagram table others)).face

-- the conditions of outcomes, in order
abbrev pub conditions : List Outcome → List Cond
conditions outcomes = map (λ (o : Outcome). o.cond) outcomes

-- in each of its configurations an outcome is what the episode comes to
abbrev pub IsRight : RunEnd → (run : List PpTok) → (at : ℕ) → (table_diagram : Diagram)
    → MacroTable → Diagram → Outcome → Type 0
IsRight ends run at old table diagram o = (values : List Bool)
    → holds diagram o.cond values ≡ true
    → ComesTo ends run at (meaning_in old table values) o.result o.end

-- of the configurations of a condition, an outcome has exactly those that have one face
abbrev pub IsOfOneFace : RunEnd → (run : List PpTok) → (at : ℕ) → (table_diagram : Diagram)
    → MacroTable → Diagram → Cond → Outcome → Type 0
IsOfOneFace ends run at old table diagram c o = (values others : List Bool)
    → holds diagram o.cond values ≡ true → holds diagram c others ≡ true
    → (holds diagram o.cond others ≡ true) ↔ HaveOneFace ends run at old table values others

-- the numbers of faces are the outcomes' own, counted from this one
abbrev pub AreNumbered : ℕ → List Outcome → Type 0
AreNumbered n [] = Unit {0}
AreNumbered n (o ∷ outcomes) = (o.face ≡ n) × AreNumbered (n + 1) outcomes

-- what is said of the conditions of `TooMany`; nothing where memory ran out
abbrev pub IfTooMany : (List Cond → Type 0) → ExpandFault → Type 0
IfTooMany P (TooMany conds) = P conds
IfTooMany P Memory = Unit {0}
