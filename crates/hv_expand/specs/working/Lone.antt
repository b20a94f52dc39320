-- Episodes that give their first token and nothing else, in each configuration.
use Rattle.std.specs.Prelude.{ℕ, ◌≡◌, ◌≢◌, ◌+◌, Bool, true, List, [], ◌∷◌, drop}
use Rattle.hv_cond.specs.Diagram.{Diagram, IsNever}
use Rattle.hv_cond.specs.declared.conditions.Cond.{Cond}
use Rattle.hv_macros.specs.Table.{meaning_in}
use Rattle.hv_macros.specs.declared.tables.MacroTable.{MacroTable}
use Rattle.hv_plain.specs.declared.episode.RunEnd.{RunEnd}
use Rattle.hv_plain.specs.declared.episode.RunEnd.TheVariants.{Line}
use Rattle.hv_plain.specs.episode.Tokens.{given_token, is_identifier, source_token}
use Rattle.hv_toks.specs.Macro.{undefined}
use Rattle.hv_toks.specs.Spelled.{all_spelled}
use Rattle.hv_toks.specs.declared.token.PpTok.{PpTok}
use Rattle.hv_expand.specs.declared.outcome.Expanded.TheVariants.{Tokens}
use Rattle.hv_expand.specs.declared.outcome.Outcome.{Outcome}

-- a token is no macro's name in any configuration: it is no identifier, or one that no line defines
abbrev pub IsNoName : MacroTable → PpTok → Type 0
IsNoName table t = is_identifier t.kind ≡ true → (diagram : Diagram) (values : List Bool)
    → meaning_in diagram table values t.text ≡ undefined

-- the token at a position of a run is all that the episode there gives, in the configurations of a
-- condition, of which there are some: the run is no controlling line, and the token no macro's name
pub record IsLone (diagram : Diagram) (ends : RunEnd) (run : List PpTok) (at : ℕ)
    (table : MacroTable) (c : Cond) (t : PpTok) : Type 0 where
  pub first : drop at run ≡ t ∷ drop (at + 1) run
  pub no_line : ends ≢ Line
  pub no_name : IsNoName table t
  pub possible : ¬ IsNever diagram c

-- the only outcome, in the configurations of a condition: these tokens are given, and the episode
-- goes on there
abbrev pub lone_outcome : (tokens : List PpTok) → (end : ℕ) → Cond → Outcome
lone_outcome tokens end c =
    record { cond = c; face = 0; result = Tokens tokens; end = end }

-- outcomes are one, which gives this token and nothing else
pub record IsLoneOutcome (t : PpTok) (end : ℕ) (c : Cond) (outcomes : List Outcome) : Type 0 where
  pub tokens : List PpTok
  pub spelled : all_spelled tokens ≡ given_token (source_token t) ∷ []
  pub is : outcomes ≡ lone_outcome tokens end c ∷ []
