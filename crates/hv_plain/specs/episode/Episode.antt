-- An episode (6.10.3): the expansion that begins at a token of a run, until nothing of it is left.
-- A run is the text lines between two directives of a file, or the tokens after `if` or `elif` of
-- one controlling line, which is one episode (6.10.1).
use Rattle.std.specs.Prelude.{ℕ, zero, suc, ◌-◌, Bool, true, false, ◌||◌, List, [], ◌∷◌, codes, map, drop, length, Option, Some, None}
use Rattle.std.specs.Str.{bytes_eq}
use Rattle.hv_base.specs.Ascii as ascii
use Rattle.hv_base.specs.declared.limits.TheConstants.{MOST_EVENTS}
use Rattle.hv_toks.specs.Macro.{Macro, undefined, defined}
use Rattle.hv_toks.specs.declared.token.PpKind.TheVariants.{Number}
use Rattle.hv_toks.specs.declared.token.PpTok.{PpTok}
use Rattle.hv_plain.specs.declared.episode.RunEnd.{RunEnd}
use Rattle.hv_plain.specs.declared.episode.RunEnd.TheVariants.{Directive, FileEnd, Line}
use Rattle.hv_plain.specs.episode.Expansion.{State, at, done, Result, expands, fails, Episode, run, alone}
use Rattle.hv_plain.specs.episode.Tokens.{Token, source_token, is_identifier}

------ `defined` (6.10.1, paragraph 1)

-- a question whether a name is defined: the name, and how many tokens the question has after its
-- first
pub record Question : Type 0 where
  pub name : List ℕ
  pub more : ℕ

-- a question of a name; `None` where the token is no identifier
abbrev pub question : PpTok → (more : ℕ) → Option Question
question t more = elim (is_identifier t.kind)
    [ true ↦ Some (record { name = t.text; more = more }) | false ↦ None ]

-- whether a token is spelled like this
abbrev pub has_text : PpTok → List ℕ → Bool
has_text t text = bytes_eq t.text text

-- the question that these tokens after `defined` ask: an identifier, or one in parentheses; `None`
-- where they ask none
abbrev pub asked : List PpTok → Option Question
asked [] = None
asked (t ∷ []) = question t 1
asked (t ∷ u ∷ []) = question t 1
asked (t ∷ u ∷ v ∷ after) = elim (has_text t (codes "(")) [
  | true ↦ elim (has_text v (codes ")")) [ true ↦ question u 3 | false ↦ None ]
  | false ↦ question t 1
]

-- the question that a token and those after it ask
abbrev pub asked_at : PpTok → List PpTok → Option Question
asked_at t after = elim (has_text t (codes "defined")) [ true ↦ asked after | false ↦ None ]

-- `1` where the name is a macro, `0` where it isn't
abbrev pub digit : Macro → ℕ
digit undefined = ascii.zero_digit
digit (defined place body) = ascii.one_digit

-- the answer, in the place of `defined`
abbrev pub answer : PpTok → (digit : ℕ) → Token
answer t d = record { kind = Number; text = d ∷ []; space = t.space || t.first; hides = [] }

-- the tokens of a controlling line with each question replaced by its answer; the first `skipped`
-- of them belong to a question before
abbrev pub answered : (macros : List ℕ → Macro) → (skipped : ℕ) → List PpTok → List Token
answered macros skipped [] = []
answered macros (suc skipped) (t ∷ after) = answered macros skipped after
answered macros zero (t ∷ after) = elim (asked_at t after) [
  | None ↦ source_token t ∷ answered macros zero after
  | Some q ↦ answer t (digit (macros q.name)) ∷ answered macros q.more after
]

------ the episode

-- the first of these tokens is next, and the last `unread` of the others are the source's that
-- nothing took yet
abbrev pub starting : List Token → (unread : ℕ) → State
starting [] unread = done (alone [])
starting (t ∷ tokens) unread = at t (record (alone tokens) { unread = unread }) []

-- the state in which an episode begins at the first of these tokens: of a controlling line all are
-- to be expanded, and else the first one
abbrev pub start : RunEnd → (macros : List ℕ → Macro) → List PpTok → State
start Directive macros run = starting (map source_token run) (length run - 1)
start FileEnd macros run = starting (map source_token run) (length run - 1)
start Line macros run = starting (answered macros zero run) 0

-- the episode that begins at this position of a run, where each name means this
unfoldable pub episode : RunEnd → (run : List PpTok) → (position : ℕ) → (macros : List ℕ → Macro)
    → Episode
episode ends text position macros =
    run ends macros MOST_EVENTS (start ends macros (drop position text))

-- the position where it goes on; that of its first token where it is refused
abbrev pub goes_on : (run : List PpTok) → (position : ℕ) → Result → ℕ
goes_on text position (expands given unread) = length text - unread
goes_on text position (fails why) = position
