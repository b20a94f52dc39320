-- Conditional groups (6.10.1): which groups of a file are open, and what a directive that makes
-- groups does to them. Of a skipped group the directives are only followed for their nesting.
use Rattle.std.specs.Prelude.{ℕ, Bool, true, false, not, List, [], ◌∷◌, length, nat_lt, Option, Some, None}
use Rattle.hv_base.specs.declared.limits.TheConstants.{MOST_GROUPS}
use Rattle.hv_base.specs.declared.place.Place.{Place}
use Rattle.hv_base.specs.declared.why.Why.TheVariants.{BadDirective, Unbalanced, BadCondition, TooDeep}
use Rattle.hv_toks.specs.Macro.{Macro, undefined, defined}
use Rattle.hv_toks.specs.declared.token.PpTok.{PpTok}
use Rattle.hv_plain.specs.declared.episode.RunEnd.TheVariants.{Line}
use Rattle.hv_plain.specs.episode.Episode.{episode}
use Rattle.hv_plain.specs.episode.Expansion.{Result, expands, fails, Episode}
use Rattle.hv_plain.specs.episode.Tokens.{is_identifier}
use Rattle.hv_plainpp.specs.Directives.{Question, expression, is_macro, is_no_macro, Conditional, if_, elif, else_, endif}
use Rattle.hv_plainpp.specs.Expressions.{truth_of}
use Rattle.hv_plainpp.specs.Files.{Entered, place_of}
use Rattle.hv_plainpp.specs.Reading.{Reading, reading, refusal, continued, and_then}

------ groups

-- how far an `#if` and what belongs to it has been read
pub data Progress : Type 0 where
  -- none of its groups was processed so far, and the present one isn't
  searching : Progress
  -- the present group is processed
  processing : Progress
  -- no further group is processed: one was, or all stands in a skipped group
  over : Progress

-- an `#if`, `#ifdef` or `#ifndef` without its `#endif` so far: the place of its `#`, how far it has
-- been read, and whether its `#else` was met
pub record Group : Type 0 where
  pub opened : Place
  pub progress : Progress
  pub behind_else : Bool

-- whether the present group is processed
abbrev pub is_processing : Progress → Bool
is_processing searching = false
is_processing processing = true
is_processing over = false

-- whether lines are processed where these groups are open, the innermost first
abbrev pub is_processed : List Group → Bool
is_processed [] = true
is_processed (g ∷ groups) = is_processing g.progress

------ what a controlling line asks

-- the truth of an expression with a value; without one it is refused at its directive's `#`
abbrev pub judged : (hash : Place) → Option Bool → Reading Bool
judged hash None = refusal BadCondition hash
judged hash (Some truth) = reading truth

-- the truth of what the expansion of a controlling line gives; a refusal of the expansion stands at
-- its first token
abbrev pub line_truth : (hash first : Place) → Result → Reading Bool
line_truth hash first (fails why) = refusal why first
line_truth hash first (expands given unread) = judged hash (truth_of given)

-- the truth of a controlling line by its episode, which is met
abbrev pub met_on_line : (hash first : Place) → Episode → Reading Bool
met_on_line hash first e =
    continued (record { place = first; face = e.face; gives = [] } ∷ [])
    (line_truth hash first e.result)

-- the truth of the expression that these tokens are once they are expanded; without a token there
-- is none (6.10.1, paragraphs 1, 3 and 4)
abbrev pub expression_truth : (at : Entered) → (macros : List ℕ → Macro) → (hash : Place)
    → List PpTok → Reading Bool
expression_truth at macros hash [] = refusal BadCondition hash
expression_truth at macros hash (t ∷ tokens) =
    met_on_line hash (place_of at t) (episode Line (t ∷ tokens) 0 macros)

-- whether a name that means this is a macro
abbrev pub is_defined : Macro → Bool
is_defined undefined = false
is_defined (defined place body) = true

-- whether the name behind `ifdef` or `ifndef` is a macro; what stands behind the name is ignored
-- (6.10.1, paragraph 5)
abbrev pub name_truth : (macros : List ℕ → Macro) → (hash : Place) → List PpTok → Reading Bool
name_truth macros hash [] = refusal BadDirective hash
name_truth macros hash (t ∷ tokens) = elim (is_identifier t.kind) [
  | true ↦ reading (is_defined (macros t.text))
  | false ↦ refusal BadDirective hash
]

-- the answer to what the first line of a group asks
abbrev pub answer : (at : Entered) → (macros : List ℕ → Macro) → (hash : Place) → Question
    → Reading Bool
answer at macros hash (expression tokens) = expression_truth at macros hash tokens
answer at macros hash (is_macro tokens) = name_truth macros hash tokens
answer at macros hash (is_no_macro tokens) =
    and_then (name_truth macros hash tokens) (λ truth. reading (not truth))

------ what a directive does to the groups

-- how far an `#if` has been read behind a line that is true or not
abbrev pub progress_at : Bool → Progress
progress_at true = processing
progress_at false = searching

-- one more group is open, unless that is one too many
abbrev pub open_group : (hash : Place) → Progress → List Group → Reading (List Group)
open_group hash progress groups = elim (nat_lt (length groups) MOST_GROUPS) [
  | true ↦ reading (record { opened = hash; progress = progress; behind_else = false } ∷ groups)
  | false ↦ refusal TooDeep hash
]

-- the innermost group goes on so
abbrev pub going_on : Group → Progress → List Group → Reading (List Group)
going_on g progress groups = reading (record g { progress = progress } ∷ groups)

-- `#elif` in a group: its expression is evaluated only where no group was processed and one still
-- may be
abbrev pub elif_in : (at : Entered) → (macros : List ℕ → Macro) → (hash : Place) → List PpTok
    → Group → List Group → Progress → Reading (List Group)
elif_in at macros hash tokens g groups searching =
    and_then (expression_truth at macros hash tokens)
    (λ truth. going_on g (progress_at truth) groups)
elif_in at macros hash tokens g groups processing = going_on g over groups
elif_in at macros hash tokens g groups over = going_on g over groups

-- how far an `#if` has been read behind its `#else`
abbrev pub progress_at_else : Progress → Progress
progress_at_else searching = processing
progress_at_else processing = over
progress_at_else over = over

-- the open groups behind a directive, whose `#` stands at `hash`. At a line that opens a group what
-- it asks comes first, then whether it is one too many
abbrev pub regrouped : (at : Entered) → (macros : List ℕ → Macro) → (hash : Place) → Conditional
    → List Group → Reading (List Group)
regrouped at macros hash (if_ asked) groups = elim (is_processed groups) [
  | true ↦ and_then (answer at macros hash asked)
      (λ truth. open_group hash (progress_at truth) groups)
  | false ↦ open_group hash over groups
]
regrouped at macros hash (elif tokens) [] = refusal Unbalanced hash
regrouped at macros hash (elif tokens) (g ∷ groups) = elim g.behind_else [
  | true ↦ refusal Unbalanced hash
  | false ↦ elif_in at macros hash tokens g groups g.progress
]
regrouped at macros hash else_ [] = refusal Unbalanced hash
regrouped at macros hash else_ (g ∷ groups) = elim g.behind_else [
  | true ↦ refusal Unbalanced hash
  | false ↦ reading (record {
    opened = g.opened;
    progress = progress_at_else g.progress;
    behind_else = true;
  } ∷ groups)
]
regrouped at macros hash endif [] = refusal Unbalanced hash
regrouped at macros hash endif (g ∷ groups) = reading groups
