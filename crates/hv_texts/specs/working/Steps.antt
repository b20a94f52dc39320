-- Where an outcome of an episode goes, and how far a text is expanded.
use Rattle.std.specs.Prelude.{ℕ, ◌≡◌, ◌+◌, ◌-◌, ◌<◌, ◌≤◌, Bool, true, false, List, [], ◌∷◌, All, drop, length, nat_eq, slice_index_or, Option, Some, None}
use Rattle.std.specs.List.{AllByRecursion}
use Rattle.hv_base.specs.declared.limits.TheConstants.{MOST_FACES}
use Rattle.hv_base.specs.declared.place.Place.{Place}
use Rattle.hv_base.specs.declared.why.Why.TheVariants.{BadCondition}
use Rattle.hv_cond.specs.Diagram.{Diagram, holds}
use Rattle.hv_cond.specs.Parts.{IsPartition}
use Rattle.hv_cond.specs.declared.conditions.Cond.{Cond}
use Rattle.hv_expand.specs.Outcomes.{AreNumbered, IsOfOneFace, IsRight, conditions}
use Rattle.hv_expand.specs.declared.outcome.ExpandFault.{ExpandFault}
use Rattle.hv_expand.specs.declared.outcome.ExpandFault.TheVariants as expand_fault
use Rattle.hv_expand.specs.declared.outcome.Expanded.{Expanded}
use Rattle.hv_expand.specs.declared.outcome.Expanded.TheVariants.{Tokens, Fails}
use Rattle.hv_expand.specs.declared.outcome.Outcome.{Outcome}
use Rattle.hv_given.specs.Given.{AllAgree}
use Rattle.hv_given.specs.declared.given.Given.{Given}
use Rattle.hv_macros.specs.declared.tables.MacroTable.{MacroTable}
use Rattle.hv_plain.specs.declared.episode.RunEnd.{RunEnd}
use Rattle.hv_plain.specs.declared.episode.RunEnd.TheVariants.{Line}
use Rattle.hv_plain.specs.episode.Episode.{episode}
use Rattle.hv_plainpp.specs.Expressions.{truth_of}
use Rattle.hv_plainpp.specs.Files.{Entered, place_of}
use Rattle.hv_plainpp.specs.Groups.{met_on_line}
use Rattle.hv_plainpp.specs.Reading.{Reading, reading}
use Rattle.hv_plainpp.specs.Text.{episodes}
use Rattle.hv_texts.specs.Readings.{AreApart, AreByFace, AreFew, AreMet, AreWithin, Ends, HasTruth}
use Rattle.hv_texts.specs.declared.came.Came.{Came}
use Rattle.hv_texts.specs.declared.came.Found.{Found}
use Rattle.hv_texts.specs.declared.came.Found.TheVariants as found
use Rattle.hv_texts.specs.declared.came.TooMany.{TooMany}
use Rattle.hv_texts.specs.declared.came.Truths.{Truths}
use Rattle.hv_texts.specs.declared.origin.Origin.{Origin}
use Rattle.hv_texts.specs.working.Sorting.{AreFaced, IsSorted, Way, pairs, to_refusal, to_slot}
use Rattle.hv_toks.specs.Macro.{Macro}
use Rattle.hv_toks.specs.Spelled.{all_spelled}
use Rattle.hv_toks.specs.declared.parted.Failing.{Failing}
use Rattle.hv_toks.specs.declared.token.PpTok.{PpTok}

------ an outcome

-- the tokens of an expansion; none where it is refused
abbrev pub tokens_in : Expanded → List PpTok
tokens_in (Tokens tokens) = tokens
tokens_in (Fails why) = []

-- the entry of an outcome that gives these tokens
abbrev pub entry : Place → Outcome → List PpTok → Given
entry place o tokens = record { cond = o.cond; place = place; face = o.face; tokens = tokens }

-- where an outcome of the episode at a position of a text goes: to the next episode, by how many of
-- the tokens after the first are the episode's own, or to its refusal
abbrev pub way_on : (at : ℕ) → Place → (end : ℕ) → Expanded → Way
way_on at place end (Tokens tokens) = to_slot (end - (at + 1))
way_on at place end (Fails why) = to_refusal why place

-- where the truth of an expression goes
abbrev pub way_of_truth : (hash : Place) → Option Bool → Way
way_of_truth hash (Some true) = to_slot 0
way_of_truth hash (Some false) = to_slot 1
way_of_truth hash None = to_refusal BadCondition hash

-- where an outcome of a controlling line goes
abbrev pub way_on_line : (hash place : Place) → Expanded → Way
way_on_line hash place (Tokens tokens) = way_of_truth hash (truth_of (all_spelled tokens))
way_on_line hash place (Fails why) = to_refusal why place

-- what is left where a controlling line is true, and where it is false
abbrev pub truth_left : ℕ → List Bool → Reading Bool
truth_left k values = reading (nat_eq k 0)

-- the outcomes of an episode under a condition
pub record AreOutcomes (diagram : Diagram) (table : MacroTable) (ends : RunEnd) (run : List PpTok)
    (at : ℕ) (c : Cond) (outcomes : List Outcome) : Type 0 where
  pub parts : IsPartition diagram c (conditions outcomes)
  pub right : All (IsRight ends run at diagram table diagram) outcomes
  pub by_face : All (IsOfOneFace ends run at diagram table diagram c) outcomes
  pub numbers : AreNumbered 0 outcomes
  pub few : length outcomes ≤ MOST_FACES

-- the outcome of this number is that of a configuration
pub record HasNumber (diagram : Diagram) (outcomes : List Outcome) (values : List Bool) (i : ℕ)
    : Type 0 where
  pub within : i < length outcomes
  pub here : (x : Outcome) → holds diagram (slice_index_or outcomes i x).cond values ≡ true

------ what is found

-- what came of a part of a file
pub record IsRead {A : Type 0} (diagram : Diagram) (cond : Cond) (read : List Bool → Reading A)
    (IsRight : List Bool → A → Type 0) (given : List Given) (good : Cond)
    (failing : List Failing) : Type 0 where
  pub met : AreMet diagram cond given read
  pub few : AreFew given
  pub faces : AreByFace diagram cond given read
  pub ends : Ends diagram cond good failing IsRight read

-- what is said of what came, and of too many faces
abbrev pub IfFound : {T : Type 0} → (Came T → Type 0) → (Place → List Cond → Type 0) → Found T
    → Type 0
IfFound P Q (found.Came came) = P came
IfFound P Q (found.TooMany too_many) = Q too_many.place too_many.conds

-- the fault of an episode is too many faces, at this place
abbrev pub IsFaultAt : Place → ExpandFault → TooMany → Type 0
IsFaultAt place (expand_fault.TooMany conds) t = (t.place ≡ place) × (t.conds ≡ conds)
IsFaultAt place expand_fault.Memory t = ⊥

------ a controlling line

-- a controlling line in each configuration, by the place of its `#` and of its first token
abbrev pub line_reads : (hash place : Place) → (macros : List Bool → List ℕ → Macro)
    → List PpTok → List Bool → Reading Bool
line_reads hash place macros run values =
    met_on_line hash place (episode Line run 0 (macros values))

-- what came of a controlling line
pub record IsLineRead (diagram : Diagram) (cond : Cond) (read : List Bool → Reading Bool)
    (came : Came Truths) : Type 0 where
  pub is_read : IsRead diagram cond read (HasTruth diagram came.value) came.given came.good
      came.failing
  pub within : AreWithin diagram came.good came.value

-- how far the outcomes of a controlling line are judged, of which these are pending
pub record IsJudging (diagram : Diagram) (whole : Cond) (hash place : Place)
    (macros : List Bool → List ℕ → Macro) (run : List PpTok) (Number : List Bool → ℕ → Type 0)
    (given : List Given) (pending : List Cond) (truths : Truths) (refused : List Failing)
    : Type 0 where
  pub sorted : IsSorted diagram whole (line_reads hash place macros run) given pending
      (line_reads hash place macros run) (truths.holds ∷ truths.fails ∷ []) truth_left refused
  pub few : AreFew given
  pub faced : AreFaced diagram given (line_reads hash place macros run) place Number
      (λ values. (episode Line run 0 (macros values)).face)

------ a text

-- an entered file of which tokens stand there
abbrev pub entered : Origin → Entered
entered origin = record
    { file = record { number = origin.file; name = []; bytes = [] }; stack = origin.stack }

-- a text in each configuration
abbrev pub reads : Origin → RunEnd → (macros : List Bool → List ℕ → Macro) → List PpTok
    → List Bool → Reading (Unit {0})
reads origin ends macros run values = episodes (entered origin) ends (macros values) 0 run

-- the rest of a text, the first `own` tokens of which are those of an episode before
abbrev pub rests : Origin → RunEnd → (macros : List Bool → List ℕ → Macro) → List PpTok
    → (own : ℕ) → List Bool → Reading (Unit {0})
rests origin ends macros tokens own values =
    episodes (entered origin) ends (macros values) own tokens

-- none of these tokens stands at this place
abbrev pub IsFree : Place → Origin → List PpTok → Type 0
IsFree place origin [] = Unit {0}
IsFree place origin (t ∷ tokens) =
    ¬ (place ≡ place_of (entered origin) t) × IsFree place origin tokens

-- entries are at places of none of these tokens
abbrev pub AreFree : Origin → List PpTok → List Given → Type 0
AreFree origin tokens given = AllByRecursion (λ (g : Given). IsFree g.place origin tokens) given

-- how far a text is expanded: up to this position
pub record IsWalk (diagram : Diagram) (whole : Cond) (origin : Origin) (ends : RunEnd)
    (macros : List Bool → List ℕ → Macro) (run : List PpTok) (at : ℕ) (given : List Given)
    (reached : List Cond) (refused : List Failing) : Type 0 where
  pub sorted : IsSorted diagram whole (reads origin ends macros run) given []
      (reads origin ends macros run) (drop at reached)
      (rests origin ends macros (drop at run)) refused
  pub long : length reached ≡ length run + 1
  pub few : AreFew given
  pub agree : AreApart run → (values others : List Bool)
      → AllAgree (pairs diagram given (reads origin ends macros run) values)
      (pairs diagram given (reads origin ends macros run) others)
  pub free : AreApart run → AreFree origin (drop at run) given

-- how far the outcomes of the episode at a position are sorted, of which these are pending
pub record IsTurn (diagram : Diagram) (whole : Cond) (origin : Origin) (ends : RunEnd)
    (macros : List Bool → List ℕ → Macro) (run : List PpTok) (at : ℕ) (place : Place)
    (Number : List Bool → ℕ → Type 0) (given : List Given) (pending : List Cond)
    (reached : List Cond) (refused : List Failing) : Type 0 where
  pub token : PpTok
  pub first : drop at run ≡ token ∷ drop (at + 1) run
  pub stands : place ≡ place_of (entered origin) token
  pub sorted : IsSorted diagram whole (reads origin ends macros run) given pending
      (rests origin ends macros (drop at run) 0) (drop (at + 1) reached)
      (rests origin ends macros (drop (at + 1) run)) refused
  pub long : length reached ≡ length run + 1
  pub few : AreFew given
  pub faced : AreApart run → AreFaced diagram given (reads origin ends macros run) place Number
      (λ values. (episode ends run at (macros values)).face)
  pub free : AreApart run → AreFree origin (drop (at + 1) run) given

-- what came of a text
pub record IsTextRead (diagram : Diagram) (cond : Cond) (run : List PpTok)
    (read : List Bool → Reading (Unit {0})) (came : Came (Unit {0})) : Type 0 where
  pub met : AreMet diagram cond came.given read
  pub few : AreFew came.given
  pub faces : AreApart run → AreByFace diagram cond came.given read
  pub ends : Ends diagram cond came.good came.failing (λ values value. Unit {0}) read
