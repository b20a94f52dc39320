-- A text of which all positions are passed, and where it stands.
use Rattle.std.proofs.Common.{◌≡◌, ◌+◌, ◌-◌, ◌<◌, ◌≤◌, ◌↔◌, ℕ, zero, suc, Bool, true, false, List, [], ◌∷◌, length, drop, get_or, replicate, refl, sym, ◌∙◌, ap, subst, arith}
use Rattle.std.specs.Prelude.{All, slice_index_or, slice_set}
use Rattle.std.proofs.lemmas.List.{drop_all, drop_more}
use Rattle.hv_base.specs.declared.place.Place.{Place}
use Rattle.hv_cond.specs.Diagram.{Diagram, IsNode, Keeps, holds}
use Rattle.hv_cond.specs.Laws.{Keeps-refl, Keeps-trans}
use Rattle.hv_cond.specs.Parts.{IsPartition, count_satisfied}
use Rattle.hv_cond.specs.declared.conditions.Cond.{Cond}
use Rattle.hv_expand.specs.Outcomes.{AreNumbered, ComesTo, IsOfOneFace, IsRight, conditions}
use Rattle.hv_expand.specs.declared.outcome.Outcome.{Outcome}
use Rattle.hv_given.specs.Given.{AllAgree}
use Rattle.hv_given.specs.declared.given.Given.{Given}
use Rattle.hv_macros.specs.Laws.{meaning_in-kept}
use Rattle.hv_macros.specs.Table.{IsTableOf, meaning_in}
use Rattle.hv_macros.specs.declared.tables.MacroTable.{MacroTable}
use Rattle.hv_base.specs.declared.limits.TheConstants.{MOST_FACES}
use Rattle.hv_plain.specs.declared.episode.RunEnd.{RunEnd}
use Rattle.hv_plain.specs.episode.Episode.{episode}
use Rattle.hv_plain.specs.episode.Expansion.{Episode, Event, Result, expands, fails}
use Rattle.hv_plainpp.specs.Files.{Entered, place_of}
use Rattle.hv_plainpp.specs.Reading.{Reading, continued}
use Rattle.hv_plainpp.specs.Text.{episodes, with_episode}
use Rattle.hv_texts.proofs.Counting.{bit, count_cons}
use Rattle.hv_texts.proofs.Sorting.{are_met, divides, refused_so}
use Rattle.hv_texts.proofs.Walking.{turn_start, walk_next, walk_start}
use Rattle.hv_texts.specs.Faces.{HasTooMany}
use Rattle.hv_texts.specs.Readings.{AreApart, AreFew, AreMet, Ends, IsOriginOf}
use Rattle.hv_texts.specs.declared.came.Came.{Came}
use Rattle.hv_texts.specs.declared.origin.Origin.{Origin}
use Rattle.hv_texts.specs.working.Sorting.{IsSorted, pairs}
use Rattle.hv_texts.specs.working.Steps.{AreOutcomes, HasNumber, IsTextRead, IsTurn, IsWalk, entered, reads, rests}
use Rattle.hv_toks.specs.Macro.{Macro}
use Rattle.hv_toks.specs.declared.parted.Failing.{Failing}
use Rattle.hv_toks.specs.declared.token.PpTok.{PpTok}

------ the end

pub walk_end : (d : Diagram) (whole : Cond) (origin : Origin) (ends : RunEnd)
    (macros : List Bool → List ℕ → Macro) (run : List PpTok) (at : ℕ) (came : Came (Unit {0}))
    (given : List Given) (reached : List Cond) (refused : List Failing)
    → IsWalk d whole origin ends macros run at given reached refused
    → at < length run + 1 → length run ≤ at
    → came.given ≡ given → came.failing ≡ refused
    → ((x : Cond) → came.good ≡ slice_index_or reached (length reached - 1) x)
    → IsTextRead d whole run (reads origin ends macros run) came
walk_end d whole origin ends macros run at came given reached refused w within all given_is
    failing_is good_is =
    let read : List Bool → Reading (Unit {0}) = reads origin ends macros run in
    let last : length reached - 1 ≡ at = let l = w.long in omega arith in
    let slot : drop at reached ≡ came.good ∷ [] =
    drop_more reached at came.good (omega (arith, w.long))
    ∙ (ap (λ (x : Cond). x ∷ drop (at + 1) reached)
    (ap (λ (k : ℕ). get_or reached k came.good) (sym last) ∙ sym (good_is came.good))
    ∙ ap (λ (xs : List Cond). came.good ∷ xs) (drop_all (at + 1) reached (omega (arith, w.long)))) in
    let s : IsSorted d whole read given [] read (came.good ∷ []) (rests origin ends macros [])
    refused =
    subst (λ (xs : List Cond). IsSorted d whole read given [] read xs (rests origin ends macros [])
    refused) slot
    (subst (λ (xs : List PpTok). IsSorted d whole read given [] read (drop at reached)
    (rests origin ends macros xs) refused) (drop_all at run all) w.sorted) in
    let met = are_met d whole came.good read given read (came.good ∷ []) (rests origin ends macros [])
    refused s s.slot_nodes.0 (one came.good) none in
    record {
      met = subst (λ (gs : List Given). AreMet d whole gs read) (sym given_is) met;
      few = subst (λ (gs : List Given). AreFew gs) (sym given_is) w.few;
      faces = λ apart values others h k.
          subst (λ (gs : List Given). AllAgree (pairs d gs read values) (pairs d gs read others))
          (sym given_is) (w.agree apart values others);
      ends = subst (λ (fs : List Failing). Ends d whole came.good fs (λ values value. Unit {0}) read)
          (sym failing_is) (record {
            divides = divides d whole came.good read given read (came.good ∷ [])
                (rests origin ends macros []) refused s s.slot_nodes.0 (one came.good) none;
            right = λ values h. (tt, (s.going 0 came.good (omega arith) values h).ends, tt);
            refused_there = refused_so d whole came.good read given read (came.good ∷ [])
                (rests origin ends macros []) refused s s.slot_nodes.0 (one came.good) none;
          });
    }
  where
    one : (good : Cond) (values : List Bool)
        → bit (holds d good values) ≡ count_satisfied d (good ∷ []) values
    one good values = let more = count_cons d good [] values in omega arith

    none : (k : ℕ) (values : List Bool) → (rests origin ends macros [] k values).met ≡ []
    none zero values = refl
    none (suc k) values = refl

------ a store that grows

pub all_macros : {old new : Diagram} → Keeps old new → (table : MacroTable)
    → IsTableOf old table → meaning_in new table ≡ meaning_in old table
all_macros keeps table t = λ k values name. meaning_in-kept keeps table t values name k

-- the outcomes of an episode, by the later store
pub outcomes_now : {old new : Diagram} → Keeps old new → (table : MacroTable)
    → IsTableOf old table → (ends : RunEnd) (run : List PpTok) (at : ℕ) (c : Cond)
    (outcomes : List Outcome)
    → IsPartition new c (conditions outcomes)
    → All (IsRight ends run at old table new) outcomes
    → All (IsOfOneFace ends run at old table new c) outcomes
    → AreNumbered 0 outcomes → length outcomes ≤ MOST_FACES
    → AreOutcomes new table ends run at c outcomes
outcomes_now {old} {new} keeps table t ends run at c outcomes parts right by_face numbers few =
    record {
      parts = parts;
      right = subst (λ (m : List Bool → List ℕ → Macro). All (λ (o : Outcome). (values : List Bool)
          → holds new o.cond values ≡ true
          → ComesTo ends run at (m values) o.result o.end) outcomes)
          (sym (all_macros keeps table t)) right;
      by_face = subst (λ (m : List Bool → List ℕ → Macro). All (λ (o : Outcome).
          (values others : List Bool)
          → holds new o.cond values ≡ true → holds new c others ≡ true
          → (holds new o.cond others ≡ true) ↔ ((episode ends run at (m values)).face
          ≡ (episode ends run at (m others)).face)) outcomes)
          (sym (all_macros keeps table t)) by_face;
      numbers = numbers;
      few = few;
    }

------ where it stands

place_same : (origin : Origin) (at : Entered) → IsOriginOf origin at → (t : PpTok)
    → place_of (entered origin) t ≡ place_of at t
place_same origin at is t =
    ap (λ (f : ℕ). let p : Place = record
    { stack = origin.stack; file = f; offset = t.span.start } in p) is.file
    ∙ ap (λ (s : List ℕ). let p : Place = record
    { stack = s; file = at.file.number; offset = t.span.start } in p) is.stack

continued_same : (first : Place) (n : ℕ) (face : List Event) (r : Result)
    (going other : ℕ → Reading (Unit {0})) → ((own : ℕ) → going own ≡ other own)
    → with_episode first n face r going ≡ with_episode first n face r other
continued_same first n face (expands given unread) going other same =
    ap (λ (x : Reading (Unit {0})). continued
    (record { place = first; face = face; gives = given } ∷ []) x) (same (n - unread))
continued_same first n face (fails why) going other same = refl

episodes_same : (origin : Origin) (at : Entered) → IsOriginOf origin at → (ends : RunEnd)
    (macros : List ℕ → Macro) (own : ℕ) (tokens : List PpTok)
    → episodes (entered origin) ends macros own tokens ≡ episodes at ends macros own tokens
episodes_same origin at is ends macros own [] = refl
episodes_same origin at is ends macros (suc own) (t ∷ tokens) =
    episodes_same origin at is ends macros own tokens
episodes_same origin at is ends macros zero (t ∷ tokens) =
    let e : Episode = episode ends (t ∷ tokens) 0 macros in
    continued_same (place_of (entered origin) t) (length tokens) e.face e.result
    (λ own. episodes (entered origin) ends macros own tokens)
    (λ own. episodes at ends macros own tokens)
    (λ own. episodes_same origin at is ends macros own tokens)
    ∙ ap (λ (p : Place). with_episode p (length tokens) e.face e.result
    (λ own. episodes at ends macros own tokens)) (place_same origin at is t)

-- a text reads the same wherever it is said to stand
pub reads_same : (origin : Origin) (at : Entered) → IsOriginOf origin at → (ends : RunEnd)
    (macros : List Bool → List ℕ → Macro) (run : List PpTok)
    → reads origin ends macros run ≡ (λ values. episodes at ends (macros values) 0 run)
reads_same origin at is ends macros run =
    λ k values. episodes_same origin at is ends (macros values) 0 run k

------ all positions

-- a text is expanded up to this position, by the macros of a former store
pub record IsExpanding (old now : Diagram) (whole : Cond) (origin : Origin) (ends : RunEnd)
    (table : MacroTable) (run : List PpTok) (at : ℕ) (given : List Given) (reached : List Cond)
    (refused : List Failing) : Type 0 where
  pub keeps : Keeps old now
  pub within : at ≤ length run
  pub walk : IsWalk now whole origin ends (meaning_in old table) run at given reached refused

-- one position more
pub expanding_more : (old now new : Diagram) (whole : Cond) (origin : Origin) (ends : RunEnd)
    (table : MacroTable) (run : List PpTok) (at : ℕ) (given more : List Given)
    (reached after : List Cond) (refused failing : List Failing)
    → IsTableOf old table
    → IsExpanding old now whole origin ends table run at given reached refused
    → at < length run → Keeps now new
    → IsWalk new whole origin ends (meaning_in now table) run (at + 1) more after failing
    → IsExpanding old new whole origin ends table run (at + 1) more after failing
expanding_more old now new whole origin ends table run at given more reached after refused failing t
    e within keeps w =
    record {
      keeps = Keeps-trans e.keeps keeps;
      within = omega (arith, within);
      walk = subst (λ (m : List Bool → List ℕ → Macro).
          IsWalk new whole origin ends m run (at + 1) more after failing)
          (all_macros e.keeps table t) w;
    }

-- the walk by the present store
pub walk_now : (old now : Diagram) (whole : Cond) (origin : Origin) (ends : RunEnd)
    (table : MacroTable) (run : List PpTok) (at : ℕ) (given : List Given)
    (reached : List Cond) (refused : List Failing) → IsTableOf old table
    → IsExpanding old now whole origin ends table run at given reached refused
    → IsWalk now whole origin ends (meaning_in now table) run at given reached refused
walk_now old now whole origin ends table run at given reached refused t e =
    subst (λ (m : List Bool → List ℕ → Macro).
    IsWalk now whole origin ends m run at given reached refused)
    (sym (all_macros e.keeps table t)) e.walk

------ one position

-- the outcomes of a position are pending
pub turn_first : (old new : Diagram) (whole : Cond) (origin : Origin) (ends : RunEnd)
    (table : MacroTable) (run : List PpTok) (at : ℕ) (t : PpTok) (place : Place) (c : Cond)
    (outcomes : List Outcome) (given : List Given) (reached : List Cond) (refused : List Failing)
    → Keeps old new → IsTableOf old table
    → IsWalk old whole origin ends (meaning_in old table) run at given reached refused
    → at < length run → t ≡ get_or run at t → c ≡ get_or reached at c
    → ((at : Entered) → IsOriginOf origin at → place ≡ place_of at t)
    → AreOutcomes new table ends run at c outcomes
    → IsTurn new whole origin ends (meaning_in new table) run at place (HasNumber new outcomes)
    given (conditions outcomes) reached refused
turn_first old new whole origin ends table run at t place c outcomes given reached refused keeps is w
    within t_is c_is stands a =
    turn_start old new whole origin ends (meaning_in new table) run at t place c
    (HasNumber new outcomes) table outcomes given reached refused keeps
    (subst (λ (m : List Bool → List ℕ → Macro). IsWalk old whole origin ends m run at given reached
    refused) (sym (all_macros keeps table is)) w)
    within t_is c_is (stands (entered origin) (record { file = refl; stack = refl })) a

-- and are all sorted
pub turn_last : (old new now : Diagram) (whole : Cond) (origin : Origin) (ends : RunEnd)
    (table : MacroTable) (run : List PpTok) (at : ℕ) (place : Place)
    (Number : List Bool → ℕ → Type 0) (given : List Given) (reached : List Cond)
    (refused : List Failing) → Keeps old new → IsTableOf old table
    → IsTurn now whole origin ends (meaning_in new table) run at place Number given [] reached
    refused
    → IsWalk now whole origin ends (meaning_in old table) run (at + 1) given reached refused
turn_last old new now whole origin ends table run at place Number given reached refused keeps is t =
    subst (λ (m : List Bool → List ℕ → Macro). IsWalk now whole origin ends m run (at + 1) given
    reached refused) (all_macros keeps table is)
    (walk_next now whole origin ends (meaning_in new table) run at place Number given reached
    refused t)

------ the whole text

pub expanding_start : (d : Diagram) (whole : Cond) (origin : Origin) (ends : RunEnd)
    (table : MacroTable) (run : List PpTok) (len : ℕ) (given : List Given) (reached : List Cond)
    (refused : List Failing) → IsNode d whole
    → (never : Cond) × IsNode d never × ((values : List Bool) → holds d never values ≡ false)
    × (reached ≡ slice_set (replicate (len + 1) never) 0 whole)
    → len ≡ length run → given ≡ [] → refused ≡ []
    → IsExpanding d d whole origin ends table run 0 given reached refused
expanding_start d whole origin ends table run len given reached refused node never long no_given
    no_refused =
    record {
      keeps = Keeps-refl d;
      within = omega arith;
      walk = walk_start d whole never.0 origin ends (meaning_in d table) run len given reached refused
          node never.1 never.2 long never.3 no_given no_refused;
    }

pub expanding_end : (old now : Diagram) (whole : Cond) (origin : Origin) (ends : RunEnd)
    (table : MacroTable) (run : List PpTok) (at : ℕ) (came : Came (Unit {0}))
    (given : List Given) (reached : List Cond) (refused : List Failing)
    → IsExpanding old now whole origin ends table run at given reached refused
    → length run ≤ at → came.given ≡ given → came.failing ≡ refused
    → ((x : Cond) → came.good ≡ slice_index_or reached (length reached - 1) x)
    → IsTextRead now whole run (reads origin ends (meaning_in old table) run) came
expanding_end old now whole origin ends table run at came given reached refused e all given_is
    failing_is good_is =
    walk_end now whole origin ends (meaning_in old table) run at came given reached refused e.walk
    (let l = e.within in omega arith) all given_is failing_is good_is

pub expanding_fails : (old now new : Diagram) (whole : Cond) (origin : Origin) (ends : RunEnd)
    (table : MacroTable) (run : List PpTok) (place : Place) (conds : List Cond)
    → Keeps old now → IsTableOf old table
    → (AreApart run → HasTooMany new whole (reads origin ends (meaning_in now table) run) place conds)
    → AreApart run → HasTooMany new whole (reads origin ends (meaning_in old table) run) place conds
expanding_fails old now new whole origin ends table run place conds keeps t many apart =
    subst (λ (m : List Bool → List ℕ → Macro). HasTooMany new whole (reads origin ends m run) place
    conds) (all_macros keeps table t) (many apart)
