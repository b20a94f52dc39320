-- What a controlling line comes to under all configurations: a step, and where it is true.
use Rattle.std.proofs.Common.{◌≡◌, ◌≤◌, ◌+◌, ◌&&◌, ℕ, Bool, true, false, not, cond, List, [], ◌∷◌, Option, None, Some, refl, sym, ap, ◌∙◌, subst, inl, inr, arith, zero-add}
use Rattle.std.specs.Prelude.{All}
use Rattle.std.proofs.lemmas.Bool.{and_from, and_left, and_parts, both_ways, cases_lt, false_from_ne_true, not-true, or_parts, true_from_ne_false}
use Rattle.std.proofs.lemmas.List.Elements.{All-cons, All-nil}
use Rattle.std.proofs.lemmas.List.Sums.{sum_by-cons}
use Rattle.hv_base.specs.declared.place.Place.{Place}
use Rattle.hv_base.specs.declared.why.Why.TheVariants.{BadDirective}
use Rattle.hv_cond.specs.Diagram.{Diagram, IsNode, Keeps, holds, node}
use Rattle.hv_cond.specs.Laws.{Keeps-trans, holds-falsity}
use Rattle.hv_cond.specs.Parts.{count_satisfied}
use Rattle.hv_cond.specs.declared.conditions.Cond.{Cond}
use Rattle.hv_cond.specs.declared.conditions.Node.TheVariants.{Falsity}
use Rattle.hv_given.specs.Given.{AreEpisodes}
use Rattle.hv_given.specs.declared.given.Given.{Given}
use Rattle.hv_macros.specs.Table.{meaning_in}
use Rattle.hv_macros.specs.declared.tables.MacroTable.{MacroTable}
use Rattle.hv_plain.specs.declared.episode.RunEnd.TheVariants.{Line}
use Rattle.hv_plain.specs.episode.Episode.{episode}
use Rattle.hv_plain.specs.episode.Expansion.{Episode, Result, expands, fails}
use Rattle.hv_plain.specs.episode.Tokens.{is_identifier}
use Rattle.hv_plainpp.specs.Expressions.{truth_of}
use Rattle.hv_plainpp.specs.Files.{Entered, place_of}
use Rattle.hv_plainpp.specs.Groups.{expression_truth, is_defined, judged, line_truth, name_truth}
use Rattle.hv_plainpp.specs.Reading.{Ending, Met, Reading, and_then, reaches, reading, refusal}
use Rattle.hv_preproc.proofs.Chaining.{and_then-assoc}
use Rattle.hv_preproc.proofs.Kept.{meanings_kept}
use Rattle.hv_preproc.proofs.KeyOrder.{IsBefore-lower}
use Rattle.hv_preproc.proofs.Later.{nothing_reads, reads_later}
use Rattle.hv_preproc.specs.declared.unit.Unit.{Unit as UnitSoFar}
use Rattle.hv_preproc.specs.working.Coming.{Comes, IsPartIn}
use Rattle.hv_preproc.specs.working.Keys.{IsBefore, IsUntil, Rises, key, reached}
use Rattle.hv_preproc.specs.working.Parts.{AreTruths, keeping}
use Rattle.hv_preproc.specs.working.Taking.{TakesIn, any_holds}
use Rattle.hv_preproc.specs.working.Walk.{IsSound, IsUnit, Part, Reads}
use Rattle.hv_texts.specs.Readings.{AreByFace, AreFew, AreMet, AreWithin, Ends, HasTruth}
use Rattle.hv_texts.specs.declared.came.Truths.{Truths}
use Rattle.hv_texts.specs.declared.origin.Origin.{Origin}
use Rattle.hv_toks.specs.Division.{Divides, conditions}
use Rattle.hv_toks.specs.Macro.{Macro}
use Rattle.hv_toks.specs.MacroState.{Entry, meaning_of}
use Rattle.hv_toks.specs.declared.parted.Failing.{Failing}
use Rattle.hv_toks.specs.declared.token.PpTok.{PpTok}

------ where a line stands

-- a file in which the tokens of an origin stand
abbrev pub entered : Origin → Entered
entered origin = record {
  file = record { number = origin.file; name = []; bytes = [] };
  stack = origin.stack;
}

-- an offset is reached from a lower one, or from itself
pub reached_until : (at : Entered) (low high : ℕ) → low ≤ high
    → IsUntil (reached at low) (reached at high)
reached_until at low high l = elim (cases_lt low high) [
  | inl less ↦ inr (IsBefore-lower at.stack low high [] less)
  | inr more ↦ inl (ap (reached at) (omega arith))
]

-- tokens rise from a lower bound to a higher one
pub Rises-until : (low high : ℕ) (line : List PpTok) → Rises low high line → low ≤ high
Rises-until low high [] r = r
Rises-until low high (t ∷ line) r =
    let more : t.span.start + 1 ≤ high = Rises-until (t.span.start + 1) high line r.1 in
    let first : low ≤ t.span.start = r.0 in
    omega arith

-- the end of a line, after its episode, meets no other one
judged_met : (hash : Place) (o : Option Bool) → (judged hash o).met ≡ []
judged_met hash None = refl
judged_met hash (Some truth) = refl

line_met : (hash first : Place) (r : Result) → (line_truth hash first r).met ≡ []
line_met hash first (fails why) = refl
line_met hash first (expands given unread) = judged_met hash (truth_of given)

-- an episode is met between two offsets of a file
abbrev IsMetWithin : Entered → (low high : ℕ) → Met → Type 0
IsMetWithin at low high m =
    IsUntil (reached at low) (key m.place) × IsBefore (key m.place) (reached at high)

-- those of an expression stand on its line
pub on_line : (at : Entered) (low high : ℕ) (line : List PpTok) → Rises low high line
    → (hash : Place) (macros : List ℕ → Macro)
    → All (λ (m : Met). IsUntil (reached at low) (key m.place)
    × IsBefore (key m.place) (reached at high)) (expression_truth at macros hash line).met
on_line at low high [] r hash macros = All-nil (IsMetWithin at low high)
on_line at low high (t ∷ line) r hash macros =
    let more : t.span.start + 1 ≤ high = Rises-until (t.span.start + 1) high line r.1 in
    let e : Episode = episode Line (t ∷ line) 0 macros in
    All-cons (IsMetWithin at low high) (record { place = place_of at t; face = e.face; gives = [] })
    (line_truth hash (place_of at t) e.result).met (
      reached_until at low t.span.start r.0,
      IsBefore-lower at.stack t.span.start high [] (omega arith),
    )
    (subst (λ (ms : List Met). All (IsMetWithin at low high) ms)
    (sym (line_met hash (place_of at t) e.result)) (All-nil (IsMetWithin at low high)))

either_met : (b : Bool) (r s : Reading Bool) → r.met ≡ [] → s.met ≡ []
    → (elim b as (λ _. Reading Bool) [ true ↦ r | false ↦ s ]).met ≡ []
either_met true r s p q = p
either_met false r s p q = q

-- a name is asked without an episode
pub name_met : (macros : List ℕ → Macro) (hash : Place) (line : List PpTok)
    → (name_truth macros hash line).met ≡ []
name_met macros hash [] = refl
name_met macros hash (t ∷ line) = either_met (is_identifier t.kind)
    (reading (is_defined (macros t.text))) (refusal BadDirective hash) refl refl

------ what came of a line

-- what came of an expression between two offsets
pub expression_comes : (mid came : Diagram) (table : MacroTable) (own good : Cond)
    (given : List Given) (failing : List Failing) (truths : Truths) (at : Entered) (low high : ℕ)
    (hash : Place) (line : List PpTok) → Rises low high line
    → AreMet came own given
    (λ values. expression_truth at (meaning_in mid table values) hash line)
    → AreByFace came own given
    (λ values. expression_truth at (meaning_in mid table values) hash line)
    → AreFew given
    → Ends came own good failing (HasTruth came truths)
    (λ values. expression_truth at (meaning_in mid table values) hash line)
    → Comes mid came table own good given failing (HasTruth came truths)
    (λ macros. expression_truth at macros hash line) (reached at low) (reached at high)
expression_comes mid came table own good given failing truths at low high hash line rises met faces
    few ends = record {
      met = met;
      faces = faces;
      few = few;
      ends = ends;
      between = λ macros. on_line at low high line rises hash macros;
    }

no_episodes : (met : List Met) → met ≡ [] → AreEpisodes [] met
no_episodes met e = subst (λ (ms : List Met). AreEpisodes [] ms) (sym e) tt

none_met : (mid came : Diagram) (table : MacroTable) (own good : Cond) (failing : List Failing)
    (truths : Truths) (here there : List ℕ) (hash : Place) (line : List PpTok)
    → Ends came own good failing (HasTruth came truths)
    (λ values. name_truth (meaning_in mid table values) hash line)
    → Comes mid came table own good [] failing (HasTruth came truths)
    (λ macros. name_truth macros hash line) here there
none_met mid came table own good failing truths here there hash line ends = record {
  met = record {
    nodes = tt;
    there = λ values e. no_episodes (name_truth (meaning_in mid table values) hash line).met
        (name_met (meaning_in mid table values) hash line);
    elsewhere = λ values e. refl;
  };
  faces = λ values others p q. All-nil _;
  few = All-nil (λ (g : Given). _);
  ends = ends;
  between = λ macros. subst (λ (ms : List Met). All (λ (m : Met). IsUntil here (key m.place)
      × IsBefore (key m.place) there) ms) (sym (name_met macros hash line)) (All-nil _);
}

-- what came of a name, between any two places
pub name_comes : (mid came : Diagram) (table : MacroTable) (own good : Cond)
    (given : List Given) (failing : List Failing) (truths : Truths) (here there : List ℕ)
    (hash : Place) (line : List PpTok) → given ≡ []
    → Ends came own good failing (HasTruth came truths)
    (λ values. name_truth (meaning_in mid table values) hash line)
    → Comes mid came table own good given failing (HasTruth came truths)
    (λ macros. name_truth macros hash line) here there
name_comes mid came table own good given failing truths here there hash line none ends =
    subst (λ (gs : List Given). Comes mid came table own good gs failing (HasTruth came truths)
    (λ macros. name_truth macros hash line) here there) (sym none)
    (none_met mid came table own good failing truths here there hash line ends)

-- a line is asked in the live configurations of a condition
pub asked_part : (old mid : Diagram) (live within own : Cond) (read : (List ℕ → Macro) → Reading
    Bool)
    → ((values : List Bool) → holds mid own values
    ≡ (holds old within values && holds old live values))
    → IsPartIn old mid live within own read (λ values macros. keeping (read (meaning_of macros))
    macros)
asked_part old mid live within own read means = record {
  inside = λ values e. and_parts (holds old within values) (holds old live values)
      (sym (means values) ∙ e);
  read_there = λ values macros e. refl;
  nothing_else = λ values macros e w l. absurd (both_ways (holds mid own values) e
      (means values ∙ and_from (holds old within values) (holds old live values) w l));
}

------ where nothing is asked

-- where a condition is falsity no configuration of the other one lives
lives_nowhere : (old mid : Diagram) (live within own : Cond)
    → ((values : List Bool) → holds mid own values
    ≡ (holds old within values && holds old live values))
    → node mid own ≡ Falsity
    → (values : List Bool) → holds old within values ≡ true → holds old live values ≡ true → ⊥
lives_nowhere old mid live within own means never values w l =
    both_ways (holds mid own values) (holds-falsity mid own never values)
    (means values ∙ and_from (holds old within values) (holds old live values) w l)

-- the step of a line that is asked nowhere
pub nothing_asked : (old mid : Diagram) (before : UnitSoFar) (within own : Cond) (part : Part)
    (at : Entered) (low high : ℕ) (line : List PpTok) → Rises low high line → Keeps old mid
    → IsSound old before (reached at low)
    → ((values : List Bool) → holds mid own values
    ≡ (holds old within values && holds old before.live values))
    → node mid own ≡ Falsity
    → Reads old mid before before (reached at low) (reached at high) within part
nothing_asked old mid before within own part at low high line rises keeps sound means never =
    reads_later old mid before before (reached at low) (reached at low) (reached at low)
    (reached at high) within part (inl refl)
    (reached_until at low high (Rises-until low high line rises))
    (nothing_reads old mid before (reached at low) within part keeps sound
    (λ values macros w l same.
    absurd (lives_nowhere old mid before.live within own means never values w l)))

pub truths_nowhere : (old mid : Diagram) (live within own : Cond)
    (read : List Bool → Reading Bool) → Keeps old mid → IsNode old live → IsNode mid own
    → ((values : List Bool) → holds mid own values
    ≡ (holds old within values && holds old live values))
    → node mid own ≡ Falsity
    → AreTruths old mid live within (record { holds = own; fails = own }) read
truths_nowhere old mid live within own read keeps is_live is_node means never = record {
  within = record {
    holds_node = is_node;
    fails_node = is_node;
    outside = λ values e. (holds-falsity mid own never values, holds-falsity mid own never values);
  };
  apart = λ values e. holds-falsity mid own never values;
  there = λ values w l. absurd (lives_nowhere old mid live within own means never values w
      (sym (keeps.meaning live is_live values) ∙ l));
}

------ where a line is true

-- a good configuration is one of those that were divided
good_within : (d : Diagram) (own good : Cond) (failing : List Failing)
    → Divides d own good failing → (values : List Bool) → holds d good values ≡ true
    → holds d own values ≡ true
good_within d own good failing divides values h =
    split (holds d good values) (holds d own values)
    (count_satisfied d (conditions failing) values)
    (sym (sum_by-cons (λ (x : Cond). cond (holds d x values) 1 0) good (conditions failing))
    ∙ divides.one values) h
  where
    split : (g o : Bool) (n : ℕ) → cond g 1 0 + n ≡ cond o 1 0 → g ≡ true → o ≡ true
    split g true n e h = refl
    split true false n e h = absurd (omega arith)
    split false false n e h = h

none_counted : (d : Diagram) (failing : List Failing) (values : List Bool)
    → any_holds d failing values ≡ false
    → count_satisfied d (conditions failing) values ≡ 0
none_counted d [] values e = refl
none_counted d (f ∷ failing) values e =
    let parts = or_parts (holds d f.cond values) (any_holds d failing values) e in
    sum_by-cons (λ (x : Cond). cond (holds d x values) 1 0) f.cond (conditions failing)
    ∙ ap (λ (b : Bool). cond b 1 0 + count_satisfied d (conditions failing) values) parts.0
    ∙ zero-add (count_satisfied d (conditions failing) values)
    ∙ none_counted d failing values parts.1

-- one of them that isn't refused is good
good_unless : (d : Diagram) (own good : Cond) (failing : List Failing)
    → Divides d own good failing → (values : List Bool) → holds d own values ≡ true
    → any_holds d failing values ≡ false → holds d good values ≡ true
good_unless d own good failing divides values h none =
    split (holds d good values) (holds d own values)
    (count_satisfied d (conditions failing) values)
    (sym (sum_by-cons (λ (x : Cond). cond (holds d x values) 1 0) good (conditions failing))
    ∙ divides.one values) (none_counted d failing values none) h
  where
    split : (g o : Bool) (n : ℕ) → cond g 1 0 + n ≡ cond o 1 0 → n ≡ 0 → o ≡ true → g ≡ true
    split true o n e z h = refl
    split false true n e z h = absurd (omega arith)
    split false false n e z h = h

-- where a line is true that was asked in the live configurations of a condition
pub truths_come : (old mid came new : Diagram) (before now : UnitSoFar) (within own good : Cond)
    (given : List Given) (failing : List Failing) (truths : Truths)
    (read : (List ℕ → Macro) → Reading Bool)
    → Keeps old mid → Keeps mid came → Keeps came new → IsUnit old before → IsNode old within
    → IsNode mid own
    → ((values : List Bool) → holds mid own values
    ≡ (holds old within values && holds old before.live values))
    → Ends came own good failing (HasTruth came truths)
    (λ values. read (meaning_in mid before.table values))
    → AreWithin came good truths → TakesIn came new before now given failing
    → AreTruths old new now.live within truths (λ values. read (meaning_in old before.table values))
truths_come old mid came new before now within own good given failing truths read to_mid from_mid
    to_new unit is_within is_own means ends inside taken = record {
      within = record {
        holds_node = to_new.stays truths.holds inside.holds_node;
        fails_node = to_new.stays truths.fails inside.fails_node;
        outside = λ values e.
            let out : holds old within values ≡ false =
            sym ((Keeps-trans to_mid (Keeps-trans from_mid to_new)).meaning within is_within values)
            ∙ e in
            let no_own : holds came own values ≡ false = from_mid.meaning own is_own values
            ∙ means values
            ∙ and_left (holds old within values) (holds old before.live values) out in
            let no_good : holds came good values ≡ false =
            false_from_ne_true (holds came good values) (λ g. both_ways (holds came own values)
            no_own (good_within came own good failing ends.divides values g)) in
            let none = inside.outside values no_good in (
              to_new.meaning truths.holds inside.holds_node values ∙ none.0,
              to_new.meaning truths.fails inside.fails_node values ∙ none.1,
            );
      };
      apart = λ values e.
          let is : holds came truths.holds values ≡ true =
          sym (to_new.meaning truths.holds inside.holds_node values) ∙ e in
          let r = ends.right values (true_from_ne_false (holds came good values) (λ no.
          both_ways (holds came truths.holds values) (inside.outside values no).0 is)) in
          to_new.meaning truths.fails inside.fails_node values ∙ r.2.1
          ∙ ap not (sym r.2.0 ∙ is);
      there = λ values w l.
          let parts = and_parts (holds came before.live values) (not (any_holds came failing
          values))
          (sym (taken.lives values) ∙ l) in
          let lives : holds old before.live values ≡ true =
          sym ((Keeps-trans to_mid from_mid).meaning before.live unit.live values) ∙ parts.0 in
          let is_asked : holds came own values ≡ true = from_mid.meaning own is_own values
          ∙ means values
          ∙ and_from (holds old within values) (holds old before.live values) w lives in
          let r = ends.right values (good_unless came own good failing ends.divides values is_asked
          (not-true (any_holds came failing values) parts.1)) in (
            r.0,
            ap (λ (m : List ℕ → Macro). (read m).ending)
                (sym (meanings_kept to_mid before.table unit.table values)) ∙ r.1,
            (
              to_new.meaning truths.holds inside.holds_node values ∙ r.2.0,
              to_new.meaning truths.fails inside.fails_node values ∙ r.2.1,
            ),
          );
    }

------ the opposite question

-- what is read after a reading that comes to a value ends as it does from that value on
pub ends_then : {A B : Type 0} (r : Reading A) (value : A) (next : A → Reading B)
    → r.ending ≡ reaches value → (and_then r next).ending ≡ (next value).ending
ends_then r value next e =
    ap (λ (o : Ending _). (and_then (record { met = r.met; ending = o }) next).ending) e

not-not : (b : Bool) → b ≡ not (not b)
not-not true = refl
not-not false = refl

pub truths_opposite : (old new : Diagram) (live within : Cond) (truths : Truths)
    (read : List Bool → Reading Bool) → AreTruths old new live within truths read
    → AreTruths old new live within (record { holds = truths.fails; fails = truths.holds })
    (λ values. and_then (read values) (λ truth. reading (not truth)))
truths_opposite old new live within truths read r = record {
  within = record {
    holds_node = r.within.fails_node;
    fails_node = r.within.holds_node;
    outside = λ values e. let none = r.within.outside values e in (none.1, none.0);
  };
  apart = λ values e. false_from_ne_true (holds new truths.holds values)
      (λ h. both_ways (holds new truths.fails values) (r.apart values h) e);
  there = λ values w l.
      let t = r.there values w l in (
        not t.0,
        ends_then (read values) t.0 (λ truth. reading (not truth)) t.1,
        (t.2.1, t.2.0 ∙ not-not t.0),
      );
}

-- it keeps what the question keeps
pub opposite_keeps : (r : Reading Bool) (macros : List Entry)
    → keeping r macros ≡ keeping (and_then r (λ truth. reading (not truth))) macros
opposite_keeps r macros =
    sym (and_then-assoc r (λ truth. reading (not truth)) (λ truth. reading macros))
