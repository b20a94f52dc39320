-- The outcomes of a controlling line are judged.
use Rattle.std.proofs.Common.{◌≡◌, ◌+◌, ◌<◌, ◌≤◌, ◌||◌, ◌⊎◌, inl, inr, ℕ, zero, suc, Bool, true, false, List, [], ◌∷◌, ◌++◌, refl, sym, ◌∙◌, ap, subst, arith, Option, Some, None}
use Rattle.std.specs.Prelude.{Contains, slice_get, slice_index_or}
use Rattle.std.proofs.lemmas.Bool.{both_ways, or_cases}
use Rattle.std.proofs.lemmas.List.{append_assoc}
use Rattle.std.proofs.lemmas.List.Elements.{All-push}
use Rattle.hv_base.specs.declared.limits.TheConstants.{MOST_FACES}
use Rattle.hv_base.specs.declared.place.Place.{Place}
use Rattle.hv_base.specs.declared.why.Why.TheVariants.{BadCondition}
use Rattle.hv_cond.specs.Diagram.{Diagram, IsNode, Keeps, holds}
use Rattle.hv_cond.specs.Laws.{Keeps-refl, Keeps-trans}
use Rattle.hv_cond.specs.Parts.{count_satisfied}
use Rattle.hv_cond.specs.declared.conditions.Cond.{Cond}
use Rattle.hv_expand.specs.Outcomes.{HaveOneFace, IfTooMany, IsResult, conditions}
use Rattle.hv_expand.specs.declared.outcome.ExpandFault.{ExpandFault}
use Rattle.hv_expand.specs.declared.outcome.ExpandFault.TheVariants as expand_fault
use Rattle.hv_expand.specs.declared.outcome.Expanded.{Expanded}
use Rattle.hv_expand.specs.declared.outcome.Expanded.TheVariants.{Tokens, Fails}
use Rattle.hv_expand.specs.declared.outcome.Outcome.{Outcome}
use Rattle.hv_faces.specs.Faces.{AreTooMany}
use Rattle.hv_given.specs.declared.given.Given.{Given}
use Rattle.hv_macros.specs.Table.{meaning_in}
use Rattle.hv_macros.specs.declared.tables.MacroTable.{MacroTable}
use Rattle.hv_plain.specs.declared.episode.RunEnd.TheVariants.{Line}
use Rattle.hv_plain.specs.episode.Episode.{episode}
use Rattle.hv_plain.specs.episode.Expansion.{Episode, Event, Result, expands, fails}
use Rattle.hv_plainpp.specs.Expressions.{truth_of}
use Rattle.hv_plainpp.specs.Files.{Entered, place_of}
use Rattle.hv_plainpp.specs.Groups.{expression_truth, judged, line_truth, met_on_line}
use Rattle.hv_plainpp.specs.Plainpp.{HasFace}
use Rattle.hv_plainpp.specs.Reading.{Met, Reading, continued, reaches, refusal}
use Rattle.hv_texts.proofs.Counting.{bit, count_cons, if_at_most, none_if}
use Rattle.hv_texts.proofs.Excess.{has_too_many}
use Rattle.hv_texts.proofs.Numbers.{its_few, its_node, its_right, once, own_number}
use Rattle.hv_texts.proofs.Sorting.{are_met, divides, refused_so, sorted_kept}
use Rattle.hv_texts.proofs.Facing.{faced_kept}
use Rattle.hv_texts.proofs.Stepping.{IsComing, faced_step, sorted_step}
use Rattle.hv_texts.specs.Faces.{HasTooMany}
use Rattle.hv_texts.specs.Readings.{AreByFace, AreFew, AreMet, AreWithin, Ends, HasTruth}
use Rattle.hv_texts.specs.declared.came.Came.{Came}
use Rattle.hv_texts.specs.declared.came.Found.{Found}
use Rattle.hv_texts.specs.declared.came.Found.TheVariants as found
use Rattle.hv_texts.specs.declared.came.TooMany.{TooMany}
use Rattle.hv_texts.specs.declared.came.Truths.{Truths}
use Rattle.hv_texts.specs.working.Sorting.{IsMoved, IsSorted, left}
use Rattle.hv_texts.specs.working.Steps.{AreOutcomes, HasNumber, IfFound, IsFaultAt, IsJudging, IsLineRead, IsRead, entry, line_reads, truth_left, way_of_truth, way_on_line}
use Rattle.hv_toks.specs.Macro.{Macro}
use Rattle.hv_toks.specs.Spelled.{Spelled, all_spelled}
use Rattle.hv_toks.specs.declared.parted.Failing.{Failing}
use Rattle.hv_toks.specs.declared.token.PpTok.{PpTok}

-- what is left of a line, by its truth
truth_goes : (hash : Place) (truth : Option Bool) (values : List Bool)
    → judged hash truth ≡ left truth_left (way_of_truth hash truth) values
truth_goes hash (Some true) values = refl
truth_goes hash (Some false) values = refl
truth_goes hash None values = refl

-- and by an outcome
line_goes : (hash place : Place) (x : Expanded) (r : Result) → IsResult x r → (values : List Bool)
    → line_truth hash place r ≡ left truth_left (way_on_line hash place x) values
line_goes hash place (Tokens tokens) (expands given unread) is values =
    ap (λ (ss : List Spelled). judged hash (truth_of ss)) (sym is)
    ∙ truth_goes hash (truth_of (all_spelled tokens)) values
line_goes hash place (Tokens tokens) (fails why) is values = absurd is
line_goes hash place (Fails why) (expands given unread) is values = absurd is
line_goes hash place (Fails why) (fails cause) is values =
    ap (λ w. let x : Reading Bool = refusal w place in x) (sym is)

-- how far the outcomes of a line are judged: some are done
pub record IsJudgingOn (old now : Diagram) (whole : Cond) (hash place : Place) (table : MacroTable)
    (run : List PpTok) (outcomes : List Outcome) (given : List Given) (pending : List Outcome)
    (truths : Truths) (refused : List Failing) : Type 0 where
  pub keeps : Keeps old now
  pub done : List Outcome
  pub is : outcomes ≡ done ++ pending
  pub judging : IsJudging now whole hash place (meaning_in old table) run (HasNumber old outcomes)
      given (conditions pending) truths refused

pub judging_start : (d : Diagram) (whole : Cond) (hash place : Place) (table : MacroTable)
    (run : List PpTok) (outcomes queue : List Outcome) (given : List Given)
    (truths : Truths) (refused : List Failing) → queue ≡ outcomes
    → IsJudging d whole hash place (meaning_in d table) run (HasNumber d outcomes)
    given (conditions outcomes) truths refused
    → IsJudgingOn d d whole hash place table run outcomes given queue truths refused
judging_start d whole hash place table run outcomes queue given truths refused e j =
    record {
      keeps = Keeps-refl d;
      done = [];
      is = sym e;
      judging = subst (λ (os : List Outcome). IsJudging d whole hash place (meaning_in d table) run
          (HasNumber d outcomes) given (conditions os) truths refused) (sym e) j;
    }

module _ (old now new : Diagram) (whole c : Cond) (hash place : Place)
    (table : MacroTable) (run : List PpTok) (outcomes : List Outcome) (given : List Given)
    (o : Outcome) (pending : List Outcome) (truths after : Truths)
    (refused failing : List Failing)
    (a : AreOutcomes old table Line run 0 c outcomes)
    (kept : Keeps old now) (keeps : Keeps now new) (done : List Outcome)
    (split : outcomes ≡ done ++ o ∷ pending)
    (at : IsJudging now whole hash place (meaning_in old table) run (HasNumber old outcomes)
    given (conditions (o ∷ pending)) truths refused)
    (move : IsMoved now new (truths.holds ∷ truths.fails ∷ []) (after.holds ∷ after.fails ∷ [])
    refused failing o.cond (way_on_line hash place o.result)) where
  abbrev reads_of : List Bool → Reading Bool
  reads_of = line_reads hash place (meaning_in old table) run

  abbrev face_of : List Bool → List Event
  face_of values = (episode Line run 0 (meaning_in old table values)).face

  there : (values : List Bool) → holds new o.cond values ≡ true
      → holds old o.cond values ≡ true
  there values h = sym ((Keeps-trans kept keeps).meaning o.cond
      (its_node old table Line run 0 c outcomes a done o pending split) values) ∙ h

  comes : (values : List Bool) → holds new o.cond values ≡ true
      → IsComing (entry place o []) (reads_of values)
      (left truth_left (way_on_line hash place o.result) values) (face_of values)
  comes values h =
      let right = its_right old table Line run 0 c outcomes a done o pending split values
      (there values h) in
      let e : Episode = episode Line run 0 (meaning_in old table values) in
      record {
        met = record { place = place; face = e.face; gives = [] };
        is_episode = record { place = refl; tokens = refl };
        reads = ap (λ (r : Reading Bool). continued (record
            { place = place; face = e.face; gives = [] } ∷ []) r)
            (line_goes hash place o.result e.result right.right values);
        same = refl;
      }

  judged_more : IsJudgingOn old new whole hash place table run outcomes
      (given ++ entry place o [] ∷ []) pending after failing
  judged_more = record {
    keeps = Keeps-trans kept keeps;
    done = done ++ o ∷ [];
    is = split ∙ sym (append_assoc done (o ∷ []) pending);
    judging = record {
      sorted = sorted_step keeps whole reads_of given o.cond (conditions pending) reads_of
          (truths.holds ∷ truths.fails ∷ []) (after.holds ∷ after.fails ∷ []) truth_left
          refused failing (way_on_line hash place o.result) (entry place o []) face_of at.sorted
          refl comes move;
      few = All-push (λ (h : Given). h.face < MOST_FACES) given (entry place o []) at.few
          (its_few old table Line run 0 c outcomes a done o pending split);
      faced = faced_step keeps whole reads_of given o.cond (conditions pending) reads_of
          (truths.holds ∷ truths.fails ∷ []) (after.holds ∷ after.fails ∷ []) truth_left
          refused failing (way_on_line hash place o.result) (entry place o []) face_of at.sorted
          refl comes place (HasNumber old outcomes) refl
          (once old table Line run 0 c outcomes a o)
          (λ values h. own_number old table Line run 0 c outcomes a done o pending split values
          (there values h)) at.faced;
    };
  }

pub judging_more : (old now new : Diagram) (whole c : Cond) (hash place : Place)
    (table : MacroTable) (run : List PpTok) (outcomes : List Outcome) (given : List Given)
    (o : Outcome) (pending before : List Outcome) (truths after : Truths)
    (refused failing : List Failing)
    → AreOutcomes old table Line run 0 c outcomes
    → IsJudgingOn old now whole hash place table run outcomes given before truths refused
    → before ≡ o ∷ pending → Keeps now new
    → IsMoved now new (truths.holds ∷ truths.fails ∷ []) (after.holds ∷ after.fails ∷ [])
    refused failing o.cond (way_on_line hash place o.result)
    → (more : List Given) → more ≡ given ++ entry place o [] ∷ []
    → IsJudgingOn old new whole hash place table run outcomes more pending after failing
judging_more old now new whole c hash place table run outcomes given o pending before truths after
    refused failing a j e keeps move more more_is =
    subst (λ (gs : List Given). IsJudgingOn old new whole hash place table run outcomes gs pending
    after failing) (sym more_is)
    (judged_more old now new whole c hash place table run outcomes given o pending truths after
    refused failing a j.keeps keeps j.done (j.is ∙ ap (λ (os : List Outcome). j.done ++ os) e)
    (subst (λ (os : List Outcome). IsJudging now whole hash place (meaning_in old table) run
    (HasNumber old outcomes) given (conditions os) truths refused) e j.judging) move)

------ the end

bit_or : (a b g : Bool) → g ≡ (a || b) → bit a + bit b ≤ 1 → bit g ≡ bit a + bit b
bit_or true true g e l = absurd (omega arith)
bit_or true false g e l = ap bit e ∙ omega arith
bit_or false b g e l = ap bit e ∙ omega arith

not_both : (a b : Bool) → bit a + bit b ≤ 1 → a ≡ true → b ≡ false
not_both true true l e = absurd (omega arith)
not_both true false l e = refl
not_both false b l e = absurd (both_ways false refl e)

module _ (now d : Diagram) (keeps : Keeps now d) (whole good : Cond) (hash place : Place)
    (macros : List Bool → List ℕ → Macro) (run : List PpTok) (Number : List Bool → ℕ → Type 0)
    (given : List Given) (truths : Truths) (refused : List Failing)
    (j : IsJudging now whole hash place macros run Number given [] truths refused)
    (node : IsNode d good)
    (meaning : (values : List Bool)
    → holds d good values ≡ (holds now truths.holds values || holds now truths.fails values)) where
  abbrev reads : List Bool → Reading Bool
  reads = line_reads hash place macros run

  s : IsSorted d whole reads given [] reads (truths.holds ∷ truths.fails ∷ []) truth_left refused
  s = sorted_kept keeps whole reads given [] reads (truths.holds ∷ truths.fails ∷ []) truth_left
      refused j.sorted

  one : (values : List Bool) → bit (holds d truths.holds values) + bit (holds d truths.fails values)
      ≡ count_satisfied d (truths.holds ∷ truths.fails ∷ []) values
  one values =
      let a = count_cons d truths.holds (truths.fails ∷ []) values in
      let b = count_cons d truths.fails [] values in
      omega arith

  most : (values : List Bool)
      → bit (holds d truths.holds values) + bit (holds d truths.fails values) ≤ 1
  most values =
      let sum = s.one values in
      let l = if_at_most (holds d whole values) _ sum in
      let e = one values in
      omega arith

  good_is : (values : List Bool)
      → holds d good values ≡ (holds d truths.holds values || holds d truths.fails values)
  good_is values = meaning values
      ∙ (ap (λ (b : Bool). b || holds now truths.fails values)
      (sym (keeps.meaning truths.holds j.sorted.slot_nodes.0 values))
      ∙ ap (λ (b : Bool). holds d truths.holds values || b)
      (sym (keeps.meaning truths.fails j.sorted.slot_nodes.1.0 values)))

  all : (values : List Bool) → bit (holds d good values)
      ≡ count_satisfied d (truths.holds ∷ truths.fails ∷ []) values
  all values = bit_or (holds d truths.holds values) (holds d truths.fails values)
      (holds d good values) (good_is values) (most values) ∙ one values

  told : (values : List Bool) → holds d good values ≡ true
      → (value : Bool) × ((reads values).ending ≡ reaches value) × HasTruth d truths values value
  told values h = which (or_cases (holds d truths.holds values) (holds d truths.fails values)
      (sym (good_is values) ∙ h))
    where
      which : (holds d truths.holds values ≡ true) ⊎ (holds d truths.fails values ≡ true)
          → (value : Bool) × ((reads values).ending ≡ reaches value)
          × HasTruth d truths values value
      which (inl e) = (
        true,
        (s.going 0 good (omega arith) values e).ends,
        (e, not_both (holds d truths.holds values) (holds d truths.fails values) (most values) e),
      )
      which (inr e) =
          let m = most values in (
            false,
            (s.going 1 good (omega arith) values e).ends,
            (not_both (holds d truths.fails values) (holds d truths.holds values) (omega arith) e, e),
          )

  pub line_read : IsRead d whole reads (HasTruth d truths) given good refused
  line_read = record {
    met = are_met d whole good reads given reads (truths.holds ∷ truths.fails ∷ []) truth_left
        refused s node all (λ k values. refl);
    few = j.few;
    faces = λ values others h k. (faced_kept given reads place Number
        (λ values. (episode Line run 0 (macros values)).face) keeps j.sorted.given_nodes
        j.faced).agree values others;
    ends = record {
      divides = divides d whole good reads given reads (truths.holds ∷ truths.fails ∷ []) truth_left
          refused s node all (λ k values. refl);
      right = told;
      refused_there = refused_so d whole good reads given reads
          (truths.holds ∷ truths.fails ∷ []) truth_left refused s node all (λ k values. refl);
    };
  }

  pub line_within : AreWithin d good truths
  line_within = record {
    holds_node = s.slot_nodes.0;
    fails_node = s.slot_nodes.1.0;
    outside = λ values h. (
      left_false (holds d truths.holds values) (holds d truths.fails values)
          (sym (good_is values) ∙ h),
      right_false (holds d truths.holds values) (holds d truths.fails values)
          (sym (good_is values) ∙ h),
    );
  }
    where
      left_false : (a b : Bool) → (a || b) ≡ false → a ≡ false
      left_false true b e = e
      left_false false b e = refl

      right_false : (a b : Bool) → (a || b) ≡ false → b ≡ false
      right_false true b e = absurd (both_ways true e refl)
      right_false false b e = e

-- the same of what came of the line
pub line_done : (now d : Diagram) → Keeps now d → (whole : Cond) (hash place : Place)
    (macros former : List Bool → List ℕ → Macro) → macros ≡ former → (run : List PpTok)
    (Number : List Bool → ℕ → Type 0) (given : List Given) (truths : Truths)
    (refused : List Failing) (came : Came Truths)
    → IsJudging now whole hash place macros run Number given [] truths refused
    → IsNode d came.good
    → ((values : List Bool) → holds d came.good values
    ≡ (holds now truths.holds values || holds now truths.fails values))
    → came.given ≡ given → came.value ≡ truths → came.failing ≡ refused
    → IsLineRead d whole (line_reads hash place former run) came
line_done now d keeps whole hash place macros former same run Number given truths refused came j node
    meaning given_is value_is failing_is =
    let now_read = line_read now d keeps whole came.good hash place macros run Number given truths
    refused j node meaning in
    record {
      is_read = subst (λ (m : List Bool → List ℕ → Macro). IsRead d whole
          (line_reads hash place m run) (HasTruth d came.value) came.given came.good came.failing)
          same
          (subst (λ (gs : List Given). IsRead d whole (line_reads hash place macros run)
          (HasTruth d came.value) gs came.good came.failing) (sym given_is)
          (subst (λ (fs : List Failing). IsRead d whole (line_reads hash place macros run)
          (HasTruth d came.value) given came.good fs) (sym failing_is)
          (subst (λ (t : Truths). IsRead d whole (line_reads hash place macros run)
          (HasTruth d t) given came.good refused) (sym value_is) now_read)));
      within = subst (λ (t : Truths). AreWithin d came.good t) (sym value_is)
          (line_within now d keeps whole came.good hash place macros run Number given truths
          refused j node meaning);
    }

-- the first of a list
pub first_of : (xs : List PpTok) (t : PpTok) → Some t ≡ slice_get xs 0
    → (rest : List PpTok) × (xs ≡ t ∷ rest)
first_of [] t e = absurd (is_none t e)
  where
    is_none : (t : PpTok) → Some t ≡ None → ⊥
    is_none t e = cc
first_of (u ∷ xs) t e = let same : t ≡ u = (cc) in (xs, ap (λ (x : PpTok). x ∷ xs) (sym same))

------ the start

two_never : (d : Diagram) (never : Cond) (values : List Bool) → holds d never values ≡ false
    → (k : ℕ) (x : Cond) → k < 2
    → holds d (slice_index_or (never ∷ never ∷ []) k x) values ≡ true → ⊥
two_never d never values e zero x l h = both_ways (holds d never values) e h
two_never d never values e (suc zero) x l h = both_ways (holds d never values) e h
two_never d never values e (suc (suc k)) x l h = omega arith

pub line_start : (d : Diagram) (c never : Cond) (hash place : Place) (table : MacroTable)
    (run : List PpTok) (outcomes : List Outcome) (given : List Given) (truths : Truths)
    (refused : List Failing)
    → AreOutcomes d table Line run 0 c outcomes → IsNode d c → IsNode d never
    → ((values : List Bool) → holds d never values ≡ false)
    → given ≡ [] → truths.holds ≡ never → truths.fails ≡ never → refused ≡ []
    → IsJudging d c hash place (meaning_in d table) run (HasNumber d outcomes)
    given (conditions outcomes) truths refused
line_start d c never hash place table run outcomes given truths refused a node never_node nowhere
    no_given holds_is fails_is no_refused =
    subst (λ (gs : List Given). IsJudging d c hash place (meaning_in d table) run
    (HasNumber d outcomes) gs (conditions outcomes) truths refused) (sym no_given)
    (subst (λ (fs : List Failing). IsJudging d c hash place (meaning_in d table) run
    (HasNumber d outcomes) [] (conditions outcomes) truths fs) (sym no_refused)
    (record {
      sorted = subst (λ (x : Cond). IsSorted d c (line_reads hash place (meaning_in d table) run) [] (conditions outcomes)
          (line_reads hash place (meaning_in d table) run)
          (x ∷ truths.fails ∷ []) truth_left []) (sym holds_is)
          (subst (λ (x : Cond). IsSorted d c (line_reads hash place (meaning_in d table) run) [] (conditions outcomes)
          (line_reads hash place (meaning_in d table) run)
          (never ∷ x ∷ []) truth_left []) (sym fails_is) start);
      few = λ k x l. absurd (omega arith);
      faced = record {
        agree = λ values others k x l. absurd (omega arith);
        here = λ values k x l. absurd (omega arith);
      };
    }))
  where
    start : IsSorted d c (line_reads hash place (meaning_in d table) run) [] (conditions outcomes)
        (line_reads hash place (meaning_in d table) run) (never ∷ never ∷ []) truth_left []
    start = record {
      node = node;
      given_nodes = tt;
      pending_nodes = a.parts.nodes;
      slot_nodes = (never_node, (never_node, tt));
      refusals = record { nodes = tt; none_false = tt; distinct = tt };
      one = λ values.
          let p = a.parts.one values in
          let x = count_cons d never (never ∷ []) values in
          let y = count_cons d never [] values in
          let z = none_if (holds d never values) (nowhere values) in
          omega arith;
      waiting = λ k x l values h. record { begun = refl; ends = refl };
      going = λ k x l values h. absurd (two_never d never values (nowhere values) k x l h);
      refused_there = λ values at why r. absurd r;
      elsewhere = λ values h. refl;
    }

------ too many faces

judged_met : (hash : Place) (truth : Option Bool) → (judged hash truth).met ≡ []
judged_met hash None = refl
judged_met hash (Some truth) = refl

line_met : (hash place : Place) (r : Result) → (line_truth hash place r).met ≡ []
line_met hash place (expands given unread) = judged_met hash (truth_of given)
line_met hash place (fails why) = refl

only_one : (m n : Met) → Contains (m ∷ []) n → m ≡ n
only_one m n (zero, l, e) = e
only_one m n (suc k, l, e) = absurd (omega arith)

module _ (hash place : Place) (macros : List Bool → List ℕ → Macro) (run : List PpTok)
    (values : List Bool) where
  abbrev the_episode : Met
  the_episode = record
      { place = place; face = (episode Line run 0 (macros values)).face; gives = [] }

  face_there : HasFace (line_reads hash place macros run values) place
      (episode Line run 0 (macros values)).face
  face_there = (the_episode, (0, omega arith, refl), refl, refl)

  face_only : (face : List Event) → HasFace (line_reads hash place macros run values) place face
      → face ≡ (episode Line run 0 (macros values)).face
  face_only face has =
      sym has.3 ∙ ap (λ (m : Met). m.face) (sym (only_one the_episode has.0
      (subst (λ (ms : List Met). Contains (the_episode ∷ ms) has.0)
      (line_met hash place (episode Line run 0 (macros values)).result) has.1)))

pub line_too_many : (old d : Diagram) (c : Cond) (hash place : Place) (table : MacroTable)
    (run : List PpTok) (conds : List Cond)
    → AreTooMany d c (HaveOneFace Line run 0 old table) conds
    → HasTooMany d c (line_reads hash place (meaning_in old table) run) place conds
line_too_many old d c hash place table run conds many =
    has_too_many d c c (line_reads hash place (meaning_in old table) run) place
    (HaveOneFace Line run 0 old table) conds many (λ values h. h)
    (λ values others h k both.
    sym (face_only hash place (meaning_in old table) run values both.0 both.1)
    ∙ face_only hash place (meaning_in old table) run others both.0 both.2)
    (λ values h. (
      (episode Line run 0 (meaning_in old table values)).face,
      face_there hash place (meaning_in old table) run values,
    ))

------ where it stands

-- a list without a first
pub none_of : (xs : List PpTok) → None ≡ slice_get xs 0 → xs ≡ []
none_of [] e = refl
none_of (u ∷ xs) e = absurd (is_some u e)
  where
    is_some : (u : PpTok) → None ≡ Some u → ⊥
    is_some u e = cc

pub line_same : (at : Entered) (hash place : Place) (macros : List Bool → List ℕ → Macro)
    (line : List PpTok) (t : PpTok) → Some t ≡ slice_get line 0 → place ≡ place_of at t
    → line_reads hash place macros line
    ≡ (λ values. expression_truth at (macros values) hash line)
line_same at hash place macros line t first stands =
    let begins = first_of line t first in
    subst (λ (xs : List PpTok). line_reads hash place macros xs
    ≡ (λ values. expression_truth at (macros values) hash xs)) (sym begins.1)
    (let by_place : Place → List Bool → Reading Bool =
    λ p values. met_on_line hash p (episode Line (t ∷ begins.0) 0 (macros values)) in
    ap by_place stands)

-- a line without a token
pub line_empty : (d : Diagram) (whole : Cond) (at : Entered) (hash : Place)
    (macros : List Bool → List ℕ → Macro) (line : List PpTok) (came : Came Truths)
    → None ≡ slice_get line 0
    → ((read : List Bool → Reading Bool)
    → ((values : List Bool) → read values ≡ refusal BadCondition hash)
    → AreMet d whole came.given read)
    → ((read : List Bool → Reading Bool)
    → ((values : List Bool) → read values ≡ refusal BadCondition hash)
    → Ends d whole came.good came.failing (HasTruth d came.value) read)
    → came.given ≡ [] → AreWithin d came.good came.value
    → IsLineRead d whole (λ values. expression_truth at (macros values) hash line) came
line_empty d whole at hash macros line came none met ends given_is within =
    let read : List Bool → Reading Bool =
    λ values. expression_truth at (macros values) hash line in
    let reads : (values : List Bool) → read values ≡ refusal BadCondition hash =
    λ values. ap (λ (xs : List PpTok). expression_truth at (macros values) hash xs)
    (none_of line none) in
    record {
      is_read = record {
        met = met read reads;
        few = subst (λ (gs : List Given). AreFew gs) (sym given_is) (λ k x l. absurd (omega arith));
        faces = subst (λ (gs : List Given). AreByFace d whole gs read) (sym given_is)
            (λ values others h j k x l. absurd (omega arith));
        ends = ends read reads;
      };
      within = within;
    }

-- what is so of what is found, by what it is
pub found_weaker : {T : Type 0} (P P' : Came T → Type 0) (Q Q' : Place → List Cond → Type 0)
    → ((came : Came T) → P came → P' came)
    → ((place : Place) (conds : List Cond) → Q place conds → Q' place conds)
    → (f : Found T) → IfFound P Q f → IfFound P' Q' f
found_weaker P P' Q Q' p q (found.Came came) h = p came h
found_weaker P P' Q Q' p q (found.TooMany t) h = q t.place t.conds h

-- the conditions of a fault, at its place
pub excess : (P : List Cond → Type 0) (place : Place) (fault : ExpandFault) (t : TooMany)
    → IsFaultAt place fault t → IfTooMany P fault → (t.place ≡ place) × P t.conds
excess P place (expand_fault.TooMany conds) t h p = (h.0, subst P (sym h.1) p)
excess P place expand_fault.Memory t h p = absurd h
