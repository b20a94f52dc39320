-- A text is expanded from one position to the next.
use Rattle.std.proofs.Common.{◌≡◌, ◌+◌, ◌<◌, ℕ, zero, suc, Bool, true, false, List, [], ◌∷◌, ◌++◌, length, drop, replicate, get_or, refl, sym, ◌∙◌, ap, subst, arith, add-one}
use Rattle.std.specs.Prelude.{All, slice_index_or, slice_set}
use Rattle.std.specs.List.{AllByRecursion}
use Rattle.std.proofs.lemmas.Bool.{both_ways}
use Rattle.std.proofs.lemmas.List.{append_assoc, drop_more, length-drop}
use Rattle.std.proofs.lemmas.List.Elements.{All-contains, All-from_recursion, All-push}
use Rattle.hv_base.specs.declared.limits.TheConstants.{MOST_FACES}
use Rattle.hv_base.specs.declared.place.Place.{Place}
use Rattle.hv_cond.specs.Diagram.{AllNodes, Diagram, IsNode, Keeps, holds}
use Rattle.hv_cond.specs.Laws.{Keeps-refl, Keeps-trans}
use Rattle.hv_cond.specs.Parts.{count_satisfied}
use Rattle.hv_cond.specs.declared.conditions.Cond.{Cond}
use Rattle.hv_expand.specs.Outcomes.{HaveOneFace, conditions}
use Rattle.hv_expand.specs.declared.outcome.Outcome.{Outcome}
use Rattle.hv_faces.specs.Faces.{AreTooMany}
use Rattle.hv_given.specs.Given.{IsEpisode, given_in}
use Rattle.hv_given.specs.declared.given.Given.{Given}
use Rattle.hv_macros.specs.Table.{meaning_in}
use Rattle.hv_macros.specs.declared.tables.MacroTable.{MacroTable}
use Rattle.hv_plain.specs.declared.episode.RunEnd.{RunEnd}
use Rattle.hv_plain.specs.episode.Episode.{episode}
use Rattle.hv_plain.specs.episode.Expansion.{Event}
use Rattle.hv_plainpp.specs.Files.{place_of}
use Rattle.hv_plainpp.specs.Plainpp.{HasFace}
use Rattle.hv_plainpp.specs.Reading.{Met, Reading}
use Rattle.hv_texts.proofs.Beginnings.{given_in_all, pairs_from_given}
use Rattle.hv_texts.proofs.Counting.{count_cons, if_one, none_if, one_if}
use Rattle.hv_texts.proofs.Episodes.{IsMetFirst, IsMetIn, apart_drop, begun_contains, begun_each, free_from, met_first, text_goes}
use Rattle.hv_texts.proofs.Excess.{has_too_many}
use Rattle.hv_texts.proofs.Facing.{faced_first, faced_kept}
use Rattle.hv_texts.proofs.Numbers.{its_end, its_few, its_node, its_right, once, own_number}
use Rattle.hv_texts.proofs.Sorting.{popped, sorted_kept, split}
use Rattle.hv_texts.proofs.Stepping.{IsComing, faced_step, sorted_step}
use Rattle.hv_texts.specs.Faces.{HasTooMany}
use Rattle.hv_texts.specs.Readings.{AreApart}
use Rattle.hv_texts.specs.declared.origin.Origin.{Origin}
use Rattle.hv_texts.specs.working.Sorting.{IsBegun, IsGoing, IsMoved, IsSorted, left, pairs}
use Rattle.hv_texts.specs.working.Steps.{AreFree, AreOutcomes, HasNumber, IsFree, IsTurn, IsWalk, entered, entry, reads, rests, tokens_in, way_on}
use Rattle.hv_toks.specs.Macro.{Macro}
use Rattle.hv_toks.specs.declared.parted.Failing.{Failing}
use Rattle.hv_toks.specs.declared.token.PpTok.{PpTok}

------ the start

none_of_never : (d : Diagram) (never : Cond) (values : List Bool) → holds d never values ≡ false
    → (n : ℕ) → count_satisfied d (replicate n never) values ≡ 0
none_of_never d never values e zero = refl
none_of_never d never values e (suc n) =
    let all = count_cons d never (replicate n never) values in
    let none = none_if (holds d never values) e in
    let rest = none_of_never d never values e n in
    omega arith

nodes_of_never : (d : Diagram) (never : Cond) → IsNode d never → (n : ℕ)
    → AllNodes d (replicate n never)
nodes_of_never d never node zero = tt
nodes_of_never d never node (suc n) = (node, nodes_of_never d never node n)

never_at : (d : Diagram) (never : Cond) (values : List Bool) → holds d never values ≡ false
    → (n k : ℕ) (x : Cond) → k < length (replicate n never)
    → holds d (slice_index_or (replicate n never) k x) values ≡ true → ⊥
never_at d never values e zero k x l h = omega arith
never_at d never values e (suc n) zero x l h = both_ways (holds d never values) e h
never_at d never values e (suc n) (suc k) x l h = never_at d never values e n k x (omega arith) h

length_of : (n : ℕ) (never : Cond) → length (replicate n never) ≡ n
length_of zero never = refl
length_of (suc n) never = ap suc (length_of n never)

module _ (d : Diagram) (whole never : Cond) (origin : Origin) (ends : RunEnd)
    (macros : List Bool → List ℕ → Macro) (run : List PpTok)
    (node : IsNode d whole) (never_node : IsNode d never)
    (nowhere : (values : List Bool) → holds d never values ≡ false) where
  start_going : (k : ℕ) (x : Cond) → k < length (whole ∷ replicate (length run) never)
      → (values : List Bool)
      → holds d (slice_index_or (whole ∷ replicate (length run) never) k x) values ≡ true
      → IsGoing [] (reads origin ends macros run values) (rests origin ends macros run k values)
  start_going zero x l values h = record { begun = refl; ends = refl }
  start_going (suc k) x l values h =
      absurd (never_at d never values (nowhere values) (length run) k x (omega arith) h)

  started : IsWalk d whole origin ends macros run 0 []
      (whole ∷ replicate (length run) never) []
  started = record {
    sorted = record {
      node = node;
      given_nodes = tt;
      pending_nodes = tt;
      slot_nodes = (node, nodes_of_never d never never_node (length run));
      refusals = record { nodes = tt; none_false = tt; distinct = tt };
      one = λ values.
          let all = count_cons d whole (replicate (length run) never) values in
          let none = none_of_never d never values (nowhere values) (length run) in
          omega arith;
      waiting = λ k x l. absurd (omega arith);
      going = start_going;
      refused_there = λ values at why r. absurd r;
      elsewhere = λ values h. refl;
    };
    long = let e = length_of (length run) never in omega arith;
    few = λ k x l. absurd (omega arith);
    agree = λ apart values others k x l. absurd (omega arith);
    free = λ apart. tt;
  }

pub walk_start : (d : Diagram) (whole never : Cond) (origin : Origin) (ends : RunEnd)
    (macros : List Bool → List ℕ → Macro) (run : List PpTok) (len : ℕ)
    (given : List Given) (reached : List Cond) (refused : List Failing)
    → IsNode d whole → IsNode d never → ((values : List Bool) → holds d never values ≡ false)
    → len ≡ length run → reached ≡ slice_set (replicate (len + 1) never) 0 whole
    → given ≡ [] → refused ≡ []
    → IsWalk d whole origin ends macros run 0 given reached refused
walk_start d whole never origin ends macros run len given reached refused node never_node nowhere
    long reached_is no_given no_refused =
    subst (λ (gs : List Given). IsWalk d whole origin ends macros run 0 gs reached refused)
    (sym no_given)
    (subst (λ (fs : List Failing). IsWalk d whole origin ends macros run 0 [] reached fs)
    (sym no_refused)
    (subst (λ (xs : List Cond). IsWalk d whole origin ends macros run 0 [] xs [])
    (sym (reached_is ∙ (ap (λ (n : ℕ). slice_set (replicate n never) 0 whole) (add-one len)
    ∙ ap (λ (n : ℕ). whole ∷ replicate n never) long)))
    (started d whole never origin ends macros run node never_node nowhere)))

------ the outcomes of a position

-- the configurations at a position are pending
turn_sorted : (d : Diagram) (whole : Cond) (read : List Bool → Reading (Unit {0}))
    (origin : Origin) (ends : RunEnd) (macros : List Bool → List ℕ → Macro)
    (given : List Given) (next : List Bool → Reading (Unit {0})) (ts : List PpTok) (t : PpTok)
    (tokens : List PpTok) (slots : List Cond) (c : Cond) (rest : List Cond)
    (refused : List Failing) → ts ≡ t ∷ tokens → slots ≡ c ∷ rest
    → IsSorted d whole read given [] next slots (rests origin ends macros ts) refused
    → IsSorted d whole read given (c ∷ []) (rests origin ends macros ts 0) rest
    (rests origin ends macros tokens) refused
turn_sorted d whole read origin ends macros given next ts t tokens slots c rest refused first slot s =
    subst (λ (xs : List PpTok). IsSorted d whole read given (c ∷ [])
    (rests origin ends macros xs 0) rest (rests origin ends macros tokens) refused) (sym first)
    (popped d whole read given next c rest (rests origin ends macros (t ∷ tokens)) refused
    (subst (λ (xs : List Cond). IsSorted d whole read given [] next xs
    (rests origin ends macros (t ∷ tokens)) refused) slot
    (subst (λ (xs : List PpTok). IsSorted d whole read given [] next slots
    (rests origin ends macros xs) refused) first s)))

-- no entry is at the place of the next token
away : (d : Diagram) (given : List Given) (read : List Bool → Reading (Unit {0}))
    (origin : Origin) (t : PpTok) (tokens : List PpTok) (place : Place)
    → place ≡ place_of (entered origin) t → AreFree origin (t ∷ tokens) given
    → (values : List Bool)
    → All (λ (p : Given × Met). p.0.place ≡ place → ⊥) (pairs d given read values)
away d given read origin t tokens place stands free values =
    All-from_recursion (λ (p : Given × Met). p.0.place ≡ place → ⊥) (pairs d given read values)
    (pairs_from_given (λ (g : Given). g.place ≡ place → ⊥) (given_in d given values)
    (read values).met
    (given_in_all (λ (g : Given). g.place ≡ place → ⊥) d values given
    (apart given free)))
  where
    apart : (gs : List Given) → AreFree origin (t ∷ tokens) gs
        → AllByRecursion (λ (g : Given). g.place ≡ place → ⊥) gs
    apart [] all = tt
    apart (g ∷ gs) all = (λ e. all.0.0 (e ∙ stands), apart gs all.1)

later_free : (origin : Origin) (t : PpTok) (tokens : List PpTok) (gs : List Given)
    → AreFree origin (t ∷ tokens) gs → AreFree origin tokens gs
later_free origin t tokens [] all = tt
later_free origin t tokens (g ∷ gs) all = (all.0.1, later_free origin t tokens gs all.1)

free_push : (origin : Origin) (tokens : List PpTok) (gs : List Given) (g : Given)
    → AreFree origin tokens gs → IsFree g.place origin tokens → AreFree origin tokens (gs ++ g ∷ [])
free_push origin tokens [] g all free = (free, tt)
free_push origin tokens (h ∷ gs) g all free = (all.0, free_push origin tokens gs g all.1 free)

pub turn_start : (old new : Diagram) (whole : Cond) (origin : Origin) (ends : RunEnd)
    (macros : List Bool → List ℕ → Macro) (run : List PpTok) (at : ℕ) (t : PpTok) (place : Place)
    (c : Cond) (Number : List Bool → ℕ → Type 0) (table : MacroTable) (outcomes : List Outcome)
    (given : List Given) (reached : List Cond) (refused : List Failing)
    → Keeps old new → IsWalk old whole origin ends macros run at given reached refused
    → at < length run → t ≡ get_or run at t → c ≡ get_or reached at c
    → place ≡ place_of (entered origin) t
    → AreOutcomes new table ends run at c outcomes
    → IsTurn new whole origin ends macros run at place Number given (conditions outcomes) reached
    refused
turn_start old new whole origin ends macros run at t place c Number table outcomes given reached
    refused keeps w within t_is c_is stands a =
    let read : List Bool → Reading (Unit {0}) = reads origin ends macros run in
    let first : drop at run ≡ t ∷ drop (at + 1) run =
    drop_more run at t within ∙ ap (λ (x : PpTok). x ∷ drop (at + 1) run) (sym t_is) in
    let slot : drop at reached ≡ c ∷ drop (at + 1) reached =
    drop_more reached at c (omega (arith, w.long))
    ∙ ap (λ (x : Cond). x ∷ drop (at + 1) reached) (sym c_is) in
    record {
      token = t;
      first = first;
      stands = stands;
      sorted = split new whole read given (rests origin ends macros (drop at run) 0) c
          (conditions outcomes) (drop (at + 1) reached)
          (rests origin ends macros (drop (at + 1) run)) refused
          (turn_sorted new whole read origin ends macros given read (drop at run) t
          (drop (at + 1) run) (drop at reached) c (drop (at + 1) reached) refused first slot
          (sorted_kept keeps whole read given [] read (drop at reached)
          (rests origin ends macros (drop at run)) refused w.sorted)) a.parts;
      long = w.long;
      few = w.few;
      faced = λ apart. faced_kept given read place Number
          (λ values. (episode ends run at (macros values)).face) keeps w.sorted.given_nodes
          (faced_first old given read place Number
          (λ values. (episode ends run at (macros values)).face) (w.agree apart)
          (away old given read origin t (drop (at + 1) run) place stands
          (subst (λ (xs : List PpTok). AreFree origin xs given) first (w.free apart))));
      free = λ apart. later_free origin t (drop (at + 1) run) given
          (subst (λ (xs : List PpTok). AreFree origin xs given) first (w.free apart));
    }

------ one outcome

pub record IsSortingOn (old now : Diagram) (whole : Cond) (origin : Origin) (ends : RunEnd)
    (table : MacroTable) (run : List PpTok) (at : ℕ) (place : Place) (outcomes : List Outcome)
    (given : List Given) (pending : List Outcome) (reached : List Cond) (refused : List Failing)
    : Type 0 where
  pub keeps : Keeps old now
  pub done : List Outcome
  pub is : outcomes ≡ done ++ pending
  pub turn : IsTurn now whole origin ends (meaning_in old table) run at place
      (HasNumber old outcomes) given (conditions pending) reached refused

pub sorting_start : (d : Diagram) (whole : Cond) (origin : Origin) (ends : RunEnd)
    (table : MacroTable) (run : List PpTok) (at : ℕ) (place : Place)
    (outcomes queue : List Outcome) (given : List Given) (reached : List Cond)
    (refused : List Failing) → queue ≡ outcomes
    → IsTurn d whole origin ends (meaning_in d table) run at place (HasNumber d outcomes)
    given (conditions outcomes) reached refused
    → IsSortingOn d d whole origin ends table run at place outcomes given queue reached refused
sorting_start d whole origin ends table run at place outcomes queue given reached refused e j =
    record {
      keeps = Keeps-refl d;
      done = [];
      is = sym e;
      turn = subst (λ (os : List Outcome). IsTurn d whole origin ends (meaning_in d table) run at
          place (HasNumber d outcomes) given (conditions os) reached refused) (sym e) j;
    }

module _ (old now new : Diagram) (whole c : Cond) (origin : Origin) (ends : RunEnd)
    (table : MacroTable) (run : List PpTok) (at : ℕ) (place : Place) (outcomes : List Outcome)
    (given : List Given) (o : Outcome) (pending : List Outcome) (before after : List Cond)
    (refused failing : List Failing)
    (a : AreOutcomes old table ends run at c outcomes) (within : at < length run)
    (kept : Keeps old now) (keeps : Keeps now new) (done : List Outcome)
    (is : outcomes ≡ done ++ o ∷ pending)
    (turn : IsTurn now whole origin ends (meaning_in old table) run at place
    (HasNumber old outcomes) given (conditions (o ∷ pending)) before refused)
    (move : IsMoved now new (drop (at + 1) before) (drop (at + 1) after) refused failing o.cond
    (way_on at place o.end o.result)) (long : length after ≡ length before) where
  abbrev read_of : List Bool → Reading (Unit {0})
  read_of = reads origin ends (meaning_in old table) run

  abbrev face_of : List Bool → List Event
  face_of values = (episode ends run at (meaning_in old table values)).face

  abbrev g : Given
  g = entry place o (tokens_in o.result)

  there : (values : List Bool) → holds new o.cond values ≡ true
      → holds old o.cond values ≡ true
  there values h = sym ((Keeps-trans kept keeps).meaning o.cond
      (its_node old table ends run at c outcomes a done o pending is) values) ∙ h

  comes : (values : List Bool) → holds new o.cond values ≡ true
      → IsComing g (rests origin ends (meaning_in old table) (drop at run) 0 values)
      (left (rests origin ends (meaning_in old table) (drop (at + 1) run))
      (way_on at place o.end o.result) values) (face_of values)
  comes values h =
      let right = its_right old table ends run at c outcomes a done o pending is values
      (there values h) in
      text_goes origin ends (meaning_in old table) run at turn.token (drop (at + 1) run) place
      values o turn.first (length-drop (at + 1) run) turn.stands right.right right.goes

  sorted_more : IsSortingOn old new whole origin ends table run at place outcomes
      (given ++ g ∷ []) pending after failing
  sorted_more = record {
    keeps = Keeps-trans kept keeps;
    done = done ++ o ∷ [];
    is = is ∙ sym (append_assoc done (o ∷ []) pending);
    turn = record {
      token = turn.token;
      first = turn.first;
      stands = turn.stands;
      sorted = sorted_step keeps whole read_of given o.cond (conditions pending)
          (rests origin ends (meaning_in old table) (drop at run) 0)
          (drop (at + 1) before) (drop (at + 1) after)
          (rests origin ends (meaning_in old table) (drop (at + 1) run))
          refused failing (way_on at place o.end o.result) g face_of turn.sorted refl comes move;
      long = long ∙ turn.long;
      few = All-push (λ (h : Given). h.face < MOST_FACES) given g turn.few
          (its_few old table ends run at c outcomes a done o pending is);
      faced = λ apart. faced_step keeps whole read_of given o.cond (conditions pending)
          (rests origin ends (meaning_in old table) (drop at run) 0)
          (drop (at + 1) before) (drop (at + 1) after)
          (rests origin ends (meaning_in old table) (drop (at + 1) run))
          refused failing (way_on at place o.end o.result) g face_of turn.sorted refl comes
          place (HasNumber old outcomes) refl (once old table ends run at c outcomes a o)
          (λ values h. own_number old table ends run at c outcomes a done o pending is values
          (there values h)) (turn.faced apart);
      free = λ apart. free_push origin (drop (at + 1) run) given g (turn.free apart)
          (subst (λ (p : Place). IsFree p origin (drop (at + 1) run)) (sym turn.stands)
          (free_from origin turn.token (drop (at + 1) run)
          (subst AreApart turn.first (apart_drop at run apart)).0));
    };
  }

pub sorting_more : (old now new : Diagram) (whole c : Cond) (origin : Origin) (ends : RunEnd)
    (table : MacroTable) (run : List PpTok) (at : ℕ) (place : Place) (outcomes : List Outcome)
    (given more : List Given) (o : Outcome) (pending queue : List Outcome)
    (before after : List Cond) (refused failing : List Failing)
    → AreOutcomes old table ends run at c outcomes → at < length run
    → IsSortingOn old now whole origin ends table run at place outcomes given queue before refused
    → queue ≡ o ∷ pending → Keeps now new
    → IsMoved now new (drop (at + 1) before) (drop (at + 1) after) refused failing o.cond
    (way_on at place o.end o.result) → length after ≡ length before
    → more ≡ given ++ entry place o (tokens_in o.result) ∷ []
    → IsSortingOn old new whole origin ends table run at place outcomes more pending after failing
sorting_more old now new whole c origin ends table run at place outcomes given more o pending queue
    before after refused failing a within j e keeps move long more_is =
    subst (λ (gs : List Given). IsSortingOn old new whole origin ends table run at place outcomes gs
    pending after failing) (sym more_is)
    (sorted_more old now new whole c origin ends table run at place outcomes given o pending before
    after refused failing a within j.keeps keeps j.done
    (j.is ∙ ap (λ (os : List Outcome). j.done ++ os) e)
    (subst (λ (os : List Outcome). IsTurn now whole origin ends (meaning_in old table) run at place
    (HasNumber old outcomes) given (conditions os) before refused) e j.turn) move long)

-- an outcome that is next goes on within the positions
pub sorting_end : (old now : Diagram) (whole c : Cond) (origin : Origin) (ends : RunEnd)
    (table : MacroTable) (run : List PpTok) (at : ℕ) (place : Place) (outcomes : List Outcome)
    (given : List Given) (o : Outcome) (pending queue : List Outcome) (reached : List Cond)
    (refused : List Failing)
    → AreOutcomes old table ends run at c outcomes → at < length run
    → IsSortingOn old now whole origin ends table run at place outcomes given queue reached refused
    → queue ≡ o ∷ pending → o.end < length reached
sorting_end old now whole c origin ends table run at place outcomes given o pending queue reached
    refused a within j e =
    let l = its_end old table ends run at c outcomes a j.done o pending
    (j.is ∙ ap (λ (os : List Outcome). j.done ++ os) e) within in
    let long = j.turn.long in
    omega arith

------ the next position

pub walk_next : (d : Diagram) (whole : Cond) (origin : Origin) (ends : RunEnd)
    (macros : List Bool → List ℕ → Macro) (run : List PpTok) (at : ℕ) (place : Place)
    (Number : List Bool → ℕ → Type 0) (given : List Given) (reached : List Cond)
    (refused : List Failing)
    → IsTurn d whole origin ends macros run at place Number given [] reached refused
    → IsWalk d whole origin ends macros run (at + 1) given reached refused
walk_next d whole origin ends macros run at place Number given reached refused t =
    record {
      sorted = record {
        node = t.sorted.node;
        given_nodes = t.sorted.given_nodes;
        pending_nodes = tt;
        slot_nodes = t.sorted.slot_nodes;
        refusals = t.sorted.refusals;
        one = t.sorted.one;
        waiting = λ k x l. absurd (omega arith);
        going = t.sorted.going;
        refused_there = t.sorted.refused_there;
        elsewhere = t.sorted.elsewhere;
      };
      long = t.long;
      few = t.few;
      agree = λ apart. (t.faced apart).agree;
      free = t.free;
    }

------ too many faces

module _ (d : Diagram) (whole : Cond) (origin : Origin) (ends : RunEnd)
    (macros : List Bool → List ℕ → Macro) (run : List PpTok) (at : ℕ) (t : PpTok)
    (tokens : List PpTok) (first : drop at run ≡ t ∷ tokens) (place : Place)
    (stands : place ≡ place_of (entered origin) t) (c : Cond) (given : List Given)
    (slots : List Cond) (refused : List Failing)
    (s : IsSorted d whole (reads origin ends macros run) given (c ∷ [])
    (rests origin ends macros (drop at run) 0) slots (rests origin ends macros tokens) refused)
    (free : AreFree origin (t ∷ tokens) given) (apart : IsFree place origin tokens)
    (values : List Bool) (here : holds d c values ≡ true) where
  abbrev the_face : List Event
  the_face = (episode ends run at (macros values)).face

  now_first : IsMetFirst origin t tokens the_face (rests origin ends macros (drop at run) 0 values).met
  now_first = met_first origin ends macros run at t tokens values first

  begun_now : IsBegun (given_in d given values) (reads origin ends macros run values).met
      (now_first.first ∷ now_first.rest)
  begun_now = subst (λ (ms : List Met). IsBegun (given_in d given values)
      (reads origin ends macros run values).met ms) now_first.is
      (s.waiting 0 c (omega arith) values here).begun

  in_whole : holds d whole values ≡ true
  in_whole =
      let all = count_cons d c [] values in
      let one = one_if (holds d c values) here in
      let sum = s.one values in
      if_one (holds d whole values) (omega arith)

  face_there : HasFace (reads origin ends macros run values) place the_face
  face_there = (
    now_first.first,
    begun_contains (given_in d given values) (reads origin ends macros run values).met
        now_first.first now_first.rest begun_now,
    now_first.place ∙ sym stands,
    now_first.face_is,
  )

  abbrev HasIt : Met → Type 0
  HasIt m = m.place ≡ place → m.face ≡ the_face

  earlier : (gs : List Given) → AreFree origin (t ∷ tokens) gs
      → AllByRecursion (λ (g : Given). (m : Met) → IsEpisode g m → HasIt m) gs
  earlier [] all = tt
  earlier (g ∷ gs) all = (
    λ m e p. absurd (all.0.0 (e.place ∙ (p ∙ stands))),
    earlier gs all.1,
  )

  later : (ms : List Met) → AllByRecursion (IsMetIn origin tokens) ms → AllByRecursion HasIt ms
  later [] all = tt
  later (m ∷ ms) all = (λ p. absurd (all.0 place apart (sym p)), later ms all.1)

  face_only : (face : List Event) → HasFace (reads origin ends macros run values) place face
      → face ≡ the_face
  face_only face has =
      sym has.3 ∙ All-contains HasIt (reads origin ends macros run values).met has.0
      (All-from_recursion HasIt (reads origin ends macros run values).met
      (begun_each HasIt (given_in d given values) (reads origin ends macros run values).met
      (now_first.first ∷ now_first.rest) begun_now
      (given_in_all (λ (g : Given). (m : Met) → IsEpisode g m → HasIt m) d values given
      (earlier given free))
      (λ p. now_first.face_is, later now_first.rest now_first.later))) has.1 has.2

pub text_too_many : (old new : Diagram) (whole : Cond) (origin : Origin) (ends : RunEnd)
    (table : MacroTable) (run : List PpTok) (at : ℕ) (t : PpTok) (place : Place) (c : Cond)
    (given : List Given) (reached : List Cond) (refused : List Failing) (conds : List Cond)
    → Keeps old new
    → IsWalk old whole origin ends (meaning_in old table) run at given reached refused
    → at < length run → t ≡ get_or run at t → c ≡ get_or reached at c
    → place ≡ place_of (entered origin) t
    → AreTooMany new c (HaveOneFace ends run at old table) conds → AreApart run
    → HasTooMany new whole (reads origin ends (meaning_in old table) run) place conds
text_too_many old new whole origin ends table run at t place c given reached refused conds keeps w
    within t_is c_is stands many apart =
    let macros : List Bool → List ℕ → Macro = meaning_in old table in
    let read : List Bool → Reading (Unit {0}) = reads origin ends macros run in
    let first : drop at run ≡ t ∷ drop (at + 1) run =
    drop_more run at t within ∙ ap (λ (x : PpTok). x ∷ drop (at + 1) run) (sym t_is) in
    let slot : drop at reached ≡ c ∷ drop (at + 1) reached =
    drop_more reached at c (omega (arith, w.long))
    ∙ ap (λ (x : Cond). x ∷ drop (at + 1) reached) (sym c_is) in
    let s : IsSorted new whole read given (c ∷ []) (rests origin ends macros (drop at run) 0)
    (drop (at + 1) reached) (rests origin ends macros (drop (at + 1) run)) refused =
    turn_sorted new whole read origin ends macros given read (drop at run) t
    (drop (at + 1) run) (drop at reached) c (drop (at + 1) reached) refused first slot
    (sorted_kept keeps whole read given [] read (drop at reached)
    (rests origin ends macros (drop at run)) refused w.sorted) in
    let free : AreFree origin (t ∷ drop (at + 1) run) given =
    subst (λ (xs : List PpTok). AreFree origin xs given) first (w.free apart) in
    let own : IsFree place origin (drop (at + 1) run) =
    subst (λ (p : Place). IsFree p origin (drop (at + 1) run)) (sym stands)
    (free_from origin t (drop (at + 1) run)
    (subst AreApart first (apart_drop at run apart)).0) in
    has_too_many new c whole read place (HaveOneFace ends run at old table) conds many
    (λ values h. in_whole new whole origin ends macros run at t (drop (at + 1) run) first place
    stands c given (drop (at + 1) reached) refused s free own values h)
    (λ values others h k both.
    sym (face_only new whole origin ends macros run at t (drop (at + 1) run) first place
    stands c given (drop (at + 1) reached) refused s free own values h both.0 both.1)
    ∙ face_only new whole origin ends macros run at t (drop (at + 1) run) first place
    stands c given (drop (at + 1) reached) refused s free own others k both.0 both.2)
    (λ values h. (
      (episode ends run at (macros values)).face,
      face_there new whole origin ends macros run at t (drop (at + 1) run) first place
          stands c given (drop (at + 1) reached) refused s free own values h,
    ))
