-- The steps of sorting the configurations of a condition.
use Rattle.std.proofs.Common.{◌≡◌, ◌+◌, ◌<◌, ◌≤◌, ◌||◌, ◌⊎◌, inl, inr, ℕ, zero, suc, Bool, true, false, List, [], ◌∷◌, ◌++◌, length, refl, sym, ◌∙◌, ap, subst, arith}
use Rattle.std.specs.Prelude.{All, slice_index_or, slice_set}
use Rattle.std.proofs.lemmas.Bool.{cases_eq, or_cases}
use Rattle.std.proofs.lemmas.List.{get_or-set_other, get_or-set_same, length-set}
use Rattle.std.proofs.lemmas.List.Elements.{All-cons, All-nil}
use Rattle.std.proofs.lemmas.List.Sums.{sum_by-set}
use Rattle.hv_base.specs.declared.place.Place.{Place}
use Rattle.hv_base.specs.declared.why.Why.{Why}
use Rattle.hv_cond.specs.Diagram.{AllNodes, Diagram, IsNode, Keeps, holds}
use Rattle.hv_cond.specs.Laws.{AllNodes-kept, count_satisfied-kept}
use Rattle.hv_cond.specs.Parts.{IsPartition, count_satisfied}
use Rattle.hv_cond.specs.declared.conditions.Cond.{Cond}
use Rattle.hv_given.specs.Given.{IsEpisode, given_in}
use Rattle.hv_given.specs.Laws.{AreRefusals-kept, IsRefusedAt-before, IsRefusedAt-each, IsRefusedAt-kept}
use Rattle.hv_given.specs.Refusals.{IsRefusedAt}
use Rattle.hv_given.specs.declared.given.Given.{Given}
use Rattle.hv_plainpp.specs.Reading.{Met, Reading, continued, refusal, refused as ended}
use Rattle.hv_texts.proofs.Beginnings.{begun_all, begun_more, given_in_kept, given_in_with, given_in_without, given_nodes_more}
use Rattle.hv_texts.proofs.Counting.{bit, count_at, count_cons, count_refused, count_some, if_at_most, if_one, node_at, none_if, one_if, some_refused}
use Rattle.hv_texts.specs.Readings.{AreMet, conditions_of}
use Rattle.hv_texts.specs.working.Sorting.{IsBegun, IsGoing, IsMoved, IsSorted, Way, left, to_refusal, to_slot}
use Rattle.hv_toks.specs.Division.{Divides, conditions}
use Rattle.hv_toks.specs.declared.parted.Failing.{Failing}

------ a store that grows

pub sorted_kept : {A : Type 0} {old new : Diagram} → Keeps old new → (whole : Cond)
    (read : List Bool → Reading A) (given : List Given) (pending : List Cond)
    (next : List Bool → Reading A) (slots : List Cond) (rests : ℕ → List Bool → Reading A)
    (refused : List Failing)
    → IsSorted old whole read given pending next slots rests refused
    → IsSorted new whole read given pending next slots rests refused
sorted_kept {A} {old} {new} keeps whole read given pending next slots rests refused s =
    record {
      node = keeps.stays whole s.node;
      given_nodes = AllNodes-kept keeps (conditions_of given) s.given_nodes;
      pending_nodes = AllNodes-kept keeps pending s.pending_nodes;
      slot_nodes = AllNodes-kept keeps slots s.slot_nodes;
      refusals = AreRefusals-kept keeps refused s.refusals;
      one = λ values.
          let a = count_satisfied-kept keeps pending s.pending_nodes values in
          let b = count_satisfied-kept keeps slots s.slot_nodes values in
          let e = count_satisfied-kept keeps (conditions refused) s.refusals.nodes values in
          let o = s.one values in
          let w : bit (holds new whole values) ≡ bit (holds old whole values) =
          ap bit (keeps.meaning whole s.node values) in
          omega arith;
      waiting = λ k x l values h. still values (next values) (s.waiting k x l values
          (sym (keeps.meaning (slice_index_or pending k x) (node_at old pending k x s.pending_nodes l)
          values) ∙ h));
      going = λ k x l values h. still values (rests k values) (s.going k x l values
          (sym (keeps.meaning (slice_index_or slots k x) (node_at old slots k x s.slot_nodes l)
          values) ∙ h));
      refused_there = λ values place why r. still values (refusal why place)
          (s.refused_there values place why
          (IsRefusedAt-before keeps refused s.refusals.nodes values place why r));
      elsewhere = λ values h. given_in_kept keeps given s.given_nodes values
          ∙ s.elsewhere values (sym (keeps.meaning whole s.node values) ∙ h);
    }
  where
    still : (values : List Bool) (rest : Reading A)
        → IsGoing (given_in old given values) (read values) rest
        → IsGoing (given_in new given values) (read values) rest
    still values rest = subst (λ (gs : List Given). IsGoing gs (read values) rest)
        (sym (given_in_kept keeps given s.given_nodes values))

------ the configurations of one condition go on

module _ {A : Type 0} (d : Diagram) (whole : Cond) (read : List Bool → Reading A)
    (given : List Given) (c : Cond) (pending : List Cond) (next : List Bool → Reading A)
    (slots : List Cond) (rests : ℕ → List Bool → Reading A) (refused : List Failing)
    (s : IsSorted d whole read given (c ∷ pending) next slots rests refused)
    (g : Given) (own : g.cond ≡ c) where
  none_pending : (values : List Bool) → holds d c values ≡ true
      → count_satisfied d pending values ≡ 0
  none_pending values h =
      let all = count_cons d c pending values in
      let one = one_if (holds d c values) h in
      let sum = s.one values in
      let most = if_at_most (holds d whole values) _ sum in
      omega arith

  none_slots : (values : List Bool) → holds d c values ≡ true
      → count_satisfied d slots values ≡ 0
  none_slots values h =
      let all = count_cons d c pending values in
      let one = one_if (holds d c values) h in
      let sum = s.one values in
      let most = if_at_most (holds d whole values) _ sum in
      omega arith

  none_refused : (values : List Bool) → holds d c values ≡ true
      → count_satisfied d (conditions refused) values ≡ 0
  none_refused values h =
      let all = count_cons d c pending values in
      let one = one_if (holds d c values) h in
      let sum = s.one values in
      let most = if_at_most (holds d whole values) _ sum in
      omega arith

  own_holds : (values : List Bool) → holds d g.cond values ≡ holds d c values
  own_holds values = ap (λ (x : Cond). holds d x values) own

  -- those that were elsewhere stay there
  stays : (values : List Bool) (rest : Reading A) → holds d c values ≡ false
      → IsGoing (given_in d given values) (read values) rest
      → IsGoing (given_in d (given ++ g ∷ []) values) (read values) rest
  stays values rest h = subst (λ (gs : List Given). IsGoing gs (read values) rest)
      (sym (given_in_without d values given g (own_holds values ∙ h)))

  -- those of the condition go on
  goes : (values : List Bool) (rest : Reading A) (m : Met) → holds d c values ≡ true
      → IsEpisode g m → next values ≡ continued (m ∷ []) rest
      → IsGoing (given_in d (given ++ g ∷ []) values) (read values) rest
  goes values rest m h e is =
      let now : IsGoing (given_in d given values) (read values) (continued (m ∷ []) rest) =
      subst (λ (r : Reading A). IsGoing (given_in d given values) (read values) r) is
      (s.waiting 0 c (omega arith) values h) in
      let then : IsGoing (given_in d given values ++ g ∷ []) (read values) rest = record {
        begun = begun_more (given_in d given values) g m (read values).met rest.met now.begun e;
        ends = now.ends;
      } in
      subst (λ (gs : List Given). IsGoing gs (read values) rest)
      (sym (given_in_with d values given g (own_holds values ∙ h))) then

  -- no configuration of the condition was elsewhere
  apart : (values : List Bool) (n : ℕ) → 1 ≤ n → (holds d c values ≡ true → n ≡ 0)
      → holds d c values ≡ false
  apart values n l none = step (holds d c values) none
    where
      step : (b : Bool) → (b ≡ true → n ≡ 0) → b ≡ false
      step true none = let e = none refl in absurd (omega arith)
      step false none = refl

  still_pending : (k : ℕ) (x : Cond) → k < length pending → (values : List Bool)
      → holds d (slice_index_or pending k x) values ≡ true
      → IsGoing (given_in d (given ++ g ∷ []) values) (read values) (next values)
  still_pending k x l values h =
      stays values (next values)
      (apart values (count_satisfied d pending values) (count_at d values pending k x l h)
      (none_pending values))
      (s.waiting (suc k) x (omega arith) values h)

  still_slot : (k : ℕ) (x : Cond) → k < length slots → (values : List Bool)
      → holds d (slice_index_or slots k x) values ≡ true
      → IsGoing (given_in d (given ++ g ∷ []) values) (read values) (rests k values)
  still_slot k x l values h =
      stays values (rests k values)
      (apart values (count_satisfied d slots values) (count_at d values slots k x l h)
      (none_slots values))
      (s.going k x l values h)

  still_refused : (values : List Bool) (place : Place) (why : Why)
      → IsRefusedAt d refused values place why
      → IsGoing (given_in d (given ++ g ∷ []) values) (read values) (refusal why place)
  still_refused values place why r =
      stays values (refusal why place)
      (apart values (count_satisfied d (conditions refused) values)
      (count_refused d values refused place why r) (none_refused values))
      (s.refused_there values place why r)

  still_elsewhere : (values : List Bool) → holds d whole values ≡ false
      → given_in d (given ++ g ∷ []) values ≡ []
  still_elsewhere values h =
      given_in_without d values given g (own_holds values ∙ outside (holds d c values) refl)
      ∙ s.elsewhere values h
    where
      outside : (b : Bool) → holds d c values ≡ b → holds d c values ≡ false
      outside true e =
          let all = count_cons d c pending values in
          let one = one_if (holds d c values) e in
          let sum = s.one values in
          let none = none_if (holds d whole values) h in
          absurd (omega arith)
      outside false e = e

  ------ to a slot

  nodes_set : (conds : List Cond) (k : ℕ) (x : Cond) → AllNodes d conds → IsNode d x
      → AllNodes d (slice_set conds k x)
  nodes_set [] k x nodes node = tt
  nodes_set (y ∷ conds) zero x nodes node = (node, nodes.1)
  nodes_set (y ∷ conds) (suc k) x nodes node = (nodes.0, nodes_set conds k x nodes.1 node)

  one_more : (there here both : Bool) → both ≡ (there || here)
      → (here ≡ true → there ≡ true → ⊥)
      → bit both ≡ bit there + bit here
  one_more true true both e never = absurd (never refl refl)
  one_more true false both e never = ap bit e ∙ omega arith
  one_more false here both e never = ap bit e ∙ omega arith

  pub in_slot : (k : ℕ) (slot : Cond) → k < length slots → IsNode d c → IsNode d slot
      → ((values : List Bool)
      → holds d slot values ≡ (holds d (slice_index_or slots k c) values || holds d c values))
      → ((values : List Bool) → holds d c values ≡ true
      → (m : Met) × IsEpisode g m × (next values ≡ continued (m ∷ []) (rests k values)))
      → IsSorted d whole read (given ++ g ∷ []) pending next (slice_set slots k slot) rests refused
  in_slot k slot within node slot_node means comes =
      record {
        node = s.node;
        given_nodes = given_nodes_more d given g s.given_nodes
            (subst (λ (x : Cond). IsNode d x) (sym own) node);
        pending_nodes = s.pending_nodes.1;
        slot_nodes = nodes_set slots k slot s.slot_nodes slot_node;
        refusals = s.refusals;
        one = λ values.
            let all = count_cons d c pending values in
            let sum = s.one values in
            let set = sum_by-set (λ (x : Cond). bit (holds d x values)) slots k slot c within in
            let more = one_more (holds d (slice_index_or slots k c) values) (holds d c values)
            (holds d slot values) (means values) (λ h there.
            let none = none_slots values h in
            let some = count_at d values slots k c within there in
            omega arith) in
            omega arith;
        waiting = still_pending;
        going = λ j x l values h. at j x l values h (cases_eq j k);
        refused_there = still_refused;
        elsewhere = still_elsewhere;
      }
    where
      shown : (values : List Bool)
          → (holds d (slice_index_or slots k c) values ≡ true) ⊎ (holds d c values ≡ true)
          → IsGoing (given_in d (given ++ g ∷ []) values) (read values) (rests k values)
      shown values (inl h) = still_slot k c within values h
      shown values (inr h) =
          let e = comes values h in goes values (rests k values) e.0 h e.1 e.2

      at : (j : ℕ) (x : Cond) → j < length (slice_set slots k slot) → (values : List Bool)
          → holds d (slice_index_or (slice_set slots k slot) j x) values ≡ true
          → (j ≡ k) ⊎ (j ≡ k → ⊥)
          → IsGoing (given_in d (given ++ g ∷ []) values) (read values) (rests j values)
      at j x l values h (inl e) =
          subst (λ (i : ℕ). IsGoing (given_in d (given ++ g ∷ []) values) (read values)
          (rests i values)) (sym e)
          (shown values (or_cases (holds d (slice_index_or slots k c) values) (holds d c values)
          (sym (means values)
          ∙ (sym (ap (λ (y : Cond). holds d y values) (get_or-set_same slots k slot x within))
          ∙ (ap (λ (i : ℕ). holds d (slice_index_or (slice_set slots k slot) i x) values) (sym e)
          ∙ h)))))
      at j x l values h (inr other) =
          still_slot j x (subst (λ (n : ℕ). j < n) (length-set slots k slot) l) values
          (sym (ap (λ (y : Cond). holds d y values) (get_or-set_other slots k j slot x other)) ∙ h)

------ of both kinds

-- the first pending condition is moved
pub moved : {A : Type 0} {old new : Diagram} → Keeps old new → (whole : Cond)
    (read : List Bool → Reading A) (given : List Given) (c : Cond) (pending : List Cond)
    (next : List Bool → Reading A) (slots after : List Cond) (rests : ℕ → List Bool → Reading A)
    (refused now : List Failing) (way : Way) (g : Given)
    → IsSorted old whole read given (c ∷ pending) next slots rests refused
    → IsMoved old new slots after refused now c way → g.cond ≡ c
    → ((values : List Bool) → holds new c values ≡ true → (m : Met) × IsEpisode g m
    × (next values ≡ continued (m ∷ []) (left rests way values)))
    → IsSorted new whole read (given ++ g ∷ []) pending next after rests now
moved {A} {old} {new} keeps whole read given c pending next slots after rests refused now
    (to_slot k) g s move own comes =
    let t = sorted_kept keeps whole read given (c ∷ pending) next slots rests refused s in
    let there : (values : List Bool) → holds new move.slot values
    ≡ (holds new (slice_index_or slots k c) values || holds new c values) = λ values.
    move.meaning values
    ∙ (ap (λ (b : Bool). b || holds old c values)
    (sym (keeps.meaning (slice_index_or slots k c) (node_at old slots k c s.slot_nodes move.within)
    values))
    ∙ ap (λ (b : Bool). holds new (slice_index_or slots k c) values || b)
    (sym (keeps.meaning c s.pending_nodes.0 values))) in
    let done = in_slot new whole read given c pending next slots rests refused t g own k move.slot
    move.within t.pending_nodes.0 move.node there comes in
    subst (λ (xs : List Cond). IsSorted new whole read (given ++ g ∷ []) pending next xs rests now)
    (sym move.put)
    (subst (λ (fs : List Failing). IsSorted new whole read (given ++ g ∷ []) pending next
    (slice_set slots k move.slot) rests fs) (sym move.unchanged) done)
moved {A} {old} {new} keeps whole read given c pending next slots after rests refused now
    (to_refusal why place) g s move own comes =
    let t = sorted_kept keeps whole read given (c ∷ pending) next slots rests refused s in
    subst (λ (xs : List Cond). IsSorted new whole read (given ++ g ∷ []) pending next xs rests now)
    (sym move.unchanged) (record {
      node = t.node;
      given_nodes = given_nodes_more new given g t.given_nodes
          (subst (λ (x : Cond). IsNode new x) (sym own) t.pending_nodes.0);
      pending_nodes = t.pending_nodes.1;
      slot_nodes = t.slot_nodes;
      refusals = move.refusals;
      one = λ values.
          let all = count_cons new c pending values in
          let sum = t.one values in
          let same = count_satisfied-kept keeps (conditions refused) s.refusals.nodes values in
          let holds_same : bit (holds new c values) ≡ bit (holds old c values) =
          ap bit (keeps.meaning c s.pending_nodes.0 values) in
          let more = move.counted values (λ h. sym same
          ∙ none_refused new whole read given c pending next slots rests refused t g own values
          (keeps.meaning c s.pending_nodes.0 values ∙ h)) in
          omega arith;
      waiting = still_pending new whole read given c pending next slots rests refused t g own;
      going = still_slot new whole read given c pending next slots rests refused t g own;
      refused_there = λ values at cause r. which values at cause ((move.more values at cause).0 r);
      elsewhere = still_elsewhere new whole read given c pending next slots rests refused t g own;
    })
  where
    which : (values : List Bool) (at : Place) (cause : Why)
        → IsRefusedAt old refused values at cause
        ⊎ ((place ≡ at) × (why ≡ cause) × (holds old c values ≡ true))
        → IsGoing (given_in new (given ++ g ∷ []) values) (read values) (refusal cause at)
    which values at cause (inl r) =
        let t = sorted_kept keeps whole read given (c ∷ pending) next slots rests refused s in
        still_refused new whole read given c pending next slots rests refused t g own values at cause
        (IsRefusedAt-kept keeps refused s.refusals.nodes values at cause r)
    which values at cause (inr r) =
        let t = sorted_kept keeps whole read given (c ∷ pending) next slots rests refused s in
        let h = keeps.meaning c s.pending_nodes.0 values ∙ r.2 in
        let e = comes values h in
        subst (λ (p : Place). IsGoing (given_in new (given ++ g ∷ []) values) (read values)
        (refusal cause p)) r.0
        (subst (λ (w : Why). IsGoing (given_in new (given ++ g ∷ []) values) (read values)
        (refusal w place)) r.1
        (goes new whole read given c pending next slots rests refused t g own values
        (refusal why place) e.0 h e.1 e.2))

------ one slot's turn

-- the configurations of the first slot are next
pub popped : {A : Type 0} (d : Diagram) (whole : Cond) (read : List Bool → Reading A)
    (given : List Given) (next : List Bool → Reading A) (c : Cond) (slots : List Cond)
    (rests : ℕ → List Bool → Reading A) (refused : List Failing)
    → IsSorted d whole read given [] next (c ∷ slots) rests refused
    → IsSorted d whole read given (c ∷ []) (rests 0) slots (λ k. rests (suc k)) refused
popped d whole read given next c slots rests refused s =
    record {
      node = s.node;
      given_nodes = s.given_nodes;
      pending_nodes = (s.slot_nodes.0, tt);
      slot_nodes = s.slot_nodes.1;
      refusals = s.refusals;
      one = λ values.
          let all = count_cons d c slots values in
          let first = count_cons d c [] values in
          let sum = s.one values in
          omega arith;
      waiting = All-cons (λ (x : Cond). (values : List Bool) → holds d x values ≡ true
          → IsGoing (given_in d given values) (read values) (rests 0 values)) c []
          (λ values h. s.going 0 c (omega arith) values h) (All-nil _);
      going = λ k x l values h. s.going (suc k) x (omega arith) values h;
      refused_there = s.refused_there;
      elsewhere = s.elsewhere;
    }

-- and pend by the parts of their condition
pub split : {A : Type 0} (d : Diagram) (whole : Cond) (read : List Bool → Reading A)
    (given : List Given) (next : List Bool → Reading A) (c : Cond) (parts : List Cond)
    (slots : List Cond) (rests : ℕ → List Bool → Reading A) (refused : List Failing)
    → IsSorted d whole read given (c ∷ []) next slots rests refused → IsPartition d c parts
    → IsSorted d whole read given parts next slots rests refused
split d whole read given next c parts slots rests refused s p =
    record {
      node = s.node;
      given_nodes = s.given_nodes;
      pending_nodes = p.nodes;
      slot_nodes = s.slot_nodes;
      refusals = s.refusals;
      one = λ values.
          let all = count_cons d c [] values in
          let sum = s.one values in
          let part = p.one values in
          omega arith;
      waiting = λ k x l values h.
          let some = count_at d values parts k x l h in
          let part = p.one values in
          s.waiting 0 c (omega arith) values (if_one (holds d c values) (omega arith));
      going = s.going;
      refused_there = s.refused_there;
      elsewhere = s.elsewhere;
    }

------ the end

module _ {A : Type 0} (d : Diagram) (whole good : Cond) (read : List Bool → Reading A)
    (given : List Given) (next : List Bool → Reading A) (slots : List Cond)
    (rests : ℕ → List Bool → Reading A) (refused : List Failing)
    (s : IsSorted d whole read given [] next slots rests refused)
    (node : IsNode d good)
    (all : (values : List Bool) → bit (holds d good values) ≡ count_satisfied d slots values)
    (none_left : (k : ℕ) (values : List Bool) → (rests k values).met ≡ []) where
  -- what is left of a configuration meets no episode
  at_end : (values : List Bool) → holds d whole values ≡ true
      → (rest : Reading A) × (rest.met ≡ [])
      × IsGoing (given_in d given values) (read values) rest
  at_end values h = step (holds d good values) refl
    where
      step : (b : Bool) → holds d good values ≡ b
          → (rest : Reading A) × (rest.met ≡ [])
          × IsGoing (given_in d given values) (read values) rest
      step true e =
          let one = one_if (holds d good values) e in
          let is = all values in
          let found = count_some d values slots (omega arith) in (
            rests found.0 values,
            none_left found.0 values,
            s.going found.0 good found.1 values (found.2 good),
          )
      step false e =
          let none = none_if (holds d good values) e in
          let is = all values in
          let one = one_if (holds d whole values) h in
          let sum = s.one values in
          let found = some_refused d values refused (omega arith) in (
            refusal found.1 found.0,
            refl,
            s.refused_there values found.0 found.1 found.2,
          )

  pub are_met : AreMet d whole given read
  are_met = record {
    nodes = s.given_nodes;
    there = λ values h.
        let e = at_end values h in
        begun_all (given_in d given values) (read values).met
        (subst (λ (ms : List Met). IsBegun (given_in d given values) (read values).met ms) e.1
        e.2.begun);
    elsewhere = s.elsewhere;
  }

  pub divides : Divides d whole good refused
  divides = record {
    nodes = (node, s.refusals.nodes);
    none_false = s.refusals.none_false;
    one = λ values.
        let first = count_cons d good (conditions refused) values in
        let is = all values in
        let sum = s.one values in
        omega arith;
    distinct = s.refusals.distinct;
  }

  pub refused_so : All (λ (f : Failing). (values : List Bool) → holds d f.cond values ≡ true
      → (read values).ending ≡ ended f.why f.place) refused
  refused_so = IsRefusedAt-each d
      (λ values place why. (read values).ending ≡ ended why place) refused
      (λ values place why r. (s.refused_there values place why r).ends)
