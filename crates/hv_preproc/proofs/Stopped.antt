-- Steps that find too many faces at a place.
use Rattle.std.proofs.Common.{◌≡◌, ◌+◌, ◌<◌, ◌⊎◌, Bool, true, false, cond, ℕ, zero, suc, List, [], ◌∷◌, ◌++◌, append-nil, append_assoc, length, refl, sym, ap, inl, inr, ◌∙◌, subst, arith, true≢false}
use Rattle.std.specs.Prelude.{All, Contains, slice_index_or}
use Rattle.std.proofs.lemmas.List.Elements.{All-cons, All-head, All-nil, All-tail, Contains-append_left, Contains-append_right}
use Rattle.std.proofs.lemmas.List.Sums.{sum_by-cons}
use Rattle.hv_base.specs.declared.place.Place.{Place}
use Rattle.hv_cond.specs.Diagram.{Diagram, IsNode, Keeps, holds}
use Rattle.hv_cond.specs.Laws.{Keeps-trans}
use Rattle.hv_cond.specs.Parts.{count_satisfied}
use Rattle.hv_cond.specs.declared.conditions.Cond.{Cond}
use Rattle.hv_faces.specs.Faces.{AllDiffer, AllWithin, DiffersFromAll}
use Rattle.hv_macros.specs.Table.{meaning_in}
use Rattle.hv_plain.specs.episode.Expansion.{Event}
use Rattle.hv_plainpp.specs.Laws.{DifferInPlace, IsFree}
use Rattle.hv_plainpp.specs.Plainpp.{HasFace}
use Rattle.hv_plainpp.specs.Reading.{Ending, Met, Reading, and_then, reaches, refused}
use Rattle.hv_preproc.proofs.Chaining.{and_then-assoc}
use Rattle.hv_preproc.proofs.Ending.{keeping-met}
use Rattle.hv_preproc.proofs.Kept.{IsUpTo-kept, meanings_kept}
use Rattle.hv_preproc.proofs.Later.{after_same, after_twice, part_in-same}
use Rattle.hv_preproc.proofs.Moving.{IsUpTo-later}
use Rattle.hv_preproc.specs.declared.unit.Unit.{Unit as UnitSoFar}
use Rattle.hv_preproc.specs.working.Coming.{IsPartIn, part_in}
use Rattle.hv_preproc.specs.working.Keys.{IsUntil}
use Rattle.hv_preproc.specs.working.Parts.{keeping}
use Rattle.hv_preproc.specs.working.Walk.{BeginsWith, IsAt, IsUnit, IsUpTo, Part, Reads, ShowsTooMany, SoFar, Stops, after}
use Rattle.hv_texts.specs.Faces.{HasTooMany, HaveOneFaceAt, Meets}
use Rattle.hv_toks.specs.Division.{conditions}
use Rattle.hv_toks.specs.Macro.{Macro}
use Rattle.hv_toks.specs.MacroState.{Entry, meaning_of}

------ episodes of one place

-- the first episode, or one behind it
first_or : (x m : Met) (met : List Met) (k : ℕ) → k < length (x ∷ met)
    → slice_index_or (x ∷ met) k m ≡ m → (x ≡ m) ⊎ Contains met m
first_or x m met zero l e = inl e
first_or x m met (suc k) l e = inr (k, omega (arith, l), e)

free_of : (place : Place) (met : List Met) (m : Met) → IsFree place met → Contains met m
    → ¬ (place ≡ m.place)
free_of place [] m free c = absurd (omega (arith, c.1))
free_of place (x ∷ met) m free c =
    split (first_or x m met c.0 c.1 c.2) (free_of place met m free.1)
  where
    split : (x ≡ m) ⊎ Contains met m → (Contains met m → ¬ (place ≡ m.place)) → ¬ (place ≡ m.place)
    split (inl e) behind = λ same. free.0 (same ∙ ap (λ (n : Met). n.place) (sym e))
    split (inr more) behind = behind more

-- where no place is met twice, there is one episode at a place
one_at : (met : List Met) (m n : Met) → DifferInPlace met → Contains met m → Contains met n
    → m.place ≡ n.place → m ≡ n
one_at [] m n differ c d same = absurd (omega (arith, c.1))
one_at (x ∷ met) m n differ c d same =
    split (first_or x m met c.0 c.1 c.2) (first_or x n met d.0 d.1 d.2)
    (λ e f. one_at met m n differ.1 e f same)
  where
    split : (x ≡ m) ⊎ Contains met m → (x ≡ n) ⊎ Contains met n
        → (Contains met m → Contains met n → m ≡ n) → m ≡ n
    split (inl e) (inl f) behind = sym e ∙ f
    split (inl e) (inr f) behind = absurd (free_of x.place met n differ.0 f
        (ap (λ (n : Met). n.place) e ∙ same))
    split (inr e) (inl f) behind = absurd (free_of x.place met m differ.0 e
        (ap (λ (n : Met). n.place) f ∙ sym same))
    split (inr e) (inr f) behind = behind e f

-- an episode that a reading meets is met by the whole, and its face there is its only one
face_of : {A B : Type 0} (r : Reading A) (whole : Reading B) (place : Place) (face own : List Event)
    → ((m : Met) → Contains r.met m → Contains whole.met m) → DifferInPlace whole.met
    → HasFace whole place face → HasFace r place own → HasFace r place face
face_of r whole place face own among differ w o =
    let same : o.0 ≡ w.0 =
    one_at whole.met o.0 w.0 differ (among o.0 o.1) w.1 (o.2 ∙ sym w.2) in
    (o.0, o.1, o.2, ap (λ (m : Met). m.face) same ∙ w.3)

------ conditions that differ in face

module _ (d : Diagram) (same coarse : List Bool → List Bool → Type 0) (IsMet : List Bool → Type 0)
    (finer : (values others : List Bool) → IsMet values → IsMet others → coarse values others
    → same values others) where
  abbrev AreThere : Cond → Type 0
  AreThere c = (values : List Bool) → holds d c values ≡ true → IsMet values

  differs_from_all : (c : Cond) (conds : List Cond) → AreThere c → All AreThere conds
      → DiffersFromAll d same c conds → DiffersFromAll d coarse c conds
  differs_from_all c [] h all differ = tt
  differs_from_all c (e ∷ conds) h all differ = (
    λ values others first second one. differ.0 values others first second
        (finer values others (h values first) (All-head AreThere e conds all others second) one),
    differs_from_all c conds h (All-tail AreThere e conds all) differ.1,
  )

  all_differ : (conds : List Cond) → All AreThere conds → AllDiffer d same conds
      → AllDiffer d coarse conds
  all_differ [] all differ = tt
  all_differ (c ∷ conds) all differ = (
    differs_from_all c conds (All-head AreThere c conds all) (All-tail AreThere c conds all)
        differ.0,
    all_differ conds (All-tail AreThere c conds all) differ.1,
  )

within_more : (d : Diagram) (some more : List Bool → Bool)
    → ((values : List Bool) → some values ≡ true → more values ≡ true) → (conds : List Cond)
    → AllWithin d some conds → AllWithin d more conds
within_more d some more wider [] w = tt
within_more d some more wider (c ∷ conds) w = (
  record {
    node = w.0.node;
    possible = w.0.possible;
    within = λ values h. wider values (w.0.within values h);
  },
  within_more d some more wider conds w.1,
)

-- what holds of each configuration of a condition's and of those of each condition within it
both_there : (d : Diagram) (of : List Bool → Bool) (P : List Bool → Type 0) (conds : List Cond)
    → AllWithin d of conds
    → All (λ (c : Cond). (values : List Bool) → holds d c values ≡ true → P values) conds
    → All (λ (c : Cond). (values : List Bool) → holds d c values ≡ true
    → (of values ≡ true) × P values) conds
both_there d of P [] w all = All-nil _
both_there d of P (c ∷ conds) w all =
    All-cons (λ (c : Cond). (values : List Bool) → holds d c values ≡ true
    → (of values ≡ true) × P values) c conds
    (λ values h. (
      w.0.within values h,
      All-head (λ (c : Cond). (values : List Bool)
          → holds d c values ≡ true → P values) c conds all values h,
    ))
    (both_there d of P conds w.1 (All-tail (λ (c : Cond). (values : List Bool)
    → holds d c values ≡ true → P values) c conds all))

------ a part that stops

-- a live configuration is one of the condition that is divided
lives_in : (valid live : Bool) (others : ℕ) → cond live 1 0 + others ≡ cond valid 1 0
    → live ≡ true → valid ≡ true
lives_in true live others e l = refl
lives_in false true others e l = absurd (omega (arith, e))
lives_in false false others e l = absurd (true≢false (sym l))

module _ {A : Type 0} (old mid came : Diagram) (before : UnitSoFar) (here : List ℕ)
    (within own : Cond) (part : Part) (read : (List ℕ → Macro) → Reading A) (place : Place)
    (conds : List Cond) (to_mid : Keeps old mid) (from_mid : Keeps mid came)
    (unit : IsUnit old before) (node : IsNode mid own)
    (is_part : IsPartIn old mid before.live within own read part)
    (many : HasTooMany came own (λ values. read (meaning_in mid before.table values)) place conds)
    (valid : Cond) (so_far : SoFar) (u : IsUpTo old valid before here so_far) (whole : SoFar)
    (begins : (values : List Bool) → holds came valid values ≡ true
    → BeginsWith (after old within so_far part values) (whole values)
    × DifferInPlace (whole values).met) where
  abbrev reads_at : List Bool → Reading A
  reads_at values = read (meaning_in mid before.table values)

  inside : (values : List Bool) → holds came own values ≡ true
      → (holds old within values ≡ true) × (holds old before.live values ≡ true)
  inside values e = is_part.inside values (sym (from_mid.meaning own node values) ∙ e)

  is_valid : (values : List Bool) → holds came own values ≡ true → holds came valid values ≡ true
  is_valid values e = (Keeps-trans to_mid from_mid).meaning valid u.valid_node values
      ∙ lives_in (holds old valid values) (holds old before.live values)
      (count_satisfied old (conditions before.refusals) values)
      (sym (sum_by-cons _ before.live (conditions before.refusals)) ∙ u.divides.one values)
      (inside values e).1

  part_met : (values : List Bool) (macros : List Entry) → holds came own values ≡ true
      → meaning_in old before.table values ≡ meaning_of macros
      → (part values macros).met ≡ (reads_at values).met
  part_met values macros e m =
      ap (λ (r : Reading (List Entry)). r.met)
      (is_part.read_there values macros (sym (from_mid.meaning own node values) ∙ e)
      ∙ ap (λ (f : List ℕ → Macro). keeping (read f) macros)
      (sym (meanings_kept to_mid before.table unit.table values ∙ m)))
      ∙ keeping-met (reads_at values).met (reads_at values).ending macros

  met_then : (values : List Bool) (reads : Bool) (met : List Met) (o : Ending (List Entry))
      → IsAt old before values o → holds came own values ≡ true → reads ≡ true
      → (cond reads (and_then (record { met = met; ending = o }) (part values))
      (record { met = met; ending = o })).met ≡ met ++ (reads_at values).met
  met_then values false met o at e w = absurd (true≢false (sym w))
  met_then values true met (reaches macros) at e w =
      ap (λ (ms : List Met). met ++ ms) (part_met values macros e at.1)
  met_then values true met (refused why at_place) at e w =
      absurd (true≢false (sym (inside values e).1 ∙ at.0))

  among : (values : List Bool) → holds came own values ≡ true → (m : Met)
      → Contains (reads_at values).met m → Contains (whole values).met m
  among values e m c =
      let v = is_valid values e in
      let start : (whole values).met
      ≡ ((so_far values).met ++ (reads_at values).met) ++ (begins values v).0.0 =
      (begins values v).0.1
      ∙ ap (λ (ms : List Met). ms ++ (begins values v).0.0)
      (met_then values (holds old within values) (so_far values).met (so_far values).ending
      (u.stands values (sym ((Keeps-trans to_mid from_mid).meaning valid u.valid_node values) ∙ v))
      e (inside values e).0) in
      subst (λ (ms : List Met). Contains ms m) (sym start)
      (Contains-append_left ((so_far values).met ++ (reads_at values).met) (begins values v).0.0 m
      (Contains-append_right (so_far values).met (reads_at values).met m c))

  abbrev IsMet : List Bool → Type 0
  IsMet values = (holds came own values ≡ true) × Meets (λ others. reads_at others) place values

  met_whole : (values : List Bool) → IsMet values → Meets whole place values
  met_whole values h =
      (h.1.0, (h.1.1.0, among values h.0 h.1.1.0 h.1.1.1, h.1.1.2, h.1.1.3))

  finer : (values others : List Bool) → IsMet values → IsMet others
      → HaveOneFaceAt whole place values others
      → HaveOneFaceAt (λ vs. reads_at vs) place values others
  finer values others h k one = (
    one.0,
    face_of (reads_at values) (whole values) place one.0 h.1.0 (among values h.0)
        (begins values (is_valid values h.0)).1 one.1 h.1.1,
    face_of (reads_at others) (whole others) place one.0 k.1.0 (among others k.0)
        (begins others (is_valid others k.0)).1 one.2 k.1.1,
  )

  each_met : All (λ (c : Cond). (values : List Bool) → holds came c values ≡ true → IsMet values)
      conds
  each_met = both_there came (λ values. holds came own values)
      (λ values. Meets (λ others. reads_at others) place values) conds many.many.within many.there

  stopped : HasTooMany came valid whole place conds
  stopped = record {
    many = record {
      count = many.many.count;
      within = within_more came (λ values. holds came own values) (λ values. holds came valid values)
          is_valid conds many.many.within;
      differ = all_differ came (HaveOneFaceAt (λ vs. reads_at vs) place)
          (HaveOneFaceAt whole place) IsMet finer conds each_met many.many.differ;
    };
    there = λ k c l values h. met_whole values (each_met k c l values h);
  }

-- too many faces in a part are too many in each reading that begins with it
pub came_stops : {A : Type 0} (old mid came : Diagram) (before : UnitSoFar) (here : List ℕ)
    (within own : Cond) (part : Part) (read : (List ℕ → Macro) → Reading A) (place : Place)
    (conds : List Cond) → Keeps old mid → Keeps mid came → IsUnit old before → IsNode mid own
    → IsPartIn old mid before.live within own read part
    → HasTooMany came own (λ values. read (meaning_in mid before.table values)) place conds
    → Stops old came before here within part place conds
came_stops old mid came before here within own part read place conds to_mid from_mid unit node
    is_part many = λ valid so_far u whole begins.
    stopped old mid came before here within own part read place conds to_mid from_mid unit node
    is_part many valid so_far u whole begins

------ a step that stops, said otherwise

pub stops_later : (old new : Diagram) (before : UnitSoFar) (earlier here : List ℕ) (within : Cond)
    (part : Part) (place : Place) (conds : List Cond) → IsUntil earlier here
    → Stops old new before here within part place conds
    → Stops old new before earlier within part place conds
stops_later old new before earlier here within part place conds later s =
    λ valid so_far u. s valid so_far (IsUpTo-later old valid before earlier here so_far later u)

-- too many faces are shown alike of readings that are the same
shows_same : (d : Diagram) (valid : Cond) (so_far others : SoFar) (place : Place)
    (conds : List Cond)
    → ((values : List Bool) → holds d valid values ≡ true → so_far values ≡ others values)
    → ShowsTooMany d valid so_far place conds → ShowsTooMany d valid others place conds
shows_same d valid so_far others place conds same shows = λ whole begins. shows whole
    (λ values v. (
      subst (λ (r : Reading (List Entry)). BeginsWith r (whole values)) (sym (same values v))
          (begins values v).0,
      (begins values v).1,
    ))

pub stops_as : (old mid new : Diagram) (before : UnitSoFar) (here : List ℕ) (within own : Cond)
    (part other : Part) (place : Place) (conds : List Cond) → Keeps old mid → Keeps mid new
    → IsUnit old before
    → ((values : List Bool) (macros : List Entry) → holds old before.live values ≡ true
    → meaning_in old before.table values ≡ meaning_of macros
    → part_in mid own part values macros ≡ part_in old within other values macros)
    → Stops mid new before here own part place conds
    → Stops old new before here within other place conds
stops_as old mid new before here within own part other place conds first second unit same s =
    λ valid so_far u. shows_same new valid (after mid own so_far part)
    (after old within so_far other) place conds
    (λ values v. after_same old mid before within own part other so_far values (same values)
    (u.stands values (sym ((Keeps-trans first second).meaning valid u.valid_node values) ∙ v)))
    (s valid so_far (IsUpTo-kept first valid before here so_far unit u))

pub stops_same : (old new : Diagram) (before : UnitSoFar) (here : List ℕ) (within : Cond)
    (part other : Part) (place : Place) (conds : List Cond) → Keeps old new
    → ((values : List Bool) (macros : List Entry) → holds old within values ≡ true
    → holds old before.live values ≡ true
    → meaning_in old before.table values ≡ meaning_of macros
    → part values macros ≡ other values macros)
    → Stops old new before here within part place conds
    → Stops old new before here within other place conds
stops_same old new before here within part other place conds keeps same s =
    λ valid so_far u. shows_same new valid (after old within so_far part)
    (after old within so_far other) place conds
    (λ values v. after_same old old before within within part other so_far values
    (part_in-same old before within part other same values)
    (u.stands values (sym (keeps.meaning valid u.valid_node values) ∙ v))) (s valid so_far u)

-- a later step stops
pub stops_after : (old mid new : Diagram) (before between : UnitSoFar) (here there : List ℕ)
    (within : Cond) (part next : Part) (place : Place) (conds : List Cond) → Keeps old mid
    → IsNode old within → Reads old mid before between here there within part
    → Stops mid new between there within next place conds
    → Stops old new before here within
    (λ values macros. and_then (part values macros) (next values)) place conds
stops_after old mid new before between here there within part next place conds keeps node r s =
    λ valid so_far u. shows_same new valid (after mid within (after old within so_far part) next)
    (after old within so_far (λ vs macros. and_then (part vs macros) (next vs))) place conds
    (λ values v. after_twice old mid within part next so_far values keeps node)
    (s valid (after old within so_far part) (r.reads valid so_far u))

------ whatever comes after

begins_end : {A B : Type 0} (met : List Met) (o : Ending A) (f : A → Reading B)
    → BeginsWith (record { met = met; ending = o }) (and_then (record { met = met; ending = o }) f)
begins_end met (reaches value) f = ((f value).met, refl)
begins_end met (refused why place) f = ([], sym (append-nil met))

begins_twice : {A B C : Type 0} (r : Reading A) (s : Reading B) (t : Reading C) → BeginsWith r s
    → BeginsWith s t → BeginsWith r t
begins_twice r s t first second = (
  first.0 ++ second.0,
  second.1 ∙ ap (λ (ms : List Met). ms ++ second.0) first.1
      ∙ append_assoc r.met first.0 second.0,
)

begins_on : (b : Bool) (r : Reading (List Entry)) (p q : List Entry → Reading (List Entry))
    → BeginsWith (cond b (and_then r p) r)
    (cond b (and_then r (λ macros. and_then (p macros) q)) r)
begins_on true r p q = subst (BeginsWith (and_then r p)) (and_then-assoc r p q)
    (begins_end (and_then r p).met (and_then r p).ending q)
begins_on false r p q = ([], sym (append-nil r.met))

-- a step stops, whatever comes after it
pub stops_first : (old new : Diagram) (before : UnitSoFar) (here : List ℕ) (within : Cond)
    (part next : Part) (place : Place) (conds : List Cond)
    → Stops old new before here within part place conds
    → Stops old new before here within
    (λ values macros. and_then (part values macros) (next values)) place conds
stops_first old new before here within part next place conds s =
    λ valid so_far u whole begins. s valid so_far u whole
    (λ values v. (
      begins_twice (after old within so_far part values)
          (after old within so_far (λ vs macros. and_then (part vs macros) (next vs)) values)
          (whole values)
          (begins_on (holds old within values) (so_far values) (part values) (next values))
          (begins values v).0,
      (begins values v).1,
    ))
