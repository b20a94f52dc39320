-- Steps that read nothing, from earlier places and stores on, and one after another.
use Rattle.std.proofs.Common.{◌≡◌, Bool, true, false, cond, ℕ, List, [], ◌∷◌, append-nil, refl, sym, ap, inl, ◌∙◌, subst, subst₂}
use Rattle.std.specs.Prelude.{All, zip}
use Rattle.std.proofs.lemmas.List.Elements.{All-nil}
use Rattle.hv_cond.specs.Diagram.{Diagram, IsNode, Keeps, holds}
use Rattle.hv_cond.specs.Laws.{Keeps-trans, count_satisfied-kept}
use Rattle.hv_cond.specs.declared.conditions.Cond.{Cond}
use Rattle.hv_given.specs.Given.{AllAgree, AreEpisodes, given_in}
use Rattle.hv_macros.specs.Table.{meaning_in}
use Rattle.hv_plainpp.specs.Reading.{Ending, Met, Reading, and_then, reaches, reading, refused}
use Rattle.hv_preproc.proofs.Chaining.{and_then-assoc, and_then-reading}
use Rattle.hv_preproc.proofs.Kept.{IsAt-kept, IsSound-kept, IsUnit-kept, IsUpTo-kept}
use Rattle.hv_preproc.proofs.Moving.{IsSound-later, IsUpTo-later}
use Rattle.hv_preproc.proofs.Stepping.{reads_by_step}
use Rattle.hv_preproc.specs.declared.unit.Unit.{Unit as UnitSoFar}
use Rattle.hv_preproc.specs.working.Coming.{part_in}
use Rattle.hv_preproc.specs.working.Keys.{IsBefore, IsUntil, key}
use Rattle.hv_preproc.specs.working.Walk.{IsAt, IsSound, IsUnit, IsUpTo, Part, Reads, SoFar, after}
use Rattle.hv_toks.specs.Division.{conditions}
use Rattle.hv_toks.specs.MacroState.{Entry, meaning_of}

------ nothing

-- a part that comes to nothing is read by a step that changes nothing
pub nothing_reads : (old new : Diagram) (before : UnitSoFar) (here : List ℕ) (within : Cond)
    (part : Part) → Keeps old new → IsSound old before here
    → ((values : List Bool) (macros : List Entry) → holds old within values ≡ true
    → holds old before.live values ≡ true
    → meaning_in old before.table values ≡ meaning_of macros
    → part values macros ≡ reading macros)
    → Reads old new before before here here within part
nothing_reads old new before here within part keeps sound nothing =
    reads_by_step old new before before here here within part [] (λ values. []) keeps (inl refl)
    (record {
      unit = IsUnit-kept keeps before sound.unit;
      defines_before = (IsSound-kept keeps before here sound).defines_before;
      gives = sym (append-nil before.given);
      nodes = tt;
      few = All-nil _;
      are_met = λ values. tt;
      faces = λ values others. All-nil _;
      between = λ values. All-nil _;
      counted = λ values most. count_satisfied-kept keeps
          (before.live ∷ conditions before.refusals)
          (sound.unit.live, sound.unit.refusals.nodes) values;
      stays = λ values s. (refl, λ o at. IsAt-kept keeps before sound.unit values o at);
      goes = λ values macros w l m.
          let is = nothing values macros w l m in (
            ap (λ (r : Reading (List Entry)). r.met) is,
            subst (λ (r : Reading (List Entry)). IsAt new before values r.ending) (sym is)
                (IsAt-kept keeps before sound.unit values (reaches macros) (l, m)),
          );
    })

------ readings so far

-- what a unit is up to is judged by the configurations of its condition
pub IsUpTo-same : (diagram : Diagram) (valid : Cond) (u : UnitSoFar) (here : List ℕ)
    (so_far others : SoFar)
    → ((values : List Bool) → holds diagram valid values ≡ true → so_far values ≡ others values)
    → IsUpTo diagram valid u here so_far → IsUpTo diagram valid u here others
IsUpTo-same diagram valid u here so_far others same r = record {
  valid_node = r.valid_node;
  divides = r.divides;
  nodes = r.nodes;
  there = λ values v. subst (λ (s : Reading (List Entry)).
      AreEpisodes (given_in diagram u.given values) s.met) (same values v) (r.there values v);
  stands = λ values v. subst (λ (s : Reading (List Entry)). IsAt diagram u values s.ending)
      (same values v) (r.stands values v);
  faces = λ values more v w. subst₂ (λ (s t : Reading (List Entry)).
      AllAgree (zip (given_in diagram u.given values) s.met)
      (zip (given_in diagram u.given more) t.met)) (same values v) (same more w)
      (r.faces values more v w);
  few = r.few;
  met_before = λ values v. subst (λ (s : Reading (List Entry)).
      All (λ (m : Met). IsBefore (key m.place) here) s.met) (same values v) (r.met_before values v);
}

------ one step, said otherwise

pub reads_later : (old new : Diagram) (before now : UnitSoFar) (earlier here there later : List ℕ)
    (within : Cond) (part : Part) → IsUntil earlier here → IsUntil there later
    → Reads old new before now here there within part
    → Reads old new before now earlier later within part
reads_later old new before now earlier here there later within part first second r = record {
  sound = IsSound-later new now there later second r.sound;
  reads = λ valid so_far u. IsUpTo-later new valid now there later (after old within so_far part)
      second (r.reads valid so_far (IsUpTo-later old valid before earlier here so_far first u));
}

-- a part that is read in the configurations of a condition is read in all, where it is nothing
-- outside the condition
within_all : (b : Bool) (r : Reading (List Entry)) (p : List Entry → Reading (List Entry))
    → cond b (and_then r p) r ≡ and_then r (λ macros. cond b (p macros) (reading macros))
within_all true r p = refl
within_all false r p = sym (and_then-reading r)

-- parts that come to the same where the unit lives are the same after what it is at
alike : (d : Diagram) (u : UnitSoFar) (values : List Bool) (met : List Met)
    (o : Ending (List Entry)) (p q : List Entry → Reading (List Entry)) → IsAt d u values o
    → ((macros : List Entry) → holds d u.live values ≡ true
    → meaning_in d u.table values ≡ meaning_of macros → p macros ≡ q macros)
    → and_then (record { met = met; ending = o }) p ≡ and_then (record { met = met; ending = o }) q
alike d u values met (reaches macros) p q at same =
    ap (λ (r : Reading (List Entry)). and_then (record { met = met; ending = reaches macros })
    (λ value. r)) (same macros at.0 at.1)
alike d u values met (refused why place) p q at same = refl

-- so the readings after them are the same
pub after_same : (old mid : Diagram) (before : UnitSoFar) (within own : Cond) (part other : Part)
    (so_far : SoFar) (values : List Bool)
    → ((macros : List Entry) → holds old before.live values ≡ true
    → meaning_in old before.table values ≡ meaning_of macros
    → part_in mid own part values macros ≡ part_in old within other values macros)
    → IsAt old before values (so_far values).ending
    → after mid own so_far part values ≡ after old within so_far other values
after_same old mid before within own part other so_far values same at =
    within_all (holds mid own values) (so_far values) (part values)
    ∙ alike old before values (so_far values).met (so_far values).ending
    (part_in mid own part values) (part_in old within other values) at same
    ∙ sym (within_all (holds old within values) (so_far values) (other values))

-- a step from an earlier store on, in the configurations of another condition: what counts is what
-- the parts come to where the unit lives
pub reads_as : (old mid new : Diagram) (before now : UnitSoFar) (here there : List ℕ)
    (within own : Cond) (part other : Part) → Keeps old mid → Keeps mid new → IsUnit old before
    → ((values : List Bool) (macros : List Entry) → holds old before.live values ≡ true
    → meaning_in old before.table values ≡ meaning_of macros
    → part_in mid own part values macros ≡ part_in old within other values macros)
    → Reads mid new before now here there own part
    → Reads old new before now here there within other
reads_as old mid new before now here there within own part other first second unit same r = record {
  sound = r.sound;
  reads = λ valid so_far u. IsUpTo-same new valid now there (after mid own so_far part)
      (after old within so_far other)
      (λ values v. after_same old mid before within own part other so_far values (same values)
      (u.stands values (sym ((Keeps-trans first second).meaning valid u.valid_node values) ∙ v)))
      (r.reads valid so_far (IsUpTo-kept first valid before here so_far unit u));
}

in_both : (b : Bool) (r s t : Reading (List Entry)) → (b ≡ true → r ≡ s)
    → cond b r t ≡ cond b s t
in_both true r s t same = same refl
in_both false r s t same = refl

-- parts that come to the same in the live configurations of the condition
pub part_in-same : (old : Diagram) (before : UnitSoFar) (within : Cond) (part other : Part)
    → ((values : List Bool) (macros : List Entry) → holds old within values ≡ true
    → holds old before.live values ≡ true
    → meaning_in old before.table values ≡ meaning_of macros
    → part values macros ≡ other values macros)
    → (values : List Bool) (macros : List Entry) → holds old before.live values ≡ true
    → meaning_in old before.table values ≡ meaning_of macros
    → part_in old within part values macros ≡ part_in old within other values macros
part_in-same old before within part other same values macros l m =
    in_both (holds old within values) (part values macros) (other values macros) (reading macros)
    (λ w. same values macros w l m)

pub reads_same : (old new : Diagram) (before now : UnitSoFar) (here there : List ℕ) (within : Cond)
    (part other : Part) → Keeps old new
    → ((values : List Bool) (macros : List Entry) → holds old within values ≡ true
    → holds old before.live values ≡ true
    → meaning_in old before.table values ≡ meaning_of macros
    → part values macros ≡ other values macros)
    → Reads old new before now here there within part
    → Reads old new before now here there within other
reads_same old new before now here there within part other keeps same r = record {
  sound = r.sound;
  reads = λ valid so_far u. IsUpTo-same new valid now there (after old within so_far part)
      (after old within so_far other)
      (λ values v. after_same old old before within within part other so_far values
      (part_in-same old before within part other same values)
      (u.stands values (sym (keeps.meaning valid u.valid_node values) ∙ v)))
      (r.reads valid so_far u);
}

------ one step after another

twice : (b : Bool) (r : Reading (List Entry)) (p q : List Entry → Reading (List Entry))
    → cond b (and_then (cond b (and_then r p) r) q) (cond b (and_then r p) r)
    ≡ cond b (and_then r (λ macros. and_then (p macros) q)) r
twice true r p q = and_then-assoc r p q
twice false r p q = refl

-- the readings after a part and another one
pub after_twice : (old mid : Diagram) (within : Cond) (part next : Part) (so_far : SoFar)
    (values : List Bool) → Keeps old mid → IsNode old within
    → after mid within (after old within so_far part) next values
    ≡ after old within so_far (λ vs macros. and_then (part vs macros) (next vs)) values
after_twice old mid within part next so_far values keeps node =
    ap (λ (b : Bool). cond b (and_then (after old within so_far part values) (next values))
    (after old within so_far part values)) (keeps.meaning within node values)
    ∙ twice (holds old within values) (so_far values) (part values) (next values)

pub reads_then : (old mid new : Diagram) (before between now : UnitSoFar)
    (here there beyond : List ℕ) (within : Cond) (part next : Part) → Keeps old mid
    → IsNode old within → Reads old mid before between here there within part
    → Reads mid new between now there beyond within next
    → Reads old new before now here beyond within
    (λ values macros. and_then (part values macros) (next values))
reads_then old mid new before between now here there beyond within part next keeps node r s = record {
  sound = s.sound;
  reads = λ valid so_far u. IsUpTo-same new valid now beyond
      (after mid within (after old within so_far part) next)
      (after old within so_far (λ vs macros. and_then (part vs macros) (next vs)))
      (λ values v. after_twice old mid within part next so_far values keeps node)
      (s.reads valid (after old within so_far part) (r.reads valid so_far u));
}
