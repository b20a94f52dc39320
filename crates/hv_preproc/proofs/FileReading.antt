-- A file is read piece by piece: what is left of it, read after what was read so far, is the reading
-- of the whole file.
use Rattle.std.proofs.Common.{◌≡◌, ℕ, Bool, true, false, cond, List, [], ◌∷◌, Option, refl, sym, ap, ◌∙◌, subst}
use Rattle.hv_base.specs.Bundles.{NamedFiles}
use Rattle.hv_base.specs.declared.place.Place.{Place}
use Rattle.hv_cond.specs.Diagram.{Diagram, IsNode, Keeps, holds}
use Rattle.hv_cond.specs.declared.conditions.Cond.{Cond}
use Rattle.hv_macros.specs.Table.{meaning_in}
use Rattle.hv_plainpp.specs.Files.{Entered}
use Rattle.hv_plainpp.specs.Groups.{Group}
use Rattle.hv_plainpp.specs.Lines.{Piece}
use Rattle.hv_plainpp.specs.Preprocessing.{Reader, rest_of_file}
use Rattle.hv_plainpp.specs.Reading.{Ending, Met, Reading, and_then, continued, reaches, refused}
use Rattle.hv_preproc.proofs.Chaining.{and_then-assoc}
use Rattle.hv_preproc.proofs.Later.{IsUpTo-same}
use Rattle.hv_preproc.proofs.Piecewise.{rest_of_file-piece}
use Rattle.hv_preproc.specs.declared.groups.Groups.{Groups}
use Rattle.hv_preproc.specs.declared.unit.Unit.{Unit as UnitSoFar}
use Rattle.hv_preproc.specs.working.OpenGroups.{groups_in}
use Rattle.hv_preproc.specs.working.Parts.{AreRegrouped, groups_after, piece_part}
use Rattle.hv_preproc.specs.working.Walk.{BeginsWith, IsAt, IsUpTo, Part, Reads, SoFar, Stops, after}
use Rattle.hv_toks.specs.Macro.{Macro}
use Rattle.hv_toks.specs.MacroState.{Entry, meaning_of}

------ readings

-- a reading goes on alike where it goes on alike from the value that it comes to
then_same : {A B : Type 0} (met : List Met) (o : Ending A) (f g : A → Reading B)
    → ((a : A) → o ≡ reaches a → f a ≡ g a)
    → and_then (record { met = met; ending = o }) f ≡ and_then (record { met = met; ending = o }) g
then_same met (reaches v) f g same = ap (continued met) (same v refl)
then_same met (refused why place) f g same = refl

pub and_then-same : {A B : Type 0} (r : Reading A) (f g : A → Reading B)
    → ((a : A) → r.ending ≡ reaches a → f a ≡ g a) → and_then r f ≡ and_then r g
and_then-same r f g same = then_same r.met r.ending f g same

-- where a reading comes to a value its end is that of what follows
and_then-ending : {A B : Type 0} (r : Reading A) (f : A → Reading B) (a : A)
    → r.ending ≡ reaches a → (and_then r f).ending ≡ (f a).ending
and_then-ending {A} r f a e =
    ap (λ (o : Ending A). (and_then (record { met = r.met; ending = o }) f).ending) e

------ a reading that goes on

-- some readings are come to, and what is left, read after them, is the reading of the whole
pub record IsGoingOn (old new : Diagram) (valid : Cond) (now : UnitSoFar) (there : List ℕ)
    (within : Cond) (whole left : Part) (so_far : SoFar) : Type 0 where
  pub come_to : SoFar
  pub is_up_to : IsUpTo new valid now there come_to
  pub comes_to : (values : List Bool) → holds old valid values ≡ true
      → after old within so_far whole values ≡ after old within come_to left values

-- the same whatever was read before the whole
abbrev pub GoesOnTo : (old new : Diagram) (before now : UnitSoFar) (here there : List ℕ)
    (within : Cond) (whole left : Part) → Type 0
GoesOnTo old new before now here there within whole left = (valid : Cond) (so_far : SoFar)
    → IsUpTo old valid before here so_far
    → IsGoingOn old new valid now there within whole left so_far

-- what is left is a part, and then what is left after it, by what the part comes to in the
-- configurations that live after it
abbrev pub IsNext : (old new : Diagram) (before now : UnitSoFar) (within : Cond)
    (left part next : Part) → Type 0
IsNext old new before now within left part next = (values : List Bool) (macros : List Entry)
    → holds old within values ≡ true → holds old before.live values ≡ true
    → meaning_in old before.table values ≡ meaning_of macros
    → ((came : List Entry) → (part values macros).ending ≡ reaches came
    → holds new now.live values ≡ true)
    → left values macros ≡ and_then (part values macros) (next values)

-- nothing of the whole is read so far
pub nothing_so_far : (diagram : Diagram) (u : UnitSoFar) (here : List ℕ) (within : Cond)
    (whole left : Part) → ((values : List Bool) → whole values ≡ left values)
    → GoesOnTo diagram diagram u u here here within whole left
nothing_so_far diagram u here within whole left same = λ valid so_far r. record {
  come_to = so_far;
  is_up_to = r;
  comes_to = λ values v. ap (λ (p : List Entry → Reading (List Entry)).
      cond (holds diagram within values) (and_then (so_far values) p) (so_far values)) (same values);
}

-- one part more, in the configurations where it is read
one_more : (b c : Bool) (r : Reading (List Entry)) (left part next : List Entry → Reading (List Entry))
    → c ≡ b → (b ≡ true → and_then r left ≡ and_then (and_then r part) next)
    → cond b (and_then r left) r
    ≡ cond b (and_then (cond c (and_then r part) r) next) (cond c (and_then r part) r)
one_more true c r left part next e same =
    same refl ∙ ap (λ (x : Bool). and_then (cond x (and_then r part) r) next) (sym e)
one_more false c r left part next e same = ap (λ (x : Bool). cond x (and_then r part) r) (sym e)

module _ (first old new : Diagram) (start before : UnitSoFar) (here there : List ℕ)
    (within : Cond) (whole left : Part) (grew : Keeps first old) (keeps : Keeps old new)
    (node : IsNode first within)
    (so : GoesOnTo first old start before here there within whole left) where
  same_within : (values : List Bool) → holds old within values ≡ holds first within values
  same_within values = grew.meaning within node values

  same_after : (so_far : SoFar) (part : Part) (values : List Bool)
      → after first within so_far part values ≡ after old within so_far part values
  same_after so_far part values = ap (λ (b : Bool).
      cond b (and_then (so_far values) (part values)) (so_far values)) (sym (same_within values))

  module _ (valid : Cond) (so_far : SoFar) (u : IsUpTo first valid start here so_far) where
    now_valid : (values : List Bool) → holds first valid values ≡ true
        → holds old valid values ≡ true
    now_valid values v = grew.meaning valid u.valid_node values ∙ v

    first_valid : (values : List Bool) → holds new valid values ≡ true
        → holds first valid values ≡ true
    first_valid values v = sym (grew.meaning valid u.valid_node values)
        ∙ sym (keeps.meaning valid (so valid so_far u).is_up_to.valid_node values) ∙ v

  module _ (now : UnitSoFar) (beyond : List ℕ) (part : Part)
      (reads : Reads old new before now there beyond within part) where
    -- a part was read, after which this is left
    pub part_goes_on : (next : Part) → IsNext old new before now within left part next
        → GoesOnTo first new start now here beyond within whole next
    part_goes_on next is_next = λ valid so_far u.
        let k = so valid so_far u in
        let up = reads.reads valid k.come_to k.is_up_to in
        record {
          come_to = after old within k.come_to part;
          is_up_to = up;
          comes_to = λ values v. k.comes_to values v
              ∙ one_more (holds first within values) (holds old within values)
              (k.come_to values) (left values) (part values) (next values) (same_within values)
              (λ w. and_then-same (k.come_to values) (left values)
              (λ macros. and_then (part values macros) (next values))
              (λ macros e.
              let stands = subst (IsAt old before values) e
              (k.is_up_to.stands values (now_valid valid so_far u values v)) in
              let inside : holds old within values ≡ true = same_within values ∙ w in
              is_next values macros inside stands.0 stands.1
              (λ came is. (subst (IsAt new now values)
              (ap (λ (b : Bool). (cond b (and_then (k.come_to values) (part values))
              (k.come_to values)).ending) inside
              ∙ and_then-ending (k.come_to values) (part values) macros e ∙ is)
              (up.stands values (keeps.meaning valid k.is_up_to.valid_node values
              ∙ now_valid valid so_far u values v))).0))
              ∙ sym (and_then-assoc (k.come_to values) (part values) (next values)));
        }
    -- all that is left was read

  pub all_is_read : (now : UnitSoFar) (beyond : List ℕ)
      → Reads old new before now there beyond within left
      → Reads first new start now here beyond within whole
  all_is_read now beyond reads = record {
    sound = reads.sound;
    reads = λ valid so_far u.
        let k = so valid so_far u in
        IsUpTo-same new valid now beyond (after old within k.come_to left)
        (after first within so_far whole)
        (λ values v. sym (k.comes_to values (first_valid valid so_far u values v)
        ∙ same_after k.come_to left values))
        (reads.reads valid k.come_to k.is_up_to);
  }

  -- what is left stops
  pub left_stops : (place : Place) (conds : List Cond)
      → Stops old new before there within left place conds
      → Stops first new start here within whole place conds
  left_stops place conds stops = λ valid so_far u.
      let k = so valid so_far u in
      λ more begins. stops valid k.come_to k.is_up_to more (λ values v. (
        subst (λ (r : Reading (List Entry)). BeginsWith r (more values))
            (k.comes_to values (first_valid valid so_far u values v) ∙ same_after k.come_to left values)
            (begins values v).0,
        (begins values v).1,
      ))

------ pieces

-- the groups that a directive comes to; none where it is refused
abbrev pub chosen : Reading (List Group) → List Group
chosen r = elim r.ending [ reaches groups ↦ groups | refused why place ↦ [] ]

chosen_only : (r : Reading (List Group)) (groups : List Group) → r.ending ≡ reaches groups
    → groups ≡ chosen r
chosen_only r groups e = sym (ap (λ (o : Ending (List Group)).
    chosen (record { met = r.met; ending = o })) e)

-- the rest of a file is its first piece, and then the rest from there
pub rest_from : (bundle : NamedFiles) (reader : Option Reader) (at : Entered) (groups : List Group)
    (p : Piece) (pieces : List Piece) (meaning : List ℕ → Macro) (macros : List Entry)
    → meaning ≡ meaning_of macros
    → rest_of_file bundle reader at groups (p ∷ pieces) macros
    ≡ and_then (piece_part bundle reader at groups p macros)
    (rest_of_file bundle reader at (chosen (groups_after at meaning p groups)) pieces)
rest_from bundle reader at groups p pieces meaning macros same =
    rest_of_file-piece bundle reader at groups (chosen (groups_after at meaning p groups)) p pieces
    macros (λ g e. chosen_only (groups_after at meaning p groups) g
    (ap (λ (m : List ℕ → Macro). (groups_after at m p groups).ending) same ∙ e))

-- where groups are those of each configuration that lives, what is left after a piece are the pieces
-- after it where these groups are open
pub piece_next : (old new : Diagram) (before now : UnitSoFar) (groups after : Groups)
    (bundle : NamedFiles) (reader : Option Reader) (at : Entered) (p : Piece) (pieces : List Piece)
    → AreRegrouped old new groups after now.live
    (λ values. groups_after at (meaning_in old before.table values) p)
    → IsNext old new before now groups.cond
    (λ values. rest_of_file bundle reader at (groups_in old groups values) (p ∷ pieces))
    (λ values. piece_part bundle reader at (groups_in old groups values) p)
    (λ values. rest_of_file bundle reader at (groups_in new after values) pieces)
piece_next old new before now groups after bundle reader at p pieces regrouped =
    λ values macros w l m lives.
    rest_from bundle reader at (groups_in old groups values) p pieces
    (meaning_in old before.table values) macros m
    ∙ and_then-same (piece_part bundle reader at (groups_in old groups values) p macros) _ _
    (λ came e. ap (λ (gs : List Group). rest_of_file bundle reader at gs pieces came)
    (sym (chosen_only (groups_after at (meaning_in old before.table values) p
    (groups_in old groups values)) (groups_in new after values)
    (regrouped values w (lives came e)))))
