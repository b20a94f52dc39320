-- What is read where lines are processed: the text between two directives, and an included file.
use Rattle.std.proofs.Common.{◌≡◌, ◌<◌, ◌&&◌, ◌++◌, ◌+◌, ℕ, Bool, true, false, cond, List, [], ◌∷◌, Option, append_assoc, refl, sym, ap, ◌∙◌, inl, inr, subst, arith, true≢false}
use Rattle.std.proofs.lemmas.Bool.{cases_eq}
use Rattle.hv_base.specs.Bundles.{NamedFiles}
use Rattle.hv_base.specs.declared.place.Place.{Place}
use Rattle.hv_cond.specs.Diagram.{Diagram, IsNode, Keeps, holds}
use Rattle.hv_cond.specs.declared.conditions.Cond.{Cond}
use Rattle.hv_given.specs.declared.given.Given.{Given}
use Rattle.hv_macros.specs.Table.{meaning_in}
use Rattle.hv_plain.specs.declared.episode.RunEnd.{RunEnd}
use Rattle.hv_plainpp.specs.Directives.{Action, Directive, action, conditional, directive_of}
use Rattle.hv_plainpp.specs.Files.{Entered}
use Rattle.hv_plainpp.specs.Groups.{Group, is_processed}
use Rattle.hv_plainpp.specs.Lines.{directive}
use Rattle.hv_plainpp.specs.Preprocessing.{Reader, entered, obeyed}
use Rattle.hv_plainpp.specs.Reading.{Reading, reading}
use Rattle.hv_plainpp.specs.Text.{episodes}
use Rattle.hv_preproc.proofs.Came.{came_reads}
use Rattle.hv_preproc.proofs.Kept.{IsSound-kept}
use Rattle.hv_preproc.proofs.KeyOrder.{IsBefore-lower, IsBefore-within}
use Rattle.hv_preproc.proofs.Later.{nothing_reads, reads_as, reads_later}
use Rattle.hv_preproc.proofs.Moving.{IsSound-later}
use Rattle.hv_preproc.proofs.Pieces.{IsUntil-lower, Rises-until, episodes-between}
use Rattle.hv_preproc.proofs.Stopped.{came_stops, stops_as, stops_later}
use Rattle.hv_preproc.specs.declared.groups.Groups.{Groups}
use Rattle.hv_preproc.specs.declared.page.Page.{Page}
use Rattle.hv_preproc.specs.declared.unit.Unit.{Unit as UnitSoFar}
use Rattle.hv_preproc.specs.working.Coming.{IsPartIn, part_in}
use Rattle.hv_preproc.specs.working.Keys.{IsUntil, Rises, reached}
use Rattle.hv_preproc.specs.working.OpenGroups.{groups_in}
use Rattle.hv_preproc.specs.working.Parts.{IsInclusion, action_part, group_part, keeping, piece_part, reader_at, text_part}
use Rattle.hv_preproc.specs.working.Taking.{TakesIn}
use Rattle.hv_preproc.specs.working.Walk.{IsSound, IsUnit, Reads, Stops}
use Rattle.hv_texts.specs.Faces.{HasTooMany}
use Rattle.hv_texts.specs.Readings.{AreByFace, AreFew, AreMet, Ends}
use Rattle.hv_toks.specs.MacroState.{Entry, meaning_of}
use Rattle.hv_toks.specs.declared.parted.Failing.{Failing}
use Rattle.hv_toks.specs.declared.token.PpTok.{PpTok}

------ where lines are processed

-- these are the live configurations of a file in which lines are processed
abbrev pub AreProcessed : (old mid : Diagram) → Groups → (live own : Cond) → Type 0
AreProcessed old mid groups live own = (values : List Bool) → holds mid own values
    ≡ ((holds old groups.cond values && is_processed (groups_in old groups values))
    && holds old live values)

all_hold : (within processed live : Bool) → ((within && processed) && live) ≡ true
    → (within ≡ true) × (processed ≡ true) × (live ≡ true)
all_hold true true true e = (refl, refl, refl)
all_hold true true false e = absurd (true≢false (sym e))
all_hold true false live e = absurd (true≢false (sym e))
all_hold false processed live e = absurd (true≢false (sym e))

not_processed : (within processed live : Bool) → ((within && processed) && live) ≡ false
    → within ≡ true → live ≡ true → processed ≡ false
not_processed true true true e w l = e
not_processed true true false e w l = absurd (true≢false (sym l))
not_processed true false live e w l = refl
not_processed false processed live e w l = absurd (true≢false (sym w))

------ texts

-- a text by whether it is processed
abbrev text_by : Entered → (run : List PpTok) → RunEnd → List Entry → Bool
    → Reading (List Entry)
text_by at run ends macros processed = elim processed [
  | true ↦ keeping (episodes at ends (meaning_of macros) 0 run) macros
  | false ↦ reading macros
]

pub text_is_part : (old mid : Diagram) (groups : Groups) (live own : Cond) (at : Entered)
    (run : List PpTok) (ends : RunEnd) → AreProcessed old mid groups live own
    → IsPartIn old mid live groups.cond own (λ macros. episodes at ends macros 0 run)
    (λ values. text_part at (groups_in old groups values) run ends)
text_is_part old mid groups live own at run ends are = record {
  inside = λ values e.
      let h = all_hold (holds old groups.cond values) (is_processed (groups_in old groups values))
      (holds old live values) (sym (are values) ∙ e) in (h.0, h.2);
  read_there = λ values macros e. ap (text_by at run ends macros)
      (all_hold (holds old groups.cond values) (is_processed (groups_in old groups values))
      (holds old live values) (sym (are values) ∙ e)).1;
  nothing_else = λ values macros e w l. ap (text_by at run ends macros)
      (not_processed (holds old groups.cond values) (is_processed (groups_in old groups values))
      (holds old live values) (sym (are values) ∙ e) w l);
}

module _ (old mid : Diagram) (before : UnitSoFar) (groups : Groups) (own : Cond) (at : Entered)
    (low high : ℕ) (run : List PpTok) (ends : RunEnd) (to_mid : Keeps old mid)
    (rises : Rises low high run) (are : AreProcessed old mid groups before.live own) where
  abbrev read_at : List Bool → Reading (Unit {0})
  read_at values = episodes at ends (meaning_in mid before.table values) 0 run

  -- a text that is processed
  pub text_reads : (came new : Diagram) (now : UnitSoFar) (good : Cond) (given : List Given)
      (failing : List Failing) → Keeps mid came → Keeps came new
      → IsSound old before (reached at low) → IsNode mid own
      → AreMet came own given read_at → AreByFace came own given read_at → AreFew given
      → Ends came own good failing (λ values value. Unit {0}) read_at
      → TakesIn came new before now given failing → IsUnit new now
      → Reads old new before now (reached at low) (reached at high) groups.cond
      (λ values. text_part at (groups_in old groups values) run ends)
  text_reads came new now good given failing from_mid to_new sound node met faces few ends_so taken
      unit =
      came_reads old mid came new before now (reached at low) (reached at high) groups.cond own good
      (λ values. text_part at (groups_in old groups values) run ends) given failing
      (λ values value. Unit {0}) (λ macros. episodes at ends macros 0 run)
      to_mid from_mid to_new sound (IsUntil-lower at.stack low high (Rises-until low high run rises))
      node (text_is_part old mid groups before.live own at run ends are)
      (record {
        met = met;
        faces = faces;
        few = few;
        ends = ends_so;
        between = λ macros. episodes-between at low high ends macros 0 run rises;
      }) taken unit

  -- one that is processed nowhere
  pub text_skipped : IsSound old before (reached at low)
      → ((values : List Bool) → holds mid own values ≡ false)
      → Reads old mid before before (reached at low) (reached at high) groups.cond
      (λ values. text_part at (groups_in old groups values) run ends)
  text_skipped sound nowhere =
      reads_later old mid before before (reached at low) (reached at low) (reached at low)
      (reached at high) groups.cond (λ values. text_part at (groups_in old groups values) run ends)
      (inl refl) (IsUntil-lower at.stack low high (Rises-until low high run rises))
      (nothing_reads old mid before (reached at low) groups.cond
      (λ values. text_part at (groups_in old groups values) run ends) to_mid sound
      (λ values macros w l m.
      (text_is_part old mid groups before.live own at run ends are).nothing_else values macros
      (nowhere values) w l))

  -- one of which an episode has too many faces
  pub text_stops : (came : Diagram) (place : Place) (conds : List Cond) → Keeps mid came
      → IsUnit old before → IsNode mid own → HasTooMany came own read_at place conds
      → Stops old came before (reached at low) groups.cond
      (λ values. text_part at (groups_in old groups values) run ends) place conds
  text_stops came place conds from_mid unit node many =
      came_stops old mid came before (reached at low) groups.cond own
      (λ values. text_part at (groups_in old groups values) run ends)
      (λ macros. episodes at ends macros 0 run) place conds to_mid from_mid unit node
      (text_is_part old mid groups before.live own at run ends are) many

------ included files

-- a directive by which it is
abbrev pub directive_by : NamedFiles → Option Reader → Entered → List Group → (hash : PpTok)
    → List Entry → Directive → Reading (List Entry)
directive_by bundle reader at groups hash macros d = elim d [
  | conditional c ↦ group_part at groups hash c macros
  | action a ↦ action_part bundle reader at groups hash a macros
]

only_there : (own within processed live : Bool) (x y : Reading (List Entry)) (macros : List Entry)
    → own ≡ ((within && processed) && live) → live ≡ true → x ≡ y
    → cond own x (reading macros) ≡ cond within
    (elim processed as (λ _. Reading (List Entry)) [ true ↦ y | false ↦ reading macros ])
    (reading macros)
only_there own within processed live x y macros is l e = by own within processed live is l
  where
    by : (own within processed live : Bool) → own ≡ ((within && processed) && live) → live ≡ true
        → cond own x (reading macros) ≡ cond within
        (elim processed as (λ _. Reading (List Entry)) [ true ↦ y | false ↦ reading macros ])
        (reading macros)
    by true true true live is l = e
    by false true true true is l = absurd (true≢false (sym is))
    by false true true false is l = absurd (true≢false (sym l))
    by true true false live is l = absurd (true≢false is)
    by false true false live is l = refl
    by true false processed live is l = absurd (true≢false is)
    by false false processed live is l = refl

module _ (old mid new : Diagram) (before : UnitSoFar) (groups : Groups) (own : Cond)
    (bundle : NamedFiles) (at : Entered) (hash : PpTok) (line : List PpTok) (a : Action)
    (left : ℕ) (page : Page) (stack : List ℕ) (low high : ℕ) (to_mid : Keeps old mid)
    (from_mid : Keeps mid new) (unit : IsUnit old before)
    (rises : Rises low high (hash ∷ line)) (are : AreProcessed old mid groups before.live own)
    (is_action : directive_of line ≡ action a)
    (is : IsInclusion bundle at hash a left page stack) where
  within_line : hash.span.start < high
  within_line = omega (arith, Rises-until (hash.span.start + 1) high line rises.1)

  here_first : IsUntil (reached at low) (stack ++ 0 ∷ [])
  here_first = subst (λ (s : List ℕ). IsUntil (reached at low) (s ++ 0 ∷ [])) (sym is.reached_by)
      (subst (IsUntil (reached at low)) (sym (append_assoc at.stack (hash.span.start ∷ []) (0 ∷ [])))
      (inr (IsBefore-within at.stack (low ∷ []) (hash.span.start ∷ 0 ∷ [])
      (elim (cases_eq low hash.span.start) [
        | inl e ↦ inr (e, tt)
        | inr ne ↦ inl (omega (arith, rises.0, ne))
      ]))))

  there_last : (end : ℕ) → IsUntil (stack ++ end ∷ []) (reached at high)
  there_last end = subst (λ (s : List ℕ). IsUntil (s ++ end ∷ []) (reached at high))
      (sym is.reached_by)
      (subst (λ (s : List ℕ). IsUntil s (reached at high))
      (sym (append_assoc at.stack (hash.span.start ∷ []) (end ∷ [])))
      (inr (IsBefore-lower at.stack hash.span.start high (end ∷ []) within_line)))

  same_part : (values : List Bool) (macros : List Entry) → holds old before.live values ≡ true
      → part_in mid own (λ vs. entered is.fewer bundle (record { file = is.file; stack = stack }))
      values macros
      ≡ part_in old groups.cond (λ vs. piece_part bundle (reader_at left bundle) at
      (groups_in old groups vs) (directive hash line)) values macros
  same_part values macros l =
      only_there (holds mid own values) (holds old groups.cond values)
      (is_processed (groups_in old groups values)) (holds old before.live values)
      (entered is.fewer bundle (record { file = is.file; stack = stack }) macros)
      (obeyed bundle (reader_at left bundle) at hash a macros) macros (are values) l
      (sym (is.reads macros))
      ∙ ap (λ (d : Directive). cond (holds old groups.cond values)
      (directive_by bundle (reader_at left bundle) at (groups_in old groups values) hash macros d)
      (reading macros)) (sym is_action)

  -- what the included file defines is new
  pub inclusion_sound : IsSound old before (reached at low) → IsSound mid before (stack ++ 0 ∷ [])
  inclusion_sound s = IsSound-later mid before (reached at low) (stack ++ 0 ∷ []) here_first
      (IsSound-kept to_mid before (reached at low) s)

  -- an `#include` reads its file where it is processed
  pub inclusion_reads : (now : UnitSoFar) (end : ℕ)
      → Reads mid new before now (stack ++ 0 ∷ []) (stack ++ end ∷ []) own
      (λ values. entered is.fewer bundle (record { file = is.file; stack = stack }))
      → Reads old new before now (reached at low) (reached at high) groups.cond
      (λ values. piece_part bundle (reader_at left bundle) at (groups_in old groups values)
      (directive hash line))
  inclusion_reads now end r =
      reads_as old mid new before now (reached at low) (reached at high) groups.cond own
      (λ values. entered is.fewer bundle (record { file = is.file; stack = stack }))
      (λ values. piece_part bundle (reader_at left bundle) at (groups_in old groups values)
      (directive hash line)) to_mid from_mid unit (λ values macros l m. same_part values macros l)
      (reads_later mid new before now (reached at low) (stack ++ 0 ∷ []) (stack ++ end ∷ [])
      (reached at high) own
      (λ values. entered is.fewer bundle (record { file = is.file; stack = stack }))
      here_first (there_last end) r)

  -- and stops where that does
  pub inclusion_stops : (place : Place) (conds : List Cond)
      → Stops mid new before (stack ++ 0 ∷ []) own
      (λ values. entered is.fewer bundle (record { file = is.file; stack = stack })) place conds
      → Stops old new before (reached at low) groups.cond
      (λ values. piece_part bundle (reader_at left bundle) at (groups_in old groups values)
      (directive hash line)) place conds
  inclusion_stops place conds s =
      stops_as old mid new before (reached at low) groups.cond own
      (λ values. entered is.fewer bundle (record { file = is.file; stack = stack }))
      (λ values. piece_part bundle (reader_at left bundle) at (groups_in old groups values)
      (directive hash line)) place conds to_mid from_mid unit
      (λ values macros l m. same_part values macros l)
      (stops_later mid new before (reached at low) (stack ++ 0 ∷ []) own
      (λ values. entered is.fewer bundle (record { file = is.file; stack = stack })) place conds
      here_first s)
