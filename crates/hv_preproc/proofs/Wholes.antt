-- A whole unit: how it begins, and that it counts only what the readings of valid configurations are.
use Rattle.std.proofs.Common.{◌≡◌, ◌<◌, ◌+◌, ◌++◌, ◌⊎◌, zero, suc, ℕ, Bool, true, false, cond, List, [], ◌∷◌, length, refl, sym, ◌∙◌, ap, ap₂, subst, subst₂, inl, inr, arith, add-zero}
use Rattle.std.specs.Prelude.{Option, Some, None, if◌then◌else◌, map, nat_lt, not, position, zip, codes}
use Rattle.std.specs.Map.{lookup}
use Rattle.std.specs.Str.{bytes_eq}
use Rattle.std.specs.List.{All, position_or_len}
use Rattle.std.proofs.lemmas.Bool.{cond-true, lt-ltb}
use Rattle.std.proofs.lemmas.List.Elements.{All-nil}
use Rattle.std.proofs.lemmas.List.Sums.{sum_by-cons}
use Rattle.std.proofs.lemmas.Slice.Eq.{bytes_eq-Decides}
use Rattle.hv_base.specs.Bundles.{HasMain, NamedFiles, held_at, number_at}
use Rattle.hv_base.specs.declared.held.Held.{Held}
use Rattle.hv_base.specs.declared.held.Held.TheVariants.{Bytes}
use Rattle.hv_base.specs.declared.limits.TheConstants.{MOST_FACES}
use Rattle.hv_base.specs.declared.place.Place.{Place}
use Rattle.hv_cond.specs.Diagram.{Diagram, IsNode, Keeps, holds, value_of}
use Rattle.hv_cond.specs.declared.conditions.Cond.{Cond}
use Rattle.hv_given.specs.Given.{AllAgree, AreEpisodes, given_in}
use Rattle.hv_given.specs.declared.given.Given.{Given}
use Rattle.hv_macros.specs.Table.{HasOneBody, IsTableOf, meaning_in}
use Rattle.hv_macros.specs.declared.tables.MacroTable.{MacroTable}
use Rattle.hv_model.specs.Beginning.{beginning, option_file, options_from, place_in, predefined}
use Rattle.hv_plainpp.specs.Files.{File, file_in, file_of}
use Rattle.hv_base.specs.declared.limits.TheConstants.{MOST_INCLUDES}
use Rattle.hv_plainpp.specs.Preprocessing.{entered, unit, unit_of}
use Rattle.hv_plainpp.specs.Reading.{Ending, Met, Reading, and_then, reaches, reading}
use Rattle.hv_preproc.specs.declared.fault.WalkFault.{WalkFault}
use Rattle.hv_preproc.specs.declared.fault.WalkFault.TheVariants.{TooMany, Memory}
use Rattle.hv_preproc.specs.declared.page.Page.{Page}
use Rattle.hv_preproc.specs.declared.page.Pages.{Pages}
use Rattle.hv_preproc.specs.declared.unit.Unit.{Unit as UnitSoFar}
use Rattle.hv_preproc.specs.working.Faults.{IfStops}
use Rattle.hv_preproc.specs.working.Keys.{IsBefore, IsInitial, IsOfInitial, key}
use Rattle.hv_preproc.specs.working.Parts.{ArePages, IsFound, page_at}
use Rattle.hv_preproc.specs.working.Walk.{BeginsWith, IsAt, IsSound, IsUnit, IsUpTo, Part, Reads, ShowsTooMany, SoFar, Stops, after}
use Rattle.hv_texts.specs.Faces.{HasTooMany}
use Rattle.hv_texts.specs.Readings.{AreFew}
use Rattle.hv_toks.specs.Macro.{Macro, defined, undefined}
use Rattle.hv_toks.specs.MacroState.{Entry, entries_of, meaning_after, meaning_of, number_macro}
use Rattle.hv_toks.specs.declared.macros.Body.{Body}

------ readings that are the same in valid configurations

module _ (d : Diagram) (valid : Cond) (a b : SoFar)
    (same : (values : List Bool) → holds d valid values ≡ true → a values ≡ b values) where
  pub IsUpTo-same : (u : UnitSoFar) (here : List ℕ) → IsUpTo d valid u here a
      → IsUpTo d valid u here b
  IsUpTo-same u here r = record {
    valid_node = r.valid_node;
    divides = r.divides;
    nodes = r.nodes;
    there = λ values v. subst (λ (x : Reading (List Entry)).
        AreEpisodes (given_in d u.given values) x.met) (same values v) (r.there values v);
    stands = λ values v. subst (λ (x : Reading (List Entry)). IsAt d u values x.ending)
        (same values v) (r.stands values v);
    faces = λ values others v w. subst₂ (λ (x y : Reading (List Entry)).
        AllAgree (zip (given_in d u.given values) x.met) (zip (given_in d u.given others) y.met))
        (same values v) (same others w) (r.faces values others v w);
    few = r.few;
    met_before = λ values v. subst (λ (x : Reading (List Entry)).
        All (λ (m : Met). IsBefore (key m.place) here) x.met) (same values v)
        (r.met_before values v);
  }

  pub ShowsTooMany-same : (place : Place) (conds : List Cond)
      → ShowsTooMany d valid a place conds → ShowsTooMany d valid b place conds
  ShowsTooMany-same place conds shows = λ whole begins.
      shows whole (λ values v. (
        subst (λ (x : Reading (List Entry)). BeginsWith x (whole values)) (sym (same values v))
            (begins values v).0,
        (begins values v).1,
      ))

------ the macros that a unit begins with

-- a meaning is no definition but an initial one
abbrev IsNoOther : Macro → Type 0
IsNoOther m = (place : Place) (body : Body) → m ≡ defined place body → IsInitial place

-- these definitions are initial ones
abbrev AreInitial : List (List ℕ × List ℕ × Place) → Type 0
AreInitial [] = Unit {0}
AreInitial (d ∷ ds) = IsInitial d.2 × AreInitial ds

initial-append : (xs ys : List (List ℕ × List ℕ × Place)) → AreInitial xs → AreInitial ys
    → AreInitial (xs ++ ys)
initial-append [] ys p q = q
initial-append (x ∷ xs) ys p q = (p.0, initial-append xs ys p.1 q)

options_initial : (i : ℕ) (names : List (List ℕ)) (values : List Bool)
    → AreInitial (options_from i names values)
options_initial i [] values = tt
options_initial i (x ∷ names) values =
    initial-append
    (if value_of values i then (x, codes "1", place_in option_file i) ∷ [] else [])
    (options_from (i + 1) names values) (one (value_of values i))
    (options_initial (i + 1) names values)
  where
    one : (b : Bool)
        → AreInitial (if b then (x, codes "1", place_in option_file i) ∷ [] else [])
    one true = (inl refl, tt)
    one false = tt

beginning_initial : (names : List (List ℕ)) (values : List Bool)
    → AreInitial (beginning names values)
beginning_initial names values =
    initial-append (options_from 0 names values) predefined (options_initial 0 names values)
    (inr refl, (inr refl, (inr refl, tt)))

after_initial : (before : Macro) (ds : List (List ℕ × List ℕ × Place)) (name : List ℕ)
    → IsNoOther before → AreInitial ds → IsNoOther (meaning_after before (entries_of ds) name)
after_initial before [] name h all = h
after_initial before (d ∷ ds) name h all =
    after_initial (if bytes_eq d.0 name then number_macro d.1 d.2 else before) ds name
    (here (bytes_eq d.0 name)) all.1
  where
    same_place : (place : Place) (body : Body) → number_macro d.1 d.2 ≡ defined place body
        → d.2 ≡ place
    same_place place body e = cc

    here : (b : Bool) → IsNoOther (if b then number_macro d.1 d.2 else before)
    here true place body e = subst IsInitial (same_place place body e) all.0
    here false place body e = h place body e

none_defined : IsNoOther undefined
none_defined place body e = absurd (none e)
  where
    none : undefined ≡ defined place body → ⊥
    none is = cc

pub begins_initial : (d : Diagram) (table : MacroTable) (names : List (List ℕ))
    → ((values : List Bool) (name : List ℕ)
    → meaning_in d table values name ≡ meaning_of (entries_of (beginning names values)) name)
    → (values : List Bool) (name : List ℕ) (place : Place) (body : Body)
    → meaning_in d table values name ≡ defined place body → IsInitial place
begins_initial d table names begins values name place body is =
    after_initial undefined (beginning names values) name none_defined
    (beginning_initial names values) place body (sym (begins values name) ∙ is)

------ a unit of which nothing is read

module _ (d : Diagram) (valid : Cond) (names : List (List ℕ)) (u : UnitSoFar)
    (node : IsNode d valid) (table : IsTableOf d u.table) (one_body : HasOneBody d u.table)
    (begins : (values : List Bool) (name : List ℕ)
    → meaning_in d u.table values name ≡ meaning_of (entries_of (beginning names values)) name)
    (given : u.given ≡ []) (live : u.live ≡ valid) (refusals : u.refusals ≡ []) where
  pub start_sound : (here : List ℕ) → IsSound d u here
  start_sound here = record {
    unit = record {
      table = table;
      one_body = one_body;
      live = subst (λ (c : Cond). IsNode d c) (sym live) node;
      refusals = rw refusals (record { nodes = tt; none_false = tt; distinct = tt });
    };
    defines_before = λ values name place body is.
        inl (begins_initial d u.table names begins values name place body is);
  }

  pub start_reads : (here : List ℕ)
      → IsUpTo d valid u here (λ values. reading (entries_of (beginning names values)))
  start_reads here = record {
    valid_node = node;
    divides = rw (live, refusals) (record {
      nodes = (node, tt);
      none_false = tt;
      one = λ values. sum_by-cons (λ (x : Cond). cond (holds d x values) 1 0) valid []
          ∙ add-zero (cond (holds d valid values) 1 0);
      distinct = tt;
    });
    nodes = rw given tt;
    there = λ values v. rw given tt;
    stands = λ values v. (rw live v, λ i name. begins values name i);
    faces = λ values others v w. rw given (λ k e l. absurd (omega arith));
    few = rw given (All-nil (λ (g : Given). g.face < MOST_FACES));
    met_before = λ values v. All-nil (λ (m : Met). IsBefore (key m.place) here);
  }

------ the main file

bytes_same : (xs : List ℕ) → bytes_eq xs xs ≡ true
bytes_same xs = (bytes_eq-Decides xs xs).1 refl

at_zero : {X : Type 0} (x : X) (xs : List X) (n : ℕ) → n ≡ 0
    → cond (nat_lt n (length (x ∷ xs))) (Some n) None ≡ Some 0
at_zero x xs n e =
    subst (λ (k : ℕ). cond (nat_lt k (length (x ∷ xs))) (Some k) None ≡ Some 0) (sym e)
    (cond-true (nat_lt 0 (length (x ∷ xs))) (Some 0) None
    (lt-ltb 0 (length (x ∷ xs)) (omega arith)))

position_first : {X : Type 0} (p : X → Bool) (x : X) (xs : List X) → p x ≡ true
    → position p (x ∷ xs) ≡ Some 0
position_first p x xs e =
    at_zero x xs (position_or_len p (x ∷ xs))
    (ap (λ (b : Bool). cond (not b) (1 + position_or_len p xs) 0) e)

pub main_file : (bundle : NamedFiles) → HasMain bundle → File
main_file bundle has = record { number = 0; name = bundle.main; bytes = has.bytes }

pub main_number : (bundle : NamedFiles) → HasMain bundle → number_at bundle bundle.main ≡ Some 0
main_number bundle has =
    ap (λ (es : List (List ℕ × Held)). position (bytes_eq bundle.main)
    (map (λ (e : List ℕ × Held). e.0) es)) has.first
    ∙ position_first (bytes_eq bundle.main) bundle.main
    (map (λ (e : List ℕ × Held). e.0) has.others) (bytes_same bundle.main)

main_held : (bundle : NamedFiles) (has : HasMain bundle)
    → held_at bundle bundle.main ≡ Some (Bytes has.bytes)
main_held bundle has =
    ap (λ (es : List (List ℕ × Held)). lookup (bytes_eq bundle.main) es) has.first
    ∙ ap (λ (b : Bool). cond b (Some (Bytes has.bytes)) (lookup (bytes_eq bundle.main) has.others))
    (bytes_same bundle.main)

pub main_in : (bundle : NamedFiles) (has : HasMain bundle)
    → file_in bundle bundle.main ≡ Some (main_file bundle has)
unfolding main_file
main_in bundle has =
    ap₂ (λ (n : Option ℕ) (h : Option Held). file_of bundle.main n h) (main_number bundle has)
    (main_held bundle has)

-- the page of the number 0 is the main file
pub main_page : (pages : Pages) (bundle : NamedFiles) (has : HasMain bundle) → ArePages pages
    → pages.bundle.now ≡ bundle → (p : Option Page) → p ≡ page_at pages (Some 0)
    → IsFound p (Some (main_file bundle has))
main_page pages bundle has are same p e =
    subst₂ (λ (x : Option Page) (f : Option File). IsFound x f) (sym e) (main_in bundle has)
    (subst (λ (n : Option ℕ). IsFound (page_at pages n) (file_in bundle bundle.main))
    (main_number bundle has)
    (subst (λ (b : NamedFiles). IsFound (page_at pages (number_at b bundle.main))
    (file_in b bundle.main)) same (are.files bundle.main)))

-- what a unit is after its main file is read
pub after_start : (old : Diagram) (valid : Cond) (bundle : NamedFiles)
    (macros : List Bool → List Entry) (values : List Bool) → holds old valid values ≡ true
    → after old valid (λ vs. reading (macros vs)) (λ vs entries. unit bundle entries) values
    ≡ unit bundle (macros values)
after_start old valid bundle macros values v =
    cond-true (holds old valid values) (unit bundle (macros values)) (reading (macros values)) v

-- a walk that stopped says the same of readings that are the same
pub stops_same : (d : Diagram) (valid : Cond) (a b : SoFar)
    → ((values : List Bool) → holds d valid values ≡ true → a values ≡ b values)
    → (fault : WalkFault) → IfStops (ShowsTooMany d valid a) fault
    → IfStops (ShowsTooMany d valid b) fault
stops_same d valid a b same (TooMany place conds) shows =
    ShowsTooMany-same d valid a b same place conds shows
stops_same d valid a b same Memory shows = tt

-- reading the main file, to which no `#include` led, is reading the unit
pub main_reads : (old new : Diagram) (before now : UnitSoFar) (valid : Cond) (bundle : NamedFiles)
    (has : HasMain bundle) (stack : List ℕ) → stack ≡ []
    → ((high : ℕ) × Reads old new before now (stack ++ 0 ∷ []) (stack ++ high ∷ []) valid
    (λ values. entered MOST_INCLUDES bundle
    (record { file = main_file bundle has; stack = stack })))
    → (there : List ℕ) × Reads old new before now (0 ∷ []) there valid
    (λ values macros. unit bundle macros)
main_reads old new before now valid bundle has stack none read =
    let alone : (high : ℕ) × Reads old new before now (0 ∷ []) (high ∷ []) valid
    (λ values. entered MOST_INCLUDES bundle
    (record { file = main_file bundle has; stack = [] })) =
    subst (λ (way : List ℕ). (high : ℕ) × Reads old new before now (way ++ 0 ∷ [])
    (way ++ high ∷ []) valid (λ values. entered MOST_INCLUDES bundle
    (record { file = main_file bundle has; stack = way }))) none read in (
      alone.0 ∷ [],
      subst (λ (main : Option File). Reads old new before now (0 ∷ []) (alone.0 ∷ [])
          valid (λ values macros. unit_of bundle main macros)) (sym (main_in bundle has)) alone.1,
    )

-- and where it stops, reading the unit does
pub main_stops : (old new : Diagram) (before : UnitSoFar) (valid : Cond) (bundle : NamedFiles)
    (has : HasMain bundle) (stack : List ℕ) → stack ≡ [] → (fault : WalkFault)
    → IfStops (λ place conds. Stops old new before (stack ++ 0 ∷ []) valid
    (λ values. entered MOST_INCLUDES bundle
    (record { file = main_file bundle has; stack = stack })) place conds) fault
    → IfStops (λ place conds. Stops old new before (0 ∷ []) valid
    (λ values macros. unit bundle macros) place conds) fault
main_stops old new before valid bundle has stack none Memory stops = tt
main_stops old new before valid bundle has stack none (TooMany place conds) stops =
    subst (λ (main : Option File). Stops old new before (0 ∷ []) valid
    (λ values macros. unit_of bundle main macros) place conds) (sym (main_in bundle has))
    (subst (λ (way : List ℕ). Stops old new before (way ++ 0 ∷ []) valid
    (λ values. entered MOST_INCLUDES bundle
    (record { file = main_file bundle has; stack = way })) place conds) none stops)

-- what a unit that begins so comes to once its main file is read
pub whole_read : (old new : Diagram) (valid : Cond) (bundle : NamedFiles)
    (macros : List Bool → List Entry) (before now : UnitSoFar) → Keeps old new → IsNode old valid
    → IsUpTo old valid before (0 ∷ []) (λ values. reading (macros values))
    → (there : List ℕ) × Reads old new before now (0 ∷ []) there valid
    (λ values macros. unit bundle macros)
    → (there : List ℕ) × IsUpTo new valid now there (λ values. unit bundle (macros values))
whole_read old new valid bundle macros before now keeps node begun read = (
  read.0,
  IsUpTo-same new valid
      (after old valid (λ vs. reading (macros vs)) (λ vs entries. unit bundle entries))
      (λ values. unit bundle (macros values))
      (λ values v. after_start old valid bundle macros values
      (sym (keeps.meaning valid node values) ∙ v)) now read.0
      (read.1.reads valid (λ values. reading (macros values)) begun),
)

-- and where that stops
pub whole_stops : (old new : Diagram) (valid : Cond) (bundle : NamedFiles)
    (macros : List Bool → List Entry) (before : UnitSoFar) → Keeps old new → IsNode old valid
    → IsUpTo old valid before (0 ∷ []) (λ values. reading (macros values)) → (fault : WalkFault)
    → IfStops (λ place conds. Stops old new before (0 ∷ []) valid
    (λ values macros. unit bundle macros) place conds) fault
    → IfStops (ShowsTooMany new valid (λ values. unit bundle (macros values))) fault
whole_stops old new valid bundle macros before keeps node begun Memory stops = tt
whole_stops old new valid bundle macros before keeps node begun (TooMany place conds) stops =
    ShowsTooMany-same new valid
    (after old valid (λ vs. reading (macros vs)) (λ vs entries. unit bundle entries))
    (λ values. unit bundle (macros values))
    (λ values v. after_start old valid bundle macros values
    (sym (keeps.meaning valid node values) ∙ v)) place conds
    (stops valid (λ values. reading (macros values)) begun)
