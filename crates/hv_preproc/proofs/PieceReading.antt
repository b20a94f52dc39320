-- What a piece comes to, by which directive it is, and the groups after it.
use Rattle.std.proofs.Common.{◌≡◌, ℕ, Bool, List, None, Option, Some, sym, ap, ◌∙◌, subst}
use Rattle.std.specs.Prelude.{IfNone, IfSome}
use Rattle.hv_base.specs.Bundles.{NamedFiles}
use Rattle.hv_base.specs.declared.place.Place.{Place}
use Rattle.hv_cond.specs.Diagram.{Diagram, Keeps}
use Rattle.hv_cond.specs.declared.conditions.Cond.{Cond}
use Rattle.hv_directives.specs.Values.{piece_of}
use Rattle.hv_directives.specs.declared.piece.Piece.{Piece as Piece'}
use Rattle.hv_macros.specs.Table.{meaning_in}
use Rattle.hv_plainpp.specs.Directives.{Action, Conditional, Directive, action, conditional, directive_of}
use Rattle.hv_plainpp.specs.Files.{Entered, place_of}
use Rattle.hv_plainpp.specs.Groups.{Group, regrouped}
use Rattle.hv_plainpp.specs.Lines.{Piece, directive}
use Rattle.hv_plainpp.specs.Preprocessing.{Reader}
use Rattle.hv_plainpp.specs.Reading.{Reading, reaches, reading}
use Rattle.hv_preproc.proofs.GroupsKept.{all_groups_in-kept}
use Rattle.hv_preproc.proofs.Texts.{directive_by}
use Rattle.hv_preproc.specs.declared.groups.Groups.{Groups}
use Rattle.hv_preproc.specs.declared.page.Page.{Page}
use Rattle.hv_preproc.specs.declared.unit.Unit.{Unit as UnitSoFar}
use Rattle.hv_preproc.specs.working.Keys.{Rises, reached, tokens_in}
use Rattle.hv_preproc.specs.working.OpenGroups.{AreGroups, groups_in}
use Rattle.hv_preproc.specs.working.Parts.{AreRegrouped, IsIncluded, IsOf, groups_after, piece_part}
use Rattle.hv_preproc.specs.working.Walk.{IsSound, Reads, Stops}
use Rattle.hv_texts.specs.declared.origin.Origin.{Origin}
use Rattle.hv_toks.specs.Macro.{Macro}
use Rattle.hv_toks.specs.declared.token.PpTok.{PpTok}

------ what is read

module _ (old new : Diagram) (before : UnitSoFar) (here : List ℕ) (within : Cond)
    (bundle : NamedFiles) (reader : Option Reader) (at : Entered) (groups : Groups) (hash : PpTok)
    (line : List PpTok) (d : Directive) (is : d ≡ directive_of line) where
  pub directive_reads : (now : UnitSoFar) (there : List ℕ)
      → Reads old new before now here there within
      (λ values macros. directive_by bundle reader at (groups_in old groups values) hash macros d)
      → Reads old new before now here there within
      (λ values. piece_part bundle reader at (groups_in old groups values) (directive hash line))
  directive_reads now there r = subst (λ (x : Directive). Reads old new before now here there within
      (λ values macros. directive_by bundle reader at (groups_in old groups values) hash macros x))
      is r

  pub directive_stops : (place : Place) (conds : List Cond)
      → Stops old new before here within
      (λ values macros. directive_by bundle reader at (groups_in old groups values) hash macros d)
      place conds
      → Stops old new before here within
      (λ values. piece_part bundle reader at (groups_in old groups values) (directive hash line))
      place conds
  directive_stops place conds s = subst (λ (x : Directive). Stops old new before here within
      (λ values macros. directive_by bundle reader at (groups_in old groups values) hash macros x)
      place conds) is s

------ the groups after it

-- groups after a directive by which it is
abbrev groups_by : Entered → (macros : List ℕ → Macro) → (hash : PpTok) → List Group → Directive
    → Reading (List Group)
groups_by at macros hash groups d = elim d [
  | conditional c ↦ regrouped at macros (place_of at hash) c groups
  | action a ↦ reading groups
]

pub groups_stay : (old new : Diagram) (groups : Groups) (live : Cond) → Keeps old new
    → AreGroups old groups → AreRegrouped old new groups groups live (λ values gs. reading gs)
groups_stay old new groups live keeps r =
    λ values w l. ap reaches
    (sym (all_groups_in-kept keeps groups.cond groups.groups r.each values))

-- a directive that makes no groups leaves them
pub action_regroups : (old new : Diagram) (groups : Groups) (live : Cond) (at : Entered)
    (macros : List Bool → List ℕ → Macro) (hash : PpTok) (line : List PpTok) (a : Action)
    → Keeps old new → AreGroups old groups → action a ≡ directive_of line
    → AreRegrouped old new groups groups live
    (λ values. groups_after at (macros values) (directive hash line))
action_regroups old new groups live at macros hash line a keeps r is = λ values w l.
    ap (λ (d : Directive). (groups_by at (macros values) hash (groups_in old groups values) d).ending)
    (sym is)
    ∙ groups_stay old new groups live keeps r values w l

pub conditional_regroups : (old new : Diagram) (groups after : Groups) (live : Cond) (at : Entered)
    (macros : List Bool → List ℕ → Macro) (hash : PpTok) (line : List PpTok) (c : Conditional)
    → conditional c ≡ directive_of line
    → AreRegrouped old new groups after live
    (λ values. regrouped at (macros values) (place_of at hash) c)
    → AreRegrouped old new groups after live
    (λ values. groups_after at (macros values) (directive hash line))
conditional_regroups old new groups after live at macros hash line c is are = λ values w l.
    ap (λ (d : Directive). (groups_by at (macros values) hash (groups_in old groups values) d).ending)
    (sym is)
    ∙ are values w l

------ what is said of a piece

-- a step reads the piece
abbrev pub ReadsPiece : (old new : Diagram) (before now : UnitSoFar) (name : List ℕ)
    (origin : Origin) (groups : Groups) → NamedFiles → Option Reader → Piece → Type 0
ReadsPiece old new before now name origin groups bundle reader p =
    (at : Entered) (low high : ℕ) → IsOf name origin at → Rises low high (tokens_in p)
    → IsSound old before (reached at low)
    → Reads old new before now (reached at low) (reached at high) groups.cond
    (λ values. piece_part bundle reader at (groups_in old groups values) p)

-- it finds too many faces there
abbrev pub StopsPiece : (old new : Diagram) (before : UnitSoFar) (name : List ℕ) (origin : Origin)
    (groups : Groups) → NamedFiles → Option Reader → Place → List Cond → Piece → Type 0
StopsPiece old new before name origin groups bundle reader place conds p =
    (at : Entered) (low high : ℕ) → IsOf name origin at → Rises low high (tokens_in p)
    → Stops old new before (reached at low) groups.cond
    (λ values. piece_part bundle reader at (groups_in old groups values) p) place conds

-- these are the groups after it
abbrev pub RegroupsAt : (old new : Diagram) (before now : UnitSoFar) (name : List ℕ)
    (origin : Origin) (groups after : Groups) → Piece → Type 0
RegroupsAt old new before now name origin groups after p =
    (at : Entered) → IsOf name origin at → AreRegrouped old new groups after now.live
    (λ values. groups_after at (meaning_in old before.table values) p)

-- it is an `#include` of this file
abbrev pub IncludesAt : (name : List ℕ) (origin : Origin) → NamedFiles → (left : ℕ) → Page
    → (stack : List ℕ) → Piece → Type 0
IncludesAt name origin bundle left page stack p =
    (at : Entered) → IsOf name origin at → IsIncluded bundle at p left page stack

-- what is said of a piece is said of it by which it is
pub of_piece : (P : Piece → Type 0) (p q : Piece') → p ≡ q → P (piece_of q) → P (piece_of p)
of_piece P p q e h = subst (λ (x : Piece'). P (piece_of x)) (sym e) h

pub from_piece : (P : Piece → Type 0) (p q : Piece') → p ≡ q → P (piece_of p) → P (piece_of q)
from_piece P p q e h = subst (λ (x : Piece'). P (piece_of x)) e h

pub IfNone_then : {A : Type 0} {P Q : Type 0} (o : Option A) → IfNone o P → (P → Q) → IfNone o Q
IfNone_then None p more = more p
IfNone_then (Some x) p more = tt

pub IfSome_at : {A : Type 0} (P : A → Type 0) (o : Option A) (x : A) → o ≡ Some x → IfSome o P
    → P x
IfSome_at {A} P o x e h = subst (λ (y : Option A). IfSome y P) e h

pub IfNone_at : {A : Type 0} (P : Type 0) (o : Option A) → o ≡ None → IfNone o P → P
IfNone_at {A} P o e h = subst (λ (y : Option A). IfNone y P) e h
