-- Where the reading of a file stands after a file that it includes.
use Rattle.std.proofs.Common.{◌≡◌, ◌-◌, ◌++◌, ℕ, List, [], ◌∷◌, refl, sym, subst}
use Rattle.hv_base.specs.Bundles.{NamedFiles}
use Rattle.hv_base.specs.declared.place.Place.{Place}
use Rattle.hv_cond.specs.Diagram.{Diagram, IsNode, Keeps}
use Rattle.hv_cond.specs.Laws.{Keeps-trans}
use Rattle.hv_cond.specs.declared.conditions.Cond.{Cond}
use Rattle.hv_directives.specs.Values.{piece_of}
use Rattle.hv_directives.specs.declared.piece.Piece.{Piece as Piece'}
use Rattle.hv_macros.specs.Table.{meaning_in}
use Rattle.hv_plainpp.specs.Files.{File}
use Rattle.hv_plainpp.specs.Preprocessing.{entered}
use Rattle.hv_preproc.proofs.FileWalk.{IsWalked, entered_by, is_of, walked_more, walked_stops, whole_file}
use Rattle.hv_preproc.proofs.Included.{included_reads, included_regroups, included_sound, included_stops}
use Rattle.hv_preproc.proofs.GroupsKept.{AreGroups-kept}
use Rattle.hv_preproc.proofs.PieceReading.{IncludesAt}
use Rattle.hv_preproc.proofs.Texts.{AreProcessed}
use Rattle.hv_preproc.specs.declared.open_file.OpenFile.{OpenFile}
use Rattle.hv_preproc.specs.declared.page.Page.{Page}
use Rattle.hv_preproc.specs.declared.unit.Unit.{Unit as UnitSoFar}
use Rattle.hv_preproc.specs.working.Parts.{IsIncluded, IsPageOf}
use Rattle.hv_preproc.specs.working.Walk.{IsSound, Part, Reads, Stops}

module _ (first old mid : Diagram) (start before seen : UnitSoFar) (bundle : NamedFiles)
    (page : Page) (stack : List ℕ) (within : Cond) (left : ℕ) (opened after : OpenFile)
    (p : Piece') (pieces : List Piece') (inner : Page) (deeper : List ℕ) (own : Cond)
    (node : IsNode first within) (to_mid : Keeps old mid)
    (w : IsWalked first old start before bundle page stack within left opened (p ∷ pieces))
    (same_unit : seen ≡ before) (same_file : after ≡ opened)
    (are : AreProcessed old mid opened.groups before.live own)
    (includes : IncludesAt opened.name.now opened.origin bundle left inner deeper (piece_of p)) where
  -- the included file
  abbrev inner_file : File → Part
  inner_file f values = entered (left - 1) bundle (record { file = f; stack = deeper })

  is_included : (f : File) → IsPageOf page f
      → IsIncluded bundle (entered_by stack f) (piece_of p) left inner deeper
  is_included f is = includes (entered_by stack f) (is_of page stack opened f is w.name w.origin)

  pub inner_sound : (f : File) → IsPageOf page f → IsSound mid seen (deeper ++ 0 ∷ [])
  inner_sound f is = subst (λ (u : UnitSoFar). IsSound mid u (deeper ++ 0 ∷ [])) (sym same_unit)
      (included_sound old mid before opened.groups own bundle (entered_by stack f) (piece_of p) left
      inner deeper w.low w.rise.1.0 to_mid w.sound.unit w.rise.1.1 are (is_included f is) w.sound)

  pub inner_walked : (f : File) → IsPageOf page f → (new : Diagram) (now : UnitSoFar)
      → Keeps mid new
      → ((f : File) → IsPageOf inner f → (end : ℕ)
      × Reads mid new seen now (deeper ++ 0 ∷ []) (deeper ++ end ∷ []) own (inner_file f))
      → IsWalked first new start now bundle page stack within left after pieces
  inner_walked f is new now from_mid reads =
      let keeps = Keeps-trans to_mid from_mid in
      subst (λ (o : OpenFile). IsWalked first new start now bundle page stack within left o pieces)
      (sym same_file)
      (walked_more first old new start before bundle page stack within left opened p pieces node keeps
      w now opened f is (record { name = refl; origin = refl; cond = refl })
      (AreGroups-kept keeps opened.groups w.groups)
      (λ g has. included_regroups old new opened.groups now.live bundle (entered_by stack g)
      (λ values. meaning_in old before.table values) (piece_of p) left inner deeper keeps w.groups
      (is_included g has))
      (λ g has. included_reads old mid new before now opened.groups own bundle (entered_by stack g)
      (piece_of p) left inner deeper w.low w.rise.1.0 to_mid from_mid w.sound.unit w.rise.1.1 are
      (is_included g has)
      (subst (λ (u : UnitSoFar). (f : File) → IsPageOf inner f → (end : ℕ)
      × Reads mid new u now (deeper ++ 0 ∷ []) (deeper ++ end ∷ []) own (inner_file f)) same_unit
      reads)))

  pub inner_stops : (f : File) → IsPageOf page f → (new : Diagram) (place : Place)
      (conds : List Cond) → Keeps mid new
      → ((f : File) → IsPageOf inner f
      → Stops mid new seen (deeper ++ 0 ∷ []) own (inner_file f) place conds)
      → Stops first new start (stack ++ 0 ∷ []) within (whole_file bundle left stack f) place conds
  inner_stops f is new place conds from_mid stops =
      walked_stops first old new start before bundle page stack within left opened p pieces node
      (Keeps-trans to_mid from_mid) w f is place conds
      (included_stops old mid new before opened.groups own bundle (entered_by stack f) (piece_of p)
      left inner deeper w.low w.rise.1.0 place conds to_mid from_mid w.sound.unit w.rise.1.1 are
      (is_included f is)
      (subst (λ (u : UnitSoFar). (f : File) → IsPageOf inner f
      → Stops mid new u (deeper ++ 0 ∷ []) own (inner_file f) place conds) same_unit stops))
