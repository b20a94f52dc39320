-- A piece that is an `#include` of a file.
use Rattle.std.proofs.Common.{◌≡◌, ◌≤◌, ◌-◌, ◌++◌, ℕ, Bool, List, [], ◌∷◌, arith, sym, subst}
use Rattle.hv_base.specs.Bundles.{NamedFiles}
use Rattle.hv_base.specs.declared.place.Place.{Place}
use Rattle.hv_cond.specs.Diagram.{Diagram, Keeps}
use Rattle.hv_cond.specs.Laws.{Keeps-refl}
use Rattle.hv_cond.specs.declared.conditions.Cond.{Cond}
use Rattle.hv_plainpp.specs.Files.{Entered, File}
use Rattle.hv_plainpp.specs.Lines.{Piece, directive, text}
use Rattle.hv_plainpp.specs.Preprocessing.{entered}
use Rattle.hv_preproc.proofs.PieceReading.{action_regroups}
use Rattle.hv_preproc.proofs.Texts.{AreProcessed, inclusion_reads, inclusion_sound, inclusion_stops}
use Rattle.hv_preproc.specs.declared.groups.Groups.{Groups}
use Rattle.hv_preproc.specs.declared.page.Page.{Page}
use Rattle.hv_preproc.specs.declared.unit.Unit.{Unit as UnitSoFar}
use Rattle.hv_preproc.specs.working.Keys.{Rises, reached, tokens_in}
use Rattle.hv_preproc.specs.working.OpenGroups.{AreGroups, groups_in}
use Rattle.hv_preproc.specs.working.Parts.{AreRegrouped, IsIncluded, IsPageOf, groups_after, piece_part, reader_at}
use Rattle.hv_preproc.specs.working.Walk.{IsSound, IsUnit, Reads, Stops}
use Rattle.hv_toks.specs.Macro.{Macro}

-- one include more may be open
pub included_left : (bundle : NamedFiles) (at : Entered) (p : Piece) (left : ℕ) (page : Page)
    (stack : List ℕ) → IsIncluded bundle at p left page stack → 1 ≤ left
included_left bundle at (text run ends) left page stack i = absurd i
included_left bundle at (directive hash line) left page stack i = omega (arith, i.2.one_less)

-- its page is a file
pub included_page : (bundle : NamedFiles) (at : Entered) (p : Piece) (left : ℕ) (page : Page)
    (stack : List ℕ) → IsIncluded bundle at p left page stack → (f : File) × IsPageOf page f
included_page bundle at (text run ends) left page stack i = absurd i
included_page bundle at (directive hash line) left page stack i = (i.2.file, i.2.is_page)

-- it leaves the groups as they are
pub included_regroups : (old new : Diagram) (groups : Groups) (live : Cond) (bundle : NamedFiles)
    (at : Entered) (macros : List Bool → List ℕ → Macro) (p : Piece) (left : ℕ) (page : Page)
    (stack : List ℕ) → Keeps old new → AreGroups old groups
    → IsIncluded bundle at p left page stack
    → AreRegrouped old new groups groups live (λ values. groups_after at (macros values) p)
included_regroups old new groups live bundle at macros (text run ends) left page stack keeps r i =
    absurd i
included_regroups old new groups live bundle at macros (directive hash line) left page stack keeps r
    i =
    action_regroups old new groups live at macros hash line i.0 keeps r (sym i.1)

-- what the file defines is new
pub included_sound : (old mid : Diagram) (before : UnitSoFar) (groups : Groups) (own : Cond)
    (bundle : NamedFiles) (at : Entered) (p : Piece) (left : ℕ) (page : Page) (stack : List ℕ)
    (low high : ℕ) → Keeps old mid → IsUnit old before → Rises low high (tokens_in p)
    → AreProcessed old mid groups before.live own → IsIncluded bundle at p left page stack
    → IsSound old before (reached at low) → IsSound mid before (stack ++ 0 ∷ [])
included_sound old mid before groups own bundle at (text run ends) left page stack low high keeps
    unit r are i s =
    absurd i
included_sound old mid before groups own bundle at (directive hash line) left page stack low high
    keeps unit r are i s =
    inclusion_sound old mid mid before groups own bundle at hash line i.0 left page stack low high
    keeps (Keeps-refl mid) unit r are i.1 i.2 s

-- the file is read where the piece is processed
pub included_reads : (old mid new : Diagram) (before now : UnitSoFar) (groups : Groups) (own : Cond)
    (bundle : NamedFiles) (at : Entered) (p : Piece) (left : ℕ) (page : Page) (stack : List ℕ)
    (low high : ℕ) → Keeps old mid → Keeps mid new → IsUnit old before
    → Rises low high (tokens_in p) → AreProcessed old mid groups before.live own
    → IsIncluded bundle at p left page stack
    → ((f : File) → IsPageOf page f → (end : ℕ)
    × Reads mid new before now (stack ++ 0 ∷ []) (stack ++ end ∷ []) own
    (λ values. entered (left - 1) bundle (record { file = f; stack = stack })))
    → Reads old new before now (reached at low) (reached at high) groups.cond
    (λ values. piece_part bundle (reader_at left bundle) at (groups_in old groups values) p)
included_reads old mid new before now groups own bundle at (text run ends) left page stack low high
    to_mid from_mid unit r are i reads =
    absurd i
included_reads old mid new before now groups own bundle at (directive hash line) left page stack low
    high to_mid from_mid unit r are i reads =
    let read = reads i.2.file i.2.is_page in
    let fewer : left - 1 ≡ i.2.fewer = omega (arith, i.2.one_less) in
    inclusion_reads old mid new before groups own bundle at hash line i.0 left page stack low high
    to_mid from_mid unit r are i.1 i.2 now read.0
    (subst (λ (n : ℕ). Reads mid new before now (stack ++ 0 ∷ []) (stack ++ read.0 ∷ []) own
    (λ values. entered n bundle (record { file = i.2.file; stack = stack }))) fewer read.1)

-- and the piece stops where the file does
pub included_stops : (old mid new : Diagram) (before : UnitSoFar) (groups : Groups) (own : Cond)
    (bundle : NamedFiles) (at : Entered) (p : Piece) (left : ℕ) (page : Page) (stack : List ℕ)
    (low high : ℕ) (place : Place) (conds : List Cond) → Keeps old mid → Keeps mid new
    → IsUnit old before → Rises low high (tokens_in p)
    → AreProcessed old mid groups before.live own → IsIncluded bundle at p left page stack
    → ((f : File) → IsPageOf page f → Stops mid new before (stack ++ 0 ∷ []) own
    (λ values. entered (left - 1) bundle (record { file = f; stack = stack })) place conds)
    → Stops old new before (reached at low) groups.cond
    (λ values. piece_part bundle (reader_at left bundle) at (groups_in old groups values) p)
    place conds
included_stops old mid new before groups own bundle at (text run ends) left page stack low high place
    conds to_mid from_mid unit r are i stops =
    absurd i
included_stops old mid new before groups own bundle at (directive hash line) left page stack low high
    place conds to_mid from_mid unit r are i stops =
    let fewer : left - 1 ≡ i.2.fewer = omega (arith, i.2.one_less) in
    inclusion_stops old mid new before groups own bundle at hash line i.0 left page stack low high
    to_mid from_mid unit r are i.1 i.2 place conds
    (subst (λ (n : ℕ). Stops mid new before (stack ++ 0 ∷ []) own
    (λ values. entered n bundle (record { file = i.2.file; stack = stack })) place conds) fewer
    (stops i.2.file i.2.is_page))
