-- Where the reading of a file stands between two of its pieces.
use Rattle.std.proofs.Common.{◌≡◌, ◌++◌, ◌+◌, ◌<◌, add-one, drop, drop-cons, get_or, length, ℕ, zero, suc, true, List, [], ◌∷◌, map, refl, sym, ap, ◌∙◌, subst}
use Rattle.std.proofs.Math.Path.{fun_ext}
use Rattle.std.specs.Prelude.{All}
use Rattle.std.proofs.lemmas.List.Elements.{All-nil}
use Rattle.hv_base.specs.Bundles.{NamedFiles}
use Rattle.hv_base.specs.declared.place.Place.{Place}
use Rattle.hv_base.specs.declared.why.Why.TheVariants.{OpenComment}
use Rattle.hv_cond.specs.Diagram.{Diagram, IsNode, Keeps, holds}
use Rattle.hv_cond.specs.Laws.{Keeps-refl, Keeps-trans}
use Rattle.hv_cond.specs.declared.conditions.Cond.{Cond}
use Rattle.hv_directives.specs.Values.{piece_of}
use Rattle.hv_directives.specs.declared.piece.Piece.{Piece as Piece'}
use Rattle.hv_macros.specs.Table.{meaning_in}
use Rattle.hv_plain.specs.gathering.Mentions.{cut}
use Rattle.hv_plainpp.specs.Files.{Entered, File}
use Rattle.hv_plainpp.specs.Lines.{Piece, directive, lines_of, pieces_of, text}
use Rattle.hv_plainpp.specs.Preprocessing.{at_end, cut_file, entered, file, rest_of_file}
use Rattle.hv_plainpp.specs.Reading.{Reading, and_then, refusal}
use Rattle.hv_preproc.proofs.FileReading.{GoesOnTo, all_is_read, chosen, left_stops, nothing_so_far, part_goes_on, piece_next, rest_from}
use Rattle.hv_preproc.proofs.Moving.{IsSound-later}
use Rattle.hv_preproc.proofs.Pieces.{ArePieces, IsUntil-lower, pieces_rise}
use Rattle.hv_preproc.proofs.Stopped.{stops_first, stops_same}
use Rattle.hv_preproc.specs.declared.groups.Groups.{Groups}
use Rattle.hv_preproc.specs.declared.groups.OpenGroup.{OpenGroup}
use Rattle.hv_preproc.specs.declared.open_file.OpenFile.{OpenFile}
use Rattle.hv_preproc.specs.declared.page.Page.{Page}
use Rattle.hv_preproc.specs.declared.unit.Unit.{Unit as UnitSoFar}
use Rattle.hv_preproc.specs.working.Keys.{Rises, tokens_in}
use Rattle.hv_preproc.specs.working.OpenGroups.{AreGroups, IsGroupOf, group_in, groups_in}
use Rattle.hv_preproc.specs.working.Openings.{IsSameFile}
use Rattle.hv_preproc.specs.working.Parts.{AreRegrouped, IsOf, IsPageOf, IsReady, groups_after, piece_part, reader_at}
use Rattle.hv_preproc.specs.working.Walk.{IsSound, Part, Reads, Stops}
use Rattle.hv_texts.specs.declared.origin.Origin.{Origin}
use Rattle.hv_toks.specs.Cutting.{Cutting, open_comment, tokens}
use Rattle.hv_toks.specs.MacroState.{Entry}
use Rattle.hv_toks.specs.declared.token.PpTok.{PpTok}

------ a file

-- a file to which these includes led
abbrev pub entered_by : (stack : List ℕ) → File → Entered
entered_by stack f = record { file = f; stack = stack }

-- the whole of it
abbrev pub whole_file : NamedFiles → (left : ℕ) → (stack : List ℕ) → File → Part
whole_file bundle left stack f values = entered left bundle (entered_by stack f)

-- what is left of it
abbrev pub left_of_file : Diagram → NamedFiles → (left : ℕ) → (stack : List ℕ) → File → Groups
    → List Piece → Part
left_of_file diagram bundle left stack f groups pieces values =
    rest_of_file bundle (reader_at left bundle) (entered_by stack f) (groups_in diagram groups values)
    pieces

entered_is : (left : ℕ) (bundle : NamedFiles) (at : Entered) (macros : List Entry)
    → entered left bundle at macros ≡ file bundle (reader_at left bundle) at macros
unfolding entered
entered_is zero bundle at macros = refl
entered_is (suc left) bundle at macros = refl

entered_cut : (left : ℕ) (bundle : NamedFiles) (stack : List ℕ) (f : File) (c : Cutting)
    → cut f.number f.bytes ≡ c
    → entered left bundle (entered_by stack f)
    ≡ cut_file bundle (reader_at left bundle) (entered_by stack f) c
entered_cut left bundle stack f c e = fun_ext (λ macros.
    entered_is left bundle (entered_by stack f) macros
    ∙ ap (λ (x : Cutting). cut_file bundle (reader_at left bundle) (entered_by stack f) x macros) e)

-- one with a comment that isn't closed is refused
pub open_file : (left : ℕ) (bundle : NamedFiles) (stack : List ℕ) (f : File) (number offset : ℕ)
    → number ≡ f.number → cut f.number f.bytes ≡ open_comment offset
    → (macros : List Entry)
    → refusal OpenComment (record { stack = stack; file = number; offset = offset })
    ≡ entered left bundle (entered_by stack f) macros
open_file left bundle stack f number offset same e macros =
    ap (λ (n : ℕ). refusal OpenComment (record { stack = stack; file = n; offset = offset })) same
    ∙ sym (ap (λ (r : List Entry → Reading (List Entry)). r macros)
    (entered_cut left bundle stack f (open_comment offset) e))

------ between two pieces

-- what is left begins with the next piece
pub next_left : {A : Type 0} (xs : List A) (i : ℕ) (x : A) → i < length xs → x ≡ get_or xs i x
    → drop i xs ≡ x ∷ drop (i + 1) xs
next_left xs i x l e =
    rw add-one (drop-cons xs i x l ∙ ap (λ y. y ∷ drop (suc i) xs) (sym e))

-- the first pieces of a file are read; these are left
pub record IsWalked (first old : Diagram) (start now : UnitSoFar) (bundle : NamedFiles)
    (page : Page) (stack : List ℕ) (within : Cond) (left : ℕ) (opened : OpenFile)
    (pieces : List Piece') : Type 0 where
  pub keeps : Keeps first old
  pub low : ℕ
  pub high : ℕ
  pub rise : ArePieces low high (map piece_of pieces)
  pub sound : IsSound old now (stack ++ low ∷ [])
  pub name : opened.name.now ≡ page.name.now
  pub origin : opened.origin ≡ record { file = page.number; stack = stack }
  pub same_cond : opened.groups.cond ≡ within
  pub groups : AreGroups old opened.groups
  pub goes_on : (f : File) → IsPageOf page f
      → GoesOnTo first old start now (stack ++ 0 ∷ []) (stack ++ low ∷ []) within
      (whole_file bundle left stack f)
      (left_of_file old bundle left stack f opened.groups (map piece_of pieces))

-- the file is the one that was entered
pub is_of : (page : Page) (stack : List ℕ) (opened : OpenFile) (f : File) → IsPageOf page f
    → opened.name.now ≡ page.name.now → opened.origin ≡ record { file = page.number; stack = stack }
    → IsOf opened.name.now opened.origin (entered_by stack f)
is_of page stack opened f is name origin = record {
  same_name = name ∙ is.name;
  same_origin = record {
    file = ap (λ (o : Origin). o.file) origin ∙ is.number;
    stack = ap (λ (o : Origin). o.stack) origin;
  };
}

no_groups : (diagram : Diagram) (opened : OpenFile) → IsNode diagram opened.groups.cond
    → opened.groups.groups ≡ [] → AreGroups diagram opened.groups
no_groups diagram opened node none = record {
  file = node;
  each = subst (λ (gs : List OpenGroup). All (IsGroupOf diagram opened.groups.cond) gs) (sym none)
      (All-nil (IsGroupOf diagram opened.groups.cond));
}

-- pieces are those of a file, whose tokens rise
abbrev pub ArePiecesOf : List Piece' → File → Type 0
ArePiecesOf pieces f = (toks : List PpTok) × (cut f.number f.bytes ≡ tokens toks)
    × (map piece_of pieces ≡ pieces_of (lines_of toks)) × ((high : ℕ) × Rises 0 high toks)

-- a unit is ready for the next piece
pub ready_for : (diagram : Diagram) (u : UnitSoFar) (stack : List ℕ) (low high : ℕ) (p : Piece)
    → Rises low high (tokens_in p) → IsSound diagram u (stack ++ low ∷ [])
    → IsReady diagram u stack p
ready_for diagram u stack low high (text run ends) r s = s.unit
ready_for diagram u stack low high (directive hash line) r s =
    IsSound-later diagram u (stack ++ low ∷ []) (stack ++ hash.span.start ∷ [])
    (IsUntil-lower stack low hash.span.start r.0) s

-- before its first piece
pub walked_first : (diagram : Diagram) (start : UnitSoFar) (bundle : NamedFiles) (page : Page)
    (stack : List ℕ) (within : Cond) (left : ℕ) (opened : OpenFile) (pieces : List Piece') (f : File)
    → IsPageOf page f
    → ((f : File) → IsPageOf page f → ArePiecesOf pieces f)
    → IsNode diagram within → IsSound diagram start (stack ++ 0 ∷ [])
    → opened.name.now ≡ page.name.now → opened.origin ≡ record { file = page.number; stack = stack }
    → opened.groups.cond ≡ within → opened.groups.groups ≡ []
    → IsWalked diagram diagram start start bundle page stack within left opened pieces
walked_first diagram start bundle page stack within left opened pieces f is content node sound name
    origin same none =
    let c = content f is in
    record {
      keeps = Keeps-refl diagram;
      low = 0;
      high = c.3.0;
      rise = subst (ArePieces 0 c.3.0) (sym c.2) (pieces_rise 0 c.3.0 c.0 c.3.1);
      sound = sound;
      name = name;
      origin = origin;
      same_cond = same;
      groups = no_groups diagram opened (subst (IsNode diagram) (sym same) node) none;
      goes_on = λ f is.
          let c = content f is in
          nothing_so_far diagram start (stack ++ 0 ∷ []) within (whole_file bundle left stack f)
          (left_of_file diagram bundle left stack f opened.groups (map piece_of pieces))
          (λ values. entered_cut left bundle stack f (tokens c.0) c.1
          ∙ ap (λ (ps : List Piece). rest_of_file bundle (reader_at left bundle)
          (entered_by stack f) [] ps) (sym c.2)
          ∙ ap (λ (gs : List OpenGroup). rest_of_file bundle (reader_at left bundle)
          (entered_by stack f) (map (group_in diagram values) gs) (map piece_of pieces)) (sym none));
    }

-- before a piece and those after it
pub walked_next : (first old : Diagram) (start now : UnitSoFar) (bundle : NamedFiles) (page : Page)
    (stack : List ℕ) (within : Cond) (left : ℕ) (opened : OpenFile) (items : List Piece') (i : ℕ)
    (p : Piece') → i < length items → p ≡ get_or items i p
    → IsWalked first old start now bundle page stack within left opened (drop i items)
    → IsWalked first old start now bundle page stack within left opened (p ∷ drop (i + 1) items)
walked_next first old start now bundle page stack within left opened items i p l e w =
    subst (λ (ps : List Piece').
    IsWalked first old start now bundle page stack within left opened ps) (next_left items i p l e) w

module _ (first old new : Diagram) (start before : UnitSoFar) (bundle : NamedFiles) (page : Page)
    (stack : List ℕ) (within : Cond) (left : ℕ) (opened : OpenFile) (p : Piece')
    (pieces : List Piece') (node : IsNode first within) (keeps : Keeps old new)
    (w : IsWalked first old start before bundle page stack within left opened (p ∷ pieces)) where
  abbrev part_at : File → Part
  part_at f values = piece_part bundle (reader_at left bundle) (entered_by stack f)
      (groups_in old opened.groups values) (piece_of p)

  -- and after the next one
  pub walked_more : (now : UnitSoFar) (after : OpenFile) (f : File) → IsPageOf page f
      → IsSameFile opened after → AreGroups new after.groups
      → ((f : File) → IsPageOf page f → AreRegrouped old new opened.groups after.groups now.live
      (λ values. groups_after (entered_by stack f) (meaning_in old before.table values) (piece_of p)))
      → ((f : File) → IsPageOf page f → Reads old new before now (stack ++ w.low ∷ [])
      (stack ++ w.rise.1.0 ∷ []) opened.groups.cond (part_at f))
      → IsWalked first new start now bundle page stack within left after pieces
  walked_more now after f is same groups regrouped reads = record {
    keeps = Keeps-trans w.keeps keeps;
    low = w.rise.1.0;
    high = w.high;
    rise = w.rise.1.2;
    sound = (reads f is).sound;
    name = cc (same.name, w.name);
    origin = same.origin ∙ w.origin;
    same_cond = same.cond ∙ w.same_cond;
    groups = groups;
    goes_on = λ f is.
        part_goes_on first old new start before (stack ++ 0 ∷ []) (stack ++ w.low ∷ []) within
        (whole_file bundle left stack f)
        (left_of_file old bundle left stack f opened.groups (piece_of p ∷ map piece_of pieces))
        w.keeps keeps node (w.goes_on f is) now (stack ++ w.rise.1.0 ∷ []) (part_at f)
        (subst (λ (c : Cond). Reads old new before now (stack ++ w.low ∷ [])
        (stack ++ w.rise.1.0 ∷ []) c (part_at f)) w.same_cond (reads f is))
        (left_of_file new bundle left stack f after.groups (map piece_of pieces))
        (λ values macros h. piece_next old new before now opened.groups after.groups bundle
        (reader_at left bundle) (entered_by stack f) (piece_of p) (map piece_of pieces)
        (regrouped f is) values macros
        (subst (λ (c : Cond). holds old c values ≡ true) (sym w.same_cond) h));
  }

  -- where the next one stops the whole stops
  pub walked_stops : (f : File) → IsPageOf page f → (place : Place) (conds : List Cond)
      → Stops old new before (stack ++ w.low ∷ []) opened.groups.cond (part_at f) place conds
      → Stops first new start (stack ++ 0 ∷ []) within (whole_file bundle left stack f) place conds
  walked_stops f is place conds s =
      left_stops first old new start before (stack ++ 0 ∷ []) (stack ++ w.low ∷ []) within
      (whole_file bundle left stack f)
      (left_of_file old bundle left stack f opened.groups (piece_of p ∷ map piece_of pieces))
      w.keeps keeps node (w.goes_on f is) place conds
      (subst (λ (c : Cond). Stops old new before (stack ++ w.low ∷ []) c
      (left_of_file old bundle left stack f opened.groups (piece_of p ∷ map piece_of pieces))
      place conds) w.same_cond
      (stops_same old new before (stack ++ w.low ∷ []) opened.groups.cond
      (λ values macros. and_then (part_at f values macros) (next_at f values))
      (left_of_file old bundle left stack f opened.groups (piece_of p ∷ map piece_of pieces))
      place conds keeps
      (λ values macros h l m. sym (rest_from bundle (reader_at left bundle) (entered_by stack f)
      (groups_in old opened.groups values) (piece_of p) (map piece_of pieces)
      (meaning_in old before.table values) macros m))
      (stops_first old new before (stack ++ w.low ∷ []) opened.groups.cond (part_at f) (next_at f)
      place conds s)))
    where
      next_at : File → Part
      next_at f values = rest_of_file bundle (reader_at left bundle) (entered_by stack f)
          (chosen (groups_after (entered_by stack f) (meaning_in old before.table values)
          (piece_of p) (groups_in old opened.groups values))) (map piece_of pieces)

-- at its end
pub walked_all : (first old new : Diagram) (start before now : UnitSoFar) (bundle : NamedFiles)
    (page : Page) (stack : List ℕ) (within : Cond) (left : ℕ) (opened : OpenFile)
    → IsNode first within → Keeps old new
    → (w : IsWalked first old start before bundle page stack within left opened [])
    → Reads old new before now (stack ++ w.low ∷ []) (stack ++ w.low ∷ []) opened.groups.cond
    (λ values macros. at_end (groups_in old opened.groups values) macros)
    → (f : File) → IsPageOf page f
    → Reads first new start now (stack ++ 0 ∷ []) (stack ++ w.low ∷ []) within
    (whole_file bundle left stack f)
walked_all first old new start before now bundle page stack within left opened node keeps w reads f is =
    all_is_read first old new start before (stack ++ 0 ∷ []) (stack ++ w.low ∷ []) within
    (whole_file bundle left stack f)
    (left_of_file old bundle left stack f opened.groups [])
    w.keeps keeps node (w.goes_on f is) now (stack ++ w.low ∷ [])
    (subst (λ (c : Cond). Reads old new before now (stack ++ w.low ∷ []) (stack ++ w.low ∷ []) c
    (left_of_file old bundle left stack f opened.groups [])) w.same_cond reads)
