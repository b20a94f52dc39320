-- What the steps of the walk read in one configuration, by the open groups there. A file is read
-- piece by piece; here a piece comes to a macro state, and the groups after it are said apart.
use Rattle.std.specs.Prelude.{ℕ, zero, suc, ◌≡◌, Bool, true, false, cond, List, [], ◌∷◌, ◌++◌, map, slice_get, unwrap_or, Option, Some, None}
use Rattle.std.specs.Str.{bytes_eq}
use Rattle.hv_base.specs.Bundles.{NamedFiles, number_at}
use Rattle.hv_cond.specs.Diagram.{Diagram, holds}
use Rattle.hv_cond.specs.declared.conditions.Cond.{Cond}
use Rattle.hv_directives.specs.Values.{piece_of}
use Rattle.hv_plain.specs.declared.episode.RunEnd.{RunEnd}
use Rattle.hv_plain.specs.declared.episode.RunEnd.TheVariants.{Line}
use Rattle.hv_plain.specs.gathering.Mentions.{Header, cut}
use Rattle.hv_plainpp.specs.Directives.{Action, Conditional, Question, action, conditional, directive_of, elif, else_, endif, expression, if_, is_macro, is_no_macro}
use Rattle.hv_plainpp.specs.Files.{Entered, File, built_in, file_in, found, place_of}
use Rattle.hv_plainpp.specs.Groups.{Group, is_processed, regrouped}
use Rattle.hv_plainpp.specs.Lines.{Piece, directive, lines_of, pieces_of, text}
use Rattle.hv_plainpp.specs.Preprocessing.{Reader, entered, obeyed}
use Rattle.hv_plainpp.specs.Reading.{Reading, and_then, reaches, reading}
use Rattle.hv_plainpp.specs.Text.{episodes}
use Rattle.hv_preproc.specs.declared.groups.Groups.{Groups}
use Rattle.hv_preproc.specs.declared.page.Content.{Content}
use Rattle.hv_preproc.specs.declared.page.Content.TheVariants.{OpenComment, Pieces}
use Rattle.hv_preproc.specs.declared.page.Page.{Page}
use Rattle.hv_preproc.specs.declared.page.Pages.{Pages}
use Rattle.hv_preproc.specs.declared.unit.Unit.{Unit as UnitSoFar}
use Rattle.hv_preproc.specs.working.Keys.{IsOfInitial, Rises}
use Rattle.hv_preproc.specs.working.OpenGroups.{groups_in}
use Rattle.hv_preproc.specs.working.Walk.{IsSound, IsUnit}
use Rattle.hv_texts.specs.Readings.{AreWithin, HasTruth, IsOriginOf}
use Rattle.hv_texts.specs.declared.came.Truths.{Truths}
use Rattle.hv_texts.specs.declared.origin.Origin.{Origin}
use Rattle.hv_toks.specs.Cutting.{Cutting, open_comment, tokens}
use Rattle.hv_toks.specs.Macro.{Macro}
use Rattle.hv_toks.specs.MacroState.{Entry, meaning_of}
use Rattle.hv_toks.specs.declared.token.PpTok.{PpTok}

------ pieces

-- the macro state after a reading that changes no macro
abbrev pub keeping : {A : Type 0} → Reading A → List Entry → Reading (List Entry)
keeping r macros = and_then r (λ value. reading macros)

-- a text where these groups are open
abbrev pub text_part : Entered → List Group → (run : List PpTok) → RunEnd → List Entry
    → Reading (List Entry)
text_part at groups run ends macros = elim (is_processed groups) [
  | true ↦ keeping (episodes at ends (meaning_of macros) 0 run) macros
  | false ↦ reading macros
]

-- a directive that makes groups; it changes no macro
abbrev pub group_part : Entered → List Group → (hash : PpTok) → Conditional → List Entry
    → Reading (List Entry)
group_part at groups hash c macros =
    keeping (regrouped at (meaning_of macros) (place_of at hash) c groups) macros

-- another directive
abbrev pub action_part : NamedFiles → (reader : Option Reader) → Entered → List Group
    → (hash : PpTok) → Action → List Entry → Reading (List Entry)
action_part bundle reader at groups hash a macros = elim (is_processed groups) [
  | true ↦ obeyed bundle reader at hash a macros
  | false ↦ reading macros
]

-- the tokens by which a question is asked
abbrev pub tokens_asked : Question → List PpTok
tokens_asked (expression line) = line
tokens_asked (is_macro line) = line
tokens_asked (is_no_macro line) = line

-- the tokens after the name of a directive that makes groups, as far as they are looked at
abbrev pub tokens_on : Conditional → List PpTok
tokens_on (if_ question) = tokens_asked question
tokens_on (elif line) = line
tokens_on else_ = []
tokens_on endif = []

-- a piece
abbrev pub piece_part : NamedFiles → (reader : Option Reader) → Entered → List Group → Piece
    → List Entry → Reading (List Entry)
piece_part bundle reader at groups (text run ends) macros = text_part at groups run ends macros
piece_part bundle reader at groups (directive hash line) macros = elim (directive_of line) [
  | conditional c ↦ group_part at groups hash c macros
  | action a ↦ action_part bundle reader at groups hash a macros
]

-- the open groups after a piece
abbrev pub groups_after : Entered → (macros : List ℕ → Macro) → Piece → List Group
    → Reading (List Group)
groups_after at macros (text run ends) groups = reading groups
groups_after at macros (directive hash line) groups = elim (directive_of line) [
  | conditional c ↦ regrouped at macros (place_of at hash) c groups
  | action a ↦ reading groups
]

-- a unit before a piece of a file that these includes led to: what a directive defines is new
abbrev pub IsReady : Diagram → UnitSoFar → (stack : List ℕ) → Piece → Type 0
IsReady diagram u stack (text run ends) = IsUnit diagram u
IsReady diagram u stack (directive hash line) =
    IsSound diagram u (stack ++ hash.span.start ∷ [])

-- a text isn't the rest of a controlling line
abbrev pub EndsNoLine : Piece → Type 0
EndsNoLine (text run ends) = ends ≡ Line → ⊥
EndsNoLine (directive hash line) = Unit {0}

------ controlling lines

-- where a controlling line is true or not, as these readings say, among those configurations of a
-- condition that live after it; the two conditions never hold together, and nowhere else
pub record AreTruths (old new : Diagram) (live cond : Cond) (truths : Truths)
    (read : List Bool → Reading Bool) : Type 0 where
  pub within : AreWithin new cond truths
  pub apart : (values : List Bool) → holds new truths.holds values ≡ true
      → holds new truths.fails values ≡ false
  pub there : (values : List Bool) → holds old cond values ≡ true → holds new live values ≡ true
      → (truth : Bool) × ((read values).ending ≡ reaches truth) × HasTruth new truths values truth

-- the groups of a file after a directive that makes groups are those of each configuration that
-- lives after it
abbrev pub AreRegrouped : (old new : Diagram) → (before now : Groups) → (live : Cond)
    → (List Bool → List Group → Reading (List Group)) → Type 0
AreRegrouped old new before now live regroup = (values : List Bool)
    → holds old before.cond values ≡ true → holds new live values ≡ true
    → (regroup values (groups_in old before values)).ending ≡ reaches (groups_in new now values)

------ files

-- what reads a file where so many more includes may be open
abbrev pub reader_at : (left : ℕ) → NamedFiles → Option Reader
reader_at zero bundle = None
reader_at (suc left) bundle = Some (entered left bundle)

-- what a file is cut into, as it is kept: its pieces, whose tokens rise, or an open comment
abbrev pub IsContentOf : Content → File → Type 0
IsContentOf (OpenComment offset) file = cut file.number file.bytes ≡ open_comment offset
IsContentOf (Pieces pieces) file = (toks : List PpTok)
    × (cut file.number file.bytes ≡ tokens toks)
    × (map piece_of pieces.items ≡ pieces_of (lines_of toks))
    × ((high : ℕ) × Rises 0 high toks)

-- a page is this file, whose number is one of a file
pub record IsPageOf (page : Page) (file : File) : Type 0 where
  pub number : page.number ≡ file.number
  pub is_no_initial : ¬ IsOfInitial file.number
  pub name : page.name.now ≡ file.name
  pub content : IsContentOf page.content file

-- a page is the file that was found; there is none where none was
abbrev pub IsFound : Option Page → Option File → Type 0
IsFound None None = Unit {0}
IsFound None (Some file) = ⊥
IsFound (Some page) None = ⊥
IsFound (Some page) (Some file) = IsPageOf page file

-- the page of this number; `None` where the file is absent or the number is none
abbrev pub page_at : Pages → Option ℕ → Option Page
page_at pages None = None
page_at pages (Some number) = unwrap_or (slice_get pages.files.items number) None

-- the page of this name
abbrev pub page_named : (name : List ℕ) → List Page → Option Page
page_named name [] = None
page_named name (p ∷ pages) = cond (bytes_eq p.name.now name) (Some p) (page_named name pages)

-- pages are the files of their bundle and the built-in headers
pub record ArePages (pages : Pages) : Type 0 where
  pub files : (name : List ℕ) → IsFound (page_at pages (number_at pages.bundle.now name))
      (file_in pages.bundle.now name)
  pub headers : (name : List ℕ) → IsFound (page_named name pages.headers.items) (built_in name)

-- an `#include` of a header means a file, to which its `#` leads, where one include less may be
-- open
pub record IsFileAt (bundle : NamedFiles) (at : Entered) (hash : PpTok) (header : Header)
    (left : ℕ) (page : Page) (stack : List ℕ) : Type 0 where
  pub file : File
  pub fewer : ℕ
  pub one_less : left ≡ suc fewer
  pub is_found : found bundle at.file.name header ≡ Some file
  pub is_page : IsPageOf page file
  pub reached_by : stack ≡ at.stack ++ hash.span.start ∷ []

-- a processed directive comes to the reading of a file, to which its `#` leads, where one include
-- less may be open
pub record IsInclusion (bundle : NamedFiles) (at : Entered) (hash : PpTok) (a : Action) (left : ℕ)
    (page : Page) (stack : List ℕ) : Type 0 where
  pub file : File
  pub fewer : ℕ
  pub one_less : left ≡ suc fewer
  pub is_page : IsPageOf page file
  pub reached_by : stack ≡ at.stack ++ hash.span.start ∷ []
  pub reads : (macros : List Entry) → obeyed bundle (reader_at left bundle) at hash a macros
      ≡ entered fewer bundle (record { file = file; stack = stack }) macros

-- a piece is an `#include` that comes to the reading of a file
abbrev pub IsIncluded : NamedFiles → Entered → Piece → (left : ℕ) → Page → (stack : List ℕ) → Type 0
IsIncluded bundle at (text run ends) left page stack = ⊥
IsIncluded bundle at (directive hash line) left page stack = (a : Action)
    × (directive_of line ≡ action a) × IsInclusion bundle at hash a left page stack

-- this is the name of an entered file, and where its tokens stand
pub record IsOf (name : List ℕ) (origin : Origin) (at : Entered) : Type 0 where
  pub same_name : name ≡ at.file.name
  pub same_origin : IsOriginOf origin at
