-- Preprocessing in one configuration (6.10): the lines of a file in order, and those of the files
-- that it includes. A file is cut whole when it is entered.
use Rattle.std.specs.Prelude.{ℕ, zero, suc, true, false, List, [], ◌∷◌, ◌++◌, Option, Some, None}
use Rattle.hv_base.specs.Bundles.{NamedFiles}
use Rattle.hv_base.specs.declared.limits.TheConstants.{MOST_INCLUDES}
use Rattle.hv_base.specs.declared.place.Place.{Place}
use Rattle.hv_base.specs.declared.why.Why.TheVariants.{OpenComment, BadDirective, Unbalanced, ErrorDirective, NoFile, IncludeTooDeep, BadDefine}
use Rattle.hv_toks.specs.Cutting.{Cutting, tokens, open_comment}
use Rattle.hv_toks.specs.Macro.{undefined, defined}
use Rattle.hv_toks.specs.MacroState.{Entry, meaning_of}
use Rattle.hv_toks.specs.declared.token.PpTok.{PpTok}
use Rattle.hv_plain.specs.gathering.Mentions.{cut, Header, header_of, is_mention}
use Rattle.hv_plainpp.specs.Definitions.{Definition, definition, undefined_name}
use Rattle.hv_plainpp.specs.Directives.{Action, include, define, undef, error, ignored, unknown, conditional, action, directive_of}
use Rattle.hv_plainpp.specs.Files.{File, Entered, place_at, place_of, file_in, found}
use Rattle.hv_plainpp.specs.Groups.{Group, is_processed, regrouped}
use Rattle.hv_plainpp.specs.Lines.{Piece, text, directive, lines_of, pieces_of}
use Rattle.hv_plainpp.specs.Reading.{Reading, reading, refusal, and_then}
use Rattle.hv_plainpp.specs.Text.{episodes}

-- reads the lines of an entered file from a macro state on, up to the macro state at its end
abbrev pub Reader : Type 0
Reader = Entered → List Entry → Reading (List Entry)

------ directives of processed groups

-- `#include` (6.10.2): `reader` reads the file; `None` where no further include may be open
abbrev pub include_file : NamedFiles → (reader : Option Reader) → Entered → (hash : PpTok) → Header
    → List Entry → Reading (List Entry)
include_file bundle None at hash header macros = refusal IncludeTooDeep (place_of at hash)
include_file bundle (Some reader) at hash header macros =
    elim (found bundle at.file.name header) [
      | None ↦ refusal NoFile (place_of at hash)
      | Some file ↦
          reader (record { file = file; stack = at.stack ++ hash.span.start ∷ [] }) macros
    ]

-- the header that an `#include` line names, by the tokens behind `include`; `None` where no header
-- name stands there, or one with a byte that isn't printable. What stands behind it is ignored
abbrev pub header_on : List PpTok → Option Header
header_on [] = None
header_on (t ∷ line) = elim (is_mention t) [ true ↦ Some (header_of t.text) | false ↦ None ]

-- the macro state with one more entry
abbrev pub with_entry : List Entry → Entry → List Entry
with_entry macros e = macros ++ e ∷ []

-- `#define` (6.10.3): the definition's place is that of its `#`
abbrev pub define_macro : (hash : Place) → Option Definition → List Entry → Reading (List Entry)
define_macro hash None macros = refusal BadDefine hash
define_macro hash (Some d) macros =
    reading (with_entry macros (record { name = d.name; macro = defined hash d.body }))

-- `#undef` (6.10.3.5)
abbrev pub remove_macro : (hash : Place) → Option (List ℕ) → List Entry → Reading (List Entry)
remove_macro hash None macros = refusal BadDefine hash
remove_macro hash (Some name) macros =
    reading (with_entry macros (record { name = name; macro = undefined }))

-- what a directive that makes no groups does
abbrev pub obeyed : NamedFiles → (reader : Option Reader) → Entered → (hash : PpTok) → Action
    → List Entry → Reading (List Entry)
obeyed bundle reader at hash (include line) macros = elim (header_on line) [
  | None ↦ refusal BadDirective (place_of at hash)
  | Some header ↦ include_file bundle reader at hash header macros
]
obeyed bundle reader at hash (define line) macros =
    define_macro (place_of at hash) (definition line) macros
obeyed bundle reader at hash (undef line) macros =
    remove_macro (place_of at hash) (undefined_name line) macros
obeyed bundle reader at hash error macros = refusal ErrorDirective (place_of at hash)
obeyed bundle reader at hash ignored macros = reading macros
obeyed bundle reader at hash unknown macros = refusal BadDirective (place_of at hash)

------ the lines of a file

-- the end of a file where these groups are open
abbrev pub at_end : List Group → List Entry → Reading (List Entry)
at_end [] macros = reading macros
at_end (g ∷ groups) macros = refusal Unbalanced g.opened

-- the rest of a file, where these groups are open
abbrev pub rest_of_file : NamedFiles → (reader : Option Reader) → Entered → List Group
    → List Piece → List Entry → Reading (List Entry)
rest_of_file bundle reader at groups [] macros = at_end groups macros
rest_of_file bundle reader at groups (text run ends ∷ pieces) macros =
    elim (is_processed groups) [
      | true ↦ and_then (episodes at ends (meaning_of macros) 0 run)
          (λ done. rest_of_file bundle reader at groups pieces macros)
      | false ↦ rest_of_file bundle reader at groups pieces macros
    ]
rest_of_file bundle reader at groups (directive hash line ∷ pieces) macros =
    elim (directive_of line) [
      | conditional c ↦
          and_then (regrouped at (meaning_of macros) (place_of at hash) c groups)
          (λ now. rest_of_file bundle reader at now pieces macros)
      | action a ↦ elim (is_processed groups) [
        | true ↦ and_then (obeyed bundle reader at hash a macros)
            (λ now. rest_of_file bundle reader at groups pieces now)
        | false ↦ rest_of_file bundle reader at groups pieces macros
      ]
    ]

-- a file by its cutting
abbrev pub cut_file : NamedFiles → (reader : Option Reader) → Entered → Cutting → List Entry
    → Reading (List Entry)
cut_file bundle reader at (open_comment offset) macros = refusal OpenComment (place_at at offset)
cut_file bundle reader at (tokens toks) macros =
    rest_of_file bundle reader at [] (pieces_of (lines_of toks)) macros

-- a whole file
abbrev pub file : NamedFiles → (reader : Option Reader) → Reader
file bundle reader at macros =
    cut_file bundle reader at (cut at.file.number at.file.bytes) macros

-- a file in which so many more includes may be open
unfoldable pub entered : (left : ℕ) → NamedFiles → Reader
entered zero bundle at macros = file bundle None at macros
entered (suc left) bundle at macros = file bundle (Some (entered left bundle)) at macros

-- the translation unit whose main file this is, and which begins with this macro state (5.1.1.1). A
-- bundle has its main file; one without it is none
abbrev pub unit_of : NamedFiles → Option File → List Entry → Reading (List Entry)
unit_of bundle None macros =
    refusal NoFile (record { stack = []; file = 0; offset = 0 })
unit_of bundle (Some main) macros =
    entered MOST_INCLUDES bundle (record { file = main; stack = [] }) macros

-- the translation unit of a bundle
abbrev pub unit : NamedFiles → List Entry → Reading (List Entry)
unit bundle macros = unit_of bundle (file_in bundle bundle.main) macros
