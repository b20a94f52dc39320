-- Where a place is, as messages say it.
use Rattle.std.specs.Prelude.{ℕ, ◌+◌, List, [], ◌∷◌, ◌++◌, Option, Some, None, codes, count_by, decimal, take, unwrap_or}
use Rattle.hv_base.specs.Ascii.{comma, is_newline}
use Rattle.hv_base.specs.Bundles.{NamedFiles, held_at, name_at}
use Rattle.hv_base.specs.declared.held.Held.{Held}
use Rattle.hv_base.specs.declared.held.Held.TheVariants.{Bytes, Absent}
use Rattle.hv_base.specs.declared.place.Place.{Place}
use Rattle.hv_plain.specs.gathering.Headers.{header_text}
use Rattle.hv_preproc.specs.Headers.{header_name_of}
use Rattle.hv_cli.specs.declared.position.Position.{Position}

-- a built-in header as messages name it: its name between `<` and `>`; nothing where there is none
abbrev pub header_shown : (name : Option (List ℕ)) → List ℕ
header_shown None = []
header_shown (Some name) = codes "<" ++ name ++ codes ">"

-- a file of this name as messages name it, or else the built-in header with this number
abbrev pub name_shown : (name : Option (List ℕ)) → (number : ℕ) → List ℕ
name_shown (Some name) number = name
name_shown None number = header_shown (header_name_of number)

-- the text of the built-in header of this name; nothing where there is none
abbrev pub header_bytes : (name : Option (List ℕ)) → List ℕ
header_bytes None = []
header_bytes (Some name) = unwrap_or (header_text name) []

-- the bytes of what is held; none where nothing is
abbrev pub bytes_held : Option Held → List ℕ
bytes_held None = []
bytes_held (Some Absent) = []
bytes_held (Some (Bytes bytes)) = bytes

-- the bytes of the bundle's file of this name, or else of the built-in header with this number
abbrev pub bytes_shown : NamedFiles → (name : Option (List ℕ)) → (number : ℕ) → List ℕ
bytes_shown bundle (Some name) number = bytes_held (held_at bundle name)
bytes_shown bundle None number = header_bytes (header_name_of number)

-- the line of an offset, counted from 1: one more than the newlines before it
abbrev pub line_at : (bytes : List ℕ) → (offset : ℕ) → ℕ
line_at bytes offset = 1 + count_by is_newline (take offset bytes)

-- numbers in decimal, each after a comma
abbrev pub after_commas : List ℕ → List ℕ
after_commas [] = []
after_commas (number ∷ numbers) = comma ∷ decimal number ++ after_commas numbers

-- the way to a file: the offsets of the `#include` directives that led there, outermost first, in
-- decimal and joined by commas; `-` where there are none
abbrev pub way_of : (stack : List ℕ) → List ℕ
way_of [] = codes "-"
way_of (offset ∷ offsets) = decimal offset ++ after_commas offsets

-- where a place of a bundle is
abbrev pub position_of : NamedFiles → Place → Position
position_of bundle place = record {
  file = name_shown (name_at bundle place.file) place.file;
  line = line_at (bytes_shown bundle (name_at bundle place.file) place.file) place.offset;
  offset = place.offset;
  via = way_of place.stack;
}

-- the first byte of a file that no `#include` directive led to
abbrev pub start_of : (file : List ℕ) → Position
start_of file = record { file = file; line = 1; offset = 0; via = codes "-" }
