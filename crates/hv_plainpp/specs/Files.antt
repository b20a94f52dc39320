-- The files of a bundle, and the places in them.
use Rattle.std.specs.Prelude.{ℕ, ◌+◌, List, [], ◌∷◌, codes, Option, Some, None, option_map, position}
use Rattle.std.specs.Str.{bytes_eq}
use Rattle.hv_base.specs.Bundles.{NamedFiles, held_at, number_at}
use Rattle.hv_base.specs.declared.held.Held.{Held}
use Rattle.hv_base.specs.declared.held.Held.TheVariants.{Bytes, Absent}
use Rattle.hv_base.specs.declared.limits.TheConstants.{FIRST_HEADER_FILE}
use Rattle.hv_base.specs.declared.place.Place.{Place}
use Rattle.hv_toks.specs.declared.token.PpTok.{PpTok}
use Rattle.hv_plain.specs.gathering.Headers.{header_text}
use Rattle.hv_plain.specs.gathering.Mentions.{Header}
use Rattle.hv_plain.specs.gathering.SearchOrder.{candidates}

-- a file or a built-in header: its number, its name and its bytes
pub record File : Type 0 where
  pub number : ℕ
  pub name : List ℕ
  pub bytes : List ℕ

-- a file that was entered by `#include` directives, whose `#` have these offsets, outermost first
pub record Entered : Type 0 where
  pub file : File
  pub stack : List ℕ

-- the place at this offset
abbrev pub place_at : Entered → ℕ → Place
place_at at offset = record { stack = at.stack; file = at.file.number; offset = offset }

-- the place of a token
abbrev pub place_of : Entered → PpTok → Place
place_of at t = place_at at t.span.start

------ which file a header is (6.10.2)

-- the built-in headers in the order of their numbers
-- SAME: headers
abbrev pub header_names : List (List ℕ)
header_names = codes "stddef.h" ∷ codes "stdio.h" ∷ codes "stdlib.h" ∷ codes "string.h"
    ∷ codes "limits.h" ∷ codes "stdbool.h" ∷ codes "stdint.h" ∷ []

-- the file of this number, with what is held under its name; `None` where nothing is
abbrev pub file_of : (name : List ℕ) → Option ℕ → Option Held → Option File
file_of name None held = None
file_of name (Some number) None = None
file_of name (Some number) (Some Absent) = None
file_of name (Some number) (Some (Bytes bytes)) =
    Some (record { number = number; name = name; bytes = bytes })

-- the file of this name in a bundle; `None` where it is absent, as each name outside the bundle is
abbrev pub file_in : NamedFiles → (name : List ℕ) → Option File
file_in bundle name = file_of name (number_at bundle name) (held_at bundle name)

-- the built-in header of this name; `None` where there is none
abbrev pub built_in : (name : List ℕ) → Option File
built_in name = file_of name
    (option_map (λ row. FIRST_HEADER_FILE + row) (position (bytes_eq name) header_names))
    (option_map Bytes (header_text name))

-- the first of these names that is no absent file, or else the built-in header of the name
abbrev pub first_there : NamedFiles → (header : List ℕ) → (candidates : List (List ℕ))
    → Option File
first_there bundle header [] = built_in header
first_there bundle header (name ∷ names) = elim (file_in bundle name) [
  | Some file ↦ Some file
  | None ↦ first_there bundle header names
]

-- the file that a header means in a file of this name; `None` where no candidate is there
abbrev pub found : NamedFiles → (file : List ℕ) → Header → Option File
found bundle file header = first_there bundle header.name (candidates bundle.dirs file header)
