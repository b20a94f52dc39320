-- The bundle that the search finds in a told map of files.
use Rattle.std.specs.Prelude.{ℕ, zero, suc, List, [], ◌∷◌, ◌++◌, cond, fold, Option, None, Some}
use Rattle.std.specs.Map.{lookup}
use Rattle.std.specs.Str.{bytes_eq}
use Rattle.hv_base.specs.Ascii.{is_among}
use Rattle.hv_base.specs.Bundles.{NamedFiles}
use Rattle.hv_base.specs.declared.held.Held.{Held}
use Rattle.hv_base.specs.declared.held.Held.TheVariants.{Bytes, Absent}
use Rattle.hv_base.specs.declared.limits.TheConstants.{MOST_INCLUDES}
use Rattle.hv_plain.specs.gathering.Headers.{header_text}
use Rattle.hv_plain.specs.gathering.Mentions.{Header, mentions}
use Rattle.hv_plain.specs.gathering.SearchOrder.{candidates}

-- a file or a built-in header that was reached, and the headers that it mentions
pub record Reached : Type 0 where
  pub name : List ℕ
  pub mentioned : List Header

-- how far a search is: the names that were asked for, in order, with what was found; the built-in
-- headers that were reached; and what was reached but not gone through, in the order of first
-- mention
pub record Search : Type 0 where
  pub entries : List (List ℕ × Held)
  pub headers : List (List ℕ)
  pub waiting : List Reached

-- a name was asked for, and there is a file
abbrev pub with_file : (name bytes : List ℕ) → Search → Search
with_file name bytes search = record {
  entries = search.entries ++ (name, Bytes bytes) ∷ [];
  headers = search.headers;
  waiting = search.waiting ++ record { name = name; mentioned = mentions bytes } ∷ [];
}

-- a name was asked for, and there is no file
abbrev pub with_absent : (name : List ℕ) → Search → Search
with_absent name search = record search { entries = search.entries ++ (name, Absent) ∷ [] }

-- a built-in header was reached
abbrev pub with_header : (name text : List ℕ) → Search → Search
with_header name text search = record {
  entries = search.entries;
  headers = search.headers ++ name ∷ [];
  waiting = search.waiting ++ record { name = name; mentioned = mentions text } ∷ [];
}

-- no candidate is there: the header is built in, or nowhere. A built-in header is gone through once
abbrev pub reach_header : (name : List ℕ) → Search → Search
reach_header name search = elim (header_text name) [
  | None ↦ search
  | Some text ↦ cond (is_among name search.headers) search (with_header name text search)
]

-- what a name leads to, where `held` tells what is held under it and `found` is what was found when
-- it was asked for before: at a file the search for the header ends, else `go_on` goes on with it
abbrev pub ask : (name : List ℕ) → (held : Option (List ℕ)) → (found : Option Held)
    → (go_on : Search → Search)
    → Search → Search
ask name held (Some (Bytes _)) go_on search = search
ask name held (Some Absent) go_on search = go_on search
ask name (Some bytes) None go_on search = with_file name bytes search
ask name None None go_on search = go_on (with_absent name search)

-- the search for the header of this name under these candidates, up to the first that isn't absent.
-- No name is asked for twice
abbrev pub look_up : (held : List ℕ → Option (List ℕ)) → (name : List ℕ)
    → (candidates : List (List ℕ))
    → Search → Search
look_up held name [] search = reach_header name search
look_up held name (candidate ∷ more) search =
    ask candidate (held candidate) (lookup (bytes_eq candidate) search.entries)
    (look_up held name more) search

-- the search for each of these headers, which the file of this name mentions
abbrev pub follow : (held : List ℕ → Option (List ℕ)) → (dirs : List (List ℕ)) → (file : List ℕ)
    → List Header
    → Search → Search
follow held dirs file mentioned search =
    fold (λ now header. look_up held header.name (candidates dirs file header) now) search mentioned

-- the search for what each of these mentions
abbrev pub follow_all : (held : List ℕ → Option (List ℕ)) → (dirs : List (List ℕ))
    → List Reached
    → Search → Search
follow_all held dirs all search =
    fold (λ now reached. follow held dirs reached.name reached.mentioned now) search all

-- breadth first: all that waits is gone through before what it mentions, which is one mention
-- deeper; `n` times
unfoldable pub deepen : (n : ℕ) → (held : List ℕ → Option (List ℕ)) → (dirs : List (List ℕ))
    → Search → Search
deepen zero held dirs search = search
deepen (suc n) held dirs search =
    deepen n held dirs (follow_all held dirs search.waiting (record search { waiting = [] }))

-- a search before its first question
abbrev pub beginning : Search
beginning = record { entries = []; headers = []; waiting = [] }

-- the search that begins with the main file
abbrev pub begin : (name : List ℕ) → Option (List ℕ) → Search
begin name (Some bytes) = with_file name bytes beginning
begin name None = with_absent name beginning

-- the bundle that the search finds where `held` tells what each name holds, through at most 64
-- nested mentions
abbrev pub told : (held : List ℕ → Option (List ℕ)) → (main : List ℕ) → (dirs : List (List ℕ))
    → NamedFiles
told held main dirs = record {
  main = main;
  dirs = dirs;
  entries = (deepen MOST_INCLUDES held dirs (begin main (held main))).entries;
}
