-- Where a header is looked for.
use Rattle.std.specs.Prelude.{ℕ, Bool, cond, nat_eq, ◌==◌, List, [], ◌∷◌, ◌++◌, map, Option, None, Some}
use Rattle.std.specs.List.{starts_with}
use Rattle.hv_base.specs.Ascii as ascii
use Rattle.hv_plain.specs.gathering.Mentions.{Header}

-- what stands before the last `/` of a name; `None` where there is no `/`
abbrev pub folder_of : List ℕ → Option (List ℕ)
folder_of [] = None
folder_of (byte ∷ bytes) = elim (folder_of bytes) [
  | Some folder ↦ Some (byte ∷ folder)
  | None ↦ cond (byte == ascii.slash) (Some []) None
]

-- the name within a folder
abbrev pub joined : (folder name : List ℕ) → List ℕ
joined folder name = folder ++ ascii.slash ∷ name

-- the name within the folder of a file; the name itself where the file's name has no folder
abbrev pub beside : (file name : List ℕ) → List ℕ
beside file name = elim (folder_of file) [ Some folder ↦ joined folder name | None ↦ name ]

-- the names under which a header is looked for, in order, when the file of this name mentions it:
-- where it begins with `/` the header's name itself; else, if it is quoted, the name within the
-- file's folder, and then the name within each include folder. After them come the built-in headers
abbrev pub candidates : (dirs : List (List ℕ)) → (file : List ℕ) → Header → List (List ℕ)
candidates dirs file header =
    cond (starts_with nat_eq header.name (ascii.slash ∷ [])) (header.name ∷ [])
    (cond header.quoted (beside file header.name ∷ map (λ dir. joined dir header.name) dirs)
    (map (λ dir. joined dir header.name) dirs))
