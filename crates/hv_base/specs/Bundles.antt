-- Bundles: a finite map from names of files to what is held under them, with its order of adding.
use Rattle.std.specs.Prelude.{ℕ, ◌≡◌, List, [], ◌∷◌, map, Option, Some, slice_get, position}
use Rattle.std.specs.Map.{lookup}
use Rattle.std.specs.Str.{bytes_eq}
use Rattle.hv_base.specs.declared.held.Held.{Held}
use Rattle.hv_base.specs.declared.held.Held.TheVariants.{Bytes}

-- the main file's name, the include folders, and each added name with what is held under it, all in
-- order
pub record NamedFiles : Type 0 where
  pub main : List ℕ
  pub dirs : List (List ℕ)
  pub entries : List (List ℕ × Held)

-- the names in the order of adding
abbrev pub names_in : NamedFiles → List (List ℕ)
names_in bundle = map (λ e. e.0) bundle.entries

-- what is held under the name; `None` where it wasn't added
abbrev pub held_at : NamedFiles → List ℕ → Option Held
held_at bundle name = lookup (bytes_eq name) bundle.entries

-- the file number of the name, which is its place in the order of adding; `None` where it wasn't
-- added
abbrev pub number_at : NamedFiles → List ℕ → Option ℕ
number_at bundle name = position (bytes_eq name) (names_in bundle)

-- the name of the file of this number; `None` where there are fewer
abbrev pub name_at : NamedFiles → ℕ → Option (List ℕ)
name_at bundle file = slice_get (names_in bundle) file

-- the main name has the number 0 and isn't absent, as calls that take a bundle ask for
pub record HasMain (bundle : NamedFiles) : Type 0 where
  pub bytes : List ℕ
  pub others : List (List ℕ × Held)
  pub first : bundle.entries ≡ (bundle.main, Bytes bytes) ∷ others
