-- What the sources of a bundle are cut into.
use Rattle.std.specs.Prelude.{ℕ, ◌≡◌, ◌≤◌, List, [], ◌∷◌, length, slice_get, Option, Some, None}
use Rattle.std.specs.String.{string_bytes}
use Rattle.hv_base.specs.Bundles.{NamedFiles, number_at}
use Rattle.hv_base.specs.declared.limits.TheConstants.{MOST_NAMES}
use Rattle.hv_plain.specs.gathering.Mentions.{cut}
use Rattle.hv_plainpp.specs.Files.{File, built_in, file_in, header_names}
use Rattle.hv_preproc.specs.declared.source.Cut.{Cut}
use Rattle.hv_preproc.specs.declared.source.Cut.TheVariants.{OpenComment, Tokens}
use Rattle.hv_preproc.specs.declared.source.Source.{Source}
use Rattle.hv_preproc.specs.declared.source.Sources.{Sources}
use Rattle.hv_toks.specs.Cutting.{Cutting, open_comment, tokens}

-- a file's cutting
abbrev pub cutting_of : Cut → Cutting
cutting_of (Tokens toks) = tokens toks
cutting_of (OpenComment offset) = open_comment offset

-- a source is this file, cut
pub record IsSourceOf (source : Source) (file : File) : Type 0 where
  pub number : source.number ≡ file.number
  pub name : string_bytes source.name ≡ file.name
  pub cutting : cut file.number file.bytes ≡ cutting_of source.cut

-- a source is this file where there is one
abbrev pub IsSourceFor : Option Source → Option File → Type 0
IsSourceFor None None = Unit {0}
IsSourceFor None (Some file) = ⊥
IsSourceFor (Some source) None = ⊥
IsSourceFor (Some source) (Some file) = IsSourceOf source file

-- sources are the built-in headers of these names, in order
abbrev pub AreHeadersOf : List Source → (names : List (List ℕ)) → Type 0
AreHeadersOf [] [] = Unit {0}
AreHeadersOf [] (name ∷ names) = ⊥
AreHeadersOf (source ∷ sources) [] = ⊥
AreHeadersOf (source ∷ sources) (name ∷ names) =
    IsSourceFor (Some source) (built_in name) × AreHeadersOf sources names

-- sources are the built-in headers
abbrev pub AreHeaders : List Source → Type 0
AreHeaders sources = AreHeadersOf sources header_names

-- the sources of a bundle: each file under its number
pub record AreSources (bundle : NamedFiles) (sources : Sources) : Type 0 where
  pub few : length bundle.entries ≤ MOST_NAMES
  pub count : length sources.files.items ≡ length bundle.entries
  pub files : (name : List ℕ) (number : ℕ) (source : Option Source)
      → number_at bundle name ≡ Some number
      → slice_get sources.files.items number ≡ Some source
      → IsSourceFor source (file_in bundle name)
  pub headers : AreHeaders sources.headers.items
