-- The pages of sources.
use Rattle.std.specs.Prelude.{List, [], ◌∷◌, Option, Some, None}
use Rattle.hv_plainpp.specs.Files.{File}
use Rattle.hv_preproc.specs.declared.page.Page.{Page}
use Rattle.hv_preproc.specs.declared.source.Source.{Source}
use Rattle.hv_preproc.specs.working.Keys.{IsOfInitial}
use Rattle.hv_preproc.specs.working.Parts.{IsFound}
use Rattle.hv_preproc.specs.working.Sources.{IsSourceFor}

-- the number of a file, where there is one, is one of a file
abbrev pub HasFileNumber : Option File → Type 0
HasFileNumber None = Unit {0}
HasFileNumber (Some file) = ¬ IsOfInitial file.number

-- a page is each file that its source is
abbrev pub IsPageFor : Option Source → Option Page → Type 0
IsPageFor source page = (file : Option File) → IsSourceFor source file → HasFileNumber file
    → IsFound page file

-- each page is that of the source at its position
abbrev pub ArePagesFor : List (Option Source) → List (Option Page) → Type 0
ArePagesFor [] [] = Unit {0}
ArePagesFor [] (page ∷ pages) = ⊥
ArePagesFor (source ∷ sources) [] = ⊥
ArePagesFor (source ∷ sources) (page ∷ pages) =
    IsPageFor source page × ArePagesFor sources pages
