-- What a translation unit begins with: `#define NAME 1` for each option that is on, and the
-- predefined macros (6.10.8).
-- Each has its name, its spelling and its place. What a definition means is not defined here.
use Rattle.std.specs.Prelude.{ℕ, ◌+◌, Bool, List, [], ◌∷◌, ◌++◌, if◌then◌else◌, codes}
use Rattle.hv_base.specs.declared.limits.TheConstants.{OPTIONS_FILE, PREDEFINED_FILE}
use Rattle.hv_base.specs.declared.place.Place.{Place}
use Rattle.hv_cond.specs.Diagram.{value_of}

-- the file of the options, each at its own number, and that of the predefined macros
abbrev pub option_file : ℕ
option_file = OPTIONS_FILE

-- the file of the predefined macros
abbrev pub predefined_file : ℕ
predefined_file = PREDEFINED_FILE

-- the place at this offset of a file, which no `#include` led to
abbrev pub place_in : ℕ → ℕ → Place
place_in file offset = record { stack = []; file = file; offset = offset }

-- the options that are on; the first has this number
abbrev pub options_from : ℕ → List (List ℕ) → List Bool → List (List ℕ × List ℕ × Place)
options_from i [] values = []
options_from i (name ∷ names) values = (if value_of values i
    then (name, codes "1", place_in option_file i) ∷ [] else [])
    ++ options_from (i + 1) names values

-- the predefined macros that Hercules has (6.10.8)
abbrev pub predefined : List (List ℕ × List ℕ × Place)
predefined =
    (codes "__STDC__", codes "1", place_in predefined_file 0)
    ∷ (codes "__STDC_HOSTED__", codes "1", place_in predefined_file 1)
    ∷ (codes "__STDC_VERSION__", codes "199901L", place_in predefined_file 2) ∷ []

-- where the options have these values
abbrev pub beginning : List (List ℕ) → List Bool → List (List ℕ × List ℕ × Place)
beginning names values = options_from 0 names values ++ predefined
