-- The printed form of terminals, and commas between the phrases of a list.
use Rattle.std.specs.Prelude.{ℕ, zero, suc, List, [], ◌∷◌, ◌++◌}
use Rattle.hv_grammar.specs.Symbols.{Symbol, comma_sign}
use Rattle.hv_print.specs.Shown.{token_of, shown}

-- a terminal as it is printed
unfoldable pub shown_symbol : Symbol → List ℕ
shown_symbol s = shown (token_of s)

-- terminals as they are printed
abbrev pub printed : List Symbol → List ℕ
printed [] = []
printed (s ∷ ss) = shown_symbol s ++ printed ss

-- the comma before the phrase of this index in a list
abbrev pub comma_before : ℕ → List Symbol
comma_before zero = []
comma_before (suc i) = comma_sign ∷ []
