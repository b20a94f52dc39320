-- Whether a name in a rule is one of the first so many options.
use Rattle.std.specs.Prelude.{ℕ, Bool, true, nat_lt, List}
use Rattle.hv_model.specs.Grammar.{place_of}
use Rattle.hv_model.specs.Token.{Token, word}

-- a token that is a name is one of the first so many options
abbrev pub is_known : ℕ → List (List ℕ) → Token → Bool
is_known n names (word name) = nat_lt (place_of names name) n
is_known n names _ = true
