-- Tokens within an expansion: what each is spelled like, and which names it hides.
use Rattle.std.specs.Prelude.{ℕ, Bool, true, false, ◌||◌, not, List, [], ◌∷◌, ◌++◌, map, filter}
use Rattle.hv_base.specs.Ascii.{is_among}
use Rattle.hv_toks.specs.Spelled.{Spelled}
use Rattle.hv_toks.specs.declared.token.PpKind.{PpKind}
use Rattle.hv_toks.specs.declared.token.PpKind.TheVariants.{Identifier, Number, CharConstant, StringLiteral, HeaderName, Punctuator, Other}
use Rattle.hv_toks.specs.declared.token.PpTok.{PpTok}

-- a token with the names of the macros that it comes from, which it doesn't begin again (6.10.3.4,
-- paragraph 2)
pub record Token : Type 0 where
  pub kind : PpKind
  pub text : List ℕ
  pub space : Bool
  pub hides : List (List ℕ)

-- a token of a source, which hides nothing; the first of a line comes after white space, the
-- newline (6.10.3.2)
abbrev pub source_token : PpTok → Token
source_token t = record { kind = t.kind; text = t.text; space = t.space || t.first; hides = [] }

-- a token of a replacement list
abbrev pub body_token : Spelled → (space : Bool) → Token
body_token s space = record { kind = s.kind; text = s.text; space = space; hides = [] }

-- what is given of a token
abbrev pub given_token : Token → Spelled
given_token t = record { kind = t.kind; text = t.text; space = t.space }

-- an identifier (6.4.2)
abbrev pub is_identifier : PpKind → Bool
is_identifier Identifier = true
is_identifier Number = false
is_identifier CharConstant = false
is_identifier StringLiteral = false
is_identifier HeaderName = false
is_identifier Punctuator = false
is_identifier Other = false

-- the names that are in both hide sets
abbrev pub both : List (List ℕ) → List (List ℕ) → List (List ℕ)
both hides others = filter (λ name. is_among name others) hides

-- the names that are in one of two hide sets
abbrev pub either : List (List ℕ) → List (List ℕ) → List (List ℕ)
either hides others = filter (λ name. not (is_among name others)) hides ++ others

-- each token hides these names too
abbrev pub hiding : List (List ℕ) → List Token → List Token
hiding names tokens = map (λ (t : Token). record t { hides = either t.hides names }) tokens

-- the first token stands after white space exactly where this is so
abbrev pub spaced : Bool → List Token → List Token
spaced space [] = []
spaced space (t ∷ tokens) = record t { space = space } ∷ tokens

-- the first token stands after white space where this is so, too
abbrev pub owing : Bool → List Token → List Token
owing owed [] = []
owing owed (t ∷ tokens) = record t { space = t.space || owed } ∷ tokens

-- whether white space stands before no token yet: it was owed, and these tokens are none
abbrev pub still_owed : Bool → List Token → Bool
still_owed owed [] = owed
still_owed owed (t ∷ tokens) = false
