-- Adjacent string literals are joined, translation phase 6 (5.1.1.2, 6.4.5, paragraph 4). Here a
-- token stands with what identifies it, whatever that is.
use Rattle.std.specs.Prelude.{List, [], ◌∷◌, ◌++◌}
use Rattle.hv_base.specs.declared.token.CTok.{CTok}
use Rattle.hv_base.specs.declared.token.CTok.TheVariants.{Str}

-- a token before others that are joined; where both are string literals, they are one, which the
-- first part identifies
abbrev pub before_joined : {A : Type 0} → CTok × A → List (CTok × A) → List (CTok × A)
before_joined (Str bytes, at) ((Str more, _) ∷ tokens) = (Str (bytes ++ more), at) ∷ tokens
before_joined token tokens = token ∷ tokens

-- the tokens, where string literals next to one another are one
abbrev pub joined : {A : Type 0} → List (CTok × A) → List (CTok × A)
joined [] = []
joined (token ∷ tokens) = before_joined token (joined tokens)
