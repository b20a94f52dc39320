-- How a line is cut into tokens.
use Rattle.std.specs.Prelude.{ℕ, cond, ◌&&◌, ◌==◌, List, [], ◌∷◌, Option, Some, None}
use Rattle.std.specs.Option.{option_map_or}
use Rattle.hv_base.specs.Ascii as ascii
use Rattle.hv_base.specs.Ascii.{is_blank, is_identifier_byte}

-- what a line is made of
pub data Token : Type 0 where
  implies : Token  -- =>
  either : Token  -- ||
  both : Token  -- &&
  negate : Token  -- !
  open_ : Token  -- (
  close : Token  -- )
  word : List ℕ → Token  -- letters, digits and `_`, as many as stand side by side
  other : Token  -- a byte that begins none of these

-- a byte of a word before what begins with a byte of a word
abbrev pub lengthened : ℕ → List Token → List Token
lengthened byte (word bytes ∷ tokens) = word (byte ∷ bytes) ∷ tokens
lengthened byte tokens = word (byte ∷ []) ∷ tokens

-- a token of one byte
abbrev pub single : ℕ → Token
single byte = cond (byte == ascii.exclamation) negate (cond (byte == ascii.left_parenthesis) open_
    (cond (byte == ascii.right_parenthesis) close other))

-- a token of two bytes, where they are one
abbrev pub pair_of : ℕ → ℕ → Option Token
pair_of first second =
    cond (first == ascii.equal && second == ascii.greater) (Some implies)
    (cond (first == ascii.bar && second == ascii.bar) (Some either)
    (cond (first == ascii.ampersand && second == ascii.ampersand) (Some both) None))

-- the longest token first; blanks may stand between tokens
abbrev pub tokens : List ℕ → List Token
tokens [] = []
tokens (byte ∷ []) = cond (is_blank byte) [] (cond (is_identifier_byte byte) (word (byte ∷ [])
    ∷ []) (single byte ∷ []))
tokens (byte ∷ next ∷ bytes) =
    cond (is_blank byte) (tokens (next ∷ bytes))
    (cond (is_identifier_byte byte) (cond (is_identifier_byte next) (lengthened byte (tokens (next
    ∷ bytes))) (word (byte ∷ []) ∷ tokens (next ∷ bytes)))
    (option_map_or (λ token. token ∷ tokens bytes) (pair_of byte next) (single byte ∷ tokens (next
    ∷ bytes))))
