-- The categories of preprocessing tokens (6.4), each as a test on a whole text, and the longest
-- prefix of a text that passes such a test. Texts are those after the splicing of lines.
-- Not in here: universal character names, trigraphs and digraphs.
use Rattle.std.specs.Prelude.{ℕ, zero, suc, Bool, true, false, cond, not, ◌&&◌, ◌||◌, ◌==◌, nat_le, List, [], ◌∷◌, codes}
use Rattle.std.specs.List.{list_all, list_any}
use Rattle.std.specs.Str.{bytes_eq}
use Rattle.hv_base.specs.Ascii as ascii
use Rattle.hv_base.specs.Ascii.{is_digit, is_empty, is_identifier_byte, is_nondigit}

-- the length of the longest prefix of the text, other than the empty one, that passes the test; 0
-- where there is none
abbrev pub longest : (List ℕ → Bool) → List ℕ → ℕ
longest test [] = 0
longest test (byte ∷ bytes) = elim (longest (λ prefix. test (byte ∷ prefix)) bytes) [
  | zero ↦ cond (test (byte ∷ [])) 1 0
  | suc more ↦ suc (suc more)
]

-- `part`, or `byte` and then `part`
abbrev pub optional : ℕ → (List ℕ → Bool) → List ℕ → Bool
optional byte part [] = part []
optional byte part (first ∷ rest) = part (first ∷ rest) || (first == byte && part rest)

-- identifier (6.4.2.1)
abbrev pub is_identifier : List ℕ → Bool
is_identifier [] = false
is_identifier (byte ∷ bytes) = is_nondigit byte && list_all is_identifier_byte bytes

-- `e`, `E`, `p` or `P`
abbrev pub is_exponent : ℕ → Bool
is_exponent byte = byte == 101 || byte == 69 || byte == 112 || byte == 80

-- `+` or `-`
abbrev pub is_sign : ℕ → Bool
is_sign byte = byte == ascii.plus || byte == ascii.minus

-- what may follow in a preprocessing number; a sign only directly after an exponent's letter
abbrev pub continues_number : (exponent : Bool) → List ℕ → Bool
continues_number exponent [] = true
continues_number exponent (byte ∷ bytes) =
    (is_identifier_byte byte || byte == ascii.dot || (exponent && is_sign byte))
    && continues_number (is_exponent byte) bytes

-- a digit and what may follow in a preprocessing number
abbrev pub begins_with_digit : List ℕ → Bool
begins_with_digit [] = false
begins_with_digit (byte ∷ bytes) = is_digit byte && continues_number false bytes

-- preprocessing number (6.4.8)
abbrev pub is_number : List ℕ → Bool
is_number text = optional ascii.dot begins_with_digit text

-- what may stand after an opening quote, up to and with the closing one, all on one line. Where
-- `escapes` holds, a backslash and the byte after it go together; `escaped` says that a backslash
-- stands before
abbrev pub closes : (escapes : Bool) → (quote : ℕ) → (escaped : Bool) → List ℕ → Bool
closes escapes quote escaped [] = false
closes escapes quote true (byte ∷ bytes) =
    not (byte == ascii.newline) && closes escapes quote false bytes
closes escapes quote false (byte ∷ bytes) =
    not (byte == ascii.newline) && cond (byte == quote) (is_empty bytes)
    (closes escapes quote (escapes && byte == ascii.backslash) bytes)

-- a text between two quotes
abbrev pub is_quoted : (quote : ℕ) → List ℕ → Bool
is_quoted quote [] = false
is_quoted quote (byte ∷ bytes) = byte == quote && closes true quote false bytes

-- character constant (6.4.4.4), whatever its escapes, and also without a character
abbrev pub is_char_constant : List ℕ → Bool
is_char_constant text = optional ascii.wide (is_quoted ascii.apostrophe) text

-- string literal (6.4.5), whatever its escapes
abbrev pub is_string_literal : List ℕ → Bool
is_string_literal text = optional ascii.wide (is_quoted ascii.quote) text

-- at least one byte, and then the closing one
abbrev pub is_enclosed : (closing : ℕ) → List ℕ → Bool
is_enclosed closing [] = false
is_enclosed closing (byte ∷ bytes) =
    not (byte == closing) && closes false closing false (byte ∷ bytes)

-- header name (6.4.7)
abbrev pub is_header_name : List ℕ → Bool
is_header_name [] = false
is_header_name (byte ∷ bytes) =
    (byte == ascii.less && is_enclosed ascii.greater bytes) ||
    (byte == ascii.quote && is_enclosed ascii.quote bytes)

-- the punctuators of two bytes
abbrev pub pairs : List (List ℕ)
pairs = codes "->" ∷ codes "++" ∷ codes "--" ∷ codes "<<" ∷ codes ">>" ∷ codes "<=" ∷ codes ">="
    ∷ codes "==" ∷ codes "!="
    ∷ codes "&&" ∷ codes "||" ∷ codes "*=" ∷ codes "/=" ∷ codes "%=" ∷ codes "+=" ∷ codes "-="
    ∷ codes "&=" ∷ codes "^="
    ∷ codes "|=" ∷ codes "##" ∷ []

-- the punctuators of three bytes
abbrev pub triples : List (List ℕ)
triples = codes "..." ∷ codes "<<=" ∷ codes ">>=" ∷ []

-- punctuator (6.4.6), of one, two or three bytes
abbrev pub is_punctuator : List ℕ → Bool
is_punctuator [] = false
is_punctuator (a ∷ []) = list_any (λ byte. a == byte) (codes "[](){}.&*+-~!/%<>^|?:;=,#")
is_punctuator (a ∷ b ∷ []) = list_any (bytes_eq (a ∷ b ∷ [])) pairs
is_punctuator (a ∷ b ∷ c ∷ []) = list_any (bytes_eq (a ∷ b ∷ c ∷ [])) triples
is_punctuator (_ ∷ _ ∷ _ ∷ _ ∷ _) = false
