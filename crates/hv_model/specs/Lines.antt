-- The lines of a model file, and what the file says.
use Rattle.std.specs.Prelude.{◌≡◌, ℕ, Bool, true, false, cond, ◌+◌, ◌==◌, ◌<◌, List, [], ◌∷◌, ◌++◌, length, codes, IsTrue}
use Rattle.std.specs.List.{list_any}
use Rattle.std.specs.Str.{bytes_eq}
use Rattle.hv_base.specs.Ascii as ascii
use Rattle.hv_base.specs.declared.limits.TheConstants.{MOST_OPTIONS}
use Rattle.hv_model.specs.Bytes.{without_leading_blanks, lines_of}
use Rattle.hv_model.specs.Name.{is_option_name}
use Rattle.hv_model.specs.Grammar.{IsRule}
use Rattle.hv_model.specs.Rule.{Rule, Features, IsValid, is_about}
use Rattle.hv_model.specs.Token.{Token, word, tokens}
use Rattle.hv_model.specs.declared.faults.ModelKind.{ModelKind}
use Rattle.hv_model.specs.declared.faults.ModelKind.TheVariants.{BadLine, Repeated, Unknown, TooMany, NoConfiguration}

-- what a line says, before it is known which options there are
pub data ModelLine : Type 0 where
  nothing : ModelLine
  option_line : List ℕ → ModelLine  -- with the option's name
  rule_line : List Token → ModelLine  -- with what stands after `rule`
  bad_line : ModelLine

-- the text begins with `#`
abbrev pub begins_comment : List ℕ → Bool
begins_comment [] = false
begins_comment (byte ∷ _) = byte == ascii.hash

-- what stands after `option` is the name of an option
abbrev pub option_of : List Token → ModelLine
option_of (word name ∷ []) = cond (is_option_name name) (option_line name) bad_line
option_of _ = bad_line

-- what a line with these tokens says: `option` and a name, or `rule` and the tokens of a rule
abbrev pub line_of_tokens : List Token → ModelLine
line_of_tokens [] = nothing
line_of_tokens (word first ∷ more) = cond (bytes_eq first (codes "rule")) (rule_line more)
    (cond (bytes_eq first (codes "option")) (option_of more) bad_line)
line_of_tokens (_ ∷ _) = bad_line

-- what a line says
abbrev pub line_of : List ℕ → ModelLine
line_of line = cond
    (begins_comment (without_leading_blanks line)) nothing (line_of_tokens (tokens line))

-- what a model file is: a model, or its first fault with the number of the line
pub data Reading : Type 0 where
  model : Features → Reading
  fault : ℕ → ModelKind → Reading

-- what the lines from number n on make, after lines that made this model; a constructor for each
-- case
pub data Reads : Features → ℕ → List (List ℕ) → Reading → Type 0 where
  ends : {m : Features} {n : ℕ} (values : List Bool) → IsValid m values → Reads m n [] (model m)
  no_configuration : {m : Features} {n : ℕ}
      → ((values : List Bool) → IsValid m values → ⊥)
      → Reads m n [] (fault 0 NoConfiguration)
  says_nothing : {m : Features} {n : ℕ} {line : List ℕ} {lines : List (List ℕ)} {o : Reading}
      → line_of line ≡ nothing
      → Reads m (n + 1) lines o
      → Reads m n (line ∷ lines) o
  bad : {m : Features} {n : ℕ} {line : List ℕ} {lines : List (List ℕ)}
      → line_of line ≡ bad_line
      → Reads m n (line ∷ lines) (fault n BadLine)
  option : {m : Features} {n : ℕ} {line name : List ℕ} {lines : List (List ℕ)} {o : Reading}
      → line_of line ≡ option_line name
      → list_any (bytes_eq name) m.names ≡ false
      → length m.names < MOST_OPTIONS
      → Reads (record { names = m.names ++ name ∷ []; rules = m.rules }) (n + 1) lines o
      → Reads m n (line ∷ lines) o
  repeated : {m : Features} {n : ℕ} {line name : List ℕ} {lines : List (List ℕ)}
      → line_of line ≡ option_line name
      → list_any (bytes_eq name) m.names ≡ true
      → Reads m n (line ∷ lines) (fault n Repeated)
  too_many : {m : Features} {n : ℕ} {line name : List ℕ} {lines : List (List ℕ)}
      → line_of line ≡ option_line name
      → list_any (bytes_eq name) m.names ≡ false
      → length m.names ≡ MOST_OPTIONS
      → Reads m n (line ∷ lines) (fault n TooMany)
  rule : {m : Features} {n : ℕ} {line : List ℕ} {ts : List Token} {r : Rule}
      {lines : List (List ℕ)} {o : Reading}
      → line_of line ≡ rule_line ts
      → IsRule m.names ts r
      → IsTrue (is_about (length m.names) r)
      → Reads (record { names = m.names; rules = m.rules ++ r ∷ [] }) (n + 1) lines o
      → Reads m n (line ∷ lines) o
  unknown : {m : Features} {n : ℕ} {line : List ℕ} {ts : List Token} {r : Rule}
      {lines : List (List ℕ)}
      → line_of line ≡ rule_line ts
      → IsRule m.names ts r
      → is_about (length m.names) r ≡ false
      → Reads m n (line ∷ lines) (fault n Unknown)
  no_rule : {m : Features} {n : ℕ} {line : List ℕ} {ts : List Token} {lines : List (List ℕ)}
      → line_of line ≡ rule_line ts
      → ((r : Rule) → IsRule m.names ts r → ⊥)
      → Reads m n (line ∷ lines) (fault n BadLine)

-- a file says a model or a fault
abbrev pub Says : List ℕ → Reading → Type 0
Says bytes reading = Reads (record { names = []; rules = [] }) 1 (lines_of bytes) reading

-- a file says one thing
abbrev pub SaysOne : List ℕ → Type 0
SaysOne bytes = (o p : Reading) → Says bytes o → Says bytes p → p ≡ o
