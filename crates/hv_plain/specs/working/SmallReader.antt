-- What the functions of the reader of small programs compute, token by token. Nothing that is
-- promised rests on it: `small_run` says what its answer is in the words of Program and Run only.
use Rattle.std.specs.Prelude.{ℕ, ◌<◌, ◌-◌, ◌+◌, ◌*◌, ◌==◌, Bool, true, false, cond, not, ◌&&◌, nat_le, nat_lt, List, [], ◌∷◌, ◌++◌, map, length, take, drop, codes, replicate, position, slice_set, slice_get, slice_index_or, Option, None, Some}
use Rattle.std.specs.List.{slice_split}
use Rattle.std.specs.Option.{option_and_then}
use Rattle.std.specs.Str.{bytes_eq}
use Rattle.hv_plain.specs.Bytes.{is_gap}
use Rattle.hv_base.specs.Ascii.{is_digit}
use Rattle.hv_plain.specs.declared.small.reader.Due.{Due}
use Rattle.hv_plain.specs.declared.small.reader.TokenReading.{TokenReading}
use Rattle.hv_plain.specs.declared.small.reader.State.{State}
use Rattle.hv_plain.specs.declared.small.reader.State.TheVariants.{Declarations, Variable, Body, Operand, Negated, AfterOperand, Byte, End}
use Rattle.hv_plain.specs.declared.small.reader.Action.{Action}
use Rattle.hv_plain.specs.declared.small.reader.Action.TheVariants.{Nothing, Declare, Write}

-- what is due, with the words as texts
pub record Wanted : Type 0 where
  pub words : List (List ℕ)
  pub state : State

-- the reading of a token: what is due after it, and what is to be done
pub record Reading : Type 0 where
  pub due : Wanted
  pub action : Action

-- what the code's values mean: what is due
abbrev pub wanted_of : Due → Wanted
wanted_of due = record { words = map (λ word. word.now) due.words.now; state = due.state }

-- what the code's values mean: the reading of a token
abbrev pub reading_of : TokenReading → Reading
reading_of step = record { due = wanted_of step.due; action = step.action }

-- these words are due, and then this state
abbrev pub wanted : List (List ℕ) → State → Wanted
wanted words state = record { words = words; state = state }

-- the reading of a token after which these words are due, and then this state
abbrev pub reading : List (List ℕ) → State → Action → Reading
reading words state action = record { due = wanted words state; action = action }

-- a token at which nothing is to be done
abbrev pub moved : List (List ℕ) → State → Option Reading
moved words state = Some (reading words state Nothing)

-- the tokens from the declaration of `putchar` to the brace that opens `main`, but for the first
abbrev pub rest_of_head : List (List ℕ)
rest_of_head =
    codes "putchar" ∷ codes "(" ∷ codes "int" ∷ codes ")" ∷ codes ";"
    ∷ codes "int" ∷ codes "main" ∷ codes "(" ∷ codes "void" ∷ codes ")" ∷ codes "{" ∷ []

-- the number of the option whose variable this is
abbrev pub option_number : List (List ℕ) → List ℕ → Option ℕ
option_number names token =
    cond (bytes_eq (take 7 token) (codes "hv_opt_")) (position (bytes_eq (drop 7 token)) names) None

-- the value at an option's number; `None` is the value of a variable that is not declared
abbrev pub at_option : List (Option Bool) → Option ℕ → Option Bool
at_option known None = None
at_option known (Some i) = slice_index_or known i None

-- the value of a variable that is declared
abbrev pub known_value : List (List ℕ) → List (Option Bool) → List ℕ → Option Bool
known_value names known token = at_option known (option_number names token)

-- a number below 256, without a leading zero
abbrev pub byte_of : List ℕ → Option ℕ
byte_of [] = None
byte_of (a ∷ []) = cond (is_digit a) (Some (a - 48)) None
byte_of (a ∷ b ∷ []) =
    cond (nat_le 49 a && nat_le a 57 && is_digit b) (Some ((a - 48) * 10 + (b - 48))) None
byte_of (a ∷ b ∷ c ∷ []) =
    cond (nat_le 49 a && nat_le a 57 && is_digit b && is_digit c
    && nat_lt ((a - 48) * 100 + (b - 48) * 10 + (c - 48)) 256)
    (Some ((a - 48) * 100 + (b - 48) * 10 + (c - 48))) None
byte_of (_ ∷ _ ∷ _ ∷ _ ∷ _) = None

-- the reading of a token at a declaration, or `None` where no program has it there; likewise below
abbrev pub next_in_declarations : List ℕ → Option Reading
next_in_declarations token =
    cond (bytes_eq token (codes "extern")) (moved (codes "int" ∷ []) Variable)
    (cond (bytes_eq token (codes "int")) (moved rest_of_head Body) None)

-- the reading of the name in a declaration, by the number of its option
abbrev pub declared : Option ℕ → Option Reading
declared None = None
declared (Some i) = Some (reading (codes ";" ∷ []) Declarations (Declare i))

-- the reading of the first token of a statement, or of the brace after the last
abbrev pub next_in_body : List ℕ → Option Reading
next_in_body token =
    cond (bytes_eq token (codes "putchar")) (moved (codes "(" ∷ []) (Byte true))
    (cond (bytes_eq token (codes "if")) (moved (codes "(" ∷ []) (Operand true))
    (cond (bytes_eq token (codes "}")) (moved ([] ∷ []) End) None))

-- the reading of a variable in a test, by its value
abbrev pub after_variable : Bool → Option Bool → Option Reading
after_variable holds None = None
after_variable holds (Some value) = moved [] (AfterOperand (holds && value))

-- the reading of a negated variable in a test, by its value
abbrev pub after_negated : Bool → Option Bool → Option Reading
after_negated holds None = None
after_negated holds (Some value) = moved [] (AfterOperand (holds && not value))

-- the reading of the `!` or the variable at which a literal begins
abbrev pub next_at_operand : Bool → Option Bool → List ℕ → Option Reading
next_at_operand holds value token =
    cond (bytes_eq token (codes "!")) (moved [] (Negated holds)) (after_variable holds value)

-- the reading of what stands after a literal
abbrev pub next_after_operand : Bool → List ℕ → Option Reading
next_after_operand holds token =
    cond (bytes_eq token (codes "&&")) (moved [] (Operand holds))
    (cond (bytes_eq token (codes ")")) (moved (codes "putchar" ∷ codes "(" ∷ []) (Byte holds)) None)

-- the reading of the argument of `putchar`, which is written where the test holds
abbrev pub after_argument : Bool → Option ℕ → Option Reading
after_argument holds None = None
after_argument holds (Some byte) =
    Some (reading (codes ")" ∷ codes ";" ∷ []) Body (cond holds (Write byte) Nothing))

-- the reading of a token in a state
abbrev pub next_in : List (List ℕ) → List (Option Bool) → State → List ℕ → Option Reading
next_in names known Declarations token = next_in_declarations token
next_in names known Variable token = declared (option_number names token)
next_in names known Body token = next_in_body token
next_in names known (Operand holds) token =
    next_at_operand holds (known_value names known token) token
next_in names known (Negated holds) token =
    after_negated holds (known_value names known token)
next_in names known (AfterOperand holds) token = next_after_operand holds token
next_in names known (Byte holds) token = after_argument holds (byte_of token)
next_in names known End token = None

-- the words that are due come first
abbrev pub next_by : List (List ℕ) → List (Option Bool) → List (List ℕ) → State → List ℕ
    → Option Reading
next_by names known [] state token = next_in names known state token
next_by names known (word ∷ words) state token =
    cond (bytes_eq token word) (moved words state) None

-- the reading of a token where this is due
abbrev pub next : List (List ℕ) → List (Option Bool) → Wanted → List ℕ → Option Reading
next names known due token = next_by names known due.words due.state token

-- what is declared is an option of the model
abbrev pub IsWithin : ℕ → Action → Type 0
IsWithin n Nothing = Unit {0}
IsWithin n (Declare i) = i < n
IsWithin n (Write _) = Unit {0}

-- the values of the declared variables, after an action
abbrev pub known_after : List Bool → Action → List (Option Bool) → List (Option Bool)
known_after values Nothing known = known
known_after values (Declare i) known = slice_set known i (slice_get values i)
known_after values (Write byte) known = known

-- the output after an action
abbrev pub output_after : Action → List ℕ → List ℕ
output_after Nothing output = output
output_after (Declare i) output = output
output_after (Write byte) output = output ++ byte ∷ []

-- whether the program is at its end
abbrev pub is_end : State → Bool
is_end Declarations = false
is_end Variable = false
is_end Body = false
is_end (Operand _) = false
is_end (Negated _) = false
is_end (AfterOperand _) = false
is_end (Byte _) = false
is_end End = true

-- nothing more is due
abbrev pub is_done : Wanted → Bool
is_done due = length due.words == 0 && is_end due.state

-- the output of the tokens, from here on
abbrev pub run_from : List (List ℕ) → List Bool → Wanted → List (Option Bool) → List ℕ
    → List (List ℕ) → Option (List ℕ)
run_from names values due known output [] = cond (is_done due) (Some output) None
run_from names values due known output (token ∷ tokens) =
    option_and_then
    (λ step. run_from names values step.due (known_after values step.action known)
    (output_after step.action output) tokens)
    (next names known due token)

-- at the start no variable is declared
abbrev pub start_due : Wanted
start_due = wanted [] Declarations

-- no variable has a value
abbrev pub unknown : List (List ℕ) → List (Option Bool)
unknown names = replicate (length names) None

-- the output of the program that a text is, or `None` where it isn't one
abbrev pub answer : List (List ℕ) → List Bool → List ℕ → Option (List ℕ)
answer names values text =
    run_from names values start_due (unknown names) [] (slice_split is_gap text)
