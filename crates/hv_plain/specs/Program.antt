-- Small programs: declarations of option variables, that of `putchar`, and a `main` of `putchar`
-- statements, each with or without a test. Their printed form, and the program that a text is.
use Rattle.std.specs.Prelude.{ℕ, ◌≡◌, ◌<◌, Bool, cond, ◌||◌, List, [], ◌∷◌, ◌++◌, codes, decimal, Contains, All}
use Rattle.std.specs.List.{slice_split, flat_map}
use Rattle.std.specs.Str.{bytes_eq}
use Rattle.hv_base.specs.Ascii.{newline, space}
use Rattle.hv_plain.specs.Bytes.{is_gap}

-- an operand of a test: a variable, or its negation
pub record Literal : Type 0 where
  pub variable : List ℕ
  pub negated : Bool

-- `putchar ( byte ) ;`, run where all literals of the test hold; without literals it has no test
pub record Statement : Type 0 where
  pub test : List Literal
  pub byte : ℕ

-- the variables that it declares, in order, and the statements of its `main`
pub record Program : Type 0 where
  pub variables : List (List ℕ)
  pub statements : List Statement

-- the tokens of an operand (6.5.3)
abbrev pub literal_tokens : Literal → List (List ℕ)
literal_tokens literal =
    cond literal.negated (codes "!" ∷ literal.variable ∷ []) (literal.variable ∷ [])

-- the operands with `&&` between them (6.5.13)
abbrev pub test_tokens : List Literal → List (List ℕ)
test_tokens [] = []
test_tokens (literal ∷ []) = literal_tokens literal
test_tokens (literal ∷ next ∷ more) =
    literal_tokens literal ++ codes "&&" ∷ test_tokens (next ∷ more)

-- the call that writes a byte (6.5.2.2)
abbrev pub call_tokens : ℕ → List (List ℕ)
call_tokens byte = codes "putchar" ∷ codes "(" ∷ decimal byte ∷ codes ")" ∷ codes ";" ∷ []

-- a call after its test; without operands there is no test (6.8.4.1)
abbrev pub guarded_tokens : List Literal → List (List ℕ) → List (List ℕ)
guarded_tokens [] call = call
guarded_tokens (literal ∷ more) call =
    codes "if" ∷ codes "(" ∷ (test_tokens (literal ∷ more) ++ codes ")" ∷ call)

-- the tokens of a statement
abbrev pub statement_tokens : Statement → List (List ℕ)
statement_tokens statement = guarded_tokens statement.test (call_tokens statement.byte)

-- the declaration of a variable that is defined elsewhere (6.7)
abbrev pub declaration_tokens : List ℕ → List (List ℕ)
declaration_tokens variable = codes "extern" ∷ codes "int" ∷ variable ∷ codes ";" ∷ []

-- the declaration of `putchar`, and the head of `main`
abbrev pub head_tokens : List (List ℕ)
head_tokens =
    codes "int" ∷ codes "putchar" ∷ codes "(" ∷ codes "int" ∷ codes ")" ∷ codes ";"
    ∷ codes "int" ∷ codes "main" ∷ codes "(" ∷ codes "void" ∷ codes ")" ∷ codes "{" ∷ []

-- the tokens of a program
abbrev pub program_tokens : Program → List (List ℕ)
program_tokens program =
    flat_map declaration_tokens program.variables ++ head_tokens
    ++ flat_map statement_tokens program.statements ++ codes "}" ∷ []

-- whether a line ends after the token in the printed form
abbrev pub ends_a_line : List ℕ → Bool
ends_a_line token =
    bytes_eq token (codes ";") || bytes_eq token (codes "{") || bytes_eq token (codes "}")

-- a token as it is printed: a newline after `;`, `{` and `}`, else one space
abbrev pub shown_token : List ℕ → List ℕ
shown_token token = token ++ cond (ends_a_line token) newline space ∷ []

-- the printed form of tokens
abbrev pub shown : List (List ℕ) → List ℕ
shown tokens = flat_map shown_token tokens

-- a statement writes a byte, and its test names only declared variables
pub record IsTypedStatement (variables : List (List ℕ)) (statement : Statement) : Type 0 where
  pub byte : statement.byte < 256
  pub test : All (λ literal. Contains variables literal.variable) statement.test

-- each declared variable is given, and each one used is declared (6.9 paragraph 5: what is used is
-- defined)
pub record IsTyped (given : List (List ℕ)) (program : Program) : Type 0 where
  pub variables : All (Contains given) program.variables
  pub statements : All (IsTypedStatement program.variables) program.statements

-- the text is this program: one blank or newline stands after each of its tokens
pub record IsProgramText (given : List (List ℕ)) (text : List ℕ) (program : Program) : Type 0 where
  pub tokens : slice_split is_gap text ≡ program_tokens program ++ [] ∷ []
  pub typed : IsTyped given program
