-- What small programs do, the variant of a small source, and what it is to encode one.
use Rattle.std.specs.Prelude.{ℕ, suc, ◌≡◌, ◌≢◌, Bool, cond, not, ◌==◌, ◌≤◌, List, [], ◌∷◌, ◌++◌, length, map, codes, All, AllPairs, IsTrue, count_by}
use Rattle.std.specs.List.{list_all}
use Rattle.std.specs.Str.{bytes_eq}
use Rattle.hv_model.specs.Rule.{Features, IsValid}
use Rattle.hv_plain.specs.Config.{is_on}
use Rattle.hv_plain.specs.Source.{SourceLine, IsSmallSource, bytes_of, is_put, keeps_line, kept}
use Rattle.hv_plain.specs.Program.{Literal, Statement, Program, IsProgramText, program_tokens, shown}

-- how a run stands after its steps
pub data Ending : Type 0 where
  ended : ℕ → Ending
  running : Ending
  undefined : Ending

-- the bytes written, how many bytes of the input were taken, and how the run stands
pub record Run : Type 0 where
  pub output : List ℕ
  pub taken : ℕ
  pub ending : Ending

-- a variable is true where its value is not 0, `!` negates (6.5.3.3), `&&` joins (6.5.13)
abbrev pub literal_holds : (List ℕ → ℕ) → Literal → Bool
literal_holds value literal =
    cond literal.negated (value literal.variable == 0) (not (value literal.variable == 0))

-- the bytes of the statements whose tests hold (6.8.4.1)
abbrev pub output_of : (List ℕ → ℕ) → List Statement → List ℕ
output_of value [] = []
output_of value (statement ∷ more) =
    cond (list_all (literal_holds value) statement.test)
    (statement.byte ∷ output_of value more)
    (output_of value more)

-- the run with these values of the option variables, this input and this many steps: a small
-- program takes no input and no step, meets nothing undefined, and ends with 0 (5.1.2.2.3)
abbrev pub run : Program → (List ℕ → ℕ) → List ℕ → ℕ → Run
run program value input steps =
    record { output = output_of value program.statements; taken = 0; ending = ended 0 }

-- the variable of an option
abbrev pub variable_of : List ℕ → List ℕ
variable_of option = codes "hv_opt_" ++ option

-- the value of a variable at the start of a configuration: 1 where its option is on, else 0
abbrev pub start : List (List ℕ) → List Bool → List ℕ → ℕ
start [] _ variable = 0
start (option ∷ options) [] variable = 0
start (option ∷ options) (value ∷ values) variable =
    cond (bytes_eq variable (variable_of option)) (cond value 1 0) (start options values variable)

-- no variable has a value: the start of a program without option variables
abbrev pub no_start : List ℕ → ℕ
no_start variable = 0

-- a statement without a test
abbrev pub plain_statement : ℕ → Statement
plain_statement byte = record { test = []; byte = byte }

-- the program that preprocessing leaves of a body in a configuration
abbrev pub variant_of : List (List ℕ) → List Bool → List SourceLine → Program
variant_of options values body =
    record {
      variables = [];
      statements = map plain_statement (kept (is_on options values) [] body);
    }

-- the variables of a model's options
abbrev pub variables_of : List (List ℕ) → List (List ℕ)
variables_of options = map variable_of options

-- the output of the small program that the text is, started with a configuration; it takes no input
pub record IsOutputOf (options : List (List ℕ)) (values : List Bool) (text : List ℕ)
    (output : List ℕ) : Type 0 where
  pub program : Program
  pub reads : IsProgramText (variables_of options) text program
  pub is : output ≡ (run program (start options values) [] 0).output

-- the program is the variant of the source in this configuration
pub record IsVariant (options : List (List ℕ)) (source : List ℕ) (values : List Bool)
    (program : Program) : Type 0 where
  pub body : List SourceLine
  pub reads : IsSmallSource options source body
  pub is : program ≡ variant_of options values body

-- for every valid configuration, input and number of steps in which the variant meets no undefined
-- behaviour, the product's run from the configuration's start is the variant's run
pub record RunsAsVariants (model : Features) (source : List ℕ) (product : Program) : Type 0 where
  pub agrees : (values : List Bool) → IsValid model values
      → (variant : Program) → IsVariant model.names source values variant
      → (input : List ℕ) (steps : ℕ)
      → (run variant no_start input steps).ending ≢ undefined
      → run product (start model.names values) input steps ≡ run variant no_start input steps

-- a test in which no literal stands twice
abbrev pub IsConcise : Statement → Type 0
IsConcise statement = AllPairs (λ one other. one ≢ other) statement.test

-- the statement is run from the start of this configuration
abbrev pub IsRunIn : List (List ℕ) → List Bool → Statement → Type 0
IsRunIn options values statement =
    IsTrue (list_all (literal_holds (start options values)) statement.test)

-- a valid configuration runs the statement
pub record IsReached (model : Features) (statement : Statement) : Type 0 where
  pub values : List Bool
  pub valid : IsValid model values
  pub runs : IsRunIn model.names values statement

-- some valid configuration has the line of this number among those of the body that write a byte
abbrev pub HasLine : Features → List SourceLine → ℕ → Type 0
HasLine model body number =
    (values : List Bool) × IsValid model values
    × IsTrue (keeps_line (is_on model.names values) body number)

-- there is exactly one statement for each of the lines that some valid configuration has, in order:
-- the lines are those of the body from this number on that write a byte, and write these bytes
pub data OneEach (model : Features) (body : List SourceLine)
    : ℕ → List ℕ → List Statement → Type 0 where
  done : (number : ℕ) → OneEach model body number [] []
  one : (number byte : ℕ) (statement : Statement)
      {bytes : List ℕ} {statements : List Statement}
      → HasLine model body number → statement.byte ≡ byte
      → OneEach model body (suc number) bytes statements
      → OneEach model body number (byte ∷ bytes) (statement ∷ statements)
  left_out : (number byte : ℕ) {bytes : List ℕ} {statements : List Statement}
      → ¬ (HasLine model body number) → OneEach model body (suc number) bytes statements
      → OneEach model body number (byte ∷ bytes) statements

-- the text is a typed program, one for all configurations, that runs as the source's variants; it
-- is printed, declares the model's variables in order, and has exactly one statement for each line
-- of the source that writes a byte and that some valid configuration has, in order
pub record Encodes (model : Features) (source : List ℕ) (text : List ℕ) : Type 0 where
  pub product : Program
  pub reads : IsProgramText (variables_of model.names) text product
  pub runs : RunsAsVariants model source product
  pub printed : text ≡ shown (program_tokens product)
  pub variables : product.variables ≡ variables_of model.names
  pub size : (body : List SourceLine) → IsSmallSource model.names source body
      → length product.statements ≤ count_by is_put body
  pub one_each : (body : List SourceLine) → IsSmallSource model.names source body
      → OneEach model body 0 (bytes_of body) product.statements
  pub concise : All IsConcise product.statements
  pub reached : All (IsReached model) product.statements
