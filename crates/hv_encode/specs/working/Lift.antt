-- The metaproduct of a body: each statement is tested by the literals of the groups that are open
-- at it.
use Rattle.std.specs.Prelude.{ℕ, ◌≡◌, ◌<◌, length, codes, map, Bool, true, false, cond, not, ◌&&◌, ◌==◌, List, [], ◌∷◌, ◌++◌}
use Rattle.std.specs.List.{All, flat_map, list_any}
use Rattle.hv_plain.specs.Program.{Literal, Program, Statement, shown, test_tokens}
use Rattle.hv_plain.specs.Run.{variable_of, variables_of}
use Rattle.hv_encode.specs.declared.small.line.BodyLine.{BodyLine}
use Rattle.hv_encode.specs.declared.small.line.BodyLine.TheVariants.{Put, IfDefined, IfNotDefined, Else, EndIf}
use Rattle.hv_encode.specs.declared.small.group.Group.{Group}
use Rattle.hv_encode.specs.declared.small.program.OptionTest.{OptionTest}
use Rattle.hv_encode.specs.declared.small.program.Block.{Block}
use Rattle.hv_encode.specs.declared.small.program.Metaproduct.{Metaproduct}
use Rattle.hv_encode.specs.working.Lines.{name_at}

------ groups

-- whether the group has this test
abbrev pub has_literal : ℕ → Bool → Group → Bool
has_literal option negated group =
    group.test.option == option && cond negated group.test.negated (not group.test.negated)

-- the group that opens within these, the innermost first
abbrev pub opened : List Group → ℕ → Bool → Group
opened groups option negated = record {
  test = record { option = option; negated = negated };
  repeated = list_any (has_literal option negated) groups;
}

-- the groups that are open after a line (6.10.1)
abbrev pub after : BodyLine → List Group → List Group
after (Put byte) groups = groups
after (IfDefined option) groups = opened groups option false ∷ groups
after (IfNotDefined option) groups = opened groups option true ∷ groups
after Else [] = []
after Else (group ∷ groups) = opened groups group.test.option (not group.test.negated) ∷ groups
after EndIf [] = []
after EndIf (group ∷ groups) = groups

-- the group's option is one of the model
abbrev pub HasOption : List (List ℕ) → Group → Type 0
HasOption names group = group.test.option < length names

-- the flag of each group says whether an outer one, which stands after it, has its test
abbrev pub IsMarked : List Group → Type 0
IsMarked [] = Unit {0}
IsMarked (group ∷ groups) =
    (group.repeated ≡ list_any (has_literal group.test.option group.test.negated) groups)
    × IsMarked groups

------ tests and statements

-- the literal of a test, on the variable of its option
abbrev pub literal_of : List (List ℕ) → OptionTest → Literal
literal_of names test =
    record { variable = variable_of (name_at names test.option); negated = test.negated }

-- a group's part of the tests of a statement: one that stood before is left out
abbrev pub own_tests : Group → List OptionTest
own_tests group = cond group.repeated [] (group.test ∷ [])

-- the tests of a statement in these groups: the outermost group's comes first
abbrev pub tests_in : List Group → List OptionTest
tests_in [] = []
tests_in (group ∷ groups) = tests_in groups ++ own_tests group

-- a group's part of a test: a literal that stood before is left out
abbrev pub part_of_test : List (List ℕ) → Group → List Literal
part_of_test names group = cond group.repeated [] (literal_of names group.test ∷ [])

-- the test of a statement in these groups: the outermost group's literal comes first
abbrev pub test_in : List (List ℕ) → List Group → List Literal
test_in names [] = []
test_in names (group ∷ groups) = test_in names groups ++ part_of_test names group

-- the statement that writes a byte in these groups
abbrev pub statement_in : List (List ℕ) → List Group → ℕ → Statement
statement_in names groups byte = record { test = test_in names groups; byte = byte }

-- what a line in these groups becomes
abbrev pub statement_of : List (List ℕ) → List Group → BodyLine → List Statement
statement_of names groups (Put byte) = statement_in names groups byte ∷ []
statement_of names groups (IfDefined option) = []
statement_of names groups (IfNotDefined option) = []
statement_of names groups Else = []
statement_of names groups EndIf = []

-- what lines become after these open groups
abbrev pub lifted : List (List ℕ) → List Group → List BodyLine → List Statement
lifted names groups [] = []
lifted names groups (line ∷ lines) =
    statement_of names groups line ++ lifted names (after line groups) lines

------ programs as the code holds them

-- the statements of a block: one for each of its bytes, in order
abbrev pub statements_of : List (List ℕ) → Block → List Statement
statements_of names block =
    map (λ byte. record { test = map (literal_of names) block.test; byte = byte }) block.bytes

-- the program with these statements
abbrev pub program_with : List (List ℕ) → List Statement → Program
program_with names statements =
    record { variables = variables_of names; statements = statements }

-- the small program that a metaproduct is
abbrev pub program_of : List (List ℕ) → Metaproduct → Program
program_of names product = program_with names (flat_map (statements_of names) product.blocks)

-- the tests of the block are on options of the model
abbrev pub HasOptions : List (List ℕ) → Block → Type 0
HasOptions names block = All (λ test. test.option < length names) block.test

------ the printing of a test

-- whether there is a test
abbrev pub is_tested : List Literal → Bool
is_tested [] = false
is_tested (_ ∷ _) = true

-- the tokens of a test up to its closing parenthesis
abbrev pub opening_tokens : List Literal → List (List ℕ)
opening_tokens [] = []
opening_tokens (literal ∷ more) = codes "if" ∷ codes "(" ∷ test_tokens (literal ∷ more)

-- after the text that stood before, this much of a test is written
pub record IsBegun (before : List ℕ) (test : List Literal) (text : List ℕ)
    (tested : Bool) : Type 0 where
  pub is_written : text ≡ before ++ shown (opening_tokens test)
  pub is_told : tested ≡ is_tested test

-- the text of a test with its parentheses, and nothing where there is none
abbrev pub test_text : List Literal → List ℕ
test_text test = shown (opening_tokens test) ++ cond (is_tested test) (codes ") ") []
