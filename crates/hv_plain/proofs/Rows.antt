-- The definitions at small examples, worked out by hand.
use Rattle.std.specs.Prelude.{ℕ, ◌≡◌, true, false, List, [], ◌∷◌, ◌++◌, map, codes, refl}
use Rattle.std.specs.Fmt.{digits}
use Rattle.std.specs.List.{slice_split}
use Rattle.hv_base.specs.Ascii.{is_newline}
use Rattle.hv_plain.specs.Bytes.{trimmed}
use Rattle.hv_plain.specs.Config.{is_on}
use Rattle.hv_plain.specs.Source.{SourceLine, put, if_defined, if_not_defined, otherwise, end_if, source_lines, is_nested, kept}
use Rattle.hv_plain.specs.Program.{Program, program_tokens, shown}
use Rattle.hv_plain.specs.Run.{start, output_of, variable_of}

options_A : List (List ℕ)
options_A = codes "A" ∷ []

body_1 : List SourceLine
body_1 = put 120 ∷ if_defined (codes "A") ∷ put 65 ∷ end_if ∷ []

source_1 : List ℕ
source_1 =
    codes "int putchar(int);\nint main(void) {\n    putchar(120);\n#ifdef A\n\tputchar(65); \n#endif\n}\n"

source_1_lines : map trimmed (slice_split is_newline source_1) ≡ source_lines body_1 ++ [] ∷ []
unfolding source_1 body_1 digits
source_1_lines = refl

with_A : kept (is_on options_A (true ∷ [])) [] body_1 ≡ 120 ∷ 65 ∷ []
unfolding options_A body_1
with_A = refl

without_A : kept (is_on options_A (false ∷ [])) [] body_1 ≡ 120 ∷ []
unfolding options_A body_1
without_A = refl

-- an `#else` within a skipped group is read in neither way
nested_groups : List SourceLine
nested_groups =
    if_not_defined (codes "A") ∷ if_defined (codes "A") ∷ put 1 ∷ otherwise ∷ put 2 ∷ end_if ∷
    otherwise ∷ put 3 ∷ end_if ∷ []

nested_with_A : kept (is_on options_A (true ∷ [])) [] nested_groups ≡ 3 ∷ []
unfolding options_A nested_groups
nested_with_A = refl

nested_without_A : kept (is_on options_A (false ∷ [])) [] nested_groups ≡ 2 ∷ []
unfolding options_A nested_groups
nested_without_A = refl

is_well_nested : is_nested [] nested_groups ≡ true
unfolding nested_groups
is_well_nested = refl

product_1 : Program
product_1 = record {
  variables = variable_of (codes "A") ∷ [];
  statements =
      record { test = []; byte = 120 } ∷
      record {
        test = record { variable = variable_of (codes "A"); negated = false } ∷ [];
        byte =
            65;
      } ∷ [];
}

printed_1 : shown (program_tokens product_1)
    ≡ codes
    "extern int hv_opt_A ;\nint putchar ( int ) ;\nint main ( void ) {\nputchar ( 120 ) ;\nif ( hv_opt_A ) putchar ( 65 ) ;\n}\n"
unfolding product_1 digits
printed_1 = refl

output_with_A : output_of (start options_A (true ∷ [])) product_1.statements ≡ 120 ∷ 65 ∷ []
unfolding product_1 options_A
output_with_A = refl
