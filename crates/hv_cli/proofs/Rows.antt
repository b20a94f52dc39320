-- The definitions at small examples, worked out by hand.
use Rattle.std.proofs.Common.{◌≡◌, Bool, true, false, List, [], ◌∷◌, codes, refl, arith}
use Rattle.std.specs.Fmt.{digits}
use Rattle.hv_model.specs.Lines.{ends}
use Rattle.hv_model.specs.Model.{IsModelOf}
use Rattle.hv_model.specs.Rule.{IsValid}
use Rattle.hv_base.specs.declared.held.Held.TheVariants.{Bytes}
use Rattle.hv_cli.specs.Definitions.{definitions_of}
use Rattle.hv_cli.specs.Positions.{line_at, position_of, way_of}

-- an empty model file says the model without options and rules
no_model_file : IsModelOf [] (record { names = []; rules = [] })
no_model_file = ends [] (refl, refl)

-- that model has one configuration
one_configuration : (values : List Bool) → IsValid (record { names = []; rules = [] }) values
    → values ≡ []
one_configuration [] valid = refl
one_configuration (value ∷ values) valid = absurd (omega arith)

A_and_not_B : definitions_of (codes "A" ∷ codes "B" ∷ []) (true ∷ false ∷ [])
    ≡ codes "int hv_opt_A = 1;\nint hv_opt_B = 0;\n"
A_and_not_B = refl

no_definition : definitions_of [] [] ≡ []
no_definition = refl

-- the third line begins after two newlines
third_line : line_at (codes "int x;\n#if\n#error\n") 11 ≡ 3
third_line = refl

-- the newline that ends a line is in that line
end_of_line : line_at (codes "int x;\n") 6 ≡ 1
end_of_line = refl

way_through_two_headers : way_of (7 ∷ 21 ∷ []) ≡ codes "7,21"
unfolding digits
way_through_two_headers = refl

no_way : way_of [] ≡ codes "-"
no_way = refl

-- the `#include` of `<stdio.h>` is after the two lines of its guard
in_a_built_in_header : position_of (record {
  main = codes "main.c";
  dirs = [];
  entries = (codes "main.c", Bytes (codes "#include <stdio.h>\n")) ∷ [];
}) (record { stack = 0 ∷ []; file = 4294967001; offset = 38 })
    ≡ record { file = codes "<stdio.h>"; line = 3; offset = 38; via = codes "0" }
unfolding digits
in_a_built_in_header = refl
