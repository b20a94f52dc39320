-- The printed metaproduct of a source's body encodes the source.
use Rattle.std.proofs.Common.{◌≡◌, ℕ, ◌<◌, true, false, not, List, [], ◌∷◌, map, refl, sym, ◌∙◌, ap, subst, arith, length, suc}
use Rattle.std.specs.List.{All, AllByRecursion, Contains, count_by, filter, slice_split}
use Rattle.std.proofs.lemmas.List.Sums.{length-filter}
use Rattle.std.proofs.lemmas.List.{get_or-map, length-map}
use Rattle.hv_plain.specs.Bytes.{is_gap}
use Rattle.std.proofs.lemmas.List.Elements.{All-from_recursion, recursion_from_All, All-map, All-weaker, Contains-get_or, All-contains_itself}
use Rattle.hv_plain.specs.Config.{is_on}
use Rattle.hv_model.specs.Name.{is_option_name, AllOptionNames}
use Rattle.hv_model.specs.Rule.{Features}
use Rattle.hv_plain.specs.Source.{SourceLine, IsSmallSource, bytes_of, keeps_line, kept, is_put}
use Rattle.hv_plain.specs.Program.{Program, Statement, IsTyped, IsTypedStatement, IsProgramText, shown, program_tokens}
use Rattle.hv_plain.specs.Run.{Run, ended, start, variable_of, variables_of, output_of, plain_statement, no_start, IsConcise, IsReached, Encodes, OneEach, RunsAsVariants}
use Rattle.hv_encode.specs.declared.small.line.BodyLine.{BodyLine}
use Rattle.hv_encode.specs.declared.small.line.BodyLine.TheVariants.{Put, IfDefined, IfNotDefined, Else, EndIf}
use Rattle.hv_encode.specs.declared.small.group.Group.{Group}
use Rattle.hv_encode.specs.working.Lines.{name_at, plain, IsOption, IsKnown}
use Rattle.hv_encode.specs.working.Lift.{test_in, lifted, opened, program_with}
use Rattle.hv_encode.specs.working.Presence.{Prunes, IsProductText}
use Rattle.hv_encode.proofs.Semantics.{output-lifted}
use Rattle.hv_encode.proofs.Sources.{body-unique}
use Rattle.hv_encode.proofs.Tokens.{no_gap, IsGapless, IsGaplessStatement, variable_has_none, program_has_none, split-shown}
use Rattle.hv_encode.proofs.Product.{lifted-all, test-all, test-concise}
use Rattle.hv_encode.proofs.OneEach.{lifted-one_each}
use Rattle.hv_encode.proofs.Pruning.{Prunes-all, Prunes-length, Prunes-output, Prunes-reached}

output-plain : (value : List ℕ → ℕ) (bytes : List ℕ)
    → output_of value (map plain_statement bytes) ≡ bytes
output-plain value [] = refl
output-plain value (byte ∷ bytes) = rw (output-plain value bytes) refl

lifted-puts : (names : List (List ℕ)) (groups : List Group) (lines : List BodyLine)
    → length (lifted names groups lines) ≡ length (filter is_put (map (plain names) lines))
lifted-puts names groups [] = refl
lifted-puts names groups (Put byte ∷ lines) = ap suc (lifted-puts names groups lines)
lifted-puts names groups (IfDefined option ∷ lines) =
    lifted-puts names (opened groups option false ∷ groups) lines
lifted-puts names groups (IfNotDefined option ∷ lines) =
    lifted-puts names (opened groups option true ∷ groups) lines
lifted-puts names [] (Else ∷ lines) = lifted-puts names [] lines
lifted-puts names (group ∷ groups) (Else ∷ lines) =
    lifted-puts names (opened groups group.test.option (not group.test.negated) ∷ groups) lines
lifted-puts names [] (EndIf ∷ lines) = lifted-puts names [] lines
lifted-puts names (group ∷ groups) (EndIf ∷ lines) = lifted-puts names groups lines

lifted-size : (names : List (List ℕ)) (lines : List BodyLine)
    → length (lifted names [] lines) ≡ count_by is_put (map (plain names) lines)
lifted-size names lines = lifted-puts names [] lines
    ∙ length-filter is_put (map (plain names) lines)

module _ (names : List (List ℕ)) (named : AllOptionNames names) where
  name_named : (option : ℕ) → IsOption names option → is_option_name (name_at names option) ≡ true
  name_named option is = named option [] is.within

  contains_variable : (option : ℕ) → IsOption names option
      → Contains (variables_of names) (variable_of (name_at names option))
  contains_variable option is =
      let place = get_or-map variable_of names option [] [] is.within in
      let within : option < length (variables_of names) =
      rw (length-map names variable_of) is.within in
      rw place at (Contains-get_or (variables_of names) option [] within)

  typed_statements : (lines : List BodyLine) → AllByRecursion (IsKnown names) lines
      → AllByRecursion (IsTypedStatement (variables_of names)) (lifted names [] lines)
  typed_statements lines known = lifted-all names (IsTypedStatement (variables_of names))
      (λ byte groups small marked options. record {
        byte = small;
        test =
            test-all names (λ literal. Contains (variables_of names) literal.variable)
            (λ group is. contains_variable group.test.option is) groups options;
      })
      [] lines tt tt known

  gapless_variables : AllByRecursion (λ variable. no_gap variable ≡ true) (variables_of names)
  gapless_variables = recursion_from_All (λ variable. no_gap variable ≡ true) (variables_of names)
      (All-map (λ variable. no_gap variable ≡ true) variable_of names
      (All-weaker (λ name. is_option_name name ≡ true) (λ name. no_gap (variable_of name) ≡ true)
      variable_has_none names named))

  gapless_statements : (lines : List BodyLine) → AllByRecursion (IsKnown names) lines
      → AllByRecursion IsGaplessStatement (lifted names [] lines)
  gapless_statements lines known = lifted-all names IsGaplessStatement
      (λ byte groups small marked options. record {
        byte = small;
        test =
            recursion_from_All IsGapless (test_in names groups)
            (test-all names IsGapless (λ group is. variable_has_none (name_at names group.test.option)
            (name_named group.test.option is)) groups options);
      })
      [] lines tt tt known

module _ (model : Features) (named : AllOptionNames model.names) (lines : List BodyLine)
    (known : AllByRecursion (IsKnown model.names) lines) where
  typed : (kept_statements : List Statement)
      → Prunes model (lifted model.names [] lines) kept_statements
      → IsTyped (variables_of model.names) (program_with model.names kept_statements)
  typed kept_statements pruned = record {
    variables = All-contains_itself (variables_of model.names);
    statements = All-from_recursion (IsTypedStatement (variables_of model.names)) kept_statements
        (Prunes-all model (IsTypedStatement (variables_of model.names)) pruned
        (typed_statements model.names named lines known));
  }

  reads : (kept_statements : List Statement)
      → Prunes model (lifted model.names [] lines) kept_statements → (text : List ℕ)
      → text ≡ shown (program_tokens (program_with model.names kept_statements))
      → IsProgramText (variables_of model.names) text (program_with model.names kept_statements)
  reads kept_statements pruned text printed = record {
    tokens = ap (slice_split is_gap) printed
        ∙ split-shown (program_tokens (program_with model.names kept_statements))
        (program_has_none (program_with model.names kept_statements)
        (gapless_variables model.names named)
        (Prunes-all model IsGaplessStatement pruned
        (gapless_statements model.names named lines known)));
    typed = typed kept_statements pruned;
  }

  -- what is written of the declarations and the statements is the product's text
  pub product_is : (kept_statements : List Statement)
      → Prunes model (lifted model.names [] lines) kept_statements → (text : List ℕ)
      → text ≡ shown (program_tokens (program_with model.names kept_statements))
      → IsProductText model lines text
  product_is kept_statements pruned text printed =
      record {
        kept = kept_statements;
        pruned = pruned;
        printed = printed;
        reads =
            reads kept_statements pruned text printed;
      }

module _ (model : Features) where
  runs : (lines : List BodyLine) (kept_statements : List Statement)
      → Prunes model (lifted model.names [] lines) kept_statements → (bytes : List ℕ)
      → IsSmallSource model.names bytes (map (plain model.names) lines)
      → RunsAsVariants model bytes (program_with model.names kept_statements)
  runs lines kept_statements pruned bytes small = record {
    agrees = λ values valid variant is input steps defined.
        let names : List (List ℕ) = model.names in
        let body = body-unique names bytes is.body (map (plain names) lines) is.reads small in
        let product : output_of (start names values) kept_statements
        ≡ kept (is_on names values) [] (map (plain names) lines) =
        sym (Prunes-output model values valid pruned) ∙ output-lifted names values [] lines tt
        in
        let kept_bytes : kept (is_on names values) [] (map (plain names) lines)
        ≡ kept (is_on names values) [] is.body = ap (kept (is_on names values) []) (sym body) in
        let plain_run : output_of no_start variant.statements
        ≡ kept (is_on names values) [] is.body =
        ap (λ (p : Program). output_of no_start p.statements) is.is
        ∙ output-plain no_start (kept (is_on names values) [] is.body) in
        let R : List ℕ → Run = λ output. record { output = output; taken = 0; ending = ended 0 } in
        ap R (product ∙ kept_bytes ∙ sym plain_run);
  }

  concise : (lines : List BodyLine) → AllByRecursion (IsKnown model.names) lines
      → AllByRecursion IsConcise (lifted model.names [] lines)
  concise lines known =
      lifted-all model.names IsConcise
      (λ byte groups small marked options. test-concise model.names groups marked options) [] lines
      tt tt known

  -- the printed metaproduct of the lines encodes a source of them
  pub encodes-product : (lines : List BodyLine) → All (IsKnown model.names) lines
      → (bytes text : List ℕ) → IsSmallSource model.names bytes (map (plain model.names) lines)
      → IsProductText model lines text → Encodes model bytes text
  encodes-product lines known bytes text small is_text =
      record {
        product = program_with model.names is_text.kept;
        reads = is_text.reads;
        runs = runs lines is_text.kept is_text.pruned bytes small;
        printed = is_text.printed;
        variables = refl;
        size = λ body is.
            let fewer = Prunes-length model is_text.pruned in
            let same = lifted-size model.names lines
            ∙ ap (count_by is_put) (body-unique model.names bytes
            (map (plain model.names) lines) body small is) in
            omega arith;
        one_each = λ body is.
            let P : List SourceLine → Type 0 =
            λ all. OneEach model body 0 (bytes_of all) is_text.kept in
            let same = body-unique model.names bytes (map (plain model.names) lines) body small is
            in
            subst P same (lifted-one_each model body [] lines 0 is_text.kept tt
            (λ values number more. ap (λ all. keeps_line (is_on model.names values) all number)
            (sym same)) is_text.pruned);
        concise =
            All-from_recursion IsConcise is_text.kept
            (Prunes-all model IsConcise is_text.pruned
            (concise lines (recursion_from_All (IsKnown model.names) lines known)));
        reached =
            All-from_recursion (IsReached model) is_text.kept (Prunes-reached model is_text.pruned);
      }
