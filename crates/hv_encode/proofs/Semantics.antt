-- The metaproduct puts in each configuration what preprocessing keeps there.
use Rattle.std.proofs.Common.{◌≡◌, ℕ, Bool, true, false, not, ◌&&◌, ◌||◌, ◌==◌, List, [], ◌∷◌, map, cond, refl, sym, ◌∙◌}
use Rattle.std.specs.List.{list_all, list_any}
use Rattle.std.specs.Str.{bytes_eq}
use Rattle.std.proofs.lemmas.Bool.Decides.{Decides-eqb}
use Rattle.hv_plain.specs.Config.{is_on}
use Rattle.hv_plain.specs.Source.{kept}
use Rattle.hv_plain.specs.Run.{start, variable_of, literal_holds, output_of}
use Rattle.hv_encode.specs.declared.small.line.BodyLine.{BodyLine}
use Rattle.hv_encode.specs.declared.small.line.BodyLine.TheVariants.{Put, IfDefined, IfNotDefined, Else, EndIf}
use Rattle.hv_encode.specs.declared.small.group.Group.{Group}
use Rattle.hv_encode.specs.working.Lines.{name_at, plain}
use Rattle.hv_encode.specs.working.Lift.{IsMarked, has_literal, opened, literal_of, part_of_test, test_in, lifted}
use Rattle.hv_base.proofs.Booleans.{and_parts}
use Rattle.hv_encode.proofs.Lists.{list_all-append}

pub start-is_on : (names : List (List ℕ)) (values : List Bool) (name : List ℕ)
    → start names values (variable_of name) ≡ cond (is_on names values name) 1 0
start-is_on [] values name = refl
start-is_on (option ∷ names) [] name = refl
start-is_on (option ∷ names) (value ∷ values) name =
    rw (start-is_on names values name)
    (elim (bytes_eq name option) as (λ same. ◌≡◌ {A = ℕ}
    (cond same (cond value 1 0) (cond (is_on names values name) 1 0))
    (cond (cond same value (is_on names values name)) 1 0)) [ true ↦ refl | false ↦ refl ])

literal_value : (negated on : Bool) (value : ℕ) → value ≡ cond on 1 0
    → cond negated (value == 0) (not (value == 0)) ≡ cond negated (not on) on
literal_value true true value e = rw e refl
literal_value true false value e = rw e refl
literal_value false true value e = rw e refl
literal_value false false value e = rw e refl

pub negated_value : (negated on : Bool)
    → cond (not negated) (not on) on ≡ not (cond negated (not on) on)
negated_value true true = refl
negated_value true false = refl
negated_value false true = refl
negated_value false false = refl

same_negation : (a b : Bool) → cond a b (not b) ≡ true → b ≡ a
same_negation true b e = e
same_negation false true e = cc
same_negation false false e = refl

or_cases : (a b : Bool) → (a || b) ≡ true → (P : Type 0) → (a ≡ true → P) → (b ≡ true → P) → P
or_cases true b e P first second = first refl
or_cases false b e P first second = second e

pub literal_is : (option : ℕ) (negated : Bool) (group : Group)
    → has_literal option negated group ≡ true → (group.test.option ≡ option)
    × (group.test.negated ≡ negated)
literal_is option negated group h =
    let parts =
    and_parts (group.test.option == option)
    (cond negated group.test.negated (not group.test.negated)) h in (
      (Decides-eqb group.test.option option).0 parts.0,
      same_negation negated group.test.negated
          parts.1,
    )

module _ (names : List (List ℕ)) (values : List Bool) where
  -- whether a group with this literal is read
  abbrev pub reads : ℕ → Bool → Bool
  reads option negated =
      cond negated (not (is_on names values (name_at names option)))
      (is_on names values (name_at names option))

  abbrev pub group_reads : Group → Bool
  group_reads group = reads group.test.option group.test.negated

  abbrev pub all_read : List Group → Bool
  all_read groups = list_all (λ read. read) (map group_reads groups)

  literal_reads : (group : Group)
      → literal_holds (start names values) (literal_of names group.test) ≡ group_reads group
  literal_reads group =
      literal_value group.test.negated (is_on names values (name_at names group.test.option)) _
      (start-is_on names values (name_at names group.test.option))

  -- a literal that stands in groups that are all read holds
  any_reads : (option : ℕ) (negated : Bool) (groups : List Group)
      → list_any (has_literal option negated) groups ≡ true → all_read groups ≡ true
      → reads option negated ≡ true
  any_reads option negated [] some all = cc
  any_reads option negated (group ∷ groups) some all =
      let parts = and_parts (group_reads group) (all_read groups) all in
      or_cases (has_literal option negated group) (list_any (has_literal option negated) groups)
      some _
      (λ here. let is = literal_is option negated group here in rw (← is.0, ← is.1) parts.0)
      (λ later. any_reads option negated groups later parts.1)

  left_out : (all read : Bool) → (all ≡ true → read ≡ true) → (all && true) ≡ (read && all)
  left_out true read h = rw (h refl) refl
  left_out false true h = refl
  left_out false false h = refl

  put_in : (all read held : Bool) → held ≡ read → (all && (held && true)) ≡ (read && all)
  put_in true true held e = rw e refl
  put_in true false held e = rw e refl
  put_in false true held e = refl
  put_in false false held e = refl

  one_more : (group : Group) (groups : List Group) (repeated : Bool)
      → repeated ≡ list_any (has_literal group.test.option group.test.negated) groups
      → (all_read groups && list_all (literal_holds (start names values)) (cond repeated []
      (literal_of names group.test ∷ []))) ≡ (group_reads group && all_read groups)
  one_more group groups true e =
      left_out (all_read groups) (group_reads group)
      (any_reads group.test.option group.test.negated groups (sym e))
  one_more group groups false e =
      put_in (all_read groups) (group_reads group) _ (literal_reads group)

  -- a test holds where all groups are read: what is left out changes nothing
  pub test_holds : (groups : List Group) → IsMarked groups
      → list_all (literal_holds (start names values)) (test_in names groups) ≡ all_read groups
  test_holds [] marked = refl
  test_holds (group ∷ groups) marked =
      list_all-append (literal_holds (start names values)) (test_in names groups)
      (part_of_test names group)
      ∙ rw (test_holds groups marked.1) (one_more group groups group.repeated marked.0)

  -- the metaproduct's output is that of the bytes that preprocessing keeps
  pub output-lifted : (groups : List Group) (lines : List BodyLine) → IsMarked groups
      → output_of (start names values) (lifted names groups lines)
      ≡ kept (is_on names values) (map group_reads groups) (map (plain names) lines)
  output-lifted groups [] marked = refl
  output-lifted groups (Put byte ∷ lines) marked =
      rw (test_holds groups marked, output-lifted groups lines marked) refl
  output-lifted groups (IfDefined option ∷ lines) marked =
      output-lifted (opened groups option false ∷ groups) lines (refl, marked)
  output-lifted groups (IfNotDefined option ∷ lines) marked =
      output-lifted (opened groups option true ∷ groups) lines (refl, marked)
  output-lifted [] (Else ∷ lines) marked = output-lifted [] lines marked
  output-lifted (group ∷ groups) (Else ∷ lines) marked =
      output-lifted (opened groups group.test.option (not group.test.negated) ∷ groups) lines
      (refl, marked.1)
      ∙ rw (negated_value group.test.negated (is_on names values (name_at names group.test.option)))
      refl
  output-lifted [] (EndIf ∷ lines) marked = output-lifted [] lines marked
  output-lifted (group ∷ groups) (EndIf ∷ lines) marked = output-lifted groups lines marked.1
