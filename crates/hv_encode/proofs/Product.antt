-- The metaproduct of a body is a typed, concise program that runs as the variants.
use Rattle.std.proofs.Common.{◌≡◌, ℕ, ◌<◌, ◌≢◌, Bool, true, false, not, ◌||◌, ◌==◌, List, [], ◌∷◌, ◌++◌, cond, refl, sym, ◌∙◌, ap, arith, codes, Some}
use Rattle.std.specs.List.{list_any, position, All, AllByRecursion, AllPairs}
use Rattle.std.specs.Str.{bytes_eq}
use Rattle.std.proofs.lemmas.List.{append-nil, append_cancel_left}
use Rattle.std.proofs.lemmas.List.Elements.{All-nil, All-cons, All-append}
use Rattle.std.proofs.lemmas.List.Quantifiers.{all_pairs_push}
use Rattle.std.proofs.lemmas.Bool.Decides.{Decides-eqb}
use Rattle.hv_plain.specs.Program.{Literal, Statement}
use Rattle.hv_encode.specs.declared.small.line.BodyLine.{BodyLine}
use Rattle.hv_encode.specs.declared.small.line.BodyLine.TheVariants.{Put, IfDefined, IfNotDefined, Else, EndIf}
use Rattle.hv_encode.specs.declared.small.group.Group.{Group}
use Rattle.hv_encode.specs.working.Lines.{name_at, IsOption, IsKnown}
use Rattle.hv_encode.specs.working.Lift.{IsMarked, has_literal, opened, literal_of, part_of_test, test_in, lifted}
use Rattle.hv_base.proofs.Booleans.{and_both}

module _ (names : List (List ℕ)) where
  abbrev pub AllOptions : List Group → Type 0
  AllOptions groups = AllByRecursion (λ group. IsOption names group.test.option) groups

  -- what holds of the statement of each put in groups as they may be open
  pub lifted-all : (P : Statement → Type 0)
      → ((byte : ℕ) (groups : List Group) → byte < 256 → IsMarked groups → AllOptions groups
      → P (record { test = test_in names groups; byte = byte }))
      → (groups : List Group) (lines : List BodyLine) → IsMarked groups → AllOptions groups
      → AllByRecursion (IsKnown names) lines → AllByRecursion P (lifted names groups lines)
  lifted-all P here groups [] marked options known = tt
  lifted-all P here groups (Put byte ∷ lines) marked options known = (
    here byte groups known.0 marked options,
    lifted-all P here groups lines marked options
        known.1,
  )
  lifted-all P here groups (IfDefined option ∷ lines) marked options known =
      lifted-all P here (opened groups option false ∷ groups) lines (refl, marked)
      (known.0, options) known.1
  lifted-all P here groups (IfNotDefined option ∷ lines) marked options known =
      lifted-all P here (opened groups option true ∷ groups) lines (refl, marked) (known.0, options)
      known.1
  lifted-all P here [] (Else ∷ lines) marked options known =
      lifted-all P here [] lines marked options known.1
  lifted-all P here (group ∷ groups) (Else ∷ lines) marked options known =
      lifted-all P here (opened groups group.test.option (not group.test.negated) ∷ groups) lines
      (refl, marked.1) options known.1
  lifted-all P here [] (EndIf ∷ lines) marked options known =
      lifted-all P here [] lines marked options known.1
  lifted-all P here (group ∷ groups) (EndIf ∷ lines) marked options known =
      lifted-all P here groups lines marked.1 options.1 known.1

  part-all : (P : Literal → Type 0) (literal : Literal) (repeated : Bool) → P literal
      → All P (cond repeated [] (literal ∷ []))
  part-all P literal true h = All-nil P
  part-all P literal false h = All-cons P literal [] h (All-nil P)

  -- what holds of the literal of each option holds of each literal of a test
  pub test-all : (P : Literal → Type 0)
      → ((group : Group) → IsOption names group.test.option → P (literal_of names group.test))
      → (groups : List Group) → AllOptions groups → All P (test_in names groups)
  test-all P here [] options = All-nil P
  test-all P here (group ∷ groups) options =
      All-append P (test_in names groups) (part_of_test names group)
      (test-all P here groups options.1)
      (part-all P (literal_of names group.test) group.repeated (here group options.0))

  same_option : (one other : ℕ) → IsOption names one → IsOption names other
      → name_at names one ≡ name_at names other → one ≡ other
  same_option one other first second e =
      let same : Some one ≡ Some other = sym first.first
      ∙ ap (λ name. position (bytes_eq name) names) e ∙ second.first in cc

  same_negation : (a b : Bool) → a ≡ b → cond b a (not a) ≡ true
  same_negation true true e = refl
  same_negation true false e = cc
  same_negation false true e = cc
  same_negation false false e = refl

  or_parts : (a b : Bool) → (a || b) ≡ false → (a ≡ false) × (b ≡ false)
  or_parts true b e = cc
  or_parts false b e = (refl, e)

  -- a literal of another group is another literal
  other_literal : (group other : Group) → IsOption names group.test.option
      → IsOption names other.test.option
      → has_literal group.test.option group.test.negated other ≡ false
      → literal_of names other.test ≢ literal_of names group.test
  other_literal group other here there h e =
      let variables =
      append_cancel_left (codes "hv_opt_") (name_at names other.test.option)
      (name_at names group.test.option) (ap (λ (literal : Literal). literal.variable) e) in
      let options = same_option other.test.option group.test.option there here variables in
      let yes =
      and_both (other.test.option == group.test.option)
      (cond group.test.negated other.test.negated (not other.test.negated))
      ((Decides-eqb other.test.option group.test.option).1 options)
      (same_negation other.test.negated group.test.negated
      (ap (λ (literal : Literal). literal.negated) e)) in
      let no : true ≡ false = sym yes ∙ h in cc

  fresh : (group : Group) (groups : List Group) → IsOption names group.test.option
      → AllOptions groups → list_any (has_literal group.test.option group.test.negated) groups
      ≡ false
      → All (λ literal. literal ≢ literal_of names group.test) (test_in names groups)
  fresh group [] here options none = All-nil (λ literal. literal ≢ literal_of names group.test)
  fresh group (other ∷ groups) here options none =
      let P : Literal → Type 0 = λ literal. literal ≢ literal_of names group.test in
      let parts =
      or_parts (has_literal group.test.option group.test.negated other)
      (list_any (has_literal group.test.option group.test.negated) groups) none in
      All-append P (test_in names groups) (part_of_test names other)
      (fresh group groups here options.1 parts.1)
      (part-all P (literal_of names other.test) other.repeated
      (other_literal group other here options.0 parts.0))

  abbrev Differ : List Literal → Type 0
  Differ test = AllPairs (λ one other. one ≢ other) test

  one_more : (group : Group) (groups : List Group) (repeated : Bool)
      → IsOption names group.test.option → AllOptions groups
      → repeated ≡ list_any (has_literal group.test.option group.test.negated) groups
      → Differ (test_in names groups)
      → Differ (test_in names groups ++ cond repeated [] (literal_of names group.test ∷ []))
  one_more group groups true here options e h = rw (append-nil (test_in names groups)) h
  one_more group groups false here options e h =
      all_pairs_push (λ one other. one ≢ other) (test_in names groups) (literal_of names group.test)
      h (fresh group groups here options (sym e))

  -- no literal stands twice in a test
  pub test-concise : (groups : List Group) → IsMarked groups → AllOptions groups
      → Differ (test_in names groups)
  test-concise [] marked options = λ i j d below within. absurd (omega arith)
  test-concise (group ∷ groups) marked options =
      one_more group groups group.repeated options.0 options.1 marked.0
      (test-concise groups marked.1 options.1)
