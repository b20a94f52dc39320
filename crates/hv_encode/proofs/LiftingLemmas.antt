-- Which statements a lifting has: those that a valid configuration runs.
use Rattle.std.proofs.Common.{◌≡◌, ℕ, zero, suc, ◌<◌, ◌≤◌, Bool, true, false, not, ◌+◌, List, [], ◌∷◌, ◌++◌, length, map, take, drop, get_or, reverse, cond, refl, sym, ◌∙◌, ap, arith, subst, IsTrue}
use Rattle.std.specs.Prelude.{Result, Ok, Err, IfOk, ◌↔◌, MatchBool}
use Rattle.std.specs.List.{All, AllByRecursion, flat_map, list_all, list_any}
use Rattle.std.specs.Str.{bytes_eq}
use Rattle.std.proofs.lemmas.List.{append-nil, append_assoc, drop_all, drop_more, map-append, reverse-reverse, take_more, take_all}
use Rattle.std.proofs.lemmas.Grind.{flat_map-append}
use Rattle.std.proofs.lemmas.List.Elements.{All-nil, All-cons, All-append, All-push}
use Rattle.std.proofs.lemmas.List.Folds.{list_all-map}
use Rattle.std.proofs.lemmas.Slice.Eq.{bytes_eq-Decides}
use Rattle.hv_base.proofs.Booleans.{and_parts, contrary, not_true, or_left, or_right}
use Rattle.hv_base.proofs.Lists.{reverse-cons}
use Rattle.hv_cond.specs.Diagram.{AreDisjoint, Diagram, Keeps, Meet, value_of}
use Rattle.hv_cond.specs.Laws.{Keeps-trans}
use Rattle.hv_cond.specs.declared.conditions.Cond.{Cond}
use Rattle.hv_model.specs.Name.{are_distinct}
use Rattle.hv_model.specs.Rule.{Features}
use Rattle.hv_plain.specs.Config.{is_on}
use Rattle.hv_plain.specs.Program.{Literal, Statement}
use Rattle.hv_plain.specs.Run.{literal_holds, start}
use Rattle.hv_plain.specs.Source.{SourceLine, is_nested}
use Rattle.hv_encode.specs.declared.small.group.Group.{Group}
use Rattle.hv_encode.specs.declared.small.group.OpenGroup.{OpenGroup}
use Rattle.hv_model.specs.declared.diagram.ModelDiagram.{ModelDiagram}
use Rattle.hv_encode.specs.declared.small.lift.Lifting.{Lifting}
use Rattle.hv_encode.specs.declared.small.line.BodyLine.{BodyLine}
use Rattle.hv_encode.specs.declared.small.line.BodyLine.TheVariants.{Put, IfDefined, IfNotDefined, Else, EndIf}
use Rattle.hv_encode.specs.declared.small.program.Block.{Block}
use Rattle.hv_encode.specs.declared.small.program.OptionTest.{OptionTest}
use Rattle.hv_encode.specs.working.Lift.{HasOption, HasOptions, IsMarked, after, lifted, literal_of, own_tests, statement_in, statement_of, statements_of, test_in, tests_in}
use Rattle.hv_encode.specs.working.Lines.{IsKnown, name_at, plain}
use Rattle.hv_encode.specs.working.Presence.{AddsPruned, AreOpen, IsAt, IsBelow, IsCondOf, IsMet, IsReachedIn, Prunes, none, keep, leave, elses_of, group_reads, groups_of}
use Rattle.hv_model.specs.Valid.{IsValidIn}
use Rattle.hv_encode.proofs.Pruning.{Prunes-append}
use Rattle.hv_encode.proofs.Semantics.{test_holds, group_reads as named_reads}

------ options by number and by name

-- the first name is none of the others
first_is_new : (name : List ℕ) (names : List (List ℕ)) (i : ℕ)
    → list_any (bytes_eq name) names ≡ false → i < length names
    → bytes_eq (name_at names i) name ≡ false
first_is_new name [] i new within = absurd (omega arith)
first_is_new name (other ∷ names) zero new within =
    swapped name other (or_left (bytes_eq name other) _ new)
  where
    swapped : (a b : List ℕ) → bytes_eq a b ≡ false → bytes_eq b a ≡ false
    swapped a b e = elim (bytes_eq b a) as (λ x. bytes_eq b a ≡ x → x ≡ false) [
      | true ↦ λ same. let yes = (bytes_eq-Decides a b).1 (sym ((bytes_eq-Decides b a).0 same)) in
          cc
      | false ↦ λ same. refl
    ] refl
first_is_new name (other ∷ names) (suc i) new within =
    first_is_new name names i (or_right (bytes_eq name other) _ new) (omega arith)

-- the value of an option by its name is that by its number
pub is_on-at : (names : List (List ℕ)) (values : List Bool) (i : ℕ) → are_distinct names ≡ true
    → i < length names → is_on names values (name_at names i) ≡ value_of values i
is_on-at [] values i distinct within = absurd (omega arith)
is_on-at (name ∷ names) [] i distinct within = refl
is_on-at (name ∷ names) (value ∷ values) zero distinct within =
    rw ((bytes_eq-Decides name name).1 refl) refl
is_on-at (name ∷ names) (value ∷ values) (suc i) distinct within =
    let parts = and_parts (not (list_any (bytes_eq name) names)) (are_distinct names) distinct in
    rw (first_is_new name names i (not_true _ parts.0) (omega arith))
    (is_on-at names values i parts.1 (omega arith))

module _ (names : List (List ℕ)) (distinct : are_distinct names ≡ true) (values : List Bool) where
  all_read-by_number : (groups : List Group) → AllByRecursion (HasOption names) groups
      → list_all (named_reads names values) groups ≡ list_all (group_reads values) groups
  all_read-by_number [] options = refl
  all_read-by_number (group ∷ groups) options =
      rw (
        is_on-at names values group.test.option distinct options.0,
        all_read-by_number groups
            options.1,
      ) refl

  -- the test of a statement holds where its groups are active
  pub test_runs : (groups : List Group) → IsMarked groups → AllByRecursion (HasOption names) groups
      → list_all (literal_holds (start names values)) (test_in names groups)
      ≡ list_all (group_reads values) groups
  test_runs groups marked options =
      test_holds names values groups marked
      ∙ list_all-map (λ read. read) (named_reads names values) groups
      ∙ all_read-by_number groups options

------ is_met

-- what the store tells of both conditions
pub met_is : (store : Diagram) (valid c : Cond) (met : Bool) → (IsTrue met ↔ Meet store valid c) → ((met ≡ false) ↔ AreDisjoint store valid c)
    → IsMet store valid c met
met_is store valid c true together apart = together.0 refl
met_is store valid c false together apart = apart.0 refl

reached_in : (model : Features) (store : Diagram) (valid c : Cond) (groups : List Group)
    (met : Bool) → IsValidIn model store valid → IsCondOf store groups c
    → IsMet store valid c met → IsReachedIn model groups met
reached_in model store valid c groups true is own found = (
  found.0,
  (found.1 ∙ is.variables, sym (is.meaning found.0) ∙ found.2),
  sym
      (own.meaning found.0) ∙ found.3,
)
reached_in model store valid c groups false is own unmet = λ values holds_valid.
    sym (own.meaning values) ∙ unmet values (holds_valid.0 ∙ sym is.variables) (is.meaning values
    ∙ holds_valid.1)

------ tests_of

pub tests_next : (slice : List OpenGroup) (i : ℕ) (d : OpenGroup) (tests now : List OptionTest)
    → i < length slice → tests ≡ flat_map (λ one. own_tests one.group) (take i slice)
    → now ≡ tests ++ own_tests (get_or slice i d).group
    → now ≡ flat_map (λ one. own_tests one.group) (take (i + 1) slice)
tests_next slice i d tests now within before e =
    let F : OpenGroup → List OptionTest = λ one. own_tests one.group in
    e ∙ ap (λ t. t ++ F (get_or slice i d)) before
    ∙ sym (ap (flat_map F) (take_more slice i d within)
    ∙ flat_map-append F (take i slice) (get_or slice i d ∷ [])
    ∙ ap (λ t. flat_map F (take i slice) ++ t) (append-nil (F (get_or slice i d))))

tests-append : (groups : List Group) (group : Group)
    → tests_in (groups ++ group ∷ []) ≡ own_tests group ++ tests_in groups
tests-append [] group = sym (append-nil (own_tests group))
tests-append (first ∷ groups) group =
    ap (λ t. t ++ own_tests first) (tests-append groups group)
    ∙ append_assoc (own_tests group) (tests_in groups) (own_tests first)

-- the tests, from the outermost group on
tests-reverse : (slice : List OpenGroup)
    → tests_in (groups_of (reverse slice)) ≡ flat_map (λ one. own_tests one.group) slice
tests-reverse [] = refl
tests-reverse (one ∷ slice) =
    ap (λ (all : List OpenGroup). tests_in (groups_of all)) (reverse-cons one slice)
    ∙ ap tests_in (map-append (λ (it : OpenGroup). it.group) (reverse slice) (one ∷ []))
    ∙ tests-append (groups_of (reverse slice)) one.group
    ∙ ap (λ t. own_tests one.group ++ t) (tests-reverse slice)

pub tests_all : (slice : List OpenGroup) (i : ℕ) (tests : List OptionTest) → length slice ≤ i
    → tests ≡ flat_map (λ one. own_tests one.group) (take i slice)
    → tests ≡ tests_in (groups_of (reverse slice))
tests_all slice i tests past is =
    is ∙ ap (flat_map (λ (one : OpenGroup). own_tests one.group)) (take_all i slice past)
    ∙ sym (tests-reverse slice)

------ add_block

own_literals : (names : List (List ℕ)) (test : OptionTest) (repeated : Bool)
    → map (literal_of names) (cond repeated [] (test ∷ []))
    ≡ cond repeated [] (literal_of names test ∷ [])
own_literals names test true = refl
own_literals names test false = refl

-- the literals of the tests in groups are the test of a statement there
literals_in : (names : List (List ℕ)) (groups : List Group)
    → map (literal_of names) (tests_in groups) ≡ test_in names groups
literals_in names [] = refl
literals_in names (group ∷ groups) =
    map-append (literal_of names) (tests_in groups) (own_tests group)
    ∙ ap (λ t. t ++ map (literal_of names) (own_tests group)) (literals_in names groups)
    ∙ ap (λ t. test_in names groups ++ t) (own_literals names group.test group.repeated)

own_below : (count : ℕ) (test : OptionTest) (repeated : Bool) → test.option < count
    → All (λ (one : OptionTest). one.option < count) (cond repeated [] (test ∷ []))
own_below count test true below = All-nil (λ (one : OptionTest). one.option < count)
own_below count test false below =
    All-cons (λ (one : OptionTest). one.option < count) test [] below
    (All-nil (λ (one : OptionTest). one.option < count))

tests_below : (count : ℕ) (groups : List Group)
    → AllByRecursion (λ group. group.test.option < count) groups
    → All (λ (one : OptionTest). one.option < count) (tests_in groups)
tests_below count [] options = All-nil (λ (one : OptionTest). one.option < count)
tests_below count (group ∷ groups) options =
    All-append (λ (one : OptionTest). one.option < count) (tests_in groups) (own_tests group)
    (tests_below count groups options.1) (own_below count group.test group.repeated options.0)

module _ (model : Features) (distinct : are_distinct model.names ≡ true) (groups : List Group)
    (marked : IsMarked groups) (options : AllByRecursion (HasOption model.names) groups) where
  all_kept : IsReachedIn model groups true → (bytes : List ℕ)
      → Prunes model (map (statement_in model.names groups) bytes)
      (map (statement_in model.names groups) bytes)
  all_kept found [] = none
  all_kept found (byte ∷ bytes) =
      keep _ (record {
        values = found.0;
        valid = found.1;
        runs =
            test_runs model.names distinct found.0 groups marked options ∙ found.2;
      })
      (all_kept found bytes)

  none_kept : IsReachedIn model groups false → (bytes : List ℕ)
      → Prunes model (map (statement_in model.names groups) bytes) []
  none_kept unread [] = none
  none_kept unread (byte ∷ bytes) =
      leave _ (λ values valid runs. contrary (list_all (group_reads values) groups)
      (sym (test_runs model.names distinct values groups marked options) ∙ runs)
      (unread values valid))
      (none_kept unread bytes)

options_of : (names : List (List ℕ)) (count : ℕ) (groups : List Group) → count ≡ length names
    → AllByRecursion (λ group. group.test.option < count) groups
    → AllByRecursion (HasOption names) groups
options_of names count groups e options = rw e at options

-- where nothing is to be written no block is added
pub added_nothing : (model : Features) (groups : List Group) (run : List ℕ)
    (before now : List Block) → run ≡ [] → now ≡ before → AddsPruned model groups run before now
added_nothing model groups run before now empty same = rw (empty, same) (record {
  kept = [];
  pruned = none;
  added = sym (append-nil (flat_map (statements_of model.names) before));
  options = λ all. all;
})

-- nor where no valid configuration has the groups active
pub added_none : (store : Diagram) (valid c : Cond) (open_groups : List OpenGroup) (run : List ℕ)
    (before now : List Block) (met : Bool) → met ≡ false → AreOpen store open_groups
    → IsCondOf store (groups_of open_groups) c → IsMet store valid c met → now ≡ before
    → (model : Features) → IsValidIn model store valid → IsTrue (are_distinct model.names)
    → AddsPruned model (groups_of open_groups) run before now
added_none store valid c open_groups run before now met unmet is_open own is same model valid_in
    distinct = record {
      kept = [];
      pruned =
          none_kept model distinct (groups_of open_groups) is_open.marked
          (options_of model.names store.variables (groups_of open_groups) valid_in.variables
          is_open.options)
          (rw unmet at (reached_in model store valid c (groups_of open_groups) met valid_in own is))
          run;
      added = ap (flat_map (statements_of model.names)) same
          ∙ sym (append-nil (flat_map (statements_of model.names) before));
      options = λ all. subst (All (HasOptions model.names)) (sym same) all;
    }

pub added_one : (store : Diagram) (valid c : Cond) (open_groups slice : List OpenGroup)
    (run : List ℕ) (before now : List Block) (met : Bool) (tests : List OptionTest) (bytes : List ℕ)
    → met ≡ true
    → AreOpen store open_groups → IsCondOf store (groups_of open_groups) c → IsMet store valid c met
    → slice ≡ reverse open_groups → tests ≡ tests_in (groups_of (reverse slice)) → bytes ≡ run
    → now ≡ before ++ record { test = tests; bytes = bytes } ∷ []
    → (model : Features) → IsValidIn model store valid → IsTrue (are_distinct model.names)
    → AddsPruned model (groups_of open_groups) run before now
added_one store valid c open_groups slice run before now met tests bytes is_met is_open own is
    turned tested copied pushed model valid_in distinct =
    let groups = groups_of open_groups in
    let all_options =
    options_of model.names store.variables groups valid_in.variables is_open.options in
    let block : Block = record { test = tests; bytes = bytes } in
    let tests_are : tests ≡ tests_in groups = tested
    ∙ ap (λ (all : List OpenGroup). tests_in (groups_of all))
    (ap reverse turned ∙ reverse-reverse open_groups) in
    let literals : map (literal_of model.names) tests ≡ test_in model.names groups =
    ap (map (literal_of model.names)) tests_are ∙ literals_in model.names groups in
    let statements : statements_of model.names block ≡ map (statement_in model.names groups) run =
    ap (λ (test : List Literal). map (λ (byte : ℕ). record { test = test; byte = byte }) bytes)
    literals ∙ ap (map (statement_in model.names groups)) copied in
    record {
      kept = map (statement_in model.names groups) run;
      pruned =
          all_kept model distinct groups is_open.marked all_options
          (rw is_met at (reached_in model store valid c groups met valid_in own is)) run;
      added = ap (flat_map (statements_of model.names)) pushed
          ∙ flat_map-append (statements_of model.names) before (block ∷ [])
          ∙ ap (λ t. flat_map (statements_of model.names) before ++ t)
          (append-nil (statements_of model.names block) ∙ statements);
      options =
          λ all. subst (All (HasOptions model.names)) (sym pushed)
          (All-push (HasOptions model.names) before block all
          (subst (All (λ (one : OptionTest). one.option < length model.names)) (sym tests_are)
          (tests_below (length model.names) groups all_options)));
    }

------ take_line

pub IsBelow-known : (names : List (List ℕ)) (count : ℕ) (line : BodyLine) → count ≡ length names
    → IsKnown names line → IsBelow count line
IsBelow-known names count (Put byte) e known = tt
IsBelow-known names count (IfDefined option) e known = rw e known.within
IsBelow-known names count (IfNotDefined option) e known = rw e known.within
IsBelow-known names count Else e known = tt
IsBelow-known names count EndIf e known = tt

pub put_taken : (model : Features) (store : Diagram) (all : List Statement) (nested : Bool)
    (rest : List BodyLine) (byte : ℕ) (old now : Lifting)
    → now.open_groups ≡ old.open_groups → now.blocks ≡ old.blocks → now.run ≡ old.run ++ byte ∷ []
    → IsAt model store all nested (Put byte ∷ rest) old → IsAt model store all nested rest now
put_taken model store all nested rest byte old now same_groups same_blocks pushed at = record {
  open_groups = rw same_groups at.open_groups;
  rest_pruned = λ more pruned.
      let G = groups_of old.open_groups in
      let S = statement_in model.names G in
      let line : map S now.run ++ lifted model.names G rest ≡ map S old.run ++
      lifted model.names G (Put byte ∷ rest) =
      ap (λ bytes. map S bytes ++ lifted model.names G rest) pushed
      ∙ ap (λ t. t ++ lifted model.names G rest) (map-append S old.run (byte ∷ []))
      ∙ append_assoc (map S old.run) (S byte ∷ []) (lifted model.names G rest) in
      rw same_blocks (at.rest_pruned more (rw (same_groups, line) at pruned));
  options = rw same_blocks at.options;
  nesting = rw same_groups at.nesting;
}

no_statement : (names : List (List ℕ)) (groups : List Group) (line : BodyLine)
    → ((byte : ℕ) → line ≡ Put byte → ⊥) → statement_of names groups line ≡ []
no_statement names groups (Put byte) other = absurd (other byte refl)
no_statement names groups (IfDefined option) other = refl
no_statement names groups (IfNotDefined option) other = refl
no_statement names groups Else other = refl
no_statement names groups EndIf other = refl

pub directive_taken : (model : Features) (store now_store : Diagram) (all : List Statement)
    (nested : Bool) (rest : List BodyLine) (line : BodyLine) (old now : Lifting) (goes : Bool)
    → ((byte : ℕ) → line ≡ Put byte → ⊥)
    → AddsPruned model (groups_of old.open_groups) old.run old.blocks now.blocks → now.run ≡ []
    → (IsTrue goes → AreOpen now_store now.open_groups)
    → (IsTrue goes → groups_of now.open_groups ≡ after line (groups_of old.open_groups))
    → is_nested (elses_of old.open_groups) (plain model.names line ∷ map (plain model.names) rest)
    ≡ cond goes (is_nested (elses_of now.open_groups) (map (plain model.names) rest)) false
    → IsAt model store all nested (line ∷ rest) old
    → MatchBool goes (IsAt model now_store all nested rest now) (nested ≡ false)
directive_taken model store now_store all nested rest line old now true other adds empty is_open
    groups nesting at = record {
      open_groups = is_open refl;
      rest_pruned = λ more pruned.
          let G = groups_of old.open_groups in
          let S = statement_in model.names G in
          let here : Prunes model (lifted model.names G (line ∷ rest)) more =
          rw (no_statement model.names G line other) (rw (empty, groups refl) at pruned) in
          let both = at.rest_pruned (adds.kept ++ more) (Prunes-append model adds.pruned here) in
          rw (adds.added, append_assoc (flat_map (statements_of model.names) old.blocks) adds.kept more)
          both;
      options = adds.options at.options;
      nesting = at.nesting ∙ nesting;
    }
directive_taken model store now_store all nested rest line old now false other adds empty is_open
    groups nesting at = at.nesting ∙ nesting

pub directive_each : {E : Type 0} (r : Result Bool E) (store now_store : Diagram) (valid : Cond)
    (line : BodyLine) (old now : Lifting)
    → ((byte : ℕ) → line ≡ Put byte → ⊥)
    → ((model : Features) → IsValidIn model store valid → IsTrue (are_distinct model.names)
    → AddsPruned model (groups_of old.open_groups) old.run old.blocks now.blocks)
    → now.run ≡ [] → IfOk r (λ goes. IsTrue goes → AreOpen now_store now.open_groups)
    → IfOk r (λ goes. IsTrue goes → groups_of now.open_groups
    ≡ after line (groups_of old.open_groups))
    → IfOk r (λ goes. (names : List (List ℕ)) (rest : List SourceLine)
    → is_nested (elses_of old.open_groups) (plain names line ∷ rest)
    ≡ cond goes (is_nested (elses_of now.open_groups) rest) false)
    → IfOk r (λ goes. (model : Features) (all : List Statement) (nested : Bool)
    (rest : List BodyLine) → IsValidIn model store valid → IsTrue (are_distinct model.names)
    → IsAt model store all nested (line ∷ rest) old
    → MatchBool goes (IsAt model now_store all nested rest now) (nested ≡ false))
directive_each (Err e) store now_store valid line old now other adds empty is_open groups nesting =
    tt
directive_each (Ok goes) store now_store valid line old now other adds empty is_open groups
    nesting =
    λ model all nested rest valid_in distinct at.
    directive_taken model store now_store all nested rest line old now goes other
    (adds model valid_in distinct) empty is_open groups
    (nesting model.names (map (plain model.names) rest)) at

------ lift

pub started : (model : Features) (store : Diagram) (lines : List BodyLine) (lifting : Lifting)
    → lifting.open_groups ≡ [] → lifting.run ≡ [] → lifting.blocks ≡ []
    → IsAt model store (lifted model.names [] lines) (is_nested [] (map (plain model.names) lines))
    lines lifting
started model store lines lifting no_groups no_run no_blocks = record {
  open_groups = rw no_groups (record { conds = tt; marked = tt; options = tt });
  rest_pruned = λ more pruned. rw no_blocks (rw (no_groups, no_run) at pruned);
  options = rw no_blocks (All-nil (HasOptions model.names));
  nesting = rw no_groups refl;
}

-- what the loop over the lines keeps: the model is the same, its diagram is kept, and the lines so far are lifted
pub record IsLiftedTo (old now : ModelDiagram) (lines : List BodyLine) (i : ℕ)
    (lifting : Lifting) : Type 0 where
  pub keeps : Keeps old.store now.store
  pub model : now.model ≡ old.model
  pub valid : now.valid ≡ old.valid
  pub at : IsAt old.model now.store (lifted old.model.names [] lines)
      (is_nested [] (map (plain old.model.names) lines)) (drop i lines) lifting

-- after the last line
pub ended : (model : Features) (store : Diagram) (all : List Statement) (nested : Bool)
    (lifting : Lifting) (now : List Block) → IsAt model store all nested [] lifting
    → AddsPruned model (groups_of lifting.open_groups) lifting.run lifting.blocks now
    → Prunes model all (flat_map (statements_of model.names) now)
ended model store all nested lifting now at adds =
    let S = statement_in model.names (groups_of lifting.open_groups) in
    rw adds.added (at.rest_pruned adds.kept (rw (append-nil (map S lifting.run)) adds.pruned))

pub nested_end : (model : Features) (store : Diagram) (all : List Statement) (nested : Bool)
    (lifting : Lifting) → IsAt model store all nested [] lifting
    → lifting.open_groups ≡ [] → nested ≡ true
nested_end model store all nested lifting at no_groups = at.nesting ∙ rw no_groups refl

pub open_end : (model : Features) (store : Diagram) (all : List Statement) (nested : Bool)
    (lifting : Lifting) → IsAt model store all nested [] lifting
    → (lifting.open_groups ≡ [] → ⊥) → nested ≡ false
open_end model store all nested lifting at some = at.nesting ∙ still_open lifting.open_groups some
  where
    still_open : (open_groups : List OpenGroup) → (open_groups ≡ [] → ⊥)
        → is_nested (elses_of open_groups) [] ≡ false
    still_open [] some = absurd (some refl)
    still_open (one ∷ outer) some = refl

pub valid_kept : (model : Features) (old now : Diagram) (valid : Cond) → Keeps old now
    → IsValidIn model old valid → IsValidIn model now valid
valid_kept model old now valid keeps is = record {
  variables = keeps.variables ∙ is.variables;
  node = keeps.stays valid is.node;
  meaning = λ values. keeps.meaning valid is.node values ∙ is.meaning values;
}

-- the diagram while lines are lifted
pub valid_now : (old now : ModelDiagram) (lines : List BodyLine) (i : ℕ) (lifting : Lifting)
    → IsValidIn old.model old.store old.valid → IsLiftedTo old now lines i lifting
    → IsValidIn old.model now.store now.valid
valid_now old now lines i lifting is so_far =
    rw so_far.valid (valid_kept old.model old.store now.store old.valid so_far.keeps is)

pub lifted_next : (old now : ModelDiagram) (store : Diagram) (lines : List BodyLine) (i : ℕ)
    (d : BodyLine) (before now_lifting : Lifting) (goes : Bool)
    → IsValidIn old.model old.store old.valid → IsTrue (are_distinct old.model.names)
    → IsLiftedTo old now lines i before → i < length lines → Keeps now.store store
    → ((model : Features) (all : List Statement) (nested : Bool) (rest : List BodyLine)
    → IsValidIn model now.store now.valid → IsTrue (are_distinct model.names)
    → IsAt model now.store all nested (get_or lines i d ∷ rest) before
    → MatchBool goes (IsAt model store all nested rest now_lifting) (nested ≡ false))
    → MatchBool goes (IsLiftedTo old (record now { store = store }) lines (i + 1) now_lifting)
    (is_nested [] (map (plain old.model.names) lines) ≡ false)
lifted_next old now store lines i d before now_lifting true is distinct so_far within keeps step =
    record {
      keeps = Keeps-trans so_far.keeps keeps;
      model = so_far.model;
      valid = so_far.valid;
      at = step old.model (lifted old.model.names [] lines)
          (is_nested [] (map (plain old.model.names) lines)) (drop (i + 1) lines)
          (valid_now old now lines i before is so_far) distinct
          (rw (drop_more lines i d within) at so_far.at);
    }
lifted_next old now store lines i d before now_lifting false is distinct so_far within keeps step =
    step old.model (lifted old.model.names [] lines)
    (is_nested [] (map (plain old.model.names) lines)) (drop (i + 1) lines)
    (valid_now old now lines i before is so_far) distinct
    (rw (drop_more lines i d within) at so_far.at)

pub at_end : (old now : ModelDiagram) (lines : List BodyLine) (i : ℕ) (lifting : Lifting)
    → IsLiftedTo old now lines i lifting → length lines ≤ i
    → IsAt old.model now.store (lifted old.model.names [] lines)
    (is_nested [] (map (plain old.model.names) lines)) [] lifting
at_end old now lines i lifting so_far past =
    let P : List BodyLine → Type 0 =
    λ rest. IsAt old.model now.store (lifted old.model.names [] lines)
    (is_nested [] (map (plain old.model.names) lines)) rest lifting in
    subst P (drop_all i lines past) so_far.at
