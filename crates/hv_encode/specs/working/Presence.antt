-- Under which configurations groups are active, and which statements a metaproduct has.
use Rattle.std.specs.Prelude.{ℕ, ◌≡◌, ◌<◌, Bool, true, false, cond, not, List, [], ◌∷◌, ◌++◌, map, length, IsTrue, MatchBool}
use Rattle.std.specs.List.{All, AllByRecursion, flat_map, list_all}
use Rattle.hv_cond.specs.Diagram.{Diagram, IsNode, holds, value_of}
use Rattle.hv_cond.specs.declared.conditions.Cond.{Cond}
use Rattle.hv_model.specs.Rule.{Features, IsValid}
use Rattle.hv_plain.specs.Program.{Statement, IsProgramText, program_tokens, shown}
use Rattle.hv_plain.specs.Run.{IsReached, IsRunIn, variables_of}
use Rattle.hv_encode.specs.declared.small.group.Group.{Group}
use Rattle.hv_encode.specs.declared.small.group.OpenGroup.{OpenGroup}
use Rattle.hv_encode.specs.declared.small.line.BodyLine.{BodyLine}
use Rattle.hv_encode.specs.declared.small.line.BodyLine.TheVariants.{Put, IfDefined, IfNotDefined, Else, EndIf}
use Rattle.hv_encode.specs.declared.small.program.Block.{Block}
use Rattle.hv_encode.specs.declared.small.program.Metaproduct.{Metaproduct}
use Rattle.hv_encode.specs.declared.small.program.OptionTest.{OptionTest}
use Rattle.hv_encode.specs.declared.small.lift.Lifting.{Lifting}
use Rattle.hv_plain.specs.Source.{is_nested}
use Rattle.hv_encode.specs.working.Lines.{plain}
use Rattle.hv_encode.specs.working.Lift.{HasOptions, IsMarked, lifted, program_with, statement_in, statements_of}

------ open groups

-- whether the test holds where the options have these values
abbrev pub test_reads : List Bool → OptionTest → Bool
test_reads values test =
    cond test.negated (not (value_of values test.option)) (value_of values test.option)

-- whether a group is active where the options have these values, outer groups aside
abbrev pub group_reads : List Bool → Group → Bool
group_reads values group = test_reads values group.test

-- the groups that are open, the innermost first
abbrev pub groups_of : List OpenGroup → List Group
groups_of open_groups = map (λ one. one.group) open_groups

-- whether the `#else` of each open group was seen, the innermost first
abbrev pub elses_of : List OpenGroup → List Bool
elses_of open_groups = map (λ one. one.has_else) open_groups

-- the condition holds exactly where all of these groups are active, whatever the rules say
pub record IsCondOf (store : Diagram) (groups : List Group) (c : Cond) : Type 0 where
  pub node : IsNode store c
  pub meaning : (values : List Bool) → holds store c values ≡ list_all (group_reads values) groups

-- each open group has the condition that it and those around it are active
abbrev pub AreConds : Diagram → List OpenGroup → Type 0
AreConds store [] = Unit {0}
AreConds store (one ∷ outer) = IsCondOf store (groups_of (one ∷ outer)) one.cond
    × AreConds store outer

-- these groups may be open over the variables of the store: conditions and flags are right
pub record AreOpen (store : Diagram) (open_groups : List OpenGroup) : Type 0 where
  pub conds : AreConds store open_groups
  pub marked : IsMarked (groups_of open_groups)
  pub options : AllByRecursion (λ group. group.test.option < store.variables)
      (groups_of open_groups)

-- the options that the line names are below this number
abbrev pub IsBelow : ℕ → BodyLine → Type 0
IsBelow count (Put byte) = Unit {0}
IsBelow count (IfDefined option) = option < count
IsBelow count (IfNotDefined option) = option < count
IsBelow count Else = Unit {0}
IsBelow count EndIf = Unit {0}

-- whether some valid configuration has all of these groups active
abbrev pub IsReachedIn : Features → List Group → Bool → Type 0
IsReachedIn model groups reached = MatchBool reached
    ((values : List Bool) × IsValid model values × IsTrue (list_all (group_reads values) groups))
    ((values : List Bool) → IsValid model values → list_all (group_reads values) groups ≡ false)

------ statements

-- the second list has those statements of the first that a valid configuration runs
pub data Prunes (model : Features) : List Statement → List Statement → Type 0 where
  none : Prunes model [] []
  keep : (statement : Statement) {all kept : List Statement} → IsReached model statement
      → Prunes model all kept → Prunes model (statement ∷ all) (statement ∷ kept)
  leave : (statement : Statement) {all kept : List Statement}
      → ((values : List Bool) → IsValid model values → IsRunIn model.names values statement → ⊥)
      → Prunes model all kept → Prunes model (statement ∷ all) kept

-- the metaproduct has those statements of the body that a valid configuration runs
abbrev pub IsLifted : Features → List BodyLine → Metaproduct → Type 0
IsLifted model lines product =
    Prunes model (lifted model.names [] lines) (flat_map (statements_of model.names) product.blocks)

-- the blocks now have besides those of these bytes' statements in these groups that a valid
-- configuration runs
pub record AddsPruned (model : Features) (groups : List Group) (bytes : List ℕ)
    (before now : List Block) : Type 0 where
  pub kept : List Statement
  pub pruned : Prunes model (map (statement_in model.names groups) bytes) kept
  pub added : flat_map (statements_of model.names) now
      ≡ flat_map (statements_of model.names) before ++ kept
  pub options : All (HasOptions model.names) before → All (HasOptions model.names) now

-- the lifting stands before the lines `rest`: what it has, with what these become, is pruned from
-- `all`, and whether all lines are nested is told by these
pub record IsAt (model : Features) (store : Diagram) (all : List Statement) (nested : Bool)
    (rest : List BodyLine) (lifting : Lifting) : Type 0 where
  pub open_groups : AreOpen store lifting.open_groups
  pub rest_pruned : (more : List Statement)
      → Prunes model (map (statement_in model.names (groups_of lifting.open_groups)) lifting.run
      ++ lifted model.names (groups_of lifting.open_groups) rest) more
      → Prunes model all (flat_map (statements_of model.names) lifting.blocks ++ more)
  pub options : All (HasOptions model.names) lifting.blocks
  pub nesting : nested ≡ is_nested (elses_of lifting.open_groups) (map (plain model.names) rest)

-- some valid configuration meets the condition, or none does
abbrev pub IsMet : Diagram → Cond → Cond → Bool → Type 0
IsMet store valid c met = MatchBool met
    ((values : List Bool) × (length values ≡ store.variables) × (holds store valid values ≡ true)
    × (holds store c values ≡ true))
    ((values : List Bool) → length values ≡ store.variables → holds store valid values ≡ true
    → holds store c values ≡ false)

-- the text is the printed metaproduct of a body
pub record IsProductText (model : Features) (lines : List BodyLine) (text : List ℕ) : Type 0 where
  pub kept : List Statement
  pub pruned : Prunes model (lifted model.names [] lines) kept
  pub printed : text ≡ shown (program_tokens (program_with model.names kept))
  pub reads : IsProgramText (variables_of model.names) text (program_with model.names kept)
