-- Open groups: their conditions, their flags, their nesting.
use Rattle.std.proofs.Common.{◌≡◌, ℕ, ◌<◌, ◌≤◌, Bool, true, false, ◌&&◌, List, [], ◌∷◌, length, reverse, cond, nat_lt, sym, ◌∙◌, ap, arith, subst, Some, None, slice_get}
use Rattle.std.specs.List.{AllByRecursion, list_all, list_any}
use Rattle.std.proofs.lemmas.Bool.Decides.{nat_tests}
use Rattle.hv_base.proofs.Booleans.{and_comm}
use Rattle.hv_base.proofs.Lists.{length-map, list_any-map, list_any-reverse}
use Rattle.hv_cond.specs.Diagram.{Diagram, IsNode, Keeps, holds}
use Rattle.hv_cond.specs.Laws.{Keeps-trans}
use Rattle.hv_cond.specs.declared.conditions.Cond.{Cond}
use Rattle.hv_plain.specs.Source as source
use Rattle.hv_plain.specs.Source.{SourceLine, is_nested}
use Rattle.hv_encode.specs.declared.small.group.Group.{Group}
use Rattle.hv_encode.specs.declared.small.group.OpenGroup.{OpenGroup}
use Rattle.std.specs.Prelude.{Result, Ok, Err, IfOk}
use Rattle.hv_encode.specs.declared.small.line.BodyLine.{BodyLine}
use Rattle.hv_encode.specs.declared.small.line.BodyLine.TheVariants.{IfDefined, IfNotDefined}
use Rattle.hv_encode.specs.working.Lines.{name_at, plain}
use Rattle.hv_encode.specs.declared.small.program.OptionTest.{OptionTest}
use Rattle.hv_encode.specs.working.Lift.{has_literal, opened}
use Rattle.hv_encode.specs.working.Presence.{AreConds, AreOpen, IsCondOf, elses_of, group_reads, groups_of, test_reads}

------ cond_within

pub top_cond : (store : Diagram) (open_groups : List OpenGroup) (one : OpenGroup)
    → AreConds store open_groups → slice_get open_groups 0 ≡ Some one
    → IsCondOf store (groups_of open_groups) one.cond
top_cond store [] one conds is = cc
top_cond store (first ∷ outer) one conds is =
    let same : first ≡ one = cc in
    subst (λ (it : OpenGroup). IsCondOf store (groups_of (first ∷ outer)) it.cond) same conds.0

pub no_top : (store : Diagram) (open_groups : List OpenGroup) (c : Cond)
    → slice_get open_groups 0 ≡ None → IsNode store c
    → ((values : List Bool) → holds store c values ≡ true)
    → IsCondOf store (groups_of open_groups) c
no_top store [] c is node always = record { node = node; meaning = always }
no_top store (first ∷ outer) c is node always = cc

------ open_group

cond_kept : (old now : Diagram) (groups : List Group) (c : Cond) → Keeps old now
    → IsCondOf old groups c → IsCondOf now groups c
cond_kept old now groups c keeps is = record {
  node = keeps.stays c is.node;
  meaning = λ values. keeps.meaning c is.node values ∙ is.meaning values;
}

-- conditions in a store that keeps them
pub conds_kept : (old now : Diagram) (open_groups : List OpenGroup) → Keeps old now
    → AreConds old open_groups → AreConds now open_groups
conds_kept old now [] keeps conds = tt
conds_kept old now (one ∷ outer) keeps conds = (
  cond_kept old now (groups_of (one ∷ outer)) one.cond keeps conds.0,
  conds_kept old now outer
      keeps conds.1,
)

options_kept : (old now : ℕ) (groups : List Group) → now ≡ old
    → AllByRecursion (λ group. group.test.option < old) groups
    → AllByRecursion (λ group. group.test.option < now) groups
options_kept old now groups same options = rw same options

pub open_kept : (old now : Diagram) (open_groups : List OpenGroup) → Keeps old now
    → AreOpen old open_groups → AreOpen now open_groups
open_kept old now open_groups keeps is = record {
  conds = conds_kept old now open_groups keeps is.conds;
  marked = is.marked;
  options =
      options_kept old.variables now.variables (groups_of open_groups) keeps.variables is.options;
}

-- a group's flag by the open groups, the outermost first
pub repeated_is : (open_groups : List OpenGroup) (option : ℕ) (negated : Bool)
    → list_any (λ one. has_literal option negated one.group) (reverse open_groups)
    ≡ list_any (has_literal option negated) (groups_of open_groups)
repeated_is open_groups option negated =
    list_any-reverse (λ (one : OpenGroup). has_literal option negated one.group) open_groups
    ∙ sym (list_any-map (has_literal option negated) (λ (one : OpenGroup). one.group) open_groups)

pub opened_is : (open_groups : List OpenGroup) (slice : List OpenGroup) (test : OptionTest)
    (repeated : Bool) → slice ≡ reverse open_groups
    → repeated ≡ list_any (λ one. has_literal test.option test.negated one.group) slice
    → ◌≡◌ {A = Group} (record { test = test; repeated = repeated })
    (opened (groups_of open_groups) test.option test.negated)
opened_is open_groups slice test repeated e is =
    let G : Bool → Group = λ told. record { test = test; repeated = told } in
    ap G (is ∙ ap (list_any (λ (one : OpenGroup). has_literal test.option test.negated one.group)) e
    ∙ repeated_is open_groups test.option test.negated)

pub entered : (old mid now : Diagram) (open_groups slice : List OpenGroup) (test : OptionTest)
    (has_else repeated : Bool) (outside own c : Cond)
    → AreOpen old open_groups → Keeps old mid → Keeps mid now
    → IsCondOf old (groups_of open_groups) outside
    → ((values : List Bool) → holds mid own values ≡ test_reads values test) → IsNode now c
    → ((values : List Bool) → holds now c values ≡ (holds mid outside values &&
    holds mid own values)) → test.option < old.variables
    → slice ≡ reverse open_groups
    → repeated ≡ list_any (λ one. has_literal test.option test.negated one.group) slice
    → AreOpen now (record
    { group = record { test = test; repeated = repeated }; has_else = has_else; cond = c } ∷
    open_groups)
entered old mid now open_groups slice test has_else repeated outside own c is first second out reads
    node both within e told =
    let outer = open_kept old now open_groups (Keeps-trans first second) is in
    let here : IsCondOf now (record { test = test; repeated = repeated } ∷ groups_of open_groups)
    c = record {
      node = node;
      meaning = λ values.
          both values ∙ ap (λ (b : Bool). b &&
          holds mid own values) (first.meaning outside out.node values ∙ out.meaning values)
          ∙ ap (λ (b : Bool). list_all (group_reads values) (groups_of open_groups) && b)
          (reads values)
          ∙ and_comm (list_all (group_reads values) (groups_of open_groups))
          (test_reads values test);
    } in
    let below : test.option < now.variables = rw (second.variables, first.variables) within in
    let flag : repeated ≡ list_any (has_literal test.option test.negated) (groups_of open_groups) =
    told ∙ ap (list_any (λ (one : OpenGroup). has_literal test.option test.negated one.group)) e
    ∙ repeated_is open_groups test.option test.negated in
    record {
      conds = (here, outer.conds);
      marked = (flag, outer.marked);
      options =
          (below, outer.options);
    }

------ open_first

pub too_many : (open_groups : List OpenGroup) (name : List ℕ) (rest : List SourceLine)
    → 256 ≤ length open_groups
    → is_nested (elses_of open_groups) (source.if_defined name ∷ rest) ≡ false
too_many open_groups name rest many =
    let more : 256 ≤ length (elses_of open_groups) =
    rw (length-map (λ (one : OpenGroup). one.has_else) open_groups) many in
    ap (λ (b : Bool). b && is_nested (false ∷ elses_of open_groups) rest)
    (not_below (length (elses_of open_groups)) more)
  where
    not_below : (n : ℕ) → 256 ≤ n → nat_lt n 256 ≡ false
    not_below n h = grind (arith, nat_tests)

pub one_more : (open_groups now : List OpenGroup) (name : List ℕ) (rest : List SourceLine)
    → length open_groups < 256 → elses_of now ≡ false ∷ elses_of open_groups
    → is_nested (elses_of open_groups) (source.if_defined name ∷ rest)
    ≡ is_nested (elses_of now) rest
one_more open_groups now name rest few e =
    let less : length (elses_of open_groups) < 256 =
    rw (length-map (λ (one : OpenGroup). one.has_else) open_groups) few in
    ap (λ (b : Bool). b && is_nested (false ∷ elses_of open_groups) rest)
    (below (length (elses_of open_groups)) less)
    ∙ ap (λ elses. is_nested elses rest) (sym e)
  where
    below : (n : ℕ) → n < 256 → nat_lt n 256 ≡ true
    below n h = grind (arith, nat_tests)

------ turn_group, follow_line

pub if_defined_nested : {E : Type 0} (r : Result Bool E) (line : BodyLine) (option : ℕ)
    (elses now : List Bool) → line ≡ IfDefined option
    → IfOk r (λ goes. (name : List ℕ) (rest : List SourceLine)
    → is_nested elses (source.if_defined name ∷ rest) ≡ cond goes (is_nested now rest) false)
    → IfOk r (λ goes. (names : List (List ℕ)) (rest : List SourceLine)
    → is_nested elses (plain names line ∷ rest) ≡ cond goes (is_nested now rest) false)
if_defined_nested (Err e) line option elses now is h = tt
if_defined_nested (Ok goes) line option elses now is h = λ names rest.
    ap (λ (l : BodyLine). is_nested elses (plain names l ∷ rest)) is ∙ h (name_at names option) rest

pub if_not_defined_nested : {E : Type 0} (r : Result Bool E) (line : BodyLine) (option : ℕ)
    (elses now : List Bool) → line ≡ IfNotDefined option
    → IfOk r (λ goes. (name : List ℕ) (rest : List SourceLine)
    → is_nested elses (source.if_defined name ∷ rest) ≡ cond goes (is_nested now rest) false)
    → IfOk r (λ goes. (names : List (List ℕ)) (rest : List SourceLine)
    → is_nested elses (plain names line ∷ rest) ≡ cond goes (is_nested now rest) false)
if_not_defined_nested (Err e) line option elses now is h = tt
if_not_defined_nested (Ok goes) line option elses now is h = λ names rest.
    ap (λ (l : BodyLine). is_nested elses (plain names l ∷ rest)) is ∙ h (name_at names option) rest

-- the groups outside the innermost
pub outer_open : (store : Diagram) (one : OpenGroup) (outer : List OpenGroup)
    → AreOpen store (one ∷ outer) → AreOpen store outer
outer_open store one outer is =
    record { conds = is.conds.1; marked = is.marked.1; options = is.options.1 }

pub innermost_option : (store : Diagram) (one : OpenGroup) (outer : List OpenGroup)
    → AreOpen store (one ∷ outer) → one.group.test.option < store.variables
innermost_option store one outer is = is.options.0
