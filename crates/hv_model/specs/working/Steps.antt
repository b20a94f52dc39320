-- A rule as code for a machine with a stack, and what the code says.
use Rattle.std.specs.Prelude.{ℕ, ◌≤◌, Bool, true, false, ◌&&◌, ◌||◌, not, nat_lt, List, [], ◌∷◌, fold, take, length, All, IsTrue}
use Rattle.std.specs.List.{list_all, slice_index_or}
use Rattle.hv_model.specs.Rule.{Rule, option, negation, conjunction, disjunction, implication}
use Rattle.hv_model.specs.declared.code.Step.{Step}
use Rattle.hv_model.specs.declared.truths.TheConstants.{ROOM}
use Rattle.hv_model.specs.declared.code.Step.TheVariants.{Option, Not, And, Or, Suppose, SupposeToo, Conclude}

-- what stands on the stack: a rule, or the premises of an implication that is not ended, the last
-- first
pub data Item : Type 0 where
  value : Rule → Item
  premises : Rule → List Rule → Item

-- premises taken together
abbrev pub all_of : Rule → List Rule → Rule
all_of last [] = last
all_of last (before ∷ earlier) = conjunction (all_of before earlier) last

-- the rule that an item is; premises are taken together
abbrev pub rule_in : Item → Rule
rule_in (value r) = r
rule_in (premises last earlier) = all_of last earlier

-- the implication from these premises, the last first
abbrev pub concluded : Rule → List Rule → Rule → Rule
concluded last [] r = implication last r
concluded last (before ∷ earlier) r = concluded before earlier (implication last r)

-- the implication from an item
abbrev pub implied : Item → Rule → Rule
implied (value r) s = implication r s
implied (premises last earlier) s = concluded last earlier s

-- a further premise
abbrev pub added : Item → Rule → Item
added (value r) s = premises s (r ∷ [])
added (premises last earlier) s = premises s (last ∷ earlier)

-- the last two items as a conjunction
abbrev pub conjoined : List Item → List Item
conjoined (s ∷ r ∷ items) = value (conjunction (rule_in r) (rule_in s)) ∷ items
conjoined items = items

-- the last two items as a disjunction
abbrev pub disjoined : List Item → List Item
disjoined (s ∷ r ∷ items) = value (disjunction (rule_in r) (rule_in s)) ∷ items
disjoined items = items

-- the last item negated
abbrev pub negated : List Item → List Item
negated (r ∷ items) = value (negation (rule_in r)) ∷ items
negated items = items

-- the last item as the first premise of an implication
abbrev pub supposed : List Item → List Item
supposed (r ∷ items) = premises (rule_in r) [] ∷ items
supposed items = items

-- the last item as a further premise of the one before
abbrev pub supposed_too : List Item → List Item
supposed_too (s ∷ r ∷ items) = added r (rule_in s) ∷ items
supposed_too items = items

-- the last item as what follows from the premises before it
abbrev pub closed : List Item → List Item
closed (s ∷ r ∷ items) = value (implied r (rule_in s)) ∷ items
closed items = items

-- what a step makes of the stack
abbrev pub after : List Item → Step → List Item
after items (Option i) = value (option i) ∷ items
after items Not = negated items
after items And = conjoined items
after items Or = disjoined items
after items Suppose = supposed items
after items SupposeToo = supposed_too items
after items Conclude = closed items

-- what the code leaves on the stack
abbrev pub items_of : List Step → List Item
items_of steps = fold after [] steps

-- the rule on a stack; an empty one says what never holds
abbrev pub rule_on : List Item → Rule
rule_on [] = conjunction (option 0) (negation (option 0))
rule_on (item ∷ _) = rule_in item

-- the rule that the code says
abbrev pub rule_of : List Step → Rule
rule_of steps = rule_on (items_of steps)

-- whether a step speaks of the first so many options only
abbrev pub fits : ℕ → Step → Bool
fits n (Option i) = nat_lt i n
fits n _ = true

-- each rule speaks only of the first so many options
abbrev pub AllFit : ℕ → List (List Step) → Type 0
AllFit n rules = All (λ steps. IsTrue (list_all (fits n) steps)) rules

-- a step that puts no option on the stack
abbrev pub IsOperator : Step → Type 0
IsOperator (Option i) = ⊥
IsOperator _ = Unit {0}

-- the stack never has more items than there is room for
abbrev pub IsLow : List Step → Type 0
IsLow steps = (k : ℕ) → length (items_of (take k steps)) ≤ ROOM

-- the last two values as a conjunction
abbrev pub both_of : List Bool → List Bool
both_of (w ∷ v ∷ stack) = (v && w) ∷ stack
both_of stack = stack

-- the last two values as a disjunction
abbrev pub either_of : List Bool → List Bool
either_of (w ∷ v ∷ stack) = (v || w) ∷ stack
either_of stack = stack

-- the last two values as an implication
abbrev pub implied_of : List Bool → List Bool
implied_of (w ∷ v ∷ stack) = (not v || w) ∷ stack
implied_of stack = stack

-- the last value negated
abbrev pub opposite_of : List Bool → List Bool
opposite_of (v ∷ stack) = not v ∷ stack
opposite_of stack = stack

-- what a step makes of a stack of truth values, where the options have these values
abbrev pub values_after : List Bool → List Bool → Step → List Bool
values_after values stack (Option i) = slice_index_or values i false ∷ stack
values_after values stack Not = opposite_of stack
values_after values stack And = both_of stack
values_after values stack Or = either_of stack
values_after values stack Suppose = stack
values_after values stack SupposeToo = both_of stack
values_after values stack Conclude = implied_of stack

-- the last value; false where there is none
abbrev pub top_of : List Bool → Bool
top_of [] = false
top_of (v ∷ _) = v
