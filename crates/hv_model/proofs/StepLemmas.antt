-- The code of rules.
use Rattle.std.proofs.Common.{◌≡◌, ℕ, zero, suc, ◌+◌, ◌<◌, ◌≤◌, Bool, true, false, ◌&&◌, ◌||◌, not, List, [], ◌∷◌, ◌++◌, refl, sym, ◌∙◌, ap, arith, length, take, get_or, map, add-one, inl, inr, length-append}
use Rattle.std.proofs.lemmas.Bool.{cases_lt}
use Rattle.std.proofs.lemmas.List.{take_more, take_all, take-append-le}
use Rattle.hv_base.proofs.Lists.{length-map}
use Rattle.std.proofs.lemmas.List.Sums.{fold-append}
use Rattle.hv_model.specs.Rule.{Rule, implication, meets}
use Rattle.hv_model.specs.working.Steps.{Item, value, premises, all_of, rule_in, concluded, after, items_of, rule_on, rule_of, values_after, top_of, IsLow, IsOperator, negated}
use Rattle.hv_model.specs.working.Machine.{negated_times}
use Rattle.hv_model.specs.declared.code.Step.{Step}
use Rattle.hv_model.specs.declared.code.Step.TheVariants.{Option, Not, And, Or, Suppose, SupposeToo, Conclude}

-- whether the rules on a stack are met
abbrev pub truths : List Bool → List Item → List Bool
truths values items = map (λ item. meets values (rule_in item)) items

not_and_or : (a b c : Bool) → (not a || (not b || c)) ≡ (not (a && b) || c)
not_and_or true b c = refl
not_and_or false b c = refl

concluded-meets : (values : List Bool) (last : Rule) (earlier : List Rule) (s : Rule)
    → meets values (concluded last earlier s)
    ≡ (not (meets values (all_of last earlier)) || meets values s)
concluded-meets values last [] s = refl
concluded-meets values last (before ∷ earlier) s =
    concluded-meets values before earlier (implication last s)
    ∙ not_and_or (meets values (all_of before earlier)) (meets values last) (meets values s)

pub truths-after : (values : List Bool) (items : List Item) (step : Step)
    → truths values (after items step) ≡ values_after values (truths values items) step
truths-after values items (Option i) = refl
truths-after values [] Not = refl
truths-after values (r ∷ items) Not = refl
truths-after values [] And = refl
truths-after values (s ∷ []) And = refl
truths-after values (s ∷ r ∷ items) And = refl
truths-after values [] Or = refl
truths-after values (s ∷ []) Or = refl
truths-after values (s ∷ r ∷ items) Or = refl
truths-after values [] Suppose = refl
truths-after values (r ∷ items) Suppose = refl
truths-after values [] SupposeToo = refl
truths-after values (s ∷ []) SupposeToo = refl
truths-after values (s ∷ value r ∷ items) SupposeToo = refl
truths-after values (s ∷ premises last earlier ∷ items) SupposeToo = refl
truths-after values [] Conclude = refl
truths-after values (s ∷ []) Conclude = refl
truths-after values (s ∷ value r ∷ items) Conclude = refl
truths-after values (s ∷ premises last earlier ∷ items) Conclude =
    ap (λ b. b ∷ truths values items) (concluded-meets values last earlier (rule_in s))

never : (b : Bool) → (b && not b) ≡ false
never true = refl
never false = refl

pub top_of-truths : (values : List Bool) (items : List Item)
    → top_of (truths values items) ≡ meets values (rule_on items)
top_of-truths values [] = sym (never _)
top_of-truths values (item ∷ items) = refl

pub items_of-push : (steps : List Step) (step : Step)
    → items_of (steps ++ step ∷ []) ≡ after (items_of steps) step
items_of-push steps step = fold-append after [] steps (step ∷ [])

pub items_of-more : (steps : List Step) (k : ℕ) (d : Step) → k < length steps
    → items_of (take (k + 1) steps) ≡ after (items_of (take k steps)) (get_or steps k d)
items_of-more steps k d h = ap items_of (take_more steps k d h)
    ∙ items_of-push (take k steps) (get_or steps k d)

pub values-more : (values stack : List Bool) (steps : List Step) (k : ℕ) (d : Step)
    → k < length steps → stack ≡ truths values (items_of (take k steps))
    → values_after values stack (get_or steps k d) ≡ truths values (items_of (take (k + 1) steps))
values-more values stack steps k d h e =
    ap (λ s. values_after values s (get_or steps k d)) e
    ∙ (sym (truths-after values (items_of (take k steps)) (get_or steps k d))
    ∙ ap (truths values) (sym (items_of-more steps k d h)))

pub values-low : (values stack : List Bool) (steps : List Step) (k : ℕ) (d : Step)
    → k < length steps → stack ≡ truths values (items_of (take k steps)) → IsLow steps
    → length (values_after values stack (get_or steps k d)) ≤ 1024
values-low values stack steps k d h e low =
    omega (
      arith,
      ap length (values-more values stack steps k d h e),
      length-map
          (λ item. meets values (rule_in item)) (items_of (take (k + 1) steps)),
      low (k + 1),
    )

pub values-all : (values stack : List Bool) (steps : List Step) (k : ℕ) → length steps ≤ k
    → stack ≡ truths values (items_of (take k steps)) → top_of stack ≡ meets values (rule_of steps)
values-all values stack steps k h e = ap top_of e
    ∙ (top_of-truths values (items_of (take k steps))
    ∙ ap (λ s. meets values (rule_of s)) (take_all k steps h))

-- a step more on a low stack
pub IsLow-push : (steps : List Step) (step : Step) → IsLow steps
    → length (after (items_of steps) step) ≤ 1024 → IsLow (steps ++ step ∷ [])
IsLow-push steps step low h = λ k.
    elim (cases_lt (length steps) k) [
      | inl past ↦ omega (
        arith,
        ap (λ s. length (items_of s))
            (take_all k (steps ++ step ∷ []) (omega (arith, length-append steps (step ∷ [])))),
        ap length
            (items_of-push steps step),
      )
      | inr within ↦ omega (
        arith,
        ap (λ s. length (items_of s))
            (take-append-le k steps (step ∷ []) within),
        low k,
      )
    ]

after-operator : (items : List Item) (step : Step) → IsOperator step
    → length (after items step) ≤ length items
after-operator items (Option i) h = absurd h
after-operator [] Not h = omega arith
after-operator (r ∷ items) Not h = omega arith
after-operator [] And h = omega arith
after-operator (s ∷ []) And h = omega arith
after-operator (s ∷ r ∷ items) And h = omega arith
after-operator [] Or h = omega arith
after-operator (s ∷ []) Or h = omega arith
after-operator (s ∷ r ∷ items) Or h = omega arith
after-operator [] Suppose h = omega arith
after-operator (r ∷ items) Suppose h = omega arith
after-operator [] SupposeToo h = omega arith
after-operator (s ∷ []) SupposeToo h = omega arith
after-operator (s ∷ r ∷ items) SupposeToo h = omega arith
after-operator [] Conclude h = omega arith
after-operator (s ∷ []) Conclude h = omega arith
after-operator (s ∷ r ∷ items) Conclude h = omega arith

-- a step that puts no option on the stack leaves it low
pub operator-low : (steps : List Step) (step : Step) → IsLow steps → IsOperator step
    → length (after (items_of steps) step) ≤ 1024
operator-low steps step low h =
    omega (
      arith,
      after-operator (items_of steps) step h,
      low (length steps),
      ap
          (λ s. length (items_of s)) (take_all (length steps) steps (omega arith)),
    )

pub negated_times-after : (n : ℕ) (items : List Item)
    → negated (negated_times n items) ≡ negated_times (n + 1) items
negated_times-after zero items = refl
negated_times-after (suc n) items = negated_times-after n (negated items)
    ∙ (ap (λ k. negated_times k (negated items)) (add-one n)
    ∙ sym (ap (λ k. negated_times k items) (add-one (suc n))))
