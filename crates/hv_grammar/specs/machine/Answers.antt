-- What the machine answers to whole lists of tokens.
use Rattle.std.specs.Prelude.{ℕ, suc, Bool, true, false, cond, nat_le, List, [], ◌∷◌, Option, Some, None}
use Rattle.hv_base.specs.declared.why.Why.{Why}
use Rattle.hv_base.specs.declared.why.Why.TheVariants.{Syntax, TooDeep}
use Rattle.hv_ctree.specs.tree.Expressions.{Expr}
use Rattle.hv_ctree.specs.tree.Statements.{Skeleton}
use Rattle.hv_grammar.specs.Symbols.{Token}
use Rattle.hv_grammar.specs.Elements.{Standing}
use Rattle.hv_grammar.specs.Refusal.{Limits, operators_with}
use Rattle.hv_grammar.specs.machine.Frames.{State}
use Rattle.hv_grammar.specs.machine.Steps.{Taken, step, finished, begin, finished_element}

-- the tree of the tokens, or the index of the first refusal and its cause
pub data AnswerOf (T : Type 0) : Type 0 where
  Accepted : T → AnswerOf T
  Refused : ℕ → Why → AnswerOf T

-- the answer to an expression
abbrev pub Answer : Type 0
Answer = AnswerOf Expr

-- the operators before a token, where the `(` before it may count too
abbrev pub operators_before : ℕ → Bool → ℕ
operators_before n false = n
operators_before n true = suc n

-- the operators up to a token that was taken and with it
abbrev pub operators_after : ℕ → Taken → ℕ
operators_after n k = operators_with (operators_before n k.late) k.role

-- whether the token keeps the limits, and the `(` before it, where that counts
abbrev pub keeps : Limits → ℕ → Taken → Bool
keeps l n k =
    cond (nat_le k.depth l.brackets)
    (cond (nat_le (operators_before n k.late) l.operators)
    (nat_le (operators_after n k) l.operators) false) false

-- the answer where the tokens end, after so many
abbrev pub at_end : {T : Type 0} → ℕ → Option T → AnswerOf T
at_end i None = Refused i Syntax
at_end i (Some a) = Accepted a

-- what the machine answers, after n operators and i tokens, where the first argument gives the tree
-- that it may end with
abbrev pub answers : {T : Type 0} → (State → Option T) → Limits → State → ℕ → ℕ → List Token
    → AnswerOf T
answers f l m n i [] = at_end i (f m)
answers f l m n i (t ∷ ts) = elim (step m t) [
  | None ↦ Refused i Syntax
  | Some k ↦ cond (keeps l n k) (answers f l k.state (operators_after n k) (suc i) ts)
      (Refused i TooDeep)
]

-- what it answers of an expression
abbrev pub answer : Limits → State → ℕ → ℕ → List Token → Answer
answer l m n i ts = answers finished l m n i ts

-- what it answers of an element's own tokens
abbrev pub element_answer : Limits → Standing → List Token → AnswerOf Skeleton
element_answer l s ts = answers finished_element l (begin s) 0 0 ts
