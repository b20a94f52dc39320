-- What tokens derive within the limits, and the first refusal where they derive nothing: it stands
-- at the first token that no derivation can have after the tokens before it, and says whether it
-- can't be derived there or is too deep. The limits bind the tokens read so far, never those that
-- could follow. All of it is for any grammar: `Whole ts` says that marked tokens are read whole,
-- and `seen` is what a token shows of its marks.
use Rattle.std.specs.Prelude.{◌≡◌, ℕ, suc, ◌*◌, ◌≤◌, List, [], ◌∷◌, ◌++◌, map, length}
use Rattle.hv_base.specs.declared.limits.TheConstants.{MOST_BRACKETS, MOST_OPERATORS, MOST_STATEMENTS}
use Rattle.hv_base.specs.declared.why.Why.{Why}
use Rattle.hv_base.specs.declared.why.Why.TheVariants.{Syntax, TooDeep}
use Rattle.hv_grammar.specs.Symbols.{Token, Role, outside, inside, operator, Marked}

-- how many brackets and prefixes may be open, how many operators an expression that stands in no
-- other may have, and how many statements may be open
pub record Limits : Type 0 where
  pub brackets : ℕ
  pub operators : ℕ
  pub statements : ℕ

-- the limits on a source
abbrev pub source_limits : Limits
source_limits =
    record { brackets = MOST_BRACKETS; operators = MOST_OPERATORS; statements = MOST_STATEMENTS }

-- the limits on a program that was printed, since tests and guards stand round what a source has
abbrev pub printed_limits : Limits
printed_limits =
    record {
      brackets = 8 * MOST_BRACKETS;
      operators = 8 * MOST_OPERATORS;
      statements =
          8 * MOST_STATEMENTS;
    }

-- the operators up to a token and with it, in the expression that stands in no other; n are before
-- it
abbrev pub operators_with : ℕ → Role → ℕ
operators_with n outside = 0
operators_with n inside = n
operators_with n operator = suc n

-- after n operators these tokens keep the limits
abbrev pub KeepsLimits : Limits → ℕ → List Marked → Type 0
KeepsLimits l n [] = Unit {0}
KeepsLimits l n (t ∷ ts) = (t.depth ≤ l.brackets) × (t.statements ≤ l.statements)
    × (operators_with n t.role ≤ l.operators) × KeepsLimits l (operators_with n t.role) ts

-- marks exist with which the tokens are read whole, within the limits
pub record Derives (l : Limits) (seen : Marked → Token) (Whole : List Marked
    → Type 0) (ts : List Token) : Type 0 where
  pub first : List Marked
  pub tokens : map seen first ≡ ts
  pub whole : Whole first
  pub limits : KeepsLimits l 0 first

-- what is read whole can begin with the tokens, whatever its depths
pub record Begins (seen : Marked → Token) (Whole : List Marked
    → Type 0) (ts : List Token) : Type 0 where
  pub first : List Marked
  pub rest : List Marked
  pub tokens : map seen first ≡ ts
  pub whole : Whole (first ++ rest)

-- the same, and the tokens themselves keep the limits
pub record BeginsWithin (l : Limits) (seen : Marked → Token) (Whole : List Marked
    → Type 0) (ts : List Token) : Type 0 where
  pub first : List Marked
  pub rest : List Marked
  pub tokens : map seen first ≡ ts
  pub whole : Whole (first ++ rest)
  pub limits : KeepsLimits l 0 first

-- the first refusal of the tokens, at the token of the index, or at their number where they end too
-- early
pub data Refuses (l : Limits) (seen : Marked → Token) (Whole : List Marked → Type 0) : List Token
    → ℕ → Why → Type 0 where
  -- nothing begins so
  wrong : (before rest : List Token) (t : Token) → BeginsWithin l seen Whole before
      → (Begins seen Whole (before ++ t ∷ []) → ⊥)
      → Refuses l seen Whole (before ++ t ∷ rest) (length before) Syntax
  -- something begins so, but nothing within the limits
  deep : (before rest : List Token) (t : Token) → BeginsWithin l seen Whole before
      → Begins seen Whole (before ++ t ∷ [])
      → (BeginsWithin l seen Whole (before ++ t ∷ []) → ⊥)
      → Refuses l seen Whole (before ++ t ∷ rest) (length before) TooDeep
  -- the tokens end too early
  early : (ts : List Token) → BeginsWithin l seen Whole ts → (Derives l seen Whole ts → ⊥)
      → Refuses l seen Whole ts (length ts) Syntax
