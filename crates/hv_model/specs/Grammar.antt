-- The grammar of rules.
use Rattle.std.specs.Prelude.{ℕ, Bool, true, ◌&&◌, ◌+◌, ◌-◌, nat_lt, List, [], ◌∷◌, ◌++◌, IsTrue}
use Rattle.std.specs.List.{position_or_len}
use Rattle.std.specs.Str.{bytes_eq}
use Rattle.hv_model.specs.Name.{is_name}
use Rattle.hv_model.specs.Rule.{Rule, option, negation, conjunction, disjunction, implication}
use Rattle.hv_model.specs.Token.{Token, implies, either, both, negate, open_, close, word}
use Rattle.hv_model.specs.declared.parser.TheConstants.{MOST_NESTED}

-- EXPR, OR, AND and NOT
pub data Phrase : Type 0 where
  expr : Phrase
  or : Phrase
  and : Phrase
  not : Phrase

-- the number of the option of this name; a name of no option has the number after the last
abbrev pub place_of : List (List ℕ) → List ℕ → ℕ
place_of names name = position_or_len (bytes_eq name) names

-- these tokens are such a phrase, and say this rule; a constructor for each production
pub data Derives (names : List (List ℕ)) : Phrase → List Token → Rule → Type 0 where
  -- EXPR := OR
  expr_or : {ts : List Token} {r : Rule} → Derives names or ts r → Derives names expr ts r
  -- EXPR := OR => EXPR
  expr_implies : {ts us : List Token} {r s : Rule}
      → Derives names or ts r
      → Derives names expr us s
      → Derives names expr (ts ++ implies ∷ us) (implication r s)
  -- OR := AND
  or_and : {ts : List Token} {r : Rule} → Derives names and ts r → Derives names or ts r
  -- OR := OR || AND
  or_either : {ts us : List Token} {r s : Rule}
      → Derives names or ts r
      → Derives names and us s
      → Derives names or (ts ++ either ∷ us) (disjunction r s)
  -- AND := NOT
  and_not : {ts : List Token} {r : Rule} → Derives names not ts r → Derives names and ts r
  -- AND := AND && NOT
  and_both : {ts us : List Token} {r s : Rule}
      → Derives names and ts r
      → Derives names not us s
      → Derives names and (ts ++ both ∷ us) (conjunction r s)
  -- NOT := ! NOT
  not_negate : {ts : List Token} {r : Rule}
      → Derives names not ts r
      → Derives names not (negate ∷ ts) (negation r)
  -- NOT := ( EXPR )
  not_parens : {ts : List Token} {r : Rule}
      → Derives names expr ts r
      → Derives names not (open_ ∷ ts ++ close ∷ []) r
  -- NOT := NAME
  not_name : (name : List ℕ)
      → IsTrue (is_name name)
      → Derives names not (word name ∷ []) (option (place_of names name))

-- whether no more than 256 parentheses are open at once and no more than 256 `!` stand in a row,
-- after tokens that left so many
abbrev pub is_shallow : ℕ → ℕ → List Token → Bool
is_shallow opens negations [] = true
is_shallow opens negations (open_ ∷ tokens) = nat_lt opens MOST_NESTED
    && is_shallow (opens + 1) 0 tokens
is_shallow opens negations (close ∷ tokens) = is_shallow (opens - 1) 0 tokens
is_shallow opens negations (negate ∷ tokens) = nat_lt negations MOST_NESTED
    && is_shallow opens (negations + 1) tokens
is_shallow opens negations (_ ∷ tokens) = is_shallow opens 0 tokens

-- the tokens after `rule`, where the options have these names, say this rule
pub record IsRule (names : List (List ℕ)) (tokens : List Token) (r : Rule) : Type 0 where
  pub derived : Derives names expr tokens r
  pub shallow : IsTrue (is_shallow 0 0 tokens)
