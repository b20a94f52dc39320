-- The longest of the five categories, by their lengths.
use Rattle.std.proofs.Common.{◌≡◌, ℕ, ◌<◌, ◌≤◌, true, false, refl, arith}
use Rattle.std.specs.Prelude.{nat_lt}
use Rattle.std.proofs.lemmas.Bool.Decides.{nat_tests}
use Rattle.hv_toks.specs.declared.prefix.Match.{Match}
use Rattle.hv_toks.specs.declared.token.PpKind.TheVariants.{Identifier, Number, CharConstant, StringLiteral, Punctuator}
use Rattle.hv_toks.specs.Cutting.{found, longer}
use Rattle.hv_lexer.proofs.PrefixCases.{longer-within}

abbrev pub best : (i n c s p : ℕ) → Match
best i n c s p =
    longer (found Identifier i) (longer (found Number n)
    (longer (found CharConstant c) (longer (found StringLiteral s) (found Punctuator p))))

less-no : (a b : ℕ) → b ≤ a → nat_lt a b ≡ false
less-no a b h = grind (arith, nat_tests)

less-yes : (a b : ℕ) → a < b → nat_lt a b ≡ true
less-yes a b h = grind (arith, nat_tests)

first : (a b : Match) → b.len ≤ a.len → longer a b ≡ a
first a b h = rw (less-no a.len b.len h) refl

second : (a b : Match) → a.len < b.len → longer a b ≡ b
second a b h = rw (less-yes a.len b.len h) refl

module _ (i n c s p k : ℕ) where
  pub choose-identifier : i ≡ k → n ≤ k → c ≤ k → s ≤ k → p ≤ k
      → best i n c s p ≡ found Identifier k
  choose-identifier e hn hc hs hp =
      rw e (first (found Identifier k) _
      (longer-within _ _ k hn (longer-within _ _ k hc (longer-within _ _ k hs hp))))

  pub choose-number : i < k → n ≡ k → c ≤ k → s ≤ k → p ≤ k → best i n c s p ≡ found Number k
  choose-number hi e hc hs hp =
      rw (
        e,
        first (found Number k)
            (longer (found CharConstant c) (longer (found StringLiteral s) (found Punctuator p)))
            (longer-within _ _ k hc (longer-within _ _ k hs hp)),
      )
      (second (found Identifier i) (found Number k) hi)

  pub choose-char : i < k → n < k → c ≡ k → s ≤ k → p ≤ k → best i n c s p ≡ found CharConstant k
  choose-char hi hn e hs hp =
      rw (
        e,
        first (found CharConstant k) (longer (found StringLiteral s) (found Punctuator p))
            (longer-within _ _ k hs hp),
        second (found Number n) (found CharConstant k) hn,
      )
      (second (found Identifier i) (found CharConstant k) hi)

  pub choose-string : i < k → n < k → c < k → s ≡ k → p ≤ k → best i n c s p ≡ found StringLiteral k
  choose-string hi hn hc e hp =
      rw (
        e,
        first (found StringLiteral k) (found Punctuator p) hp,
        second (found CharConstant c) (found StringLiteral k) hc,
        second (found Number n) (found StringLiteral k) hn,
      ) (second (found Identifier i) (found StringLiteral k) hi)

  pub choose-punctuator : i < k → n < k → c < k → s < k → p ≡ k
      → best i n c s p ≡ found Punctuator k
  choose-punctuator hi hn hc hs e =
      rw (
        e,
        second (found StringLiteral s) (found Punctuator k) hs,
        second (found CharConstant c) (found Punctuator k) hc,
        second (found Number n) (found Punctuator k) hn,
      ) (second (found Identifier i) (found Punctuator k) hi)
