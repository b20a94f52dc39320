-- The punctuators that files are cut into are those of the table of spellings.
use Rattle.std.proofs.Common.{◌≡◌, ℕ, Bool, true, List, [], ◌∷◌, refl, sym, ◌∙◌, inl, inr, Option, Some, arith}
use Rattle.std.specs.Prelude.{◌==◌, ◌||◌, codes, is_some, IfSome}
use Rattle.std.specs.List.{list_all, list_any}
use Rattle.std.specs.Str.{bytes_eq}
use Rattle.std.proofs.lemmas.Bool.Decides.{nat_tests}
use Rattle.std.proofs.lemmas.Slice.Eq.{bytes_eq-Decides}
use Rattle.hv_base.specs.Puncts.{punct_of, spelling_of}
use Rattle.hv_base.specs.declared.punct.Punct.{Punct}
use Rattle.hv_base.specs.declared.punct.Punct.TheVariants.{LeftBracket, RightBracket, LeftParenthesis, RightParenthesis, LeftBrace, RightBrace, Dot, Arrow, PlusPlus, MinusMinus, And, Star, Plus, Minus, Tilde, Not, Slash, Percent, LeftShift, RightShift, Less, Greater, LessEqual, GreaterEqual, EqualEqual, NotEqual, Caret, Or, AndAnd, OrOr, Question, Colon, Semicolon, Ellipsis, Equal, StarEqual, SlashEqual, PercentEqual, PlusEqual, MinusEqual, LeftShiftEqual, RightShiftEqual, AndEqual, CaretEqual, OrEqual, Comma, Hash, HashHash}
use Rattle.hv_toks.specs.Cutting.{whole_token}
use Rattle.hv_toks.specs.Lexical.{is_punctuator, pairs, triples}
use Rattle.hv_toks.specs.declared.token.PpKind.{PpKind}
use Rattle.hv_toks.specs.declared.token.PpKind.TheVariants.{Punctuator}
use Rattle.hv_lexer.proofs.Spellings.{either, left, right}
use Rattle.hv_lexer.proofs.WholeToken.{whole-longest}

------ from the table

pub one_token : (sign : Punct) → whole_token (spelling_of sign) ≡ Some Punctuator
one_token LeftBracket = refl
one_token RightBracket = refl
one_token LeftParenthesis = refl
one_token RightParenthesis = refl
one_token LeftBrace = refl
one_token RightBrace = refl
one_token Dot = refl
one_token Arrow = refl
one_token PlusPlus = refl
one_token MinusMinus = refl
one_token And = refl
one_token Star = refl
one_token Plus = refl
one_token Minus = refl
one_token Tilde = refl
one_token Not = refl
one_token Slash = refl
one_token Percent = refl
one_token LeftShift = refl
one_token RightShift = refl
one_token Less = refl
one_token Greater = refl
one_token LessEqual = refl
one_token GreaterEqual = refl
one_token EqualEqual = refl
one_token NotEqual = refl
one_token Caret = refl
one_token Or = refl
one_token AndAnd = refl
one_token OrOr = refl
one_token Question = refl
one_token Colon = refl
one_token Semicolon = refl
one_token Ellipsis = refl
one_token Equal = refl
one_token StarEqual = refl
one_token SlashEqual = refl
one_token PercentEqual = refl
one_token PlusEqual = refl
one_token MinusEqual = refl
one_token LeftShiftEqual = refl
one_token RightShiftEqual = refl
one_token AndEqual = refl
one_token CaretEqual = refl
one_token OrEqual = refl
one_token Comma = refl
one_token Hash = refl
one_token HashHash = refl

------ to the table

module _ (t : List ℕ → Bool) where
  among : (a : List ℕ) (table : List (List ℕ)) → list_any (bytes_eq a) table ≡ true
      → list_all t table ≡ true → t a ≡ true
  among a [] e f = absurd (cc)
  among a (y ∷ table) e f = elim (either (bytes_eq a y) (list_any (bytes_eq a) table) e) [
    | inl g ↦ let s : a ≡ y = grind (arith, bytes_eq-Decides) in
        rw s (left (t y) (list_all t table) f)
    | inr g ↦ among a table g (right (t y) (list_all t table) f)
  ]

  among_bytes : (a : ℕ) (table : List ℕ) → list_any (λ byte. a == byte) table ≡ true
      → list_all (λ byte. t (byte ∷ [])) table ≡ true → t (a ∷ []) ≡ true
  among_bytes a [] e f = absurd (cc)
  among_bytes a (y ∷ table) e f = elim (either (a == y) (list_any (λ byte. a == byte) table) e) [
    | inl g ↦ let s : a ≡ y = grind (arith, nat_tests) in
        rw s (left (t (y ∷ [])) (list_all (λ byte. t (byte ∷ [])) table) f)
    | inr g ↦ among_bytes a table g (right (t (y ∷ [])) (list_all (λ byte. t (byte ∷ [])) table) f)
  ]

abbrev known : List ℕ → Bool
known text = is_some (punct_of text)

is_known : (text : List ℕ) → is_punctuator text ≡ true → known text ≡ true
is_known [] e = absurd (cc)
is_known (a ∷ []) e = among_bytes known a (codes "[](){}.&*+-~!/%<>^|?:;=,#") e refl
is_known (a ∷ b ∷ []) e = among known (a ∷ b ∷ []) pairs e refl
is_known (a ∷ b ∷ c ∷ []) e = among known (a ∷ b ∷ c ∷ []) triples e refl
is_known (_ ∷ _ ∷ _ ∷ _ ∷ _) e = absurd (cc)

spelled : (text : List ℕ) (kind : Option PpKind) → kind ≡ whole_token text → kind ≡ Some Punctuator
    → is_punctuator text ≡ true
spelled text kind e f = let whole = whole-longest text in (rw (sym e ∙ f) at whole).0

pub in_table : (text : List ℕ) (kind : Option PpKind) → kind ≡ whole_token text
    → kind ≡ Some Punctuator → known text ≡ true
in_table text kind e f = is_known text (spelled text kind e f)
