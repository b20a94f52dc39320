-- A text that is one token.
use Rattle.std.proofs.Common.{◌≡◌, ℕ, zero, suc, ◌&&◌, ◌||◌, Bool, true, false, cond, List, [], ◌∷◌, refl, sym, ◌∙◌, ap, arith, length, take, drop, Option, Some, None}
use Rattle.std.specs.Prelude.{◌==◌, IfSome}
use Rattle.std.specs.List.{list_any}
use Rattle.std.proofs.Math.Seq.{take-length, drop-length}
use Rattle.std.proofs.lemmas.Bool.Decides.{nat_tests}
use Rattle.hv_toks.specs.declared.prefix.LinePrefix.TheVariants.{Rest}
use Rattle.hv_toks.specs.declared.prefix.Match.{Match}
use Rattle.hv_toks.specs.declared.prefix.Prefix.{Prefix}
use Rattle.hv_toks.specs.declared.prefix.Prefix.TheVariants.{End, WhiteSpace, Newline, Comment, OpenComment, Token}
use Rattle.hv_toks.specs.declared.token.PpKind.{PpKind}
use Rattle.hv_toks.specs.Cutting.{prefix, whole_kind, whole_token}
use Rattle.hv_toks.specs.Splices.{splice_len, spliced}
use Rattle.hv_lexer.specs.Laws.{IsLongestToken}
use Rattle.hv_lexer.proofs.ByteTests.{never_both}
use Rattle.hv_lexer.proofs.LongestTokens.{prefix-longest}
use Rattle.hv_lexer.proofs.Unspliced.{IsUnspliced, spliced_same}

------ a text without newlines has no splices

abbrev pub has_newline : List ℕ → Bool
has_newline text = list_any (λ byte. byte == 10) text

first_of : (a b : Bool) → (a || b) ≡ false → a ≡ false
first_of true b e = absurd (cc)
first_of false b e = refl

rest_of : (a b : Bool) → (a || b) ≡ false → b ≡ false
rest_of true b e = absurd (cc)
rest_of false b e = e

turned : (c : ℕ) → (c == 10) ≡ false → (10 == c) ≡ false
turned c e = grind (arith, nat_tests)

no_splice : (b : ℕ) (bytes : List ℕ) → has_newline bytes ≡ false → splice_len (b ∷ bytes) ≡ 0
no_splice b [] e = simp never_both
no_splice b (c ∷ []) e =
    let f : (10 == c) ≡ false = turned c (first_of (c == 10) (has_newline []) e) in
    rw f (simp never_both)
no_splice b (c ∷ d ∷ bytes) e =
    let f : (10 == c) ≡ false = turned c (first_of (c == 10) (has_newline (d ∷ bytes)) e) in
    let g : (10 == d) ≡ false =
    turned d (first_of (d == 10) (has_newline bytes)
    (rest_of (c == 10) (has_newline (d ∷ bytes)) e)) in
    rw (f, g) (simp never_both)

unspliced : (text : List ℕ) → has_newline text ≡ false → IsUnspliced text
unspliced [] e = tt
unspliced (b ∷ bytes) e =
    let more : has_newline bytes ≡ false = rest_of (b == 10) (has_newline bytes) e in
    (no_splice b bytes more, unspliced bytes more)

pub spliced_text : (text : List ℕ) → has_newline text ≡ false → spliced text ≡ text
spliced_text text e = spliced_same text (unspliced text e)

------ whole_token

same_len : (a b : ℕ) → (a == b) ≡ true → a ≡ b
same_len a b e = grind (arith, nat_tests)

longest_at : (text : List ℕ) (m : Match) → prefix Rest text ≡ Token m → m.len ≡ length text
    → IsLongestToken m.kind text []
longest_at text m e len =
    rw (len, take-length text, drop-length text) at (prefix-longest Rest text m e)

by_kind : (text : List ℕ) (p : Prefix) → prefix Rest text ≡ p
    → IfSome (whole_kind (length text) p) (λ kind. IsLongestToken kind text [])
by_kind text End e = tt
by_kind text WhiteSpace e = tt
by_kind text Newline e = tt
by_kind text (Comment n) e = tt
by_kind text OpenComment e = tt
by_kind text (Token m) e =
    elim (m.len == length text) as (λ t. (m.len == length text) ≡ t
    → IfSome (cond t (Some m.kind) None) (λ kind. IsLongestToken kind text [])) [
      | true ↦ λ same. longest_at text m e (same_len _ _ same)
      | false ↦ λ other. tt
    ] refl

-- what is one token is the longest one
pub whole-longest : (text : List ℕ)
    → IfSome (whole_token text) (λ kind. IsLongestToken kind text [])
whole-longest text =
    elim (has_newline text) as (λ t. IfSome
    (cond t None (whole_kind (length text) (prefix Rest text)))
    (λ kind. IsLongestToken kind text [])) [
      | true ↦ tt
      | false ↦ by_kind text (prefix Rest text) refl
    ]

------ the call

module _ (text : List ℕ) (newline : Bool) (has : newline ≡ has_newline text) where
  pub whole-newline : newline ≡ true → None ≡ whole_token text
  whole-newline e = let h : has_newline text ≡ true = sym has ∙ e in rw h refl

  pub whole-here : (left : List ℕ) (p : Prefix) (len : ℕ) (kind : Option PpKind) → newline ≡ false
      → left ≡ spliced text → p ≡ prefix Rest left
      → len ≡ length text → kind ≡ whole_kind len p → kind ≡ whole_token text
  whole-here left p len kind e was is size f =
      let h : has_newline text ≡ false = sym has ∙ e in
      let same : left ≡ text = was ∙ spliced_text text h in
      rw (f, size, is, same, h) refl

pub longest-of : (text : List ℕ) (kind : Option PpKind) → kind ≡ whole_token text
    → IfSome kind (λ k. IsLongestToken k text [])
longest-of text kind e = rw e (whole-longest text)
