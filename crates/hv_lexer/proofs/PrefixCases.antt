-- What a text begins with, case by case.
use Rattle.std.proofs.Common.{◌≡◌, ℕ, zero, suc, ◌+◌, ◌<◌, ◌≤◌, Bool, true, false, List, [], ◌∷◌, cond, refl, arith, length, drop}
use Rattle.std.specs.Prelude.{nat_eq, nat_lt, ◌==◌, ◌&&◌, ◌||◌, codes}
use Rattle.std.specs.List.{starts_with}
use Rattle.std.proofs.lemmas.Bool.Decides.{nat_tests}
use Rattle.hv_base.specs.Ascii.{is_line_space}
use Rattle.hv_toks.specs.declared.prefix.Prefix.{Prefix}
use Rattle.hv_toks.specs.declared.prefix.Prefix.TheVariants.{WhiteSpace, Newline, Comment, OpenComment, Token}
use Rattle.hv_toks.specs.declared.prefix.LinePrefix.{LinePrefix}
use Rattle.hv_toks.specs.declared.prefix.Match.{Match}
use Rattle.hv_toks.specs.declared.token.PpKind.TheVariants.{HeaderName}
use Rattle.hv_lexer.proofs.LongestLemmas.{shift}
use Rattle.hv_toks.specs.Lexical.{longest, is_identifier, is_number, is_char_constant, is_string_literal, is_header_name, is_punctuator}
use Rattle.hv_toks.specs.Cutting.{prefix, found, is_include, line_len, closing_len, longer, longest_token, other, token_at, ends_line}

pub data View (line : LinePrefix) (byte : ℕ) (bytes : List ℕ) : Prefix → Type 0 where
  view_newline : (byte == 10) ≡ true → View line byte bytes Newline
  view_white : is_line_space byte ≡ true → View line byte bytes WhiteSpace
  view_line : starts_with nat_eq (byte ∷ bytes) (codes "//") ≡ true
      → View line byte bytes (Comment (line_len (byte ∷ bytes)))
  view_open : View line byte bytes OpenComment
  view_block : (n : ℕ) → starts_with nat_eq (byte ∷ bytes) (codes "/*") ≡ true
      → closing_len (drop 2 (byte ∷ bytes)) ≡ suc n
      → View line byte bytes (Comment (2 + suc n))
  view_token : View line byte bytes (Token (token_at line (byte ∷ bytes)))

seen : (line : LinePrefix) (byte : ℕ) (bytes : List ℕ) (newline white line_like block_like : Bool)
    (closing : ℕ)
    → (byte == 10) ≡ newline → is_line_space byte ≡ white
    → starts_with nat_eq (byte ∷ bytes) (codes "//") ≡ line_like
    → starts_with nat_eq (byte ∷ bytes) (codes "/*") ≡ block_like
    → closing_len (drop 2 (byte ∷ bytes)) ≡ closing
    → View line byte bytes (cond newline Newline
    (cond white WhiteSpace (cond line_like (Comment (line_len (byte ∷ bytes)))
    (cond block_like (elim closing [ zero ↦ OpenComment | suc n ↦ Comment (2 + suc n) ])
    (Token (token_at line (byte ∷ bytes)))))))
seen line byte bytes true white line_like block_like closing a b c d e = view_newline a
seen line byte bytes false true line_like block_like closing a b c d e = view_white b
seen line byte bytes false false true block_like closing a b c d e = view_line c
seen line byte bytes false false false true zero a b c d e = view_open
seen line byte bytes false false false true (suc n) a b c d e = view_block n d e
seen line byte bytes false false false false closing a b c d e = view_token

pub view : (line : LinePrefix) (byte : ℕ) (bytes : List ℕ)
    → View line byte bytes (prefix line (byte ∷ bytes))
view line byte bytes = seen line byte bytes _ _ _ _ _ refl refl refl refl refl

-- lengths

within : (alone : Bool) (n k : ℕ) → n ≤ k → shift alone n ≤ suc k
within true zero k h = omega arith
within false zero k h = omega arith
within alone (suc n) k h = omega arith

longest-within : (p : List ℕ → Bool) (xs : List ℕ) → longest p xs ≤ length xs
longest-within p [] = omega arith
longest-within p (x ∷ xs) =
    within (p (x ∷ [])) (longest (λ f. p (x ∷ f)) xs) (length xs)
    (longest-within (λ f. p (x ∷ f)) xs)

pub longer-within : (a b : Match) (k : ℕ) → a.len ≤ k → b.len ≤ k → (longer a b).len ≤ k
longer-within a b k h l =
    elim (nat_lt a.len b.len) as (λ t. (cond t b a).len ≤ k) [ true ↦ l | false ↦ h ]

longest_token-within : (text : List ℕ) → (longest_token text).len ≤ length text
longest_token-within text =
    longer-within _ _ _ (longest-within is_identifier text)
    (longer-within _ _ _ (longest-within is_number text)
    (longer-within _ _ _ (longest-within is_char_constant text)
    (longer-within _ _ _ (longest-within is_string_literal text)
    (longest-within is_punctuator text))))

line_len-within : (text : List ℕ) → line_len text ≤ length text
line_len-within [] = omega arith
line_len-within (byte ∷ bytes) =
    let rest = line_len-within bytes in
    elim (ends_line (byte ∷ bytes)) as (λ t. cond t 0 (1 + line_len bytes) ≤ length
    (byte ∷ bytes)) [ true ↦ omega arith | false ↦ omega arith ]

abbrev Fits : ℕ → ℕ → Type 0
Fits n k = (0 < n) × (n ≤ k)

other-fits : (byte : ℕ) (bytes : List ℕ) → Fits (other (byte ∷ bytes)).len (length (byte ∷ bytes))
other-fits byte bytes =
    let rest = line_len-within bytes in
    elim (byte == 39 || byte == 34) as (λ t. Fits (cond t (1 + line_len bytes) 1) (length
    (byte ∷ bytes))) [ true ↦ (omega arith, omega arith) | false ↦ (omega arith, omega arith) ]

positive : (n : ℕ) → nat_lt 0 n ≡ true → 0 < n
positive n e = grind (arith, nat_tests)

second : (a b : Bool) → (a && b) ≡ true → b ≡ true
second true b e = e
second false b e = absurd (cc)

plain-fits : (byte : ℕ) (bytes : List ℕ) (t : Bool)
    → nat_lt 0 (longest_token (byte ∷ bytes)).len ≡ t
    → Fits (cond t (longest_token (byte ∷ bytes)) (other (byte ∷ bytes))).len
    (length (byte ∷ bytes))
plain-fits byte bytes true e = (positive _ e, longest_token-within (byte ∷ bytes))
plain-fits byte bytes false e = other-fits byte bytes

header-fits : (line : LinePrefix) (byte : ℕ) (bytes : List ℕ) (t : Bool)
    → (is_include line && nat_lt 0 (longest is_header_name (byte ∷ bytes))) ≡ t
    → Fits (cond t (found HeaderName (longest is_header_name (byte ∷ bytes)))
    (cond (nat_lt 0 (longest_token (byte ∷ bytes)).len) (longest_token (byte ∷ bytes))
    (other (byte ∷ bytes)))).len (length (byte ∷ bytes))
header-fits line byte bytes true e =
    (positive _ (second (is_include line) _ e), longest-within is_header_name (byte ∷ bytes))
header-fits line byte bytes false e = plain-fits byte bytes _ refl

pub token_at-fits : (line : LinePrefix) (byte : ℕ) (bytes : List ℕ)
    → (0 < (token_at line (byte ∷ bytes)).len)
    × ((token_at line (byte ∷ bytes)).len ≤ length (byte ∷ bytes))
token_at-fits line byte bytes = header-fits line byte bytes _ refl
