-- Texts that differ at most in digits `0` and `1`, as the tokens of a controlling line do in two
-- configurations, and that they are cut alike.
use Rattle.std.specs.Prelude.{ℕ, zero, suc, ◌+◌, ◌≡◌, refl, Bool, true, false, cond, not, ◌&&◌, ◌||◌, ◌==◌, nat_eq, nat_lt, List, [], ◌∷◌, ◌++◌, codes, drop, length, Option, None}
use Rattle.std.specs.List.{list_all, list_any, starts_with}
use Rattle.std.proofs.Common.{ap, sym, ◌∙◌}
use Rattle.hv_base.specs.Ascii as ascii
use Rattle.hv_base.specs.Ascii.{is_digit, is_empty, is_identifier_byte, is_nondigit, is_line_space}
use Rattle.hv_toks.specs.Cutting.{ends_line, line_len, closing_len, block_comment, found, longer, longest_token, other, token_at, prefix, whole_kind, whole_token}
use Rattle.hv_toks.specs.Lexical.{longest, optional, is_identifier, is_exponent, is_sign, continues_number, begins_with_digit, is_number, closes, is_quoted, is_char_constant, is_string_literal, is_punctuator}
use Rattle.hv_toks.specs.declared.prefix.LinePrefix.TheVariants.{Rest}
use Rattle.hv_toks.specs.declared.prefix.Match.{Match}
use Rattle.hv_toks.specs.declared.prefix.Prefix.{Prefix}
use Rattle.hv_toks.specs.declared.prefix.Prefix.TheVariants.{WhiteSpace, Newline, Comment, OpenComment, Token}
use Rattle.hv_toks.specs.declared.token.PpKind.{PpKind}
use Rattle.hv_toks.specs.declared.token.PpKind.TheVariants.{Identifier, Number, CharConstant, StringLiteral, Punctuator, Other}

-- two bytes are one, or `0` and `1`
pub data AlikeByte : ℕ → ℕ → Type 0 where
  same : (byte : ℕ) → AlikeByte byte byte
  zero_one : AlikeByte 48 49
  one_zero : AlikeByte 49 48

-- two texts differ at most in digits `0` and `1`
pub data Alike : List ℕ → List ℕ → Type 0 where
  end : Alike [] []
  next : {b c : ℕ} {x y : List ℕ} → AlikeByte b c → Alike x y → Alike (b ∷ x) (c ∷ y)

-- a text differs from itself at most in such digits
pub alike_refl : (x : List ℕ) → Alike x x
alike_refl [] = end
alike_refl (b ∷ x) = next (same b) (alike_refl x)

-- texts that differ at most so, after texts that do
pub alike_append : {x y v w : List ℕ} → Alike x y → Alike v w → Alike (x ++ v) (y ++ w)
alike_append end q = q
alike_append (next b p) q = next b (alike_append p q)

-- what says the same of `0` and of `1` says the same of both
pub byte_alike : {A : Type 0} (f : ℕ → A) → f 48 ≡ f 49 → {b c : ℕ} → AlikeByte b c → f b ≡ f c
byte_alike f h (same b) = refl
byte_alike f h zero_one = h
byte_alike f h one_zero = sym h

-- they are of one length
pub length_alike : {x y : List ℕ} → Alike x y → length x ≡ length y
length_alike end = refl
length_alike (next b p) = ap suc (length_alike p)

-- what is left of them after so many bytes differs at most so, too
pub drop_alike : (n : ℕ) → {x y : List ℕ} → Alike x y → Alike (drop n x) (drop n y)
drop_alike zero p = p
drop_alike (suc n) end = end
drop_alike (suc n) (next b p) = drop_alike n p

-- a test that says the same of `0` and of `1` holds of all bytes of both, or of neither's
pub all_alike : (f : ℕ → Bool) → f 48 ≡ f 49 → {x y : List ℕ} → Alike x y
    → list_all f x ≡ list_all f y
all_alike f h end = refl
all_alike f h (next {b = b} {c = c} {x = x} {y = y} q p) =
    ap (λ (v : Bool). v && list_all f x) (byte_alike f h q)
    ∙ ap (λ (v : Bool). f c && v) (all_alike f h p)

-- a test that says the same of `0` and of `1` holds of a byte of both, or of neither's
pub any_alike : (f : ℕ → Bool) → f 48 ≡ f 49 → {x y : List ℕ} → Alike x y
    → list_any f x ≡ list_any f y
any_alike f h end = refl
any_alike f h (next {b = b} {c = c} {x = x} {y = y} q p) =
    ap (λ (v : Bool). v || list_any f x) (byte_alike f h q)
    ∙ ap (λ (v : Bool). f c || v) (any_alike f h p)

-- a test that says the same of both texts
abbrev pub IsAlike : (List ℕ → Bool) → Type 0
IsAlike test = (x y : List ℕ) → Alike x y → test x ≡ test y

------ categories of tokens (6.4)

identifier_alike : IsAlike is_identifier
identifier_alike _ _ end = refl
identifier_alike _ _ (next {b = b} {c = c} {x = x} {y = y} q p) =
    ap (λ (v : Bool). v && list_all is_identifier_byte x) (byte_alike is_nondigit refl q)
    ∙ ap (λ (v : Bool). is_nondigit c && v) (all_alike is_identifier_byte refl p)

continues_alike : (exponent : Bool) → IsAlike (continues_number exponent)
continues_alike exponent _ _ end = refl
continues_alike exponent _ _ (next {b = b} {c = c} {x = x} {y = y} q p) =
    let first : ℕ → Bool = λ v. is_identifier_byte v || v == ascii.dot || (exponent && is_sign v) in
    ap (λ (v : Bool). v && continues_number (is_exponent b) x) (byte_alike first refl q)
    ∙ (ap (λ (v : Bool). first c && continues_number v x) (byte_alike is_exponent refl q)
    ∙ ap (λ (v : Bool). first c && v) (continues_alike (is_exponent c) x y p))

begins_alike : IsAlike begins_with_digit
begins_alike _ _ end = refl
begins_alike _ _ (next {b = b} {c = c} {x = x} {y = y} q p) =
    ap (λ (v : Bool). v && continues_number false x) (byte_alike is_digit refl q)
    ∙ ap (λ (v : Bool). is_digit c && v) (continues_alike false x y p)

optional_alike : (byte : ℕ) → (48 == byte) ≡ (49 == byte) → (part : List ℕ → Bool) → IsAlike part
    → IsAlike (optional byte part)
optional_alike byte h part hp _ _ end = hp [] [] end
optional_alike byte h part hp _ _ (next {b = b} {c = c} {x = x} {y = y} q p) =
    ap (λ (v : Bool). v || (b == byte && part x)) (hp (b ∷ x) (c ∷ y) (next q p))
    ∙ (ap (λ (v : Bool). part (c ∷ y) || (v && part x)) (byte_alike (λ v. v == byte) h q)
    ∙ ap (λ (v : Bool). part (c ∷ y) || (c == byte && v)) (hp x y p))

empty_alike : IsAlike is_empty
empty_alike _ _ end = refl
empty_alike _ _ (next q p) = refl

closes_alike : (escapes : Bool) (quote : ℕ) → (48 == quote) ≡ (49 == quote) → (escaped : Bool)
    → IsAlike (closes escapes quote escaped)
closes_alike escapes quote h escaped _ _ end = refl
closes_alike escapes quote h true _ _ (next {b = b} {c = c} {x = x} {y = y} q p) =
    ap (λ (v : Bool). not v && closes escapes quote false x)
    (byte_alike (λ v. v == ascii.newline) refl q)
    ∙ ap (λ (v : Bool). not (c == ascii.newline) && v) (closes_alike escapes quote h false x y p)
closes_alike escapes quote h false _ _ (next {b = b} {c = c} {x = x} {y = y} q p) =
    let rest : Bool → Bool = λ e. closes escapes quote e x in
    ap (λ (v : Bool). not v && cond (b == quote) (is_empty x) (rest
    (escapes && b == ascii.backslash)))
    (byte_alike (λ v. v == ascii.newline) refl q)
    ∙ (ap (λ (v : Bool). not (c == ascii.newline) &&
    cond v (is_empty x) (rest (escapes && b == ascii.backslash)))
    (byte_alike (λ v. v == quote) h q)
    ∙ (ap (λ (v : Bool). not (c == ascii.newline) &&
    cond (c == quote) v (rest (escapes && b == ascii.backslash)))
    (empty_alike x y p)
    ∙ (ap (λ (v : Bool). not (c == ascii.newline) &&
    cond (c == quote) (is_empty y) (rest (escapes && v)))
    (byte_alike (λ v. v == ascii.backslash) refl q)
    ∙ ap (λ (v : Bool). not (c == ascii.newline) && cond (c == quote) (is_empty y) v)
    (closes_alike escapes quote h (escapes && c == ascii.backslash) x y p))))

quoted_alike : (quote : ℕ) → (48 == quote) ≡ (49 == quote) → IsAlike (is_quoted quote)
quoted_alike quote h _ _ end = refl
quoted_alike quote h _ _ (next {b = b} {c = c} {x = x} {y = y} q p) =
    ap (λ (v : Bool). v && closes true quote false x) (byte_alike (λ v. v == quote) h q)
    ∙ ap (λ (v : Bool). c == quote && v) (closes_alike true quote h false x y p)

punctuator_alike : IsAlike is_punctuator
punctuator_alike _ _ end = refl
punctuator_alike _ _ (next q end) = byte_alike (λ v. is_punctuator (v ∷ [])) refl q
punctuator_alike _ _ (next {b = b} {c = c} q (next {b = d} {c = e} r end)) =
    byte_alike (λ v. is_punctuator (v ∷ d ∷ [])) refl q
    ∙ byte_alike (λ v. is_punctuator (c ∷ v ∷ [])) refl r
punctuator_alike _ _ (next {b = b} {c = c} q
    (next {b = d} {c = e} r (next {b = f} {c = g} s end))) =
    byte_alike (λ v. is_punctuator (v ∷ d ∷ f ∷ [])) refl q
    ∙ (byte_alike (λ v. is_punctuator (c ∷ v ∷ f ∷ [])) refl r
    ∙ byte_alike (λ v. is_punctuator (c ∷ e ∷ v ∷ [])) refl s)
punctuator_alike _ _ (next q (next r (next s (next t p)))) = refl

------ cutting (5.1.1.2)

-- the length of the longest prefix that passes, by that of the longest after the first byte, zero
-- where there is none, and by whether the first byte passes alone
abbrev longest_more : ℕ → Bool → ℕ
longest_more n one = elim n [ zero ↦ cond one 1 0 | suc more ↦ suc (suc more) ]

longest_alike : (test other_test : List ℕ → Bool)
    → ((x y : List ℕ) → Alike x y → test x ≡ other_test y)
    → {x y : List ℕ} → Alike x y → longest test x ≡ longest other_test y
longest_alike test other_test h end = refl
longest_alike test other_test h (next {b = b} {c = c} {x = x} {y = y} q p) =
    ap (λ n. longest_more n (test (b ∷ [])))
    (longest_alike (λ r. test (b ∷ r)) (λ r. other_test (c ∷ r))
    (λ v w a. h (b ∷ v) (c ∷ w) (next q a)) p)
    ∙ ap (longest_more (longest (λ r. other_test (c ∷ r)) y)) (h (b ∷ []) (c ∷ []) (next q end))

longest_of : (test : List ℕ → Bool) → IsAlike test → {x y : List ℕ} → Alike x y
    → longest test x ≡ longest test y
longest_of test h p = longest_alike test test h p

longest_token_alike : {x y : List ℕ} → Alike x y → longest_token x ≡ longest_token y
longest_token_alike {x} {y} p =
    let chosen : ℕ → ℕ → ℕ → ℕ → ℕ → Match = λ i n c s t.
    longer (found Identifier i) (longer (found Number n) (longer (found CharConstant c)
    (longer (found StringLiteral s) (found Punctuator t)))) in
    let numbers : IsAlike is_number = optional_alike ascii.dot refl begins_with_digit begins_alike
    in
    let chars : IsAlike is_char_constant =
    optional_alike ascii.wide refl (is_quoted ascii.apostrophe) (quoted_alike ascii.apostrophe refl)
    in
    let strings : IsAlike is_string_literal =
    optional_alike ascii.wide refl (is_quoted ascii.quote) (quoted_alike ascii.quote refl) in
    ap (λ i. chosen i (longest is_number x) (longest is_char_constant x)
    (longest is_string_literal x) (longest is_punctuator x))
    (longest_of is_identifier identifier_alike p)
    ∙ (ap (λ n. chosen (longest is_identifier y) n (longest is_char_constant x)
    (longest is_string_literal x) (longest is_punctuator x))
    (longest_of is_number numbers p)
    ∙ (ap (λ c. chosen (longest is_identifier y) (longest is_number y) c
    (longest is_string_literal x) (longest is_punctuator x))
    (longest_of is_char_constant chars p)
    ∙ (ap (λ s. chosen (longest is_identifier y) (longest is_number y) (longest is_char_constant y)
    s (longest is_punctuator x))
    (longest_of is_string_literal strings p)
    ∙ ap (λ t. chosen (longest is_identifier y) (longest is_number y) (longest is_char_constant y)
    (longest is_string_literal y) t)
    (longest_of is_punctuator punctuator_alike p))))

-- no digit `0` or `1` is among these bytes
abbrev NoDigits : List ℕ → Type 0
NoDigits [] = Unit {0}
NoDigits (k ∷ ks) = (nat_eq k 48 ≡ nat_eq k 49) × NoDigits ks

starts_alike : (ks : List ℕ) → NoDigits ks → {x y : List ℕ} → Alike x y
    → starts_with nat_eq x ks ≡ starts_with nat_eq y ks
starts_alike [] h p = refl
starts_alike (k ∷ ks) h end = refl
starts_alike (k ∷ ks) h (next {b = b} {c = c} {x = x} {y = y} q p) =
    ap (λ (v : Bool). v && starts_with nat_eq x ks) (byte_alike (λ v. nat_eq k v) h.0 q)
    ∙ ap (λ (v : Bool). nat_eq k c && v) (starts_alike ks h.1 p)

ends_line_alike : IsAlike ends_line
ends_line_alike x y p =
    ap (λ (v : Bool). v || starts_with nat_eq x (13 ∷ 10 ∷ []))
    (starts_alike (10 ∷ []) (refl, tt) p)
    ∙ ap (λ (v : Bool). starts_with nat_eq y (10 ∷ []) || v)
    (starts_alike (13 ∷ 10 ∷ []) (refl, (refl, tt)) p)

line_len_alike : {x y : List ℕ} → Alike x y → line_len x ≡ line_len y
line_len_alike end = refl
line_len_alike (next {b = b} {c = c} {x = x} {y = y} q p) =
    ap (λ (v : Bool). cond v 0 (1 + line_len x)) (ends_line_alike (b ∷ x) (c ∷ y) (next q p))
    ∙ ap (λ n. cond (ends_line (c ∷ y)) 0 (1 + n)) (line_len_alike p)

-- the length up to and with the first `*/`, by whether it stands here, and by that length after the
-- first byte; zero where there is none (6.4.9)
abbrev closing_more : Bool → ℕ → ℕ
closing_more here n = cond here 2 (elim n [ zero ↦ 0 | suc m ↦ suc (suc m) ])

closing_len_alike : {x y : List ℕ} → Alike x y → closing_len x ≡ closing_len y
closing_len_alike end = refl
closing_len_alike (next {b = b} {c = c} {x = x} {y = y} q p) =
    ap (λ (v : Bool). closing_more v (closing_len x))
    (starts_alike (codes "*/") (refl, (refl, tt)) (next q p))
    ∙ ap (closing_more (starts_with nat_eq (c ∷ y) (codes "*/"))) (closing_len_alike p)

-- a comment's prefix, by the length after its `/*` up to and with its `*/`; zero where there is
-- none (6.4.9)
abbrev comment_of : ℕ → Prefix
comment_of n = elim n [ zero ↦ OpenComment | suc m ↦ Comment (2 + suc m) ]

block_comment_alike : {x y : List ℕ} → Alike x y → block_comment x ≡ block_comment y
block_comment_alike p = ap comment_of (closing_len_alike (drop_alike 2 p))

other_alike : {x y : List ℕ} → Alike x y → other x ≡ other y
other_alike end = refl
other_alike (next {b = b} {c = c} {x = x} {y = y} q p) =
    let found_len : Bool → ℕ → Match = λ v n. found Other (cond v (1 + n) 1) in
    ap (λ v. found_len v (line_len x))
    (byte_alike (λ v. v == ascii.apostrophe || v == ascii.quote) refl q)
    ∙ ap (found_len (c == ascii.apostrophe || c == ascii.quote)) (line_len_alike p)

token_at_alike : {x y : List ℕ} → Alike x y → token_at Rest x ≡ token_at Rest y
token_at_alike {x} {y} p =
    let chosen : Match → Match → Match = λ m o. cond (nat_lt 0 m.len) m o in
    ap (λ m. chosen m (other x)) (longest_token_alike p)
    ∙ ap (chosen (longest_token y)) (other_alike p)

prefix_alike : {x y : List ℕ} → Alike x y → prefix Rest x ≡ prefix Rest y
prefix_alike end = refl
prefix_alike (next {b = b} {c = c} {x = x} {y = y} q p) =
    let all : Alike (b ∷ x) (c ∷ y) = next q p in
    let chosen : Bool → Bool → Bool → ℕ → Bool → Prefix → Match → Prefix =
    λ newline blank line n block comment m.
    cond newline Newline (cond blank WhiteSpace
    (cond line (Comment n) (cond block comment (Token m)))) in
    let line : List ℕ → Bool = λ text. starts_with nat_eq text (codes "//") in
    let block : List ℕ → Bool = λ text. starts_with nat_eq text (codes "/*") in
    let of : List ℕ → Bool → Bool → Prefix = λ text newline blank.
    chosen newline blank (line text) (line_len text) (block text) (block_comment text)
    (token_at Rest text) in
    ap (λ v. of (b ∷ x) v (is_line_space b)) (byte_alike (λ v. v == ascii.newline) refl q)
    ∙ (ap (λ v. of (b ∷ x) (c == ascii.newline) v) (byte_alike is_line_space refl q)
    ∙ (ap (λ v. chosen (c == ascii.newline) (is_line_space c) v (line_len (b ∷ x)) (block (b ∷ x))
    (block_comment (b ∷ x)) (token_at Rest (b ∷ x)))
    (starts_alike (codes "//") (refl, (refl, tt)) all)
    ∙ (ap (λ v. chosen (c == ascii.newline) (is_line_space c) (line (c ∷ y)) v (block (b ∷ x))
    (block_comment (b ∷ x)) (token_at Rest (b ∷ x)))
    (line_len_alike all)
    ∙ (ap (λ v. chosen (c == ascii.newline) (is_line_space c) (line (c ∷ y)) (line_len (c ∷ y)) v
    (block_comment (b ∷ x)) (token_at Rest (b ∷ x)))
    (starts_alike (codes "/*") (refl, (refl, tt)) all)
    ∙ (ap (λ v. chosen (c == ascii.newline) (is_line_space c) (line (c ∷ y)) (line_len (c ∷ y))
    (block (c ∷ y)) v (token_at Rest (b ∷ x)))
    (block_comment_alike all)
    ∙ ap (λ v. chosen (c == ascii.newline) (is_line_space c) (line (c ∷ y)) (line_len (c ∷ y))
    (block (c ∷ y)) (block_comment (c ∷ y)) v)
    (token_at_alike all))))))

-- texts that differ at most in digits `0` and `1` are both one token of one kind, or neither is one
pub whole_token_alike : {x y : List ℕ} → Alike x y → whole_token x ≡ whole_token y
whole_token_alike {x} {y} p =
    let kind : Bool → ℕ → Prefix → Option PpKind = λ v n prefix. cond v None (whole_kind n prefix)
    in
    ap (λ v. kind v (length x) (prefix Rest x)) (any_alike (λ byte. byte == ascii.newline) refl p)
    ∙ (ap (λ n. kind (list_any (λ byte. byte == ascii.newline) y) n (prefix Rest x))
    (length_alike p)
    ∙ ap (kind (list_any (λ byte. byte == ascii.newline) y) (length y)) (prefix_alike p))
