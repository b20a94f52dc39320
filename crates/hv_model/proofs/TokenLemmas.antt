-- Tokens, taken off the beginning of a text one by one.
use Rattle.std.proofs.Common.{◌≡◌, ℕ, suc, ◌+◌, ◌<◌, true, false, List, [], ◌∷◌, cond, refl, sym, ◌∙◌, ap, subst, arith, length, take, drop, get_or, Some, None}
use Rattle.std.specs.List.{prefix_len}
use Rattle.std.proofs.lemmas.Bool.Decides.{nat_tests}
use Rattle.hv_base.specs.Ascii.{is_blank, is_identifier_byte}
use Rattle.hv_model.specs.Bytes.{without_leading_blanks}
use Rattle.hv_model.specs.Token.{Token, word, tokens, lengthened, single, pair_of}

tokens-blank : (byte : ℕ) (text : List ℕ) → is_blank byte ≡ true
    → tokens (byte ∷ text) ≡ tokens text
tokens-blank byte [] e = rw e refl
tokens-blank byte (next ∷ text) e = rw e refl

drop-1+ : (n byte : ℕ) (text : List ℕ) → drop (1 + n) (byte ∷ text) ≡ drop n text
drop-1+ n byte text = let e : 1 + n ≡ suc n = omega arith in rw e refl

take-1+ : (n byte : ℕ) (text : List ℕ) → take (1 + n) (byte ∷ text) ≡ byte ∷ take n text
take-1+ n byte text = let e : 1 + n ≡ suc n = omega arith in rw e refl

tokens-skip : (text : List ℕ) → tokens (drop (prefix_len is_blank text) text) ≡ tokens text
tokens-skip [] = refl
tokens-skip (byte ∷ text) =
    elim (is_blank byte) as (λ b. is_blank byte ≡ b
    → tokens (drop (cond b (1 + prefix_len is_blank text) 0) (byte ∷ text))
    ≡ tokens (byte ∷ text)) [
      | true ↦ λ e. ap tokens (drop-1+ (prefix_len is_blank text) byte text)
          ∙ (tokens-skip text ∙ sym (tokens-blank byte text e))
      | false ↦ λ e. refl
    ] refl

pub tokens-skipped : (text : List ℕ) (n : ℕ) → n ≡ prefix_len is_blank text
    → tokens (drop n text) ≡ tokens text
tokens-skipped text n e = rw e (tokens-skip text)

prefix_len-rest : (text : List ℕ) → prefix_len is_blank (drop (prefix_len is_blank text) text) ≡ 0
prefix_len-rest [] = refl
prefix_len-rest (byte ∷ text) =
    elim (is_blank byte) as (λ b. is_blank byte ≡ b
    → prefix_len is_blank (drop (cond b (1 + prefix_len is_blank text) 0) (byte ∷ text)) ≡ 0) [
      | true ↦ λ e. ap (prefix_len is_blank) (drop-1+ (prefix_len is_blank text) byte text)
          ∙ prefix_len-rest text
      | false ↦ λ e. rw e refl
    ] refl

pub skipped : (text : List ℕ) (n : ℕ) → n ≡ prefix_len is_blank text
    → prefix_len is_blank (drop n text) ≡ 0
skipped text n e = rw e (prefix_len-rest text)

pub no_blank_first : (text : List ℕ) → 0 < length text → prefix_len is_blank text ≡ 0
    → is_blank (get_or text 0 0) ≡ false
no_blank_first [] some e = absurd (omega arith)
no_blank_first (byte ∷ text) some e =
    elim (is_blank byte) as (λ b. cond b (1 + prefix_len is_blank text) 0 ≡ 0 → b ≡ false) [
      | true ↦ λ h. absurd (omega arith)
      | false ↦ λ h. refl
    ] e

word_no_blank : (byte : ℕ) → is_identifier_byte byte ≡ true → is_blank byte ≡ false
word_no_blank byte e = grind (arith, nat_tests)

tokens-word : (byte : ℕ) (text : List ℕ) → is_identifier_byte byte ≡ true
    → tokens (byte ∷ text) ≡ word (take (1 + prefix_len is_identifier_byte text) (byte ∷ text)) ∷
    tokens (drop (1 + prefix_len is_identifier_byte text) (byte ∷ text))
tokens-word byte [] e = let b : is_blank byte ≡ false = word_no_blank byte e in rw (b, e) refl
tokens-word byte (next ∷ text) e =
    let b : is_blank byte ≡ false = word_no_blank byte e in
    elim (is_identifier_byte next) as (λ w. is_identifier_byte next ≡ w
    → tokens (byte ∷ next ∷ text)
    ≡ word (take (1 + cond w (1 + prefix_len is_identifier_byte text) 0) (byte ∷ next ∷ text)) ∷
    tokens (drop (1 + cond w (1 + prefix_len is_identifier_byte text) 0) (byte ∷ next ∷ text))) [
      | true ↦ λ w. rw (b, e, w) (ap (lengthened byte) (tokens-word next text w)
          ∙ rw (
            take-1+ (1 + prefix_len is_identifier_byte text) byte (next ∷ text),
            drop-1+
                (1 + prefix_len is_identifier_byte text) byte (next ∷ text),
          ) refl)
      | false ↦ λ w. rw (b, e, w) refl
    ] refl

pub tokens_word : (text : List ℕ) (n : ℕ) → n ≡ prefix_len is_identifier_byte text → 0 < length text
    → is_identifier_byte (get_or text 0 0) ≡ true
    → tokens text ≡ word (take n text) ∷ tokens (drop n text)
tokens_word [] n e some w = absurd (omega arith)
tokens_word (byte ∷ text) n e some w =
    rw e (subst (λ k. tokens (byte ∷ text)
    ≡ word (take (cond k (1 + prefix_len is_identifier_byte text) 0) (byte ∷ text)) ∷
    tokens (drop (cond k (1 + prefix_len is_identifier_byte text) 0) (byte ∷ text))) (sym w)
    (tokens-word byte text w))

pub some_word : (text : List ℕ) (n : ℕ) → n ≡ prefix_len is_identifier_byte text → 0 < length text
    → is_identifier_byte (get_or text 0 0) ≡ true → 0 < n
some_word [] n e some w = absurd (omega arith)
some_word (byte ∷ text) n e some w = rw (e, w) (omega arith)

pub tokens_pair : (text : List ℕ) (t : Token) → 1 < length text → is_blank (get_or text 0 0) ≡ false
    → is_identifier_byte (get_or text 0 0) ≡ false
    → pair_of (get_or text 0 0) (get_or text 1 0) ≡ Some t → tokens text ≡ t ∷ tokens (drop 2 text)
tokens_pair [] t some b w p = absurd (omega arith)
tokens_pair (byte ∷ []) t some b w p = absurd (omega arith)
tokens_pair (byte ∷ next ∷ text) t some b w p = rw (b, w, p) refl

pub tokens_single : (text : List ℕ) → 0 < length text → is_blank (get_or text 0 0) ≡ false
    → is_identifier_byte (get_or text 0 0) ≡ false
    → (1 < length text → pair_of (get_or text 0 0) (get_or text 1 0) ≡ None)
    → tokens text ≡ single (get_or text 0 0) ∷ tokens (drop 1 text)
tokens_single [] some b w p = absurd (omega arith)
tokens_single (byte ∷ []) some b w p = rw (b, w) refl
tokens_single (byte ∷ next ∷ text) some b w p = let q : pair_of byte next ≡ None = p (omega arith)
    in rw (b, w, q) refl

drop_blanks : (text : List ℕ) → drop (prefix_len is_blank text) text ≡ without_leading_blanks text
drop_blanks [] = refl
drop_blanks (byte ∷ text) =
    elim (is_blank byte) as (λ b. drop (cond b (1 + prefix_len is_blank text) 0) (byte ∷ text)
    ≡ cond b (without_leading_blanks text) (byte ∷ text)) [
      | true ↦ drop-1+ (prefix_len is_blank text) byte text ∙ drop_blanks text
      | false ↦ refl
    ]

pub skipped_blanks : (text : List ℕ) (n : ℕ) → n ≡ prefix_len is_blank text
    → drop n text ≡ without_leading_blanks text
skipped_blanks text n e = rw e (drop_blanks text)
