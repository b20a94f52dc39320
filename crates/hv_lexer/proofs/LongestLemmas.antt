-- The longest prefixes of the categories, byte by byte.
use Rattle.std.proofs.Common.{◌≡◌, ℕ, zero, suc, ◌+◌, ◌<◌, ◌≤◌, Bool, true, false, not, List, [], ◌∷◌, cond, refl, sym, ◌∙◌, ap, arith, length, take}
use Rattle.std.specs.Prelude.{◌&&◌, ◌||◌, ◌==◌}
use Rattle.std.specs.List.{list_all, prefix_len}
use Rattle.std.proofs.lemmas.Bool.Decides.{nat_tests}
use Rattle.hv_base.specs.Ascii.{is_digit, is_empty, is_identifier_byte, is_nondigit}
use Rattle.hv_toks.specs.Lexical.{longest, optional, is_identifier, is_exponent, is_sign, continues_number, begins_with_digit, is_number, closes, is_quoted, is_enclosed, is_header_name}
use Rattle.hv_lexer.specs.working.Lengths.{IsLongest, one_more}

-- the length after one more byte, where `alone` says that the byte is a prefix by itself
abbrev pub shift : Bool → ℕ → ℕ
shift alone n = elim n [ zero ↦ cond alone 1 0 | suc more ↦ suc (suc more) ]

shift-true : (n : ℕ) → shift true n ≡ 1 + n
shift-true zero = refl
shift-true (suc n) = omega arith

shift-false : (n : ℕ) → shift false n ≡ one_more n
shift-false zero = refl
shift-false (suc n) = refl

pub longest-none : (p : List ℕ → Bool) (xs : List ℕ) → ((x : ℕ) (f : List ℕ) → p (x ∷ f) ≡ false)
    → longest p xs ≡ 0
longest-none p [] h = refl
longest-none p (x ∷ xs) h = rw (longest-none (λ f. p (x ∷ f)) xs (λ y f. h x (y ∷ f)), h x []) refl

longest-same : (p q : List ℕ → Bool) (xs : List ℕ) → ((x : ℕ) (f : List ℕ) → p (x ∷ f) ≡ q (x ∷ f))
    → longest p xs ≡ longest q xs
longest-same p q [] h = refl
longest-same p q (x ∷ xs) h =
    ap (shift (p (x ∷ []))) (longest-same (λ f. p (x ∷ f)) (λ f. q (x ∷ f)) xs (λ y f. h x (y ∷ f)))
    ∙ ap (λ t. shift t (longest (λ f. q (x ∷ f)) xs)) (h x [])

longest-same-at : (p q : List ℕ → Bool) (x : ℕ) (xs : List ℕ)
    → ((f : List ℕ) → p (x ∷ f) ≡ q (x ∷ f)) → longest p (x ∷ xs) ≡ longest q (x ∷ xs)
longest-same-at p q x xs h =
    ap (shift (p (x ∷ []))) (longest-same (λ f. p (x ∷ f)) (λ f. q (x ∷ f)) xs (λ y f. h (y ∷ f)))
    ∙ ap (λ t. shift t (longest (λ f. q (x ∷ f)) xs)) (h [])

or-false : (b : Bool) → (b || false) ≡ b
or-false true = refl
or-false false = refl

-- a byte that passes a test of its own, and then the rest
gate-yes : (t : Bool) (p : List ℕ → Bool) (xs : List ℕ) → t ≡ true
    → shift (t && p []) (longest (λ f. t && p f) xs) ≡ shift (p []) (longest p xs)
gate-yes t p xs e = rw e refl

gate-no : (t : Bool) (p : List ℕ → Bool) (xs : List ℕ) → t ≡ false
    → shift (t && p []) (longest (λ f. t && p f) xs) ≡ 0
gate-no t p xs e = rw e (rw (longest-none (λ f. false) xs (λ x f. refl)) refl)

longest-all : (p : ℕ → Bool) (xs : List ℕ) → longest (list_all p) xs ≡ prefix_len p xs
longest-all p [] = refl
longest-all p (x ∷ xs) =
    elim (p x) as (λ b. p x ≡ b → shift (p x && true) (longest (λ f. p x && list_all p f) xs)
    ≡ cond b (1 + prefix_len p xs) 0) [
      | true ↦ λ e. gate-yes (p x) (list_all p) xs e
          ∙ (ap (shift true) (longest-all p xs) ∙ shift-true (prefix_len p xs))
      | false ↦ λ e. gate-no (p x) (list_all p) xs e
    ] refl

-- `longest` is the longest

longer-fails : (p : List ℕ → Bool) (x : ℕ) (xs : List ℕ) (n : ℕ)
    → ((j : ℕ) → n < j → j ≤ length xs → p (x ∷ take j xs) ≡ false)
    → (k : ℕ) → suc n < k → k ≤ length (x ∷ xs) → p (take k (x ∷ xs)) ≡ false
longer-fails p x xs n fails zero h l = absurd (omega arith)
longer-fails p x xs n fails (suc j) h l = fails j (omega arith) (omega arith)

all-fail : (p : List ℕ → Bool) (x : ℕ) (xs : List ℕ) → p (x ∷ []) ≡ false
    → ((j : ℕ) → 0 < j → j ≤ length xs → p (x ∷ take j xs) ≡ false)
    → (k : ℕ) → 0 < k → k ≤ length (x ∷ xs) → p (take k (x ∷ xs)) ≡ false
all-fail p x xs alone fails zero h l = absurd (omega arith)
all-fail p x xs alone fails (suc zero) h l = alone
all-fail p x xs alone fails (suc (suc j)) h l = fails (suc j) (omega arith) (omega arith)

grown : (p : List ℕ → Bool) (x : ℕ) (xs : List ℕ) (t : Bool) (n : ℕ) → p (x ∷ []) ≡ t
    → IsLongest (λ f. p (x ∷ f)) xs n → IsLongest p (x ∷ xs) (shift t n)
grown p x xs true zero e h = ((λ _. e), longer-fails p x xs 0 h.1)
grown p x xs false zero e h = ((λ k. absurd (omega arith)), all-fail p x xs e h.1)
grown p x xs t (suc m) e h = ((λ _. h.0 (omega arith)), longer-fails p x xs (suc m) h.1)

pub longest-is : (p : List ℕ → Bool) (xs : List ℕ) → IsLongest p xs (longest p xs)
longest-is p [] = ((λ k. absurd (omega arith)), (λ k h l. absurd (omega arith)))
longest-is p (x ∷ xs) =
    grown p x xs (p (x ∷ [])) (longest (λ f. p (x ∷ f)) xs) refl (longest-is (λ f. p (x ∷ f)) xs)

-- by a result
pub longest-from : (p : List ℕ → Bool) (xs : List ℕ) (n : ℕ) → n ≡ longest p xs → IsLongest p xs n
longest-from p xs n e = rw e (longest-is p xs)

-- identifiers

pub identifier-yes : (x : ℕ) (xs : List ℕ) → is_nondigit x ≡ true
    → longest is_identifier (x ∷ xs) ≡ 1 + prefix_len is_identifier_byte xs
identifier-yes x xs e = gate-yes (is_nondigit x) (list_all is_identifier_byte) xs e
    ∙ (ap (shift true) (longest-all is_identifier_byte xs)
    ∙ shift-true (prefix_len is_identifier_byte xs))

pub identifier-no : (x : ℕ) (xs : List ℕ) → is_nondigit x ≡ false
    → longest is_identifier (x ∷ xs) ≡ 0
identifier-no x xs e = gate-no (is_nondigit x) (list_all is_identifier_byte) xs e

-- numbers

abbrev pub may_continue : Bool → ℕ → Bool
may_continue exponent byte = is_identifier_byte byte || byte == 46 || (exponent && is_sign byte)

abbrev pub number_rest_len : Bool → List ℕ → ℕ
number_rest_len exponent [] = 0
number_rest_len exponent (byte ∷ bytes) =
    cond (may_continue exponent byte) (1 + number_rest_len (is_exponent byte) bytes) 0

pub longest-number_rest : (exponent : Bool) (xs : List ℕ)
    → longest (continues_number exponent) xs ≡ number_rest_len exponent xs
longest-number_rest exponent [] = refl
longest-number_rest exponent (x ∷ xs) =
    elim (may_continue exponent x) as (λ b. may_continue exponent x ≡ b
    → shift (may_continue exponent x && true)
    (longest (λ f. may_continue exponent x && continues_number (is_exponent x) f) xs)
    ≡ cond b (1 + number_rest_len (is_exponent x) xs) 0) [
      | true ↦ λ e. gate-yes (may_continue exponent x) (continues_number (is_exponent x)) xs e
          ∙ (ap (shift true) (longest-number_rest (is_exponent x) xs)
          ∙ shift-true (number_rest_len (is_exponent x) xs))
      | false ↦ λ e. gate-no (may_continue exponent x) (continues_number (is_exponent x)) xs e
    ] refl

pub digits-no : (x : ℕ) (xs : List ℕ) → is_digit x ≡ false → longest begins_with_digit (x ∷ xs) ≡ 0
digits-no x xs e = gate-no (is_digit x) (continues_number false) xs e

-- an optional byte before

no-second : (a t b : Bool) → t ≡ false → (a || (t && b)) ≡ a
no-second true t b e = refl
no-second false t b e = rw e refl

no-first : (a t b : Bool) → a ≡ false → t ≡ true → (a || (t && b)) ≡ b
no-first a t b e f = rw (e, f) refl

optional-yes : (byte : ℕ) (p : List ℕ → Bool) (x : ℕ) (xs : List ℕ) → (x == byte) ≡ true
    → ((f : List ℕ) → p (x ∷ f) ≡ false) → p [] ≡ false
    → longest (optional byte p) (x ∷ xs) ≡ one_more (longest p xs)
optional-yes byte p x xs e other none =
    let same : (f : List ℕ) → optional byte p (x ∷ f) ≡ p f =
    λ f. no-first (p (x ∷ f)) (x == byte) (p f) (other f) e in
    ap (λ t. shift t (longest (λ f. optional byte p (x ∷ f)) xs)) (same [] ∙ none)
    ∙ (ap (shift false) (longest-same (λ f. optional byte p (x ∷ f)) p xs (λ y f. same (y ∷ f)))
    ∙ shift-false (longest p xs))

optional-no : (byte : ℕ) (p : List ℕ → Bool) (x : ℕ) (xs : List ℕ) → (x == byte) ≡ false
    → longest (optional byte p) (x ∷ xs) ≡ longest p (x ∷ xs)
optional-no byte p x xs e =
    longest-same-at (optional byte p) p x xs (λ f. no-second (p (x ∷ f)) (x == byte) (p f) e)

-- closing quotes

abbrev pub closes_len : (escapes : Bool) → (quote : ℕ) → (escaped : Bool) → List ℕ → ℕ
closes_len escapes quote escaped [] = 0
closes_len escapes quote true (byte ∷ bytes) =
    cond (byte == 10) 0 (one_more (closes_len escapes quote false bytes))
closes_len escapes quote false (byte ∷ bytes) =
    cond (byte == 10) 0 (cond (byte == quote) 1
    (one_more (closes_len escapes quote (escapes && byte == 92) bytes)))

closes-nil : (escapes : Bool) (quote : ℕ) (escaped : Bool) → closes escapes quote escaped [] ≡ false
closes-nil escapes quote escaped = refl

not-yes : (t : Bool) → t ≡ false → not t ≡ true
not-yes t e = rw e refl

not-no : (t : Bool) → t ≡ true → not t ≡ false
not-no t e = rw e refl

at_quote : (escapes : Bool) (quote : ℕ) (x : ℕ) (xs : List ℕ) (t : Bool) → (x == quote) ≡ t
    → shift (cond t true (closes escapes quote (escapes && x == 92) []))
    (longest (λ f. cond t (is_empty f) (closes escapes quote (escapes && x == 92) f)) xs)
    ≡ cond t 1 (shift false (longest (closes escapes quote (escapes && x == 92)) xs))
at_quote escapes quote x xs true e = rw (longest-none is_empty xs (λ y f. refl)) refl
at_quote escapes quote x xs false e = refl

pub longest-closes : (escapes : Bool) (quote : ℕ) (escaped : Bool) (xs : List ℕ)
    → longest (closes escapes quote escaped) xs ≡ closes_len escapes quote escaped xs
longest-closes escapes quote escaped [] = refl
longest-closes escapes quote true (x ∷ xs) =
    elim (x == 10) as (λ b. (x == 10) ≡ b
    → shift (not (x == 10) && false)
    (longest (λ f. not (x == 10) && closes escapes quote false f) xs)
    ≡ cond b 0 (one_more (closes_len escapes quote false xs))) [
      | true ↦ λ e. gate-no (not (x == 10)) (closes escapes quote false) xs (not-no _ e)
      | false ↦ λ e. gate-yes (not (x == 10)) (closes escapes quote false) xs (not-yes _ e)
          ∙ (ap (shift false) (longest-closes escapes quote false xs) ∙ shift-false _)
    ] refl
longest-closes escapes quote false (x ∷ xs) =
    elim (x == 10) as (λ b. (x == 10) ≡ b
    → longest (closes escapes quote false) (x ∷ xs)
    ≡ cond b 0 (cond (x == quote) 1
    (one_more (closes_len escapes quote (escapes && x == 92) xs)))) [
      | true ↦ λ e. gate-no (not (x == 10))
          (λ f. cond (x == quote) (is_empty f) (closes escapes quote (escapes && x == 92) f)) xs
          (not-no _ e)
      | false ↦ λ e. gate-yes (not (x == 10))
          (λ f. cond (x == quote) (is_empty f) (closes escapes quote (escapes && x == 92) f)) xs
          (not-yes _ e)
          ∙ (at_quote escapes quote x xs (x == quote) refl
          ∙ ap (λ n. cond (x == quote) 1 n)
          (ap (shift false) (longest-closes escapes quote (escapes && x == 92) xs) ∙ shift-false _))
    ] refl

-- a loop over the rest of a number

pub number-stop : (exponent : Bool) (x : ℕ) (xs : List ℕ) → may_continue exponent x ≡ false
    → number_rest_len exponent (x ∷ xs) ≡ 0
number-stop exponent x xs e = rw e refl

-- a loop to a closing quote

-- the length of a prefix that `i` bytes stand before
abbrev pub shifted : ℕ → ℕ → ℕ
shifted i zero = 0
shifted i (suc n) = i + suc n

pub shifted-zero : (n : ℕ) → shifted 0 n ≡ n
shifted-zero zero = refl
shifted-zero (suc n) = omega arith

pub shifted-more : (i n : ℕ) → shifted i (one_more n) ≡ shifted (i + 1) n
shifted-more i zero = refl
shifted-more i (suc n) = omega arith

pub differs : (a b : ℕ) → (a ≡ b → ⊥) → (a == b) ≡ false
differs a b h = grind (arith, nat_tests)

pub agrees : (a b : ℕ) → a ≡ b → (a == b) ≡ true
agrees a b h = grind (arith, nat_tests)

closes-here : (escapes : Bool) (quote : ℕ) (escaped : Bool) (x : ℕ) (xs : List ℕ)
    → (x == 10) ≡ false → (not escaped && x == quote) ≡ true
    → closes_len escapes quote escaped (x ∷ xs) ≡ 1
closes-here escapes quote true x xs e f = absurd (cc)
closes-here escapes quote false x xs e f = rw (e, f) refl

closes-newline : (escapes : Bool) (quote : ℕ) (escaped : Bool) (x : ℕ) (xs : List ℕ)
    → (x == 10) ≡ true
    → closes_len escapes quote escaped (x ∷ xs) ≡ 0
closes-newline escapes quote true x xs e = rw e refl
closes-newline escapes quote false x xs e = rw e refl

module _ (escapes : Bool) (quote : ℕ) (escaped : Bool) (i x : ℕ) (xs : List ℕ) where
  pub closes-stop : (x ≡ 10 → ⊥) → (not escaped && x == quote) ≡ true
      → shifted i (closes_len escapes quote escaped (x ∷ xs)) ≡ i + 1
  closes-stop e f = ap (shifted i) (closes-here escapes quote escaped x xs (differs _ _ e) f)

  pub closes-never : x ≡ 10 → shifted i (closes_len escapes quote escaped (x ∷ xs)) ≡ 0
  closes-never e = ap (shifted i) (closes-newline escapes quote escaped x xs (agrees _ _ e))

-- quotes

pub quoted-no : (quote : ℕ) (x : ℕ) (xs : List ℕ) → (x ≡ quote → ⊥)
    → longest (is_quoted quote) (x ∷ xs) ≡ 0
quoted-no quote x xs e = gate-no (x == quote) (closes true quote false) xs (differs _ _ e)

pub enclosed-yes : (closing : ℕ) (x : ℕ) (xs : List ℕ) → (x ≡ closing → ⊥)
    → longest (is_enclosed closing) (x ∷ xs) ≡ longest (closes false closing false) (x ∷ xs)
enclosed-yes closing x xs e =
    let t : not (x == closing) ≡ true = not-yes _ (differs _ _ e) in
    longest-same-at (is_enclosed closing) (closes false closing false) x xs
    (λ f. ap (λ b. b && closes false closing false (x ∷ f)) t)

pub enclosed-no : (closing : ℕ) (x : ℕ) (xs : List ℕ) → x ≡ closing
    → longest (is_enclosed closing) (x ∷ xs) ≡ 0
enclosed-no closing x xs e =
    gate-no (not (x == closing)) (λ f. closes false closing false (x ∷ f)) xs
    (not-no _ (agrees _ _ e))

pub header-angle : (x : ℕ) (xs : List ℕ) → x ≡ 60
    → longest is_header_name (x ∷ xs) ≡ one_more (longest (is_enclosed 62) xs)
header-angle x xs e =
    let same : (f : List ℕ) → is_header_name (x ∷ f) ≡ is_enclosed 62 f =
    λ f. rw e (or-false (is_enclosed 62 f)) in
    ap (λ t. shift t (longest (λ f. is_header_name (x ∷ f)) xs)) (same [])
    ∙ (ap (shift false) (longest-same (λ f. is_header_name (x ∷ f)) (is_enclosed 62) xs
    (λ y f. same (y ∷ f))) ∙ shift-false _)

pub header-quote : (x : ℕ) (xs : List ℕ) → x ≡ 34
    → longest is_header_name (x ∷ xs) ≡ one_more (longest (is_enclosed 34) xs)
header-quote x xs e =
    let same : (f : List ℕ) → is_header_name (x ∷ f) ≡ is_enclosed 34 f = λ f. rw e refl in
    ap (λ t. shift t (longest (λ f. is_header_name (x ∷ f)) xs)) (same [])
    ∙ (ap (shift false) (longest-same (λ f. is_header_name (x ∷ f)) (is_enclosed 34) xs
    (λ y f. same (y ∷ f))) ∙ shift-false _)

pub header-no : (x : ℕ) (xs : List ℕ) → (x ≡ 60 → ⊥) → (x ≡ 34 → ⊥)
    → longest is_header_name (x ∷ xs) ≡ 0
header-no x xs e f =
    let none : (g : List ℕ) → is_header_name (x ∷ g) ≡ false =
    λ g. rw (differs _ _ e, differs _ _ f) refl in
    ap (λ t. shift t (longest (λ g. is_header_name (x ∷ g)) xs)) (none [])
    ∙ ap (shift false) (longest-none (λ g. is_header_name (x ∷ g)) xs (λ y g. none (y ∷ g)))

-- numbers and wide constants

pub number-dot : (x : ℕ) (xs : List ℕ) → x ≡ 46
    → longest is_number (x ∷ xs) ≡ one_more (longest begins_with_digit xs)
number-dot x xs e = optional-yes 46 begins_with_digit x xs (agrees _ _ e) (λ f. rw e refl) refl

pub number-digits : (x : ℕ) (xs : List ℕ) → (x ≡ 46 → ⊥)
    → longest is_number (x ∷ xs) ≡ longest begins_with_digit (x ∷ xs)
number-digits x xs e = optional-no 46 begins_with_digit x xs (differs _ _ e)

pub wide-yes : (quote : ℕ) (x : ℕ) (xs : List ℕ) → (quote ≡ 76 → ⊥) → x ≡ 76
    → longest (optional 76 (is_quoted quote)) (x ∷ xs) ≡ one_more (longest (is_quoted quote) xs)
wide-yes quote x xs apart e =
    let other : (76 == quote) ≡ false = differs _ _ (λ p. apart (sym p)) in
    optional-yes 76 (is_quoted quote) x xs (agrees _ _ e) (λ f. rw e (rw other refl)) refl

pub wide-no : (quote : ℕ) (x : ℕ) (xs : List ℕ) → (x ≡ 76 → ⊥)
    → longest (optional 76 (is_quoted quote)) (x ∷ xs) ≡ longest (is_quoted quote) (x ∷ xs)
wide-no quote x xs e = optional-no 76 (is_quoted quote) x xs (differs _ _ e)
