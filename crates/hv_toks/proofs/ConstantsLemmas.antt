-- Numbers that are read digit by digit.
use Rattle.std.proofs.Common.{◌≡◌, ℕ, zero, suc, ◌+◌, ◌*◌, ◌^◌, ◌<◌, ◌≤◌, ◌&&◌, Bool, true, false, cond, List, [], ◌∷◌, refl, sym, ◌∙◌, ap, drop, length, get_or, drop-cons, add-one, Option, Some, None, arith}
use Rattle.std.specs.Prelude.{option_and_then, nat_lt, ◌==◌}
use Rattle.hv_toks.specs.Constants.{continued, digit, number}

cond_and_then : (b : Bool) (n base : ℕ) (rest : List ℕ)
    → cond b (continued base n rest) None
    ≡ option_and_then (λ m. continued base m rest) (cond b (Some n) None)
cond_and_then true n base rest = refl
cond_and_then false n base rest = refl

pub continued_step : (base n byte : ℕ) (rest : List ℕ)
    → continued base n (byte ∷ rest)
    ≡ option_and_then (λ m. continued base m rest) (continued base n (byte ∷ []))
continued_step base n byte rest =
    cond_and_then (nat_lt (digit byte) base && nat_lt (n * base + digit byte) (2 ^ 64))
    (n * base + digit byte) base rest

pub continued_at : (base n i : ℕ) (digits : List ℕ) → i < length digits
    → continued base n (drop i digits)
    ≡ option_and_then (λ m. continued base m (drop (i + 1) digits))
    (continued base n (get_or digits i 0 ∷ []))
continued_at base n i digits h =
    rw (add-one, drop-cons digits i 0)
    (continued_step base n (get_or digits i 0) (drop (suc i) digits))

-- a further digit was read
pub continued_more : (base n m i byte : ℕ) (digits : List ℕ) (all : Option ℕ) → i < length digits
    → byte ≡ get_or digits i 0 → continued base n (drop i digits) ≡ all
    → Some m ≡ continued base n (byte ∷ []) → continued base m (drop (i + 1) digits) ≡ all
continued_more base n m i byte digits all h e was one =
    ap (option_and_then (λ k. continued base k (drop (i + 1) digits)))
    (one ∙ ap (λ b. continued base n (b ∷ [])) e) ∙ (sym (continued_at base n i digits h) ∙ was)

-- there is no further digit
pub continued_none : (base n i byte : ℕ) (digits : List ℕ) (all : Option ℕ) → i < length digits
    → byte ≡ get_or digits i 0 → continued base n (drop i digits) ≡ all
    → None ≡ continued base n (byte ∷ []) → None ≡ all
continued_none base n i byte digits all h e was one =
    ap (option_and_then (λ k. continued base k (drop (i + 1) digits)))
    (one ∙ ap (λ b. continued base n (b ∷ [])) e) ∙ (sym (continued_at base n i digits h) ∙ was)

pub number_nonempty : (base : ℕ) (digits : List ℕ) → 0 < length digits
    → number base digits ≡ continued base 0 digits
number_nonempty base [] h = absurd (omega arith)
number_nonempty base (byte ∷ digits) h = refl

pub drop_at_end : {A : Type 0} (i : ℕ) (xs : List A) → length xs ≤ i → drop i xs ≡ []
drop_at_end zero [] h = refl
drop_at_end (suc i) [] h = refl
drop_at_end zero (x ∷ xs) h = absurd (omega arith)
drop_at_end (suc i) (x ∷ xs) h = drop_at_end i xs (omega arith)

-- all digits were read
pub continued_all : (base n i : ℕ) (digits : List ℕ) (all : Option ℕ) → length digits ≤ i
    → continued base n (drop i digits) ≡ all → Some n ≡ all
continued_all base n i digits all h e = sym (ap (continued base n) (drop_at_end i digits h)) ∙ e

pub some_from : (n : ℕ) (r : Bool) → r ≡ (n == 0) → r ≡ false → 0 < n
some_from zero r e f = cc
some_from (suc n) r e f = omega arith
