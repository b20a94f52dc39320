-- The reader of a byte's numeral reads `decimal n` for n below 256, and nothing else.
use Rattle.std.specs.Option.{IfNone, IfSome}
use Rattle.std.proofs.Common.{◌≡◌, ◌≢◌, Option, None, ℕ, ◌<◌, ◌≤◌, ◌+◌, ◌-◌, ◌*◌, ◌/◌, ◌%◌, ◌&&◌, List, [], ◌∷◌, ◌++◌, refl, sym, ap, ◌∙◌, arith, subst, Some, inl, inr, nat_le, nat_lt}
use Rattle.std.specs.Fmt.{decimal}
use Rattle.std.proofs.lemmas.Fmt.{decimal_digit, decimal_step}
use Rattle.std.proofs.lemmas.Bool.Decides.{nat_tests, leb_tells}
use Rattle.std.proofs.lemmas.Option.{cond_some, none-some}
use Rattle.hv_base.specs.Ascii.{is_digit}
use Rattle.hv_plain.specs.working.SmallReader.{byte_of}

one_digit : (n : ℕ) → n < 10 → byte_of ((48 + n) ∷ []) ≡ Some n
one_digit n h = grind (arith, nat_tests)

two_digits : (m n : ℕ) → 0 < m → m < 10 → n < 10
    → byte_of ((48 + m) ∷ (48 + n) ∷ []) ≡ Some (m * 10 + n)
two_digits m n l h k = grind (arith, nat_tests)

three_digits : (l m n : ℕ) → 0 < l → l < 10 → m < 10 → n < 10 → l * 100 + m * 10 + n < 256
    → byte_of ((48 + l) ∷ (48 + m) ∷ (48 + n) ∷ []) ≡ Some (l * 100 + m * 10 + n)
three_digits l m n g h i j k = grind (arith, nat_tests)

decimal_two : (m n : ℕ) → 0 < m → m < 10 → n < 10 → decimal (m * 10 + n) ≡ (48 + m) ∷ (48 + n) ∷ []
decimal_two m n g h k =
    let step : decimal (m * 10 + n) ≡ decimal ((m * 10 + n) / 10) ++
    ((48 + (m * 10 + n) % 10) ∷ []) = decimal_step (m * 10 + n) (omega arith) (omega arith) in
    let quotient : (m * 10 + n) / 10 ≡ m = omega arith in
    let rest : (m * 10 + n) % 10 ≡ n = omega arith in
    rw (step, quotient, rest, decimal_digit m h) refl

decimal_three : (l m n : ℕ) → 0 < l → l < 10 → m < 10 → n < 10
    → decimal (l * 100 + m * 10 + n) ≡ (48 + l) ∷ (48 + m) ∷ (48 + n) ∷ []
decimal_three l m n g h i k =
    let step : decimal (l * 100 + m * 10 + n) ≡ decimal ((l * 100 + m * 10 + n) / 10) ++
    ((48 + (l * 100 + m * 10 + n) % 10) ∷ []) =
    decimal_step (l * 100 + m * 10 + n) (omega arith) (omega arith) in
    let quotient : (l * 100 + m * 10 + n) / 10 ≡ l * 10 + m = omega arith in
    let rest : (l * 100 + m * 10 + n) % 10 ≡ n = omega arith in
    rw (step, quotient, rest, decimal_two l m g h i) refl

two_back : (m n : ℕ) → 0 < m → m < 10 → n < 10 → byte_of (decimal (m * 10 + n)) ≡ Some (m * 10 + n)
two_back m n g h k = rw (decimal_two m n g h k) (two_digits m n g h k)

three_back : (l m n : ℕ) → 0 < l → l < 10 → m < 10 → n < 10 → l * 100 + m * 10 + n < 256
    → byte_of (decimal (l * 100 + m * 10 + n)) ≡ Some (l * 100 + m * 10 + n)
three_back l m n g h i j k = rw (decimal_three l m n g h i j) (three_digits l m n g h i j k)

-- the numeral of each byte is read
pub byte_of-decimal : (n : ℕ) → n < 256 → byte_of (decimal n) ≡ Some n
byte_of-decimal n h =
    let IsRead : ℕ → Type 0 = λ k. byte_of (decimal k) ≡ Some k in
    elim (leb_tells n 9) [
      | inl few ↦ rw (decimal_digit n (omega arith)) (one_digit n (omega arith))
      | inr more ↦ elim (leb_tells n 99) [
        | inl few ↦ let e : n / 10 * 10 + n % 10 ≡ n = omega arith in
            subst IsRead e (two_back (n / 10) (n % 10) (omega arith) (omega arith) (omega arith))
        | inr many ↦
            let e : n / 100 * 100 + n % 100 / 10 * 10 + n % 10 ≡ n = omega arith in
            subst IsRead e (three_back (n / 100) (n % 100 / 10) (n % 10) (omega arith) (omega arith)
            (omega arith) (omega arith) (omega arith))
      ]
    ]

-- what is read is a numeral of a byte
pub decimal-byte_of : (token : List ℕ) (n : ℕ) → byte_of token ≡ Some n → (n < 256)
    × (token ≡ decimal n)
decimal-byte_of [] n e = absurd (none-some n e)
decimal-byte_of (a ∷ []) n e =
    let p = cond_some (is_digit a) (a - 48) n e in
    let low : 48 ≤ a = grind (arith, nat_tests) in
    let high : a ≤ 57 = grind (arith, nat_tests) in
    let same : a ≡ 48 + n = omega arith in
    (omega arith, ap (λ (x : ℕ). x ∷ []) same ∙ sym (decimal_digit n (omega arith)))
decimal-byte_of (a ∷ b ∷ []) n e =
    let p = cond_some (nat_le 49 a && nat_le a 57 && is_digit b) ((a - 48) * 10 + (b - 48)) n e in
    let low_a : 49 ≤ a = grind (arith, nat_tests) in
    let high_a : a ≤ 57 = grind (arith, nat_tests) in
    let low_b : 48 ≤ b = grind (arith, nat_tests) in
    let high_b : b ≤ 57 = grind (arith, nat_tests) in
    let same_a : 48 + (a - 48) ≡ a = omega arith in
    let same_b : 48 + (b - 48) ≡ b = omega arith in
    let text : decimal n ≡ (48 + (a - 48)) ∷ (48 + (b - 48)) ∷ [] = ap decimal (sym p.1)
    ∙ decimal_two (a - 48) (b - 48) (omega arith) (omega arith) (omega arith) in (
      omega arith,
      sym (text ∙ ap (λ (x : ℕ). x ∷ (48 + (b - 48)) ∷ []) same_a
          ∙ ap (λ (x : ℕ). a ∷ x ∷ []) same_b),
    )
decimal-byte_of (a ∷ b ∷ c ∷ []) n e =
    let p =
    cond_some (nat_le 49 a && nat_le a 57 && is_digit b && is_digit c &&
    nat_lt ((a - 48) * 100 + (b - 48) * 10 + (c - 48)) 256)
    ((a - 48) * 100 + (b - 48) * 10 + (c - 48)) n e in
    let low_a : 49 ≤ a = grind (arith, nat_tests) in
    let high_a : a ≤ 57 = grind (arith, nat_tests) in
    let low_b : 48 ≤ b = grind (arith, nat_tests) in
    let high_b : b ≤ 57 = grind (arith, nat_tests) in
    let low_c : 48 ≤ c = grind (arith, nat_tests) in
    let high_c : c ≤ 57 = grind (arith, nat_tests) in
    let small : (a - 48) * 100 + (b - 48) * 10 + (c - 48) < 256 = grind (arith, nat_tests) in
    let same_a : 48 + (a - 48) ≡ a = omega arith in
    let same_b : 48 + (b - 48) ≡ b = omega arith in
    let same_c : 48 + (c - 48) ≡ c = omega arith in
    let text : decimal n ≡ (48 + (a - 48)) ∷ (48 + (b - 48)) ∷ (48 + (c - 48)) ∷ [] =
    ap decimal (sym p.1) ∙ decimal_three (a - 48) (b - 48) (c - 48) (omega arith) (omega arith)
    (omega arith) (omega arith) in (
      omega arith,
      sym (text ∙ ap (λ (x : ℕ). x ∷ (48 + (b - 48)) ∷ (48 + (c - 48)) ∷ []) same_a
          ∙ ap (λ (x : ℕ). a ∷ x ∷ (48 + (c - 48)) ∷ []) same_b ∙ ap (λ (x : ℕ). a ∷ b ∷ x ∷ []) same_c),
    )
decimal-byte_of (_ ∷ _ ∷ _ ∷ _ ∷ _) n e = absurd (none-some n e)

-- what is read, if anything, in both directions
pub some_read : (token : List ℕ) (o : Option ℕ) → o ≡ byte_of token
    → IfSome o (λ n. (n < 256) × (token ≡ decimal n))
some_read token None e = tt
some_read token (Some n) e = decimal-byte_of token n (sym e)

pub none_read : (token : List ℕ) (o : Option ℕ) → o ≡ byte_of token
    → IfNone o ((n : ℕ) → n < 256 → token ≢ decimal n)
none_read token None e = λ n small is. none-some n (e ∙ ap byte_of is ∙ byte_of-decimal n small)
none_read token (Some n) e = tt
