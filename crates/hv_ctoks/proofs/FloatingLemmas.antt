-- A floating constant is read from the left.
use Rattle.std.proofs.Common.{◌≡◌, ℕ, ◌+◌, ◌&&◌, ◌||◌, Bool, true, false, cond, List, [], ◌∷◌, refl, sym, ◌∙◌, ap, drop, arith}
use Rattle.std.specs.Prelude.{nat_lt}
use Rattle.std.specs.List.{prefix_len}
use Rattle.std.proofs.lemmas.Bool.Decides.{nat_tests}
use Rattle.hv_base.specs.Ascii.{is_digit}
use Rattle.hv_toks.specs.Constants.{is_x}
use Rattle.hv_toks.specs.Lexical.{is_sign}
use Rattle.hv_ctoks.specs.declared.floating.Base.{Base}
use Rattle.hv_ctoks.specs.declared.floating.Base.TheVariants.{Decimal, Hexadecimal}
use Rattle.hv_ctoks.specs.Floating.{sequence, maybe, one, some, is_digit_of, is_point, is_exponent_letter, is_suffix, is_zero, power, signed_power, exponent, ending, is_floating, is_floating_of, is_hexadecimal}
use Rattle.hv_ctoks.specs.working.Scanning.{after, begins, scan_power, scan_signed_power, scan_exponent, scan_ending, scan_fraction, scan_rest, scan_floating, scan_x, scan_hexadecimal}
use Rattle.hv_ctoks.proofs.Sequences.{Refuses, sequence-one, sequence-maybe_one, sequence-some, sequence-maybe_some}

or_none : (b : Bool) → (b || false) ≡ b
or_none true = refl
or_none false = refl

and_none : (b : Bool) → (b && false) ≡ false
and_none true = refl
and_none false = refl

------ exponents

suffix-refuses : Refuses is_digit (maybe (one is_suffix))
suffix-refuses x xs e = let no : is_suffix x ≡ false = grind (arith, nat_tests) in rw no refl

power-is : (text : List ℕ) → power text ≡ scan_power text
power-is text = sequence-some is_digit (maybe (one is_suffix)) suffix-refuses text

sign_no_digit : (x : ℕ) → is_sign x ≡ true → is_digit x ≡ false
sign_no_digit x e = grind (arith, nat_tests)

power-no_digit : (x : ℕ) (xs : List ℕ) → is_digit x ≡ false → power (x ∷ xs) ≡ false
power-no_digit x xs e = power-is (x ∷ xs) ∙ rw e refl

signed_power-is : (text : List ℕ) → signed_power text ≡ scan_signed_power text
signed_power-is [] = refl
signed_power-is (x ∷ xs) =
    sequence-maybe_one is_sign power x xs
    ∙ elim (is_sign x) as (λ b. is_sign x ≡ b → (power (x ∷ xs) || (b && power xs))
    ≡ cond b (scan_power xs) (scan_power (x ∷ xs))) [
      | true ↦ λ e. rw (power-no_digit x xs (sign_no_digit x e)) (power-is xs)
      | false ↦ λ e. or_none (power (x ∷ xs)) ∙ power-is (x ∷ xs)
    ] refl

exponent-is : (base : Base) (text : List ℕ) → exponent base text ≡ scan_exponent base text
exponent-is base [] = refl
exponent-is base (x ∷ xs) =
    sequence-one (is_exponent_letter base) signed_power x xs
    ∙ ap (λ b. is_exponent_letter base x && b) (signed_power-is xs)

no_letter : (base : Base) (x : ℕ) → is_digit_of base x ≡ true → is_exponent_letter base x ≡ false
no_letter Decimal x e = grind (arith, nat_tests)
no_letter Hexadecimal x e = grind (arith, nat_tests)

exponent-refuses : (base : Base) → Refuses (is_digit_of base) (exponent base)
exponent-refuses base x xs e = exponent-is base (x ∷ xs) ∙ rw (no_letter base x e) refl

------ fractions

ending-is : (base : Base) (text : List ℕ) → ending base text ≡ scan_ending base text
ending-is Decimal text = ap (λ b. maybe (one is_suffix) text || b) (exponent-is Decimal text)
ending-is Hexadecimal text = exponent-is Hexadecimal text

ending-refuses : (base : Base) → Refuses (is_digit_of base) (ending base)
ending-refuses Decimal x xs e =
    let plain : maybe (one is_suffix) (x ∷ xs) ≡ false = suffix-refuses x xs e in
    ap (λ b. b || exponent Decimal (x ∷ xs)) plain ∙ exponent-refuses Decimal x xs e
ending-refuses Hexadecimal x xs e = exponent-refuses Hexadecimal x xs e

-- digits only before the point, or digits behind it
fraction-none : (base : Base) (before : Bool) (text : List ℕ) (b : Bool)
    → begins (is_digit_of base) text ≡ b → (b ≡ false → after (is_digit_of base) text ≡ text)
    → (b ≡ true → ending base text ≡ false)
    → ((b && ending base (after (is_digit_of base) text)) || (before && ending base text))
    ≡ ((before || b) && ending base (after (is_digit_of base) text))
fraction-none base true text true e same none = rw (none refl) (or_none _)
fraction-none base true text false e same none = rw (same refl) refl
fraction-none base false text true e same none = or_none _
fraction-none base false text false e same none = refl

after-none : (d : ℕ → Bool) (text : List ℕ) → begins d text ≡ false → after d text ≡ text
after-none d [] e = refl
after-none d (x ∷ xs) e =
    elim (d x) as (λ b. nat_lt 0 (cond b (1 + prefix_len d xs) 0) ≡ false
    → drop (cond b (1 + prefix_len d xs) 0) (x ∷ xs) ≡ x ∷ xs) [
      | true ↦ λ f. absurd (grind (arith, nat_tests))
      | false ↦ λ f. refl
    ] e

begins-first : (d : ℕ → Bool) (q : List ℕ → Bool) (text : List ℕ) → Refuses d q
    → begins d text ≡ true → q text ≡ false
begins-first d q [] h e = absurd (cc)
begins-first d q (x ∷ xs) h e =
    elim (d x) as (λ b. d x ≡ b → nat_lt 0 (cond b (1 + prefix_len d xs) 0) ≡ true
    → q (x ∷ xs) ≡ false) [
      | true ↦ λ f g. h x xs f
      | false ↦ λ f g. absurd (cc)
    ] refl e

fraction-is : (base : Base) (before : Bool) (text : List ℕ)
    → (sequence (some (is_digit_of base)) (ending base) text || (before && ending base text))
    ≡ scan_fraction base before text
fraction-is base before text =
    let d : ℕ → Bool = is_digit_of base in
    ap (λ b. b || (before && ending base text))
    (sequence-some d (ending base) (ending-refuses base) text)
    ∙ (fraction-none base before text (begins d text) refl (after-none d text)
    (begins-first d (ending base) text (ending-refuses base))
    ∙ ap (λ b. (before || begins d text) && b) (ending-is base (after d text)))

------ floating constants

no_point : (base : Base) (x : ℕ) → is_digit_of base x ≡ true → is_point x ≡ false
no_point Decimal x e = grind (arith, nat_tests)
no_point Hexadecimal x e = grind (arith, nat_tests)

point-refuses : (base : Base) (q : List ℕ → Bool)
    → Refuses (is_digit_of base) (sequence (one is_point) q)
point-refuses base q x xs e = sequence-one is_point q x xs ∙ rw (no_point base x e) refl

point_no_letter : (base : Base) (x : ℕ) → is_point x ≡ true → is_exponent_letter base x ≡ false
point_no_letter Decimal x e = grind (arith, nat_tests)
point_no_letter Hexadecimal x e = grind (arith, nat_tests)

-- the three forms, after the first digits
abbrev forms : Base → Bool → List ℕ → Bool
forms base before rest =
    sequence (one is_point) (sequence (some (is_digit_of base)) (ending base)) rest
    || (before && sequence (one is_point) (ending base) rest)
    || (before && exponent base rest)

forms-is : (base : Base) (before : Bool) (rest : List ℕ)
    → forms base before rest ≡ scan_rest base before rest
forms-is base true [] = refl
forms-is base false [] = refl
forms-is base before (x ∷ xs) =
    let behind : Bool = sequence (some (is_digit_of base)) (ending base) xs in
    rw (
      sequence-one is_point (sequence (some (is_digit_of base)) (ending base)) x xs,
      sequence-one is_point (ending base) x xs,
      exponent-is base (x ∷ xs),
    ) (elim (is_point x) as (λ b. is_point x ≡ b
    → ((b && behind) || (before && (b && ending base xs))
    || (before && scan_exponent base (x ∷ xs)))
    ≡ cond b (scan_fraction base before xs) (before && scan_exponent base (x ∷ xs))) [
      | true ↦ λ e. rw (point_no_letter base x e, and_none before)
          (or_none _ ∙ fraction-is base before xs)
      | false ↦ λ e. rw (and_none before) refl
    ] refl)

floating_of-is : (base : Base) (text : List ℕ) → is_floating_of base text ≡ scan_floating base text
floating_of-is base text =
    let d : ℕ → Bool = is_digit_of base in
    rw (
      sequence-maybe_some d (sequence (one is_point) (sequence (some d) (ending base)))
          (point-refuses base (sequence (some d) (ending base))) text,
      sequence-some d (sequence (one is_point) (ending base)) (point-refuses base (ending base))
          text,
      sequence-some d (exponent base) (exponent-refuses base) text,
    ) (forms-is base (begins d text) (after d text))

x-is : (text : List ℕ) → sequence (one is_x) (is_floating_of Hexadecimal) text ≡ scan_x text
x-is [] = refl
x-is (x ∷ xs) =
    sequence-one is_x (is_floating_of Hexadecimal) x xs
    ∙ ap (λ b. is_x x && b) (floating_of-is Hexadecimal xs)

hexadecimal-is : (text : List ℕ) → is_hexadecimal text ≡ scan_hexadecimal text
hexadecimal-is [] = refl
hexadecimal-is (x ∷ xs) =
    sequence-one is_zero (sequence (one is_x) (is_floating_of Hexadecimal)) x xs
    ∙ ap (λ b. is_zero x && b) (x-is xs)

-- what the code finds is what there is
floating-is : (text : List ℕ)
    → (scan_floating Decimal text || scan_hexadecimal text)
    ≡ (is_floating_of Decimal text || is_hexadecimal text)
floating-is text = rw (floating_of-is Decimal text, hexadecimal-is text) refl

module _ (text : List ℕ) (decimal : Bool) (is : decimal ≡ scan_floating Decimal text) where
  pub floating-then : decimal ≡ true → decimal ≡ is_floating text
  floating-then e =
      let f : scan_floating Decimal text ≡ true = sym is ∙ e in
      e ∙ (sym (ap (λ b. b || scan_hexadecimal text) f) ∙ floating-is text)

  pub floating-else : (hexadecimal : Bool) → decimal ≡ false → hexadecimal ≡ scan_hexadecimal text
      → hexadecimal ≡ is_floating text
  floating-else hexadecimal e h =
      let f : scan_floating Decimal text ≡ false = sym is ∙ e in
      h ∙ (sym (ap (λ b. b || scan_hexadecimal text) f) ∙ floating-is text)
