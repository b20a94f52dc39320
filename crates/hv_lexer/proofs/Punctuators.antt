-- The longest punctuator is one of the first three prefixes.
use Rattle.std.proofs.Common.{◌≡◌, ℕ, ◌≤◌, Bool, true, false, List, [], ◌∷◌, cond, refl, sym, ◌∙◌, ap, arith, length, take}
use Rattle.std.specs.Prelude.{nat_le, ◌==◌, ◌&&◌}
use Rattle.std.specs.List.{list_all, list_any}
use Rattle.std.specs.Str.{bytes_eq}
use Rattle.std.proofs.lemmas.Bool.Decides.{nat_tests}
use Rattle.hv_toks.specs.Lexical.{longest, is_punctuator, pairs, triples}
use Rattle.hv_lexer.specs.working.Lengths.{begins_with_punctuator}
use Rattle.hv_lexer.proofs.LongestLemmas.{longest-none, shift, differs}

-- the longest of up to three prefixes, by which of them pass
abbrev pick : Bool → Bool → Bool → ℕ
pick three two one = cond three 3 (cond two 2 (cond one 1 0))

pick-two : (two one : Bool) → shift one (cond two 1 0) ≡ cond two 2 (cond one 1 0)
pick-two true one = refl
pick-two false one = refl

pick-three : (three two one : Bool) → shift one (shift two (cond three 1 0)) ≡ pick three two one
pick-three true two one = refl
pick-three false true one = refl
pick-three false false one = refl

long : (n : ℕ) (xs : List ℕ) → n ≤ length xs → nat_le n (length xs) ≡ true
long n xs h = grind (arith, nat_tests)

begins : (n : ℕ) (xs : List ℕ) → n ≤ length xs
    → begins_with_punctuator n xs ≡ is_punctuator (take n xs)
begins n xs h = rw (long n xs h) refl

pub longest-punctuator : (text : List ℕ)
    → longest is_punctuator text ≡ pick (begins_with_punctuator 3 text) (begins_with_punctuator 2
    text) (begins_with_punctuator 1 text)
longest-punctuator [] = refl
longest-punctuator (a ∷ []) = refl
longest-punctuator (a ∷ b ∷ []) = pick-two (is_punctuator (a ∷ b ∷ [])) (is_punctuator (a ∷ []))
longest-punctuator (a ∷ b ∷ c ∷ []) =
    pick-three (is_punctuator (a ∷ b ∷ c ∷ [])) (is_punctuator (a ∷ b ∷ []))
    (is_punctuator (a ∷ []))
longest-punctuator (a ∷ b ∷ c ∷ d ∷ rest) =
    let none = longest-none (λ f. is_punctuator (a ∷ b ∷ c ∷ f)) (d ∷ rest) (λ x f. refl) in
    let text = a ∷ b ∷ c ∷ d ∷ rest in
    ap (λ n. shift (is_punctuator (a ∷ []))
    (shift (is_punctuator (a ∷ b ∷ [])) (shift (is_punctuator (a ∷ b ∷ c ∷ [])) n))) none
    ∙ (pick-three (is_punctuator (a ∷ b ∷ c ∷ [])) (is_punctuator (a ∷ b ∷ []))
    (is_punctuator (a ∷ []))
    ∙ sym (rw (
      begins 3 text (omega arith),
      begins 2 text (omega arith),
      begins 1 text
          (omega arith),
    ) refl))

pub three-first : (text : List ℕ) → begins_with_punctuator 3 text ≡ true
    → longest is_punctuator text ≡ 3
three-first text e = longest-punctuator text ∙ rw e refl

pub two-first : (text : List ℕ) → begins_with_punctuator 3 text ≡ false
    → begins_with_punctuator 2 text ≡ true → longest is_punctuator text ≡ 2
two-first text e f = longest-punctuator text ∙ rw (e, f) refl

pub one-first : (text : List ℕ) → begins_with_punctuator 3 text ≡ false
    → begins_with_punctuator 2 text ≡ false → begins_with_punctuator 1 text ≡ true
    → longest is_punctuator text ≡ 1
one-first text e f g = longest-punctuator text ∙ rw (e, f, g) refl

none-first : (text : List ℕ) → begins_with_punctuator 3 text ≡ false
    → begins_with_punctuator 2 text ≡ false → begins_with_punctuator 1 text ≡ false
    → longest is_punctuator text ≡ 0
none-first text e f g = longest-punctuator text ∙ rw (e, f, g) refl

-- each punctuator begins with one of one byte

abbrev begins_single : List ℕ → Bool
begins_single [] = false
begins_single (byte ∷ bytes) = is_punctuator (byte ∷ [])

other_byte : (a b : ℕ) → is_punctuator (a ∷ []) ≡ false → is_punctuator (b ∷ []) ≡ true
    → (a == b) ≡ false
other_byte a b e f =
    differs a b (λ same. let g : true ≡ false = sym f
    ∙ (ap (λ x. is_punctuator (x ∷ [])) (sym same) ∙ e) in cc)

both-true : (a b : Bool) → (a && b) ≡ true → (a ≡ true) × (b ≡ true)
both-true true true e = (refl, refl)
both-true true false e = absurd (cc)
both-true false b e = absurd (cc)

none-among : (byte : ℕ) (bytes : List ℕ) (words : List (List ℕ)) → is_punctuator (byte ∷ []) ≡ false
    → list_all begins_single words ≡ true
    → list_any (bytes_eq (byte ∷ bytes)) words ≡ false
none-among byte bytes [] e all = refl
none-among byte bytes ([] ∷ words) e all = absurd (cc)
none-among byte bytes ((b ∷ bs) ∷ words) e all =
    let h = both-true (is_punctuator (b ∷ [])) (list_all begins_single words) all in
    rw (other_byte byte b e h.0) (none-among byte bytes words e h.1)

pub none-begun : (byte : ℕ) (bytes : List ℕ) → is_punctuator (byte ∷ []) ≡ false
    → longest is_punctuator (byte ∷ bytes) ≡ 0
none-begun byte [] e = longest-punctuator (byte ∷ []) ∙ rw e refl
none-begun byte (b ∷ []) e = longest-punctuator (byte ∷ b ∷ [])
    ∙ rw (none-among byte (b ∷ []) pairs e refl, e) refl
none-begun byte (b ∷ c ∷ rest) e =
    let text = byte ∷ b ∷ c ∷ rest in
    let three : begins_with_punctuator 3 text ≡ false = begins 3 text (omega arith)
    ∙ none-among byte (b ∷ c ∷ []) triples e refl in
    let two : begins_with_punctuator 2 text ≡ false = begins 2 text (omega arith)
    ∙ none-among byte (b ∷ []) pairs e refl in
    let one : begins_with_punctuator 1 text ≡ false = begins 1 text (omega arith) ∙ e in
    none-first text three two one

pub single-begun : (byte : ℕ) (bytes : List ℕ) → is_punctuator (byte ∷ []) ≡ true
    → begins_with_punctuator 1 (byte ∷ bytes) ≡ true
single-begun byte bytes e = begins 1 (byte ∷ bytes) (omega arith) ∙ e
