-- The characters of a literal, one after the other.
use Rattle.std.proofs.Common.{◌≡◌, ℕ, zero, suc, ◌+◌, ◌<◌, List, [], ◌∷◌, ◌++◌, refl, sym, ◌∙◌, ap, length, take, drop, append_assoc, append-nil, one-add, Option, Some, None, arith}
use Rattle.std.specs.Prelude.{option_and_then}
use Rattle.hv_toks.specs.Constants.{before_all, character, characters, more_len}

-- these bytes and others, where the others are there
abbrev pub behind : List ℕ → Option (List ℕ) → Option (List ℕ)
behind bytes more = option_and_then (λ rest. Some (bytes ++ rest)) more

characters-skip : (quote taken : ℕ) (text : List ℕ)
    → characters quote taken text ≡ characters quote 0 (drop taken text)
characters-skip quote zero text = refl
characters-skip quote (suc taken) [] = refl
characters-skip quote (suc taken) (x ∷ xs) = characters-skip quote taken xs

pub characters-first : (quote : ℕ) (text : List ℕ) → 0 < length text
    → characters quote 0 text
    ≡ before_all (character quote (take (1 + more_len text) text))
    (characters quote 0 (drop (1 + more_len text) text))
characters-first quote [] h = absurd (omega arith)
characters-first quote (x ∷ xs) h =
    ap (before_all (character quote (take (1 + more_len (x ∷ xs)) (x ∷ xs))))
    (characters-skip quote (more_len (x ∷ xs)) xs
    ∙ ap (λ (n : ℕ). characters quote 0 (drop n (x ∷ xs))) (sym (one-add (more_len (x ∷ xs)))))

behind-more : (bytes : List ℕ) (byte : ℕ) (rest : Option (List ℕ))
    → behind bytes (before_all (Some byte) rest) ≡ behind (bytes ++ byte ∷ []) rest
behind-more bytes byte None = refl
behind-more bytes byte (Some rest) = ap Some (sym (append_assoc bytes (byte ∷ []) rest))

behind-none : (bytes : List ℕ) (rest : Option (List ℕ)) → behind bytes (before_all None rest) ≡ None
behind-none bytes rest = refl

module _ (quote : ℕ) (bytes text front back : List ℕ) (n : ℕ) (all : Option (List ℕ))
    (some : 0 < length text) (was : behind bytes (characters quote 0 text) ≡ all)
    (len : n ≡ 1 + more_len text) (f : front ≡ take n text) where
  pub characters-more : (byte : ℕ) (now : List ℕ) → back ≡ drop n text
      → Some byte ≡ character quote front → now ≡ bytes ++ byte ∷ []
      → behind now (characters quote 0 back) ≡ all
  characters-more byte now b e add =
      let m : ℕ = 1 + more_len text in
      let here : character quote (take m text) ≡ Some byte =
      sym (e ∙ ap (character quote) (f ∙ ap (λ (k : ℕ). take k text) len)) in
      let there : back ≡ drop m text = b ∙ ap (λ (k : ℕ). drop k text) len in
      rw (add, there) (sym (behind-more bytes byte (characters quote 0 (drop m text)))
      ∙ (sym (ap (λ (o : Option ℕ). behind bytes (before_all o
      (characters quote 0 (drop m text)))) here)
      ∙ (sym (ap (behind bytes) (characters-first quote text some)) ∙ was)))

  pub characters-none : None ≡ character quote front → None ≡ all
  characters-none e =
      let m : ℕ = 1 + more_len text in
      let here : character quote (take m text) ≡ None =
      sym (e ∙ ap (character quote) (f ∙ ap (λ (k : ℕ). take k text) len)) in
      sym (ap (λ (o : Option ℕ). behind bytes (before_all o
      (characters quote 0 (drop m text)))) here)
      ∙ (sym (ap (behind bytes) (characters-first quote text some)) ∙ was)

pub characters-end : (quote : ℕ) (bytes text : List ℕ) (all : Option (List ℕ)) → text ≡ []
    → behind bytes (characters quote 0 text) ≡ all → Some bytes ≡ all
characters-end quote bytes text all e was =
    sym (ap Some (append-nil bytes))
    ∙ (sym (ap (λ t. behind bytes (characters quote 0 t)) e) ∙ was)
