-- Texts of two parts: where the first part is made of bytes of one class.
use Rattle.std.proofs.Common.{◌≡◌, ℕ, suc, ◌+◌, ◌&&◌, ◌||◌, Bool, true, false, cond, List, [], ◌∷◌, refl, ◌∙◌, ap, drop, one-add, arith}
use Rattle.std.specs.Prelude.{nat_lt}
use Rattle.std.specs.List.{list_all, prefix_len}
use Rattle.std.proofs.lemmas.Bool.Decides.{nat_tests}
use Rattle.hv_base.specs.Ascii.{is_empty}
use Rattle.hv_base.proofs.Booleans.{or_false}
use Rattle.hv_ctoks.specs.Floating.{sequence, maybe, one, some}
use Rattle.hv_ctoks.specs.working.Scanning.{after, begins}

sequence-none : (q : List ℕ → Bool) (xs : List ℕ) → sequence (λ f. false) q xs ≡ false
sequence-none q [] = refl
sequence-none q (x ∷ xs) = sequence-none q xs

-- a byte that passes a test of its own, and then the rest
sequence-gate : (t : Bool) (p q : List ℕ → Bool) (xs : List ℕ)
    → sequence (λ f. t && p f) q xs ≡ (t && sequence p q xs)
sequence-gate true p q xs = refl
sequence-gate false p q xs = sequence-none q xs

sequence-same : (p r q : List ℕ → Bool) (xs : List ℕ) → ((f : List ℕ) → p f ≡ r f)
    → sequence p q xs ≡ sequence r q xs
sequence-same p r q [] h = rw (h []) refl
sequence-same p r q (x ∷ xs) h =
    rw (h [], sequence-same (λ f. p (x ∷ f)) (λ f. r (x ∷ f)) q xs (λ f. h (x ∷ f))) refl

sequence-empty : (q : List ℕ → Bool) (xs : List ℕ) → sequence is_empty q xs ≡ q xs
sequence-empty q [] = refl
sequence-empty q (x ∷ xs) = rw (sequence-none q xs) (or_false (q (x ∷ xs)))

pub sequence-one : (t : ℕ → Bool) (q : List ℕ → Bool) (x : ℕ) (xs : List ℕ)
    → sequence (one t) q (x ∷ xs) ≡ (t x && q xs)
sequence-one t q x xs =
    sequence-gate (t x) is_empty q xs ∙ ap (λ b. t x && b) (sequence-empty q xs)

pub sequence-maybe_one : (t : ℕ → Bool) (q : List ℕ → Bool) (x : ℕ) (xs : List ℕ)
    → sequence (maybe (one t)) q (x ∷ xs) ≡ (q (x ∷ xs) || (t x && q xs))
sequence-maybe_one t q x xs =
    ap (λ b. q (x ∷ xs) || b) (sequence-gate (t x) is_empty q xs
    ∙ ap (λ b. t x && b) (sequence-empty q xs))

-- no text that the second test passes begins with a byte of the class
abbrev pub Refuses : (ℕ → Bool) → (List ℕ → Bool) → Type 0
Refuses d q = (x : ℕ) (xs : List ℕ) → d x ≡ true → q (x ∷ xs) ≡ false

positive : (n : ℕ) → nat_lt 0 (suc n) ≡ true
positive n = grind (arith, nat_tests)

module _ (d : ℕ → Bool) (q : List ℕ → Bool) (refuses : Refuses d q) where
  sequence-all : (text : List ℕ) → sequence (list_all d) q text ≡ q (after d text)
  sequence-all [] = refl
  sequence-all (x ∷ xs) =
      elim (d x) as (λ b. d x ≡ b
      → (q (x ∷ xs) || sequence (λ f. d x && list_all d f) q xs)
      ≡ q (drop (cond b (1 + prefix_len d xs) 0) (x ∷ xs))) [
        | true ↦ λ e. rw (one-add, refuses x xs e, sequence-gate (d x) (list_all d) q xs, e)
            (sequence-all xs)
        | false ↦ λ e. rw (sequence-gate (d x) (list_all d) q xs, e) (or_false (q (x ∷ xs)))
      ] refl

  pub sequence-some : (text : List ℕ)
      → sequence (some d) q text ≡ (begins d text && q (after d text))
  sequence-some [] = refl
  sequence-some (x ∷ xs) =
      elim (d x) as (λ b. d x ≡ b
      → sequence (λ f. d x && list_all d f) q xs
      ≡ (nat_lt 0 (cond b (1 + prefix_len d xs) 0)
      && q (drop (cond b (1 + prefix_len d xs) 0) (x ∷ xs)))) [
        | true ↦ λ e. rw (
          one-add,
          positive (prefix_len d xs),
          sequence-gate (d x) (list_all d) q xs,
          e,
        ) (sequence-all xs)
        | false ↦ λ e. rw (sequence-gate (d x) (list_all d) q xs, e) refl
      ] refl

  any : (f : List ℕ) → maybe (some d) f ≡ list_all d f
  any [] = refl
  any (x ∷ f) = refl

  pub sequence-maybe_some : (text : List ℕ)
      → sequence (maybe (some d)) q text ≡ q (after d text)
  sequence-maybe_some text =
      sequence-same (maybe (some d)) (list_all d) q text any ∙ sequence-all text
