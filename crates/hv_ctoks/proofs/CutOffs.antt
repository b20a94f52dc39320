-- Texts that are written piece by piece, and cut off where memory runs out.
use Rattle.std.proofs.Common.{◌≡◌, ℕ, ◌+◌, ◌<◌, List, [], ◌∷◌, ◌++◌, refl, sym, ◌∙◌, ap, append_assoc, append-nil, length, take, drop, get_or}
use Rattle.std.specs.Prelude.{Result, Ok, Err, OnErr}
use Rattle.std.proofs.lemmas.List.{take_more, take-append-drop}
use Rattle.hv_ctoks.specs.Spelling.{IsCutOff, printed_byte, printed_bytes}

pub on_err : {A B : Type 0} (answer : Result A B) (P : Type 0) → P → OnErr answer P
on_err (Ok value) P h = tt
on_err (Err error) P h = h

pub printed_bytes-append : (quote : ℕ) (a b : List ℕ)
    → printed_bytes quote (a ++ b) ≡ printed_bytes quote a ++ printed_bytes quote b
printed_bytes-append quote [] b = refl
printed_bytes-append quote (x ∷ a) b =
    ap (λ more. printed_byte quote x ++ more) (printed_bytes-append quote a b)
    ∙ sym (append_assoc (printed_byte quote x) (printed_bytes quote a) (printed_bytes quote b))

module _ (quote i : ℕ) (bytes old out : List ℕ)
    (was : out ≡ old ++ printed_bytes quote (take i bytes)) where
  -- a further byte is written
  pub printed-more : (byte : ℕ) (new : List ℕ) → i < length bytes → byte ≡ get_or bytes i 0
      → new ≡ out ++ printed_byte quote byte
      → new ≡ old ++ printed_bytes quote (take (i + 1) bytes)
  printed-more byte new h e add =
      let before : List ℕ = take i bytes in
      let next : printed_bytes quote (take (i + 1) bytes)
      ≡ printed_bytes quote before ++ printed_byte quote byte =
      ap (printed_bytes quote) (take_more bytes i 0 h)
      ∙ (printed_bytes-append quote before (get_or bytes i 0 ∷ [])
      ∙ (ap (λ more. printed_bytes quote before ++ more)
      (append-nil (printed_byte quote (get_or bytes i 0)))
      ∙ ap (λ (x : ℕ). printed_bytes quote before ++ printed_byte quote x) (sym e))) in
      add ∙ (ap (λ t. t ++ printed_byte quote byte) was
      ∙ (append_assoc old (printed_bytes quote before) (printed_byte quote byte)
      ∙ ap (λ t. old ++ t) (sym next)))

  -- it isn't
  pub printed-cut : (new : List ℕ) → new ≡ out → IsCutOff old (printed_bytes quote bytes) new
  printed-cut new e = record {
    part = printed_bytes quote (take i bytes);
    rest = printed_bytes quote (drop i bytes);
    whole = ap (printed_bytes quote) (sym (take-append-drop i bytes))
        ∙ printed_bytes-append quote (take i bytes) (drop i bytes);
    there = e ∙ was;
  }
