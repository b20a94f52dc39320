-- Lists that are made from a function of the index.
use Rattle.std.proofs.Common.{◌≡◌, ℕ, ◌<◌, ◌≢◌, map, length, get_or, replicate, sym, ap, ◌∙◌, arith, zero-add, inl, inr, get_or-set_same, get_or-set_other}
use Rattle.std.specs.List.{range_with_len}
use Rattle.std.specs.Prelude.{slice_set}
use Rattle.std.proofs.lemmas.Bool.{cases_eq}
use Rattle.std.proofs.lemmas.List.{ext_get_or, length-set, get_or-replicate, length-replicate}
use Rattle.std.proofs.lemmas.List.FromFn.{length-map-range_with_len, get_or-map-range_with_len}

-- a change of the function at one index
pub listed-set : {X : Type 0} (f g : ℕ → X) (n k : ℕ) (x : X) → k < n → g k ≡ x → ((j : ℕ) → j ≢ k → g j ≡ f j)
    → map g (range_with_len 0 n) ≡ slice_set (map f (range_with_len 0 n)) k x
listed-set f g n k x lt here there =
    ext_get_or x (map g (range_with_len 0 n)) (slice_set (map f (range_with_len 0 n)) k x)
    (length-map-range_with_len g 0 n
    ∙ sym (length-set (map f (range_with_len 0 n)) k x ∙ length-map-range_with_len f 0 n))
    (λ i h.
    let lti : i < n = omega (arith, length-map-range_with_len g 0 n) in
    let ltk : k < length (map f (range_with_len 0 n)) = omega (arith, length-map-range_with_len f 0 n) in
    let at_i : get_or (map g (range_with_len 0 n)) i x ≡ g i = get_or-map-range_with_len g 0 n i i x lti (zero-add i) in
    elim (cases_eq i k) [
      | inl e ↦ at_i ∙ ap g e ∙ here ∙ sym (ap (λ j. get_or (slice_set (map f (range_with_len 0 n)) k x) j x) e ∙ get_or-set_same (map f (range_with_len 0 n)) k x x ltk)
      | inr ne ↦ at_i ∙ there i ne ∙ sym (get_or-set_other (map f (range_with_len 0 n)) k i x x ne ∙ get_or-map-range_with_len f 0 n i i x lti (zero-add i))
    ])

-- one item again and again
pub listed-same : {X : Type 0} (f : ℕ → X) (n : ℕ) (x : X) → ((j : ℕ) → f j ≡ x) → map f (range_with_len 0 n) ≡ replicate n x
listed-same f n x same =
    ext_get_or x (map f (range_with_len 0 n)) (replicate n x)
    (length-map-range_with_len f 0 n ∙ sym (length-replicate n x))
    (λ i h.
    let lti : i < n = omega (arith, length-map-range_with_len f 0 n) in
    get_or-map-range_with_len f 0 n i i x lti (zero-add i) ∙ same i ∙ sym (get_or-replicate n i x x lti))
