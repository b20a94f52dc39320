-- Lists of parameters, walked from the first to the last.
use Rattle.std.proofs.Common.{◌≡◌, min, arith, ◌≤◌, ◌⊎◌, inl, inr, ℕ, suc, ◌+◌, ◌<◌, false, ◌&&◌, List, [], ◌∷◌, length, get_or, drop, drop-cons, add-one, refl, ap, ◌∙◌}
use Rattle.hv_ctree.specs.types.Erasure.{shape_of, parameters_of}
use Rattle.hv_ctree.specs.types.Compatible.{shapes_alike, parameters_alike}
use Rattle.hv_ctree.specs.declared.types.CType.{CType}
use Rattle.hv_base.proofs.Booleans.{and_false}
use Rattle.std.proofs.Math.ListN.{drop_of_length-le}
use Rattle.std.proofs.lemmas.Bool.Decides.{leb_tells}
use Rattle.hv_ctree.specs.types.Plain.{plain, Parameters, no_parameter, parameter}
use Rattle.hv_ctree.specs.types.Composite.{composite_parameters}

------ parameters_alike

pub unequal_alike : (ts us : List CType) → (length ts ≡ length us → ⊥) →
    parameters_alike (parameters_of ts) (parameters_of us) ≡ false
unequal_alike [] [] h = absurd (h refl)
unequal_alike [] (u ∷ us) h = refl
unequal_alike (t ∷ ts) [] h = refl
unequal_alike (t ∷ ts) (u ∷ us) h =
    ap (λ w. shapes_alike (shape_of t.shape) (shape_of u.shape) && w)
    (unequal_alike ts us (λ e. h (ap suc e)))
    ∙ and_false (shapes_alike (shape_of t.shape) (shape_of u.shape))

pub alike_at : (ts us : List CType) (i : ℕ) (d e : CType) → i < length ts → i < length us →
    parameters_alike (parameters_of (drop i ts)) (parameters_of (drop i us))
    ≡ (shapes_alike (shape_of (get_or ts i d).shape) (shape_of (get_or us i e).shape)
    && parameters_alike (parameters_of (drop (i + 1) ts)) (parameters_of (drop (i + 1) us)))
alike_at ts us i d e h k =
    rw (add-one, drop-cons ts i d h, drop-cons us i e k)

------ merged_parameters

merged_none : (ps : Parameters) → no_parameter ≡ composite_parameters ps no_parameter
merged_none no_parameter = refl
merged_none (parameter (plain constant shape) ps) = refl

shorter : (m n i : ℕ) → min m n ≤ i → (m ≤ i) ⊎ (n ≤ i)
shorter m n i h = elim (leb_tells m i) [ inl (is, k) ↦ inl k | inr (isnt, k) ↦ inr (omega arith) ]

nothing_left : (ts us : List CType) (i : ℕ) → (length ts ≤ i) ⊎ (length us ≤ i) →
    no_parameter ≡ composite_parameters (parameters_of (drop i ts)) (parameters_of (drop i us))
nothing_left ts us i (inl h) = rw (drop_of_length-le ts h) refl
nothing_left ts us i (inr h) = rw (drop_of_length-le us h) (merged_none (parameters_of (drop i ts)))

-- past the shorter list nothing is left to merge
pub merged_ends : (ts us : List CType) (i : ℕ) → min (length ts) (length us) ≤ i →
    no_parameter ≡ composite_parameters (parameters_of (drop i ts)) (parameters_of (drop i us))
merged_ends ts us i h = nothing_left ts us i (shorter (length ts) (length us) i h)
