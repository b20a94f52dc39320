-- Where what stands open doesn't end, nothing of it is reduced.
use Rattle.std.proofs.Common.{◌≡◌, ℕ, false, List, [], ◌∷◌, refl, ap, ◌∙◌, Some, None}
use Rattle.std.specs.List.{slice_get}
use Rattle.hv_ifexpr.specs.declared.frame.Frame.{Frame}
use Rattle.hv_ifexpr.specs.working.Machine.{ends, reduce, reduced}
use Rattle.hv_plain.specs.declared.controlling.Operand.{Operand}

-- nothing stands open
pub reduce_none : (level : ℕ) (stack : List Frame) → slice_get stack 0 ≡ None
    → (v : Operand) → reduce level stack v ≡ reduced stack v
reduce_none level [] e v = refl
reduce_none level (f ∷ stack) e v = cc

-- the innermost frame doesn't end
pub reduce_kept : (level : ℕ) (stack : List Frame) (frame : Frame) → slice_get stack 0 ≡ Some frame
    → ends level frame ≡ false → (v : Operand) → reduce level stack v ≡ reduced stack v
reduce_kept level [] frame e goes_on v = cc
reduce_kept level (f ∷ stack) frame e goes_on v =
    let same : f ≡ frame = cc in
    let not_ended : ends level f ≡ false = ap (ends level) same ∙ goes_on in
    rw not_ended refl
