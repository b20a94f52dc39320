-- Frames that end, one at a time.
use Rattle.std.proofs.Common.{◌≡◌, ℕ, true, false, List, [], ◌∷◌, refl, sym, ap, ◌∙◌}
use Rattle.hv_cparse.specs.declared.frame.Frame.{Frame}
use Rattle.hv_cparse.specs.working.Tables.{made, ends, ends_first, reduced, reduce}

-- where the innermost doesn't end, nothing does
pub reduce_kept : (k l : ℕ) (stack : List Frame) → ends_first k stack ≡ false
    → reduced stack l ≡ reduce k stack l
reduce_kept k l [] e = refl
reduce_kept k l (f ∷ stack) e = rw e refl

ended_one : (k l : ℕ) (stack : List Frame) (f : Frame) → ends k f ≡ true
    → reduce k stack (made f) ≡ reduce k (f ∷ stack) l
ended_one k l stack f e = rw e refl

-- where it ends, the others may
pub reduce_ended : (k l : ℕ) (stack rest : List Frame) (f : Frame) → stack ≡ f ∷ rest
    → ends k f ≡ true → reduce k rest (made f) ≡ reduce k stack l
reduce_ended k l stack rest f is e =
    ended_one k l rest f e ∙ sym (ap (λ (x : List Frame). reduce k x l) is)

-- for the loop that ends them
pub ruleset reducing = (reduce_kept, reduce_ended)
