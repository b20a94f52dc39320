use Rattle.std.proofs.Common.{◌++◌, ◌∷◌, [], ℕ, List, ap, sym, ◌∙◌, length-append, arith}
use Rattle.hv_expand.specs.declared.outcome.Outcome.{Outcome}
use Rattle.hv_expand.specs.working.Numbers.{numbered, outcome_of}
use Rattle.hv_expand.proofs.Numbering.{numbered_append}
use Rattle.hv_expand.proofs.expand.number.Goals as goal

pub loop-class-preserved : goal.loop-class-preserved
loop-class-preserved c =
    let i = c.loop-class.invariant in
    let more = length-append c.loop-class.yielded (c.in-Some.class ∷ []) in
    record {
      can_next = tt;
      is_finite = tt;
      numbered = c.in_ok-add.ensures.ok
          ∙ ap (λ (os : List Outcome). os ++ outcome_of c.loop-class.face c.in-Some.class ∷ [])
          i.numbered
          ∙ ap (λ (n : ℕ). numbered 0 c.loop-class.yielded ++ outcome_of n c.in-Some.class ∷ [])
          (omega (arith, i.count))
          ∙ sym (numbered_append 0 c.loop-class.yielded c.in-Some.class);
      count = omega (arith, i.count, more);
    }
