use Rattle.std.proofs.Common.{◌≡◌, ◌<◌, ℕ, [], ◌∷◌, ◌++◌, set, get_or, ap, ◌∙◌, arith}
use Rattle.std.proofs.lemmas.Grind.{get_or_default_zero}
use Rattle.hv_cond.specs.working.Places.{bucket, buckets}
use Rattle.hv_cond.proofs.Chains.{IsPlaced-enter}
use Rattle.hv_cond.proofs.places.Places.enter.Goals as goal

pub returns-clause-ok : goal.returns-clause-ok
returns-clause-ok c =
    λ ds placed room index.
    let len : c.len.result ≡ buckets c.args.self.now = omega arith in
    let at : c.bucket-at.result ≡ bucket (buckets c.args.self.now) c.args.decision = c.bucket-at.ensures.is ∙ ap (λ (n : ℕ). bucket n c.args.decision) len in
    let below : c.bucket-at.result < buckets c.args.self.now = (let b = c.bucket-at.ensures.below in omega arith) in
    IsPlaced-enter c.args.self.now _ c.args.decision ds c.args.index placed room index
    (ap (λ (b : ℕ). set c.args.self.now.heads.items b c.args.index) at)
    (omega arith)
    (c.in_ok-push.ensures.items ∙ ap (λ (x : ℕ). c.args.self.now.before.items ++ x ∷ [])
    (c.index.ensures ∙ get_or_default_zero c.args.self.now.heads.items c.bucket-at.result c.index.result.now below
    ∙ ap (λ (b : ℕ). get_or c.args.self.now.heads.items b 0) at))
