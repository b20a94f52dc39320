use Rattle.std.proofs.Common.{◌≡◌, true, false, sym, ◌∙◌, arith, subst}
use Rattle.hv_cond.specs.declared.nodes.Decision.{Decision}
use Rattle.hv_cond.specs.working.Nodes.{newest_first, same_decision}
use Rattle.hv_cond.specs.working.Places.{buckets}
use Rattle.hv_cond.proofs.Chains.{IsSearching, here_is, is_on, next_is, next_smaller, searching, searching-found, searching-on}
use Rattle.hv_cond.proofs.nodes.Nodes.find.Goals as goal

pub loop-index-init : goal.loop-index-init
loop-index-init c =
    let s = c.args.self.now in
    let n = buckets s.places in
    subst (IsSearching n (newest_first s) c.args.decision.now) (sym (c.newest-index.ensures (newest_first s) c.requires.placed)) (searching n (newest_first s) c.args.decision.now)

pub returns-then-eq : goal.returns-then-eq
returns-then-eq c =
    let s = c.args.self.now in
    let n = buckets s.places in
    let l = c.loop-index in
    let on = is_on n (newest_first s) c.args.decision.now l.index l.invariant (omega arith) in
    let here = here_is s.decisions.items n c.args.decision.now l.index c.index.result.now on c.index.ensures in
    sym (searching-found n (newest_first s) c.args.decision.now l.index on
    (subst (λ (x : Decision). same_decision x c.args.decision.now ≡ true) here (sym c.eq.ensures ∙ c.if-eq.true)))

pub loop-index-smaller : goal.loop-index-smaller
loop-index-smaller c =
    let s = c.args.self.now in
    let n = buckets s.places in
    let l = c.loop-index in
    let on = is_on n (newest_first s) c.args.decision.now l.index l.invariant (omega arith) in
    next_smaller s.places (newest_first s) c.args.decision.now l.index c.index-index.result.now c.requires.placed on c.index-index.ensures

pub loop-index-preserved : goal.loop-index-preserved
loop-index-preserved c =
    let s = c.args.self.now in
    let n = buckets s.places in
    let l = c.loop-index in
    let on = is_on n (newest_first s) c.args.decision.now l.index l.invariant (omega arith) in
    let here = here_is s.decisions.items n c.args.decision.now l.index c.index.result.now on c.index.ensures in
    searching-on n (newest_first s) c.args.decision.now l.index c.index-index.result.now on
    (subst (λ (x : Decision). same_decision x c.args.decision.now ≡ false) here (sym c.eq.ensures ∙ c.if-eq.false))
    (next_is s.places (newest_first s) c.args.decision.now l.index c.index-index.result.now c.requires.placed on c.index-index.ensures)
