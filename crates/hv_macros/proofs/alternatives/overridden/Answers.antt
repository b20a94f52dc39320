use Rattle.std.proofs.Common.{◌≡◌, ◌||◌, Bool, true, false, ◌+◌, subst}
use Rattle.hv_toks.specs.Macro.{macro_of}
use Rattle.hv_macros.proofs.AddedLemmas.{node-of}
use Rattle.hv_macros.proofs.OverriddenLemmas.{IsOverriding, added_alternatives, joined_before, joined_here, overridden_alternatives, overriding_start, overriding_step}
use Rattle.hv_macros.proofs.alternatives.overridden.Goals as goal
use Rattle.hv_macros.proofs.alternatives.overridden.Goals.{then-is_joined, else-is_joined}

pub loop-alternative-init : goal.loop-alternative-init
loop-alternative-init c = overriding_start _ _ _ _ _ c.new-kept.ensures

pub changed-requires-clause-own : goal.changed-requires-clause-own
changed-requires-clause-own c =
    c.loop-alternative.invariant.keeps.stays c.alternative-item.result.cond
    (node-of _ c.args.alternatives.now c.loop-alternative.alternative-index c.alternative-item.result
    c.requires.alternatives.nodes c.loop-alternative-test.true c.alternative-item.is)

pub loop-alternative-preserved : goal.loop-alternative-preserved
loop-alternative-preserved c =
    subst (λ (joined : Bool). IsOverriding c.args.store.now c.changed.new.store c.args.cond
    (macro_of c.args.meaning.now) c.args.alternatives.now (c.loop-alternative.alternative-index + 1)
    joined c.add.new.alternatives)
    (elim c.if-is_joined.branch [
      | then-is_joined w ↦ joined_before c.loop-alternative.is_joined c.same-is_same.result
          c.if-is_joined.is_joined w.if-is_joined.true w.is_joined-is
      | else-is_joined w ↦ joined_here c.loop-alternative.is_joined c.same-is_same.result
          c.if-is_joined.is_joined w.if-is_joined.false w.is_joined-is
    ])
    (overriding_step c.args.store.now c.loop-alternative.store c.changed.new.store c.args.cond _
    c.args.alternatives.now c.loop-alternative.alternative-index c.alternative-item.result
    c.loop-alternative.is_joined
    c.same-is_same.result c.in_ok-rest.rest c.loop-alternative.kept c.add.new.alternatives
    c.loop-alternative.invariant c.requires.alternatives c.requires.cond
    (node-of _ c.args.alternatives.now c.loop-alternative.alternative-index c.alternative-item.result
    c.requires.alternatives.nodes c.loop-alternative-test.true c.alternative-item.is)
    c.loop-alternative-test.true c.alternative-item.is c.in_ok-rest.ensures.keeps
    c.same-is_same.ensures.exact c.in_ok-rest.ensures.meaning c.in_ok-add.ensures)

pub returns-then-is_joined-2-clause-alternatives : goal.returns-then-is_joined-2-clause-alternatives
returns-then-is_joined-2-clause-alternatives c =
    overridden_alternatives _ _ _ _ _ _ _ _ c.loop-alternative.invariant c.loop-alternative-test.false
    c.requires.alternatives

pub returns-clause-alternatives : goal.returns-clause-alternatives
returns-clause-alternatives c =
    added_alternatives _ _ _ _ _ _ _ _ _ c.loop-alternative.invariant c.loop-alternative-test.false
    c.if-is_joined-2.false c.requires.alternatives
    (λ none. let h : false ≡ true = c.if-same.ensures.exact.1 none in cc) c.in_ok-add-2.ensures
