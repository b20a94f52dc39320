use Rattle.std.proofs.Common.{ap, sym, ◌∙◌}
use Rattle.hv_expand.specs.working.Questions.{Seen, same_seen, seen_of}
use Rattle.hv_expand.proofs.Answering.{gathered, gathering_more, gathering_skip, gathering_start, node_of}
use Rattle.hv_expand.proofs.questions.alike.Goals as goal
use Rattle.hv_expand.proofs.questions.alike.Goals.{then-is_same+in_ok-whole, else-is_same}

pub loop-part-init : goal.loop-part-init
loop-part-init c =
    gathering_start _ _ _ _ _ c.falsity-whole.ensures.node c.falsity-whole.ensures.meaning

pub or-requires-clause-second : goal.or-requires-clause-second
or-requires-clause-second c =
    c.loop-part.invariant.keeps.stays c.part-item.result.cond
    (node_of c.args.store.now c.args.parts.now c.loop-part.part-index c.part-item.result c.requires
    c.loop-part-test.true c.part-item.is)

pub loop-part-preserved : goal.loop-part-preserved
loop-part-preserved c =
    let told = ap (λ (x : Seen). same_seen x (seen_of c.args.wanted)) (sym c.see.ensures)
    ∙ sym c.is_same.ensures in
    elim c.if-is_same.branch [
      | then-is_same+in_ok-whole w ↦
          rw (w.store-is, w.whole-is)
          (gathering_more _ _ _ _ _ _ _ c.part-item.result _ _ c.loop-part.invariant c.requires
          c.loop-part-test.true c.part-item.is (told ∙ w.if-is_same.true)
          w.in_ok-whole.ensures.keeps w.in_ok-whole.ensures.node w.in_ok-whole.ensures.meaning)
      | else-is_same w ↦
          rw (w.store-is, w.whole-is)
          (gathering_skip _ _ _ _ _ _ c.part-item.result _ c.loop-part.invariant
          c.loop-part-test.true c.part-item.is (told ∙ w.if-is_same.false))
    ]

pub returns-clause-meaning : goal.returns-clause-meaning
returns-clause-meaning c = gathered _ _ _ _ _ _ _ c.loop-part.invariant c.loop-part-test.false
