use Rattle.std.proofs.Common.{◌∙◌, arith}
use Rattle.hv_cond.specs.Laws.{Keeps-trans}
use Rattle.hv_variant.proofs.Literals.{literal_before}
use Rattle.hv_variant.proofs.only.only.Goals as goal

pub loop-next-preserved : goal.loop-next-preserved
loop-next-preserved c = record {
  kept = Keeps-trans c.loop-next.invariant.kept
      (Keeps-trans c.literal.ensures.keeps c.in_ok-cond.ensures.keeps);
  node = c.in_ok-cond.ensures.node;
  within = omega (arith, c.loop-next.invariant.within);
  meaning = λ values all.
      c.in_ok-cond.ensures.meaning values
      ∙ literal_before c.args.config.now.on values c.loop-next.next _ _ _
      (omega (arith, c.loop-next-test.true)) c.loop-next.invariant.within all c.is_on.ensures
      (c.in_ok-value.ensures.meaning values)
      (c.literal.ensures.keeps.meaning c.loop-next.cond c.loop-next.invariant.node values
      ∙ c.loop-next.invariant.meaning values all);
}
