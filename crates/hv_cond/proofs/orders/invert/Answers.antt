use Rattle.std.proofs.Common.{◌∙◌, arith}
use Rattle.std.proofs.lemmas.List.{length-set}
use Rattle.hv_cond.proofs.OrderLemmas.{inverse-more}
use Rattle.hv_cond.proofs.orders.invert.Goals as goal

pub loop-position-preserved : goal.loop-position-preserved
loop-position-preserved c =
    let l = c.loop-position in
    record {
      all = length-set _ _ _ ∙ l.invariant.all;
      inverse = inverse-more c.args.vars c.args.variables.now l.positions.items l.position c.requires.all l.invariant.all c.requires.below c.requires.distinct (omega arith) l.invariant.inverse;
    }
