use Rattle.std.proofs.lemmas.Result.{IfOk-weaker}
use Rattle.hv_macros.specs.Table.{meaning_in}
use Rattle.hv_texts.proofs.name.name_truth.Goals as goal

pub returns-in_default-clause-ends : goal.returns-in_default-clause-ends
returns-in_default-clause-ends c =
    IfOk-weaker c.refused_line.result _ _ (λ came h. h _
    (λ values. c.in_default.ensures (meaning_in c.args.store.now c.args.table.now values)
    c.args.hash.now)) c.refused_line.ensures.ends
