use Rattle.hv_encode.proofs.LiftingLemmas.{met_is}
use Rattle.hv_encode.proofs.small.lift.is_met.Goals as goal

pub returns-clause-met : goal.returns-clause-met
returns-clause-met c =
    met_is c.args.store.now c.args.valid c.args.cond c.in_ok-meets.field-0
    c.in_ok-meets.ensures.together c.in_ok-meets.ensures.apart
