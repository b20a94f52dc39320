use Rattle.hv_model.proofs.StepLemmas.{operator-low}
use Rattle.hv_model.proofs.code.Code.operate.Goals as goal

pub emit-requires : goal.emit-requires
emit-requires c =
    operator-low c.args.self.now c.args.step (rw (← c.self.view_is) c.self.invariant) c.requires
