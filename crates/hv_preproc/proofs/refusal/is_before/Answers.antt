use Rattle.std.proofs.Common.{Bool, subst, sym}
use Rattle.std.specs.Prelude.{Decides}
use Rattle.hv_cond.specs.Diagram.{IsBefore}
use Rattle.hv_preproc.proofs.Leasts.{before_decides}
use Rattle.hv_preproc.proofs.refusal.is_before.Goals as goal

pub returns : goal.returns
returns c =
    subst (λ (b : Bool). Decides b (IsBefore c.args.left.now c.args.right.now)) (sym c.lt.ensures)
    (before_decides c.args.left.now c.args.right.now c.requires)
