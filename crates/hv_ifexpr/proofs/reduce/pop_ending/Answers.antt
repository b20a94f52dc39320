use Rattle.std.proofs.Common.{sym}
use Rattle.hv_ifexpr.proofs.Reducing.{reduce_none, reduce_kept}
use Rattle.hv_ifexpr.proofs.reduce.pop_ending.Goals as goal

pub returns-in_err-frame-clause-none : goal.returns-in_err-frame-clause-none
returns-in_err-frame-clause-none c =
    rw c.from_residual.ensures
    (reduce_none c.args.level c.args.stack.now (sym c.in_err-frame.ensures))

pub returns-then-not-ends-clause-none : goal.returns-then-not-ends-clause-none
returns-then-not-ends-clause-none c =
    reduce_kept c.args.level c.args.stack.now c.in_ok-frame.field-0.now
    (sym c.in_ok-frame.ensures) (sym c.if-not-ends.ensures)
