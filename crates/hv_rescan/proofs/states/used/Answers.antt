use Rattle.std.proofs.Common.{sym, ◌∙◌}
use Rattle.hv_rescan.proofs.Invocations.{object_used}
use Rattle.hv_rescan.proofs.states.used.Goals as goal

pub returns-in_ok-state-in-Object : goal.returns-in_ok-state-in-Object
returns-in_ok-state-in-Object c macros t e f g =
    c.in_ok-state-in-Object.ensures macros c.args.run.now t e f
    ∙ object_used macros c.args.ends t _ _ c.args.body.now _ _ _ c.in-Object.is c.new.ensures.items
    (c.in_ok-copy-in-Object.ensures ∙ sym g)
