use Rattle.hv_rescan.proofs.Ends.{unclosed_within}
use Rattle.hv_rescan.proofs.states.unclosed.Goals as goal

pub returns-in-Directive-2 : goal.returns-in-Directive-2
returns-in-Directive-2 c macros run =
    unclosed_within macros run c.args.ends c.args.frames.now c.is_empty.result c.is_empty.ensures
    c.if-is_empty.false
